use Rattle.std.proofs.Common.{◌≡◌, ◌≢◌, ◌∙◌, ap, sym, subst, true, List, ℕ, Ok, Err}
use Rattle.std.specs.Prelude.{Result, OnOk, OnErr}
use Rattle.xt_map.specs.declared.contents.MemoryContents.{MemoryContents}
use Rattle.xt_map.specs.Memory.{HasSizes, byte_at, with_byte}
use Rattle.xt_map.specs.Regions.{is_memory, region_of}
use Rattle.xt_search.specs.declared.changes.Change.{Change}
use Rattle.xt_search.specs.Changed.{AreNew, ChangesState, IsLean, IsRising, contents_of, put_in}
use Rattle.xt_search.proofs.Leaning.{contents_sizes, new_put, new_without, put_outside, rising_without, without_contents}
use Rattle.xt_search.proofs.Putting.{rising_put}
use Rattle.xt_search.proofs.Sending.{put_in_contents}
use Rattle.xt_search.proofs.changes.Changes.put_byte.Goals as goal

still_rising : {E : Type 0} (r : Result (Unit {0}) E) (old new : List Change) (x : Change) → OnOk r (new ≡ put_in old x) → OnErr r (new ≡ old) → IsRising old → IsRising new
still_rising (Ok u) old new x ok err r = subst IsRising (sym ok) (rising_put old x r)
still_rising (Err e) old new x ok err r = subst IsRising (sym err) r

one_more : {E : Type 0} (r : Result (Unit {0}) E) (m : MemoryContents) (old new : List Change) (sent : List ℕ) (x : Change) → HasSizes m → OnOk r (new ≡ put_in old x) → IsRising old
    → OnOk r (contents_of m (record { bytes = new; sent = sent }) ≡ with_byte (contents_of m (record { bytes = old; sent = sent })) x.addr x.byte)
one_more (Ok u) m old new sent x h ok r =
    ap (λ (l : List Change). let s : ChangesState = record { bytes = l; sent = sent } in contents_of m s) ok
    ∙ put_in_contents m (record { bytes = old; sent = sent }) x h r
one_more (Err e) m old new sent x h ok r = tt

still_lean : {E : Type 0} (r : Result (Unit {0}) E) (m : MemoryContents) (old new : List Change) (x : Change) → OnOk r (new ≡ put_in old x) → is_memory (region_of x.addr) ≡ true → byte_at m x.addr ≢ x.byte
    → OnOk r (IsRising old × AreNew m old → IsRising new × AreNew m new)
still_lean (Ok u) m old new x ok mem isnt = λ l. (subst IsRising (sym ok) (rising_put old x l.0), subst (AreNew m) (sym ok) (new_put m old x l.1 mem isnt))
still_lean (Err e) m old new x ok mem isnt = tt

pub returns-then-not-is_in_memory-clause-state : goal.returns-then-not-is_in_memory-clause-state
returns-then-not-is_in_memory-clause-state c =
    let m = c.args.opening.now.contents in
    sym (put_outside (contents_of m c.args.self.now) c.args.addr c.args.byte (contents_sizes m c.args.self.now c.requires) (sym c.is_in_memory.ensures ∙ c.if-not-is_in_memory.true))

pub invariant_of-self : goal.invariant_of-self
invariant_of-self c = subst IsRising (sym c.take.ensures) (rising_without c.self.inside.bytes.items c.args.addr c.self.invariant)

pub returns-then-byte-clause-state : goal.returns-then-byte-clause-state
returns-then-byte-clause-state c =
    let m = c.args.opening.now.contents in
    let sent = c.self.inside.sent.items in
    let s : ChangesState = record { bytes = c.self.inside.bytes.items; sent = sent } in
    ap (λ (l : List Change). let t : ChangesState = record { bytes = l; sent = sent } in contents_of m t) c.take.ensures
    ∙ without_contents m s c.args.addr c.args.byte c.requires c.self.invariant (sym c.byte.ensures ∙ c.if-byte.true)
    ∙ ap (λ (t : ChangesState). with_byte (contents_of m t) c.args.addr c.args.byte) c.self.view_is

pub returns-then-byte-clause-lean : goal.returns-then-byte-clause-lean
returns-then-byte-clause-lean c = λ l.
    let m = c.args.opening.now.contents in
    let old : AreNew m c.self.inside.bytes.items = subst (λ (t : ChangesState). AreNew m t.bytes) (sym c.self.view_is) l.1 in (
      subst IsRising (sym c.take.ensures) (rising_without c.self.inside.bytes.items c.args.addr c.self.invariant),
      subst (AreNew m) (sym c.take.ensures) (new_without m c.self.inside.bytes.items c.args.addr old),
    )

pub invariant_of-self-2 : goal.invariant_of-self-2
invariant_of-self-2 c =
    still_rising c.put.result c.self.inside.bytes.items c.put.new.changes.items (record { addr = c.args.addr; byte = c.args.byte }) c.put.ensures.ok c.put.ensures.err c.self.invariant

pub returns-clause-state : goal.returns-clause-state
returns-clause-state c =
    let m = c.args.opening.now.contents in
    let x : Change = record { addr = c.args.addr; byte = c.args.byte } in
    let P : ChangesState → Type 0 = λ s. OnOk c.put.result (contents_of m (record { bytes = c.put.new.changes.items; sent = c.self.inside.sent.items }) ≡ with_byte (contents_of m s) c.args.addr c.args.byte) in
    subst P c.self.view_is (one_more c.put.result m c.self.inside.bytes.items c.put.new.changes.items c.self.inside.sent.items x c.requires c.put.ensures.ok c.self.invariant)

pub returns-clause-lean : goal.returns-clause-lean
returns-clause-lean c =
    let m = c.args.opening.now.contents in
    let x : Change = record { addr = c.args.addr; byte = c.args.byte } in
    let P : ChangesState → Type 0 = λ s. OnOk c.put.result (IsLean m s → IsLean m (record { bytes = c.put.new.changes.items; sent = c.self.inside.sent.items })) in
    subst P c.self.view_is (still_lean c.put.result m c.self.inside.bytes.items c.put.new.changes.items x c.put.ensures.ok (sym c.is_in_memory.ensures ∙ c.if-not-is_in_memory.false) (λ e. c.if-byte.false (c.byte.ensures ∙ e)))
