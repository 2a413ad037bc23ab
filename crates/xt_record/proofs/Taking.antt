-- The turns of a core up to the access of its next entry.
use Rattle.std.proofs.Common.{◌≡◌, ℕ, ◌+◌, ◌-◌, ◌<◌, ◌≤◌, Bool, true, false, ◌&&◌, eqb, Option, Some, None, List, [], ◌∷◌, ◌++◌, length, replicate, refl, sym, ap, ◌∙◌, subst, arith}
use Rattle.std.proofs.lemmas.Bool.{and_parts, cond-true, cond-false, eqb-true}
use Rattle.std.proofs.lemmas.List.{replicate_more}
use Rattle.std.specs.Prelude.{not}
use Rattle.xt_map.specs.declared.access.Access.{Access}
use Rattle.xt_map.specs.declared.access.Entry.{Entry}
use Rattle.xt_map.specs.declared.access.Kind.{Kind}
use Rattle.xt_map.specs.declared.access.Kind.TheVariants.{Load, Store, Cas}
use Rattle.xt_map.specs.declared.contents.MemoryContents.{MemoryContents}
use Rattle.xt_map.specs.Serving.{memory_past, reply_to}
use Rattle.xt_map.proofs.Sent.{access_sends}
use Rattle.xt_bus.specs.States.{MemoryState, memory_after_access}
use Rattle.xt_trace.specs.Short.{short_advance, short_give}
use Rattle.xt_trace.specs.Worlds.{entry, left_past}
use Rattle.xt_trace.proofs.Ends.{left_at_most}
use Rattle.xt_trace.specs.Schedule.{place_before}
use Rattle.xt_exec.specs.Chips.{processor, turn_asks}
use Rattle.xt_exec.specs.Turn.{turn}
use Rattle.xt_core.specs.Cores.{AwaitsReply, Asks, CoreState, core_after_turn}
use Rattle.xt_record.specs.declared.fault.RecordFault.TheVariants as fault
use Rattle.xt_record.specs.declared.setting.Setting.{Setting}
use Rattle.xt_image.specs.Findings.{fails}
use Rattle.xt_record.specs.Rules.{Finding}
use Rattle.xt_record.specs.TurnRules.{same_access, same_kind}
use Rattle.xt_record.specs.Walking.{Arrives, Comes, IsNext, IsWanted, Took, beside, finding_at, line_at}
use Rattle.xt_record.proofs.Turns.{advance_append, call_turn}

-- ---- accesses that are the same

same_kinds : (a b : Kind) → same_kind a b ≡ true → a ≡ b
same_kinds Load Load e = refl
same_kinds Load (Store w) e = absurd cc
same_kinds Load (Cas f m) e = absurd cc
same_kinds (Store v) Load e = absurd cc
same_kinds (Store v) (Store w) e = ap Store (eqb-true v w e)
same_kinds (Store v) (Cas f m) e = absurd cc
same_kinds (Cas x n) Load e = absurd cc
same_kinds (Cas x n) (Store w) e = absurd cc
same_kinds (Cas x n) (Cas f m) e =
    let p = and_parts (eqb x f) (eqb n m) e in
    ap (λ (k : ℕ). Cas k n) (eqb-true x f p.0) ∙ ap (Cas f) (eqb-true n m p.1)

pub same_accesses : (a b : Access) → same_access a b ≡ true → a ≡ b
same_accesses a b e =
    let p = and_parts (eqb a.addr b.addr) (eqb a.size b.size && same_kind a.kind b.kind) e in
    let q = and_parts (eqb a.size b.size) (same_kind a.kind b.kind) p.1 in
    let made : ℕ → ℕ → Kind → Access = λ addr size kind. record { addr = addr; size = size; kind = kind } in
    ap (λ (n : ℕ). made n a.size a.kind) (eqb-true a.addr b.addr p.0)
    ∙ ap (λ (n : ℕ). made b.addr n a.kind) (eqb-true a.size b.size q.0)
    ∙ ap (made b.addr b.size) (same_kinds a.kind b.kind q.1)

-- ---- what an entry shows

wanted : (code : ℕ → ℕ) (next : Option Access) (free after : CoreState) → IsNext code next free after → IsWanted code next free
wanted code None free after h = h.0
wanted code (Some a) free after h = (h.left, h.asks)

pub count_after : (code : ℕ → ℕ) (next : Option Access) (free after : CoreState) → IsNext code next free after → after.count ≡ free.count
count_after code None free after h = ap (λ (k : CoreState). k.count) h.1
count_after code (Some a) free after h = ap (λ (k : CoreState). k.count) h.same

pub comes : (code : ℕ → ℕ) (number : ℕ) (before other after : CoreState) (m : MemoryContents) (index : ℕ) (next : Option Access) (old new : List (List ℕ)) (e : Entry) (finding : Finding)
    → (h : Arrives code number before other after m index next old new) → finding ≡ finding_at next number index h.free.count e m
    → Comes code number before other m index e h.turns finding
comes code number before other after m index next old new e finding h is = record {
  free = h.free;
  next = next;
  wanted = wanted code next h.free after h.next_is;
  count_is = h.went.count_is;
  leads = h.went.leads;
  finding_is = is;
}

-- the core has ended, or asks for another access
pub comes_otherwise : (code : ℕ → ℕ) (number : ℕ) (before other after : CoreState) (m : MemoryContents) (index : ℕ) (a : Access) (old new : List (List ℕ)) (e : Entry)
    → (h : Arrives code number before other after m index (Some a) old new) → same_access a e.access ≡ false
    → Comes code number before other m index e h.turns (Some (fault.Turn number after.count))
comes_otherwise code number before other after m index a old new e h differs =
    comes code number before other after m index (Some a) old new e (Some (fault.Turn number after.count)) h
    (ap (λ (n : ℕ). Some (fault.Turn number n)) (count_after code (Some a) h.free after h.next_is)
    ∙ sym (cond-false _ _ _ differs))

pub comes_ended : (code : ℕ → ℕ) (number : ℕ) (before other after : CoreState) (m : MemoryContents) (index : ℕ) (old new : List (List ℕ)) (e : Entry)
    → (h : Arrives code number before other after m index None old new)
    → Comes code number before other m index e h.turns (Some (fault.Turn number after.count))
comes_ended code number before other after m index old new e h =
    comes code number before other after m index None old new e (Some (fault.Turn number after.count)) h
    (ap (λ (n : ℕ). Some (fault.Turn number n)) (count_after code None h.free after h.next_is))

judged : (e : Entry) (number index count right : ℕ) (m : MemoryContents) (a : Access) (b : Bool) → same_access a e.access ≡ true → right ≡ reply_to m a → eqb e.reply right ≡ b
    → finding_at (Some a) number index count e m ≡ fails (not b) (fault.Illegal index e.reply right)
judged e number index count right m a b same is test =
    let answer : reply_to m e.access ≡ right = ap (reply_to m) (sym (same_accesses a e.access same)) ∙ sym is in
    cond-true _ _ _ same
    ∙ ap (λ (n : ℕ). fails (not (eqb e.reply n)) (fault.Illegal index e.reply n)) answer
    ∙ ap (λ (t : Bool). fails (not t) (fault.Illegal index e.reply right)) test

pub comes_wrong : (code : ℕ → ℕ) (number : ℕ) (before other after : CoreState) (m : MemoryContents) (index : ℕ) (a : Access) (right : ℕ) (old new : List (List ℕ)) (e : Entry)
    → (h : Arrives code number before other after m index (Some a) old new) → same_access a e.access ≡ true → right ≡ reply_to m a → eqb e.reply right ≡ false
    → Comes code number before other m index e h.turns (Some (fault.Illegal index e.reply right))
comes_wrong code number before other after m index a right old new e h same is test =
    comes code number before other after m index (Some a) old new e (Some (fault.Illegal index e.reply right)) h
    (sym (judged e number index h.free.count right m a false same is test))

entry_is : (e : Entry) (number : ℕ) (a : Access) (right : ℕ) → e.core ≡ number → a ≡ e.access → e.reply ≡ right → e ≡ entry number a right
entry_is e number a right core same reply =
    ap (λ (c : ℕ). entry c e.access e.reply) core ∙ ap (λ (x : Access). entry number x e.reply) (sym same) ∙ ap (entry number a) reply

-- the access is the entry's, and so is the reply
pub took : (c : ℕ → ℕ) (number : ℕ) (before other waits after : CoreState) (old mid new : Setting) (index : ℕ) (e : Entry) (a : Access) (right : ℕ)
    → number < 2 → e.core ≡ number
    → Arrives c number before other waits old.memory.contents index (Some a) old.points.items mid.points.items
    → mid.memory ≡ old.memory → mid.code ≡ old.code → same_access a e.access ≡ true → right ≡ reply_to mid.memory.contents a → eqb e.reply right ≡ true
    → ((code : ℕ → ℕ) → AwaitsReply code waits → after ≡ core_after_turn code right waits)
    → new.memory ≡ memory_after_access mid.memory a → new.code ≡ mid.code → new.points.items ≡ mid.points.items
    → Took c number before other after old new index e
took c number before other waits after old mid new index e a right lt core h memory code same is test ends served_is code_is points_is =
    let P = processor c in
    let m = old.memory.contents in
    let turns = h.turns in
    let free = h.free in
    let asks : Asks c free waits a = h.next_is in
    let right_is : right ≡ reply_to m a = is ∙ ap (λ (x : MemoryState). reply_to x.contents a) memory in
    let whole : e ≡ entry number a (reply_to m a) =
    entry_is e number a (reply_to m a) core (same_accesses a e.access same) (eqb-true e.reply right test ∙ right_is) in
    let after_is : after ≡ core_after_turn c (reply_to m a) free =
    ends c asks.awaits ∙ ap (core_after_turn c right) asks.same ∙ ap (λ (r : ℕ). core_after_turn c r free) right_is in
    let past : new.memory ≡ memory_after_access old.memory a = served_is ∙ ap (λ (x : MemoryState). memory_after_access x a) memory in
    let contents : new.memory.contents ≡ memory_past m a = ap (λ (x : MemoryState). x.contents) past in
    let room : new.memory.room ≡ old.memory.room = ap (λ (x : MemoryState). x.room) past in
    let made = (turn c free.state (reply_to m a)).0 in
    let left : after.left ≡ left_past made (free.left - 1) = ap (λ (k : CoreState). k.left) after_is in
    let fewer : left_past made (free.left - 1) ≤ free.left - 1 = left_at_most made (free.left - 1) (free.left - 1) (omega arith) in
    let count : after.count ≡ free.count + 1 = ap (λ (k : CoreState). k.count) after_is in
    let sent : length new.memory.contents.sent ≤ length m.sent + 1 =
    subst (λ (x : MemoryContents). length x.sent ≤ length m.sent + 1) (sym contents) (access_sends m a) in
    record {
      turns = turns;
      comes = comes c number before other waits m index (Some a) old.points.items mid.points.items e None h
          (sym (judged e number index free.count right m a true same right_is test));
      leads = λ hs.
          ap (λ (k : CoreState). beside number k other (line_at new.memory.contents (hs ++ e ∷ []))) after_is
          ∙ ap (λ (x : MemoryContents). beside number (core_after_turn c (reply_to m a) free) other (line_at x (hs ++ e ∷ []))) contents
          ∙ ap (λ (x : Entry). beside number (core_after_turn c (reply_to m a) free) other (line_at (memory_past m a) (hs ++ x ∷ []))) whole
          ∙ call_turn c number free other m hs a lt asks.left asks.asks
          ∙ ap (short_give P number) (h.went.leads (line_at m hs))
          ∙ sym (advance_append P (replicate turns number) (number ∷ []) (beside number before other (line_at m hs)))
          ∙ ap (λ (l : List ℕ). short_advance P l (beside number before other (line_at m hs))) (replicate_more turns number);
      free_is = ap (λ (k : CoreState). k.waiting) after_is;
      core_is = ap (λ (k : CoreState). k.core) after_is ∙ h.went.core_is;
      count_is = omega (arith, count, h.went.count_is);
      places_is = ap (λ (k : CoreState). k.places) after_is
          ∙ ap (λ (d : Option Access). free.places ++ place_before d free.count []) (turn_asks c free.state (reply_to m a) ∙ asks.asks)
          ∙ ap (λ (l : List ℕ). l ++ free.count ∷ []) h.went.places_is
          ∙ ap (λ (n : ℕ). before.places ++ n ∷ []) h.went.count_is;
      left_is = omega (arith, left, fewer, h.went.left_is, asks.left);
      room_is = λ g. omega (arith, g, sent, room, left, fewer, h.went.left_is, asks.left);
      code_is = code_is ∙ code;
      adds = λ hs list w size world counted is. points_is ∙ h.adds hs list w size world counted is;
    }
