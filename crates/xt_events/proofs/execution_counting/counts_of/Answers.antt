use Rattle.std.proofs.Common.{◌≡◌, ℕ, None, length, ap}
use Rattle.std.specs.Ordering.{nat_cmp}
use Rattle.std.specs.Map.{lookup}
use Rattle.std.specs.BTreeMap.{get, is_at}
use Rattle.xt_map.specs.Memory.{constant_byte}
use Rattle.xt_events.specs.declared.turn.Turn.{Turn}
use Rattle.xt_events.proofs.Folded.{closing, fewer_on, onward, opening, shorter_first, small_first, small_on}
use Rattle.xt_events.proofs.execution_counting.counts_of.Goals as goal

pub loop-after-init : goal.loop-after-init
loop-after-init g c =
    let code = constant_byte c.args.code.now in
    let xs = g.R.Records.left c.args.records.now in
    let rest = g.R.Records.left c.next.new.self in
    let none : (a : ℕ) → get nat_cmp c.new-counts.result a ≡ None = λ a. ap (lookup (is_at (nat_cmp a))) c.new-counts.ensures.empty in
    record {
      kept = λ a. opening code a (get nat_cmp c.new-counts.result a) xs rest c.in-Some.first c.args.last (none a) c.in-Some.ensures.first c.in-Some.ensures.rest;
      fewer = shorter_first xs rest c.in-Some.first c.in-Some.ensures.first c.in-Some.ensures.rest;
      small = λ a. small_first (get nat_cmp c.new-counts.result a) _ (none a);
    }

pub loop-after-preserved : goal.loop-after-preserved
loop-after-preserved g c =
    let code = constant_byte c.args.code.now in
    let xs = g.R.Records.left c.args.records.now in
    let left = g.R.Records.left c.loop-after.records in
    let rest = g.R.Records.left c.next-in-loop-after.new.self in
    let h = c.loop-after.invariant in
    let here = c.loop-after.here in
    let after = c.in-Some-next.after in
    let t : Turn = record { pc = here.pc; kind = here.kind; next = after.pc } in
    record {
      kept = λ a. onward code a (get nat_cmp c.loop-after.counts a) (get nat_cmp c.note.new.counts a) here after left rest c.args.last _ (h.kept a) c.in-Some-next.ensures.first c.in-Some-next.ensures.rest (c.in_ok-note.ensures a);
      fewer = fewer_on left rest after (length xs) c.in-Some-next.ensures.first c.in-Some-next.ensures.rest h.fewer;
      small = λ a. small_on code a t (get nat_cmp c.loop-after.counts a) (get nat_cmp c.note.new.counts a) left rest after (length xs) c.in-Some-next.ensures.first c.in-Some-next.ensures.rest h.fewer (h.small a) (c.in_ok-note.ensures a);
    }

pub returns : goal.returns
returns g c = λ a.
    closing (constant_byte c.args.code.now) a (get nat_cmp c.loop-after.counts a) (get nat_cmp c.note-2.new.counts a) c.loop-after.here (g.R.Records.left c.loop-after.records) (g.R.Records.left c.args.records.now) c.args.last
    (c.loop-after.invariant.kept a) c.in_default-next.ensures.first (c.in_ok-note-2.ensures a)
