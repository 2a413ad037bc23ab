-- The turns before the one at hand were counted, and the records after it are left.
use Rattle.std.proofs.Common.{◌≡◌, ◌-◌, ◌<◌, ℕ, None, ◌∷◌, length}
use Rattle.std.specs.Ordering.{nat_cmp}
use Rattle.std.specs.BTreeMap.{get}
use Rattle.xt_map.specs.Memory.{constant_byte}
use Rattle.xt_events.specs.Counts.{turns}
use Rattle.xt_events.specs.CountedTurns.{IsSmall, past}
use Rattle.xt_events.proofs.execution_counting.counts_of.Given as goal

abbrev pub invariant-loop-after : goal.invariant-loop-after
invariant-loop-after g l = record {
  kept : (a : ℕ) → past (constant_byte l.code) a (get nat_cmp l.counts a) (turns (l.here ∷ g.R.Records.left l.records) l.last) ≡ past (constant_byte l.code) a None (turns (g.R.Records.left l.fn.records) l.last);
  fewer : length (g.R.Records.left l.records) < length (g.R.Records.left l.fn.records);
  small : (a : ℕ) → IsSmall (length (g.R.Records.left l.fn.records) - length (g.R.Records.left l.records)) (get nat_cmp l.counts a);
}

abbrev pub decreases-loop-after : goal.decreases-loop-after
decreases-loop-after g l = length (g.R.Records.left l.records)
