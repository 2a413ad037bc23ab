use Rattle.std.proofs.Common.{◌≡◌, ℕ, ◌+◌, ◌<◌, false, length, if◌then◌else◌}
use Rattle.xt_search.specs.Ends.{AreSound, IsSettled, unmarked_count}
use Rattle.xt_search.proofs.marks.marks_of.Given as goal

abbrev pub invariant-loop-changed : goal.invariant-loop-changed
invariant-loop-changed g l = record {
  sound : AreSound (g.M.Machine.Leads l.machine) (g.M.Machine.ends l.machine) l.graph l.marks.items;
  settled : l.changed ≡ false → (k : ℕ) → k < length l.graph.kept.items → IsSettled (g.M.Machine.ends l.machine) l.graph l.marks.items k;
}

abbrev pub decreases-loop-changed : goal.decreases-loop-changed
decreases-loop-changed g l = unmarked_count l.marks.items + (if l.changed then 1 else 0)
