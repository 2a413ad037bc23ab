use Rattle.std.proofs.Common.{◌≡◌, ℕ, ◌<◌, ◌≤◌, true, false, length}
use Rattle.xt_search.specs.Ends.{AreSound, IsSettled, unmarked_count}
use Rattle.xt_search.proofs.marks.mark_more.Given as goal

-- where no mark was added, what was looked at so far needs none
abbrev pub invariant-loop-at : goal.invariant-loop-at
invariant-loop-at g l = record {
  within : l.at ≤ length l.graph.kept.items;
  sound : AreSound (g.M.Machine.Leads l.machine) (g.M.Machine.ends l.machine) l.graph l.marks;
  more : unmarked_count l.marks ≤ unmarked_count l.fn.marks;
  fewer : l.changed ≡ true → unmarked_count l.marks < unmarked_count l.fn.marks;
  settled : l.changed ≡ false → (k : ℕ) → l.at ≤ k → k < length l.graph.kept.items → IsSettled (g.M.Machine.ends l.machine) l.graph l.marks k;
}

abbrev pub decreases-loop-at : goal.decreases-loop-at
decreases-loop-at g l = l.at
