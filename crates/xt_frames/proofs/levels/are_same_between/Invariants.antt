use Rattle.std.proofs.Common.{◌≡◌, ℕ, ◌≤◌, ◌<◌, true, get_or}
use Rattle.xt_frames.proofs.levels.are_same_between.Given as goal

abbrev pub invariant-loop-n : goal.invariant-loop-n
invariant-loop-n l = l.same ≡ true → (k : ℕ) → l.from ≤ k → k < l.n → get_or l.a.file k 0 ≡ get_or l.b.file k 0
