-- A position that the run has is reached.
use Rattle.std.proofs.Common.{◌≡◌, ℕ, ◌<◌, ◌≤◌, Result, Ok, Err, arith}
use Rattle.std.specs.Result.{MatchResult}
use Rattle.xt_replay.specs.Shown.{ReplayState, replay_at}

pub sought : {E : Type 0} (old new : ReplayState) (p n : ℕ) (r : Result Unit E) → MatchResult r (λ _. (p ≤ n) × (new ≡ replay_at old p)) (λ _. (n < p) × (new ≡ old)) → p ≤ n → new ≡ replay_at old p
sought old new p n (Ok u) h le = h.1
sought old new p n (Err e) h le = let beyond : n < p = h.0 in absurd (omega (arith, beyond, le))
