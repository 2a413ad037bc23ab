-- A walk that is kept, from one position to a later one.
use Rattle.std.proofs.Common.{◌≡◌, ◌⊎◌, inl, inr, ℕ, ◌+◌, ◌-◌, ◌<◌, ◌≤◌, Option, Result, Ok, Err, List, length, sym, ap, ◌∙◌, subst, arith}
use Rattle.std.specs.Result.{MatchResult}
use Rattle.xt_trace.specs.declared.run.Run.{Run}
use Rattle.xt_image.specs.declared.image.Image.{Image}
use Rattle.xt_core.specs.Positions.{schedule_in}
use Rattle.xt_command_line.specs.declared.beyond.Beyond.{Beyond}
use Rattle.xt_replay.specs.Shown.{ReplayState, replay_at}
use Rattle.xt_debug.specs.declared.running.Printed.{Printed}
use Rattle.xt_debug.specs.declared.script.Command.{Command}
use Rattle.xt_debug.specs.FrameWalks.{Skips}
use Rattle.xt_debug.specs.Runs.{IsOf, RanScript}

skipped_to : (w s : ReplayState) (n q : ℕ) → w.run ≡ s.run → w.position ≤ s.position → s.position ≤ length (schedule_in s.run) → n ≡ s.position - w.position
    → (q ≡ w.position + n) ⊎ ((length (schedule_in w.run) ≤ q) × (q ≤ w.position + n)) → q ≡ s.position
skipped_to w s n q run before within count (inl is) = omega (arith, is, count, before)
skipped_to w s n q run before within count (inr t) =
    let past = t.0 in
    let most = t.1 in
    let same : length (schedule_in w.run) ≡ length (schedule_in s.run) = ap (λ (r : Run). length (schedule_in r)) run in
    omega (arith, past, most, same, count, before, within)

pub walk_there : (w new s : ReplayState) (n : ℕ) → w.image ≡ s.image → w.run ≡ s.run → w.position ≤ s.position → s.position ≤ length (schedule_in s.run) → n ≡ s.position - w.position
    → Skips n w new → new ≡ s
walk_there w new s n image run before within count t =
    let q = t.0 in
    let there : q ≡ s.position = skipped_to w s n q run before within count t.2 in
    let from : Image → Run → ℕ → ReplayState = λ i r p. record { image = i; run = r; position = p } in
    t.1 ∙ ap (λ (i : Image). from i w.run q) image ∙ ap (λ (r : Run). from s.image r q) run ∙ ap (from s.image s.run) there

-- a walk of the run of a replay is one of it at every position
pub is_of_moved : (o : Option ReplayState) (old new : ReplayState) (q : ℕ) → new ≡ replay_at old q → IsOf o old.image old.run → IsOf o new.image new.run
is_of_moved o old new q there is = let F : ReplayState → Type 0 = λ s. IsOf o s.image s.run in subst F (sym there) is

pub is_of_ran : {E : Type 0} (o : Option ReplayState) (b : Beyond) (cs : List Command) (old new : ReplayState) (r : Result Printed E) → RanScript b cs old r new → IsOf o old.image old.run
    → IsOf o new.image new.run
is_of_ran o b cs old new (Ok printed) ran is = is_of_moved o old new _ ran.1 is
is_of_ran o b cs old new (Err e) ran is = is_of_moved o old new _ ran.1 is

pub is_of_sought : {E : Type 0} (o : Option ReplayState) (p n : ℕ) (old new : ReplayState) (r : Result Unit E) → MatchResult r (λ _. (p ≤ n) × (new ≡ replay_at old p)) (λ _. (n < p) × (new ≡ old))
    → IsOf o old.image old.run → IsOf o new.image new.run
is_of_sought o p n old new (Ok u) t is = is_of_moved o old new p t.1 is
is_of_sought o p n old new (Err e) t is = let F : ReplayState → Type 0 = λ s. IsOf o s.image s.run in subst F (sym t.1) is
