-- Each position of a schedule is a turn, which has a record.
use Rattle.std.proofs.Common.{◌≡◌, ℕ, zero, suc, ◌+◌, ◌<◌, Option, Some, List, [], ◌∷◌, length, get_or, refl, ap, ◌∙◌, arith}
use Rattle.std.specs.Prelude.{slice_get}
use Rattle.std.proofs.lemmas.Option.{slice_get-get_or}
use Rattle.xt_trace.specs.declared.record.StepRecord.{StepRecord}
use Rattle.xt_trace.specs.declared.run.Run.{Run}
use Rattle.xt_image.specs.declared.image.Image.{Image}
use Rattle.xt_core.specs.Positions.{schedule_in}
use Rattle.xt_core.specs.Runs.{IsRunOf, records_of}
use Rattle.xt_replay.specs.Shown.{shown_at, step_in}
use Rattle.xt_replay.proofs.Placing.{counts}
use Rattle.xt_replay.proofs.Standing.{Step, next_step, steps0, steps1}
use Rattle.xt_events.specs.EventLaws.{EachHasTurn, HasTurn}
use Rattle.xt_events.proofs.Following.{other, own}

some_turn : (xs : List StepRecord) (k : ℕ) → k < length xs → (x : StepRecord) × (slice_get xs k ≡ Some x)
some_turn [] k lt = absurd (omega (arith, lt))
some_turn (x ∷ xs) zero lt = (x, refl)
some_turn (x ∷ xs) (suc k) lt = some_turn xs k (omega (arith, lt))

turn_of : (image : Image) (r : Run) (p core : ℕ) → p < length (schedule_in r) → get_or (schedule_in r) p 0 ≡ core
    → step_in core (shown_at image r p) < length (records_of core image r).records → HasTurn image r p
turn_of image r p core lt here more =
    let t = some_turn (records_of core image r).records (step_in core (shown_at image r p)) more in
    record {
      core = core;
      turn = t.0;
      core_is = slice_get-get_or (schedule_in r) p 0 lt ∙ ap (λ (c : ℕ). let x : Option ℕ = Some c in x) here;
      turn_is = t.1;
    }

has_turn : (image : Image) (r : Run) (p : ℕ) → IsRunOf image r → p < length (schedule_in r) → Step image r p → HasTurn image r p
has_turn image r p h lt (steps0 s) =
    let on = (own image r p s).zero_on in
    let most = (counts image r h (p + 1) 0 (omega arith) (omega (arith, lt))).most in
    turn_of image r p 0 lt s.here (omega (arith, on, most, h.trace0.count_is))
has_turn image r p h lt (steps1 s) =
    let on = (other image r p s).one_on in
    let most = (counts image r h (p + 1) 1 (omega arith) (omega (arith, lt))).most in
    turn_of image r p 1 lt s.here (omega (arith, on, most, h.trace1.count_is))

pub each_has_turn : EachHasTurn
each_has_turn image r p h lt = has_turn image r p h lt (next_step image r h p lt)
