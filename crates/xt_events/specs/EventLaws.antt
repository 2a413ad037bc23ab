-- States laws that are proved; nothing that a reader must believe.
-- Each position of a run's schedule is a turn of a core, which has a record ('profile').
use Rattle.std.specs.Prelude.{◌≡◌, ℕ, ◌<◌, Some, length, slice_get}
use Rattle.xt_trace.specs.declared.record.StepRecord.{StepRecord}
use Rattle.xt_trace.specs.declared.run.Run.{Run}
use Rattle.xt_image.specs.declared.image.Image.{Image}
use Rattle.xt_core.specs.Positions.{schedule_in}
use Rattle.xt_core.specs.Runs.{IsRunOf, records_of}
use Rattle.xt_replay.specs.Shown.{shown_at, step_in}

-- the schedule names a core, and its trace has the record whose number is that of the core's next
-- step
pub record HasTurn (image : Image) (r : Run) (p : ℕ) : Type 0 where
  pub core : ℕ
  pub turn : StepRecord
  pub core_is : slice_get (schedule_in r) p ≡ Some core
  pub turn_is : slice_get (records_of core image r).records (step_in core (shown_at image r p))
      ≡ Some turn

abbrev pub EachHasTurn : Type 0
EachHasTurn =
    (image : Image) (r : Run) (p : ℕ)
    → IsRunOf image r → p < length (schedule_in r) → HasTurn image r p
