-- The judge's view of one core ('profile'): a walk over its records, by the frame states alone.
use Rattle.std.specs.Prelude.{ℕ, Bool, true, false, ◌||◌, if◌then◌else◌, Option, Some, None}
use Rattle.xt_trace.specs.declared.record.RegWrite.{RegWrite}
use Rattle.xt_trace.specs.declared.record.StepRecord.{StepRecord}
use Rattle.xt_map.specs.Fetching.{fetch_at}
use Rattle.xt_frames.specs.declared.kinds.BreachKind.{BreachKind}
use Rattle.xt_frames.specs.Frames.{FrameState}
use Rattle.xt_frames.specs.FrameStep.{FrameTurn, with_inputs}
use Rattle.xt_frames.specs.Nesting.{begins, current, frame_step, is_nesting}
use Rattle.xt_frames.specs.SaveAreas.{is_live}
use Rattle.xt_frames.specs.declared.kinds.HandlerPhase.{HandlerPhase}
use Rattle.xt_frames.specs.declared.kinds.HandlerPhase.TheVariants.{Outside, InHandler, Nested}
use Rattle.xt_frames.specs.HandlerSteps.{is_window, phase_after}
use Rattle.xt_frames.specs.Breaches.{Bounds, inputs_of, breach_of, window_breach, fresh_after}
use Rattle.xt_frames.specs.Breaches.{stale_after}

-- the value of the written register, 0 where none is written
abbrev pub value_in : Option RegWrite → ℕ
value_in None = 0
value_in (Some w) = w.value

-- The frame machine's step on the inputs of a record, which is nested where `nested` says so. In a
-- nested interrupt the value of the record's written register is an input too, and so is the PC of
-- the record that begins one.
abbrev pub step_on : (ℕ → ℕ) → Bool → StepRecord → FrameState → FrameTurn
step_on code nested rec f =
    frame_step code (begins nested rec.kind f) (value_in rec.write) (inputs_of rec) f

abbrev pub place_on : Bool → StepRecord → FrameState → ℕ
place_on nested rec f = if begins nested rec.kind f then rec.pc else (current f).control.pc

-- live bytes of this core, and of the other
abbrev pub live_of : Bounds → FrameState → (ℕ → Bool) → ℕ → Bool
live_of b f others a = is_live b.range f a || others a

-- EPC1 has what was last written, after a judged step
abbrev pub fresh_on : Bool → (ℕ → ℕ) → Bool → StepRecord → FrameState → Bool
fresh_on fresh code nested rec f =
    let u = step_on code nested rec f in
    fresh_after
    fresh
    u.kind
    (fetch_at code (current f).control.pc)
    (with_inputs (inputs_of rec) (current f)).control.ps
    (current u.after).control.ps

-- what the judge knows of one core
pub record Standing : Type 0 where
  pub frame : FrameState
  -- EPC1 has what was last written; after handler steps it has not, since exception mode ended
  -- there
  pub fresh : Bool
  pub phase : HandlerPhase

abbrev pub opening_standing : FrameState → Standing
opening_standing f = record { frame = f; fresh = true; phase = Outside }

-- a record that the judge has seen: a handler step; a judged step, with the stale bytes after it;
-- or the first breach
pub data Seen : Type 0 where
  Handled : Standing → Seen
  Judges : Standing → (ℕ → Bool) → Seen
  Breaks : BreachKind → Seen

-- the record of a window exception begins handler steps
abbrev pub seen_window : Option BreachKind → FrameState → Seen
seen_window None f = Handled (record { frame = f; fresh = false; phase = InHandler })
seen_window (Some kind) f = Breaks kind

-- the record is judged; `others` are the live bytes of the other core
abbrev pub seen_step :
    Option BreachKind → (ℕ → ℕ) → Bounds → Standing → (ℕ → Bool) → (ℕ → Bool) → Bool → StepRecord
    → Seen
seen_step None code b standing others stale nested rec =
    let f = standing.frame in
    let u = step_on code nested rec f in
    Judges
    (record {
      frame = u.after;
      fresh = fresh_on standing.fresh code nested rec f;
      phase = phase_after code standing.phase rec;
    })
    (stale_after (live_of b u.after others) (live_of b f others) stale rec.access)
seen_step (Some kind) code b standing others stale nested rec = Breaks kind

abbrev pub seen_judged :
    (ℕ → ℕ) → Bounds → Standing → (ℕ → Bool) → (ℕ → Bool) → Bool → StepRecord → Seen
seen_judged code b standing others stale nested rec =
    let f = standing.frame in
    seen_step
    (breach_of b standing.fresh code (live_of b f others) stale nested rec f)
    code
    b
    standing
    others
    stale
    nested
    rec

abbrev pub seen_plain :
    (ℕ → ℕ) → Bounds → Standing → (ℕ → Bool) → (ℕ → Bool) → StepRecord → Seen
seen_plain code b standing others stale rec =
    let f = standing.frame in
    if is_window rec.kind
    then seen_window (window_breach code rec.kind (with_inputs (inputs_of rec) (current f))) f
    else seen_judged code b standing others stale false rec

abbrev pub handled_record : (ℕ → ℕ) → Standing → StepRecord → Seen
handled_record code standing rec =
    Handled (record {
      frame = standing.frame;
      fresh = false;
      phase = phase_after code standing.phase rec;
    })

abbrev pub seen_in :
    HandlerPhase → (ℕ → ℕ) → Bounds → Standing → (ℕ → Bool) → (ℕ → Bool) → StepRecord → Seen
seen_in Outside code b standing others stale rec = seen_plain code b standing others stale rec
seen_in InHandler code b standing others stale rec =
    if is_nesting rec.kind then seen_judged code b standing others stale true rec
    else handled_record code standing rec
seen_in Nested code b standing others stale rec = seen_judged code b standing others stale true rec

-- one record of a core
abbrev pub seen_record : (ℕ → ℕ) → Bounds → Standing → (ℕ → Bool) → (ℕ → Bool) → StepRecord → Seen
seen_record code b standing others stale rec =
    seen_in standing.phase code b standing others stale rec
