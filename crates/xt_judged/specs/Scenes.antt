-- Carries a proof; nothing that a reader must believe.
-- Two cores, what memory holds, and what the judge knows of them; and a turn of one of them.
use Rattle.std.specs.Prelude.{ℕ, zero, suc, Bool, false, ◌==◌, ◌&&◌, ◌||◌, not, if◌then◌else◌}
use Rattle.std.specs.Prelude.{Option, Some, None, List, [], ◌∷◌, is_some}
use Rattle.xt_trace.specs.declared.record.StepRecord.{StepRecord}
use Rattle.xt_trace.specs.Chip.{Chip}
use Rattle.xt_trace.specs.Worlds.{answer}
use Rattle.xt_exec.specs.State.{State}
use Rattle.xt_frames.specs.declared.kinds.BreachKind.{BreachKind}
use Rattle.xt_frames.specs.Frames.{FrameState}
use Rattle.xt_frames.specs.SaveAreas.{is_live}
use Rattle.xt_frames.specs.Breaches.{Bounds}
use Rattle.xt_frames.specs.Judging.{Standing, Seen, Handled, Judges, Breaks, seen_record}
use Rattle.xt_frames.specs.Judging.{opening_standing}
use Rattle.xt_judged.specs.Alone.{is_other, only_after}
use Rattle.xt_outcomes.specs.Spots.{Spot, side_bars, side_of, spot_past}
use Rattle.xt_judged.specs.Timeless.{frame_uses_time}

-- a breach: its kind, and the core and the address of the turn that shows it
pub record Told : Type 0 where
  pub core : ℕ
  pub pc : ℕ
  pub kind : BreachKind

pub record Scene : Type 0 where
  pub spot : Spot State
  pub standing0 : Standing
  pub standing1 : Standing
  pub stale : ℕ → Bool
  -- the core that has made a turn without an access since its last one with an access
  pub only : Option ℕ
  pub breach : Option Told

-- no turn of the core follows
abbrev pub is_idle : ℕ → Scene → Bool
is_idle c s = is_some s.breach || (is_other c s.only || (side_of c s.spot).left == 0)

-- the record of the core's next turn
abbrev pub record_of : (P : Chip State) → ℕ → Scene → StepRecord
record_of P c s =
    let side = side_of c s.spot in
    (P.turn side.state (answer (P.demand side.state) s.spot.memory)).0

-- what the judge sees in a record of the core
abbrev pub seen_at :
    (code : ℕ → ℕ) → Bounds → Bounds → ℕ → Scene → StepRecord → Seen
seen_at code b0 b1 zero s rec =
    seen_record code b0 s.standing0 (is_live b1.range s.standing1.frame) s.stale rec
seen_at code b0 b1 (suc c) s rec =
    seen_record code b1 s.standing1 (is_live b0.range s.standing0.frame) s.stale rec

abbrev pub with_standing : ℕ → Standing → Scene → Scene
with_standing zero st s = record s { standing0 = st }
with_standing (suc c) st s = record s { standing1 = st }

-- the scene after a turn with this record, in which the judge sees this
abbrev pub passed :
    (P : Chip State) (timed : Bool) → ℕ → Scene → StepRecord → Seen → Scene
passed P timed c s rec (Handled st) =
    record (with_standing c st s) {
      spot = spot_past P timed c s.spot;
      only = only_after c rec.access;
    }
passed P timed c s rec (Judges st stale) =
    record (with_standing c st s) {
      spot = spot_past P timed c s.spot;
      stale = stale;
      only = only_after c rec.access;
    }
passed P timed c s rec (Breaks kind) =
    record s { breach = Some (record { core = c; pc = rec.pc; kind = kind }) }

-- one turn of a core, or nothing where it makes none
abbrev pub scene_past :
    (P : Chip State) (code : ℕ → ℕ) → Bounds → Bounds → (timed : Bool) → ℕ → Scene → Scene
scene_past P code b0 b1 timed c s =
    if is_idle c s then s
    else passed P timed c s (record_of P c s) (seen_at code b0 b1 c s (record_of P c s))

abbrev pub standing_of : ℕ → Scene → Standing
standing_of zero s = s.standing0
standing_of (suc c) s = s.standing1

-- where it is not timed, a turn that follows uses time, or its step of the frame machine does
abbrev pub scene_bars : (code : ℕ → ℕ) (timed : Bool) → ℕ → Scene → Bool
scene_bars code timed c s =
    not (is_idle c s)
    && (side_bars code timed (side_of c s.spot)
    || (not timed && frame_uses_time code (standing_of c s).frame))

abbrev pub scenes_after :
    (P : Chip State) (code : ℕ → ℕ) → Bounds → Bounds → (timed : Bool) → List ℕ → Scene → Scene
scenes_after P code b0 b1 timed [] s = s
scenes_after P code b0 b1 timed (c ∷ cs) s =
    scenes_after P code b0 b1 timed cs (scene_past P code b0 b1 timed c s)

-- as both cores open, with these frame states
abbrev pub opening_scene : FrameState → FrameState → Spot State → Scene
opening_scene f0 f1 spot = record {
  spot = spot;
  standing0 = opening_standing f0;
  standing1 = opening_standing f1;
  stale = λ a. false;
  only = None;
  breach = None;
}
