-- Carries a proof; nothing that a reader must believe.
-- The history of a run, turn by turn.
use Rattle.std.specs.Prelude.{ℕ, zero, suc, Bool, ◌==◌, ◌||◌, if◌then◌else◌, Option, Some, None}
use Rattle.std.specs.Prelude.{slice_get}
use Rattle.xt_frames.specs.FirstBreach.{Course, Turn, is_judged, phase_before}
use Rattle.xt_frames.specs.SaveAreas.{is_live}
use Rattle.xt_frames.specs.Verdict.{is_nested}
use Rattle.xt_uses.specs.Disciplines.{Discipline}
use Rattle.xt_uses.specs.UseState.{UseState, forgets, one_opens_unknown, opening_use}
use Rattle.xt_uses.specs.UseStep.{UseTurn, use_step}
use Rattle.xt_uses.specs.FirstUse.{History}
use Rattle.xt_uses.specs.UseWalk.{masks_after}

-- the states of the cores and the masks of bytes
pub record Snapshot : Type 0 where
  pub states : ℕ → UseState
  pub mask : ℕ → ℕ

abbrev pub live_in : Course → (ℕ → UseState) → ℕ → Bool
live_in r states a =
    is_live (r.bounds 0).range (states 0).frame a || is_live (r.bounds 1).range (states 1).frame a

-- a step that leaves the cores so forgets the byte
abbrev pub gone_in : (ℕ → UseState) → (ℕ → UseState) → ℕ → Bool
gone_in states after a = forgets (states 0) (after 0) a || forgets (states 1) (after 1) a

abbrev pub lost_in : Course → (ℕ → UseState) → (ℕ → UseState) → ℕ → Bool
lost_in r states after a = live_in r states a || gone_in states after a

abbrev pub opens_unknown_in : Course → (ℕ → UseState) → ℕ → Bool
opens_unknown_in r states a =
    one_opens_unknown (r.bounds 0).range (r.bounds 1).range (states 0) (states 1) a

abbrev pub opening_snapshot : Discipline → Course → Snapshot
opening_snapshot d r =
    let states : ℕ → UseState = λ core. opening_use d (r.opening core) in
    record {
      states = states;
      mask = λ a. if live_in r states a || opens_unknown_in r states a then 0 else 255;
    }

abbrev pub step_in : Course → ℕ → Turn → Snapshot → UseTurn
step_in r p t s =
    use_step r.code (is_nested (phase_before r t.core p)) t.rec s.mask (s.states t.core)

abbrev pub states_past : Course → ℕ → Turn → Snapshot → ℕ → UseState
states_past r p t s core = if t.core == core then (step_in r p t s).after else s.states core

abbrev pub judged_past : Course → ℕ → Turn → Snapshot → Snapshot
judged_past r p t s = record {
  states = states_past r p t s;
  mask =
      masks_after
      (live_in r (states_past r p t s))
      (lost_in r s.states (states_past r p t s))
      (step_in r p t s).stored
      t.rec.access
      s.mask;
}

abbrev pub turn_past : Course → ℕ → Option Turn → Snapshot → Snapshot
turn_past r p None s = s
turn_past r p (Some t) s =
    if is_judged (phase_before r t.core p) t.rec.kind then judged_past r p t s else s

-- before turn p
abbrev pub snapshot : Discipline → Course → ℕ → Snapshot
snapshot d r zero = opening_snapshot d r
snapshot d r (suc p) = turn_past r p (slice_get r.turns p) (snapshot d r p)

abbrev pub history_of : Discipline → Course → History
history_of d r =
    record { state = λ core p. (snapshot d r p).states core; mask = λ p. (snapshot d r p).mask }
