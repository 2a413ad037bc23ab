-- Carries a proof; nothing that a reader must believe.
-- Two cores, each with a judge of its own, which sees the turns of this core alone. It gives up where
-- the core comes to the other core's stack.
use Rattle.std.specs.Prelude.{ℕ, zero, suc, ◌+◌, Bool, true, false, ◌==◌, ◌&&◌, ◌||◌, not, nat_le}
use Rattle.std.specs.Prelude.{nat_lt, if◌then◌else◌, Option, Some, None, List, [], ◌∷◌}
use Rattle.xt_map.specs.declared.access.Access.{Access}
use Rattle.xt_trace.specs.declared.options.Stack.{Stack}
use Rattle.xt_trace.specs.declared.record.StepRecord.{StepRecord}
use Rattle.xt_trace.specs.Chip.{Chip}
use Rattle.xt_trace.specs.Worlds.{answer}
use Rattle.xt_exec.specs.Chips.{processor}
use Rattle.xt_exec.specs.State.{State}
use Rattle.xt_frames.specs.Frames.{FrameState}
use Rattle.xt_frames.specs.SaveAreas.{Area, Range, live_areas}
use Rattle.xt_frames.specs.Breaches.{Bounds}
use Rattle.xt_frames.specs.Judging.{Standing, Seen, Handled, Judges, Breaks, opening_standing}
use Rattle.xt_frames.specs.Judging.{seen_record}
use Rattle.xt_frames.specs.Walked.{Walked}
use Rattle.xt_search.specs.Meetings.{run}
use Rattle.xt_outcomes.specs.Places.{is_own_access}
use Rattle.xt_outcomes.specs.SpotRaces.{next_of}
use Rattle.xt_outcomes.specs.Spots.{Side, Spot, side_bars, side_of, spot_past}
use Rattle.xt_outcomes.specs.declared.places.Place.{Place}
use Rattle.xt_judged.specs.Timeless.{frame_uses_time}
use Rattle.xt_judged.specs.declared.scene.Shown.{Shown}
use Rattle.xt_judged.specs.declared.watched.Fate.{Fate}
use Rattle.xt_judged.specs.declared.watched.Fate.TheVariants as fate

-- ---- one judge

-- what the judge of one core knows: of the core, and which bytes the core's own returns left stale
pub record Judge : Type 0 where
  pub standing : Standing
  pub bounds : Bounds
  pub stale : ℕ → Bool
  pub fate : Fate

abbrev pub goes : Fate → Bool
goes fate.Goes = true
goes (fate.Broke shown) = false
goes fate.Crossed = false

-- the breach to which the core came
abbrev pub breach_of : Fate → Option Shown
breach_of fate.Goes = None
breach_of (fate.Broke shown) = Some shown
breach_of fate.Crossed = None

abbrev pub or_other : Option Shown → Option Shown → Option Shown
or_other None y = y
or_other (Some x) y = Some x

abbrev pub breach_in : Fate → Fate → Option Shown
breach_in f g = or_other (breach_of f) (breach_of g)

abbrev pub range_of : Stack → Range
range_of s = record { lo = s.lo; hi = s.hi }

-- the access has a byte in the range
abbrev pub comes_to : Range → Option Access → Bool
comes_to r None = false
comes_to r (Some a) = nat_lt a.addr r.hi && nat_lt r.lo (a.addr + a.size)

-- the areas lie in the range
abbrev pub are_within : Range → List Area → Bool
are_within r [] = true
are_within r (x ∷ more) = nat_le r.lo x.from && (nat_le (x.from + x.size) r.hi && are_within r more)

abbrev pub is_within : Range → FrameState → Bool
is_within r f = are_within r (live_areas r f)

-- with so much known, if the live save areas of the core lie in its stack
abbrev pub with_known : Standing → (ℕ → Bool) → Judge → Judge
with_known st stale j =
    if is_within j.bounds.range st.frame
    then record { standing = st; bounds = j.bounds; stale = stale; fate = j.fate }
    else record j { fate = fate.Crossed }

abbrev pub judge_seen : ℕ → StepRecord → Judge → Seen → Judge
judge_seen c rec j (Handled st) = with_known st j.stale j
judge_seen c rec j (Judges st stale) = with_known st stale j
judge_seen c rec j (Breaks kind) =
    record j { fate = fate.Broke (record { core = c; pc = rec.pc; kind = kind }) }

-- past a record of its core, where the other core has this stack
abbrev pub judge_past : (ℕ → ℕ) → Range → ℕ → Judge → StepRecord → Judge
judge_past code other c j rec =
    if comes_to other rec.access then record j { fate = fate.Crossed }
    else judge_seen c rec j (seen_record code j.bounds j.standing (λ a. false) j.stale rec)

abbrev pub opening_judge : Walked → Judge
opening_judge w = record {
  standing = opening_standing w.state;
  bounds = w.bounds;
  stale = λ a. false;
  fate = fate.Goes;
}

-- ---- two cores

pub record Watched : Type 0 where
  pub spot : Spot State
  pub judge0 : Judge
  pub judge1 : Judge

-- a core with its judge
pub record Own : Type 0 where
  pub side : Side State
  pub judge : Judge

abbrev pub own_in : ℕ → Watched → Own
own_in zero v = record { side = v.spot.side0; judge = v.judge0 }
own_in (suc c) v = record { side = v.spot.side1; judge = v.judge1 }

abbrev pub with_judge : ℕ → Judge → Spot State → Watched → Watched
with_judge zero j p v = record { spot = p; judge0 = j; judge1 = v.judge1 }
with_judge (suc c) j p v = record { spot = p; judge0 = v.judge0; judge1 = j }

abbrev pub other_range : ℕ → Range → Range → Range
other_range zero r0 r1 = r1
other_range (suc c) r0 r1 = r0

-- no turn of the core follows
abbrev pub is_over : Own → Bool
is_over o = not (goes o.judge.fate) || o.side.left == 0

-- the record of the core's next turn
abbrev pub record_in : (P : Chip State) → ℕ → Spot State → StepRecord
record_in P c p =
    let side = side_of c p in (P.turn side.state (answer (P.demand side.state) p.memory)).0

-- the turn of a core that makes one
abbrev pub turned :
    (P : Chip State) (code : ℕ → ℕ) → Range → Range → (timed : Bool) → ℕ → Watched → Watched
turned P code r0 r1 timed c v =
    with_judge c
    (judge_past code (other_range c r0 r1) c (own_in c v).judge (record_in P c v.spot))
    (spot_past P timed c v.spot)
    v

-- one turn of a core, or nothing where it makes none
abbrev pub watched_past :
    (P : Chip State) (code : ℕ → ℕ) → Range → Range → (timed : Bool) → ℕ → Watched → Watched
watched_past P code r0 r1 timed c v =
    if is_over (own_in c v) then v else turned P code r0 r1 timed c v

-- where it is not timed, the next turn uses time, or its step of the frame machine does
abbrev pub uses_time : (code : ℕ → ℕ) (timed : Bool) → Side State → FrameState → Bool
uses_time code timed s f = side_bars code timed s || (not timed && frame_uses_time code f)

-- a turn that follows uses time
abbrev pub watched_bars : (code : ℕ → ℕ) (timed : Bool) → Own → Bool
watched_bars code timed o =
    not (is_over o) && uses_time code timed o.side o.judge.standing.frame

-- a turn that follows uses no time and meets nothing of the other core
abbrev pub is_alone : (code : ℕ → ℕ) (timed : Bool) → List Place → ℕ → Own → Bool
is_alone code timed ps c o =
    not (is_over o)
    && (not (watched_bars code timed o) && is_own_access ps c (next_of code o.side))

-- a turn of the core, and then its turns that meet nothing, at most so many
abbrev pub watched_run :
    (code : ℕ → ℕ) → Range → Range → (timed : Bool) → List Place → ℕ → ℕ → Watched → Watched
watched_run code r0 r1 timed ps n c v =
    run (watched_past (processor code) code r0 r1 timed)
    (λ d w. is_alone code timed ps d (own_in d w)) n c v
