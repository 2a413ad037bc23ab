-- Carries a proof; nothing that a reader must believe.
-- What is kept of two cores with a judge each, without dead registers, and what it stands for.
use Rattle.std.specs.Prelude.{◌≡◌, ℕ, Bool, true, false, Option, Some, None, List, [], ◌∷◌}
use Rattle.std.specs.Prelude.{◌||◌, ◌&&◌, not}
use Rattle.xt_map.specs.declared.contents.MemoryContents.{MemoryContents}
use Rattle.xt_trace.specs.declared.record.StepRecord.{StepRecord}
use Rattle.xt_exec.specs.Chips.{processor}
use Rattle.xt_map.specs.Fetching.{fetch_at}
use Rattle.xt_special.specs.Interrupts.{pending_of}
use Rattle.xt_frames.specs.Breaches.{inputs_of}
use Rattle.xt_frames.specs.FrameStep.{with_inputs}
use Rattle.xt_frames.specs.declared.kinds.HandlerPhase.{HandlerPhase}
use Rattle.xt_frames.specs.declared.kinds.HandlerPhase.TheVariants.{InHandler, Nested, Outside}
use Rattle.xt_frames.specs.Frames.{Frame, FrameState, value_or_zero}
use Rattle.xt_frames.specs.Judging.{Standing}
use Rattle.xt_frames.specs.Nesting.{is_nesting}
use Rattle.xt_frames.specs.SaveAreas.{Range}
use Rattle.xt_frames.specs.Walked.{Walked}
use Rattle.xt_timeless.specs.Alike.{AreAlike, Compare, Difference}
use Rattle.xt_timeless.specs.Time.{executes, fetches_compare, fetches_write}
use Rattle.xt_outcomes.specs.Dead.{dead_at, has_compare, is_compare_fit, spot_forgotten}
use Rattle.xt_outcomes.specs.KeptWorlds.{moved_spot}
use Rattle.xt_outcomes.specs.Nexts.{misfits}
use Rattle.xt_outcomes.specs.declared.places.Place.{Place}
use Rattle.xt_judged.specs.OwnJudges.{Judge, Own, Watched, goes, is_over, judge_past, own_in}
use Rattle.xt_judged.specs.OwnJudges.{watched_bars, watched_past, watched_run, with_judge}
use Rattle.xt_judged.specs.WatchedKept.{watched_of}
use Rattle.xt_judged.specs.declared.watched.Watched as kept

-- ---- judges that know less

-- what is known here is known there
abbrev pub IsFewerAt : Option ℕ → Option ℕ → Type 0
IsFewerAt None y = Unit {0}
IsFewerAt (Some v) y = y ≡ Some v

abbrev pub AreFewer : List (Option ℕ) → List (Option ℕ) → Type 0
AreFewer [] [] = Unit {0}
AreFewer (x ∷ xs) (y ∷ ys) = IsFewerAt x y × AreFewer xs ys
AreFewer _ _ = ⊥

-- of callers too
abbrev pub AreFramesFewer : List Frame → List Frame → Type 0
AreFramesFewer [] [] = Unit {0}
AreFramesFewer (f ∷ fs) (g ∷ gs) =
    (f.by ≡ g.by) × AreFewer f.kept g.kept × AreFramesFewer fs gs
AreFramesFewer _ _ = ⊥

-- of the one frame state fewer registers are known, and all else is the same
pub record IsFewer (f g : FrameState) : Type 0 where
  pub seen : AreFewer f.seen g.seen
  pub frames : AreFramesFewer f.frames g.frames
  pub control : f.control ≡ g.control
  pub unset : f.unset ≡ g.unset
  pub plain : f.nested ≡ None
  pub other : g.nested ≡ None

pub record IsFewerStanding (s t : Standing) : Type 0 where
  pub frame : IsFewer s.frame t.frame
  pub fresh : s.fresh ≡ t.fresh
  pub phase : s.phase ≡ t.phase

pub record IsFewerJudge (j k : Judge) : Type 0 where
  pub standing : IsFewerStanding j.standing k.standing
  pub bounds : j.bounds ≡ k.bounds
  pub stale : j.stale ≡ k.stale
  pub fate : j.fate ≡ k.fate

-- the second state is the first but for what may differ
pub record IsKeptFrame (gap : Difference) (f g : FrameState) : Type 0 where
  pub list : List ℕ
  pub alike : AreAlike gap f.control.special list
  pub is : g ≡ record f { control = record f.control { special = list } }

-- SCOMPARE1 may be another, if it is dead where the frame is
pub record IsOtherStanding (ms : List ℕ) (s t : Standing) : Type 0 where
  pub frame : IsKeptFrame Compare s.frame t.frame
  pub live : has_compare (dead_at ms s.frame.control.pc) ≡ false → s.frame ≡ t.frame
  pub fresh : s.fresh ≡ t.fresh
  pub phase : s.phase ≡ t.phase

pub record IsOtherJudge (ms : List ℕ) (j k : Judge) : Type 0 where
  pub standing : IsOtherStanding ms j.standing k.standing
  pub bounds : j.bounds ≡ k.bounds
  pub stale : j.stale ≡ k.stale
  pub fate : j.fate ≡ k.fate

-- fewer registers are known of the core, and all else is the same
pub record IsForgotten (old new : Walked) : Type 0 where
  pub is : new ≡ record old { state = record old.state { seen = new.state.seen } }
  pub fewer : AreFewer new.state.seen old.state.seen
  pub sp : value_or_zero new.state.seen 1 ≡ value_or_zero old.state.seen 1

-- no nested interrupt is there, or begins
abbrev pub IsOuter : HandlerPhase → StepRecord → Type 0
IsOuter Outside rec = Unit {0}
IsOuter InHandler rec = is_nesting rec.kind ≡ false
IsOuter Nested rec = ⊥

-- ---- a dead SCOMPARE1

-- the turn of the core with this record, which leads to this program counter, fits it
abbrev pub IsCompareFit : (ℕ → ℕ) → List ℕ → StepRecord → ℕ → Type 0
IsCompareFit code ms rec pc =
    let at = fetch_at code rec.pc in
    is_compare_fit (dead_at ms rec.pc) (fetches_compare at) (executes rec.kind && fetches_write at)
    (dead_at ms pc) ≡ true

-- The step on the record starts from where the core's turn does, which leads to where it is not
-- dead, and executes what is there.
pub record IsRevived (ms : List ℕ) (f : FrameState) (rec : StepRecord) (from pc : ℕ) : Type 0 where
  pub here : from ≡ rec.pc
  pub live : has_compare (dead_at ms pc) ≡ false
  pub level : pending_of (with_inputs (inputs_of rec) f).control ≡ 0
  pub awake : f.control.waits ≡ false

-- ---- what stands for another

-- where no register is dead, the same judge; fewer registers are known of one that has another SCOMPARE1
abbrev pub IsKeptJudge : List ℕ → Judge → Judge → Type 0
IsKeptJudge [] j k = j ≡ k
IsKeptJudge (m ∷ ms) j k = (i : Judge) × IsFewerJudge j i × IsOtherJudge (m ∷ ms) i k

-- if the judge goes on past the record, it stands there for each for which the old one stood
abbrev pub StandsPast : (ℕ → ℕ) → List ℕ → Range → ℕ → StepRecord → Judge → Judge → Type 0
StandsPast code ms other c rec old new =
    goes new.fate ≡ true → (k : Judge) → IsKeptJudge ms old k
    → IsKeptJudge ms new (judge_past code other c k rec)

-- without dead registers the one stands for the other
pub record Stands (ms : List ℕ) (w v : Watched) : Type 0 where
  pub spot : w.spot ≡ spot_forgotten ms v.spot
  pub judge0 : IsKeptJudge ms w.judge0 v.judge0
  pub judge1 : IsKeptJudge ms w.judge1 v.judge1

abbrev pub BothGo : Watched → Type 0
BothGo v = (goes v.judge0.fate ≡ true) × (goes v.judge1.fate ≡ true)

-- ---- turns

-- a turn of the core leads from what the one stands for to what the other stands for
pub record IsTurn (code : ℕ → ℕ) (ms : List ℕ) (r0 r1 : Range) (timed : Bool) (c : ℕ)
    (v w : Watched) : Type 0 where
  pub there : BothGo w → (u : Watched) → Stands ms v u
      → Stands ms w (watched_past (processor code) code r0 r1 timed c u)
  pub before : BothGo w → BothGo v

-- A turn leads from the core with its judge and what memory holds to these, whatever the other core is.
abbrev pub IsOwnTurn :
    (code : ℕ → ℕ) → List ℕ → Range → Range → (timed : Bool) → ℕ → Own → MemoryContents → Own
    → MemoryContents → Type 0
IsOwnTurn code ms r0 r1 timed c o n p k =
    (v : Watched) → own_in c v ≡ o → v.spot.memory ≡ n
    → IsTurn code ms r0 r1 timed c v (with_judge c p.judge (moved_spot c p.side k v.spot) v)

-- the turn does not fit
abbrev pub does_misfit : (code : ℕ → ℕ) → List ℕ → ℕ → Watched → Bool
does_misfit code ms c v = misfits code ms (own_in c v).side

-- A turn of the core, which uses no time and fits, and so many after it that meet nothing, lead from
-- what the one stands for to what the other stands for.
pub record IsLed (code : ℕ → ℕ) (ms : List ℕ) (r0 r1 : Range) (timed : Bool) (ps : List Place)
    (c : ℕ) (v w : Watched) : Type 0 where
  pub count : ℕ
  pub there : BothGo w → (u : Watched) → Stands ms v u
      → Stands ms w (watched_run code r0 r1 timed ps count c u)
  pub free : watched_bars code timed (own_in c v) ≡ false
  pub fit : does_misfit code ms c v ≡ false

-- nothing is said of what is kept where a judge has come to an end
abbrev pub Leads :
    (code : ℕ → ℕ) → List ℕ → Range → Range → (timed : Bool) → List Place → MemoryContents → ℕ
    → kept.Watched → kept.Watched → Type 0
Leads code ms r0 r1 timed ps m c v w =
    BothGo (watched_of m v) → IsLed code ms r0 r1 timed ps c (watched_of m v) (watched_of m w)

-- the turn uses time, or does not fit
abbrev pub kept_bars :
    (code : ℕ → ℕ) → List ℕ → (timed : Bool) → MemoryContents → ℕ → kept.Watched → Bool
kept_bars code ms timed m c w =
    watched_bars code timed (own_in c (watched_of m w))
    || (not (is_over (own_in c (watched_of m w))) && does_misfit code ms c (watched_of m w))
