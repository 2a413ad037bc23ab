-- Carries a proof; nothing that a reader must believe.
-- A walk over the records of both cores: what it knows is what the definition of the walk knows.
use Rattle.std.specs.Prelude.{◌≡◌, ℕ, zero, suc, ◌+◌, ◌<◌, Bool, Some, None, Result, Ok}
use Rattle.std.specs.Prelude.{◌&&◌, nat_le, nat_lt, Err, List, [], ◌∷◌, ◌-◌, ◌||◌, if◌then◌else◌, drop, slice_get}
use Rattle.xt_map.specs.Touching.{touches}
use Rattle.xt_map.specs.Memory.{constant_byte}
use Rattle.xt_map.specs.declared.segment.Segment.{Segment}
use Rattle.xt_trace.specs.declared.options.Options.{Options}
use Rattle.xt_trace.specs.declared.options.Stack.{Stack}
use Rattle.xt_trace.specs.declared.record.StepRecord.{StepRecord}
use Rattle.xt_frames.specs.Breaches.{Bounds}
use Rattle.xt_frames.specs.Walked.{opening_walked}
use Rattle.xt_discipline.specs.Ended.{records_left}
use Rattle.xt_uses.specs.declared.told.JudgeError.TheVariants as stopped
use Rattle.xt_uses.specs.Disciplines.{is_strict}
use Rattle.xt_uses.specs.declared.discipline.Discipline.{Discipline}
use Rattle.xt_uses.specs.Lacks.{lacks_before}
use Rattle.xt_uses.specs.UseWalk.{UseJudgement, UseKnown, UseStanding, opening_use_known}
use Rattle.xt_uses.specs.UseWalk.{use_judgement, use_seen}
use Rattle.xt_use_walk.specs.declared.side.Bytes.{Bytes}
use Rattle.xt_use_walk.specs.declared.side.Side.{Side}
use Rattle.xt_use_walk.specs.declared.walk.FirstUse.{FirstUse}
use Rattle.xt_use_walk.specs.declared.walk.Uses.{Uses}
use Rattle.xt_use_walk.specs.declared.walk.Uses.TheVariants.{Unchecked, Whole, Broken}
use Rattle.xt_use_walk.specs.MaskedBytes.{KnowsBytes}
use Rattle.xt_use_walk.specs.Sides.{IsUseSeen, IsUseSide, live_in, standing_of}

-- ---- what the walk knows

-- of the code, of both cores, and of the bytes of memory
pub record Walk : Type 0 where
  pub code : List Segment
  pub side0 : Side
  pub side1 : Side
  pub bytes : Bytes

-- how a turn ends the walk before its schedule does: the core has no record left, or its record
-- shows this breach
pub data WalkEnd : Type 0 where
  NoRecord : WalkEnd
  Shows : FirstUse → WalkEnd

-- a core that the definition knows so
pub record IsKnown (s : Side) (core : ℕ) (b : Bounds) (st : UseStanding) : Type 0 where
  pub side : IsUseSide s
  pub core_is : s.core ≡ core
  pub bounds_are : s.uses.bounds ≡ b
  pub standing_is : standing_of s ≡ st

pub record Knows (w : Walk) (b0 b1 : Bounds) (k : UseKnown) : Type 0 where
  pub zero : IsKnown w.side0 0 b0 k.first
  pub one : IsKnown w.side1 1 b1 k.second
  pub bytes : KnowsBytes 0 w.bytes (live_in w.side0.uses) (live_in w.side1.uses) k.masks

-- ---- a turn

-- what a core's next record comes to
abbrev pub Turns :
    (ℕ → ℕ) → Side → Side → Bytes → (ℕ → Bool) → (ℕ → ℕ) → List StepRecord → List StepRecord
    → Result Unit WalkEnd → Type 0
Turns code old new bytes others masks [] left (Err NoRecord) = new ≡ old
Turns code old new bytes others masks (x ∷ xs) left (Ok u) =
    (left ≡ xs)
    × IsUseSeen old new bytes others masks
    (use_seen code old.uses.bounds (standing_of old) others masks x) (Ok u)
Turns code old new bytes others masks (x ∷ xs) left (Err (Shows first)) =
    (first.rec ≡ x)
    × (first.lacks ≡ lacks_before code x (standing_of old).state)
    × IsUseSeen old new bytes others masks
    (use_seen code old.uses.bounds (standing_of old) others masks x)
    (Err (stopped.Breaks first.breach))
Turns code old new bytes others masks xs left r = ⊥

-- of the records `xs` of a core, of which it had seen `steps` before, so many are taken, and `left`
-- are left
pub record AreTaken (count steps steps' : ℕ) (xs left : List StepRecord) : Type 0 where
  pub left_are : left ≡ drop count xs
  pub steps_are : steps' ≡ steps + count

-- of both cores
pub record Advances
    (turns : ℕ) (k n : UseKnown) (xs ys xs' ys' : List StepRecord) : Type 0 where
  pub count0 : ℕ
  pub count1 : ℕ
  pub zero : AreTaken count0 k.first.steps n.first.steps xs xs'
  pub one : AreTaken count1 k.second.steps n.second.steps ys ys'
  pub turns_are : count0 + count1 ≡ turns

-- what is known of this core
abbrev pub standing_in : ℕ → UseKnown → UseStanding
standing_in zero k = k.first
standing_in (suc core) k = k.second

-- the walk ends with these counts of what is carried, and no breach
pub record IsWhole (j : UseJudgement) (carried0 carried1 : ℕ) : Type 0 where
  pub none : j.breach ≡ None
  pub counts0 : carried0 ≡ j.known.first.carried
  pub counts1 : carried1 ≡ j.known.second.carried

-- the walk ends with this breach: its record is the one of its number among those of its core,
-- where `xs` and `ys` are left as k is known
pub record IsShown
    (code : ℕ → ℕ) (j : UseJudgement) (k : UseKnown) (xs ys : List StepRecord) (first : FirstUse)
    : Type 0 where
  pub found : j.breach ≡ Some first.breach
  pub core : first.breach.core < 2
  pub count : ℕ
  pub number : first.breach.step ≡ (standing_in first.breach.core k).steps + count
  pub taken : slice_get (records_left first.breach.core xs ys) count ≡ Some first.rec
  pub lacks :
      first.lacks
      ≡ lacks_before code first.rec (standing_in first.breach.core j.known).state

-- how the walk ends before the schedule does
abbrev pub IsEnded :
    (ℕ → ℕ) → UseJudgement → UseKnown → List StepRecord → List StepRecord → Walk → WalkEnd → Type 0
IsEnded code j k xs ys w NoRecord = IsWhole j w.side0.carried w.side1.carried
IsEnded code j k xs ys w (Shows first) = IsShown code j k xs ys first

-- in the words of the definition: `xs` and `ys` are the records that were left before, and
-- `xs'` and `ys'` those after it
abbrev pub IsTurned :
    (ℕ → ℕ) → Bounds → Bounds → ℕ → UseKnown → List StepRecord → List StepRecord → Walk
    → List StepRecord → List StepRecord → Result Unit WalkEnd → Type 0
IsTurned code b0 b1 core k xs ys new xs' ys' (Ok u) =
    (n : UseKnown) × Knows new b0 b1 n × Advances 1 k n xs ys xs' ys'
    × (constant_byte new.code ≡ code)
    × ((cs : List ℕ)
    → use_judgement code b0 b1 (core ∷ cs) xs ys k ≡ use_judgement code b0 b1 cs xs' ys' n)
IsTurned code b0 b1 core k xs ys new xs' ys' (Err end) =
    (cs : List ℕ) → IsEnded code (use_judgement code b0 b1 (core ∷ cs) xs ys k) k xs ys new end

-- ---- both cores as they open

-- the bytes of a stack below the stack pointer with which its core opens, in the strict discipline
abbrev pub below_opening : Discipline → Stack → ℕ → Bool
below_opening d s a = is_strict d && (nat_le s.lo a && nat_lt a (s.hi - 64))

-- of each stack the word at HI - 76 lies in a live save area, and all but that and what lies below
-- the stack pointers is known
abbrev pub AreOpened : Discipline → Bytes → Stack → Stack → Type 0
AreOpened d bytes s0 s1 =
    KnowsBytes 0 bytes (λ a. touches (s0.hi - 76) 4 a) (λ a. touches (s1.hi - 76) 4 a)
    (λ a. if (touches (s0.hi - 76) 4 a || touches (s1.hi - 76) 4 a)
    || (below_opening d s0 a || below_opening d s1 a) then 0 else 255)

pub record IsOpened
    (d : Discipline) (w : Walk) (code : List Segment) (entry : ℕ) (o : Options) : Type 0 where
  pub code_is : w.code ≡ code
  pub steps0 : w.side0.steps ≡ 0
  pub steps1 : w.side1.steps ≡ 0
  pub knows : Knows w (opening_walked 0 entry o).bounds (opening_walked 1 o.entry1 o).bounds
      (opening_use_known d (opening_walked 0 entry o).bounds (opening_walked 1 o.entry1 o).bounds
      (opening_walked 0 entry o).state (opening_walked 1 o.entry1 o).state)

-- ---- along a schedule

-- so many turns of a schedule are walked, past which these records are left
pub record Reaches
    (code : ℕ → ℕ) (b0 b1 : Bounds) (k : UseKnown) (schedule : List ℕ) (xs ys : List StepRecord)
    (w : Walk) (turns : ℕ) (xs' ys' : List StepRecord) : Type 0 where
  pub known : UseKnown
  pub knows : Knows w b0 b1 known
  pub advances : Advances turns k known xs ys xs' ys'
  pub code_is : constant_byte w.code ≡ code
  pub judged : use_judgement code b0 b1 schedule xs ys k
      ≡ use_judgement code b0 b1 (drop turns schedule) xs' ys' known

-- what is said of a walk
abbrev pub IsTold :
    (ℕ → ℕ) → UseJudgement → UseKnown → List StepRecord → List StepRecord → Uses → Type 0
IsTold code j k xs ys Unchecked = ⊥
IsTold code j k xs ys (Whole n m) = IsWhole j n m
IsTold code j k xs ys (Broken first) = IsShown code j k xs ys first
