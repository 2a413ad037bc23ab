-- Carries a proof; nothing that a reader must believe.
-- One core of the walk of uses.
use Rattle.std.specs.Prelude.{◌≡◌, ℕ, suc, ◌+◌, ◌≤◌, ◌^◌, Bool, ◌&&◌, ◌||◌, Option, Some}
use Rattle.std.specs.Prelude.{None, Result, Ok, Err}
use Rattle.xt_frames.specs.declared.kinds.BreachKind.{BreachKind}
use Rattle.xt_frames.specs.Breaches.{Bounds}
use Rattle.xt_frames.specs.Frames.{FrameState}
use Rattle.xt_frames.specs.SaveAreas.{Range, is_live}
use Rattle.xt_frames.specs.Stacks.{Stack}
use Rattle.xt_discipline.specs.declared.side.Areas.{Areas}
use Rattle.xt_frames.specs.declared.kinds.HandlerPhase.TheVariants.{InHandler}
use Rattle.xt_discipline.specs.ByteMarks.{first}
use Rattle.xt_uses.specs.declared.told.JudgeError.{JudgeError}
use Rattle.xt_uses.specs.declared.told.JudgeError.TheVariants.{Breaks, NoMemory}
use Rattle.xt_uses.specs.UseParts.{UseWalked, fresh_at}
use Rattle.xt_uses.specs.UseState.{UseState, is_strict_in, rises_over, stack_pointer}
use Rattle.xt_uses.specs.UseWalk.{UseStanding, UseSeen, UseHandled, UseJudged, UseBroken}
use Rattle.xt_use_walk.specs.declared.side.Bytes.{Bytes}
use Rattle.xt_use_walk.specs.declared.side.Side.{Side}
use Rattle.xt_use_walk.specs.MaskedBytes.{AreBytes, KnowsBytes, without}

-- the live bytes of a core
abbrev pub live_in : UseWalked → ℕ → Bool
live_in w a = is_live w.bounds.range w.state.frame a

-- its number and the end of its stack are those of its core of the machine, its stack lies in
-- internal data memory, the last judged record comes before the next one, and no more records were
-- counted than there were
pub record IsUseSide (s : Side) : Type 0 where
  pub core_is : s.uses.core ≡ s.core
  pub end_is : s.uses.bounds.range.hi ≡ s.hi
  pub low : first ≤ s.uses.bounds.range.lo
  pub high : s.uses.bounds.range.hi ≤ 2 ^ 30
  pub past : s.uses.next ≤ s.steps
  pub counted : s.carried ≤ s.steps

abbrev pub StackOf : Bounds → FrameState → Type 0
StackOf b f = Stack b.range.lo b.range.hi f.seen f.frames

-- both areas are bytes of memory
pub record AreaBytes (x : Areas) : Type 0 where
  pub low : AreBytes x.low 16
  pub high : AreBytes x.high x.size

-- the bytes follow a core's frames, and nothing is known of what is live now
abbrev pub IsFollowed : ℕ → Range → FrameState → FrameState → Bytes → Bytes → Type 0
IsFollowed core r g u old new =
    (others : ℕ → Bool) (masks : ℕ → ℕ) → KnowsBytes core old (is_live r g) others masks
    → KnowsBytes core new (is_live r u) others (without (λ a. is_live r u a || others a) masks)

-- the bytes that a step forgets, by the state that it leaves and the stack pointer before it
abbrev pub forgets_byte : UseState → ℕ → ℕ → Bool
forgets_byte s sp a = is_strict_in s && rises_over sp (stack_pointer s) a

-- ---- a record of the core

-- what the definition of the walk knows of the core
abbrev pub standing_of : Side → UseStanding
standing_of s = record {
  state = s.uses.state;
  fresh = fresh_at s.uses s.steps;
  phase = s.phase;
  steps = s.steps;
  carried = s.carried;
}

-- the core past one record more, which leaves it so, and the bytes with these masks
pub record IsUsePast
    (old new : Side) (bytes : Bytes) (others : ℕ → Bool) (masks : ℕ → ℕ) (st : UseStanding) : Type 0
  where
    pub side : IsUseSide new
    pub core_is : new.core ≡ old.core
    pub bounds_are : new.uses.bounds ≡ old.uses.bounds
    pub steps_are : new.steps ≡ suc old.steps
    pub standing_is : standing_of new ≡ st
    pub bytes_are :
        KnowsBytes old.core bytes (is_live old.uses.bounds.range st.state.frame) others masks

-- The answer is what the definition sees in the record. After a breach nothing has changed; too
-- little memory says nothing.
abbrev pub IsUseSeen :
    Side → Side → Bytes → (ℕ → Bool) → (ℕ → ℕ) → UseSeen → Result Unit JudgeError → Type 0
IsUseSeen old new bytes others masks seen (Err (NoMemory e)) = Unit {0}
IsUseSeen old new bytes others masks (UseHandled st) (Ok u) =
    IsUsePast old new bytes others masks st
IsUseSeen old new bytes others masks (UseJudged st after) (Ok u) =
    IsUsePast old new bytes others after st
IsUseSeen old new bytes others masks (UseBroken kind) (Ok u) = ⊥
IsUseSeen old new bytes others masks (UseBroken kind) (Err (Breaks b)) =
    (b ≡ record { core = old.core; step = old.steps; kind = kind }) × (new ≡ old)
IsUseSeen old new bytes others masks (UseHandled st) (Err (Breaks b)) = ⊥
IsUseSeen old new bytes others masks (UseJudged st after) (Err (Breaks b)) = ⊥

-- handler steps begin, where the record that begins them shows no breach
abbrev pub BeginsUse : Option BreachKind → Side → Result Unit JudgeError → Side → Type 0
BeginsUse found old (Ok u) new =
    (found ≡ None) × (new ≡ record old { phase = InHandler; steps = old.steps + 1 })
BeginsUse found old (Err (Breaks b)) new =
    (found ≡ Some b.kind) × (b.core ≡ old.uses.core) × (b.step ≡ old.steps) × (new ≡ old)
BeginsUse found old (Err (NoMemory e)) new = Unit {0}
