-- Carries a proof; nothing that a reader must believe.
-- The verdict of uses by a walk over the turns of a run: what is known before each turn, and what
-- the next record comes to.
use Rattle.std.specs.Prelude.{◌≡◌, ℕ, zero, suc, ◌+◌, Bool, true, false, ◌&&◌, ◌||◌, if◌then◌else◌}
use Rattle.std.specs.Prelude.{Option, Some, None, List, [], ◌∷◌}
use Rattle.xt_map.specs.declared.access.Access.{Access}
use Rattle.xt_map.specs.Touching.{is_store, touches}
use Rattle.xt_trace.specs.declared.record.StepRecord.{StepRecord}
use Rattle.xt_frames.specs.declared.kinds.Breach.{Breach}
use Rattle.xt_frames.specs.declared.kinds.BreachKind.{BreachKind}
use Rattle.xt_frames.specs.Breaches.{Bounds}
use Rattle.xt_frames.specs.FirstBreach.{Course, by_core, turns}
use Rattle.xt_frames.specs.Frames.{FrameState}
use Rattle.xt_frames.specs.declared.kinds.HandlerPhase.{HandlerPhase}
use Rattle.xt_frames.specs.declared.kinds.HandlerPhase.TheVariants.{Outside, InHandler, Nested}
use Rattle.xt_frames.specs.HandlerSteps.{is_window, phase_after}
use Rattle.xt_frames.specs.Nesting.{is_nesting}
use Rattle.xt_frames.specs.SaveAreas.{is_live}
use Rattle.xt_uses.specs.Disciplines.{Discipline}
use Rattle.xt_uses.specs.UseState.{UseState, forgets, one_opens_unknown, opening_use}
use Rattle.xt_uses.specs.UseStep.{carries, use_step}
use Rattle.xt_uses.specs.UseBreaches.{use_breach, window_use}
use Rattle.xt_uses.specs.UseParts.{fresh_use}
use Rattle.xt_uses.specs.FirstUse.{History, IsFirstUse, IsHistory, carried_count, stored_byte}

-- ---- the masks of bytes

-- a judged store gives the bytes that it touches what is known of the value
abbrev pub mask_stored : ℕ → Option Access → (ℕ → ℕ) → ℕ → ℕ
mask_stored stored None masks a = masks a
mask_stored stored (Some x) masks a =
    if is_store x.kind && touches x.addr x.size a then stored_byte stored x.addr a else masks a

-- nothing is known of a byte that is live, or was live before the step, or that the step forgets
abbrev pub masks_after :
    (ℕ → Bool) → (ℕ → Bool) → ℕ → Option Access → (ℕ → ℕ) → ℕ → ℕ
masks_after now lost stored access masks a =
    if now a || lost a then 0 else mask_stored stored access masks a

-- ---- one core

pub record UseStanding : Type 0 where
  pub state : UseState
  pub fresh : Bool
  pub phase : HandlerPhase
  -- how many records it has seen, and how many judged steps carry what is not known
  pub steps : ℕ
  pub carried : ℕ

abbrev pub opening_use_standing : Discipline → FrameState → UseStanding
opening_use_standing d f =
    record { state = opening_use d f; fresh = true; phase = Outside; steps = 0; carried = 0 }

-- a record that was seen: a handler step; a judged step, with the masks of bytes after it; or the
-- first breach
pub data UseSeen : Type 0 where
  UseHandled : UseStanding → UseSeen
  UseJudged : UseStanding → (ℕ → ℕ) → UseSeen
  UseBroken : BreachKind → UseSeen

abbrev pub count_of : Bool → ℕ
count_of true = 1
count_of false = 0

-- past a judged step
abbrev pub standing_past :
    (ℕ → ℕ) → UseStanding → (ℕ → ℕ) → Bool → StepRecord → UseStanding
standing_past code st masks nested rec =
    let u = use_step code nested rec masks st.state in
    record {
      state = u.after;
      fresh = fresh_use st.fresh code nested rec masks st.state;
      phase = phase_after code st.phase rec;
      steps = suc st.steps;
      carried = st.carried + count_of (carries code rec st.state u);
    }

-- live bytes of this core, and of the other
abbrev pub live_with : Bounds → FrameState → (ℕ → Bool) → ℕ → Bool
live_with b f others a = is_live b.range f a || others a

-- a byte that was live before the step, which leaves the core so, or that it forgets
abbrev pub lost_with : Bounds → UseState → UseState → (ℕ → Bool) → ℕ → Bool
lost_with b s after others a = live_with b s.frame others a || forgets s after a

abbrev pub use_seen_step :
    Option BreachKind → (ℕ → ℕ) → Bounds → UseStanding → (ℕ → Bool) → (ℕ → ℕ) → Bool
    → StepRecord → UseSeen
use_seen_step (Some kind) code b st others masks nested rec = UseBroken kind
use_seen_step None code b st others masks nested rec =
    let u = use_step code nested rec masks st.state in
    UseJudged
    (standing_past code st masks nested rec)
    (masks_after
    (live_with b u.after.frame others)
    (lost_with b st.state u.after others)
    u.stored
    rec.access
    masks)

abbrev pub use_seen_judged :
    (ℕ → ℕ) → Bounds → UseStanding → (ℕ → Bool) → (ℕ → ℕ) → Bool → StepRecord → UseSeen
use_seen_judged code b st others masks nested rec =
    use_seen_step
    (use_breach
    b
    st.fresh
    code
    (live_with b st.state.frame others)
    masks
    nested
    rec
    st.state)
    code
    b
    st
    others
    masks
    nested
    rec

-- past a handler step
abbrev pub handled_past : (ℕ → ℕ) → UseStanding → StepRecord → UseStanding
handled_past code st rec =
    record st { fresh = false; phase = phase_after code st.phase rec; steps = suc st.steps }

abbrev pub use_seen_window : Option BreachKind → (ℕ → ℕ) → UseStanding → StepRecord → UseSeen
use_seen_window (Some kind) code st rec = UseBroken kind
use_seen_window None code st rec = UseHandled (handled_past code st rec)

abbrev pub use_seen_in :
    HandlerPhase → (ℕ → ℕ) → Bounds → UseStanding → (ℕ → Bool) → (ℕ → ℕ) → StepRecord → UseSeen
use_seen_in Outside code b st others masks rec =
    if is_window rec.kind then use_seen_window (window_use code rec st.state) code st rec
    else use_seen_judged code b st others masks false rec
use_seen_in InHandler code b st others masks rec =
    if is_nesting rec.kind then use_seen_judged code b st others masks true rec
    else UseHandled (handled_past code st rec)
use_seen_in Nested code b st others masks rec = use_seen_judged code b st others masks true rec

-- one record of a core, where `others` are the live bytes of the other one
abbrev pub use_seen :
    (ℕ → ℕ) → Bounds → UseStanding → (ℕ → Bool) → (ℕ → ℕ) → StepRecord → UseSeen
use_seen code b st others masks rec = use_seen_in st.phase code b st others masks rec

-- ---- both cores

pub record UseKnown : Type 0 where
  pub first : UseStanding
  pub second : UseStanding
  pub masks : ℕ → ℕ

-- as both cores open, a byte that is live is not known; nor is in the strict discipline one below
-- its stack pointer
abbrev pub opening_masks : Discipline → Bounds → Bounds → FrameState → FrameState → ℕ → ℕ
opening_masks d b0 b1 f0 f1 a =
    if (is_live b0.range f0 a || is_live b1.range f1 a)
    || one_opens_unknown b0.range b1.range (opening_use d f0) (opening_use d f1) a
    then 0
    else 255

abbrev pub opening_use_known :
    Discipline → Bounds → Bounds → FrameState → FrameState → UseKnown
opening_use_known d b0 b1 f0 f1 = record {
  first = opening_use_standing d f0;
  second = opening_use_standing d f1;
  masks = opening_masks d b0 b1 f0 f1;
}

-- how the walk ends: what is known then, and the breach
pub record UseJudgement : Type 0 where
  pub known : UseKnown
  pub breach : Option Breach

abbrev pub use_passed_0 : UseSeen → UseKnown → (UseKnown → UseJudgement) → UseJudgement
use_passed_0 (UseHandled st) k rest = rest (record k { first = st })
use_passed_0 (UseJudged st masks) k rest = rest (record k { first = st; masks = masks })
use_passed_0 (UseBroken kind) k rest =
    record { known = k; breach = Some (record { core = 0; step = k.first.steps; kind = kind }) }

abbrev pub use_passed_1 : UseSeen → UseKnown → (UseKnown → UseJudgement) → UseJudgement
use_passed_1 (UseHandled st) k rest = rest (record k { second = st })
use_passed_1 (UseJudged st masks) k rest = rest (record k { second = st; masks = masks })
use_passed_1 (UseBroken kind) k rest =
    record { known = k; breach = Some (record { core = 1; step = k.second.steps; kind = kind }) }

-- for each number of the schedule the next record of that core, where `xs` and `ys` are the records
-- of core 0 and core 1 that are left
abbrev pub use_judgement :
    (ℕ → ℕ) → Bounds → Bounds → List ℕ → List StepRecord → List StepRecord → UseKnown
    → UseJudgement
use_judgement code b0 b1 [] xs ys k = record { known = k; breach = None }
use_judgement code b0 b1 (zero ∷ cores) [] ys k = record { known = k; breach = None }
use_judgement code b0 b1 (zero ∷ cores) (x ∷ xs) ys k =
    use_passed_0
    (use_seen code b0 k.first (is_live b1.range k.second.state.frame) k.masks x)
    k
    (λ n. use_judgement code b0 b1 cores xs ys n)
use_judgement code b0 b1 (suc core ∷ cores) xs [] k = record { known = k; breach = None }
use_judgement code b0 b1 (suc core ∷ cores) xs (y ∷ ys) k =
    use_passed_1
    (use_seen code b1 k.second (is_live b0.range k.first.state.frame) k.masks y)
    k
    (λ n. use_judgement code b0 b1 cores xs ys n)

-- ---- what the walk finds

-- the first breach of the run, the states of both cores there, and what they have carried
pub record IsUseJudgement (d : Discipline) (r : Course) (j : UseJudgement) : Type 0 where
  pub history : History
  pub is_history : IsHistory d r history
  pub place : ℕ
  pub finds : IsFirstUse r history place j.breach
  pub state0 : history.state 0 place ≡ j.known.first.state
  pub state1 : history.state 1 place ≡ j.known.second.state
  pub carried0 : j.known.first.carried ≡ carried_count r history 0 place
  pub carried1 : j.known.second.carried ≡ carried_count r history 1 place

abbrev pub WalkFindsFirstUse : Type 0
WalkFindsFirstUse =
    (d : Discipline) (code : ℕ → ℕ) (b0 b1 : Bounds) (cores : List ℕ) (xs ys : List StepRecord)
    (f0 f1 : FrameState)
    → IsUseJudgement
    d
    (record {
      code = code;
      bounds = by_core b0 b1;
      opening = by_core f0 f1;
      turns = turns cores xs ys;
    })
    (use_judgement code b0 b1 cores xs ys (opening_use_known d b0 b1 f0 f1))
