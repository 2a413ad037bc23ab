-- What is known of a core past a record that shows no breach.
use Rattle.std.proofs.Common.{◌≡◌, ℕ, zero, suc, Bool, true, false, if◌then◌else◌, Option, Some, None, List, [], ◌∷◌, refl, sym, ap, subst, ◌∙◌}
use Rattle.xt_trace.specs.declared.record.StepRecord.{StepRecord}
use Rattle.xt_frames.specs.declared.kinds.Breach.{Breach}
use Rattle.xt_frames.specs.declared.kinds.BreachKind.{BreachKind}
use Rattle.xt_frames.specs.Breaches.{Bounds, breach_of, inputs_of, window_breach}
use Rattle.xt_frames.specs.FrameStep.{with_inputs}
use Rattle.xt_frames.specs.declared.kinds.HandlerPhase.{HandlerPhase}
use Rattle.xt_frames.specs.declared.kinds.HandlerPhase.TheVariants.{Outside, InHandler, Nested}
use Rattle.xt_frames.specs.HandlerSteps.{is_window, phase_after}
use Rattle.xt_frames.specs.Nesting.{current, is_nesting}
use Rattle.xt_frames.specs.SaveAreas.{is_live}
use Rattle.xt_frames.specs.Judging.{Standing, Seen, Handled, Judges, Breaks, handled_record, live_of, seen_in, seen_judged, seen_step, seen_window, step_on}
use Rattle.xt_frames.specs.Verdict.{Known, Judgement, judgement, passed_0, passed_1, seen_0, seen_1}
use Rattle.xt_discipline.specs.declared.roles.Role.TheVariants.{Own, Entry, HandlerStep, NestedStep}
use Rattle.xt_discipline.specs.Phases.{phase_of, step_phase}
use Rattle.xt_profile.specs.Steps.{frame_after}
use Rattle.xt_profile.specs.Follows.{IsNext}

abbrev pub Passes : (ℕ → ℕ) → Standing → StepRecord → Seen → Type 0
Passes code st x (Handled new) = IsNext code st x new
Passes code st x (Judges new stale) = IsNext code st x new
Passes code st x (Breaks kind) = Unit {0}

-- ---- by the phase
judged_passes : (code : ℕ → ℕ) (b : Bounds) (st : Standing) (others stale : ℕ → Bool) (nested : Bool) (x : StepRecord) → frame_after code (step_phase st.phase x.kind) x st.frame ≡ (step_on code nested x st.frame).after
    → (o : Option BreachKind) → Passes code st x (seen_step o code b st others stale nested x)
judged_passes code b st others stale nested x e None = record { phase_is = refl; frame_is = sym e }
judged_passes code b st others stale nested x e (Some kind) = tt

window_passes : (code : ℕ → ℕ) (st : Standing) (x : StepRecord) → InHandler ≡ phase_after code st.phase x → st.frame ≡ frame_after code (step_phase st.phase x.kind) x st.frame → (o : Option BreachKind) → Passes code st x (seen_window o st.frame)
window_passes code st x phase frame None = record { phase_is = phase; frame_is = frame }
window_passes code st x phase frame (Some kind) = tt

plain_passes : (code : ℕ → ℕ) (b : Bounds) (st : Standing) (others stale : ℕ → Bool) (x : StepRecord) → st.phase ≡ Outside → (w : Bool) → is_window x.kind ≡ w
    → Passes code st x (if w then seen_window (window_breach code x.kind (with_inputs (inputs_of x) (current st.frame))) st.frame else seen_judged code b st others stale false x)
plain_passes code b st others stale x m true w =
    let phase : phase_after code st.phase x ≡ InHandler = ap (λ (y : HandlerPhase). phase_after code y x) m ∙ ap (λ (z : Bool). if z then InHandler else Outside) w in
    let is : step_phase st.phase x.kind ≡ InHandler = ap (λ (y : HandlerPhase). step_phase y x.kind) m ∙ ap (λ (z : Bool). phase_of (if z then Entry else Own)) w in
    window_passes code st x (sym phase) (sym (ap (λ (y : HandlerPhase). frame_after code y x st.frame) is)) (window_breach code x.kind (with_inputs (inputs_of x) (current st.frame)))
plain_passes code b st others stale x m false w =
    let is : step_phase st.phase x.kind ≡ Outside = ap (λ (y : HandlerPhase). step_phase y x.kind) m ∙ ap (λ (z : Bool). phase_of (if z then Entry else Own)) w in
    judged_passes code b st others stale false x (ap (λ (y : HandlerPhase). frame_after code y x st.frame) is) (breach_of b st.fresh code (live_of b st.frame others) stale false x st.frame)

handles_passes : (code : ℕ → ℕ) (b : Bounds) (st : Standing) (others stale : ℕ → Bool) (x : StepRecord) → st.phase ≡ InHandler → (w : Bool) → is_nesting x.kind ≡ w
    → Passes code st x (if w then seen_judged code b st others stale true x else handled_record code st x)
handles_passes code b st others stale x m true w =
    let is : step_phase st.phase x.kind ≡ Nested = ap (λ (y : HandlerPhase). step_phase y x.kind) m ∙ ap (λ (z : Bool). phase_of (if z then NestedStep else HandlerStep)) w in
    judged_passes code b st others stale true x (ap (λ (y : HandlerPhase). frame_after code y x st.frame) is) (breach_of b st.fresh code (live_of b st.frame others) stale true x st.frame)
handles_passes code b st others stale x m false w =
    let is : step_phase st.phase x.kind ≡ InHandler = ap (λ (y : HandlerPhase). step_phase y x.kind) m ∙ ap (λ (z : Bool). phase_of (if z then NestedStep else HandlerStep)) w in
    record { phase_is = refl; frame_is = sym (ap (λ (y : HandlerPhase). frame_after code y x st.frame) is) }

seen_passes : (code : ℕ → ℕ) (b : Bounds) (st : Standing) (others stale : ℕ → Bool) (x : StepRecord) (m : HandlerPhase) → st.phase ≡ m → Passes code st x (seen_in m code b st others stale x)
seen_passes code b st others stale x Outside m = plain_passes code b st others stale x m (is_window x.kind) refl
seen_passes code b st others stale x InHandler m = handles_passes code b st others stale x m (is_nesting x.kind) refl
seen_passes code b st others stale x Nested m =
    let is : step_phase st.phase x.kind ≡ Nested = ap (λ (y : HandlerPhase). step_phase y x.kind) m in
    judged_passes code b st others stale true x (ap (λ (y : HandlerPhase). frame_after code y x st.frame) is) (breach_of b st.fresh code (live_of b st.frame others) stale true x st.frame)

-- ---- in the walk
abbrev IsBreach : Option Breach → Type 0
IsBreach None = ⊥
IsBreach (Some b) = Unit {0}

abbrev ended : Known → Judgement
ended n = record { known = n; breach = None }

-- the next of core 0, and core 1 stays
pub record Past0 (code : ℕ → ℕ) (k : Known) (x : StepRecord) (n : Known) : Type 0 where
  pub next : IsNext code k.standing0 x n.standing0
  pub steps0 : n.steps0 ≡ suc k.steps0
  pub other : n.standing1 ≡ k.standing1
  pub steps1 : n.steps1 ≡ k.steps1

past_0 : (code : ℕ → ℕ) (k : Known) (x : StepRecord) (n : Known) (s : Seen) → Passes code k.standing0 x s → passed_0 s k x ended ≡ ended n → Past0 code k x n
past_0 code k x n (Handled st) p e =
    subst (Past0 code k x) (ap (λ (j : Judgement). j.known) e) (record { next = p; steps0 = refl; other = refl; steps1 = refl })
past_0 code k x n (Judges st stale) p e =
    subst (Past0 code k x) (ap (λ (j : Judgement). j.known) e) (record { next = p; steps0 = refl; other = refl; steps1 = refl })
past_0 code k x n (Breaks kind) p e = absurd (subst IsBreach (ap (λ (j : Judgement). j.breach) e) tt)

pub past_0_is : (code : ℕ → ℕ) (b0 b1 : Bounds) (k : Known) (x : StepRecord) (xs ys xs' ys' : List StepRecord) (n : Known) → judgement code b0 b1 (0 ∷ []) (x ∷ xs) ys k ≡ judgement code b0 b1 [] xs' ys' n → Past0 code k x n
past_0_is code b0 b1 k x xs ys xs' ys' n e =
    past_0 code k x n (seen_0 code b0 b1 k x) (seen_passes code b0 k.standing0 (is_live b1.range k.standing1.frame) k.stale x k.standing0.phase refl) e

pub record Past1 (code : ℕ → ℕ) (k : Known) (y : StepRecord) (n : Known) : Type 0 where
  pub next : IsNext code k.standing1 y n.standing1
  pub steps1 : n.steps1 ≡ suc k.steps1
  pub other : n.standing0 ≡ k.standing0
  pub steps0 : n.steps0 ≡ k.steps0

past_1 : (code : ℕ → ℕ) (k : Known) (y : StepRecord) (n : Known) (s : Seen) → Passes code k.standing1 y s → passed_1 s k y ended ≡ ended n → Past1 code k y n
past_1 code k y n (Handled st) p e =
    subst (Past1 code k y) (ap (λ (j : Judgement). j.known) e) (record { next = p; steps1 = refl; other = refl; steps0 = refl })
past_1 code k y n (Judges st stale) p e =
    subst (Past1 code k y) (ap (λ (j : Judgement). j.known) e) (record { next = p; steps1 = refl; other = refl; steps0 = refl })
past_1 code k y n (Breaks kind) p e = absurd (subst IsBreach (ap (λ (j : Judgement). j.breach) e) tt)

pub past_1_is : (code : ℕ → ℕ) (b0 b1 : Bounds) (core : ℕ) (k : Known) (y : StepRecord) (xs ys xs' ys' : List StepRecord) (n : Known) → judgement code b0 b1 (suc core ∷ []) xs (y ∷ ys) k ≡ judgement code b0 b1 [] xs' ys' n → Past1 code k y n
past_1_is code b0 b1 core k y xs ys xs' ys' n e =
    past_1 code k y n (seen_1 code b0 b1 k y) (seen_passes code b1 k.standing1 (is_live b0.range k.standing0.frame) k.stale y k.standing1.phase refl) e

-- ---- where the walk ends
-- a breach came, or no record was left: what is known is as before
known_0 : (k : Known) (x : StepRecord) (s : Seen) (rest : Known → Judgement) → IsBreach (passed_0 s k x ended).breach → (passed_0 s k x rest).known ≡ k
known_0 k x (Handled st) rest b = absurd b
known_0 k x (Judges st stale) rest b = absurd b
known_0 k x (Breaks kind) rest b = refl

known_1 : (k : Known) (y : StepRecord) (s : Seen) (rest : Known → Judgement) → IsBreach (passed_1 s k y ended).breach → (passed_1 s k y rest).known ≡ k
known_1 k y (Handled st) rest b = absurd b
known_1 k y (Judges st stale) rest b = absurd b
known_1 k y (Breaks kind) rest b = refl

-- a breach at once, or none where no record is left
pub broken_known : (code : ℕ → ℕ) (b0 b1 : Bounds) (core : ℕ) (cs : List ℕ) (xs ys : List StepRecord) (k : Known) (b : Breach) → (judgement code b0 b1 (core ∷ []) xs ys k).breach ≡ Some b
    → (judgement code b0 b1 (core ∷ cs) xs ys k).known ≡ k
broken_known code b0 b1 zero cs [] ys k b e = refl
broken_known code b0 b1 zero cs (x ∷ xs) ys k b e =
    known_0 k x (seen_0 code b0 b1 k x) (λ n. judgement code b0 b1 cs xs ys n) (subst IsBreach (sym e) tt)
broken_known code b0 b1 (suc core) cs xs [] k b e = refl
broken_known code b0 b1 (suc core) cs xs (y ∷ ys) k b e =
    known_1 k y (seen_1 code b0 b1 k y) (λ n. judgement code b0 b1 cs xs ys n) (subst IsBreach (sym e) tt)
