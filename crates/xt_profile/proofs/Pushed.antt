-- Each frame that stands was pushed.
use Rattle.std.proofs.Common.{◌≡◌, ℕ, ◌<◌, ◌≤◌, inl, inr, ⊎_elim, List, [], ◌∷◌, length, refl, sym, ap, subst, arith}
use Rattle.std.proofs.lemmas.Bool.{cases_lt}
use Rattle.xt_trace.specs.declared.record.StepRecord.{StepRecord}
use Rattle.xt_frames.specs.Frames.{Frame, FrameState}
use Rattle.xt_frames.specs.declared.kinds.HandlerPhase.{HandlerPhase}
use Rattle.xt_frames.specs.declared.kinds.HandlerPhase.TheVariants.{Outside}
use Rattle.xt_frames.specs.HandlerSteps.{phase_after}
use Rattle.xt_discipline.specs.Phases.{step_phase}
use Rattle.xt_profile.specs.Steps.{Step, frame_after, frames_standing, step_of, steps_from}
use Rattle.xt_profile.specs.After.{change_at, step_with_change, later_from}
use Rattle.xt_profile.specs.ProfileLaws.{ArePushed, IsPushed}

abbrev Stand : ℕ → List Step → Type 0
Stand n past = (d : ℕ) → 0 < d → d ≤ n → IsPushed d past

stand_after : (s : Step) (past : List Step) → Stand s.before past → Stand s.after (s ∷ past)
stand_after s past h d some le =
    ⊎_elim (λ (lt : s.before < d). inl (lt, le)) (λ (low : d ≤ s.before). inr (h d some low)) (cases_lt s.before d)

steps_pushed : (code : ℕ → ℕ) (m : HandlerPhase) (f : FrameState) (past : List Step) (xs : List StepRecord) → Stand (length f.frames) past → ArePushed past → ArePushed (steps_from code m f past xs)
steps_pushed code m f past [] h a = a
steps_pushed code m f past (x ∷ xs) h a =
    let phase = step_phase m x.kind in
    let g = frame_after code phase x f in
    let s = step_of phase x f g in
    steps_pushed code (phase_after code m x) g (s ∷ past) xs (stand_after s past h) (h, a)

impossible : (n d : ℕ) → n ≡ 0 → 0 < d → d ≤ n → ⊥
impossible n d e some le = omega (arith, e, some, le)

none_stand : (n : ℕ) → n ≡ 0 → Stand n []
none_stand n e d some le = impossible n d e some le

pub all_pushed : (code : ℕ → ℕ) (f : FrameState) (xs : List StepRecord) → f.frames ≡ [] → ArePushed (steps_from code Outside f [] xs)
all_pushed code f xs none = steps_pushed code Outside f [] xs (none_stand (length f.frames) (ap (λ (fs : List Frame). length fs) none)) tt

-- ---- past the cut
later_pushed : (code : ℕ → ℕ) (past : List Step) (ms : List HandlerPhase) (xs : List StepRecord) → Stand (frames_standing past) past → ArePushed past → ArePushed (later_from code past ms xs)
later_pushed code past [] xs h a = a
later_pushed code past (m ∷ ms) [] h a = a
later_pushed code past (m ∷ ms) (x ∷ xs) h a =
    let s = step_with_change x.pc m (change_at code m x) past in
    later_pushed code (s ∷ past) ms xs (stand_after s past h) (h, a)

steps_stand : (code : ℕ → ℕ) (m : HandlerPhase) (f : FrameState) (past : List Step) (xs : List StepRecord) → frames_standing past ≡ length f.frames → Stand (frames_standing past) past → Stand (frames_standing (steps_from code m f past xs)) (steps_from code m f past xs)
steps_stand code m f past [] e h = h
steps_stand code m f past (x ∷ xs) e h =
    let phase = step_phase m x.kind in
    let g = frame_after code phase x f in
    let s = step_of phase x f g in
    steps_stand code (phase_after code m x) g (s ∷ past) xs refl (stand_after s past (subst (λ (n : ℕ). Stand n past) e h))

pub all_later_pushed : (code : ℕ → ℕ) (f : FrameState) (first xs : List StepRecord) (ms : List HandlerPhase) → f.frames ≡ [] → ArePushed (later_from code (steps_from code Outside f [] first) ms xs)
all_later_pushed code f first xs ms none =
    let level : 0 ≡ length f.frames = sym (ap (λ (fs : List Frame). length fs) none) in
    later_pushed code (steps_from code Outside f [] first) ms xs (steps_stand code Outside f [] first level (none_stand 0 refl)) (all_pushed code f first none)
