-- What the definition of the verdict sees in a record, by what it is to a judge.
use Rattle.std.proofs.Common.{◌≡◌, ℕ, Bool, true, false, cond, refl, sym, ◌∙◌, ap}
use Rattle.xt_trace.specs.declared.record.StepRecord.{StepRecord}
use Rattle.xt_frames.specs.declared.kinds.HandlerPhase.{HandlerPhase}
use Rattle.xt_frames.specs.declared.kinds.HandlerPhase.TheVariants.{Outside, InHandler, Nested}
use Rattle.xt_frames.specs.Breaches.{Bounds, inputs_of, window_breach}
use Rattle.xt_frames.specs.FrameStep.{with_inputs}
use Rattle.xt_frames.specs.HandlerSteps.{closes, is_window, phase_after}
use Rattle.xt_frames.specs.Judging.{Standing, Seen, handled_record, seen_in, seen_judged, seen_record, seen_window}
use Rattle.xt_frames.specs.Nesting.{current, is_nesting}
use Rattle.xt_discipline.specs.declared.roles.Role.{Role}
use Rattle.xt_discipline.specs.declared.roles.Role.TheVariants.{Own, Entry, HandlerStep, NestedStep}
use Rattle.xt_discipline.specs.Phases.{role_of}

pub chosen : {A B : Type 0} (f : A → B) (b : Bool) (x y : A) → cond b (f x) (f y) ≡ f (cond b x y)
chosen f true x y = refl
chosen f false x y = refl

abbrev pub seen_as : (ℕ → ℕ) → Bounds → Standing → (ℕ → Bool) → (ℕ → Bool) → StepRecord → Role → Seen
seen_as code b st others stale rec Own = seen_judged code b st others stale false rec
seen_as code b st others stale rec Entry = seen_window (window_breach code rec.kind (with_inputs (inputs_of rec) (current st.frame))) st.frame
seen_as code b st others stale rec HandlerStep = handled_record code st rec
seen_as code b st others stale rec NestedStep = seen_judged code b st others stale true rec

pub seen_in_role : (code : ℕ → ℕ) (b : Bounds) (st : Standing) (others stale : ℕ → Bool) (rec : StepRecord) (p : HandlerPhase) → seen_in p code b st others stale rec ≡ seen_as code b st others stale rec (role_of p rec.kind)
seen_in_role code b st others stale rec Outside = chosen (seen_as code b st others stale rec) (is_window rec.kind) Entry Own
seen_in_role code b st others stale rec InHandler = chosen (seen_as code b st others stale rec) (is_nesting rec.kind) NestedStep HandlerStep
seen_in_role code b st others stale rec Nested = refl

pub seen_is : (code : ℕ → ℕ) (b : Bounds) (st : Standing) (others stale : ℕ → Bool) (rec : StepRecord) (role : Role) → role ≡ role_of st.phase rec.kind → seen_record code b st others stale rec ≡ seen_as code b st others stale rec role
seen_is code b st others stale rec role e = seen_in_role code b st others stale rec st.phase ∙ ap (λ (r : Role). seen_as code b st others stale rec r) (sym e)

-- a record that is nested outside nested interrupts begins one
begins_one : (n : Bool) (other : HandlerPhase) → NestedStep ≡ cond n NestedStep HandlerStep → cond n Nested other ≡ Nested
begins_one true other e = refl
begins_one false other e = absurd (cc)

no_nested : (w : Bool) → NestedStep ≡ cond w Entry Own → ⊥
no_nested true e = cc
no_nested false e = cc

pub nests : (code : ℕ → ℕ) (p : HandlerPhase) (rec : StepRecord) → (p ≡ Nested → ⊥) → NestedStep ≡ role_of p rec.kind → phase_after code p rec ≡ Nested
nests code Outside rec off e = absurd (no_nested (is_window rec.kind) e)
nests code InHandler rec off e = begins_one (is_nesting rec.kind) (cond (closes code rec.kind rec.pc) Outside InHandler) e
nests code Nested rec off e = absurd (off refl)
