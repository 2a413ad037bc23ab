-- What each record of a core is to a judge, and which are handler steps or nested ('profile').
use Rattle.std.specs.Prelude.{ℕ, if◌then◌else◌, List, [], ◌∷◌}
use Rattle.xt_trace.specs.declared.record.StepKind.{StepKind}
use Rattle.xt_trace.specs.declared.record.StepRecord.{StepRecord}
use Rattle.xt_frames.specs.declared.kinds.HandlerPhase.{HandlerPhase}
use Rattle.xt_frames.specs.declared.kinds.HandlerPhase.TheVariants.{Outside, InHandler, Nested}
use Rattle.xt_frames.specs.HandlerSteps.{is_window, phase_after}
use Rattle.xt_frames.specs.Nesting.{is_nesting}
use Rattle.xt_discipline.specs.declared.roles.Role.{Role}
use Rattle.xt_discipline.specs.declared.roles.Role.TheVariants.{Own, Entry, HandlerStep, NestedStep}

-- what a record of this kind is, in the phase before it
abbrev pub role_of : HandlerPhase → StepKind → Role
role_of Outside kind = if is_window kind then Entry else Own
role_of InHandler kind = if is_nesting kind then NestedStep else HandlerStep
role_of Nested kind = NestedStep

-- and the phase to which it belongs, with a record that begins handler steps or a nested interrupt
abbrev pub phase_of : Role → HandlerPhase
phase_of Own = Outside
phase_of Entry = InHandler
phase_of HandlerStep = InHandler
phase_of NestedStep = Nested

abbrev pub step_phase : HandlerPhase → StepKind → HandlerPhase
step_phase p kind = phase_of (role_of p kind)

abbrev pub phases_from : (ℕ → ℕ) → HandlerPhase → List StepRecord → List HandlerPhase
phases_from code p [] = []
phases_from code p (x ∷ xs) = step_phase p x.kind ∷ phases_from code (phase_after code p x) xs

-- of each of all the records of a core
abbrev pub phases_of : (ℕ → ℕ) → List StepRecord → List HandlerPhase
phases_of code xs = phases_from code Outside xs
