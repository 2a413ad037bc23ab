-- The steps of a core from the cut on ('profile').
--
-- Profile: from the cut on frames mean nothing, so the functions of a core change only by what its
-- code executes. An ENTRY calls the function at its own PC, and a RETW or RETW.N returns from the
-- last function, if that is not the opening one. At the cut a core is in the functions of the frames
-- that stand there. InHandler steps, exceptions, interrupts and waiting change no function.
-- Note: these steps stand in front of those before the cut and look like them, so `Keys` says the
-- keys of both. In a step after the cut, `before` and `after` are how many functions stand apart
-- from the opening one.
use Rattle.std.specs.Prelude.{ℕ, ◌+◌, ◌-◌, List, [], ◌∷◌, length, take}
use Rattle.xt_isa.specs.declared.Insn.{Insn}
use Rattle.xt_isa.specs.declared.Insn.TheVariants as insn
use Rattle.xt_isa.specs.declared.control.Control.TheVariants as control
use Rattle.xt_isa.specs.declared.control.ReturnName.TheVariants as ret
use Rattle.xt_isa.specs.declared.density.Density.TheVariants as density
use Rattle.xt_isa.specs.declared.density.BareName.TheVariants as narrow
use Rattle.xt_map.specs.Fetching.{Fetched, Fetches, Fails, SpellsNothing, fetch_at}
use Rattle.xt_trace.specs.declared.record.StepKind.{StepKind}
use Rattle.xt_trace.specs.declared.record.StepKind.TheVariants as kind
use Rattle.xt_trace.specs.declared.record.StepRecord.{StepRecord}
use Rattle.xt_frames.specs.declared.kinds.HandlerPhase.{HandlerPhase}
use Rattle.xt_frames.specs.declared.kinds.HandlerPhase.TheVariants.{Outside, InHandler, Nested}
use Rattle.xt_profile.specs.declared.changes.Change.{Change}
use Rattle.xt_profile.specs.declared.changes.Change.TheVariants.{Stays, Calls, Returns}
use Rattle.xt_profile.specs.Steps.{Step, frames_standing}

-- what an instruction does to the functions of a core
unfoldable pub change_by : Insn → Change
change_by (insn.Control (control.Entry s n)) = Calls
change_by (insn.Control (control.Return ret.Retw)) = Returns
change_by (insn.Density (density.Bare narrow.Retw)) = Returns
change_by _ = Stays

abbrev pub change_fetched : Fetched → Change
change_fetched (Fetches i len) = change_by i
change_fetched (Fails address) = Stays
change_fetched SpellsNothing = Stays

-- only a record of kind Insn is one of an instruction that may be any of these and was executed
abbrev pub change_of : (ℕ → ℕ) → StepKind → ℕ → Change
change_of code kind.Insn pc = change_fetched (fetch_at code pc)
change_of code _ pc = Stays

abbrev pub change_at : (ℕ → ℕ) → HandlerPhase → StepRecord → Change
change_at code Outside rec = change_of code rec.kind rec.pc
change_at code InHandler rec = Stays
change_at code Nested rec = change_of code rec.kind rec.pc

-- how many functions stand after it, where so many stood before, both without the opening one
abbrev pub calls_after : Change → ℕ → ℕ
calls_after Stays n = n
calls_after Calls n = n + 1
calls_after Returns n = n - 1

abbrev pub step_with_change : ℕ → HandlerPhase → Change → List Step → Step
step_with_change pc phase change past = record {
  pc = pc;
  phase = phase;
  before = frames_standing past;
  after = calls_after change (frames_standing past);
}

-- the steps of these records in front of those in `past`, where each record is what its phase says
abbrev pub later_from : (ℕ → ℕ) → List Step → List HandlerPhase → List StepRecord → List Step
later_from code past [] xs = past
later_from code past (phase ∷ phases) [] = past
later_from code past (phase ∷ phases) (x ∷ xs) =
    later_from code (step_with_change x.pc phase (change_at code phase x) past ∷ past) phases xs

-- what stands in front of the last ones, where `all` ends with as many as `last` has
abbrev pub in_front : {A : Type 0} → List A → List A → List A
in_front all last = take (length all - length last) all
