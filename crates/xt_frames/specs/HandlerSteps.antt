-- Which records are handler steps ('profile'): a machine of phases over the records of one core.
-- From the record of a window exception on through the next RFWO or RFWU, or to the end of the
-- trace, but for nested interrupts: those of level 5, each through its RFI 5.
--
-- Profile: `HandlerSteps` reads the records of a core in three phases: outside handler steps, in
-- handler steps, in a nested interrupt.
use Rattle.std.specs.Prelude.{ℕ, Bool, true, false, if◌then◌else◌}
use Rattle.xt_isa.specs.declared.Insn.{Insn}
use Rattle.xt_isa.specs.declared.Insn.TheVariants as insn
use Rattle.xt_isa.specs.declared.system.System.TheVariants as system
use Rattle.xt_isa.specs.declared.system.ExceptionReturnName.TheVariants as ExceptionReturnName
use Rattle.xt_trace.specs.declared.record.StepKind.{StepKind}
use Rattle.xt_trace.specs.declared.record.StepKind.TheVariants as kind
use Rattle.xt_trace.specs.declared.record.StepRecord.{StepRecord}
use Rattle.xt_map.specs.Fetching.{Fetched, Fetches, Fails, SpellsNothing, fetch_at}
use Rattle.xt_frames.specs.declared.kinds.HandlerPhase.{HandlerPhase}
use Rattle.xt_frames.specs.declared.kinds.HandlerPhase.TheVariants.{Outside, InHandler, Nested}
use Rattle.xt_frames.specs.Nesting.{ends_nested, is_nesting}

unfoldable pub ends_stretch : Insn → Bool
ends_stretch (insn.System (system.ExceptionReturn ExceptionReturnName.Rfwo)) = true
ends_stretch (insn.System (system.ExceptionReturn ExceptionReturnName.Rfwu)) = true
ends_stretch _ = false

abbrev pub fetched_ends : Fetched → Bool
fetched_ends (Fetches i len) = ends_stretch i
fetched_ends (Fails address) = false
fetched_ends SpellsNothing = false

abbrev pub is_window : StepKind → Bool
is_window (kind.Window vector) = true
is_window _ = false

-- a record of kind Insn whose instruction is RFWO or RFWU, by the bytes at the record's PC
abbrev pub closes : (ℕ → ℕ) → StepKind → ℕ → Bool
closes code kind.Insn pc = fetched_ends (fetch_at code pc)
closes code _ pc = false

-- a record of kind Insn whose instruction is RFI 5
abbrev pub fetched_returns : Fetched → Bool
fetched_returns (Fetches i len) = ends_nested i
fetched_returns (Fails address) = false
fetched_returns SpellsNothing = false

abbrev pub returns : (ℕ → ℕ) → StepKind → ℕ → Bool
returns code kind.Insn pc = fetched_returns (fetch_at code pc)
returns code _ pc = false

-- Outside handler steps, a record of kind Window is a handler step; in handler steps each record is
-- one, but an interrupt of level 5, which is nested; in a nested interrupt each record is nested.
abbrev pub phase_after : (ℕ → ℕ) → HandlerPhase → StepRecord → HandlerPhase
phase_after code Outside rec = if is_window rec.kind then InHandler else Outside
phase_after code InHandler rec =
    if is_nesting rec.kind then Nested
    else (if closes code rec.kind rec.pc then Outside else InHandler)
phase_after code Nested rec = if returns code rec.kind rec.pc then InHandler else Nested
