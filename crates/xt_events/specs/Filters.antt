-- Which turns of a run are printed ('profile').
--
-- Profile: a filter says of a turn whether it has a line (`holds`). A jump is judged by where the
-- core goes on, not by the instruction: `jumps` compares the program counter after the turn with PC
-- and the length of the instruction.
use Rattle.std.specs.Prelude.{ℕ, ◌+◌, Bool, true, false, ◌==◌, ◌&&◌, ◌||◌, not, Option, Some, None}
use Rattle.std.specs.Prelude.{is_some}
use Rattle.xt_map.specs.Fetching.{Fetched, Fetches, Fails, SpellsNothing, fetch_at}
use Rattle.xt_trace.specs.declared.record.StepKind.{StepKind}
use Rattle.xt_trace.specs.declared.record.StepKind.TheVariants.{Insn, Window, Exc, Interrupt, Wait}
use Rattle.xt_trace.specs.declared.record.StepKind.TheVariants.{Stop}
use Rattle.xt_trace.specs.declared.record.StepRecord.{StepRecord}
use Rattle.xt_events.specs.declared.filter.Filter.{Filter}
use Rattle.xt_events.specs.declared.told.TurnLine.{TurnLine}

-- nothing is asked for
abbrev pub everything : Filter
everything = record { core = None; accesses = false; jumps = false }

-- a core is the one that is asked for, if any is
abbrev pub is_of : Option ℕ → ℕ → Bool
is_of None core = true
is_of (Some wanted) core = core == wanted

-- the next program counter is not that behind the instruction that an address fetches
abbrev pub is_elsewhere : Fetched → ℕ → ℕ → Bool
is_elsewhere (Fetches i len) pc next = not (pc + len == next)
is_elsewhere (Fails a) pc next = true
is_elsewhere SpellsNothing pc next = true

-- The core goes on elsewhere than behind the instruction: the turn executed an instruction, and the
-- next program counter is not behind it; or it entered a vector. A core that waits or has stopped
-- goes nowhere.
abbrev pub jumps_by : StepKind → Bool → Bool
jumps_by Insn elsewhere = elsewhere
jumps_by (Window vector) elsewhere = true
jumps_by (Exc cause) elsewhere = true
jumps_by (Interrupt level) elsewhere = true
jumps_by Wait elsewhere = false
jumps_by Stop elsewhere = false

abbrev pub jumps : (ℕ → ℕ) → StepRecord → ℕ → Bool
jumps code r next = jumps_by r.kind (is_elsewhere (fetch_at code r.pc) r.pc next)

-- a turn with this record is of the core that is asked for, has an access if accesses are asked for,
-- and jumps if jumps are asked for
unfoldable pub holds : (ℕ → ℕ) → Filter → TurnLine → StepRecord → Bool
holds code f t r =
    is_of f.core t.core
    && (not f.accesses || is_some r.access)
    && (not f.jumps || jumps code r t.next)
