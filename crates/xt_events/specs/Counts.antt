-- How often a core executed the instruction at each address ('profile').
--
-- Profile: executed are the kinds `insn` and `stop`. `window` and `exc` raised: the turn tried the
-- instruction at its PC, or could not fetch one, and an entry into a handler came in its place.
-- `int` and `wait` count nowhere, since they ask for no instruction.
-- Profile: taken counts the turns that executed a branch and after which the core stands at the
-- branch's target. It is the edge that is counted, not the condition: a branch to the next
-- instruction is taken whenever it is executed.
-- Note: the PC after a turn is that of the core's next record, and after the last one the PC at
-- which its trace ends.
-- Note: `AreCounts` says that the addresses rise, and what a look-up at each address finds. So
-- there is one list.
use Rattle.std.specs.Prelude.{◌≡◌, ℕ, suc, Bool, true, false, ◌==◌, ◌&&◌, if◌then◌else◌}
use Rattle.std.specs.Prelude.{Option, Some, None, List, [], ◌∷◌}
use Rattle.std.specs.Ordering.{nat_cmp}
use Rattle.std.specs.List.Sorted.{IsStrictlySortedBy}
use Rattle.std.specs.Map.{keys_of, lookup}
use Rattle.std.specs.BTreeMap.{is_at}
use Rattle.xt_isa.specs.declared.control.LoopName.TheVariants as loop_name
use Rattle.xt_names.specs.declared.mnemonic.OneAndTarget.TheVariants as one_target
use Rattle.xt_names.specs.declared.parts.Parts.{Parts}
use Rattle.xt_names.specs.declared.parts.Parts.TheVariants as parts
use Rattle.xt_names.specs.InsnParts.{parts_of}
use Rattle.xt_disasm.specs.Operands.{jump_address}
use Rattle.xt_map.specs.Fetching.{Fetched, Fetches, Fails, SpellsNothing, fetch_at}
use Rattle.xt_trace.specs.declared.record.StepKind.{StepKind}
use Rattle.xt_trace.specs.declared.record.StepKind.TheVariants.{Insn, Window, Exc, Stop}
use Rattle.xt_trace.specs.declared.record.StepRecord.{StepRecord}
use Rattle.xt_events.specs.declared.tally.Tally.{Tally}
use Rattle.xt_events.specs.declared.turn.Turn.{Turn}

-- ---- turns

-- the PC before the first of these records; this address where there is none
abbrev pub first_pc : List StepRecord → ℕ → ℕ
first_pc [] last = last
first_pc (x ∷ xs) last = x.pc

-- each record as a turn: its PC, its kind, and the PC after it, which is that of the next record,
-- and behind the last one this address
abbrev pub turns : List StepRecord → ℕ → List Turn
turns [] last = []
turns (x ∷ xs) last =
    record { pc = x.pc; kind = x.kind; next = first_pc xs last } ∷ turns xs last

-- the turn executed the instruction at its PC
abbrev pub is_executed : StepKind → Bool
is_executed Insn = true
is_executed Stop = true
is_executed _ = false

-- the turn tried it, and an exception or a window exception came in its place
abbrev pub is_raised : StepKind → Bool
is_raised (Window vector) = true
is_raised (Exc cause) = true
is_raised _ = false

-- ---- branches

-- The target of a conditional branch at an address, or of LOOPNEZ and LOOPGTZ, which go there where
-- they leave out the loop. LOOP itself never goes there.
abbrev pub branch_target : Parts → ℕ → Option ℕ
branch_target (parts.OneAndTarget (one_target.Loop loop_name.Loop) (s, d)) pc = None
branch_target (parts.OneAndTarget name (s, d)) pc = Some (jump_address pc d)
branch_target (parts.OneNumberAndTarget name (s, n, d)) pc = Some (jump_address pc d)
branch_target (parts.TwoAndTarget name (s, t, d)) pc = Some (jump_address pc d)
branch_target p pc = None

abbrev pub target_in : Fetched → ℕ → Option ℕ
target_in (Fetches i len) pc = branch_target (parts_of i) pc
target_in (Fails a) pc = None
target_in SpellsNothing pc = None

-- that of the instruction at an address, where it is such a one
abbrev pub target_at : (ℕ → ℕ) → ℕ → Option ℕ
target_at code a = target_in (fetch_at code a) a

abbrev pub goes_to : Option ℕ → ℕ → Bool
goes_to None next = false
goes_to (Some target) next = next == target

-- ---- counts

-- how many of these turns pass a test
abbrev pub count : (Turn → Bool) → List Turn → ℕ
count test [] = 0
count test (t ∷ ts) = if test t then suc (count test ts) else count test ts

abbrev pub executes : ℕ → Turn → Bool
executes a t = t.pc == a && is_executed t.kind

abbrev pub raises : ℕ → Turn → Bool
raises a t = t.pc == a && is_raised t.kind

-- the turn executed the branch at an address, and the core went on at the branch's target
abbrev pub takes : Option ℕ → ℕ → Turn → Bool
takes target a t = executes a t && goes_to target t.next

-- what is counted at an address
abbrev pub tally : (ℕ → ℕ) → List Turn → ℕ → Tally
tally code ts a = record {
  executed = count (executes a) ts;
  raised = count (raises a) ts;
  target = target_at code a;
  taken = count (takes (target_at code a) a) ts;
}

-- nothing where no turn executed or tried the instruction there
abbrev pub unless_none : Tally → Option Tally
unless_none y = if y.executed == 0 && y.raised == 0 then None else Some y

-- Each address at which a turn executed or tried an instruction has one entry, with what is counted
-- there, and the addresses rise.
pub record AreCounts (code : ℕ → ℕ) (ts : List Turn) (entries : List (ℕ × Tally)) : Type 0 where
  pub rising : IsStrictlySortedBy nat_cmp (keys_of entries)
  pub counted : (a : ℕ) → lookup (is_at (nat_cmp a)) entries ≡ unless_none (tally code ts a)
