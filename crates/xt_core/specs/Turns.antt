-- Carries a proof; nothing that a reader must believe.
-- The record of a turn, and its two halves, in the words of the turn ('profile').
use Rattle.std.specs.Prelude.{◌≡◌, ℕ, true, Option, Some, None}
use Rattle.xt_map.specs.declared.access.Access.{Access}
use Rattle.xt_map.specs.Regions.{is_mapped}
use Rattle.xt_special.specs.Numbers as number
use Rattle.xt_special.specs.Control.{special_of}
use Rattle.xt_trace.specs.declared.record.StepRecord.{StepRecord}
use Rattle.xt_rows.specs.RowLaws.{IsRegister}
use Rattle.xt_exec.specs.declared.plans.Effect.{Effect}
use Rattle.xt_exec.specs.declared.plans.Pending.{Pending}
use Rattle.xt_exec.specs.State.{State}
use Rattle.xt_exec.specs.Turn.{demand, turn}
use Rattle.xt_core.specs.Cores.{Awaits}
use Rattle.xt_core.specs.declared.begun.StartedTurn.{StartedTurn}
use Rattle.xt_core.specs.declared.begun.StartedTurn.TheVariants.{Local, Asks}
use Rattle.xt_core.specs.declared.record.Head.{Head}

-- what a record keeps of the state in which the turn begins
abbrev pub head_of : State → Head
head_of s = record {
  pc = s.control.pc;
  ccount = special_of s.control number.ccount;
  owb = s.control.ps.owb;
  interrupt = special_of s.control number.interrupt;
}

-- the record of a turn that began so
abbrev pub turn_record : Head → Effect → Option Access → ℕ → StepRecord
turn_record h e access reply = record {
  pc = h.pc;
  kind = e.kind;
  write = e.write;
  access = access;
  reply = reply;
  ccount = h.ccount;
  owb = h.owb;
  interrupt = h.interrupt;
}

-- A turn that asks for no access is done, whatever the reply.
pub record IsLocal (code : ℕ → ℕ) (before after : State) (r : StepRecord) : Type 0 where
  pub asks_nothing : demand code before ≡ None
  pub turn : (reply : ℕ) → (r, after) ≡ turn code before reply

-- A turn that asks waits for the reply, and has changed nothing.
pub record IsHalf (code : ℕ → ℕ) (before after : State) (p : Pending) : Type 0 where
  pub asks : demand code before ≡ Some p.access
  pub mapped : is_mapped p.access ≡ true
  pub unchanged : after ≡ before
  pub awaits : Awaits code before p
  pub target : IsRegister p.target

abbrev pub IsBegun : StartedTurn → (ℕ → ℕ) → State → State → Type 0
IsBegun (Local r) code before after = IsLocal code before after r
IsBegun (Asks p) code before after = IsHalf code before after p
