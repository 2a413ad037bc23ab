-- What the two halves of an instruction answer, in the words of the turn ('profile'). A turn ends
-- with the tick, which the halves leave to their caller.
--
-- Note: `Halves` says the turn of an instruction again in two parts for the code.
use Rattle.std.specs.Prelude.{◌≡◌, ℕ, ◌+◌, Bool, true, ◌==◌, if◌then◌else◌, Option, Some, None}
use Rattle.xt_map.specs.declared.access.Access.{Access}
use Rattle.xt_map.specs.Regions.{is_mapped}
use Rattle.xt_special.specs.Timers.{after_tick}
use Rattle.xt_window.specs.Ring.{size_at}
use Rattle.xt_window.specs.declared.windows.Overflow.{Overflow}
use Rattle.xt_trace.specs.declared.record.StepKind.{StepKind}
use Rattle.xt_trace.specs.declared.record.StepKind.TheVariants as kind
use Rattle.xt_trace.specs.declared.record.RegWrite.{RegWrite}
use Rattle.xt_rows.specs.declared.outcome.ReplyTarget.{ReplyTarget}
use Rattle.xt_rows.specs.Effects.{no_change}
use Rattle.xt_rows.specs.Settling.{after_effect, write_with_reply}
use Rattle.xt_rows.specs.RowLaws.{IsRegister}
use Rattle.xt_exec.specs.declared.plans.Plan.{Plan}
use Rattle.xt_exec.specs.declared.plans.Plan.TheVariants as plan
use Rattle.xt_exec.specs.declared.plans.Effect.{Effect}
use Rattle.xt_exec.specs.declared.plans.Pending.{Pending}
use Rattle.xt_exec.specs.State.{State}
use Rattle.xt_exec.specs.Turn.{Planned, with_write}

-- the state at the end of the turn
abbrev pub at_end : State → State
at_end s = record s { control = after_tick s.control }

-- a turn that asks for nothing and leaves this state, but for the register that it writes
abbrev pub quiet_turn : StepKind → Option RegWrite → State → Planned
quiet_turn kind write s =
    record { kind = kind; write = write; access = None; awaited = None; after = at_end s }

-- the register that receives the reply
abbrev pub reply_target : Option ℕ → Bool → Option ReplyTarget
reply_target None signed = None
reply_target (Some number) signed = Some (record { number = number; signed = signed })

-- once the reply is here, the instruction has no effect but to go on and to write the reply
abbrev pub gone_on : ℕ → State → State
gone_on len s =
    record s { control = after_effect (no_change s.control.ps s.control.threadptr) len s.control }

-- a turn that asks
abbrev pub asking_turn : Pending → State → Planned
asking_turn p s = record {
  kind = kind.Insn;
  write = None;
  access = Some p.access;
  awaited = reply_target p.target p.signed;
  after = at_end (gone_on p.len s);
}

-- An effect tells what a turn that asks for nothing was, and the register that it wrote; the state
-- is that of the turn before the tick.
pub record IsEffect (e : Effect) (s : State) (t : Planned) : Type 0 where
  pub no_access : t.access ≡ None
  pub no_awaited : t.awaited ≡ None
  pub told : e ≡ record { kind = t.kind; write = t.write }
  pub state : at_end s ≡ with_write t.write t.after

-- A turn that asks leaves the registers as they are. The bus serves its access.
pub record IsAsking (a : Access) (p : Pending) (before after : State) (t : Planned) : Type 0 where
  pub access : a ≡ p.access
  pub unchanged : after ≡ before
  pub turn : t ≡ asking_turn p before
  pub target : IsRegister p.target
  pub mapped : is_mapped a ≡ true

-- the first half of this turn
abbrev pub IsPlan : Plan → State → State → Planned → Type 0
IsPlan (plan.Done e) before after t = IsEffect e after t
IsPlan (plan.Bus a p) before after t = IsAsking a p before after t

-- the window that stands at this distance, if it is not 0
abbrev pub overflow_at : ℕ → State → Option Overflow
overflow_at distance s =
    if distance == 0 then None
    else Some (record { by = distance; size = size_at s.start (s.base + distance) })

-- the second half of the turn that asks
pub record IsFinished (e : Effect) (before after : State) (p : Pending) (reply : ℕ) : Type 0 where
  pub told : e
      ≡ record {
        kind = kind.Insn;
        write = write_with_reply None (reply_target p.target p.signed) reply;
      }
  pub state :
      after ≡ with_write (write_with_reply None (reply_target p.target p.signed) reply)
      (gone_on p.len before)
