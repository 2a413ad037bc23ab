-- What an outcome, an interrupt or a turn of waiting leaves, beside the registers: the same for the
-- processor and for a machine with unbounded frames ('profile' for the turn as the unit of time;
-- the effects are those of the manual's chapters on the options).
--
-- Profile: only an instruction that falls through can go back in a loop.
-- Note: `after_outcome` of a step of windows leaves the core at the instruction. The processor has
-- its own cases; the machine with frames takes this one for all but ENTRY and RETW, and there the
-- instruction is a breach.
use Rattle.std.specs.Prelude.{ℕ, ◌+◌, ◌-◌, ◌*◌, ◌/◌, ◌%◌, ◌^◌, if◌then◌else◌, Option, Some, None}
use Rattle.std.specs.Prelude.{slice_set}
use Rattle.xt_map.specs.declared.access.Access.{Access}
use Rattle.xt_trace.specs.declared.record.StepKind.{StepKind}
use Rattle.xt_trace.specs.declared.record.StepKind.TheVariants as kind
use Rattle.xt_trace.specs.declared.record.RegWrite.{RegWrite}
use Rattle.xt_special.specs.Numbers as number
use Rattle.xt_special.specs.Control.{Control, special_of}
use Rattle.xt_special.specs.Access.{with_sets}
use Rattle.xt_special.specs.Timers.{after_tick}
use Rattle.xt_special.specs.Exceptions.{after_exception}
use Rattle.xt_special.specs.Interrupts.{after_interrupt}
use Rattle.xt_special.specs.Looping.{loops_back}
use Rattle.xt_rows.specs.declared.outcome.ReplyTarget.{ReplyTarget}
use Rattle.xt_rows.specs.declared.outcome.Flow.{Flow}
use Rattle.xt_rows.specs.declared.outcome.Flow.TheVariants.{Falls, Goes}
use Rattle.xt_rows.specs.declared.outcome.Effect.{Effect}
use Rattle.xt_rows.specs.Numbers.{loaded_value}
use Rattle.xt_rows.specs.declared.outcome.Outcome.{Outcome}
use Rattle.xt_rows.specs.declared.outcome.Outcome.TheVariants.{Does, Raises, Asks, Stops, Windowed}

-- ---- an effect on the control state

-- An instruction that falls through may go back in a loop. A jump, a taken branch, a
-- call or a return never does.
abbrev pub after_flow : Flow → ℕ → Control → Control
after_flow Falls len c =
    let next = (c.pc + len) % 2 ^ 32 in
    if loops_back (special_of c number.lend) (special_of c number.lcount) c.ps.excm next
    then record c {
      pc = special_of c number.lbeg;
      special = slice_set c.special number.lcount (special_of c number.lcount - 1);
    }
    else record c { pc = next }
after_flow (Goes target) len c = record c { pc = target }

-- the effect comes first, and then the loop's test
unfoldable pub after_effect : Effect → ℕ → Control → Control
after_effect e len c =
    after_flow e.flow len (record {
      pc = c.pc;
      special = with_sets e.sets c.special;
      ps = e.ps;
      threadptr = e.threadptr;
      waits = e.waits;
    })

-- ---- what a turn was, and what it leaves

pub data Kind : Type 0 where
  -- an instruction was executed
  Executed : Kind
  -- an exception of this cause was entered
  Raised : ℕ → Kind
  -- an interrupt of this level was taken
  Taken : ℕ → Kind
  Waited : Kind
  Stopped : Kind

pub record Settled : Type 0 where
  pub kind : Kind
  -- the register that is written, where the value is known without a reply
  pub write : Option RegWrite
  pub access : Option Access
  -- the register that receives the reply
  pub awaited : Option ReplyTarget
  pub control : Control

abbrev pub without_access : Kind → Option RegWrite → Control → Settled
without_access kind write c =
    record { kind = kind; write = write; access = None; awaited = None; control = after_tick c }

abbrev pub settled_exception : ℕ → Option ℕ → Control → Settled
settled_exception cause address c =
    without_access (Raised cause) None (after_exception cause address c)

abbrev pub settled_interrupt : ℕ → Control → Settled
settled_interrupt level c = without_access (Taken level) None (after_interrupt level c)

abbrev pub settled_wait : Control → Settled
settled_wait c = without_access Waited None c

-- an instruction of this length
abbrev pub after_outcome : Outcome → ℕ → Control → Settled
after_outcome (Does e) len c = without_access Executed e.write (after_effect e len c)
after_outcome (Raises cause address) len c = settled_exception cause address c
after_outcome (Asks access awaited e) len c =
    record {
      kind = Executed;
      write = None;
      access = Some access;
      awaited = awaited;
      control = after_tick (after_effect e len c);
    }
after_outcome Stops len c = without_access Stopped None c
-- The processor has its own case for each step of windows, and never comes here with one. The
-- machine with unbounded frames has its own cases for ENTRY and RETW alone: any other step of
-- windows is a breach there, and does nothing here but end its turn.
after_outcome (Windowed step) len c = without_access Executed None c

-- ---- what the record of a turn shows of it

abbrev pub kind_of : Kind → StepKind
kind_of Executed = kind.Insn
kind_of (Raised cause) = kind.Exc cause
kind_of (Taken level) = kind.Interrupt level
kind_of Waited = kind.Wait
kind_of Stopped = kind.Stop

-- ---- the reply: what the register that awaited it receives

abbrev pub reply_write : ReplyTarget → ℕ → RegWrite
reply_write a reply = record { reg = a.number; value = loaded_value a.signed reply }

abbrev pub write_with_reply : Option RegWrite → Option ReplyTarget → ℕ → Option RegWrite
write_with_reply write None reply = write
write_with_reply write (Some a) reply = Some (reply_write a reply)

-- ---- a return (chapter 'Windowed Register Option', RETW)

-- by how many windows it goes back: the top two bits of a0
abbrev pub return_size : ℕ → ℕ
return_size a0 = a0 / 2 ^ 30

-- where it goes: a0 has the low 30 bits
abbrev pub return_pc : ℕ → ℕ → ℕ
return_pc pc a0 = pc / 2 ^ 30 * 2 ^ 30 + a0 % 2 ^ 30
