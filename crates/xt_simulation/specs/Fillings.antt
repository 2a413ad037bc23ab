-- The machine of frames over any contents ('profile'). Where the machine of uses knows nothing, it
-- has the numbers of a filling: in the new registers of ENTRY and of a nested interrupt, in a
-- callee's registers that the discipline forgets, and in the bits of a reply that are not known. In
-- the strict discipline, which knows nothing of PS.OWB, each step also has the filling's PS.OWB.
--
-- Profile: a filling has for each turn a number for each visible register, one for the reply and
-- one for PS.OWB. Of PS.OWB 4 bits are taken, of each other number 32.
-- Profile: the machine over a filling is that of `xt_frames`, in which MOVSP moves a1. It steps on
-- the inputs of the records, but in the strict discipline on the filling's PS.OWB (`filled_owb`).
-- Of a reply it has the bits that are known there, and the filling's bits elsewhere
-- (`filled_number`). After each step every visible register that has no number receives the
-- filling's (`filled_registers`). So do the new registers of ENTRY and of a nested interrupt, and
-- in the strict discipline the callee's registers after RETW, except its results a2 to a5
-- (`results_left`). In a nested interrupt registers with marks have numbers too, and a register
-- that receives a mark is written with the filling's number. Note: it is told CCOUNT, INTERRUPT and
-- where a nested interrupt begins, as the machine of uses is, and PS.OWB in the lenient discipline
-- alone. `DoesSame` and `StepsSame` of `FillingLaws` compare its steps with those of the machine of
-- uses, `FollowsRecord` with the records.
use Rattle.std.specs.Prelude.{ℕ, zero, suc, ◌*◌, ◌&&◌, ◌==◌, Bool, bit_or}
use Rattle.std.specs.Prelude.{if◌then◌else◌, Option, Some, None, List, [], ◌∷◌, slice_get}
use Rattle.xt_trace.specs.declared.record.RegWrite.{RegWrite}
use Rattle.xt_trace.specs.declared.record.StepRecord.{StepRecord}
use Rattle.xt_map.specs.Fetching.{fetch_at}
use Rattle.xt_frames.specs.declared.holes.Nested.{Nested}
use Rattle.xt_frames.specs.Frames.{Frame, FrameState}
use Rattle.xt_frames.specs.FrameStep.{FrameTurn}
use Rattle.xt_frames.specs.Nesting.{begins, current}
use Rattle.xt_frames.specs.Breaches.{inputs_of}
use Rattle.xt_frames.specs.Judging.{value_in}
use Rattle.xt_frames.specs.Verdict.{is_nested}
use Rattle.xt_frames.specs.FirstBreach.{Course, Turn, is_judged, phase_before}
use Rattle.xt_uses.specs.declared.discipline.Discipline.{Discipline}
use Rattle.xt_uses.specs.declared.discipline.Discipline.TheVariants.{Strict, Lenient}
use Rattle.xt_uses.specs.Words.{all_bits, masked, complement}
use Rattle.xt_uses.specs.UseStep.{step_insn, forgets_registers, left_of, reply_mask, value_step}
use Rattle.xt_uses.specs.FirstUse.{History}

-- ---- a filling

-- the numbers of one turn; of PS.OWB 4 bits are taken, and of each other number 32
pub record Numbers : Type 0 where
  -- of a visible register, by its number
  pub register : ℕ → ℕ
  pub reply : ℕ
  pub owb : ℕ

-- of each turn
abbrev pub Filling : Type 0
Filling = ℕ → Numbers

-- the known bits of a number, and the other bits of another
abbrev pub filled_number : ℕ → ℕ → ℕ → ℕ
filled_number mask known other = bit_or (masked mask known) (masked (complement mask) other)

abbrev pub filled_write : (ℕ → ℕ) → Option RegWrite → Option RegWrite
filled_write numbers None = None
filled_write numbers (Some w) = Some (record w { value = masked all_bits (numbers w.reg) })

-- PS.OWB at a step: the lenient discipline knows the record's, the strict one knows nothing of it
abbrev pub filled_owb : Discipline → ℕ → ℕ → ℕ
filled_owb Strict told other = other
filled_owb Lenient told other = told

-- A record, of whose reply these bits are known. The value of the register that it writes is looked
-- at where a mark is read, and nowhere else.
abbrev pub filled_record : Discipline → ℕ → Numbers → StepRecord → StepRecord
filled_record d mask n rec = record rec {
  reply = filled_number mask rec.reply n.reply;
  write = filled_write n.register rec.write;
  owb = filled_owb d rec.owb n.owb;
}

-- ---- registers: each that has no number receives its own

abbrev pub number_in : (ℕ → ℕ) → ℕ → Option ℕ → Option ℕ
number_in numbers i None = Some (masked all_bits (numbers i))
number_in numbers i (Some n) = Some n

-- of registers from number i on
abbrev pub filled_registers : (ℕ → ℕ) → ℕ → List (Option ℕ) → List (Option ℕ)
filled_registers numbers i [] = []
filled_registers numbers i (x ∷ xs) = number_in numbers i x ∷ filled_registers numbers (suc i) xs

abbrev pub numbered_inside : (ℕ → ℕ) → Option Nested → Option Nested
numbered_inside numbers None = None
numbered_inside numbers (Some x) = Some (record x { seen = filled_registers numbers 0 x.seen })

-- in a nested interrupt also those where marks stand
abbrev pub filled_state : (ℕ → ℕ) → FrameState → FrameState
filled_state numbers f = record f {
  seen = filled_registers numbers 0 f.seen;
  nested = numbered_inside numbers f.nested;
}

-- after a return that forgets registers, where the newest of these frames called
abbrev pub results_left : List Frame → FrameState → FrameState
results_left [] f = f
results_left (g ∷ rest) f = record f { seen = left_of None (4 * g.by) 0 f.seen }

-- ---- the step

-- on the inputs of a record, where `bytes` are the masks with which bytes are read
abbrev pub filled_step :
    Discipline → (ℕ → ℕ) → Bool → StepRecord → (ℕ → ℕ) → Numbers → FrameState → FrameTurn
filled_step d code nested rec bytes n f =
    let r = filled_record d (reply_mask bytes rec.access) n rec in
    let u = value_step code (begins nested r.kind f) (value_in r.write) (inputs_of r) f in
    let i = step_insn u.kind (fetch_at code (current f).control.pc) in
    record u {
      after =
          filled_state
          n.register
          (if forgets_registers d i then results_left f.frames u.after else u.after);
    }

-- ---- a run of it, over the records of a course

abbrev pub step_with :
    Discipline → Course → History → Filling → ℕ → ℕ → StepRecord → FrameState → FrameTurn
step_with d r h n p core rec f =
    filled_step d r.code (is_nested (phase_before r core p)) rec (h.mask p) (n p) f

abbrev pub filled_past :
    Discipline → Course → History → Filling → ℕ → ℕ → Option Turn → FrameState → FrameState
filled_past d r h n p core None f = f
filled_past d r h n p core (Some t) f =
    if (t.core == core) && is_judged (phase_before r core p) t.rec.kind
    then (step_with d r h n p core t.rec f).after
    else f

-- of a core, before turn p
abbrev pub filled_before : Discipline → Course → History → Filling → ℕ → ℕ → FrameState
filled_before d r h n core zero = r.opening core
filled_before d r h n core (suc p) =
    filled_past d r h n p core (slice_get r.turns p) (filled_before d r h n core p)

-- the step at turn p, which is this record of this core
abbrev pub filled_at : Discipline → Course → History → Filling → ℕ → ℕ → StepRecord → FrameTurn
filled_at d r h n p core rec = step_with d r h n p core rec (filled_before d r h n core p)
