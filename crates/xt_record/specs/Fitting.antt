-- Numbers of a run that its rules leave open, in the ranges of their types ('profile').
--
-- Note: `FitsRun` is the condition of the round trip: VECBASE, operands and replies below 2^32, as
-- their types have it.
use Rattle.std.specs.Prelude.{◌<◌, ◌^◌, All}
use Rattle.xt_map.specs.declared.access.Entry.{Entry}
use Rattle.xt_trace.specs.declared.run.Run.{Run}
use Rattle.xt_record.specs.RecordingParts.{first_operand, second_operand}

-- both operands of an entry, and its reply
pub record HasWords (e : Entry) : Type 0 where
  pub first : first_operand e.access.kind < 2 ^ 32
  pub second : second_operand e.access.kind < 2 ^ 32
  pub reply : e.reply < 2 ^ 32

pub record FitsRun (r : Run) : Type 0 where
  pub vecbase : r.options.vecbase < 2 ^ 32
  pub entries : All HasWords r.history
