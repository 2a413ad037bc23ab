-- The registers that an instruction reads and of which not every bit is known before its step
-- ('profile').
use Rattle.std.specs.Prelude.{ℕ, ◌==◌, nat_lt, if◌then◌else◌, Option, Some, None}
use Rattle.std.specs.Prelude.{slice_index_or}
use Rattle.xt_trace.specs.declared.record.StepRecord.{StepRecord}
use Rattle.xt_map.specs.Fetching.{Fetched, Fetches, fetch_at}
use Rattle.xt_rows.specs.Operands.{reads}
use Rattle.xt_frames.specs.declared.holes.Nested.{Nested}
use Rattle.xt_frames.specs.Breaches.{inputs_of}
use Rattle.xt_frames.specs.Frames.{FrameState, value_or_zero}
use Rattle.xt_frames.specs.FrameStep.{with_inputs}
use Rattle.xt_frames.specs.Nesting.{current}
use Rattle.xt_uses.specs.declared.lacking.Lack.{Lack}
use Rattle.xt_uses.specs.Words.{all_bits}
use Rattle.xt_uses.specs.UseState.{UseState, current_masks}

-- the mark that a visible register holds
abbrev pub mark_in : Option Nested → ℕ → Option ℕ
mark_in None n = None
mark_in (Some x) n = slice_index_or x.marks n None

-- a register of the state f that the step finds
abbrev pub lack_of : UseState → FrameState → ℕ → Option Lack
lack_of s f n =
    let mask = slice_index_or (current_masks s) n 0 in
    if mask == all_bits then None
    else Some (record {
      number = n;
      value = value_or_zero f.seen n;
      mask = mask;
      mark = mark_in s.frame.nested n;
    })

-- in the order of their numbers
abbrev pub lacks_among :
    UseState → FrameState → Option ℕ × Option ℕ → Option Lack × Option Lack
lacks_among s f (None, second) = (None, None)
lacks_among s f (Some x, None) = (lack_of s f x, None)
lacks_among s f (Some x, Some y) =
    if nat_lt x y then (lack_of s f x, lack_of s f y)
    else (if nat_lt y x then (lack_of s f y, lack_of s f x) else (lack_of s f x, None))

abbrev pub lacks_fetched : Fetched → UseState → FrameState → Option Lack × Option Lack
lacks_fetched (Fetches i len) s f = lacks_among s f (reads i)
lacks_fetched _ s f = (None, None)

-- of the instruction at the state's PC, before the step of a record
abbrev pub lacks_before : (ℕ → ℕ) → StepRecord → UseState → Option Lack × Option Lack
lacks_before code rec s =
    let f = with_inputs (inputs_of rec) (current s.frame) in
    lacks_fetched (fetch_at code f.control.pc) s f
