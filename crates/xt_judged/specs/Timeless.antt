-- Carries a proof; nothing that a reader must believe.
-- Steps of the machine with unbounded frames that use time.
use Rattle.std.specs.Prelude.{ℕ, Bool, ◌==◌, ◌||◌, not, bit_and}
use Rattle.xt_special.specs.Numbers as number
use Rattle.xt_special.specs.Control.{special_of}
use Rattle.xt_map.specs.Fetching.{fetch_at}
use Rattle.xt_frames.specs.Frames.{FrameState}
use Rattle.xt_frames.specs.Nesting.{current}
use Rattle.xt_timeless.specs.Time.{fetches_time, timer_bits}

-- INTENABLE has the bit of a timer, or the instruction at the program counter is RSR or XSR of a
-- register of time
abbrev pub frame_uses_time : (ℕ → ℕ) → FrameState → Bool
frame_uses_time code f =
    not (bit_and (special_of (current f).control number.intenable) timer_bits == 0)
    || fetches_time (fetch_at code (current f).control.pc)
