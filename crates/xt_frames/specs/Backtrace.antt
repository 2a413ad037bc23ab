-- Where the frames of a core go on, and how large they are, by their numbers ('profile'): frame 0
-- is the opening frame, and the newest frame has the number of its callers.
use Rattle.std.specs.Prelude.{ℕ, zero, suc, ◌+◌, ◌-◌, ◌==◌, if◌then◌else◌, Option, Some, None}
use Rattle.std.specs.Prelude.{List, [], ◌∷◌, length, slice_index_or}
use Rattle.std.specs.Option.{option_map}
use Rattle.xt_rows.specs.Settling.{return_pc}
use Rattle.xt_frames.specs.Frames.{Frame, FrameState, value_or_zero}
use Rattle.xt_frames.specs.Walked.{sp_in}

-- the stack pointer of frame j
abbrev pub sp_of_frame : FrameState → ℕ → ℕ
sp_of_frame f j = sp_in f.frames (value_or_zero f.seen 1) (length f.frames - j)

-- the a0 of the frame that stands so many below the newest, whose own a0 is given; none where it
-- has no value
abbrev pub a0_in : List Frame → Option ℕ → ℕ → Option ℕ
a0_in [] a0 back = a0
a0_in (f ∷ fs) a0 zero = a0
a0_in (f ∷ fs) a0 (suc back) = a0_in fs (slice_index_or f.kept 0 None) back

abbrev pub a0_of_frame : FrameState → ℕ → Option ℕ
a0_of_frame f j = a0_in f.frames (slice_index_or f.seen 0 None) (length f.frames - j)

-- Where frame j goes on: the newest at PC, another where the frame that it called returns to, by
-- that frame's a0. The two top bits of a0 are the size of the call, and those of the address are
-- PC's.
abbrev pub address_of_frame : FrameState → ℕ → Option ℕ
address_of_frame f j =
    if j == length f.frames
    then Some f.control.pc
    else option_map (return_pc f.control.pc) (a0_of_frame f (j + 1))

-- The size of frame j: the bytes from its stack pointer up to its caller's, or for the opening frame
-- up to HI. It is what its ENTRY took, and what MOVSP has taken since.
abbrev pub size_of_frame : ℕ → FrameState → ℕ → ℕ
size_of_frame hi f zero = hi - sp_of_frame f 0
size_of_frame hi f (suc j) = sp_of_frame f j - sp_of_frame f (suc j)
