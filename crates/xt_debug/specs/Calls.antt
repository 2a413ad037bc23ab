-- What `calls C` prints: the frames of a core, a line each ('profile').
--
-- Note: the frames are those of the judge's walk (`frame_at`), and no register of the processor is
-- read for them.
use Rattle.std.specs.Prelude.{ℕ, zero, suc, ◌-◌, ◌*◌, ◌==◌, if◌then◌else◌, Option, Some, None, List}
use Rattle.std.specs.Prelude.{[], ◌++◌, length, codes}
use Rattle.std.specs.Fmt.{decimal}
use Rattle.xt_word.specs.Hexadecimal.{hex8}
use Rattle.xt_trace.specs.declared.run.Run.{Run}
use Rattle.xt_frames.specs.Backtrace.{address_of_frame, size_of_frame, sp_of_frame}
use Rattle.xt_frames.specs.Frames.{FrameState}
use Rattle.xt_frames.specs.Walked.{calls_in, stack_of}

-- an address, or `--------` where it is not known
abbrev pub address_text : Option ℕ → List ℕ
address_text None = codes "--------"
address_text (Some address) = hex8 address

-- ` call N` of a frame that called another by CALL4, CALL8 or CALL12
abbrev pub call_mark : FrameState → ℕ → List ℕ
call_mark f j =
    if j == length f.frames
    then []
    else codes " call " ++ decimal (4 * calls_in f.frames (length f.frames - 1 - j))

-- `J pc ADDR sp ADDR size N call N`: frame J goes on at the first address, begins at the second, and
-- has so many bytes; HI is the end of the core's stack
unfoldable pub call_line : ℕ → FrameState → ℕ → List ℕ
call_line hi f j =
    decimal j ++ codes " pc " ++ address_text (address_of_frame f j)
    ++ codes " sp " ++ hex8 (sp_of_frame f j)
    ++ codes " size " ++ decimal (size_of_frame hi f j) ++ call_mark f j ++ codes "\n"

-- frame J and its callers, down to the opening frame
abbrev pub call_lines : ℕ → FrameState → ℕ → List ℕ
call_lines hi f zero = call_line hi f 0
call_lines hi f (suc j) = call_line hi f (suc j) ++ call_lines hi f j

abbrev pub calls_of : ℕ → Option FrameState → List ℕ
calls_of hi None = codes " none\n"
calls_of hi (Some f) = codes "\n" ++ call_lines hi f (length f.frames)

-- `calls C`, and all frames of the core, the newest first; or `calls C none`
unfoldable pub calls_text : ℕ → ℕ → Option FrameState → List ℕ
calls_text core hi found = codes "calls " ++ decimal core ++ calls_of hi found

abbrev pub stack_end : ℕ → Run → ℕ
stack_end core r = (stack_of core r.options).hi
