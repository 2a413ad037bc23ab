-- What the commands of scripts print ('profile').
--
-- Note: `special` shows what RSR reads, so INTERRUPT and PRID are there and INTSET and INTCLEAR,
-- which only WSR reaches, are not; THREADPTR, the one user register, stands last.
use Rattle.std.specs.Prelude.{ℕ, ◌+◌, ◌==◌, if◌then◌else◌, Option, Some, None}
use Rattle.std.specs.Prelude.{List, [], ◌++◌, codes, filter}
use Rattle.std.specs.List.{flat_map, range_with_len}
use Rattle.std.specs.Fmt.{decimal}
use Rattle.xt_word.specs.Hexadecimal.{hex8}
use Rattle.xt_isa.specs.Numbers as number
use Rattle.xt_isa.specs.Spelling.{can_read}
use Rattle.xt_names.specs.declared.forms.Access.TheVariants.{Read}
use Rattle.xt_names.specs.Specials.{special_name}
use Rattle.xt_special.specs.Access.{value_read}
use Rattle.xt_special.specs.Control.{ps_word, special_of}
use Rattle.xt_window.specs.Ring.{bit, visible}
use Rattle.xt_exec.specs.State.{State}
use Rattle.xt_events.specs.Lines.{hex4}

-- ---- `regs C`

-- `core C step N pc ADDR ps WORD wb D ws HHHH`, where N is the number of the core's next step
unfoldable pub core_line : ℕ → ℕ → State → List ℕ
core_line core step s =
    codes "core " ++ decimal core ++ codes " step " ++ decimal step
    ++ codes " pc " ++ hex8 s.control.pc ++ codes " ps " ++ hex8 (ps_word s.control.ps)
    ++ codes " wb " ++ decimal s.base ++ codes " ws " ++ hex4 s.start ++ codes "\n"

abbrev pub register : State → ℕ → List ℕ
register s i = codes " " ++ hex8 (visible s.regs s.base i)

-- `aI` and four visible registers, from a(I) on
unfoldable pub registers_line : State → ℕ → List ℕ
registers_line s i =
    codes "a" ++ decimal i ++ register s i ++ register s (i + 1) ++ register s (i + 2)
    ++ register s (i + 3) ++ codes "\n"

unfoldable pub regs_text : ℕ → ℕ → State → List ℕ
regs_text core step s =
    core_line core step s ++ registers_line s 0 ++ registers_line s 4 ++ registers_line s 8
    ++ registers_line s 12

-- ---- `ring C`

-- the first line of what `ring` and `special` print
unfoldable pub heading : ℕ → List ℕ
heading core = codes "core " ++ decimal core ++ codes "\n"

-- a register of window w, as four of the ring's 64 registers are its a0 to a3
abbrev pub register_of : State → ℕ → ℕ → List ℕ
register_of s w i = codes " " ++ hex8 (visible s.regs w i)

-- ` base` for the window at WINDOWBASE
abbrev pub base_mark : State → ℕ → List ℕ
base_mark s w = if w == s.base then codes " base" else []

-- ` start` for a window whose bit of WINDOWSTART is set
abbrev pub start_mark : State → ℕ → List ℕ
start_mark s w = if bit s.start w then codes " start" else []

-- `W: `, a0 to a3 of window W, and its marks
unfoldable pub window_line : State → ℕ → List ℕ
window_line s w =
    decimal w ++ codes ":" ++ register_of s w 0 ++ register_of s w 1 ++ register_of s w 2
    ++ register_of s w 3 ++ base_mark s w ++ start_mark s w ++ codes "\n"

-- the windows whose a0 to a3 are the whole ring
unfoldable pub windows : List ℕ
windows = range_with_len 0 16

unfoldable pub ring_text : ℕ → State → List ℕ
ring_text core s = heading core ++ flat_map (window_line s) windows

-- ---- `special C`

-- what RSR of this number reads
abbrev pub special_value : State → ℕ → ℕ
special_value s n =
    if n == number.windowbase then s.base
    else (if n == number.windowstart then s.start
    else value_read n (special_of s.control n) s.control.ps)

-- `NAME WORD`
unfoldable pub special_line : State → ℕ → List ℕ
special_line s n =
    special_name Read n ++ codes " " ++ hex8 (special_value s n) ++ codes "\n"

-- the registers that RSR reads, by their numbers
unfoldable pub specials : List ℕ
specials = filter can_read (range_with_len 0 256)

-- these, and then the one user register
unfoldable pub special_text : ℕ → State → List ℕ
special_text core s =
    heading core ++ flat_map (special_line s) specials
    ++ codes "threadptr " ++ hex8 s.control.threadptr ++ codes "\n"

-- ---- `frames C`

abbrev pub depth_text : Option ℕ → List ℕ
depth_text None = codes " none\n"
depth_text (Some depth) = codes " depth " ++ decimal depth ++ codes "\n"

unfoldable pub frames_text : ℕ → Option ℕ → List ℕ
frames_text core depth = codes "frames " ++ decimal core ++ depth_text depth

-- ---- commands that move

abbrev pub past_end : List ℕ
past_end = codes "past end\n"

abbrev pub none_found : List ℕ
none_found = codes "none\n"
