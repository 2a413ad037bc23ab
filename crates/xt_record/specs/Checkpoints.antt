-- The checkpoints of a run, as a recording has them ('profile').
use Rattle.std.specs.Prelude.{ℕ, ◌%◌, Bool, ◌==◌, ◌&&◌, ◌||◌, nat_le, not, List, [], ◌∷◌, ◌++◌, length, map}
use Rattle.std.specs.Prelude.{filter, slice_index}
use Rattle.std.specs.List.{range_with_len}
use Rattle.xt_isa.specs.Numbers.{br, exchanged_numbers, excsave, intenable, interrupt, lcount, sar}
use Rattle.xt_isa.specs.Numbers.{vecbase, windowbase, windowstart}
use Rattle.xt_isa.specs.Spelling.{within}
use Rattle.xt_map.specs.declared.contents.MemoryContents.{MemoryContents}
use Rattle.xt_map.specs.Memory.{dram_first, dram_size, rtc_fast_data_first, rtc_fast_data_size}
use Rattle.xt_map.specs.Memory.{rtc_slow_first, rtc_slow_size}
use Rattle.xt_bus.specs.States.{part_bytes}
use Rattle.xt_special.specs.Control.{bit_of, ps_word}
use Rattle.xt_trace.specs.declared.run.Run.{Run}
use Rattle.xt_image.specs.declared.image.Image.{Image}
use Rattle.xt_trace.specs.Worlds.{World}
use Rattle.xt_exec.specs.State.{State}
use Rattle.xt_core.specs.Positions.{schedule_in, world_at}
use Rattle.xt_record.specs.Fields.{words}

-- ---- one checkpoint

-- The special registers of a core that a checkpoint has, in the order of their numbers but for BR,
-- which comes after LCOUNT: LBEG, LEND and LCOUNT; from SAR on to EXCSAVE7, INTERRUPT and INTENABLE;
-- and from VECBASE on.
abbrev pub loop_numbers : List ℕ
loop_numbers = filter (λ (n : ℕ). nat_le n lcount) exchanged_numbers

-- BR, WINDOWBASE and WINDOWSTART have places of their own
abbrev pub stands_apart : ℕ → Bool
stands_apart n = n == br || (n == windowbase || n == windowstart)

abbrev pub saved_numbers : List ℕ
saved_numbers =
    filter (λ (n : ℕ). within sar (excsave 7) n && not (stands_apart n)) exchanged_numbers
    ++ interrupt ∷ intenable ∷ []

abbrev pub last_numbers : List ℕ
last_numbers = filter (λ (n : ℕ). nat_le vecbase n) exchanged_numbers

-- the special registers of these numbers
unfoldable pub special_bytes : List ℕ → List ℕ → List ℕ
special_bytes special numbers = words (map (slice_index special) numbers)

-- the 64 physical registers
unfoldable pub file_bytes : List ℕ → List ℕ
file_bytes regs = words (map (slice_index regs) (range_with_len 0 64))

-- the 111 words of a core that makes its turn of this number next; BR comes after LCOUNT
unfoldable pub state_bytes : ℕ → State → List ℕ
state_bytes step s =
    words (s.control.pc ∷ bit_of s.control.waits ∷ step ∷ s.base ∷ s.start ∷ [])
    ++ file_bytes s.regs
    ++ special_bytes s.control.special loop_numbers
    ++ words (slice_index s.control.special br ∷ [])
    ++ special_bytes s.control.special saved_numbers
    ++ words (ps_word s.control.ps ∷ [])
    ++ special_bytes s.control.special last_numbers
    ++ words (s.control.threadptr ∷ [])

-- the bytes of RTC fast memory by its data address, of the internal data
-- memory and of RTC slow memory
abbrev pub memory_bytes : MemoryContents → List ℕ
memory_bytes m =
    part_bytes m rtc_fast_data_first rtc_fast_data_size
    ++ part_bytes m dram_first dram_size
    ++ part_bytes m rtc_slow_first rtc_slow_size

-- the position, the number of entries before it, both cores, and memory
unfoldable pub checkpoint_bytes : ℕ → ℕ → ℕ → State → ℕ → State → MemoryContents → List ℕ
checkpoint_bytes position entries step0 state0 step1 state1 memory =
    words (position ∷ entries ∷ []) ++ state_bytes step0 state0 ++ state_bytes step1 state1
    ++ memory_bytes memory

abbrev pub checkpoint_of : ℕ → World State → List ℕ
checkpoint_of position w =
    checkpoint_bytes position (length w.line.history) (length w.core0.records) w.core0.state
    (length w.core1.records) w.core1.state w.line.memory

-- ---- the checkpoints of a run

abbrev pub stride : ℕ
stride = 131072

-- the multiples of the stride above 0
abbrev pub is_due : ℕ → Bool
is_due position = not (position == 0) && position % stride == 0

-- one at each multiple of the stride that is above 0 and below the number of steps, in order
abbrev pub checkpoints_of : Image → Run → List (List ℕ)
checkpoints_of image r =
    map (λ (p : ℕ). checkpoint_of p (world_at image r p))
    (filter is_due (range_with_len 0 (length (schedule_in r))))
