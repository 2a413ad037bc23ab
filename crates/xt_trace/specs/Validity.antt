-- Which options a run accepts ('profile').
--
-- Profile: at most 4,000,000 turns for each core, because every access is kept in memory. A stack
-- ends at multiples of 16, as stack pointers are, and VECBASE is a multiple of 1024, as the
-- register keeps it.
-- Note: valid options may have stacks that overlap; only the theorem about frames asks that they
-- are apart.
use Rattle.std.specs.Prelude.{◌≡◌, ℕ, ◌+◌, ◌%◌, ◌≤◌, true}
use Rattle.xt_map.specs.Regions.{region_of, is_executable}
use Rattle.xt_trace.specs.declared.options.Stack.{Stack}
use Rattle.xt_trace.specs.declared.options.Options.{Options}

abbrev pub most_turns : ℕ
most_turns = 4000000

-- a range of at least 256 bytes in the internal data memory, whose ends are multiples of 16
pub record IsValidStack (s : Stack) : Type 0 where
  pub low : 0x3FFAE000 ≤ s.lo
  pub high : s.hi ≤ 0x40000000
  pub lo_aligned : s.lo % 16 ≡ 0
  pub hi_aligned : s.hi % 16 ≡ 0
  pub size : s.lo + 256 ≤ s.hi

pub record IsValid (o : Options) : Type 0 where
  pub turns0 : o.turns0 ≤ most_turns
  pub turns1 : o.turns1 ≤ most_turns
  pub entry1 : is_executable (region_of o.entry1) ≡ true
  pub vecbase : o.vecbase % 1024 ≡ 0
  pub stack0 : IsValidStack o.stack0
  pub stack1 : IsValidStack o.stack1
