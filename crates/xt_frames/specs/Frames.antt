-- The state of the machine with unbounded call frames ('profile'): no ring of registers, no window
-- base, no vector of a window exception and no save area is in it.
--
-- Profile: Boolean registers are no part of a frame: BR is a special register, the same in both
-- machines, and every bit has a value from the start.
use Rattle.std.specs.Prelude.{ℕ, ◌+◌, ◌-◌, ◌*◌, ◌^◌, Bool, false, Option, Some, None, List, []}
use Rattle.std.specs.Prelude.{◌∷◌, ◌++◌, slice_index_or, slice_set, take, drop, replicate}
use Rattle.std.specs.Prelude.{unwrap_or}
use Rattle.xt_special.specs.Control.{Control}
use Rattle.xt_special.specs.Opening.{prid_of, opening_control}
use Rattle.xt_trace.specs.declared.record.RegWrite.{RegWrite}
use Rattle.xt_frames.specs.declared.holes.Nested.{Nested}

-- a frame that has called another: by how many windows the call moved, 1, 2 or 3, and the
-- registers a0 to a(4n-1) that were kept for it
pub record Frame : Type 0 where
  pub by : ℕ
  pub kept : List (Option ℕ)

pub record FrameState : Type 0 where
  -- the 16 visible registers, each with its value or none
  pub seen : List (Option ℕ)
  -- the frames that have called, the newest first
  pub frames : List Frame
  -- PC, PS, THREADPTR, the waiting flag, and the special registers without WINDOWBASE and
  -- WINDOWSTART
  pub control : Control
  -- of each special register, by its number, whether it has no number
  pub unset : List Bool
  -- in a nested interrupt its PC, registers and PS: those above are then kept for its end
  pub nested : Option Nested

-- the value of a visible register, 0 where it has none
abbrev pub value_or_zero : List (Option ℕ) → ℕ → ℕ
value_or_zero seen i = unwrap_or (slice_index_or seen i None) 0

-- by how many windows the calls of these frames moved
abbrev pub windows_moved : List Frame → ℕ
windows_moved [] = 0
windows_moved (f ∷ fs) = f.by + windows_moved fs

-- the callee's registers: the caller's from a(4n) on, then as many that have no value
abbrev pub seen_after_call : List (Option ℕ) → ℕ → List (Option ℕ)
seen_after_call seen n = drop (4 * n) seen ++ replicate (4 * n) None

-- the caller's registers: those that were kept for it, then the callee's
abbrev pub seen_after_return : List (Option ℕ) → List (Option ℕ) → ℕ → List (Option ℕ)
seen_after_return kept seen n = kept ++ take (16 - 4 * n) seen

abbrev pub seen_after_write : Option RegWrite → List (Option ℕ) → List (Option ℕ)
seen_after_write None seen = seen
seen_after_write (Some w) seen = slice_set seen w.reg (Some w.value)

-- ---- the state in which a core opens: the processor's visible registers and special registers

-- a1 is 64 below the end of the stack, a8 holds the size of the call that opened the frame, all
-- others are 0
unfoldable pub opening_seen : ℕ → List (Option ℕ)
opening_seen stack_end =
    slice_set (slice_set (replicate 16 (Some 0)) 1 (Some (stack_end - 64))) 8 (Some (2 ^ 31))

-- each special register has a number
unfoldable pub all_set : List Bool
all_set = replicate 256 false

abbrev pub opening_frame : ℕ → ℕ → ℕ → ℕ → FrameState
opening_frame core pc vecbase stack_end = record {
  seen = opening_seen stack_end;
  frames = [];
  control = opening_control pc (prid_of core) vecbase;
  unset = all_set;
  nested = None;
}
