-- How both machines open ('profile').
use Rattle.std.specs.Prelude.{◌≡◌, ◌≤◌, ◌<◌, ◌^◌, ◌%◌, ◌+◌, ◌-◌, ℕ, zero, suc, false, Option, Some}
use Rattle.std.specs.Prelude.{None}
use Rattle.std.specs.Prelude.{List, [], ◌∷◌, slice_index}
use Rattle.xt_map.specs.declared.segment.Segment.{Segment}
use Rattle.xt_map.specs.declared.contents.MemoryContents.{MemoryContents}
use Rattle.xt_map.specs.Memory.{opening_memory}
use Rattle.xt_trace.specs.declared.options.Stack.{Stack}
use Rattle.xt_trace.specs.declared.options.Options.{Options}
use Rattle.xt_trace.specs.Validity.{IsValid}
use Rattle.xt_window.specs.Ring.{visible}
use Rattle.xt_rows.specs.RowLaws.{IsWord}
use Rattle.xt_exec.specs.State.{State, opening_state}
use Rattle.xt_frames.specs.Frames.{FrameState, all_set, opening_frame}
use Rattle.xt_frames.specs.SaveAreas.{Range}
use Rattle.xt_frames.specs.Breaches.{Bounds}
use Rattle.xt_frames.specs.Judging.{opening_standing}
use Rattle.xt_simulation.specs.Walking.{Core, World}

-- the values of n registers from register i on
abbrev pub values_from : (ℕ → ℕ) → ℕ → ℕ → List (Option ℕ)
values_from f i zero = []
values_from f i (suc n) = Some (f i) ∷ values_from f (suc i) n

-- the frame state of a processor's state without callers: its 16 visible registers, no frame, and
-- the same special registers
abbrev pub frame_of : State → FrameState
frame_of s =
    record {
      seen = values_from (visible s.regs s.base) 0 16;
      frames = [];
      control = s.control;
      unset = all_set;
      nested = None;
    }

abbrev pub opening_core : State → Core
opening_core s =
    record {
      state = s;
      entered = record { before = s; opened = λ a. 0; suspended = s; held = λ a. 0 };
      standing = opening_standing (frame_of s);
      judged = [];
    }

-- what a run opens with
pub record Openings : Type 0 where
  pub range0 : Range
  pub range1 : Range
  pub vecbase : ℕ
  pub pc0 : ℕ
  pub pc1 : ℕ
  pub segments : List Segment

abbrev pub bounds0 : Openings → Bounds
bounds0 o = record { range = o.range0; vecbase = o.vecbase }

abbrev pub bounds1 : Openings → Bounds
bounds1 o = record { range = o.range1; vecbase = o.vecbase }

abbrev pub state0 : Openings → State
state0 o = opening_state 0 o.pc0 o.vecbase o.range0.hi

abbrev pub state1 : Openings → State
state1 o = opening_state 1 o.pc1 o.vecbase o.range1.hi

abbrev pub frame0 : Openings → FrameState
frame0 o = opening_frame 0 o.pc0 o.vecbase o.range0.hi

abbrev pub frame1 : Openings → FrameState
frame1 o = opening_frame 1 o.pc1 o.vecbase o.range1.hi

-- both machines open alike
abbrev pub OpensAlike : Type 0
OpensAlike =
    (core pc vecbase stack_end : ℕ)
    → frame_of (opening_state core pc vecbase stack_end) ≡ opening_frame core pc vecbase stack_end

abbrev pub memory_of : Openings → MemoryContents
memory_of o =
    opening_memory o.segments
    ((o.range0.hi - 76, o.range0.hi) ∷ (o.range1.hi - 76, o.range1.hi) ∷ [])

abbrev pub opening_world : Openings → World
opening_world o =
    record {
      core0 = opening_core (state0 o);
      core1 = opening_core (state1 o);
      memory = memory_of o;
      stale = λ a. false;
      entries = [];
    }

-- a stack range: multiples of 16 in data memory
pub record IsStack (r : Range) : Type 0 where
  pub low : 0x3FFAE000 ≤ r.lo
  pub high : r.hi ≤ 0x40000000
  pub low_aligned : r.lo % 16 ≡ 0
  pub high_aligned : r.hi % 16 ≡ 0
  pub room : r.lo + 256 ≤ r.hi

-- the bytes of segments are bytes
abbrev pub AreSmall : List Segment → Type 0
AreSmall [] = Unit {0}
AreSmall (s ∷ rest) = ((k : ℕ) → slice_index s.bytes k < 256) × AreSmall rest

pub record IsOpening (o : Openings) : Type 0 where
  pub stack0 : IsStack o.range0
  pub stack1 : IsStack o.range1
  pub aligned : o.vecbase % 2 ^ 10 ≡ 0
  pub vectors : IsWord o.vecbase
  pub segments : AreSmall o.segments
  pub entry0 : IsWord o.pc0
  pub entry1 : IsWord o.pc1

-- ---- the opening of a run of an image

abbrev pub range_of : Stack → Range
range_of s = record { lo = s.lo; hi = s.hi }

-- of an image with these segments and this entry, with these options
abbrev pub openings_of : List Segment → ℕ → Options → Openings
openings_of segments entry o = record {
  range0 = range_of o.stack0;
  range1 = range_of o.stack1;
  vecbase = o.vecbase;
  pc0 = entry;
  pc1 = o.entry1;
  segments = segments;
}

-- the options are valid; and what is a word or a byte by its type is one
pub record IsRunnable (segments : List Segment) (entry : ℕ) (o : Options) : Type 0 where
  pub valid : IsValid o
  pub vecbase : IsWord o.vecbase
  pub entry0 : IsWord entry
  pub entry1 : IsWord o.entry1
  pub bytes : AreSmall segments
