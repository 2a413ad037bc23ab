-- Runs of an image ('profile').
--
-- Note: `StandsFor` compares a trace with the records over the replies in the run's own history; no
-- record is stored. `calls0` and `calls1` say that each access is in the history once and in
-- program order.
use Rattle.std.specs.Prelude.{◌≡◌, ℕ, zero, suc, ◌-◌, List, [], ◌∷◌, length}
use Rattle.xt_map.specs.declared.contents.MemoryContents.{MemoryContents}
use Rattle.xt_map.specs.Memory.{constant_byte, opening_memory}
use Rattle.xt_map.specs.History.{IsLegal, IsOfCores, calls_of, replies_of}
use Rattle.xt_trace.specs.declared.options.Options.{Options}
use Rattle.xt_trace.specs.declared.options.Stack.{Stack}
use Rattle.xt_trace.specs.declared.trace.Trace.{Trace}
use Rattle.xt_trace.specs.declared.run.Run.{Run}
use Rattle.xt_trace.specs.Calls.{calls_in}
use Rattle.xt_trace.specs.Validity.{IsValid}
use Rattle.xt_image.specs.declared.image.Image.{Image}
use Rattle.xt_trace.specs.Schedule.{places_from}
use Rattle.xt_trace.specs.Runs.{Opening}
use Rattle.xt_trace.specs.Traces.{Traced, trace_over, stop_of}
use Rattle.xt_exec.specs.State.{State, opening_state}
use Rattle.xt_exec.specs.Chips.{processor}

-- the constant bytes of an image
abbrev pub code_of : Image → ℕ → ℕ
code_of image = constant_byte image.segments

-- Each core's stack begins with a word 76 below its end that holds its end: the stack pointer of
-- the caller of its opening frame.
abbrev pub stack_words : Options → List (ℕ × ℕ)
stack_words o = (o.stack0.hi - 76, o.stack0.hi) ∷ (o.stack1.hi - 76, o.stack1.hi) ∷ []

-- what memory holds as a run of an image opens
abbrev pub memory_of : Image → Options → MemoryContents
memory_of image o = opening_memory image.segments (stack_words o)

-- ---- how the cores open

abbrev pub turns_of : ℕ → Options → ℕ
turns_of zero o = o.turns0
turns_of (suc n) o = o.turns1

abbrev pub stack_of : ℕ → Options → Stack
stack_of zero o = o.stack0
stack_of (suc n) o = o.stack1

-- core 0 begins at the image's entry, core 1 at its own
abbrev pub entry_of : ℕ → Image → Options → ℕ
entry_of zero image o = image.entry
entry_of (suc n) image o = o.entry1

-- the state in which a core opens at this address
abbrev pub opening_at : ℕ → ℕ → Options → State
opening_at core pc o = opening_state core pc o.vecbase (stack_of core o).hi

abbrev pub opening_of : Image → Options → Opening State
opening_of image o = record {
  memory = memory_of image o;
  state0 = opening_at 0 (entry_of 0 image o) o;
  state1 = opening_at 1 (entry_of 1 image o) o;
  turns0 = turns_of 0 o;
  turns1 = turns_of 1 o;
}

-- ---- runs

-- the records of a core's turns over the replies that the history has for it, and its last state
abbrev pub records_of : ℕ → Image → Run → Traced State
records_of core image r =
    let o = r.options in
    trace_over (processor (code_of image)) (opening_at core (entry_of core image o) o)
    (turns_of core o) (replies_of core r.history)

-- a trace of this core stands for these records
pub record StandsFor (core : ℕ) (z : Traced State) (t : Trace) : Type 0 where
  pub core_is : t.core ≡ core
  pub count_is : t.count ≡ length z.records
  pub places_are : t.places ≡ places_from 0 z.records
  pub stop_is : t.stop ≡ stop_of z.records
  pub pc_is : t.pc ≡ z.last.control.pc

-- A run is the image's: its options are valid, the history is legal from the opening memory, each
-- core's trace stands for the processor's over the replies to that core, and that core's accesses
-- in the history are those of its trace, each once, in order.
pub record IsRunOf (image : Image) (r : Run) : Type 0 where
  pub valid : IsValid r.options
  pub legal : IsLegal (memory_of image r.options) r.history
  pub cores : IsOfCores r.history
  pub trace0 : StandsFor 0 (records_of 0 image r) r.trace0
  pub trace1 : StandsFor 1 (records_of 1 image r) r.trace1
  pub calls0 : calls_of 0 r.history ≡ calls_in (records_of 0 image r).records
  pub calls1 : calls_of 1 r.history ≡ calls_in (records_of 1 image r).records
