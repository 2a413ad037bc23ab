-- The judged part of a run is a run of the machine with unbounded frames.
use Rattle.std.proofs.Common.{◌≡◌, ℕ, zero, suc, ◌<◌, Option, Some, None, [], ap, refl, arith}
use Rattle.xt_map.specs.declared.access.Access.{Access}
use Rattle.xt_map.specs.declared.contents.MemoryContents.{MemoryContents}
use Rattle.xt_map.specs.History.{IsLegal, memory_after}
use Rattle.xt_map.specs.Code.{AreBytes}
use Rattle.xt_trace.specs.Worlds as worlds
use Rattle.xt_trace.specs.Worlds.{core_given, line_given, answer}
use Rattle.xt_window.specs.Ring.{cleared_regs}
use Rattle.xt_exec.specs.State.{opening_state, opening_regs}
use Rattle.xt_frames.specs.Frames.{opening_seen}
use Rattle.xt_trace.specs.Walks.{next_record}
use Rattle.xt_exec.specs.State.{State}
use Rattle.xt_exec.specs.Turn.{demand, turn}
use Rattle.xt_exec.specs.Chips.{processor}
use Rattle.xt_handlers.specs.Vectors.{Handlers}
use Rattle.xt_simulation.specs.Handling.{IsGood}
use Rattle.xt_simulation.specs.Steps.{reply_at, memory_after_step, record_now, state_now, memory_now}
use Rattle.xt_simulation.specs.Walking.{Entered, World, Apart}
use Rattle.xt_simulation.specs.Opening.{Openings, IsOpening, OpensAlike, bounds0, bounds1, state0, state1, frame0, frame1, memory_of, frame_of, opening_world}
use Rattle.xt_frames.specs.Verdict.{Known}
use Rattle.xt_simulation.specs.Headline.{StretchesMoveFrames, NestedGiveBack, TurnsAreFrames}
use Rattle.xt_simulation.proofs.Walk.{both_end, Holds, gives0, gives1, walked_keeps, frame_run}
use Rattle.xt_frames.proofs.Lengths.{opening_holes}
use Rattle.xt_simulation.proofs.Opened.{dram_of, opening_related, stack_shaped, opening_links, opening_is_memory}

pub good_of : (o : Openings) (code : ℕ → ℕ) → IsOpening o → Handlers code o.vecbase → IsGood code (bounds0 o) × IsGood code (bounds1 o)
good_of o code i h = (
  record { dram = dram_of (bounds0 o) i.stack0; aligned = i.aligned; handlers = h },
  record { dram = dram_of (bounds1 o) i.stack1; aligned = i.aligned; handlers = h },
)

-- ---- the opening
none_legal : (m : MemoryContents) → IsLegal m []
none_legal m zero e h = absurd cc
none_legal m (suc k) e h = absurd cc

pub opening_holds : (o : Openings) (code : ℕ → ℕ) (bytes : AreBytes code) → IsOpening o → Apart o.range0 o.range1 → Holds code bytes (bounds0 o) (bounds1 o) (memory_of o) (frame_of (state0 o)) (frame_of (state1 o)) (opening_world o)
opening_holds o code bytes i apart =
    let links = opening_links o.segments o.range0 o.range1 i.stack0 i.stack1 apart in
    let m = opening_is_memory o.segments o.range0 o.range1 i.segments in
    let s0 = stack_shaped 0 o.pc0 o.vecbase o.range0 i.stack0 i.entry0 i.aligned i.vectors in
    let s1 = stack_shaped 1 o.pc1 o.vecbase o.range1 i.stack1 i.entry1 i.aligned i.vectors in
    record {
      both = record {
        first = record {
          core = (record { ring = []; spilled = []; related = opening_related 0 o.pc0 (bounds0 o) _ i.stack0 s0 links.0 }, refl);
          calm = tt;
          shaped = s0;
          holes = record { unset = (opening_holes 0 o.pc0 o.vecbase o.range0.hi).unset; marks = tt };
        };
        second = record {
          core = (record { ring = []; spilled = []; related = opening_related 1 o.pc1 (bounds1 o) _ i.stack1 s1 links.1 }, refl);
          calm = tt;
          shaped = s1;
          holes = record { unset = (opening_holes 1 o.pc1 o.vecbase o.range1.hi).unset; marks = tt };
        };
        real = m;
        frames = m;
        agree = λ a live st. refl;
      };
      legal = none_legal (memory_of o);
      leads0 = record { trace = tt; to = refl };
      leads1 = record { trace = tt; to = refl };
    }

pub turns_are_frames : TurnsAreFrames
turns_are_frames o code c cores w e =
    let good = good_of o code c.opening c.handlers in
    frame_run code c.bytes (bounds0 o) (bounds1 o) good.0 good.1 c.apart (memory_of o) (frame_of (state0 o)) (frame_of (state1 o)) w
    (walked_keeps code c.bytes (bounds0 o) (bounds1 o) good.0 good.1 c.apart (memory_of o) (frame_of (state0 o)) (frame_of (state1 o)) cores (opening_world o) w (opening_holds o code c.bytes c.opening c.apart) e)

pub stretches_move_frames : StretchesMoveFrames
stretches_move_frames o code c cores w e =
    let good = good_of o code c.opening c.handlers in
    let f0 = frame_of (state0 o) in
    let f1 = frame_of (state1 o) in
    let h = walked_keeps code c.bytes (bounds0 o) (bounds1 o) good.0 good.1 c.apart (memory_of o) f0 f1 cores (opening_world o) w (opening_holds o code c.bytes c.opening c.apart) e in
    both_end code c.bytes (bounds0 o) (bounds1 o) good.0 good.1 w.core0 w.core1 w.memory (memory_after (memory_of o) w.entries) w.stale h.both

pub nested_give_back : NestedGiveBack
nested_give_back o code c cores w e =
    let good = good_of o code c.opening c.handlers in
    let f0 = frame_of (state0 o) in
    let f1 = frame_of (state1 o) in
    let h = walked_keeps code c.bytes (bounds0 o) (bounds1 o) good.0 good.1 c.apart (memory_of o) f0 f1 cores (opening_world o) w (opening_holds o code c.bytes c.opening c.apart) e in
    (gives0 code c.bytes (bounds0 o) (bounds1 o) good.0 good.1 c.apart (memory_of o) f0 f1 w h, gives1 code c.bytes (bounds0 o) (bounds1 o) good.0 good.1 c.apart (memory_of o) f0 f1 w h)

-- ---- a run of the processor beside the judge
same_answer : (o : Option Access) (m : MemoryContents) → answer o m ≡ reply_at m o
same_answer None m = refl
same_answer (Some a) m = refl

line_memory : (c : ℕ) (o : Option Access) (l : worlds.Line) → (worlds.line_past c o l).memory ≡ memory_after_step l.memory o
line_memory c None l = refl
line_memory c (Some a) l = refl

module _ (code : ℕ → ℕ) where
  -- what stands where the cores are and what the judge knows
  abbrev pub world_of : worlds.World State → Known → Entered → Entered → World
  world_of w k e0 e1 = record {
    core0 = record { state = w.core0.state; entered = e0; standing = k.standing0; judged = k.judged0 };
    core1 = record { state = w.core1.state; entered = e1; standing = k.standing1; judged = k.judged1 };
    memory = w.line.memory;
    stale = k.stale;
    entries = k.entries;
  }

  pub next_is : (k : worlds.Core State) (l : worlds.Line) → next_record (processor code) k l ≡ record_now code l.memory k.state
  next_is k l = ap (λ r. (turn code k.state r).0) (same_answer (demand code k.state) l.memory)

  pub core_next : (k : worlds.Core State) (l : worlds.Line) (n : ℕ) → k.left ≡ n → 0 < n → (core_given (processor code) n k l).state ≡ state_now code l.memory k.state
  core_next k l zero e pos = absurd (omega arith)
  core_next k l (suc n) e pos = ap (λ r. (turn code k.state r).1) (same_answer (demand code k.state) l.memory)

  pub line_next : (c : ℕ) (k : worlds.Core State) (l : worlds.Line) (n : ℕ) → 0 < n → (line_given (processor code) c n k l).memory ≡ memory_now code l.memory k.state
  line_next c k l zero pos = absurd (omega arith)
  line_next c k l (suc n) pos = line_memory c (demand code k.state) l

-- ---- both machines open alike
pub opens_alike : OpensAlike
unfolding opening_state opening_regs cleared_regs opening_seen
opens_alike core pc vecbase stack_end = refl

pub alike0 : (o : Openings) → frame_of (state0 o) ≡ frame0 o
alike0 o = opens_alike 0 o.pc0 o.vecbase o.range0.hi

pub alike1 : (o : Openings) → frame_of (state1 o) ≡ frame1 o
alike1 o = opens_alike 1 o.pc1 o.vecbase o.range1.hi
