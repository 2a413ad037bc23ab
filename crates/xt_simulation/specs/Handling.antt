-- Carries a proof; nothing that a reader must believe.
-- What holds of a core inside handler steps. All of the relation but the contents of memory is said
-- of the state before the record of the window exception; of the state now: PC and how much of the
-- handler is left, the special registers, and what the handler has moved so far.
use Rattle.std.specs.Prelude.{◌≡◌, ◌≤◌, ◌<◌, ℕ, ◌+◌, ◌%◌, ◌^◌, Bool, true, false, List, [], ◌∷◌}
use Rattle.std.specs.Prelude.{◌++◌}
use Rattle.xt_map.specs.declared.contents.MemoryContents.{MemoryContents}
use Rattle.xt_map.specs.Memory.{byte_at}
use Rattle.xt_exec.specs.State.{State}
use Rattle.xt_exec.specs.TurnLaws.{IsShaped}
use Rattle.xt_exec.specs.Turn.{planned_turn}
use Rattle.xt_frames.specs.HandlerSteps.{closes}
use Rattle.xt_frames.specs.Frames.{Frame, FrameState}
use Rattle.xt_frames.specs.SaveAreas.{is_live}
use Rattle.xt_frames.specs.Breaches.{Bounds}
use Rattle.xt_simulation.specs.Relation.{lost_at}
use Rattle.xt_simulation.specs.Cores.{Related}
use Rattle.xt_simulation.specs.Stretches.{InHandler}
use Rattle.xt_handlers.specs.Symbols.{Effect}
use Rattle.xt_handlers.specs.declared.stretch.Side.{Side}
use Rattle.xt_handlers.specs.declared.stretch.Side.TheVariants.{Overflow, Underflow}
use Rattle.xt_handlers.specs.Machines.{Machine}
use Rattle.xt_handlers.specs.HandlerInvariants.{Stands, Handles}
use Rattle.xt_handlers.specs.Vectors.{vector_at, vector_bytes, Handlers}
use Rattle.xt_simulation.specs.Steps.{state_now, memory_now}
use Rattle.xt_simulation.specs.InHandlers.{start_of, Untouched, MovesFrame, StoresAlone}

-- the stack range lies in data memory
pub record InDram (b : Bounds) : Type 0 where
  pub low : 0x3FFAE000 ≤ b.range.lo
  pub high : b.range.hi ≤ 0x40000000

-- so it does, and the six handlers pass the check
pub record IsGood (code : ℕ → ℕ) (b : Bounds) : Type 0 where
  pub dram : InDram b
  pub aligned : b.vecbase % 2 ^ 10 ≡ 0
  pub handlers : Handlers code b.vecbase

-- outside handler steps: some frames stand in the ring, and the others are spilled
pub record Somewhere
    (m : ℕ → ℕ) (b : Bounds) (lost : ℕ → Bool) (s : State) (f : FrameState) : Type 0 where
  pub ring : List Frame
  pub spilled : List Frame
  pub related : Related m b lost s f ring spilled

-- Where a stretch began. The frame g is moved: of an overflow it is the oldest in the ring, below
-- `front`; of an underflow the newest spilled one. In both, `rest` are the frames below it.
abbrev pub Begins : Side → (ℕ → ℕ) → Bounds → (ℕ → Bool) → State → FrameState → List Frame → Frame
    → List Frame → Type 0
Begins Overflow m b lost s f front g rest = Related m b lost s f (front ++ g ∷ []) rest
Begins Underflow m b lost s f front g rest = Related m b lost s f [] (g ∷ rest)

-- the registers and memory, as a handler's instructions see them
abbrev pub machine : MemoryContents → State → Machine
machine m s = record { ring = s.regs; base = s.base; bytes = byte_at m }

-- `before` is the state before the record of the window exception, and `opened` are the bytes at it
pub record Handling
    (code : ℕ → ℕ) (b : Bounds) (m : MemoryContents) (s : State) (f : FrameState)
    (before : State) (opened : ℕ → ℕ) : Type 0 where
  pub side : Side
  pub fresh : Bool
  pub front : List Frame
  pub g : Frame
  pub rest : List Frame
  pub begins : Begins side opened b (lost_at fresh f) before f front g rest
  pub moves : 0 < g.by
  pub within : g.by ≤ 3
  pub low : before.control.ps.excm ≡ false
  pub running : before.control.waits ≡ false
  pub shaped : IsShaped before
  -- how far the handler is, and that the rest of it answers Yes
  pub offset : ℕ
  pub effect : Effect
  pub flags : List Bool
  pub pc : s.control.pc ≡ vector_at b.vecbase side g.by + offset
  pub handles : Handles side g.by (vector_bytes code (vector_at b.vecbase side g.by)) offset effect
  -- PC aside, what the control state was, with EPC1, PS.OWB and exception mode of the window
  -- exception
  pub control : InHandler before.control s.control before.base
  pub bits : s.start ≡ before.start
  -- what was moved so far
  pub stands : Stands side g.by (start_of before opened rest) effect flags (machine m s)
  -- its own live bytes, but those that it stores
  pub kept : (a : ℕ) → is_live b.range f a ≡ true
      → Untouched side g.by (start_of before opened rest) a → byte_at m a ≡ opened a

-- the relation after it
abbrev pub Settles :
    Side → (ℕ → ℕ) → Bounds → State → FrameState → List Frame → Frame → List Frame → Type 0
Settles Overflow m b t f front g rest = Related m b (lost_at false f) t f front (g ∷ rest)
Settles Underflow m b t f front g rest = Related m b (lost_at false f) t f (g ∷ []) rest

-- one handler step: the handler goes on, and has changed live bytes of its own core alone; or the
-- stretch ends
pub data HandlerStep
    (code : ℕ → ℕ) (b : Bounds) (m : MemoryContents) (s : State) (f : FrameState)
    (before : State) (opened : ℕ → ℕ) : Type 0 where
  steps_on : closes code (planned_turn code s).kind s.control.pc ≡ false
      → Handling code b (memory_now code m s) (state_now code m s) f before opened
      → ((a : ℕ) → is_live b.range f a ≡ false → byte_at (memory_now code m s) a ≡ byte_at m a)
      → StoresAlone b f before s opened (byte_at m) (byte_at (memory_now code m s))
      → HandlerStep code b m s f before opened
  closes_stretch : closes code (planned_turn code s).kind s.control.pc ≡ true
      → MovesFrame b f before (state_now code m s) opened (byte_at m)
      → Somewhere (byte_at m) b (lost_at false f) (state_now code m s) f
      → memory_now code m s ≡ m
      → StoresAlone b f before s opened (byte_at m) (byte_at (memory_now code m s))
      → HandlerStep code b m s f before opened
