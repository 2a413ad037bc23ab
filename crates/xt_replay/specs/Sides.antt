-- Carries a proof; nothing that a reader must believe.
-- Two cores and a memory, and a copy of them.
use Rattle.std.specs.Prelude.{ℕ}
use Rattle.xt_map.specs.declared.contents.MemoryContents.{MemoryContents}
use Rattle.xt_exec.specs.State.{State}

-- a core: its state, the turns that it has left, and the number of its next step
pub record Side : Type 0 where
  pub state : State
  pub left : ℕ
  pub step : ℕ

-- both cores, what memory holds, and how many accesses were served
pub record Stand : Type 0 where
  pub side0 : Side
  pub side1 : Side
  pub memory : MemoryContents
  pub entries : ℕ

-- a copy, and for how many bytes that are sent it has room
pub record Copied : Type 0 where
  pub stand : Stand
  pub room : ℕ
