-- Carries a proof; nothing that a reader must believe.
-- A core's next turn, whose access is not served yet.
use Rattle.std.specs.Prelude.{◌≡◌, ℕ}
use Rattle.xt_map.specs.declared.contents.MemoryContents.{MemoryContents}
use Rattle.xt_trace.specs.Worlds.{answer}
use Rattle.xt_exec.specs.State.{State}
use Rattle.xt_exec.specs.States.{file_state}
use Rattle.xt_exec.specs.Turn.{demand, turn}
use Rattle.xt_exec.specs.TurnLaws.{IsServed, IsShaped}
use Rattle.xt_outcomes.specs.declared.turns.Ahead.{Ahead}

pub record IsAhead (code : ℕ → ℕ) (s : State) (m : MemoryContents) (a : Ahead) : Type 0 where
  pub turn : (a.record, file_state a.regs) ≡ turn code s (answer (demand code s) m)
  pub served : IsServed a.record.access
  pub shaped : IsShaped (file_state a.regs)

-- its registers are those of the core before its next turn
abbrev pub IsReady : State → Ahead → Type 0
IsReady s a = (file_state a.regs ≡ s) × IsShaped (file_state a.regs)
