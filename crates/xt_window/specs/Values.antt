-- What a contract sees of the plain register file ('profile').
use Rattle.std.specs.Prelude.{ℕ, List}

pub record WindowState : Type 0 where
  -- the 64 physical registers
  pub regs : List ℕ
  -- WINDOWBASE and WINDOWSTART
  pub base : ℕ
  pub start : ℕ
