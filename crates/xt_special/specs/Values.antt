-- What a contract sees of the special registers that a core keeps, and how they are part of its
-- control state ('profile').
use Rattle.std.specs.Prelude.{ℕ, Bool, List}
use Rattle.xt_special.specs.declared.ps.Ps.{Ps}
use Rattle.xt_special.specs.Control.{Control}

pub record Specials : Type 0 where
  pub ps : Ps
  -- the special registers by register number, 256 of them; PS, WINDOWBASE and
  -- WINDOWSTART are not kept there
  pub file : List ℕ
  pub threadptr : ℕ

-- the control state with these special registers
abbrev pub control_at : ℕ → Bool → Specials → Control
control_at pc waits s =
    record { pc = pc; special = s.file; ps = s.ps; threadptr = s.threadptr; waits = waits }

-- the special registers of a control state
abbrev pub specials_of : Control → Specials
specials_of c = record { ps = c.ps; file = c.special; threadptr = c.threadptr }
