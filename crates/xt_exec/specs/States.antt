-- The state that the registers of a core hold ('profile').
use Rattle.std.specs.Prelude.{ℕ, List}
use Rattle.xt_special.specs.Values.{control_at}
use Rattle.xt_window.specs.Values.{WindowState}
use Rattle.xt_exec.specs.declared.regs.Regs.{Regs}
use Rattle.xt_exec.specs.State.{State}

-- the parts of the window file are read by its own words
abbrev pub state_of : {W : Type 0} (regs : W → List ℕ) (base start : W → ℕ) → Regs W → State
state_of regs base start r = record {
  regs = regs r.win;
  base = base r.win;
  start = start r.win;
  control = control_at r.pc r.waiting r.sr;
}

-- the same for the plain window file
abbrev pub file_state : Regs WindowState → State
file_state r = record {
  regs = r.win.regs;
  base = r.win.base;
  start = r.win.start;
  control = control_at r.pc r.waiting r.sr;
}
