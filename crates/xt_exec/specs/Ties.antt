-- States a law that is proved; nothing that a reader must believe.
use Rattle.std.specs.Prelude.{◌≡◌, ◌<◌, ◌^◌, ℕ, true}
use Rattle.xt_window.specs.Ring.{bit, ahead}
use Rattle.xt_rows.specs.Settling.{return_size}
use Rattle.xt_exec.specs.State.{State}
use Rattle.xt_exec.specs.Turn.{entry_turn, return_turn}

-- a RETW of the size of the call undoes the ENTRY
abbrev pub ReturnsUndoEntries : Type 0
ReturnsUndoEntries =
    (s : State) (number value len a0 : ℕ)
    → s.start < 2 ^ 16 → s.base < 16 → bit s.start s.base ≡ true
    → 0 < s.control.ps.callinc → s.control.ps.callinc < 4
    → ahead s.start s.base s.control.ps.callinc ≡ 0 → return_size a0 ≡ s.control.ps.callinc
    → ((return_turn a0 (entry_turn number value len s).after).after.base ≡ s.base)
    × ((return_turn a0 (entry_turn number value len s).after).after.start ≡ s.start)
