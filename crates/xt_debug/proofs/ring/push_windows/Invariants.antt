-- What was appended, and the lines of the windows that are left, are all lines.
use Rattle.std.proofs.Common.{◌≡◌, ◌++◌}
use Rattle.std.specs.Prelude.{string_bytes}
use Rattle.std.specs.List.{flat_map}
use Rattle.xt_exec.specs.States.{file_state}
use Rattle.xt_debug.specs.Printed.{window_line, windows}
use Rattle.xt_debug.proofs.Ranges.{from_to}
use Rattle.xt_debug.proofs.ring.push_windows.Given as goal

abbrev pub invariant-loop-window : goal.invariant-loop-window
invariant-loop-window l =
    let line = window_line (file_state l.regs) in
    string_bytes l.out ++ flat_map line (from_to l.window 16) ≡ string_bytes l.initial.out ++ flat_map line windows
