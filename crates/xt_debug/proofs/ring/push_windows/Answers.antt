use Rattle.std.proofs.Common.{◌++◌, ap, ◌∙◌, arith}
use Rattle.std.specs.Prelude.{string_bytes}
use Rattle.std.specs.List.{flat_map}
use Rattle.xt_exec.specs.States.{file_state}
use Rattle.xt_debug.specs.Printed.{window_line}
use Rattle.xt_debug.proofs.Ranges.{all_windows, one_more_of}
use Rattle.xt_debug.proofs.ring.push_windows.Goals as goal

pub loop-window-init : goal.loop-window-init
loop-window-init c = ap (λ l. string_bytes c.args.out.now ++ flat_map (window_line (file_state c.args.regs.now)) l) all_windows

pub loop-window-preserved : goal.loop-window-preserved
loop-window-preserved c =
    one_more_of (window_line (file_state c.args.regs.now)) c.loop-window.window 16 (string_bytes c.loop-window.out) (string_bytes c.push_window.new.out)
    (omega arith) c.in_ok-push_window.ensures
    ∙ c.loop-window.invariant
