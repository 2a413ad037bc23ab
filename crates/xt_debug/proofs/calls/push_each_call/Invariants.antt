-- What was appended, and the lines of the frames that are left, are all lines.
use Rattle.std.proofs.Common.{◌≡◌, ◌-◌, ◌++◌}
use Rattle.std.specs.Prelude.{string_bytes}
use Rattle.xt_debug.specs.Calls.{call_lines}
use Rattle.xt_debug.proofs.calls.push_each_call.Given as goal

abbrev pub invariant-loop-back : goal.invariant-loop-back
invariant-loop-back l =
    let lines = call_lines l.frames.bounds.range.hi l.frames.state in
    string_bytes l.out ++ lines (l.depth - l.back) ≡ string_bytes l.initial.out ++ lines l.depth
