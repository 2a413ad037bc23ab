use Rattle.std.proofs.Common.{◌≡◌, ◌-◌}
use Rattle.xt_flow.specs.Following.{is_called}
use Rattle.xt_flow.proofs.calls.is_called.Given as goal

-- what is asked of the first address is asked of this one
abbrev pub invariant-loop : goal.invariant-loop
invariant-loop l = is_called (64 - l.counter) l.segments l.register l.here ≡ is_called 64 l.segments l.register l.at
