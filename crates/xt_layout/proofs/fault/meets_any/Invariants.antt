use Rattle.std.proofs.Common.{◌≡◌, drop}
use Rattle.std.specs.List.{list_any}
use Rattle.xt_layout.specs.Spans.{meet}
use Rattle.xt_layout.proofs.fault.meets_any.Given as goal

-- if there is one, it is among those that are left
abbrev pub invariant-loop-other : goal.invariant-loop-other
invariant-loop-other l = list_any (meet l.own) (drop l.other-index l.others) ≡ list_any (meet l.own) l.others
