use Rattle.std.proofs.Common.{◌≡◌, drop}
use Rattle.std.specs.List.{list_any}
use Rattle.xt_asm.specs.Kinds.{is_unknown}
use Rattle.xt_asm.proofs.kinds.any_unknown.Given as goal

-- if there is one, it is among those that are left
abbrev pub invariant-loop-e : goal.invariant-loop-e
invariant-loop-e l = list_any (is_unknown l.labels) (drop l.e-index l.exprs) ≡ list_any (is_unknown l.labels) l.exprs
