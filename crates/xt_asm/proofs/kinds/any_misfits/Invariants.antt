use Rattle.std.proofs.Common.{◌≡◌, drop}
use Rattle.std.specs.List.{list_any}
use Rattle.xt_asm.specs.Kinds.{misfits}
use Rattle.xt_asm.specs.Widths.{fits}
use Rattle.xt_asm.proofs.kinds.any_misfits.Given as goal

-- if there is one, it is among those that are left
abbrev pub invariant-loop-e : goal.invariant-loop-e
invariant-loop-e l = list_any (misfits (fits l.width) l.labels) (drop l.e-index l.exprs) ≡ list_any (misfits (fits l.width) l.labels) l.exprs
