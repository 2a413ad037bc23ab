use Rattle.std.proofs.Common.{◌≡◌, drop}
use Rattle.std.specs.List.{position, position_from}
use Rattle.xt_map.specs.declared.segment.Segment.{Segment}
use Rattle.xt_map.specs.Placing.{do_overlap}
use Rattle.xt_image.proofs.rules.first_sharing.Given as goal

-- the first is among those that are left
abbrev pub invariant-loop-i : goal.invariant-loop-i
invariant-loop-i l = position_from (λ (t : Segment). do_overlap t l.segment) l.i (drop l.i l.before) ≡ position (λ (t : Segment). do_overlap t l.segment) l.before
