-- What is found from here on is what is found at all.
use Rattle.std.proofs.Common.{◌≡◌, [], take, drop}
use Rattle.xt_image.specs.Rules.{first_overlap}
use Rattle.xt_image.proofs.rules.overlap_fault.Given as goal

abbrev pub invariant-loop-j : goal.invariant-loop-j
invariant-loop-j l = first_overlap (take l.j l.segments) (drop l.j l.segments) ≡ first_overlap [] l.segments
