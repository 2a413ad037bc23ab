use Rattle.std.proofs.Common.{◌≡◌, drop, find}
use Rattle.xt_flow.specs.Following.{has_code}
use Rattle.xt_flow.proofs.code.code_from.Given as goal

-- what is looked for stands in the rest
abbrev pub invariant-loop-segment : goal.invariant-loop-segment
invariant-loop-segment l = find (has_code l.at) (drop l.segment-index l.segments) ≡ find (has_code l.at) l.segments
