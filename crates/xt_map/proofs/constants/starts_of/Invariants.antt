-- The starts so far are those of the segments so far.
use Rattle.xt_map.specs.Index.{HasStarts}
use Rattle.xt_map.proofs.constants.starts_of.Given as goal

abbrev pub invariant-loop-number : goal.invariant-loop-number
invariant-loop-number l = HasStarts l.segments l.number l.starts.items
