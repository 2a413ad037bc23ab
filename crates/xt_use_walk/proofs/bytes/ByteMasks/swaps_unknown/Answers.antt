use Rattle.xt_use_walk.proofs.Served.{served_some, swap_bytes}
use Rattle.xt_use_walk.proofs.bytes.ByteMasks.swaps_unknown.Goals as goal

pub some_unknown-requires-clause-bytes : goal.some_unknown-requires-clause-bytes
some_unknown-requires-clause-bytes c =
    swap_bytes c.in-Some.a c.in-Cas.field-0 c.in-Cas.field-1 c.in-Cas.is (served_some c.args.access c.in-Some.a c.in-Some.is c.requires.served)
