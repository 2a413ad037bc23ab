use Rattle.std.proofs.Common.{sym, ◌∙◌}
use Rattle.xt_use_walk.specs.MaskedBytes.{mask_at}
use Rattle.xt_use_walk.proofs.Sparing.{few_bytes, known_none, known_stored}
use Rattle.xt_use_walk.proofs.side.Bytes.store_some.Goals as goal

pub returns-then-are_known-clause-masks : goal.returns-then-are_known-clause-masks
returns-then-are_known-clause-masks c =
    let m = c.args.self.now.masks in
    let addr = c.args.addr in
    let size = c.args.size in
    known_stored m c.args.self.now.marks.items c.args.stored addr size c.if-stored-eq-ALL_BITS.true (few_bytes size c.requires.size) (known_none (mask_at m) addr size (sym c.are_known.ensures ∙ c.if-are_known.true))
