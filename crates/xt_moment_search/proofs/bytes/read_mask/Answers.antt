use Rattle.std.proofs.Common.{sym, ◌∙◌, arith}
use Rattle.xt_use_walk.proofs.Places.{byte_small}
use Rattle.xt_moment_search.proofs.HiddenBytes.{number_read}
use Rattle.xt_moment_search.proofs.bytes.read_mask.Goals as goal

pub number-requires-clause-low : goal.number-requires-clause-low
number-requires-clause-low c =
    let small = byte_small c.args.access.addr (sym c.is_in_memory.ensures ∙ c.if-not-is_in_memory.false) in
    omega (arith, small)

pub returns : goal.returns
returns c =
    number_read c.args.cleared.now.contents c.args.hidden.now c.args.access c.number.result
    c.requires.served
    (sym c.is_in_memory.ensures ∙ c.if-not-is_in_memory.false) c.number.ensures
