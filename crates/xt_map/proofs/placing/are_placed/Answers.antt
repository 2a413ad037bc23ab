use Rattle.std.proofs.Common.{◌∙◌, sym}
use Rattle.xt_map.proofs.Placed.{refused, not_placed, clashes, placed_more}
use Rattle.xt_map.proofs.placing.are_placed.Goals as goal

pub returns-then-not-is_placed : goal.returns-then-not-is_placed
returns-then-not-is_placed c = refused (not_placed c.args.segments.now c.loop-number.number c.index-segments-number.result c.loop-number-test.true c.index-segments-number.is
    (sym c.is_placed.ensures ∙ c.if-not-is_placed.true))

pub returns-then-shares_with_any : goal.returns-then-shares_with_any
returns-then-shares_with_any c = refused (clashes c.args.segments.now c.loop-number.number c.index-segments-number.result c.loop-number-test.true c.index-segments-number.is
    (sym c.shares_with_any.ensures ∙ c.if-shares_with_any.true))

pub loop-number-preserved : goal.loop-number-preserved
loop-number-preserved c = placed_more c.args.segments.now c.loop-number.number c.index-segments-number.result c.loop-number-test.true c.index-segments-number.is
    (sym c.is_placed.ensures ∙ c.if-not-is_placed.false) (sym c.shares_with_any.ensures ∙ c.if-shares_with_any.false) c.loop-number.invariant
