use Rattle.std.proofs.Common.{◌+◌, ◌∷◌, [], drop, get_or, Ok, sym, ◌∙◌, ap}
use Rattle.std.proofs.lemmas.List.{drop_more, drop_all}
use Rattle.xt_names.specs.declared.forms.Shape.TheVariants.{Register}
use Rattle.xt_parse.specs.Reading.{with_front, next_operand, operands_behind}
use Rattle.xt_parse.proofs.ReadLemmas.{carries, front_more, operand_follows, operand_stops, no_shape_is_left}
use Rattle.xt_parse.proofs.operands.operands_after.Goals as goal

pub returns-in-Err : goal.returns-in-Err
returns-in-Err c =
    let shapes = c.args.shapes.now in
    let place = c.loop-shape.shape-index in
    let rest = c.loop-shape.rest.now in
    let items = c.loop-shape.found.items in
    let shape = get_or shapes place Register in
    let cut = drop_more shapes place Register c.loop-shape-test.true in
    carries c.in-Err.stop (next_operand shape rest) (with_front (c.args.first ∷ []) (operands_behind shapes c.args.tokens.now)) c.in-Err.ensures
    (λ n e. sym c.loop-shape.invariant ∙ ap (with_front items) (ap (λ ss. operands_behind ss rest) cut ∙ operand_stops shape (drop (place + 1) shapes) rest n e))

pub loop-shape-preserved : goal.loop-shape-preserved
loop-shape-preserved c =
    let shapes = c.args.shapes.now in
    let place = c.loop-shape.shape-index in
    let rest = c.loop-shape.rest.now in
    let items = c.loop-shape.found.items in
    let shape = get_or shapes place Register in
    let others = drop (place + 1) shapes in
    let one = c.in-Ok.read.0 in
    let left = c.in-Ok.read.1.now in
    let cut = drop_more shapes place Register c.loop-shape-test.true in
    ap (λ l. with_front l (operands_behind others left)) c.in_ok-push-2.ensures.items
    ∙ sym (front_more items one (operands_behind others left))
    ∙ ap (with_front items) (sym (operand_follows shape others rest (one, left) c.in-Ok.ensures) ∙ sym (ap (λ ss. operands_behind ss rest) cut))
    ∙ c.loop-shape.invariant

pub returns : goal.returns
returns c =
    let shapes = c.args.shapes.now in
    let rest = c.loop-shape.rest.now in
    let items = c.loop-shape.found.items in
    sym c.loop-shape.invariant ∙ ap (λ ss. with_front items (operands_behind ss rest)) (drop_all c.loop-shape.shape-index shapes c.loop-shape-test.false)
    ∙ no_shape_is_left items rest ∙ ap (λ l. Ok (l, rest)) (sym c.new.ensures)
