use Rattle.std.proofs.Common.{◌++◌}
use Rattle.xt_map.specs.Memory.{constant_byte}
use Rattle.xt_moments.specs.Made.{world_of}
use Rattle.xt_moments.specs.declared.moves.Move.TheVariants as move
use Rattle.xt_moment_search.specs.ShownTurns.{move_lines}
use Rattle.xt_moment_search.proofs.ShownLines.{lines_more}
use Rattle.xt_moment_search.proofs.showing.push_moves.Goals as goal

pub loop-made-preserved : goal.loop-made-preserved
loop-made-preserved c =
    let m = c.args.ground.now.opening.contents in
    let code = constant_byte c.args.ground.now.code in
    let order = c.args.order.now in
    let whole = c.args.out.now.items ++ move_lines code (0, 0) order (world_of m c.args.first) in
    lines_more whole c.loop-made.out.items c.push_move.new.out.items code order
    c.loop-made.made-index (move.Turn 0) c.loop-made.numbers c.numbers_past-numbers.result
    (world_of m c.loop-made.world) (world_of m c.in_ok-world.world) c.loop-made-test.true
    c.in_ok-push_move.ensures c.numbers_past-numbers.ensures c.in_ok-world.ensures c.loop-made.invariant
