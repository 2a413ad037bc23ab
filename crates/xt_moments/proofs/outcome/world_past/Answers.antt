use Rattle.xt_map.specs.Memory.{constant_byte}
use Rattle.xt_moments.specs.Made.{world_of}
use Rattle.xt_moments.specs.Moments.{world_past}
use Rattle.xt_moments.specs.declared.moves.Move.TheVariants as move
use Rattle.xt_moments.proofs.Orders.{move_more}
use Rattle.xt_moments.proofs.outcome.world_past.Goals as goal

pub loop-made-preserved : goal.loop-made-preserved
loop-made-preserved c =
    let m = c.args.opening.now.contents in
    let code = constant_byte c.args.code.now in
    let order = c.args.order.now in
    move_more code order c.loop-made.made-index (move.Turn 0) (world_of m c.loop-made.world)
    (world_of m c.in_ok-world.world) (world_past code (λ k. 0) order (world_of m c.args.first))
    c.loop-made-test.true c.in_ok-world.ensures c.loop-made.invariant
