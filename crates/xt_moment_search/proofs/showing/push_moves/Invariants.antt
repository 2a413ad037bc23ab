-- The lines so far, and those of the moves that are left, make the whole.
use Rattle.std.proofs.Common.{◌≡◌, ◌++◌, drop}
use Rattle.xt_map.specs.Memory.{constant_byte}
use Rattle.xt_moments.specs.Made.{world_of}
use Rattle.xt_moment_search.specs.ShownTurns.{move_lines}
use Rattle.xt_moment_search.proofs.showing.push_moves.Given as goal

abbrev pub invariant-loop-made : goal.invariant-loop-made
invariant-loop-made l =
    let code = constant_byte l.ground.code in
    let m = l.ground.opening.contents in
    l.out.items ++ move_lines code l.numbers (drop l.made-index l.order) (world_of m l.world)
    ≡ l.initial.out.items ++ move_lines code (0, 0) l.order (world_of m l.fn.first)
