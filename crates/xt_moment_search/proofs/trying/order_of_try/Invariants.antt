use Rattle.std.proofs.Common.{◌<◌}
use Rattle.std.specs.List.{All}
use Rattle.xt_moments.specs.Moments.{IsMove}
use Rattle.xt_moment_search.proofs.trying.order_of_try.Given as goal

abbrev pub invariant-loop : goal.invariant-loop
invariant-loop l = record {
  core : l.core < 2;
  moves : All IsMove l.order.items;
}
