-- The target is at no position so far, so the first from here on is the first of all.
use Rattle.std.proofs.Common.{◌≡◌}
use Rattle.xt_replay.specs.Shown.{replay_at}
use Rattle.xt_debug.specs.Searches.{first_step, hits}
use Rattle.xt_debug.proofs.searching.first.Given as goal

abbrev pub invariant-loop-position : goal.invariant-loop-position
invariant-loop-position l = let r = l.initial.replay in record {
  rest : first_step (hits r.image r.run l.target) r.run l.position ≡ first_step (hits r.image r.run l.target) r.run r.position;
  replay : l.replay ≡ replay_at r l.position;
}
