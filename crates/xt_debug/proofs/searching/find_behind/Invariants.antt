-- The target is at no position from here on to before where the search began.
use Rattle.std.proofs.Common.{◌≡◌, ◌≤◌}
use Rattle.xt_replay.specs.Shown.{replay_at}
use Rattle.xt_debug.specs.Searches.{hits, last_before}
use Rattle.xt_debug.proofs.searching.find_behind.Given as goal

abbrev pub invariant-parts : goal.invariant-parts
invariant-parts l = let r = l.fn.replay in let test = hits r.image r.run l.target in record {
  rest : last_before test l.to ≡ last_before test r.position;
  replay : l.replay ≡ replay_at r l.replay.position;
  to : l.to ≤ r.position;
}

abbrev pub decreases-parts : goal.decreases-parts
decreases-parts l = l.to
