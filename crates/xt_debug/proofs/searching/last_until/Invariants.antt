-- What was found so far, or else the last before where it began, is the last before here.
use Rattle.std.proofs.Common.{◌≡◌, ◌<◌}
use Rattle.std.specs.Prelude.{IfSome}
use Rattle.xt_replay.specs.Shown.{replay_at}
use Rattle.xt_debug.specs.Runs.{or_else}
use Rattle.xt_debug.specs.Searches.{hits, last_before}
use Rattle.xt_debug.proofs.searching.last_until.Given as goal

abbrev pub invariant-loop-position : goal.invariant-loop-position
invariant-loop-position l = let r = l.initial.replay in let test = hits r.image r.run l.target in record {
  rest : or_else l.found (last_before test r.position) ≡ last_before test l.position;
  range : IfSome l.found (λ q. q < l.position);
  replay : l.replay ≡ replay_at r l.position;
}
