-- What was appended, and the lines of the turns that are left, are all lines.
use Rattle.std.proofs.Common.{◌≡◌, ◌-◌, ◌++◌}
use Rattle.xt_replay.specs.Shown.{replay_at}
use Rattle.xt_debug.proofs.Turning.{text_from}
use Rattle.xt_debug.proofs.turns.push_turns.Given as goal

abbrev pub invariant-loop : goal.invariant-loop
invariant-loop l = let r = l.initial.replay in record {
  text : l.out.items ++ text_from r.image r.run l.counter (l.to - l.counter) ≡ l.initial.out.items ++ text_from r.image r.run r.position (l.to - r.position);
  replay : l.replay ≡ replay_at r l.counter;
}
