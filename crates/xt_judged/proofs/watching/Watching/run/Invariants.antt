use Rattle.std.proofs.Common.{◌≡◌, ◌+◌}
use Rattle.xt_map.specs.Memory.{constant_byte}
use Rattle.xt_search.specs.Changed.{contents_of}
use Rattle.xt_outcomes.specs.Ahead.{IsReady}
use Rattle.xt_outcomes.specs.KeptWorlds.{moved_spot, spot_of}
use Rattle.xt_judged.specs.Forgotten.{IsLed}
use Rattle.xt_judged.specs.OwnJudges.{range_of, with_judge}
use Rattle.xt_judged.specs.WatchedKept.{IsRunning, judge_at, watched_of}
use Rattle.xt_judged.proofs.watching.Watching.run.Given as goal

abbrev pub invariant-loop-made : goal.invariant-loop-made
invariant-loop-made l =
    let t = l.self.timed in
    let m = t.opening.contents in
    record {
      led : IsLed (constant_byte t.code) t.dead.masks.items (range_of l.self.stack0) (range_of l.self.stack1) t.timed l.self.places.list.items l.core
          (watched_of m l.watched)
          (with_judge l.core (judge_at l.frames l.judge) (moved_spot l.core l.side (contents_of m l.changes) (spot_of m l.watched.world)) (watched_of m l.watched));
      running : IsRunning l.frames l.judge;
      ready : IsReady l.side.state l.ahead;
      count : l.turns ≡ l.made + 1;
    }
