use Rattle.std.proofs.Common.{◌≡◌, ◌+◌, ◌-◌}
use Rattle.xt_map.specs.Memory.{constant_byte}
use Rattle.xt_exec.specs.Chips.{processor}
use Rattle.xt_search.specs.Meetings.{onward}
use Rattle.xt_judged.specs.Scenes.{scene_past}
use Rattle.xt_judged.specs.Kept.{bounds0, bounds1, goes_on, scene_of, stretch}
use Rattle.xt_judged.proofs.judging.Judging.run.Given as goal

abbrev pub invariant-loop-made : goal.invariant-loop-made
invariant-loop-made l =
    let t = l.self.timed in
    let code = constant_byte t.code in
    let step = scene_past (processor code) code (bounds0 l.scene) (bounds1 l.scene) t.timed in
    let first = scene_of t.opening.contents l.scene in
    record {
      run : stretch code (bounds0 l.scene) (bounds1 l.scene) t.timed l.self.most_alone l.core first
          ≡ onward (goes_on code t.timed l.core) (step l.core) (l.self.most_alone - l.made) (scene_of t.opening.contents l.next);
      count : l.turns ≡ l.made + 1;
      same0 : bounds0 l.next ≡ bounds0 l.scene;
      same1 : bounds1 l.next ≡ bounds1 l.scene;
    }
