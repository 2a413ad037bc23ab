use Rattle.std.proofs.Common.{◌≡◌, ◌+◌, ◌-◌}
use Rattle.xt_map.specs.Memory.{constant_byte}
use Rattle.xt_search.specs.Changed.{IsLean, contents_of}
use Rattle.xt_exec.specs.Chips.{processor}
use Rattle.xt_outcomes.specs.Ahead.{IsReady}
use Rattle.xt_search.specs.Meetings.{after, onward}
use Rattle.xt_outcomes.specs.KeptWorlds.{moved_spot, spot_of}
use Rattle.xt_outcomes.specs.Nexts.{TurnsFit, spot_next}
use Rattle.xt_outcomes.specs.Places.{is_local, spot_run, turns_of}
use Rattle.xt_outcomes.specs.Spots.{side_of}
use Rattle.xt_outcomes.proofs.timed.Timed.run.Given as goal

abbrev pub invariant-loop-made : goal.invariant-loop-made
invariant-loop-made l = record {
  run : spot_run (constant_byte l.self.code) l.self.timed l.self.dead.masks.items l.self.places.list.items l.self.most_local l.core (spot_of l.self.opening.contents l.world)
      ≡ onward (λ q. is_local (constant_byte l.self.code) l.self.timed l.self.dead.masks.items l.self.places.list.items l.core (side_of l.core q)) (spot_next (processor (constant_byte l.self.code)) l.self.timed l.self.dead.masks.items l.core) (l.self.most_local - l.made)
      (moved_spot l.core l.side (contents_of l.self.opening.contents l.changes) (spot_of l.self.opening.contents l.world));
  turns : moved_spot l.core l.side (contents_of l.self.opening.contents l.changes) (spot_of l.self.opening.contents l.world)
      ≡ after (spot_next (processor (constant_byte l.self.code)) l.self.timed l.self.dead.masks.items) (turns_of l.core l.turns) (spot_of l.self.opening.contents l.world);
  free : TurnsFit (constant_byte l.self.code) l.self.timed l.self.dead.masks.items (turns_of l.core l.turns) (spot_of l.self.opening.contents l.world);
  lean : IsLean l.self.opening.contents l.world.changes.value → IsLean l.self.opening.contents l.changes;
  ready : IsReady l.side.state l.ahead;
  count : l.turns ≡ l.made + 1;
}
