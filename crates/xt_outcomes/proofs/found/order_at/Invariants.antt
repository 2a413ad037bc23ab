use Rattle.std.proofs.Common.{◌≡◌, drop}
use Rattle.xt_map.specs.Memory.{constant_byte}
use Rattle.xt_trace.specs.Runs.{world_at_start}
use Rattle.xt_exec.specs.Chips.{processor}
use Rattle.xt_core.specs.Runs.{opening_of}
use Rattle.xt_search.specs.Meetings.{after}
use Rattle.xt_search.specs.Worlds.{IsOrder}
use Rattle.xt_outcomes.specs.Dead.{spot_forgotten}
use Rattle.xt_outcomes.specs.KeptWorlds.{spot_of}
use Rattle.xt_outcomes.specs.Places.{spot_run}
use Rattle.xt_outcomes.specs.Nexts.{TurnsFit, spot_next}
use Rattle.xt_outcomes.specs.Spots.{spot_in}
use Rattle.xt_outcomes.proofs.Covering.{RunsAreFree}
use Rattle.xt_outcomes.proofs.found.order_at.Given as goal

-- the turns so far lead to the world, and the other runs from there; none uses time
abbrev pub invariant-loop-at : goal.invariant-loop-at
invariant-loop-at l = record {
  order : IsOrder l.order.items;
  turns : spot_of l.search.machine.opening.contents l.world
      ≡ after (spot_next (processor (constant_byte l.search.machine.code)) l.search.machine.timed l.search.machine.dead.masks.items) l.order.items (spot_forgotten l.search.machine.dead.masks.items (spot_in l.search.machine.timed (world_at_start (opening_of l.image l.options))));
  free : TurnsFit (constant_byte l.search.machine.code) l.search.machine.timed l.search.machine.dead.masks.items l.order.items (spot_forgotten l.search.machine.dead.masks.items (spot_in l.search.machine.timed (world_at_start (opening_of l.image l.options))));
  runs : after (spot_run (constant_byte l.search.machine.code) l.search.machine.timed l.search.machine.dead.masks.items l.search.machine.places.list.items l.search.machine.most_local) (drop l.at l.runs.items) (spot_of l.search.machine.opening.contents l.world)
      ≡ after (spot_run (constant_byte l.search.machine.code) l.search.machine.timed l.search.machine.dead.masks.items l.search.machine.places.list.items l.search.machine.most_local) l.runs.items (spot_forgotten l.search.machine.dead.masks.items (spot_in l.search.machine.timed (world_at_start (opening_of l.image l.options))));
  left : RunsAreFree (constant_byte l.search.machine.code) l.search.machine.timed l.search.machine.dead.masks.items l.search.machine.places.list.items l.search.machine.most_local (drop l.at l.runs.items) (spot_of l.search.machine.opening.contents l.world);
}
