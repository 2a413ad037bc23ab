-- Carries a proof; nothing that a reader must believe.
-- Lines that are given one by one, in the fields that they are made from.
use Rattle.std.specs.Prelude.{◌≤◌, length}
use Rattle.xt_core.specs.Positions.{schedule_in}
use Rattle.xt_core.specs.Runs.{IsRunOf}
use Rattle.xt_events.specs.declared.turn_lines.TurnLines.TheInside.{Inside}
use Rattle.xt_events.specs.Lines.{LinesState}

abbrev pub state_of : Inside → LinesState
state_of t = record {
  image = t.replay.image;
  run = t.replay.run;
  filter = t.filter;
  position = t.replay.position;
  end = t.end;
}

pub record IsAtPosition (t : Inside) : Type 0 where
  pub run_is : IsRunOf t.replay.image t.replay.run
  pub end_is : t.end ≤ length (schedule_in t.replay.run)
