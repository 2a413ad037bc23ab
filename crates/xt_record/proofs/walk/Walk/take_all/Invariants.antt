use Rattle.std.proofs.Common.{◌≡◌, drop}
use Rattle.xt_record.specs.TurnRules.{walk_finding}
use Rattle.xt_record.specs.Standing.{IsSame, Stands, run_in}
use Rattle.xt_record.proofs.walk.Walk.take_all.Given as goal

abbrev pub invariant-loop-entry : goal.invariant-loop-entry
invariant-loop-entry l = record {
  index : l.index ≡ l.entry-index;
  same : IsSame l.fn.self l.self;
  stands : Stands l.entries l.index l.self;
  found : walk_finding l.fn.self.image.now (run_in l.entries l.fn.self) 0 l.entries ≡ walk_finding l.fn.self.image.now (run_in l.entries l.fn.self) l.index (drop l.index l.entries);
}
