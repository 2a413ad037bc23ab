use Rattle.std.proofs.Common.{sym, ◌∙◌}
use Rattle.xt_core.specs.Positions.{schedule_in}
use Rattle.xt_replay.proofs.Inside.{run_seen}
use Rattle.xt_replay.proofs.Recorded.{past_all, two_cores}
use Rattle.xt_replay.proofs.replay.Replay.next_turn.Goals as goal

pub record-requires-clause-core : goal.record-requires-clause-core
record-requires-clause-core c =
    let s = c.args.self.now in
    two_cores s.image s.run s.position c.in-Some.core (run_seen c.self.inside s c.self.view_is c.self.invariant) (sym c.next_core.ensures ∙ c.in-Some.is)

pub returns-in-None : goal.returns-in-None
returns-in-None c = let s = c.args.self.now in past_all (schedule_in s.run) s.position (sym c.next_core.ensures ∙ c.in-None.is)

pub returns-in-Some : goal.returns-in-Some
returns-in-Some c =
    let s = c.args.self.now in
    let is = sym c.next_core.ensures ∙ c.in-Some.is in (
      is,
      two_cores s.image s.run s.position c.in-Some.core (run_seen c.self.inside s c.self.view_is c.self.invariant) is,
      c.record.ensures,
    )
