-- The lines so far are answered.
use Rattle.std.proofs.Common.{◌≡◌, ◌≤◌}
use Rattle.xt_tools.proofs.Replying.{Going}
use Rattle.xt_tools.proofs.answering.answer_lines.Given as goal

abbrev pub invariant-loop-line : goal.invariant-loop-line
invariant-loop-line g l = record {
  going : Going l.beyond l.fn.debugger.image l.fn.debugger.run (g.S.Source.left l.fn.source) (g.S.Source.left l.source) (g.K.Sink.told l.fn.sink) (g.K.Sink.told l.sink) l.spare;
  image : l.debugger.image ≡ l.fn.debugger.image;
  run : l.debugger.run ≡ l.fn.debugger.run;
  source : g.S.Source.faults l.fn.source ≤ g.S.Source.faults l.source;
  sink : g.K.Sink.faults l.fn.sink ≤ g.K.Sink.faults l.sink;
}

abbrev pub decreases-loop-line : goal.decreases-loop-line
decreases-loop-line g l = l.spare
