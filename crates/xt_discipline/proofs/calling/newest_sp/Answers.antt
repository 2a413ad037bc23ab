use Rattle.std.proofs.Common.{◌∙◌}
use Rattle.xt_frames.specs.Frames.{value_or_zero}
use Rattle.xt_discipline.proofs.Calls.{sp_last}
use Rattle.xt_discipline.proofs.calling.newest_sp.Goals as goal

pub returns-clause-value : goal.returns-clause-value
returns-clause-value g c =
    let f = g.C.Stacked.frame c.args.core.now in
    c.stack_pointer.ensures ∙ sp_last f.frames (value_or_zero f.seen 1) c.callers.result c.callers.ensures.depth
