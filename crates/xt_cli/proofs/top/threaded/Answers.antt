use Rattle.std.proofs.Common.{◌∙◌}
use Rattle.xt_cli.proofs.Refusing.{not_session, not_work, top_refuses}
use Rattle.xt_cli.proofs.top.threaded.Goals as goal

pub returns-in-Err-clause-answers : goal.returns-in-Err-clause-answers
returns-in-Err-clause-answers g c =
    top_refuses _ c.in-Err.refusal c.without_run.result (g.S.Source.left c.args.source.now) (g.K.Sink.told c.args.sink.now) (g.S.Source.faults c.args.source.now)
    (g.K.Sink.faults c.args.sink.now) c.in-Err.ensures.means (c.without_run.ensures.status ∙ c.status_of.ensures) c.without_run.ensures.run c.without_run.ensures.unmet

pub unreachable-requires : goal.unreachable-requires
unreachable-requires g c = not_work _ _ _ c.requires.threads c.in-Ok-Work.field-0-is c.in-Ok-Work.ensures.means

pub unreachable-requires-in-Ok-Session : goal.unreachable-requires-in-Ok-Session
unreachable-requires-in-Ok-Session g c = not_session _ _ _ c.requires.threads c.in-Ok-Session.field-0-is c.in-Ok-Session.ensures.means
