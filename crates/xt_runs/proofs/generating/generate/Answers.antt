use Rattle.std.proofs.Common.{rules, subst}
use Rattle.std.specs.Io.KnownBytes.{Appends}
use Rattle.xt_io.specs.Whole.{AppendsPrefix}
use Rattle.xt_runs.proofs.Numbered.{gen_done, gen_failed, gen_memory}
use Rattle.xt_report.proofs.Writing.{prefix_of, was_appended}
use Rattle.xt_runs.proofs.generating.generate.Goals as goal
use Rattle.xt_runs.proofs.generating.generate.Goals.{in-Ok-write_text, in-Err-Failed}

pub returns-in-Err-Memory-clause-answers : goal.returns-in-Err-Memory-clause-answers
returns-in-Err-Memory-clause-answers g c =
    let front = AppendsPrefix (g.K.Sink.told c.args.sink.now) (g.K.Sink.told c.write_text.new.sink) in
    gen_memory c.args.number _ _ _ _ c.in-Ok.run' _ _ c.without_run-in-Err-Memory.ensures.status c.without_run-in-Err-Memory.ensures.run
    c.in-Ok.ensures.run
    (subst front c.in-Ok.ensures.text (prefix_of _ _ _ _ _ _ _ c.in-Err-Memory.is c.write_text.ensures))

pub returns-clause-answers : goal.returns-clause-answers
returns-clause-answers g c =
    let front = AppendsPrefix (g.K.Sink.told c.args.sink.now) (g.K.Sink.told c.write_text.new.sink) in
    let whole = Appends (g.K.Sink.told c.args.sink.now) (g.K.Sink.told c.write_text.new.sink) in
    elim c.match-write_text.branch [
      | in-Ok-write_text w ↦ gen_done c.args.number _ _ _ _ c.in-Ok.run' _ w.status-is c.in-Ok.ensures.run
          (subst whole c.in-Ok.ensures.text (was_appended _ _ _ _ _ _ _ w.in-Ok-write_text.is c.write_text.ensures))
      | in-Err-Failed w ↦ gen_failed c.args.number _ _ _ _ c.in-Ok.run' _ w.status-is c.in-Ok.ensures.run
          (subst front c.in-Ok.ensures.text (prefix_of _ _ _ _ _ _ _ w.in-Err-Failed.is c.write_text.ensures)) (search rules)
    ]
