use Rattle.std.proofs.Common.{rules}
use Rattle.std.specs.Prelude.{map, string_bytes}
use Rattle.xt_report.specs.Calls.{Ends}
use Rattle.xt_cli.proofs.Refusing.{after_both, answered, answered_completely, is_threaded}
use Rattle.xt_cli.specs.Orders.{order_of}
use Rattle.xt_cli.specs.Top.{Answers, IsComplete}
use Rattle.xt_cli.proofs.top.xt_main.Goals as goal

pub returns-in-Answer-clause-answers : goal.returns-in-Answer-clause-answers
returns-in-Answer-clause-answers g c = answered _ _ c.in-Answer.status _ c.in-Answer.ensures.answers c.without_run.ensures.status c.without_run.ensures.run c.without_run.ensures.unmet

pub returns-in-Answer-clause-complete : goal.returns-in-Answer-clause-complete
returns-in-Answer-clause-complete g c = answered_completely _ _ c.in-Answer.status _ c.in-Answer.ensures.answers c.in-Answer.ensures.complete c.without_run.ensures.status

pub threaded-requires-clause-threads : goal.threaded-requires-clause-threads
threaded-requires-clause-threads g c =
    let threads = is_threaded (order_of (map string_bytes c.args.words.now)) _ c.in-Threaded.ensures.answers in search (rules, threads)

pub returns-in-Threaded-clause-answers : goal.returns-in-Threaded-clause-answers
returns-in-Threaded-clause-answers g c =
    let asked = order_of (map string_bytes c.args.words.now) in
    after_both (λ (e : Ends). Answers asked e c.threaded.result) asked
    (g.S.Source.left c.args.source.now) (g.S.Source.left c.tool_main.new.source) (g.S.Source.left c.threaded.new.source)
    (g.K.Sink.told c.args.sink.now) (g.K.Sink.told c.tool_main.new.sink) (g.K.Sink.told c.threaded.new.sink)
    (g.S.Source.faults c.args.source.now) (g.S.Source.faults c.tool_main.new.source) (g.S.Source.faults c.threaded.new.source)
    (g.K.Sink.faults c.args.sink.now) (g.K.Sink.faults c.tool_main.new.sink) (g.K.Sink.faults c.threaded.new.sink)
    c.in-Threaded.ensures.answers c.threaded.ensures.answers

pub returns-in-Threaded-clause-complete : goal.returns-in-Threaded-clause-complete
returns-in-Threaded-clause-complete g c =
    let asked = order_of (map string_bytes c.args.words.now) in
    after_both (λ (e : Ends). IsComplete asked e c.threaded.result) asked
    (g.S.Source.left c.args.source.now) (g.S.Source.left c.tool_main.new.source) (g.S.Source.left c.threaded.new.source)
    (g.K.Sink.told c.args.sink.now) (g.K.Sink.told c.tool_main.new.sink) (g.K.Sink.told c.threaded.new.sink)
    (g.S.Source.faults c.args.source.now) (g.S.Source.faults c.tool_main.new.source) (g.S.Source.faults c.threaded.new.source)
    (g.K.Sink.faults c.args.sink.now) (g.K.Sink.faults c.tool_main.new.sink) (g.K.Sink.faults c.threaded.new.sink)
    c.in-Threaded.ensures.answers c.threaded.ensures.complete
