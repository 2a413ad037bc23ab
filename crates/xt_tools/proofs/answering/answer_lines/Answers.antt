use Rattle.std.proofs.Common.{◌≡◌, Some, None, is_err, true, false, refl, sym, ◌∙◌, subst, arith}
use Rattle.xt_tools.specs.Reads.{EndsLines}
use Rattle.xt_tools.proofs.Replying.{call, going_first, line_answered, lines_done, lines_unread, lines_unwritten, of_good}
use Rattle.xt_tools.proofs.Reading.{read_as}
use Rattle.xt_tools.proofs.answering.answer_lines.Goals as goal

pub loop-line-init : goal.loop-line-init
loop-line-init g c = record {
  going = going_first c.args.beyond c.args.debugger.now.image c.args.debugger.now.run (g.S.Source.left c.args.source.now) (g.K.Sink.told c.args.sink.now);
  image = refl;
  run = refl;
  source = omega arith;
  sink = omega arith;
}

pub returns-in-Ok-None-clause-answers : goal.returns-in-Ok-None-clause-answers
returns-in-Ok-None-clause-answers g c =
    lines_done c.args.beyond c.args.debugger.now.image c.args.debugger.now.run (g.S.Source.left c.args.source.now) (g.S.Source.left c.loop-line.source) (g.S.Source.left c.read_line.new.source)
    (g.K.Sink.told c.args.sink.now) (g.K.Sink.told c.loop-line.sink) (g.S.Source.faults c.args.source.now) (g.S.Source.faults c.read_line.new.source) (g.K.Sink.faults c.args.sink.now) (g.K.Sink.faults c.loop-line.sink)
    c.loop-line.spare c.read_line.new.spare c.loop-line.invariant.going (read_as c.in-Ok-None.field-0 None (g.S.Source.left c.loop-line.source) (g.S.Source.left c.read_line.new.source) c.loop-line.spare c.read_line.new.spare c.in-Ok-None.field-0-is c.in-Ok-None.ensures.reads)

pub returns-in-Err-clause-answers : goal.returns-in-Err-clause-answers
returns-in-Err-clause-answers g c =
    subst (EndsLines c.args.beyond c.args.debugger.now.image c.args.debugger.now.run
    (call (g.S.Source.left c.args.source.now) (g.S.Source.left c.read_line.new.source) (g.K.Sink.told c.args.sink.now) (g.K.Sink.told c.loop-line.sink) (g.S.Source.faults c.args.source.now)
    (g.S.Source.faults c.read_line.new.source) (g.K.Sink.faults c.args.sink.now) (g.K.Sink.faults c.loop-line.sink))) (sym c.status_of.ensures)
    (lines_unread c.args.beyond c.args.debugger.now.image c.args.debugger.now.run (g.S.Source.left c.args.source.now) (g.S.Source.left c.loop-line.source) (g.S.Source.left c.read_line.new.source)
    (g.K.Sink.told c.args.sink.now) (g.K.Sink.told c.loop-line.sink) (g.S.Source.faults c.args.source.now) (g.S.Source.faults c.loop-line.source) (g.S.Source.faults c.read_line.new.source) (g.K.Sink.faults c.args.sink.now)
    (g.K.Sink.faults c.loop-line.sink) c.loop-line.spare c.read_line.new.spare c.in-Err.error c.loop-line.invariant.going c.in-Err.ensures.reads c.loop-line.invariant.source c.in-Err.ensures.fault)

pub returns-then-is_err-clause-answers : goal.returns-then-is_err-clause-answers
returns-then-is_err-clause-answers g c =
    let failed : is_err c.put_answer-written.result ≡ true = sym c.is_err.ensures.value ∙ c.if-is_err.true in
    subst (EndsLines c.args.beyond c.args.debugger.now.image c.args.debugger.now.run
    (call (g.S.Source.left c.args.source.now) (g.S.Source.left c.read_line.new.source) (g.K.Sink.told c.args.sink.now) (g.K.Sink.told c.put_answer-written.new.sink) (g.S.Source.faults c.args.source.now)
    (g.S.Source.faults c.read_line.new.source) (g.K.Sink.faults c.args.sink.now) (g.K.Sink.faults c.put_answer-written.new.sink))) (sym c.status_after.ensures)
    (lines_unwritten c.args.beyond c.args.debugger.now.image c.loop-line.debugger.image c.args.debugger.now.run c.loop-line.debugger.run (g.S.Source.left c.args.source.now) (g.S.Source.left c.loop-line.source)
    (g.S.Source.left c.read_line.new.source) (g.K.Sink.told c.args.sink.now) (g.K.Sink.told c.loop-line.sink) (g.K.Sink.told c.put_answer-written.new.sink) (g.S.Source.faults c.args.source.now)
    (g.S.Source.faults c.read_line.new.source) (g.K.Sink.faults c.args.sink.now) (g.K.Sink.faults c.loop-line.sink) (g.K.Sink.faults c.put_answer-written.new.sink) c.loop-line.spare c.read_line.new.spare c.in-Ok-Some.line
    c.as_slice.result.now c.put_answer-written.result c.loop-line.invariant.image c.loop-line.invariant.run c.as_slice.ensures failed c.loop-line.invariant.going (read_as c.in-Ok-Some.field-0 (Some c.in-Ok-Some.line) (g.S.Source.left c.loop-line.source) (g.S.Source.left c.read_line.new.source) c.loop-line.spare c.read_line.new.spare c.in-Ok-Some.field-0-is c.in-Ok-Some.ensures.reads) c.loop-line.invariant.sink
    c.put_answer-written.ensures.writes)

pub loop-line-preserved : goal.loop-line-preserved
loop-line-preserved g c =
    let well : is_err c.put_answer-written.result ≡ false = sym c.is_err.ensures.value ∙ c.if-is_err.false in
    let same : (c.put_answer-written.new.debugger.image ≡ c.loop-line.debugger.image) × (c.put_answer-written.new.debugger.run ≡ c.loop-line.debugger.run) =
    of_good c.put_answer-written.result _ well c.put_answer-written.ensures.run in
    record {
      going = line_answered c.args.beyond c.args.debugger.now.image c.loop-line.debugger.image c.args.debugger.now.run c.loop-line.debugger.run (g.S.Source.left c.args.source.now) (g.S.Source.left c.loop-line.source)
          (g.S.Source.left c.read_line.new.source) (g.K.Sink.told c.args.sink.now) (g.K.Sink.told c.loop-line.sink) (g.K.Sink.told c.put_answer-written.new.sink) (g.K.Sink.faults c.loop-line.sink)
          (g.K.Sink.faults c.put_answer-written.new.sink) c.loop-line.spare c.read_line.new.spare c.in-Ok-Some.line c.as_slice.result.now c.put_answer-written.result c.loop-line.invariant.image c.loop-line.invariant.run
          c.as_slice.ensures well c.loop-line.invariant.going (read_as c.in-Ok-Some.field-0 (Some c.in-Ok-Some.line) (g.S.Source.left c.loop-line.source) (g.S.Source.left c.read_line.new.source) c.loop-line.spare c.read_line.new.spare c.in-Ok-Some.field-0-is c.in-Ok-Some.ensures.reads) c.put_answer-written.ensures.writes;
      image = same.0 ∙ c.loop-line.invariant.image;
      run = same.1 ∙ c.loop-line.invariant.run;
      source = omega (arith, c.loop-line.invariant.source, c.in-Ok-Some.ensures.later);
      sink = omega (arith, c.loop-line.invariant.sink, c.put_answer-written.ensures.writes.later);
    }
