use Rattle.std.proofs.Common.{◌≡◌, ℕ, List, arith, Err, rules, sym, subst}
use Rattle.xt_trace.specs.Lines.{line_text}
use Rattle.xt_runs.proofs.Lines.{line_first, no_line_left, one_less}
use Rattle.xt_report.proofs.Gathering.{gathered_on, refused_gathering}
use Rattle.xt_report.proofs.Writing.{wanting, written_after}
use Rattle.xt_report.specs.Pieces.{Gathers}
use Rattle.xt_report.specs.Writes.{Writes}
use Rattle.xt_runs.proofs.output.write_records.Goals as goal

pub returns-in_err-text-in-Some : goal.returns-in_err-text-in-Some
returns-in_err-text-in-Some g c =
    let (done, so_far, appended) = c.loop-step.invariant.bytes in
    wanting _ _ _ _ _ done _ _ (search rules) appended c.loop-step.invariant.later so_far

pub returns-in_err-add-in-Some : goal.returns-in_err-add-in-Some
returns-in_err-add-in-Some g c =
    let (done, so_far, appended) = c.loop-step.invariant.bytes in
    let line = line_text c.args.core c.loop-step.step c.in-Some.r in
    let split = line_first _ done c.loop-step.piece c.args.core c.loop-step.step _ _ c.in-Some.r c.in-Some.ensures.first c.in-Some.ensures.rest so_far in
    let same : c.from_residual-in_err-add-in-Some.result ≡ Err c.in_err-add-in-Some.field-0.0 = search rules in
    let P : List ℕ → Type 0 = λ text. Gathers c.add.result (g.K.Sink.told c.loop-step.sink) (g.K.Sink.told c.add.new.sink) (g.K.Sink.faults c.loop-step.sink) (g.K.Sink.faults c.add.new.sink) c.loop-step.piece c.add.new.self text in
    refused_gathering _ _ _ _ _ _ _ _ _ done c.loop-step.piece _ line _ _ c.in_err-add-in-Some.was same (subst P c.in_ok-text-in-Some.ensures c.add.ensures) appended c.loop-step.invariant.later split

pub loop-step-preserved : goal.loop-step-preserved
loop-step-preserved g c =
    let (done, so_far, appended) = c.loop-step.invariant.bytes in
    let line = line_text c.args.core c.loop-step.step c.in-Some.r in
    let split = line_first _ done c.loop-step.piece c.args.core c.loop-step.step _ _ c.in-Some.r c.in-Some.ensures.first c.in-Some.ensures.rest so_far in
    let one = one_less _ _ c.in-Some.r c.in-Some.ensures.first c.in-Some.ensures.rest in
    let P : List ℕ → Type 0 = λ text. Gathers c.add.result (g.K.Sink.told c.loop-step.sink) (g.K.Sink.told c.add.new.sink) (g.K.Sink.faults c.loop-step.sink) (g.K.Sink.faults c.add.new.sink) c.loop-step.piece c.add.new.self text in
    record {
      bytes = gathered_on _ _ _ _ _ _ _ done c.loop-step.piece _ line _ _ c.in_ok-add-in-Some.was (subst P c.in_ok-text-in-Some.ensures c.add.ensures) appended split;
      left = omega (arith, one, c.loop-step.invariant.left);
      later = omega (arith, c.add.ensures.later, c.loop-step.invariant.later);
    }

pub returns : goal.returns
returns g c =
    let (done, so_far, appended) = c.loop-step.invariant.bytes in
    let whole = no_line_left c.args.core _ _ _ _ _ done c.loop-step.piece c.loop-step.invariant.left c.loop-step-test.false so_far in
    let P : List ℕ → Type 0 = λ bytes. Writes c.flush.result (g.K.Sink.told c.args.sink.now) (g.K.Sink.told c.flush.new.sink) (g.K.Sink.faults c.args.sink.now) (g.K.Sink.faults c.flush.new.sink) bytes in
    subst P (sym whole) (written_after _ _ _ _ _ _ _ done c.loop-step.piece appended c.loop-step.invariant.later c.flush.ensures.writes)
