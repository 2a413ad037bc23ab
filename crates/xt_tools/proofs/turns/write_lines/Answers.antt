use Rattle.std.proofs.Common.{◌≡◌, ◌++◌, ℕ, List, arith, length, Err, rules, sym, ap, subst, ◌∙◌}
use Rattle.std.specs.List.{concat}
use Rattle.xt_report.proofs.Gathering.{gathered_on, refused_gathering}
use Rattle.xt_report.proofs.Writing.{wanting, written_after}
use Rattle.xt_report.specs.Writes.{Writes}
use Rattle.xt_tools.proofs.Lined.{given_line, no_line_left}
use Rattle.xt_tools.proofs.turns.write_lines.Goals as goal

pub returns-in_err-text : goal.returns-in_err-text
returns-in_err-text g c =
    let (done, so_far, appended) = c.loop.invariant.bytes in
    wanting _ _ _ _ _ done _ _ (search rules) appended c.loop.invariant.later so_far

pub returns-in_err-add-in-Some : goal.returns-in_err-add-in-Some
returns-in_err-add-in-Some g c =
    let (done, so_far, appended) = c.loop.invariant.bytes in
    let split = so_far ∙ ap (λ ls. done ++ (c.loop.piece ++ concat ls)) (given_line _ _ _ _ _ c.in_ok-text.was c.in-Some.is c.give.ensures) in
    let same : c.from_residual-in_err-add-in-Some.result ≡ Err c.in_err-add-in-Some.field-0.0 = search rules in
    refused_gathering _ _ _ _ _ _ _ _ _ done c.loop.piece _ c.in-Some.text _ _ c.in_err-add-in-Some.was same c.add.ensures appended c.loop.invariant.later split

pub loop-preserved : goal.loop-preserved
loop-preserved g c =
    let (done, so_far, appended) = c.loop.invariant.bytes in
    let given = given_line _ _ _ _ _ c.in_ok-text.was c.in-Some.is c.give.ensures in
    let split = so_far ∙ ap (λ ls. done ++ (c.loop.piece ++ concat ls)) given in
    let one = ap length given in
    record {
      bytes = gathered_on _ _ _ _ _ _ _ done c.loop.piece _ c.in-Some.text _ _ c.in_ok-add-in-Some.was c.add.ensures appended split;
      left = omega (arith, one, c.loop.invariant.left);
      later = omega (arith, c.add.ensures.later, c.loop.invariant.later);
    }

pub returns : goal.returns
returns g c =
    let (done, so_far, appended) = c.loop.invariant.bytes in
    let whole = no_line_left _ _ _ _ done c.loop.piece c.loop.invariant.left c.loop-test.false so_far in
    let P : List ℕ → Type 0 = λ bytes. Writes c.flush.result (g.K.Sink.told c.args.sink.now) (g.K.Sink.told c.flush.new.sink) (g.K.Sink.faults c.args.sink.now) (g.K.Sink.faults c.flush.new.sink) bytes in
    subst P (sym whole) (written_after _ _ _ _ _ _ _ done c.loop.piece appended c.loop.invariant.later c.flush.ensures.writes)
