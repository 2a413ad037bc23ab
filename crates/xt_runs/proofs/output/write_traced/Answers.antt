use Rattle.std.proofs.Common.{◌≡◌, ◌++◌, Err, rules}
use Rattle.xt_report.specs.Reports.{report_text}
use Rattle.xt_runs.specs.Traces.{trace_text}
use Rattle.xt_report.proofs.Writing.{was_appended, refused_early, written_after}
use Rattle.xt_runs.proofs.output.write_traced.Goals as goal

pub returns-in_err-write_report : goal.returns-in_err-write_report
returns-in_err-write_report g c =
    let traces = trace_text (g.R.Records.left c.args.records0.now) (g.R.Records.left c.args.records1.now) in
    let same : c.from_residual.result ≡ Err c.in_err-write_report.field-0.0 = search rules in
    refused_early _ _ _ _ _ _ _ (report_text c.args.whole.now) (c.args.analyses.now ++ traces) c.in_err-write_report.was same c.write_report.ensures

pub returns-in_err-write_text : goal.returns-in_err-write_text
returns-in_err-write_text g c =
    let traces = trace_text (g.R.Records.left c.args.records0.now) (g.R.Records.left c.args.records1.now) in
    let report = report_text c.args.whole.now in
    let same : c.from_residual-in_err-write_text.result ≡ Err c.in_err-write_text.field-0.0 = search rules in
    written_after _ _ _ _ _ _ _ report (c.args.analyses.now ++ traces)
    (was_appended _ _ _ _ _ _ report c.in_ok-write_report.was c.write_report.ensures) c.write_report.ensures.later
    (refused_early _ _ _ _ _ _ _ c.args.analyses.now traces c.in_err-write_text.was same c.write_text.ensures)

pub returns : goal.returns
returns g c =
    let traces = trace_text (g.R.Records.left c.args.records0.now) (g.R.Records.left c.args.records1.now) in
    let report = report_text c.args.whole.now in
    written_after _ _ _ _ _ _ _ report (c.args.analyses.now ++ traces)
    (was_appended _ _ _ _ _ _ report c.in_ok-write_report.was c.write_report.ensures) c.write_report.ensures.later
    (written_after _ _ _ _ _ _ _ c.args.analyses.now traces
    (was_appended _ _ _ _ _ _ c.args.analyses.now c.in_ok-write_text.was c.write_text.ensures) c.write_text.ensures.later c.write_traces.ensures)
