use Rattle.std.proofs.Common.{◌≡◌, Err, rules}
use Rattle.xt_runs.specs.Traces.{lines_from}
use Rattle.xt_report.proofs.Writing.{was_appended, refused_early, written_after}
use Rattle.xt_runs.proofs.output.write_traces.Goals as goal

pub returns-in_err-write_records : goal.returns-in_err-write_records
returns-in_err-write_records g c =
    let same : c.from_residual.result ≡ Err c.in_err-write_records.field-0.0 = search rules in
    refused_early _ _ _ _ _ _ _ (lines_from 0 0 (g.R.Records.left c.args.records0.now)) (lines_from 1 0 (g.R.Records.left c.args.records1.now)) c.in_err-write_records.was same c.write_records.ensures

pub returns : goal.returns
returns g c =
    let first = lines_from 0 0 (g.R.Records.left c.args.records0.now) in
    written_after _ _ _ _ _ _ _ first (lines_from 1 0 (g.R.Records.left c.args.records1.now))
    (was_appended _ _ _ _ _ _ first c.in_ok-write_records.was c.write_records.ensures) c.write_records.ensures.later c.write_records-2.ensures
