use Rattle.std.proofs.Common.{◌≡◌, List, Result, Err, sym, ap, subst, rules}
use Rattle.xt_map.specs.declared.access.Entry.{Entry}
use Rattle.xt_trace.specs.declared.run.Run.{Run}
use Rattle.xt_image.specs.declared.image.Image.{Image}
use Rattle.xt_record.specs.declared.fault.RecordFault.{RecordFault}
use Rattle.xt_record.specs.Format.{Reads, recording_fault}
use Rattle.xt_record.proofs.Ruling.{is_read, is_run, not_parts}
use Rattle.xt_record.proofs.reading.read_recording.Goals as goal

pub returns-in_err-parts : goal.returns-in_err-parts
returns-in_err-parts c =
    let same : c.from_residual.result ≡ Err c.in_err-parts.field-0.0 = search rules in
    record {
      exact = subst (λ (r : Result (Image × Run) RecordFault). Reads r c.args.bytes.now (recording_fault c.args.bytes.now)) (sym same)
          (not_parts c.args.bytes.now c.in_err-parts.field-0.0 c.in_err-parts.ensures);
      well_formed = search rules;
      run = search rules;
    }

pub returns-in_err-walked : goal.returns-in_err-walked
returns-in_err-walked c =
    let e = c.in_err-walked.field-0.0 in
    let same : c.from_residual-in_err-walked.result ≡ Err e = search rules in
    record {
      exact = subst (λ (r : Result (Image × Run) RecordFault). Reads r c.args.bytes.now (recording_fault c.args.bytes.now)) (sym same) c.in_err-walked.ensures;
      well_formed = search rules;
      run = search rules;
    }

pub returns : goal.returns
returns c =
    let parts = c.in_ok-parts.parts in
    let walked = c.in_ok-walked.walked in
    let read = c.in_ok-walked.ensures in
    let run_of : List Entry → Run = λ l. record { options = parts.options; history = l; trace0 = walked.trace0; trace1 = walked.trace1 } in
    let made : run_of c.new.result ≡ run_of parts.entries.items = ap run_of c.new.ensures in
    record {
      exact = is_read c.args.bytes.now parts walked (run_of c.new.result) c.in_ok-parts.ensures read.0 read.1 made;
      well_formed = c.in_ok-parts.ensures.well_formed;
      run = is_run parts walked (run_of c.new.result) read.0 made;
    }
