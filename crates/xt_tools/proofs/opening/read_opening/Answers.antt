use Rattle.std.proofs.Common.{◌≡◌, ◌<◌, ◌≤◌, length, inr, Some, None, sym, ap, ◌∙◌, subst, arith}
use Rattle.xt_record.specs.declared.fault.RecordFault.TheVariants as record_fault
use Rattle.xt_report.specs.declared.status.Status.TheVariants as status
use Rattle.xt_tools.specs.Reads.{Misses}
use Rattle.xt_tools.specs.Session.{lines_limit, number_in, recording_limit}
use Rattle.xt_tools.proofs.Heading.{bytes_unread, large_refused, line_unread, misses_bytes, misses_line, misses_number, none_refused}
use Rattle.xt_tools.proofs.Reading.{read_as}
use Rattle.xt_tools.proofs.opening.read_opening.Goals as goal

pub returns-in-Ok-None-clause-misses : goal.returns-in-Ok-None-clause-misses
returns-in-Ok-None-clause-misses g c = misses_line (g.S.Source.left c.args.source.now) (g.S.Source.left c.read_line.new.source) lines_limit c.read_line.new.spare (read_as c.in-Ok-None.field-0 None (g.S.Source.left c.args.source.now) (g.S.Source.left c.read_line.new.source) lines_limit c.read_line.new.spare c.in-Ok-None.field-0-is c.in-Ok-None.ensures.reads)

pub returns-in-Err-clause-misses : goal.returns-in-Err-clause-misses
returns-in-Err-clause-misses g c =
    subst (Misses (g.S.Source.left c.args.source.now) (g.S.Source.left c.read_line.new.source) (g.S.Source.faults c.args.source.now) (g.S.Source.faults c.read_line.new.source)) (sym c.status_of.ensures)
    (line_unread (g.S.Source.left c.args.source.now) (g.S.Source.left c.read_line.new.source) (g.S.Source.faults c.args.source.now) (g.S.Source.faults c.read_line.new.source) c.read_line.new.spare c.in-Err.error
    c.in-Err.ensures.reads c.in-Err.ensures.fault)

pub returns-in_default-clause-misses : goal.returns-in_default-clause-misses
returns-in_default-clause-misses g c =
    let line = c.in-Ok-Some.line in
    let reads =
    read_as c.in-Ok-Some.field-0 (Some line) (g.S.Source.left c.args.source.now) (g.S.Source.left c.read_line.new.source) lines_limit c.read_line.new.spare c.in-Ok-Some.field-0-is c.in-Ok-Some.ensures.reads in
    let says : number_in line ≡ None = sym (ap number_in c.as_slice.ensures) ∙ sym c.number_in.ensures ∙ c.in_default.is in
    misses_number (g.S.Source.left c.args.source.now) (g.S.Source.left c.read_line.new.source) line None (status.Recording record_fault.Short) reads.0 reads.1 says none_refused

pub returns-then-count-gt-RECORDING_LIMIT-clause-misses : goal.returns-then-count-gt-RECORDING_LIMIT-clause-misses
returns-then-count-gt-RECORDING_LIMIT-clause-misses g c =
    let line = c.in-Ok-Some.line in
    let count = c.in-Some.count in
    let reads =
    read_as c.in-Ok-Some.field-0 (Some line) (g.S.Source.left c.args.source.now) (g.S.Source.left c.read_line.new.source) lines_limit c.read_line.new.spare c.in-Ok-Some.field-0-is c.in-Ok-Some.ensures.reads in
    let says : number_in line ≡ Some count = sym (ap number_in c.as_slice.ensures) ∙ sym c.in-Some.ensures in
    let large : recording_limit < count = omega (arith, c.if-count-gt-RECORDING_LIMIT.true) in
    inr (misses_number (g.S.Source.left c.args.source.now) (g.S.Source.left c.read_line.new.source) line (Some count) (status.TooLarge recording_limit) reads.0 reads.1 says (λ rest. large_refused count rest large))

pub returns-in-Err-read_count-clause-misses : goal.returns-in-Err-read_count-clause-misses
returns-in-Err-read_count-clause-misses g c =
    let line = c.in-Ok-Some.line in
    let count = c.in-Some.count in
    let reads =
    read_as c.in-Ok-Some.field-0 (Some line) (g.S.Source.left c.args.source.now) (g.S.Source.left c.read_line.new.source) lines_limit c.read_line.new.spare c.in-Ok-Some.field-0-is c.in-Ok-Some.ensures.reads in
    let says : number_in line ≡ Some count = sym (ap number_in c.as_slice.ensures) ∙ sym c.in-Some.ensures in
    let within : count ≤ recording_limit = omega (arith, c.if-count-gt-RECORDING_LIMIT.false) in
    subst (Misses (g.S.Source.left c.args.source.now) (g.S.Source.left c.read_count.new.source) (g.S.Source.faults c.args.source.now) (g.S.Source.faults c.read_count.new.source)) (sym c.status_of-in-Err-read_count.ensures)
    (bytes_unread (g.S.Source.left c.args.source.now) (g.S.Source.left c.read_line.new.source) (g.S.Source.left c.read_count.new.source) line (g.S.Source.faults c.args.source.now) (g.S.Source.faults c.read_line.new.source)
    (g.S.Source.faults c.read_count.new.source) count c.in-Err-read_count.error reads.0 reads.1 says within c.in-Err-read_count.ensures.unread c.in-Ok-Some.ensures.later c.in-Err-read_count.ensures.fault)

pub returns-then-len-count-clause-misses : goal.returns-then-len-count-clause-misses
returns-then-len-count-clause-misses g c =
    let line = c.in-Ok-Some.line in
    let count = c.in-Some.count in
    let bytes = c.in-Ok.recording.items in
    let reads =
    read_as c.in-Ok-Some.field-0 (Some line) (g.S.Source.left c.args.source.now) (g.S.Source.left c.read_line.new.source) lines_limit c.read_line.new.spare c.in-Ok-Some.field-0-is c.in-Ok-Some.ensures.reads in
    let says : number_in line ≡ Some count = sym (ap number_in c.as_slice.ensures) ∙ sym c.in-Some.ensures in
    let within : count ≤ recording_limit = omega (arith, c.if-count-gt-RECORDING_LIMIT.false) in
    let short : length bytes < count = omega (arith, c.len.ensures, c.if-len-count.true) in
    misses_bytes (g.S.Source.left c.args.source.now) (g.S.Source.left c.read_line.new.source) (g.S.Source.left c.read_count.new.source) line bytes count reads.0 reads.1 says within c.in-Ok.ensures.read.0
    (c.in-Ok.ensures.read.2 short) short
