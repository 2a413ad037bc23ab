use Rattle.std.proofs.Common.{◌≡◌, List, ℕ, refl, sym, ap, ◌∙◌}
use Rattle.xt_record.specs.Fields.{image_in}
use Rattle.xt_record.specs.Format.{run_in}
use Rattle.xt_replay.specs.Shown.{ReplayState}
use Rattle.xt_report.specs.Inputs.{recording_refusal}
use Rattle.xt_report.specs.declared.status.Status.TheVariants as status
use Rattle.xt_tools.proofs.Replying.{session_missed, session_over, session_refused}
use Rattle.xt_tools.proofs.call.session.Goals as goal

pub returns-in-Err : goal.returns-in-Err
returns-in-Err g c =
    session_missed c.args.beyond (g.S.Source.left c.args.source.now) (g.S.Source.left c.read_opening.new.source) (g.K.Sink.told c.args.sink.now) (g.S.Source.faults c.args.source.now)
    (g.S.Source.faults c.read_opening.new.source) (g.K.Sink.faults c.args.sink.now) c.in-Err.status c.in-Err.ensures.misses

pub returns-in-Err-recording_in : goal.returns-in-Err-recording_in
returns-in-Err-recording_in g c =
    session_refused c.args.beyond (g.S.Source.left c.args.source.now) (g.S.Source.left c.read_opening.new.source) (g.K.Sink.told c.args.sink.now) c.in-Ok.recording.items (g.S.Source.faults c.args.source.now)
    (g.S.Source.faults c.read_opening.new.source) (g.K.Sink.faults c.args.sink.now) c.in-Err-recording_in.status c.in-Ok.ensures.opens
    (λ other. ap recording_refusal (sym c.deref.ensures.value) ∙ c.in-Err-recording_in.ensures.refused other)

pub returns-in_default : goal.returns-in_default
returns-in_default g c =
    session_refused c.args.beyond (g.S.Source.left c.args.source.now) (g.S.Source.left c.read_opening.new.source) (g.K.Sink.told c.args.sink.now) c.in-Ok.recording.items (g.S.Source.faults c.args.source.now)
    (g.S.Source.faults c.read_opening.new.source) (g.K.Sink.faults c.args.sink.now) status.Memory c.in-Ok.ensures.opens (λ other. absurd (other refl))

pub returns : goal.returns
returns g c =
    let recording : List ℕ = c.in-Ok.recording.items in
    let same : c.deref.result.now ≡ recording = c.deref.ensures.value in
    let same_image : c.in-Ok-make.debugger.image ≡ image_in recording = ap (λ (s : ReplayState). s.image) c.in-Ok-make.ensures ∙ c.in-Ok-recording_in.ensures.image ∙ ap image_in same in
    let same_run : c.in-Ok-make.debugger.run ≡ run_in recording = ap (λ (s : ReplayState). s.run) c.in-Ok-make.ensures ∙ c.in-Ok-recording_in.ensures.run ∙ ap run_in same in
    session_over c.args.beyond c.in-Ok-make.debugger.image c.in-Ok-make.debugger.run (g.S.Source.left c.args.source.now) (g.S.Source.left c.read_opening.new.source) (g.S.Source.left c.answer_lines.new.source)
    (g.K.Sink.told c.args.sink.now) (g.K.Sink.told c.answer_lines.new.sink) recording (g.S.Source.faults c.args.source.now) (g.S.Source.faults c.read_opening.new.source) (g.S.Source.faults c.answer_lines.new.source)
    (g.K.Sink.faults c.args.sink.now) (g.K.Sink.faults c.answer_lines.new.sink) c.answer_lines.result same_image same_run c.in-Ok.ensures.opens (ap recording_refusal (sym same) ∙ c.in-Ok-recording_in.ensures.accepted)
    c.in-Ok.ensures.later c.answer_lines.ensures.answers
