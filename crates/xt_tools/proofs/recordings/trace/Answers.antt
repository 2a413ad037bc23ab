use Rattle.std.proofs.Common.{◌≡◌, ℕ, List, ap, ◌∙◌}
use Rattle.xt_image.specs.declared.image.Image.{Image}
use Rattle.xt_trace.specs.declared.run.Run.{Run}
use Rattle.xt_record.specs.Fields.{image_in}
use Rattle.xt_report.specs.Inputs.{recording_refusal}
use Rattle.xt_tools.specs.Commands.{trace_output, trace_text}
use Rattle.xt_tools.proofs.Putting.{recording_is_fault, refused_puts, written_puts}
use Rattle.xt_tools.proofs.recordings.trace.Goals as goal

pub returns-in-Err : goal.returns-in-Err
returns-in-Err g c =
    refused_puts (recording_refusal c.args.input.now) (λ (bytes : List ℕ). bytes ≡ trace_output c.args.turns c.args.input.now) (g.K.Sink.told c.args.sink.now)
    (g.K.Sink.faults c.args.sink.now) c.in-Err.status (recording_is_fault c.args.input.now) c.in-Err.ensures.refused

pub returns : goal.returns
unfolding trace_output
returns g c =
    let turns = c.args.turns in
    let text : trace_text turns c.in-Ok.read.0 c.in-Ok.read.1 ≡ trace_output turns c.args.input.now =
    ap (λ (i : Image). trace_text turns i c.in-Ok.read.1) c.in-Ok.ensures.image
    ∙ ap (λ (r : Run). trace_text turns (image_in c.args.input.now) r) c.in-Ok.ensures.run in
    written_puts (recording_refusal c.args.input.now) (λ (bytes : List ℕ). bytes ≡ trace_output turns c.args.input.now) c.write_turns.result c.status_after.result _ _ _ _ _
    (record { accepted = c.in-Ok.ensures.accepted; written = text }) c.write_turns.ensures c.status_after.ensures
