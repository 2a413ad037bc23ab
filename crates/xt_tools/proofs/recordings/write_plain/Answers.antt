use Rattle.std.proofs.Common.{ℕ, List, subst}
use Rattle.xt_report.specs.Writes.{Writes}
use Rattle.xt_tools.proofs.Lined.{traced_alone}
use Rattle.xt_tools.proofs.recordings.write_plain.Goals as goal

pub returns : goal.returns
returns g c =
    let P : List ℕ → Type 0 = λ bytes. Writes c.write_lines.result (g.K.Sink.told c.args.sink.now) (g.K.Sink.told c.write_lines.new.sink) (g.K.Sink.faults c.args.sink.now) (g.K.Sink.faults c.write_lines.new.sink) bytes in
    subst P (traced_alone c.args.turns c.filter_of-filter.result c.args.image.now c.args.run.now _ c.requires.frames c.filter_of-filter.ensures c.in_ok-lines.ensures) c.write_lines.ensures
