use Rattle.std.proofs.Common.{◌≡◌, ℕ, List, Err, rules, subst}
use Rattle.xt_report.specs.Pieces.{Gathers}
use Rattle.xt_report.proofs.Writing.{was_appended, refused_early}
use Rattle.xt_report.proofs.Gathering.{as_gathers, gathers_after, keeps, writes_all}
use Rattle.xt_report.proofs.pieces.Piece.add.Goals as goal

pub returns-then-bytes-len : goal.returns-then-bytes-len
returns-then-bytes-len g c =
    let P : List ℕ → Type 0 = λ text. Gathers c.keep.result (g.K.Sink.told c.args.sink.now) (g.K.Sink.told c.args.sink.now) (g.K.Sink.faults c.args.sink.now) (g.K.Sink.faults c.args.sink.now) c.args.self.now c.keep.new.self text in
    subst P c.as_slice-bytes.ensures (keeps _ _ _ _ _ c.as_slice-bytes.result.now c.keep.ensures.kept c.keep.ensures.memory)

pub returns-in_err-flush : goal.returns-in_err-flush
returns-in_err-flush g c =
    let same : c.from_residual.result ≡ Err c.in_err-flush.field-0.0 = search rules in
    as_gathers _ _ _ _ _ _ c.args.self.now _ c.args.text.now same
    (refused_early _ _ _ _ _ _ _ c.args.self.now c.args.text.now c.in_err-flush.was same c.flush.ensures.writes)

pub returns-then-bytes-le-PIECE : goal.returns-then-bytes-le-PIECE
returns-then-bytes-le-PIECE g c =
    let kept = c.keep-then-bytes-le-PIECE in
    let P : List ℕ → Type 0 = λ text. Gathers kept.result (g.K.Sink.told c.args.sink.now) (g.K.Sink.told c.flush.new.sink) (g.K.Sink.faults c.args.sink.now) (g.K.Sink.faults c.flush.new.sink) c.args.self.now kept.new.self text in
    subst P c.as_slice-bytes.ensures (gathers_after _ _ _ _ _ _ _ c.args.self.now c.flush.new.self _ c.as_slice-bytes.result.now
    (was_appended _ _ _ _ _ _ c.args.self.now c.in_ok-flush.was c.flush.ensures.writes) c.flush.ensures.writes.later c.in_ok-flush.ensures.empty
    (keeps _ _ _ _ _ c.as_slice-bytes.result.now kept.ensures.kept kept.ensures.memory))

pub returns : goal.returns
returns g c =
    let P : List ℕ → Type 0 = λ text. Gathers c.write_all.result (g.K.Sink.told c.args.sink.now) (g.K.Sink.told c.write_all.new.sink) (g.K.Sink.faults c.args.sink.now) (g.K.Sink.faults c.write_all.new.sink) c.args.self.now c.flush.new.self text in
    subst P c.as_slice-bytes.ensures (gathers_after _ _ _ _ _ _ _ c.args.self.now c.flush.new.self _ c.as_slice-bytes.result.now
    (was_appended _ _ _ _ _ _ c.args.self.now c.in_ok-flush.was c.flush.ensures.writes) c.flush.ensures.writes.later c.in_ok-flush.ensures.empty
    (writes_all _ _ _ _ _ _ c.as_slice-bytes.result.now c.in_ok-flush.ensures.empty (record {
      ok = c.write_all.ensures.ok;
      err = c.write_all.ensures.err;
      later = c.write_all.ensures.later;
      failed = c.write_all.ensures.fault;
    })))
