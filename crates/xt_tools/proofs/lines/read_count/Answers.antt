use Rattle.std.proofs.Common.{◌≡◌, ◌++◌, Err, rules, take}
use Rattle.std.proofs.KnownBytes.{Consumes-trans}
use Rattle.xt_io.specs.declared.whole.ReadError.TheVariants as error
use Rattle.xt_tools.proofs.Reading.{count_wants}
use Rattle.xt_tools.proofs.lines.read_count.Goals as goal

pub returns-in_err-extend_from_slice-clause-unread : goal.returns-in_err-extend_from_slice-clause-unread
returns-in_err-extend_from_slice-clause-unread g c =
    let is : c.from_residual-in_err-extend_from_slice.result ≡ Err error.Memory = search rules in
    let read = take c.in_ok-read.read c.read.new.buf in
    count_wants c.from_residual-in_err-extend_from_slice.result (g.S.Source.left c.args.source.now) (g.S.Source.left c.read.new.self) c.args.count (c.loop-piece.bytes.items ++ read) is
    (Consumes-trans _ _ _ _ _ c.loop-piece.invariant.consumed c.in_ok-read.ensures.bytes.0)
