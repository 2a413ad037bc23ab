use Rattle.std.proofs.Common.{ℕ, List, subst, sym}
use Rattle.xt_asm.proofs.Sizing.{piece_long}
use Rattle.xt_asm.specs.Pieces.{StandFor}
use Rattle.xt_asm.specs.Contexts.{site_of}
use Rattle.xt_asm.proofs.Clear.{whole_line}
use Rattle.xt_asm.proofs.pieces.piece_of.Goals as goal

pub bytes_of-requires-clause-whole : goal.bytes_of-requires-clause-whole
bytes_of-requires-clause-whole c = whole_line (site_of c.args.context.now) c.args.line.now c.in_ok-made.made c.in_ok-made.ensures.made (sym c.in-None.ensures)

pub returns-in_ok-bytes_of-in-None-clause-piece : goal.returns-in_ok-bytes_of-in-None-clause-piece
returns-in_ok-bytes_of-in-None-clause-piece c =
    let P : List ℕ → Type 0 = λ bytes. StandFor (site_of c.args.context.now) c.args.pool.now c.args.line.now.statement bytes in
    let stand : StandFor (site_of c.args.context.now) c.args.pool.now c.args.line.now.statement c.finished.result = subst P (sym c.finished.ensures.value) c.in_ok-bytes_of-in-None.ensures.stand_for in
    record {
      stand_for = stand;
      many = piece_long (site_of c.args.context.now) c.args.pool.now c.args.line.now.statement c.in_ok-made.made c.finished.result c.in_ok-made.ensures.made c.in_ok-made.ensures.sound c.finished.ensures.small stand;
      small = c.finished.ensures.small;
    }
