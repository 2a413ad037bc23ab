use Rattle.std.proofs.Common.{sym, ◌∙◌}
use Rattle.xt_frames.proofs.Mild.{IsRead, asks_row, does_row}
use Rattle.xt_frames.proofs.view.FrameRegisters.quick_insn.Goals as goal

pub returns-in-Does : goal.returns-in-Does
returns-in-Does c = λ code formula.
    let rec = c.args.rec.now in
    let v = c.args.self.now in
    let it = c.in-Does in
    let numbers = c.reads_numbers.ensures in
    let all = c.if-not-reads_numbers.false in
    let read : IsRead c.args.fresh c.args.i rec c.args.holes.now v = record { common = c.is_common.ensures c.if-not-is_common.false; shown = sym c.is_sp.ensures ∙ c.if-is_sp.false; reads = numbers.reads all; lost = numbers.lost all } in
    does_row c.make.result c.args.fresh c.args.i c.args.len code rec c.args.holes.now v c.make.new.self it.e read (sym formula ∙ it.is) c.make.ensures

pub returns-in-Asks : goal.returns-in-Asks
returns-in-Asks c = λ code formula.
    let rec = c.args.rec.now in
    let v = c.args.self.now in
    let it = c.in-Asks in
    let numbers = c.reads_numbers.ensures in
    let all = c.if-not-reads_numbers.false in
    let read : IsRead c.args.fresh c.args.i rec c.args.holes.now v = record { common = c.is_common.ensures c.if-not-is_common.false; shown = sym c.is_sp.ensures ∙ c.if-is_sp.false; reads = numbers.reads all; lost = numbers.lost all } in
    asks_row c.make-in-Asks.result c.args.fresh c.args.i c.args.len code rec c.args.holes.now v c.make-in-Asks.new.self it.field-0 it.awaited it.e c.reply_write-write.result c.reply_write-write.ensures.value read (sym formula ∙ it.is) c.make-in-Asks.ensures
