use Rattle.std.proofs.Common.{ℕ, ◌+◌, ap₂}
use Rattle.xt_race.proofs.Tabled.{noted_more, noted_start}
use Rattle.xt_race.proofs.marks.Marks.note.Goals as goal

pub loop-k-init : goal.loop-k-init
loop-k-init c = noted_start c.args.note c.args.addr c.args.self.now

pub loop-k-preserved : goal.loop-k-preserved
loop-k-preserved c =
    noted_more c.args.note c.args.addr c.loop-k.k (c.from.result + c.from-in-loop-k.result) c.args.self.now c.loop-k.self c.note_byte.new.self
    (ap₂ (λ (x y : ℕ). x + y) c.from.ensures c.from-in-loop-k.ensures) c.loop-k.invariant c.in_ok-note_byte.ensures
