use Rattle.std.proofs.Common.{sym, ◌∙◌}
use Rattle.xt_secret_walk.proofs.Knowing.{plain_result}
use Rattle.xt_secret_walk.proofs.masks.CoreMasks.result.Goals as goal

pub returns-then-is_plain : goal.returns-then-is_plain
returns-then-is_plain c =
    let x = c.args.seen.now in
    plain_result x.insn x.x x.y x.u c.args.self.now.threadptr c.args.reply (sym c.is_plain.ensures ∙ c.if-is_plain.true)
