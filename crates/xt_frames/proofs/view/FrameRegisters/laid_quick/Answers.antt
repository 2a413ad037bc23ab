use Rattle.std.proofs.Common.{sym, ◌∙◌, ap}
use Rattle.xt_map.specs.Memory.{constant_byte}
use Rattle.xt_map.specs.Fetching.{fetch_at}
use Rattle.xt_frames.proofs.Mild.{quick_or}
use Rattle.xt_frames.proofs.view.FrameRegisters.laid_quick.Goals as goal

pub returns-then-is_at_rest : goal.returns-then-is_at_rest
returns-then-is_at_rest c =
    let code = constant_byte c.args.code.now in
    let it = c.in-Insn in
    quick_or c.quick_insn.result c.args.limits c.args.fresh code c.args.rec.now c.args.holes.now c.args.self.now c.quick_insn.new.self it.i it.len
    (record { plain = c.requires; rest = c.is_at_rest.ensures c.if-is_at_rest.true; at = ap (fetch_at code) (sym c.pc.ensures) ∙ it.ensures.fetched.0 })
    (c.quick_insn.ensures code c.row-outcome.ensures.formula)
