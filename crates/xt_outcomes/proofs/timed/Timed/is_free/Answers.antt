use Rattle.std.proofs.Common.{sym, ap, not, ◌∙◌}
use Rattle.xt_map.specs.Memory.{constant_byte}
use Rattle.xt_outcomes.proofs.Fitting.{bars_by_fit, bars_time}
use Rattle.xt_outcomes.proofs.timed.Timed.is_free.Goals as goal

pub returns-then-bars_by : goal.returns-then-bars_by
returns-then-bars_by c = λ m h.
    let t = c.args.self.now in
    sym (ap not (bars_time (constant_byte t.code) t.timed t.dead.masks.items c.args.side.now (sym c.bars_by.ensures ∙ c.if-bars_by.true)))

pub returns : goal.returns
returns c = λ m h.
    let t = c.args.self.now in
    bars_by_fit (constant_byte t.code) t.timed t.dead.masks.items c.args.side.now c.requires.left (sym c.bars_by.ensures ∙ c.if-bars_by.false) c.in_ok-fits.fits (c.in_ok-fits.ensures m h)
