use Rattle.std.proofs.Common.{Bool, not, ◌&&◌, sym, ap, ◌∙◌}
use Rattle.xt_map.specs.Memory.{constant_byte}
use Rattle.xt_outcomes.specs.Dead.{fits}
use Rattle.xt_judged.proofs.watching.Watching.is_free.Goals as goal

pub returns-then-bars : goal.returns-then-bars
returns-then-bars c = λ m ahead.
    let t = c.args.self.now.timed in
    sym (ap (λ (b : Bool). not b && fits (constant_byte t.code) t.dead.masks.items c.args.side.now.state) (sym c.bars.ensures ∙ c.if-bars.true))

pub returns : goal.returns
returns c = λ m ahead.
    let t = c.args.self.now.timed in
    c.fits_next.ensures m ahead ∙ sym (ap (λ (b : Bool). not b && fits (constant_byte t.code) t.dead.masks.items c.args.side.now.state) (sym c.bars.ensures ∙ c.if-bars.false))
