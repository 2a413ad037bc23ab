use Rattle.std.proofs.Common.{◌≡◌, ℕ, Some, length, set, refl, sym, ap, ◌∙◌, arith, rules}
use Rattle.xt_window.specs.Ring.{place}
use Rattle.xt_secret_walk.specs.declared.masks.CoreMasks.{CoreMasks}
use Rattle.xt_secret_walk.proofs.Knowing.{passed_known}
use Rattle.xt_secret_walk.proofs.masks.CoreMasks.pass.Goals as goal

pub returns-in-Some-clause-known : goal.returns-in-Some-clause-known
returns-in-Some-clause-known c = λ s same.
    let w = c.args.self.now in
    let d = c.give.new.self in
    let x = c.args.seen.now in
    let p = c.in-Some.w in
    let e : CoreMasks = record d { regs = set d.regs c.place.result p.mask } in
    let at : c.place.result ≡ place c.args.base p.reg = c.place.ensures.value in
    let low = c.place.ensures.range in
    let long : length d.regs ≡ 64 = search rules in
    passed_known w d e s x c.args.write c.args.base c.args.reply (Some p) (sym c.in-Some.is ∙ c.masked_write-written.ensures)
    (record { regs = c.give.ensures.regs; special = c.give.ensures.special; threadptr = c.give.ensures.threadptr })
    (ap (λ (n : ℕ). let f : CoreMasks = record d { regs = set d.regs n p.mask } in f) at, omega (arith, low, at, long)) same

pub returns-in-None-clause-known : goal.returns-in-None-clause-known
returns-in-None-clause-known c = λ s same.
    let w = c.args.self.now in
    let d = c.give.new.self in
    passed_known w d d s c.args.seen.now c.args.write c.args.base c.args.reply _ (sym c.in-None.is ∙ c.masked_write-written.ensures)
    (record { regs = c.give.ensures.regs; special = c.give.ensures.special; threadptr = c.give.ensures.threadptr }) refl same
