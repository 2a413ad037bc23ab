use Rattle.std.proofs.Common.{◌≡◌, ◌&&◌, ◌∙◌, false, true, ltb, cond, sym, ap, arith}
use Rattle.std.proofs.lemmas.Bool.{cond-false, false_from_ne_true, ltb-true}
use Rattle.xt_frames.specs.Frames.{value_or_zero}
use Rattle.xt_uses.specs.UseState.{is_strict_in, rises_over}
use Rattle.xt_use_walk.specs.MaskedBytes.{mask_at}
use Rattle.xt_use_walk.specs.Sides.{forgets_byte}
use Rattle.xt_use_walk.proofs.Forgetting.{forgotten_bytes, forgotten_none, risen_bytes}
use Rattle.xt_use_walk.proofs.side.Side.forget.Goals as goal

pub forget-requires-clause-bytes : goal.forget-requires-clause-bytes
forget-requires-clause-bytes c =
    let w = c.args.self.now.uses in
    let u = w.state.frame in
    let now = c.newest_sp-now.ensures in
    risen_bytes w.bounds.range.lo w.bounds.range.hi c.args.sp c.newest_sp-now.result u.seen u.frames now.stack c.requires.side.low c.requires.side.high c.requires.low now.value

pub returns-then-sp-now-clause-masks : goal.returns-then-sp-now-clause-masks
returns-then-sp-now-clause-masks c = λ a h.
    let s = c.args.self.now.uses.state in
    let u = s.frame in
    let sp = c.args.sp in
    let at = c.newest_sp-now.ensures.value in
    let strict : is_strict_in s ≡ true = sym c.is_strict.ensures ∙ c.if-not-is_strict.false in
    let low = c.requires.low in
    let up = c.if-sp-now.true in
    let same = forgotten_bytes (is_strict_in s) sp c.newest_sp-now.result a strict (omega (arith, low)) up ∙ ap (λ n. is_strict_in s && rises_over sp n a) at in
    c.forget.ensures.forgotten a h ∙ ap (λ b. cond b 0 (mask_at c.args.bytes.now.masks a)) same

pub returns-else-sp-now-clause-masks : goal.returns-else-sp-now-clause-masks
returns-else-sp-now-clause-masks c = λ a h.
    let s = c.args.self.now.uses.state in
    let u = s.frame in
    let sp = c.args.sp in
    let at = c.newest_sp-now.ensures.value in
    let no = c.if-sp-now.false in
    let less : ltb sp (value_or_zero u.seen 1) ≡ false = false_from_ne_true (ltb sp (value_or_zero u.seen 1)) (λ e. let l = ltb-true sp (value_or_zero u.seen 1) e in omega (arith, l, no, at)) in
    sym (cond-false (forgets_byte s sp a) 0 (mask_at c.args.bytes.now.masks a) (forgotten_none (is_strict_in s) sp (value_or_zero u.seen 1) a less))
