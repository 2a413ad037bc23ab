use Rattle.std.proofs.Common.{◌≡◌, ◌<◌, length, arith, rules, ap}
use Rattle.xt_use_walk.proofs.Filling.{row_cleared, row_end}
use Rattle.xt_use_walk.proofs.bytes.ByteMasks.forget.Goals as goal

pub slice_bounds-fill-end : goal.slice_bounds-fill-end
slice_bounds-fill-end c =
    let full = c.requires.full in
    let some : 0 < c.args.size = (let no = c.if-size-eq0.false in omega (arith, no)) in
    let e = row_end c.args.from c.args.size some c.requires.bytes in
    let at = c.place-first.ensures in
    let len = ap (λ l. length l) c.deref_mut.ensures.value in
    omega (arith, full, some, e, at, len)

pub returns-clause-forgotten : goal.returns-clause-forgotten
returns-clause-forgotten c = λ a h.
    let masks = c.args.self.now.masks in
    let some : 0 < c.args.size = (let no = c.if-size-eq0.false in omega (arith, no)) in
    let len : masks.len ≡ length masks.items = search rules in
    row_cleared c.args.from c.args.size c.place-first.result masks.len a masks.items c.deref_mut.result.now c.fill.new.self some c.requires.full len c.requires.bytes h c.deref_mut.ensures.value c.place-first.ensures (c.fill.ensures.after (λ y h. h))
