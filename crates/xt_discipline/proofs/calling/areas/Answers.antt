use Rattle.std.proofs.Common.{◌≡◌, ℕ, ◌+◌, ◌-◌, ◌∙◌, length, sym, ap, arith}
use Rattle.xt_frames.specs.Frames.{value_or_zero}
use Rattle.xt_discipline.proofs.Calls.{area_bytes, calls_within, sp_room, under_room}
use Rattle.xt_discipline.proofs.calling.areas.Goals as goal

pub overflow_sub-result : goal.overflow_sub-result
overflow_sub-result g c =
    let b = g.C.Stacked.bounds c.args.core.now in
    let f = g.C.Stacked.frame c.args.core.now in
    let room = sp_room b.range.lo b.range.hi f.seen f.frames c.newest_sp.ensures.stack in
    let sp = c.newest_sp.ensures.value in
    omega (arith, sp, room)

pub overflow_sub-result-2 : goal.overflow_sub-result-2
overflow_sub-result-2 g c =
    let b = g.C.Stacked.bounds c.args.core.now in
    let f = g.C.Stacked.frame c.args.core.now in
    let d = c.callers-depth.ensures.depth in
    let some = c.requires.called in
    let j = c.callers-depth.result - 1 in
    let e : j + 1 ≡ length f.frames = omega (arith, d, some) in
    let n = c.from-n.ensures ∙ c.windows.ensures in
    let room = under_room b.range.lo b.range.hi f.seen f.frames j c.under-top.result c.callers-depth.ensures.stack e (λ z. c.under-top.ensures.first z ∙ sym c.requires.end) c.under-top.ensures.more in
    omega (arith, n, room)

pub overflow_sub-result-3 : goal.overflow_sub-result-3
overflow_sub-result-3 g c =
    let b = g.C.Stacked.bounds c.args.core.now in
    let f = g.C.Stacked.frame c.args.core.now in
    let d = c.callers-depth.ensures.depth in
    let some = c.requires.called in
    let j = c.callers-depth.result - 1 in
    let e : j + 1 ≡ length f.frames = omega (arith, d, some) in
    let n = c.from-n.ensures ∙ c.windows.ensures in
    let more = (calls_within b.range.lo b.range.hi f.seen f.frames j c.callers-depth.ensures.stack e).0 in
    omega (arith, n, more)

pub returns : goal.returns
returns g c =
    let f = g.C.Stacked.frame c.args.core.now in
    let low = c.newest_sp.ensures.value in
    record {
      called = c.requires.called;
      low = ap (λ (n : ℕ). n - 16) low;
      bytes = area_bytes c.args.hi (value_or_zero f.seen 1) f.frames c.callers-depth.result c.from-n.result c.under-top.result c.newest_sp.result c.callers-depth.ensures.depth c.requires.called low (c.from-n.ensures ∙ c.windows.ensures) c.under-top.ensures.first c.under-top.ensures.more;
    }
