use Rattle.std.proofs.Common.{◌≡◌, ℕ, ◌+◌, ◌-◌, ◌++◌, ◌∙◌, List, length, subst, arith}
use Rattle.std.specs.Prelude.{OnOk, string_bytes}
use Rattle.xt_frames.specs.Frames.{value_or_zero}
use Rattle.xt_discipline.proofs.Calls.{calls_within, sp_last, sp_room, under_room}
use Rattle.xt_debug.proofs.FrameNoting.{areas_are, caller_above, end_above}
use Rattle.xt_debug.proofs.frame_notes.push_areas.Goals as goal

pub overflow_sub-sp : goal.overflow_sub-sp
overflow_sub-sp c =
    let b = c.args.frames.now.bounds.range in
    let f = c.args.frames.now.state in
    let is : c.sp-sp.result ≡ value_or_zero f.seen 1 = c.sp-sp.ensures ∙ sp_last f.frames (value_or_zero f.seen 1) c.depth-depth.result c.depth-depth.ensures.depth in
    let room = sp_room b.lo b.hi f.seen f.frames c.depth-depth.ensures.stack in
    omega (arith, is, room)

pub overflow_sub-top : goal.overflow_sub-top
overflow_sub-top c =
    let b = c.args.frames.now.bounds.range in
    let f = c.args.frames.now.state in
    let d = c.depth-depth.ensures.depth in
    let j = c.depth-depth.result - 1 in
    let e : j + 1 ≡ length f.frames = omega (arith, d, c.if-depth-eq0.false) in
    let n = c.from-by.ensures ∙ c.calls.ensures in
    let room = under_room b.lo b.hi f.seen f.frames j c.under-top.result c.depth-depth.ensures.stack e
    (end_above f.frames j c.under-top.result b.hi e c.under-top.ensures.first) (caller_above f.frames (value_or_zero f.seen 1) j c.under-top.result e c.under-top.ensures.more) in
    omega (arith, n, room)

pub overflow_sub-by : goal.overflow_sub-by
overflow_sub-by c =
    let b = c.args.frames.now.bounds.range in
    let f = c.args.frames.now.state in
    let d = c.depth-depth.ensures.depth in
    let j = c.depth-depth.result - 1 in
    let e : j + 1 ≡ length f.frames = omega (arith, d, c.if-depth-eq0.false) in
    let n = c.from-by.ensures ∙ c.calls.ensures in
    let more = (calls_within b.lo b.hi f.seen f.frames j c.depth-depth.ensures.stack e).0 in
    omega (arith, n, more)

pub returns : goal.returns
returns c =
    let b = c.args.frames.now.bounds.range in
    let f = c.args.frames.now.state in
    let sp = value_or_zero f.seen 1 in
    let d = c.depth-depth.ensures.depth in
    let j = c.depth-depth.result - 1 in
    let e : j + 1 ≡ length f.frames = omega (arith, d, c.if-depth-eq0.false) in
    let low : c.sp-sp.result ≡ sp = c.sp-sp.ensures ∙ sp_last f.frames sp c.depth-depth.result d in
    let P : List ℕ → Type 0 = λ text. OnOk c.push_both.result (string_bytes c.push_both.new.out ≡ string_bytes c.args.out.now ++ text) in
    subst P
    (areas_are b.hi sp f.frames j c.sp-sp.result c.under-top.result c.from-by.result e low (c.from-by.ensures ∙ c.calls.ensures)
    (end_above f.frames j c.under-top.result b.hi e c.under-top.ensures.first) (caller_above f.frames sp j c.under-top.result e c.under-top.ensures.more))
    c.push_both.ensures
