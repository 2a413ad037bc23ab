use Rattle.std.proofs.Common.{Bool, false, not, ◌&&◌, ◌||◌, sym, ap, ◌∙◌}
use Rattle.std.specs.Prelude.{◌==◌, bit_and}
use Rattle.xt_map.specs.Fetching.{fetch_at}
use Rattle.xt_map.specs.Memory.{constant_byte}
use Rattle.xt_timeless.specs.Time.{fetches_time, timer_bits}
use Rattle.xt_judged.specs.Timeless.{frame_uses_time}
use Rattle.xt_judged.proofs.WatchedMade.{used_frame, used_side}
use Rattle.xt_judged.proofs.watching.Watching.bars.Goals as goal

pub returns-then-bars_by : goal.returns-then-bars_by
returns-then-bars_by c =
    let t = c.args.self.now.timed in
    used_side (constant_byte t.code) t.timed c.args.side.now c.args.frames.now.state (sym c.bars_by.ensures ∙ c.if-bars_by.true)

pub returns-then-self : goal.returns-then-self
returns-then-self c =
    let t = c.args.self.now.timed in
    let code = constant_byte t.code in
    let f = c.args.frames.now.state in
    used_frame code t.timed c.args.side.now f false (sym c.bars_by.ensures ∙ c.if-bars_by.false) (sym (ap (λ (b : Bool). not b && frame_uses_time code f) c.if-self.true))

pub returns : goal.returns
returns c =
    let t = c.args.self.now.timed in
    let code = constant_byte t.code in
    let f = c.args.frames.now.state in
    used_frame code t.timed c.args.side.now f c.uses_time_by.result (sym c.bars_by.ensures ∙ c.if-bars_by.false)
    (c.uses_time_by.ensures ∙ (λ i. not (bit_and (c.special-intenable.ensures i) timer_bits == 0) || fetches_time (fetch_at code (c.current_pc.ensures i))) ∙ sym (ap (λ (b : Bool). not b && frame_uses_time code f) c.if-self.false))
