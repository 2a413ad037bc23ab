use Rattle.std.proofs.Common.{◌≡◌, ◌&&◌, ap, ◌∙◌}
use Rattle.std.specs.Prelude.{◌==◌}
use Rattle.xt_map.specs.Memory.{constant_byte}
use Rattle.xt_trace.specs.Worlds.{answer}
use Rattle.xt_exec.specs.States.{file_state}
use Rattle.xt_exec.specs.Turn.{demand}
use Rattle.xt_outcomes.specs.Dead.{are_fit, dead_at, is_compare_fit, registers_in}
use Rattle.xt_outcomes.proofs.Fitting.{fit_is}
use Rattle.xt_outcomes.proofs.timed.Timed.passage.Goals as goal

pub returns : goal.returns
returns c = λ m h.
    let t = c.args.self.now in
    let code = constant_byte t.code in
    let ms = t.dead.masks.items in
    let s = c.args.side.now.state in
    let x = c.args.ahead.now.record in
    let u = file_state c.args.ahead.now.regs in
    let before : dead_at ms c.pc.result ≡ dead_at ms s.control.pc = ap (dead_at ms) c.pc.ensures in
    let reads = c.requires.registers in
    let read = c.requires.compare in
    let written = c.requires.written in
    let flag = c.are_both.ensures ∙ (λ i. c.executes.ensures i && written i) in
    let base : c.base.result ≡ u.base = c.base.ensures.value in
    let same : c.base-2.result ≡ s.base = c.base-2.ensures in
    (λ i. are_fit (registers_in (before i)) (reads i) (base i == same i) x.write (registers_in (dead_at ms u.control.pc))
    && is_compare_fit (before i) (read i) (flag i) (dead_at ms u.control.pc))
    ∙ fit_is code ms s (answer (demand code s) m) x u h.turn
