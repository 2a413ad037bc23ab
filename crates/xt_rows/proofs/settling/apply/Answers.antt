use Rattle.std.proofs.Common.{ap, sym, ◌∙◌}
use Rattle.xt_special.specs.Access.{with_sets}
use Rattle.xt_special.specs.Values.{Specials, control_at}
use Rattle.xt_rows.specs.declared.outcome.Flow.{Flow}
use Rattle.xt_rows.specs.declared.outcome.Flow.TheVariants.{Falls}
use Rattle.xt_rows.specs.Settling.{after_effect, after_flow}
use Rattle.xt_rows.proofs.settling.apply.Goals as goal

-- src/settling.rt:55:1
pub returns-in-Falls : goal.returns-in-Falls
unfolding after_effect
returns-in-Falls c = λ waits.
    let e = c.args.e in
    let falls = c.falls.ensures e.waits in
    let from_sets = ap (λ (s : Specials). after_flow Falls c.args.len (control_at c.args.pc e.waits s)) c.set_registers.ensures in
    let from_threadptr = ap (λ (s : Specials). after_flow Falls c.args.len (control_at c.args.pc e.waits (record s { file = with_sets e.sets s.file }))) c.set_threadptr.ensures in
    let from_ps = ap (λ (s : Specials). after_flow Falls c.args.len (control_at c.args.pc e.waits (record { ps = s.ps; file = with_sets e.sets s.file; threadptr = e.threadptr }))) c.set_ps_fields.ensures in
    let flow = ap (λ (f : Flow). after_flow f c.args.len (control_at c.args.pc e.waits (record { ps = e.ps; file = with_sets e.sets c.args.s.now.file; threadptr = e.threadptr }))) c.in-Falls.is in
    falls ∙ from_sets ∙ from_threadptr ∙ from_ps ∙ sym flow
