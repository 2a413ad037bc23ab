use Rattle.std.proofs.Common.{◌≡◌, Bool, List, false, sym, ◌∙◌, ap}
use Rattle.xt_map.specs.Memory.{constant_byte}
use Rattle.xt_map.specs.Fetching.{Fetches, fetch_at}
use Rattle.xt_frames.specs.Breaches.{Test, first_shown}
use Rattle.xt_frames.specs.KeptFrameState.{shown_tests, state_at}
use Rattle.xt_uses.specs.UseBreaches.{use_tests, uses_unknown}
use Rattle.xt_uses.specs.UseParts.{use_at}
use Rattle.xt_uses.proofs.UseTests.{of_return}
use Rattle.xt_uses.proofs.testing.return_use.Goals as goal

pub returns-then-is_return : goal.returns-then-is_return
returns-then-is_return c = λ frames kept v new.
    let h = c.args.holes.now in
    let f = state_at frames h c.args.view.now in
    let s = use_at frames kept h v c.args.masks.now in
    let i = c.in-Insn.i in
    let at : fetch_at (constant_byte c.args.code.now) c.args.view.now.control.pc ≡ Fetches i c.in-Insn.field-1 =
    ap (fetch_at (constant_byte c.args.code.now)) (sym c.pc.ensures) ∙ c.in-Insn.ensures.fetched.0 in
    c.first_use.ensures
    ∙ (ap (λ (x : Bool). first_shown (use_tests x false false (shown_tests c.return_tests-tests.result))) (c.uses_unknown.ensures frames kept v)
    ∙ (ap (λ (ts : List Test). first_shown (use_tests (uses_unknown i s f) false false ts)) (c.return_tests-tests.ensures frames new)
    ∙ sym (of_return (fetch_at (constant_byte c.args.code.now) c.args.view.now.control.pc) i c.in-Insn.field-1 s f at (sym c.is_return.ensures ∙ c.if-is_return.true))))
