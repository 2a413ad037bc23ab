use Rattle.std.proofs.Common.{◌≡◌, ℕ, true, sym, ◌∙◌, ap}
use Rattle.std.proofs.lemmas.Bool.{cond-true}
use Rattle.xt_isa.specs.declared.Insn.{Insn}
use Rattle.xt_map.specs.Memory.{constant_byte}
use Rattle.xt_map.specs.Fetching.{Fetched, Fetches, fetch_at}
use Rattle.xt_frames.specs.Frames.{FrameState}
use Rattle.xt_frames.specs.Breaches.{first_shown, is_return, return_tests, fetched_return_breach}
use Rattle.xt_frames.specs.KeptFrameState.{state_at}
use Rattle.xt_frames.proofs.breach.return_breach.Goals as goal

of_return : (at : Fetched) (i : Insn) (len : ℕ) (f : FrameState) → at ≡ Fetches i len → is_return i ≡ true → fetched_return_breach at f ≡ first_shown (return_tests i f)
of_return at i len f e r = ap (λ x. fetched_return_breach x f) e ∙ cond-true (is_return i) _ _ r

pub returns-then-is_return : goal.returns-then-is_return
returns-then-is_return c = λ frames new.
    let h = c.args.holes.now in
    let at : fetch_at (constant_byte c.args.code.now) c.args.view.now.control.pc ≡ Fetches c.in-Insn.i c.in-Insn.field-1 =
    ap (fetch_at (constant_byte c.args.code.now)) (sym c.pc.ensures) ∙ c.in-Insn.ensures.fetched.0 in
    c.first_shown.ensures ∙ (ap first_shown (c.return_tests-tests.ensures frames new)
    ∙ sym (of_return (fetch_at (constant_byte c.args.code.now) c.args.view.now.control.pc) c.in-Insn.i c.in-Insn.field-1 (state_at frames h c.args.view.now) at (sym c.is_return.ensures ∙ c.if-is_return.true)))
