use Rattle.std.proofs.Common.{Option, sym, ◌∙◌, ap}
use Rattle.xt_frames.specs.declared.holes.Nested.{Nested}
use Rattle.xt_frames.specs.Nesting.{current_in}
use Rattle.xt_frames.specs.KeptFrameState.{state_at}
use Rattle.xt_frames.proofs.view.FrameRegisters.current.Goals as goal

pub returns-in-Some : goal.returns-in-Some
returns-in-Some c = λ frames.
    let f = state_at frames c.args.holes.now c.args.self.now in
    c.nested_view.ensures frames c.args.holes.now ∙ sym (ap (λ (o : Option Nested). current_in o f) c.in-Some.is)
