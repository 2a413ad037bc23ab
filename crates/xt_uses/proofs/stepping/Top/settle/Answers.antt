use Rattle.std.proofs.Common.{Bool, List, Option, sym, ◌∙◌, ap}
use Rattle.xt_map.specs.Memory.{constant_byte}
use Rattle.xt_map.specs.Fetching.{fetch_at}
use Rattle.xt_frames.specs.declared.holes.Nested.{Nested}
use Rattle.xt_frames.specs.Frames.{FrameState}
use Rattle.xt_frames.specs.KeptFrameState.{turn_as}
use Rattle.xt_uses.specs.UseParts.{settled_in}
use Rattle.xt_uses.proofs.stepping.Top.settle.Goals as goal

pub returns-in-Some-clause-values : goal.returns-in-Some-clause-values
returns-in-Some-clause-values c = λ frames value.
    let code = constant_byte c.args.code.now in
    let made = c.args.made.now in
    let h = c.args.self.now.holes in
    let v = c.args.self.now.view in
    c.go_on.ensures.state frames v c.keep.new.self (fetch_at code made.before.control.pc) value c.planned-fetch.ensures (c.keep.ensures frames h)
    ∙ sym (ap (λ (o : Option Nested). (settled_in o code value made frames h v).after) c.in-Some.is)

pub returns-in-None-clause-values : goal.returns-in-None-clause-values
returns-in-None-clause-values c = λ frames value.
    let code = constant_byte c.args.code.now in
    let made = c.args.made.now in
    let h = c.args.self.now.holes in
    let v = c.args.self.now.view in
    let U : List Bool → FrameState = λ unset. record (turn_as made.step frames h made.after).after { unset = unset } in
    ap U (c.give_numbers.ensures code made.before.control c.requires.plan c.requires.kind)
    ∙ sym (ap (λ (o : Option Nested). (settled_in o code value made frames h v).after) c.in-None.is)
