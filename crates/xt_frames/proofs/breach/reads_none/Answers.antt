use Rattle.std.proofs.Common.{Bool, not, Option, sym, ◌∙◌, ap, cond, ◌&&◌}
use Rattle.xt_frames.specs.declared.holes.Nested.{Nested}
use Rattle.xt_frames.specs.Breaches.{reads_none_in, reads_no_mark, reads_unset}
use Rattle.xt_frames.specs.KeptFrameState.{state_at}
use Rattle.xt_frames.specs.Nesting.{ends_nested}
use Rattle.xt_frames.proofs.breach.reads_none.Goals as goal

pub returns-in-None : goal.returns-in-None
returns-in-None c = λ frames.
    let f = state_at frames c.args.holes.now c.args.view.now in
    c.reads_unset.ensures frames ∙ sym (ap (λ (o : Option Nested). reads_none_in o c.args.i f) c.in-None.is)

pub returns-then-moves_marks : goal.returns-then-moves_marks
returns-then-moves_marks c = λ frames.
    let f = state_at frames c.args.holes.now c.args.view.now in
    let i = c.args.i in
    let x = c.in-Some.x in
    c.reads_no_mark.ensures frames
    ∙ sym (ap (λ (o : Option Nested). reads_none_in o i f) c.in-Some.is
    ∙ ap (λ (b : Bool). cond b (reads_no_mark i x f) (not (ends_nested i) && reads_unset i f)) (sym c.moves_marks.ensures ∙ c.if-moves_marks.true))

pub returns-then-not-ends_nested : goal.returns-then-not-ends_nested
returns-then-not-ends_nested c = λ frames.
    let f = state_at frames c.args.holes.now c.args.view.now in
    let i = c.args.i in
    let x = c.in-Some.x in
    c.reads_unset-then-not-ends_nested.ensures frames
    ∙ sym (ap (λ (o : Option Nested). reads_none_in o i f) c.in-Some.is
    ∙ (ap (λ (b : Bool). cond b (reads_no_mark i x f) (not (ends_nested i) && reads_unset i f)) (sym c.moves_marks.ensures ∙ c.if-moves_marks.false)
    ∙ ap (λ (b : Bool). not b && reads_unset i f) (sym c.ends_nested.ensures ∙ c.if-not-ends_nested.true)))
