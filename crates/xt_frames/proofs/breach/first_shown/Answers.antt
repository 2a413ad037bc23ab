use Rattle.std.proofs.Common.{false, refl, sym, ◌∙◌, ap, arith, List}
use Rattle.std.proofs.lemmas.Bool.{cond-true, cond-false}
use Rattle.std.proofs.lemmas.List.{drop_more, drop_all}
use Rattle.xt_frames.specs.declared.kinds.BreachKind.TheVariants as breach
use Rattle.xt_frames.specs.declared.breach.Tested.{Tested}
use Rattle.xt_frames.specs.Breaches.{first_shown}
use Rattle.xt_frames.specs.KeptFrameState.{shown_tests}
use Rattle.xt_frames.proofs.breach.first_shown.Goals as goal

abbrev nothing : Tested
nothing = record { kind = breach.Unset; shown = false }

pub loop-t-init : goal.loop-t-init
loop-t-init c = refl

pub returns-then-t : goal.returns-then-t
returns-then-t c =
    sym (ap (λ (xs : List Tested). first_shown (shown_tests xs)) (drop_more c.args.tests.now c.loop-t.t-index nothing c.loop-t-test.true) ∙ cond-true _ _ _ c.if-t.true) ∙ c.loop-t.invariant

pub loop-t-preserved : goal.loop-t-preserved
loop-t-preserved c =
    sym (ap (λ (xs : List Tested). first_shown (shown_tests xs)) (drop_more c.args.tests.now c.loop-t.t-index nothing c.loop-t-test.true) ∙ cond-false _ _ _ c.if-t.false) ∙ c.loop-t.invariant

pub returns : goal.returns
returns c =
    sym (ap (λ (xs : List Tested). first_shown (shown_tests xs)) (drop_all c.loop-t.t-index c.args.tests.now (omega arith))) ∙ c.loop-t.invariant
