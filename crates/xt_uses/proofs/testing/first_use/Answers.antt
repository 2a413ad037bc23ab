use Rattle.std.proofs.Common.{false, refl, sym, ◌∙◌, ap, arith, List, Option}
use Rattle.std.proofs.lemmas.Bool.{cond-true, cond-false}
use Rattle.std.proofs.lemmas.List.{drop_more, drop_all}
use Rattle.xt_frames.specs.declared.kinds.BreachKind.{BreachKind}
use Rattle.xt_frames.specs.declared.kinds.BreachKind.TheVariants as breach
use Rattle.xt_frames.specs.declared.breach.Tested.{Tested}
use Rattle.xt_frames.specs.Breaches.{first_shown}
use Rattle.xt_frames.specs.KeptFrameState.{shown_tests}
use Rattle.xt_uses.specs.UseBreaches.{use_tests}
use Rattle.xt_uses.specs.declared.testing.Exchanged.{Exchanged}
use Rattle.xt_uses.proofs.testing.first_use.Goals as goal

abbrev nothing : Tested
nothing = record { kind = breach.Unset; shown = false }

abbrev found_in : Exchanged → List Tested → Option BreachKind
found_in x tests = first_shown (use_tests x.unset x.stale x.movsp (shown_tests tests))

pub loop-t-init : goal.loop-t-init
loop-t-init c = refl

pub returns-then-shown_here : goal.returns-then-shown_here
returns-then-shown_here c =
    sym (ap (found_in c.args.own) (drop_more c.args.tests.now c.loop-t.t-index nothing c.loop-t-test.true) ∙ cond-true _ _ _ (sym c.shown_here.ensures ∙ c.if-shown_here.true)) ∙ c.loop-t.invariant

pub loop-t-preserved : goal.loop-t-preserved
loop-t-preserved c =
    sym (ap (found_in c.args.own) (drop_more c.args.tests.now c.loop-t.t-index nothing c.loop-t-test.true) ∙ cond-false _ _ _ (sym c.shown_here.ensures ∙ c.if-shown_here.false)) ∙ c.loop-t.invariant

pub returns : goal.returns
returns c =
    sym (ap (found_in c.args.own) (drop_all c.loop-t.t-index c.args.tests.now (omega arith))) ∙ c.loop-t.invariant
