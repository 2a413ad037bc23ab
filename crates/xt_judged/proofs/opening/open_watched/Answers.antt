use Rattle.std.proofs.Common.{refl, sym, ap, ◌∙◌, subst}
use Rattle.xt_outcomes.specs.Dead.{spot_forgotten}
use Rattle.xt_discipline.specs.Verdicts.{opened0, opened1}
use Rattle.xt_judged.specs.Forgotten.{IsKeptJudge}
use Rattle.xt_core.specs.Runs.{memory_of}
use Rattle.xt_judged.specs.OwnJudges.{Judge, opening_judge}
use Rattle.xt_judged.proofs.FewerOrders.{kept_self}
use Rattle.xt_judged.proofs.opening.open_watched.Goals as goal

pub returns : goal.returns
returns c =
    let ms = c.args.dead.now.masks.items in
    let image = c.args.image.now in
    let o = c.args.options.now in
    let j0 : Judge = opening_judge (opened0 image o) in
    let j1 : Judge = opening_judge (opened1 o) in
    record {
      spot = c.in_ok-world.ensures (memory_of image o) ∙ ap (spot_forgotten ms) c.in_ok-whole.ensures;
      judge0 = subst (λ (j : Judge). IsKeptJudge ms j j0) (sym c.in_ok-judge0.ensures.judge) (kept_self ms j0 refl);
      judge1 = subst (λ (j : Judge). IsKeptJudge ms j j1) (sym c.in_ok-judge1.ensures.judge) (kept_self ms j1 refl);
    }
