use Rattle.std.proofs.Common.{List, ◌∙◌, subst, sym}
use Rattle.xt_core.specs.Runs.{code_of, opening_of}
use Rattle.xt_moments.specs.Outcomes.{HasAllOutcomes}
use Rattle.xt_moment_search.specs.Opened.{IsGroundOf}
use Rattle.xt_moment_search.specs.Told.{outcomes_in}
use Rattle.xt_moment_search.specs.declared.found.Found.{Found}
use Rattle.xt_moment_search.proofs.Complete.{has_all, stuck_told}
use Rattle.xt_moment_search.proofs.answers.answers_with.Goals as goal

pub returns-clause-complete : goal.returns-clause-complete
returns-clause-complete c = λ e.
    let g = c.in_ok-ground.ground in
    let ground : IsGroundOf c.args.image.now c.args.options.now g = record {
      code = c.in_ok-ground.ensures.code;
      opening = c.in_ok-ground.ensures.opening;
      cleared = c.in_ok-ground.ensures.cleared;
    } in
    let all = has_all c.args.image.now c.args.options.now c.args.words.now g c.in_ok-graph.graph
    c.in_ok-opening.opening c.as_slice.result.now c.requires.fits ground c.in_ok-opening.ensures
    c.in_ok-graph.ensures.graph (c.in_ok-ended.ensures.whole e) c.in_ok-graph.ensures.opens
    (c.in_ok-ended.ensures.listed e) in
    subst (λ (l : List Found). HasAllOutcomes (code_of c.args.image.now) (opening_of c.args.image.now c.args.options.now) c.args.words.now (outcomes_in l)) (c.as_slice.ensures.value ∙ sym (c.in_ok-with_tries.ensures.kept e)) all

pub returns-clause-stuck : goal.returns-clause-stuck
returns-clause-stuck c =
    let g = c.in_ok-ground.ground in
    let ground : IsGroundOf c.args.image.now c.args.options.now g = record {
      code = c.in_ok-ground.ensures.code;
      opening = c.in_ok-ground.ensures.opening;
      cleared = c.in_ok-ground.ensures.cleared;
    } in
    stuck_told c.args.image.now c.args.options.now g c.in_ok-graph.graph c.in_ok-opening.opening
    c.requires.fits ground c.in_ok-opening.ensures c.in_ok-graph.ensures.graph
    c.in_ok-graph.ensures.opens c.in_ok-stuck.stuck c.in_ok-stuck.ensures
