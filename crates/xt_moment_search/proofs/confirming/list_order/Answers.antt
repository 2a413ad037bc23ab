use Rattle.std.proofs.Common.{List, Option, sym, subst}
use Rattle.std.specs.Prelude.{IfSome}
use Rattle.xt_core.specs.Runs.{code_of, opening_of}
use Rattle.xt_moments.specs.Outcomes.{EndsIn, MomentOutcome}
use Rattle.xt_moments.specs.declared.moves.Move.{Move}
use Rattle.xt_moment_search.specs.Told.{IsReal, AreReal}
use Rattle.xt_moment_search.specs.declared.found.Found.{Found}
use Rattle.xt_moment_search.proofs.Listing.{all_inserted}
use Rattle.xt_moment_search.proofs.confirming.list_order.Goals as goal

pub returns : goal.returns
returns c =
    let code = code_of c.args.image.now in
    let o = opening_of c.args.image.now c.args.options.now in
    let words = c.args.words.now in
    let found : Found = record { outcome = c.in-Some.outcome; order = c.args.order } in
    let made = subst (λ (r : Option MomentOutcome). IfSome r (λ x. EndsIn code o words (λ k. 0) c.as_slice.result.now x)) c.in-Some.is c.in_ok-made.ensures.ends in
    let real : IsReal code o words found = record {
      moves = c.requires.moves;
      counts = λ k. 0;
      ends = subst (λ (l : List Move). EndsIn code o words (λ k. 0) l found.outcome) c.as_slice.ensures.value made;
    } in
    subst (AreReal c.args.image.now c.args.options.now words) (sym c.in_ok-insert.ensures.items)
    (all_inserted (IsReal code o words) c.args.list.now.items c.place_of-place.result found c.requires.real real)
