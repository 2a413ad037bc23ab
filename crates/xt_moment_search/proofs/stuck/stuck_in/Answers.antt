use Rattle.std.proofs.Common.{◌≡◌, ◌<◌, ℕ, List, Bool, true, Some, length, slice_get, subst}
use Rattle.std.specs.List.{All}
use Rattle.std.specs.Prelude.{IfSome}
use Rattle.xt_moments.specs.Moments.{IsMove}
use Rattle.xt_search.specs.Ends.{IsSettled}
use Rattle.xt_search.specs.Graphs.{IsAt}
use Rattle.xt_search.proofs.Numbers.{at_within}
use Rattle.xt_moment_search.specs.Stuckness.{IsUnmarked, OrderLeads, has_ended}
use Rattle.xt_moment_search.specs.declared.worlds.World.{World}
use Rattle.xt_moment_search.proofs.Ended.{all_settled, never_stuck}
use Rattle.xt_moment_search.proofs.stuck.stuck_in.Goals as goal

pub returns-in_default : goal.returns-in_default
returns-in_default c =
    let graph = c.args.graph.now in
    let ms = c.in_ok-marks.marks.items in (
      c.requires.whole,
      never_stuck c.args.machine.now.ground graph ms c.in_ok-marks.ensures
          (subst (λ (l : List Bool). (k : ℕ) (v : World) → IsAt graph.kept.items k v → v.passed ≡ 0 → slice_get l k ≡ Some true) c.as_slice-2.ensures.value c.in_default.ensures.none),
    )

pub order_of-requires-clause-number : goal.order_of-requires-clause-number
order_of-requires-clause-number c =
    let u = c.in-Some.ensures.some in
    at_within c.args.graph.now.kept.items c.in-Some.number u.world u.kept

pub returns : goal.returns
returns c =
    let graph = c.args.graph.now in
    let ms = c.in_ok-marks.marks.items in
    let settled = subst (λ (l : List Bool). (k : ℕ) → k < length graph.kept.items → IsSettled has_ended graph l k) c.as_slice.ensures.value
    (c.are_settled.ensures c.if-not-are_settled.false) in (
      c.requires.whole,
      record {
        are_moves = subst (λ r. IfSome r (λ o. All IsMove o.items)) c.in-Some-found.is c.in_ok-found.ensures.moves;
        number = c.in-Some.number;
        marks = ms;
        unmarked = subst (λ (l : List Bool). IsUnmarked graph l c.in-Some.number) c.as_slice-2.ensures.value c.in-Some.ensures.some;
        settled = all_settled c.args.machine.now.ground graph ms c.in_ok-marks.ensures settled;
        leads = subst (λ r. IfSome r (λ o. OrderLeads c.args.machine.now.ground graph o.items c.in-Some.number)) c.in-Some-found.is c.in_ok-found.ensures.leads;
      },
    )
