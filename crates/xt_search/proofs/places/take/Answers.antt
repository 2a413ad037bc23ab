use Rattle.std.proofs.Common.{◌≡◌, ◌∙◌, ap, sym, subst, List, Some, slice_get}
use Rattle.xt_search.specs.declared.changes.Change.{Change}
use Rattle.xt_search.specs.Changed.{place_in}
use Rattle.xt_search.proofs.Placing.{gone_at, stays_at}
use Rattle.xt_search.proofs.places.take.Goals as goal

pub returns-then-is_hit : goal.returns-then-is_hit
returns-then-is_hit c =
    let items = c.args.changes.now.items in
    let place = c.place_of-place.result in
    let h = c.is_hit.ensures.hit c.if-is_hit.true in
    let at = subst (λ (l : List Change). slice_get l place ≡ Some h.0) c.as_slice-2.ensures.value h.1 in
    c.remove.ensures.items
    ∙ gone_at items c.args.addr h.0 place (c.place_of-place.ensures.place ∙ ap (λ (l : List Change). place_in l c.args.addr) c.as_slice.ensures.value) at h.2

pub returns-else-is_hit : goal.returns-else-is_hit
returns-else-is_hit c =
    let items = c.args.changes.now.items in
    let place = c.place_of-place.result in
    stays_at items c.args.addr place (c.place_of-place.ensures.place ∙ ap (λ (l : List Change). place_in l c.args.addr) c.as_slice.ensures.value)
    (λ x at. c.is_hit.ensures.miss c.if-is_hit.false x (subst (λ (l : List Change). slice_get l place ≡ Some x) (sym c.as_slice-2.ensures.value) at))
