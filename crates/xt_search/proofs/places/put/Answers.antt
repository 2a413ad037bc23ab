use Rattle.std.proofs.Common.{◌≡◌, ◌∙◌, ap, sym, subst, List, Some, slice_get}
use Rattle.xt_search.specs.declared.changes.Change.{Change}
use Rattle.xt_search.specs.Changed.{place_in}
use Rattle.xt_search.proofs.Placing.{put_beside, put_on}
use Rattle.xt_search.proofs.places.put.Goals as goal

pub returns-then-is_hit-clause-ok : goal.returns-then-is_hit-clause-ok
returns-then-is_hit-clause-ok c =
    let items = c.args.changes.now.items in
    let place = c.place_of-place.result in
    let h = c.is_hit.ensures.hit c.if-is_hit.true in
    let at = subst (λ (l : List Change). slice_get l place ≡ Some h.0) c.as_slice-2.ensures.value h.1 in
    put_on items c.args.change h.0 place
    (c.place_of-place.ensures.place ∙ ap (λ (l : List Change). place_in l c.args.change.addr) c.as_slice.ensures.value) at h.2

pub returns-clause-ok : goal.returns-clause-ok
returns-clause-ok c =
    let items = c.args.changes.now.items in
    let place = c.place_of-place.result in
    c.in_ok-insert.ensures.items
    ∙ put_beside items c.args.change place
    (c.place_of-place.ensures.place ∙ ap (λ (l : List Change). place_in l c.args.change.addr) c.as_slice.ensures.value)
    (λ x at. c.is_hit.ensures.miss c.if-is_hit.false x (subst (λ (l : List Change). slice_get l place ≡ Some x) (sym c.as_slice-2.ensures.value) at))
