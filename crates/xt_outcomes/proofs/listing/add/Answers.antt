use Rattle.std.proofs.Common.{◌≡◌, true, List, Some, length, slice_get, refl, sym, ap, ◌∙◌, subst}
use Rattle.std.proofs.lemmas.Option.{slice_get_read}
use Rattle.xt_exec.specs.Chips.{processor}
use Rattle.xt_core.specs.Runs.{code_of, memory_of, opening_of}
use Rattle.xt_search.proofs.Numbers.{at_kept, at_once}
use Rattle.xt_outcomes.specs.Added.{IsAdded, place_in}
use Rattle.xt_outcomes.specs.Endings.{has_ended, outcome_at}
use Rattle.xt_outcomes.specs.KeptWorlds.{spot_of}
use Rattle.xt_outcomes.specs.Listing.{IsReal, Lists}
use Rattle.xt_outcomes.specs.declared.listing.Found.{Found}
use Rattle.xt_outcomes.specs.declared.world.World.{World}
use Rattle.xt_outcomes.proofs.Adding.{added, listed_at, listed_before, not_ended}
use Rattle.xt_outcomes.proofs.Comparing.{same_outcome}
use Rattle.xt_outcomes.proofs.Finding.{ended_same, outcome_same}
use Rattle.xt_outcomes.specs.Orders.{world_after}
use Rattle.xt_outcomes.proofs.listing.add.Goals as goal

pub returns-then-not-is_end : goal.returns-then-not-is_end
returns-then-not-is_end c = λ w at.
    let ks = c.args.search.now.graph.kept.items in
    let m = memory_of c.args.image.now c.args.options.now in
    let x = c.index.result.now in
    let here = slice_get_read ks (length ks) c.args.number x refl c.requires.number c.index.ensures in
    let e = at_once ks c.args.number x.world w (at_kept ks c.args.number x here) at in
    not_ended (processor (code_of c.args.image.now)) c.args.search.now.machine.timed (opening_of c.args.image.now c.args.options.now) c.args.words.now c.args.list.now.items (spot_of m w)
    (ap (λ (v : World). has_ended (spot_of m v)) (sym e) ∙ sym c.is_end.ensures ∙ c.if-not-is_end.true)

pub returns-then-is_hit : goal.returns-then-is_hit
returns-then-is_hit c = λ w at.
    let ks = c.args.search.now.graph.kept.items in
    let m = memory_of c.args.image.now c.args.options.now in
    let items = c.args.list.now.items in
    let x = c.index.result.now in
    let here = slice_get_read ks (length ks) c.args.number x refl c.requires.number c.index.ensures in
    let e = at_once ks c.args.number x.world w (at_kept ks c.args.number x here) at in
    let same : c.in_ok-outcome.outcome ≡ outcome_at c.args.words.now (spot_of m w) =
    c.in_ok-outcome.ensures ∙ (λ i. outcome_at c.args.words.now (spot_of (c.requires.search.opening i) (e i))) in
    let h = c.is_hit.ensures.hit c.if-is_hit.true in
    let there = subst (λ (l : List Found). slice_get l c.place_of-place.result ≡ Some h.0) c.as_slice-2.ensures.value h.1 in
    listed_before (processor (code_of c.args.image.now)) c.args.search.now.machine.timed (opening_of c.args.image.now c.args.options.now) c.args.words.now items (spot_of m w)
    (subst (Lists items) (same_outcome h.0.outcome c.in_ok-outcome.outcome h.2 ∙ same) (listed_at c.place_of-place.result items h.0 there))

pub returns : goal.returns
returns c = λ w at.
    let ks = c.args.search.now.graph.kept.items in
    let P = processor (code_of c.args.image.now) in
    let o = opening_of c.args.image.now c.args.options.now in
    let words = c.args.words.now in
    let m = memory_of c.args.image.now c.args.options.now in
    let items = c.args.list.now.items in
    let place = c.place_of-place.result in
    let x = c.index.result.now in
    let here = slice_get_read ks (length ks) c.args.number x refl c.requires.number c.index.ensures in
    let e = at_once ks c.args.number x.world w (at_kept ks c.args.number x here) at in
    let found : Found = record { outcome = c.in_ok-outcome.outcome; order = c.in_ok-order.order } in
    let same : found.outcome ≡ outcome_at words (spot_of m w) =
    c.in_ok-outcome.ensures ∙ (λ i. outcome_at words (spot_of (c.requires.search.opening i) (e i))) in
    let f = c.in_ok-order.ensures.found w at in
    let ended : has_ended (spot_of m w) ≡ true =
    ap (λ (v : World). has_ended (spot_of m v)) (sym e) ∙ sym c.is_end.ensures ∙ c.if-not-is_end.false in
    let timed = c.args.search.now.machine.timed in
    let after = world_after P timed o found.order.items in
    let real : IsReal P timed o words found = record {
      order = c.in_ok-order.ensures.order;
      ended = sym (ended_same timed after) ∙ ap has_ended (sym f) ∙ ended;
      outcome = same ∙ ap (outcome_at words) f ∙ outcome_same timed words after;
    } in
    let at_place : place ≡ place_in items found.outcome =
    c.place_of-place.ensures.place ∙ ap (λ (l : List Found). place_in l found.outcome) c.as_slice.ensures.value in
    subst (IsAdded P timed o words (spot_of m w) items) (sym c.in_ok-insert.ensures.items)
    (added P timed o words items found place (spot_of m w) at_place same real
    (λ z zat. c.is_hit.ensures.miss c.if-is_hit.false z (subst (λ (l : List Found). slice_get l place ≡ Some z) (sym c.as_slice-2.ensures.value) zat)))
