use Rattle.std.proofs.Common.{◌≡◌, ℕ, true, eqb, ◌||◌, List, take, drop, sym, ap, ◌∙◌}
use Rattle.std.proofs.lemmas.List.{take-append-drop}
use Rattle.xt_judged.specs.Stales.{among}
use Rattle.xt_judged.proofs.Among.{among_put, among_there}
use Rattle.xt_judged.proofs.stale.put.Goals as goal

pub returns-then-is_among : goal.returns-then-is_among
returns-then-is_among c =
    let items : List ℕ = c.args.bytes.now.items in
    let same : among c.as_slice.result.now c.from.result ≡ among items c.args.addr =
    ap (λ (l : List ℕ). among l c.from.result) c.as_slice.ensures.value ∙ ap (among items) c.from.ensures in
    let there : among items c.args.addr ≡ true = sym same ∙ (sym c.is_among.ensures ∙ c.if-is_among.true) in
    λ a. among_there items c.args.addr a there

pub returns : goal.returns
returns c =
    let items : List ℕ = c.args.bytes.now.items in
    let place = c.place_of-place.result in
    λ a. ap (λ (l : List ℕ). among l a) c.in_ok-insert.ensures.items
    ∙ (among_put (take place items) (drop place items) c.args.addr a ∙ ap (λ (l : List ℕ). eqb c.args.addr a || among l a) (take-append-drop place items))
