use Rattle.std.proofs.Common.{◌≡◌, List, length, replicate, sym, ◌∙◌, ap, subst, All}
use Rattle.std.proofs.lemmas.List.{length-replicate}
use Rattle.std.proofs.lemmas.List.Elements.{All-replicate}
use Rattle.xt_map.specs.Memory.{constant_byte}
use Rattle.xt_shadow.specs.declared.lookups.Lookup.{Lookup}
use Rattle.xt_shadow.specs.Lookups.{IsLookup}
use Rattle.xt_shadow.proofs.lookups.Lookups.make.Goals as goal

pub invariant_of-result : goal.invariant_of-result
invariant_of-result c =
    let l : Lookup = c.look_up-lookup.result in
    let P : Lookup → Type 0 = IsLookup (constant_byte c.args.code) in
    let is : c.in_ok-places.places.items ≡ replicate 4096 l = c.in_ok-places.ensures in
    (ap (λ (xs : List Lookup). length xs) is ∙ length-replicate 4096 l, subst (All P) (sym is) (All-replicate P 4096 l c.look_up-lookup.ensures.lookup))
