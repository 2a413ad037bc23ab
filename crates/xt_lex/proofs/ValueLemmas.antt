-- Labels have addresses, and sums of values.
use Rattle.std.proofs.Common.{◌≡◌, ◌*◌, ◌<◌, ℕ, ℤ, pos, ◌+ℤ◌, ◌-ℤ◌, ◌≤ℤ◌, ◌<ℤ◌, ◌^◌, true, false, cond, List, [], ◌∷◌, Option, Some, None, refl, sym, ap, subst, arith, w64, to_z, of_z}
use Rattle.std.proofs.lemmas.Int.{to_z-of_z, ints}
use Rattle.std.proofs.lemmas.List.Elements.{recursion_from_All}
use Rattle.std.specs.Prelude.{IfSome}
use Rattle.std.specs.List.{AllByRecursion}
use Rattle.xt_lex.specs.declared.labels.Label.{Label}
use Rattle.xt_lex.specs.Labels.{first_label, is_named}
use Rattle.xt_lex.specs.Values.{IsAddress, HaveAddresses, plus}

abbrev Has : Label → Type 0
Has label = IsAddress label.address

found : (name : List ℕ) (xs : List Label) → AllByRecursion Has xs → IfSome (first_label name xs) Has
found name [] h = tt
found name (x ∷ xs) h = elim (is_named name x) as (λ b. IfSome (cond b (Some x) (first_label name xs)) Has) [ true ↦ h.0 | false ↦ found name xs h.1 ]

-- a label that is found has an address
pub first_is_address : (name : List ℕ) (labels : List Label) (x : Label) → HaveAddresses labels → Some x ≡ first_label name labels → IsAddress x.address
first_is_address name labels x h e = let P : Option Label → Type 0 = λ o. IfSome o Has in subst P (sym e) (found name labels (recursion_from_All Has labels h))

-- an address is what is read of it
pub address_is_read : (a : ℤ) → IsAddress a → to_z w64 (of_z w64 a) ≡ a
address_is_read a h = to_z-of_z w64 a (omega (arith, ints))

sums : (a b x : ℤ) → ((a +ℤ b) +ℤ x) ≡ (a +ℤ (b +ℤ x))
sums a b x = omega (arith, ints)

-- a term more: its value goes to the total
pub plus-more : (a b : ℤ) (rest : Option ℤ) → plus (Some (a +ℤ b)) rest ≡ plus (Some a) (plus (Some b) rest)
plus-more a b None = refl
plus-more a b (Some x) = ap Some (sums a b x)

-- the total with a term more, as it is kept
pub total_is_read : (total number : ℤ) (i : ℕ) → (pos 0 -ℤ pos (i * 2 ^ 40)) ≤ℤ total → total ≤ℤ pos (i * 2 ^ 40) → i < 1048576 → (pos 0 -ℤ pos (2 ^ 40)) <ℤ number → number <ℤ pos (2 ^ 40)
    → to_z w64 (of_z w64 (total +ℤ to_z w64 (of_z w64 number))) ≡ (total +ℤ number)
total_is_read total number i least most few low high =
    let read : to_z w64 (of_z w64 number) ≡ number = to_z-of_z w64 number (omega (arith, ints)) in
    rw read (to_z-of_z w64 (total +ℤ number) (omega (arith, ints)))
