-- The masks of the callers as they are kept, the oldest first, and as the state has them, the newest first.
use Rattle.std.specs.Prelude.{option_to_list, MatchOption}
use Rattle.std.proofs.Common.{◌≡◌, ℕ, zero, suc, ◌+◌, Option, Some, None, List, [], ◌∷◌, ◌++◌, refl, sym, ◌∙◌, ap, arith, length, get_or, take, map, reverse}
use Rattle.std.proofs.lemmas.List.{length-append, map-append, reverse-append}
use Rattle.xt_uses.specs.declared.masks.KeptMasks.{KeptMasks}
use Rattle.xt_uses.specs.UseParts.{kept_mask, kept_of, newest_masks, without_first}

abbrev pub no_masks : KeptMasks
no_masks = record { by = 0; masks = [] }

pub kept_snoc : (ks : List KeptMasks) (k : KeptMasks) → kept_of (ks ++ (k ∷ [])) ≡ kept_mask k ∷ kept_of ks
unfolding kept_of
kept_snoc ks k = ap reverse (map-append kept_mask ks (k ∷ [])) ∙ reverse-append (map kept_mask ks) (kept_mask k ∷ [])

pub kept_none : (ks : List KeptMasks) → length ks ≡ 0 → kept_of ks ≡ []
unfolding kept_of
kept_none [] h = refl
kept_none (k ∷ ks) h = absurd (omega (arith, h))

snoc_of : (ks : List KeptMasks) (n : ℕ) (d : KeptMasks) → length ks ≡ suc n → ks ≡ take n ks ++ (get_or ks n d ∷ [])
snoc_of [] n d h = absurd (omega (arith, h))
snoc_of (k ∷ []) zero d h = refl
snoc_of (k ∷ (e ∷ ks)) zero d h = absurd (omega (arith, h))
snoc_of (k ∷ ks) (suc n) d h = let l : length ks ≡ suc n = omega (arith, h) in ap (λ xs. k ∷ xs) (snoc_of ks n d l)

pub kept_last : (ks : List KeptMasks) (n : ℕ) (d : KeptMasks) → length ks ≡ suc n → newest_masks (kept_of ks) ≡ Some (kept_mask (get_or ks n d))
kept_last ks n d h = ap newest_masks (ap kept_of (snoc_of ks n d h) ∙ kept_snoc (take n ks) (get_or ks n d))

pub kept_popped : (old new : List KeptMasks) (r : Option KeptMasks) (n m : ℕ) → old ≡ new ++ option_to_list r → MatchOption r ((n ≡ 0) × (m ≡ 0)) (λ _. m + 1 ≡ n) → n ≡ length old → kept_of new ≡ without_first (kept_of old)
kept_popped old new (Some x) n m e h l = sym (ap without_first (ap kept_of e ∙ kept_snoc new x))
kept_popped old new None n m e h l =
    let z = h.0 in
    let none : length old ≡ 0 = omega (arith, z, l) in
    let some : length old ≡ length new + 0 = ap length e ∙ length-append new [] in
    kept_none new (omega (arith, none, some)) ∙ sym (ap without_first (kept_none old none))
