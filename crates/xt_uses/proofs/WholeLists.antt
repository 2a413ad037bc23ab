-- Lists beside each other: masks beside the registers that they are of.
use Rattle.std.proofs.Common.{◌≡◌, ℕ, zero, suc, ◌^◌, ◌<◌, List, [], ◌∷◌, ◌++◌, Option, Some, None, length, take, drop, get_or, replicate, refl, sym, ap, ◌∙◌, arith}
use Rattle.std.proofs.Math.ListN.{set}
use Rattle.std.specs.Prelude.{map}
use Rattle.std.proofs.lemmas.List.{drop-map, take-map, map-append, map-set}
use Rattle.xt_frames.specs.declared.holes.Nested.{Nested}
use Rattle.xt_uses.specs.Words.{all_bits}
use Rattle.xt_uses.specs.UseLaws.{number_mask}

-- ---- an entry that is set, of one list and of two
pub held : {A : Type 0} (xs : List A) (k j : ℕ) (v d : A) (P : A → Type 0) → (k ≡ j → P v) → P (get_or xs j d) → P (get_or (set xs k v) j d)
held [] k j v d P f p = p
held (x ∷ xs) zero zero v d P f p = f refl
held (x ∷ xs) zero (suc j) v d P f p = p
held (x ∷ xs) (suc k) zero v d P f p = p
held (x ∷ xs) (suc k) (suc j) v d P f p = held xs k j v d P (λ e. f (ap suc e)) p

pub held_both :
    {A B : Type 0} (xs : List A) (ys : List B) (k j : ℕ) (v d : A) (w e : B) (P : A → B → Type 0)
    → length xs ≡ length ys → (k ≡ j → P v w) → P (get_or xs j d) (get_or ys j e) → P (get_or (set xs k v) j d) (get_or (set ys k w) j e)
held_both [] [] k j v d w e P l f p = p
held_both [] (y ∷ ys) k j v d w e P l f p = absurd (omega (arith, l))
held_both (x ∷ xs) [] k j v d w e P l f p = absurd (omega (arith, l))
held_both (x ∷ xs) (y ∷ ys) zero zero v d w e P l f p = f refl
held_both (x ∷ xs) (y ∷ ys) zero (suc j) v d w e P l f p = p
held_both (x ∷ xs) (y ∷ ys) (suc k) zero v d w e P l f p = p
held_both (x ∷ xs) (y ∷ ys) (suc k) (suc j) v d w e P l f p = held_both xs ys k j v d w e P (omega (arith, l)) (λ q. f (ap suc q)) p

pub set_again : {A : Type 0} (xs : List A) (k : ℕ) (v w : A) → set (set xs k v) k w ≡ set xs k w
set_again [] k v w = refl
set_again (x ∷ xs) zero v w = refl
set_again (x ∷ xs) (suc k) v w = ap (λ ys. x ∷ ys) (set_again xs k v w)

pub replicated : {A : Type 0} (n k : ℕ) (v : A) → get_or (replicate n v) k v ≡ v
replicated zero k v = refl
replicated (suc n) zero v = refl
replicated (suc n) (suc k) v = replicated n k v

-- ---- words in registers
abbrev pub AreWords : List (Option ℕ) → Type 0
AreWords seen = (i n : ℕ) → get_or seen i None ≡ Some n → n < 2 ^ 32

abbrev pub InnerAreWords : Option Nested → Type 0
InnerAreWords None = Unit {0}
InnerAreWords (Some x) = AreWords x.seen

-- ---- the masks of registers
abbrev pub masks_of : List (Option ℕ) → List ℕ
masks_of seen = map number_mask seen

pub mask_at : (seen : List (Option ℕ)) (i : ℕ) → get_or (masks_of seen) i 0 ≡ number_mask (get_or seen i None)
mask_at [] i = refl
mask_at (x ∷ xs) zero = refl
mask_at (x ∷ xs) (suc i) = mask_at xs i

pub masks_set : (seen : List (Option ℕ)) (i v : ℕ) → set (masks_of seen) i all_bits ≡ masks_of (set seen i (Some v))
masks_set seen i v = sym (map-set number_mask seen i (Some v))

pub masks_none : (n : ℕ) → masks_of (replicate n None) ≡ replicate n 0
masks_none zero = refl
masks_none (suc n) = ap (λ ys. 0 ∷ ys) (masks_none n)

pub masks_some : (n v : ℕ) → masks_of (replicate n (Some v)) ≡ replicate n all_bits
masks_some zero v = refl
masks_some (suc n) v = ap (λ ys. all_bits ∷ ys) (masks_some n v)

pub masks_length : (seen : List (Option ℕ)) → length (masks_of seen) ≡ length seen
masks_length [] = refl
masks_length (x ∷ xs) = ap suc (masks_length xs)

pub masks_called : (seen : List (Option ℕ)) (n : ℕ) → drop n (masks_of seen) ++ replicate n 0 ≡ masks_of (drop n seen ++ replicate n None)
masks_called seen n =
    ap (λ ys. drop n (masks_of seen) ++ ys) (sym (masks_none n))
    ∙ (ap (λ ys. ys ++ masks_of (replicate n None)) (drop-map number_mask n seen)
    ∙ sym (map-append number_mask (drop n seen) (replicate n None)))

pub masks_returned : (kept seen : List (Option ℕ)) (n : ℕ) → masks_of kept ++ take n (masks_of seen) ≡ masks_of (kept ++ take n seen)
masks_returned kept seen n =
    ap (λ ys. masks_of kept ++ ys) (take-map number_mask n seen)
    ∙ sym (map-append number_mask kept (take n seen))
