-- Values beside their masks: a bit that is not known is 0 in the value, and where there is no number nothing is known.
use Rattle.std.proofs.Common.{◌≡◌, ℕ, zero, suc, List, [], ◌∷◌, ◌++◌, Option, Some, None, length, take, drop, get_or, replicate, refl, ap, ◌∙◌}
use Rattle.std.proofs.Math.ListN.{set}
use Rattle.std.specs.Prelude.{bit_and}
use Rattle.std.specs.Int.Bits.{and_self}
use Rattle.std.proofs.lemmas.Nat.{and_assoc}
use Rattle.xt_trace.specs.declared.record.RegWrite.{RegWrite}
use Rattle.xt_frames.specs.Frames.{value_or_zero, seen_after_write}
use Rattle.xt_uses.specs.Words.{masked}
use Rattle.xt_uses.specs.UseStep.{cut_number, cut_seen}
use Rattle.xt_uses.specs.UseLaws.{AreCut, IsCutAt}

pub cut_twice : (mask n : ℕ) → masked mask (masked mask n) ≡ masked mask n
cut_twice mask n = and_assoc mask n mask ∙ ap (λ k. bit_and n k) (and_self mask)

-- ---- one register
pub cut_length : (xs : List (Option ℕ)) (ys : List ℕ) → AreCut xs ys → length xs ≡ length ys
cut_length [] [] h = refl
cut_length (x ∷ xs) (y ∷ ys) h = ap suc (cut_length xs ys h.1)
cut_length [] (y ∷ ys) h = absurd h
cut_length (x ∷ xs) [] h = absurd h

pub cut_at : (xs : List (Option ℕ)) (ys : List ℕ) → AreCut xs ys → (i : ℕ) → IsCutAt (get_or xs i None) (get_or ys i 0)
cut_at [] [] h i = refl
cut_at (x ∷ xs) (y ∷ ys) h zero = h.0
cut_at (x ∷ xs) (y ∷ ys) h (suc i) = cut_at xs ys h.1 i
cut_at [] (y ∷ ys) h i = absurd h
cut_at (x ∷ xs) [] h i = absurd h

-- the value that is read, 0 where there is none
pub cut_value : (xs : List (Option ℕ)) (ys : List ℕ) → AreCut xs ys → (i : ℕ) → masked (get_or ys i 0) (value_or_zero xs i) ≡ value_or_zero xs i
cut_value [] [] h i = refl
cut_value (None ∷ xs) (y ∷ ys) h zero = ap (λ m. bit_and 0 m) h.0
cut_value (Some n ∷ xs) (y ∷ ys) h zero = h.0
cut_value (x ∷ xs) (y ∷ ys) h (suc i) = cut_value xs ys h.1 i
cut_value [] (y ∷ ys) h i = absurd h
cut_value (x ∷ xs) [] h i = absurd h

pub cut_set : (xs : List (Option ℕ)) (ys : List ℕ) → AreCut xs ys → (k : ℕ) (v : Option ℕ) (mask : ℕ) → IsCutAt v mask → AreCut (set xs k v) (set ys k mask)
cut_set [] [] h k v mask c = tt
cut_set (x ∷ xs) (y ∷ ys) h zero v mask c = (c, h.1)
cut_set (x ∷ xs) (y ∷ ys) h (suc k) v mask c = (h.0, cut_set xs ys h.1 k v mask c)
cut_set [] (y ∷ ys) h k v mask c = absurd h
cut_set (x ∷ xs) [] h k v mask c = absurd h

pub cut_take : (n : ℕ) (xs : List (Option ℕ)) (ys : List ℕ) → AreCut xs ys → AreCut (take n xs) (take n ys)
cut_take zero xs ys h = tt
cut_take (suc n) [] [] h = tt
cut_take (suc n) (x ∷ xs) (y ∷ ys) h = (h.0, cut_take n xs ys h.1)
cut_take (suc n) [] (y ∷ ys) h = absurd h
cut_take (suc n) (x ∷ xs) [] h = absurd h

pub cut_drop : (n : ℕ) (xs : List (Option ℕ)) (ys : List ℕ) → AreCut xs ys → AreCut (drop n xs) (drop n ys)
cut_drop zero xs ys h = h
cut_drop (suc n) [] [] h = tt
cut_drop (suc n) (x ∷ xs) (y ∷ ys) h = cut_drop n xs ys h.1
cut_drop (suc n) [] (y ∷ ys) h = absurd h
cut_drop (suc n) (x ∷ xs) [] h = absurd h

pub cut_append : (xs : List (Option ℕ)) (ys : List ℕ) (us : List (Option ℕ)) (vs : List ℕ) → AreCut xs ys → AreCut us vs → AreCut (xs ++ us) (ys ++ vs)
cut_append [] [] us vs h k = k
cut_append (x ∷ xs) (y ∷ ys) us vs h k = (h.0, cut_append xs ys us vs h.1 k)
cut_append [] (y ∷ ys) us vs h k = absurd h
cut_append (x ∷ xs) [] us vs h k = absurd h

pub cut_none : (n : ℕ) → AreCut (replicate n None) (replicate n 0)
cut_none zero = tt
cut_none (suc n) = (refl, cut_none n)

-- ---- a register that is written is cut to its mask
pub cut_put : (xs : List (Option ℕ)) (ys : List ℕ) → AreCut xs ys → (k v mask : ℕ) → AreCut (set (set xs k (Some v)) k (cut_number mask (get_or (set xs k (Some v)) k None))) (set ys k mask)
cut_put [] [] h k v mask = tt
cut_put (x ∷ xs) (y ∷ ys) h zero v mask = (cut_twice mask v, h.1)
cut_put (x ∷ xs) (y ∷ ys) h (suc k) v mask = (h.0, cut_put xs ys h.1 k v mask)
cut_put [] (y ∷ ys) h k v mask = absurd h
cut_put (x ∷ xs) [] h k v mask = absurd h

pub cut_marked : (xs : List (Option ℕ)) (ys : List ℕ) → AreCut xs ys → (k v mask : ℕ) → mask ≡ 0 → AreCut (set (set (set xs k (Some v)) k None) k (cut_number mask (get_or (set (set xs k (Some v)) k None) k None))) (set ys k mask)
cut_marked [] [] h k v mask e = tt
cut_marked (x ∷ xs) (y ∷ ys) h zero v mask e = (e, h.1)
cut_marked (x ∷ xs) (y ∷ ys) h (suc k) v mask e = (h.0, cut_marked xs ys h.1 k v mask e)
cut_marked [] (y ∷ ys) h k v mask e = absurd h
cut_marked (x ∷ xs) [] h k v mask e = absurd h

pub cut_visible : (xs : List (Option ℕ)) (ys : List ℕ) → AreCut xs ys → (w : RegWrite) (mask : ℕ) → AreCut (cut_seen mask (Some w) (seen_after_write (Some w) xs)) (set ys w.reg mask)
cut_visible xs ys h w mask = cut_put xs ys h w.reg w.value mask
