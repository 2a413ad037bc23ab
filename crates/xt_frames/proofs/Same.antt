-- What is equal part by part is equal.
use Rattle.std.proofs.Common.{◌≡◌, ℕ, ◌<◌, Bool, Option, Some, None, List, [], ◌∷◌, suc, length, get_or, map, reverse, refl, sym, ap, arith}
use Rattle.std.specs.Bool.{Decides}
use Rattle.std.specs.Option.{option_eq}
use Rattle.std.specs.Prelude.{nat_eq, slice_get}
use Rattle.std.specs.Cmp.Lexicographic.{pointwise}
use Rattle.std.proofs.lemmas.Bool.Decides.{Decides-eqb}
use Rattle.std.proofs.lemmas.Bool.{true≢false}
use Rattle.std.proofs.lemmas.Slice.Eq.{slice_eq-Decides}
use Rattle.xt_frames.specs.KeptFrameState.{frame_of, frames_of}
use Rattle.xt_frames.specs.declared.view.Caller.{Caller}
use Rattle.xt_frames.proofs.Newest.{nobody}

options : (x y : Option ℕ) → Decides (option_eq nat_eq x y) (x ≡ y)
options None None = (λ h. refl, λ h. refl)
options None (Some y) = (λ h. absurd (true≢false (sym h)), λ h. cc)
options (Some x) None = (λ h. absurd (true≢false (sym h)), λ h. cc)
options (Some x) (Some y) = (λ h. ap (λ (n : ℕ). let o : Option ℕ = Some n in o) ((Decides-eqb x y).0 h), λ h. (Decides-eqb x y).1 (cc))

pub decided : (xs ys : List (Option ℕ)) (r : Bool) → r ≡ pointwise (option_eq nat_eq) xs ys → Decides r (xs ≡ ys)
decided xs ys r e = slice_eq-Decides options xs ys r e

pub same_items : {A : Type 0} (xs ys : List A) → length xs ≡ length ys → ((k : ℕ) → k < length xs → slice_get xs k ≡ slice_get ys k) → xs ≡ ys
same_items [] [] e h = refl
same_items [] (y ∷ ys) e h = absurd (omega (arith, e))
same_items (x ∷ xs) [] e h = absurd (omega (arith, e))
same_items {A} (x ∷ xs) (y ∷ ys) e h =
    let first : x ≡ y = some_same x y (h 0 (omega arith)) in
    let rest : xs ≡ ys = same_items xs ys (omega (arith, e)) (λ k less. h (suc k) (omega (arith, less))) in
    λ i. first i ∷ rest i
  where
    or : A → Option A → A
    or d None = d
    or d (Some z) = z

    some_same : (x y : A) → Some x ≡ Some y → x ≡ y
    some_same x y e = ap (or x) e

-- ---- callers, of which more is there than is kept
same_mapped : (xs ys : List Caller) → length xs ≡ length ys → ((k : ℕ) → k < length xs → frame_of (get_or xs k nobody) ≡ frame_of (get_or ys k nobody)) → map frame_of xs ≡ map frame_of ys
same_mapped [] [] e h = refl
same_mapped [] (y ∷ ys) e h = absurd (omega (arith, e))
same_mapped (x ∷ xs) [] e h = absurd (omega (arith, e))
same_mapped (x ∷ xs) (y ∷ ys) e h =
    let first : frame_of x ≡ frame_of y = h 0 (omega arith) in
    let rest : map frame_of xs ≡ map frame_of ys = same_mapped xs ys (omega (arith, e)) (λ k less. h (suc k) (omega (arith, less))) in
    λ i. first i ∷ rest i

pub same_frames : (xs ys : List Caller) → length xs ≡ length ys → ((k : ℕ) → k < length xs → frame_of (get_or xs k nobody) ≡ frame_of (get_or ys k nobody)) → frames_of xs ≡ frames_of ys
unfolding frames_of
same_frames xs ys e h = ap reverse (same_mapped xs ys e h)
