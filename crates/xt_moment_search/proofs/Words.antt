-- Lines that were appended one after another.
use Rattle.std.proofs.Common.{◌≡◌, ℕ, List, [], ◌∷◌, ◌++◌, inl, inr, refl, sym, ap, ◌∙◌, append_assoc, append-nil}
use Rattle.std.specs.Prelude.{◌⊎◌, flat_map, IfOk, Result, Ok, Err}
use Rattle.std.specs.List.{concat, zip}
use Rattle.xt_moment_search.specs.MomentLines.{value_line}

-- ---- words

nothing_left : (ks vs : List ℕ) → (ks ≡ []) ⊎ (vs ≡ []) → zip ks vs ≡ []
nothing_left ks vs (inl none) = rw none refl
nothing_left [] vs (inr none) = refl
nothing_left (k ∷ ks) vs (inr none) = rw none refl

pub all_words : (whole out ks vs : List ℕ) → (ks ≡ []) ⊎ (vs ≡ []) → out ++ flat_map value_line (zip ks vs) ≡ whole → out ≡ whole
all_words whole out ks vs none before =
    sym (append-nil out) ∙ sym (ap (λ (l : List (ℕ × ℕ)). out ++ flat_map value_line l) (nothing_left ks vs none)) ∙ before

-- ---- parts

one_part : (whole out out2 part rest : List ℕ) → out2 ≡ out ++ part → out ++ (part ++ rest) ≡ whole → out2 ++ rest ≡ whole
one_part whole out out2 part rest is before = ap (λ (l : List ℕ). l ++ rest) is ∙ append_assoc out part rest ∙ before

pub six_parts : (o o1 o2 o3 o4 o5 o6 a b c d e f : List ℕ) → o1 ≡ o ++ a → o2 ≡ o1 ++ b → o3 ≡ o2 ++ c → o4 ≡ o3 ++ d → o5 ≡ o4 ++ e → o6 ≡ o5 ++ f
    → o6 ≡ o ++ concat (a ∷ b ∷ c ∷ d ∷ e ∷ f ∷ [])
six_parts o o1 o2 o3 o4 o5 o6 a b c d e f p q r s t u =
    let whole = o ++ concat (a ∷ b ∷ c ∷ d ∷ e ∷ f ∷ []) in
    let w1 = one_part whole o o1 a (concat (b ∷ c ∷ d ∷ e ∷ f ∷ [])) p refl in
    let w2 = one_part whole o1 o2 b (concat (c ∷ d ∷ e ∷ f ∷ [])) q w1 in
    let w3 = one_part whole o2 o3 c (concat (d ∷ e ∷ f ∷ [])) r w2 in
    let w4 = one_part whole o3 o4 d (concat (e ∷ f ∷ [])) s w3 in
    let w5 = one_part whole o4 o5 e (concat (f ∷ [])) t w4 in
    sym (append-nil o6) ∙ one_part whole o5 o6 f [] u w5

-- what a good answer has is also so of it in another way
pub each_ok : {T E : Type 0} (P Q : T → Type 0) (r : Result T E) → ((t : T) → P t → Q t) → IfOk r P → IfOk r Q
each_ok P Q (Ok t) f p = f t p
each_ok P Q (Err e) f p = tt
