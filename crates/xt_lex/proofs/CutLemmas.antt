-- The first line of a text is cut after its first 0A.
use Rattle.std.proofs.Common.{◌≡◌, ◌+◌, ◌<◌, ◌≤◌, ℕ, suc, Bool, true, false, cond, List, [], ◌∷◌, length, take, drop, refl, sym, ◌∙◌, ap, arith, ◌==◌, nat_lt}
use Rattle.std.proofs.lemmas.Bool.Decides.{nat_tests}
use Rattle.std.specs.Prelude.{not}
use Rattle.std.specs.List.{prefix_len}
use Rattle.xt_lex.specs.Tokens.{lines_of, with_first}

abbrev pub before : List ℕ → ℕ
before text = prefix_len (λ b. not (b == 10)) text

abbrev pub width_of : List ℕ → ℕ
width_of text = cond (nat_lt (before text) (length text)) (before text + 1) (before text)

width_more : (n m : ℕ) → cond {A = ℕ} (nat_lt (1 + n) (suc m)) (1 + n + 1) (1 + n) ≡ suc (cond {A = ℕ} (nat_lt n m) (n + 1) n)
width_more n m = grind (arith, nat_tests)

width_one : (m : ℕ) → cond {A = ℕ} (nat_lt 0 (suc m)) (0 + 1) 0 ≡ 1
width_one m = grind (arith, nat_tests)

ends : (b : ℕ) (rest : List ℕ) → (b == 10) ≡ true → lines_of (b ∷ rest) ≡ take (width_of (b ∷ rest)) (b ∷ rest) ∷ lines_of (drop (width_of (b ∷ rest)) (b ∷ rest))
ends b rest e =
    let here : b ≡ 10 = grind (arith, nat_tests) in
    let at_once : before (b ∷ rest) ≡ 0 = rw e refl in
    let one : width_of (b ∷ rest) ≡ 1 = ap (λ n. cond {A = ℕ} (nat_lt n (suc (length rest))) (n + 1) n) at_once ∙ width_one (length rest) in
    let cut : lines_of (b ∷ rest) ≡ (b ∷ []) ∷ lines_of rest = rw e (ap (λ x. (x ∷ []) ∷ lines_of rest) (sym here)) in
    cut ∙ ap (λ w. take w (b ∷ rest) ∷ lines_of (drop w (b ∷ rest))) (sym one)

last : (b : ℕ) → (b == 10) ≡ false → lines_of (b ∷ []) ≡ take (width_of (b ∷ [])) (b ∷ []) ∷ lines_of (drop (width_of (b ∷ [])) (b ∷ []))
last b e =
    let one : width_of (b ∷ []) ≡ 1 = rw e refl in
    let cut : lines_of (b ∷ []) ≡ (b ∷ []) ∷ [] = rw e refl in
    cut ∙ ap (λ w. take w (b ∷ []) ∷ lines_of (drop w (b ∷ []))) (sym one)

goes_on : (b : ℕ) (rest : List ℕ) → (b == 10) ≡ false → lines_of rest ≡ take (width_of rest) rest ∷ lines_of (drop (width_of rest) rest)
    → lines_of (b ∷ rest) ≡ take (width_of (b ∷ rest)) (b ∷ rest) ∷ lines_of (drop (width_of (b ∷ rest)) (b ∷ rest))
goes_on b rest e more =
    let longer : before (b ∷ rest) ≡ 1 + before rest = rw e refl in
    let wide : width_of (b ∷ rest) ≡ suc (width_of rest) = ap (λ n. cond {A = ℕ} (nat_lt n (suc (length rest))) (n + 1) n) longer ∙ width_more (before rest) (length rest) in
    let cut : lines_of (b ∷ rest) ≡ with_first b (lines_of rest) = rw e refl in
    cut ∙ ap (with_first b) more ∙ ap (λ w. take w (b ∷ rest) ∷ lines_of (drop w (b ∷ rest))) (sym wide)

by_end : (t : Bool) (b c : ℕ) (cs : List ℕ) → (b == 10) ≡ t → lines_of (c ∷ cs) ≡ take (width_of (c ∷ cs)) (c ∷ cs) ∷ lines_of (drop (width_of (c ∷ cs)) (c ∷ cs))
    → lines_of (b ∷ c ∷ cs) ≡ take (width_of (b ∷ c ∷ cs)) (b ∷ c ∷ cs) ∷ lines_of (drop (width_of (b ∷ c ∷ cs)) (b ∷ c ∷ cs))
by_end true b c cs e more = ends b (c ∷ cs) e
by_end false b c cs e more = goes_on b (c ∷ cs) e more

only : (t : Bool) (b : ℕ) → (b == 10) ≡ t → lines_of (b ∷ []) ≡ take (width_of (b ∷ [])) (b ∷ []) ∷ lines_of (drop (width_of (b ∷ [])) (b ∷ []))
only true b e = ends b [] e
only false b e = last b e

first_line_is_cut : (b : ℕ) (rest : List ℕ) → lines_of (b ∷ rest) ≡ take (width_of (b ∷ rest)) (b ∷ rest) ∷ lines_of (drop (width_of (b ∷ rest)) (b ∷ rest))
first_line_is_cut b [] = only (b == 10) b refl
first_line_is_cut b (c ∷ cs) = by_end (b == 10) b c cs refl (first_line_is_cut c cs)

whole_cut : (text : List ℕ) → 0 < length text → lines_of text ≡ take (width_of text) text ∷ lines_of (drop (width_of text) text)
whole_cut [] h = absurd (omega arith)
whole_cut (b ∷ rest) h = first_line_is_cut b rest

at_width : (text : List ℕ) (w : ℕ) → 0 < length text → width_of text ≡ w → lines_of text ≡ take w text ∷ lines_of (drop w text)
at_width text w h e = whole_cut text h ∙ ap (λ n. take n text ∷ lines_of (drop n text)) e

inside : (n m : ℕ) → n < m → cond {A = ℕ} (nat_lt n m) (n + 1) n ≡ n + 1
inside n m h = grind (arith, nat_tests)

at_end : (n m : ℕ) → m ≤ n → cond {A = ℕ} (nat_lt n m) (n + 1) n ≡ n
at_end n m h = grind (arith, nat_tests)

-- after the first 0A
pub cut_behind : (text : List ℕ) (n : ℕ) → n ≡ before text → n < length text → lines_of text ≡ take (n + 1) text ∷ lines_of (drop (n + 1) text)
cut_behind text n e h = at_width text (n + 1) (omega arith) (ap (λ k. cond {A = ℕ} (nat_lt k (length text)) (k + 1) k) (sym e) ∙ inside n (length text) h)

-- at the end, where there is no 0A
pub cut_at_end : (text : List ℕ) (n : ℕ) → n ≡ before text → 0 < length text → length text ≤ n → lines_of text ≡ take n text ∷ lines_of (drop n text)
cut_at_end text n e some h = at_width text n some (ap (λ k. cond {A = ℕ} (nat_lt k (length text)) (k + 1) k) (sym e) ∙ at_end n (length text) h)
