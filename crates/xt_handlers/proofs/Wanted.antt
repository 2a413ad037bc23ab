-- Which stores are wanted and which words are named, read back from the tests.
use Rattle.std.proofs.Common.{◌≡◌, ◌≢◌, ⊎_elim, ℕ, zero, suc, ◌+◌, ◌*◌, ◌<◌, Bool, true, false, ◌==◌, refl, sym, ◌∙◌, ap, arith, List, [], ◌∷◌, get_or, set, Option, Some, None}
use Rattle.std.proofs.lemmas.Bool.{cond-true, cond-false, and_parts, eqb-true, false≢true, or_cases, cases_Bool, eq-eqb}
use Rattle.xt_handlers.specs.Symbols.{Symbol, Init, Load, Word, Store, same, same_word, same_store}
use Rattle.xt_handlers.specs.Needs.{save_of, save_word, save_words_from, link_word, named_words, is_among, with_store, without}
use Rattle.xt_handlers.specs.Needs.{marked_stores}
use Rattle.xt_handlers.specs.declared.stretch.Side.{Side}
use Rattle.xt_handlers.specs.declared.stretch.Side.TheVariants.{Overflow, Underflow}

-- ---- the tests of equality mean equality
pub same_is : (a b : Symbol) → same a b ≡ true → a ≡ b
same_is (Init i) (Init j) h = ap Init (eqb-true i j h)
same_is (Init i) (Load b n) h = absurd (false≢true h)
same_is (Load a m) (Init j) h = absurd (false≢true h)
same_is (Load a m) (Load b n) h =
    let p = and_parts (same a b) (m == n) h in
    let e : a ≡ b = same_is a b p.0 in
    let k : m ≡ n = eqb-true m n p.1 in
    cc

pub same_word_is : (v w : Word) → same_word v w ≡ true → v ≡ w
same_word_is v w h =
    let p = and_parts (same v.base w.base) (v.back == w.back) h in
    let e : v.base ≡ w.base = same_is v.base w.base p.0 in
    let k : v.back ≡ w.back = eqb-true v.back w.back p.1 in
    let at_base : Symbol → Word = λ x. record { base = x; back = v.back } in
    let at_back : ℕ → Word = λ x. record { base = w.base; back = x } in
    ap at_base e ∙ ap at_back k

pub same_store_is : (s t : Store) → same_store s t ≡ true → s ≡ t
same_store_is s t h =
    let p = and_parts (same s.value t.value) (same_word s.word t.word) h in
    let e : s.value ≡ t.value = same_is s.value t.value p.0 in
    let k : s.word ≡ t.word = same_word_is s.word t.word p.1 in
    let at_value : Symbol → Store = λ x. record { word = s.word; value = x } in
    let at_word : Word → Store = λ x. record { word = x; value = t.value } in
    ap at_value e ∙ ap at_word k

-- ---- a store that takes one of the wanted ones out
pub record Takes (n i : ℕ) (s : Store) (flags : List Bool) (left : List Store) : Type 0 where
  pub k : ℕ
  pub is : s ≡ save_of n (i + k)
  pub flag : get_or flags k false ≡ true
  pub left_is : left ≡ marked_stores n i (set flags k false)

none_is : (t : Store) (left : List Store) → with_store t None ≡ Some left → ⊥
none_is t left h = absurd cc

-- `Some` of a list that keeps its first store
kept_is : (t : Store) (o : Option (List Store)) (left : List Store) → with_store t o ≡ Some left → (rest : List Store) × (o ≡ Some rest) × (left ≡ t ∷ rest)
kept_is t None left h = absurd (none_is t left h)
kept_is t (Some rest) left h = (rest, refl, cc)

pub taken_out : (n i : ℕ) (s : Store) (flags : List Bool) (left : List Store) → without s (marked_stores n i flags) ≡ Some left → Takes n i s flags left
taken_out n i s [] left h = absurd cc
taken_out n i s (false ∷ flags) left h =
    let t : Takes n (i + 1) s flags left = taken_out n (i + 1) s flags left h in
    let e : (i + 1) + t.k ≡ i + suc t.k = omega arith in
    record { k = suc t.k; is = t.is ∙ ap (save_of n) e; flag = t.flag; left_is = t.left_is }
taken_out n i s (true ∷ flags) left h =
    ⊎_elim
    (λ p.
    let e : i ≡ i + 0 = omega arith in
    let first : Some (marked_stores n (i + 1) flags) ≡ Some left = sym (cond-true _ _ _ p) ∙ h in
    record { k = 0; is = same_store_is s (save_of n i) p ∙ ap (save_of n) e; flag = refl; left_is = cc })
    (λ p.
    let later : with_store (save_of n i) (without s (marked_stores n (i + 1) flags)) ≡ Some left = sym (cond-false _ _ _ p) ∙ h in
    let r = kept_is (save_of n i) (without s (marked_stores n (i + 1) flags)) left later in
    let t : Takes n (i + 1) s flags r.0 = taken_out n (i + 1) s flags r.0 r.1 in
    let e : (i + 1) + t.k ≡ i + suc t.k = omega arith in
    record { k = suc t.k; is = t.is ∙ ap (save_of n) e; flag = t.flag; left_is = r.2 ∙ ap (λ ss. save_of n i ∷ ss) t.left_is })
    (cases_Bool (same_store s (save_of n i)))

-- ---- no store is wanted in an underflow
pub none_wanted : (s : Store) (left : List Store) → without s [] ≡ Some left → ⊥
none_wanted s left h = absurd cc

-- ---- the named words
pub data IsNamed (side : Side) (n : ℕ) (w : Word) : Type 0 where
  the_link : 1 < n → w ≡ link_word side n → IsNamed side n w
  a_save : (k : ℕ) → side ≡ Underflow → k < 4 * n → w ≡ save_word Underflow n k → IsNamed side n w

among_saves : (n i count : ℕ) (w : Word) → is_among w (save_words_from n i count) ≡ true → (k : ℕ) × (k < i + count) × (w ≡ save_word Underflow n k)
among_saves n i zero w h = absurd (false≢true h)
among_saves n i (suc count) w h =
    ⊎_elim
    (λ p. (i, omega arith, same_word_is w (save_word Underflow n i) p))
    (λ p. let r = among_saves n (i + 1) count w p in let l : r.0 < (i + 1) + count = r.1 in (r.0, omega arith, r.2))
    (or_cases (same_word w (save_word Underflow n i)) (is_among w (save_words_from n (i + 1) count)) h)

above : (n : ℕ) → 0 < n → (n == 1) ≡ false → 1 < n
above n low h = let ne : n ≢ 1 = λ e. false≢true (sym h ∙ eq-eqb n 1 e) in omega arith

pub named_is : (side : Side) (n : ℕ) (w : Word) → 0 < n → is_among w (named_words side n) ≡ true → IsNamed side n w
named_is Overflow n w low h =
    ⊎_elim
    (λ p. absurd (false≢true (sym (ap (is_among w) (cond-true _ _ _ p)) ∙ h)))
    (λ p.
    let one : is_among w (link_word Overflow n ∷ []) ≡ true = sym (ap (is_among w) (cond-false _ _ _ p)) ∙ h in
    ⊎_elim (λ q. the_link (above n low p) (same_word_is w (link_word Overflow n) q)) (λ q. absurd (false≢true q)) (or_cases (same_word w (link_word Overflow n)) false one))
    (cases_Bool (n == 1))
named_is Underflow n w low h =
    ⊎_elim
    (λ p.
    let r = among_saves n 0 (4 * n) w (sym (ap (is_among w) (cond-true _ _ _ p)) ∙ h) in
    let l : r.0 < 0 + 4 * n = r.1 in
    a_save r.0 refl (omega arith) r.2)
    (λ p.
    let all : is_among w (link_word Underflow n ∷ save_words_from n 0 (4 * n)) ≡ true = sym (ap (is_among w) (cond-false _ _ _ p)) ∙ h in
    ⊎_elim
    (λ q. the_link (above n low p) (same_word_is w (link_word Underflow n) q))
    (λ q. let r = among_saves n 0 (4 * n) w q in let l : r.0 < 0 + 4 * n = r.1 in a_save r.0 refl (omega arith) r.2)
    (or_cases (same_word w (link_word Underflow n)) (is_among w (save_words_from n 0 (4 * n))) all))
    (cases_Bool (n == 1))
