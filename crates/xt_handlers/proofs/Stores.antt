-- Stores that are wanted, as flags of the registers whose saves are left.
use Rattle.std.proofs.Common.{◌≡◌, ◌≢◌, ℕ, zero, suc, ◌+◌, ◌<◌, ◌⊎◌, inl, inr, ⊎_elim, Bool, true, false, ◌==◌, refl, ◌∙◌, ap, arith, List, [], ◌∷◌, length, get_or, set, Some, None}
use Rattle.std.proofs.lemmas.Bool.{eq-eqb, ne_eqb, false≢true, true≢false, and_from, and_left, and_right, cond-true, cond-false}
use Rattle.xt_handlers.specs.Symbols.{Symbol, Init, Load, Word, Store, Effect, same, same_word, same_store}
use Rattle.xt_handlers.specs.Needs.{save_of, save_word, with_store, then_without, without, still_wanted, is_done, has_effect, marked_stores, IsSpoiled}
use Rattle.xt_handlers.specs.declared.stretch.Side.{Side}
use Rattle.xt_handlers.specs.declared.stretch.Side.TheVariants.{Overflow}

-- ---- equality tests
pub same-refl : (a : Symbol) → same a a ≡ true
same-refl (Init i) = eq-eqb i i refl
same-refl (Load a n) = and_from (same a a) (n == n) (same-refl a) (eq-eqb n n refl)

pub same_word-refl : (w : Word) → same_word w w ≡ true
same_word-refl w = and_from _ _ (same-refl w.base) (eq-eqb w.back w.back refl)

pub same_store-refl : (s : Store) → same_store s s ≡ true
same_store-refl s = and_from _ _ (same-refl s.value) (same_word-refl s.word)

pub save_apart : (n i j : ℕ) → i ≢ j → same_store (save_of n i) (save_of n j) ≡ false
save_apart n i j h = and_left (i == j) (same_word (save_word Overflow n i) (save_word Overflow n j)) (ne_eqb i j h)

-- ---- the stores that are still wanted
behind : (s t : Store) (ts : List Store) → same_store s t ≡ false → without s (t ∷ ts) ≡ with_store t (without s ts)
behind s t ts h = cond-false _ _ _ h

pub without_marked : (n i k : ℕ) (flags : List Bool) → get_or flags k false ≡ true → without (save_of n (i + k)) (marked_stores n i flags) ≡ Some (marked_stores n i (set flags k false))
without_marked n i k [] h = absurd (false≢true h)
without_marked n i zero (true ∷ flags) h =
    let e : i + 0 ≡ i = omega arith in
    ap (λ j. without (save_of n j) (save_of n i ∷ marked_stores n (i + 1) flags)) e ∙ cond-true _ _ _ (same_store-refl (save_of n i))
without_marked n i zero (false ∷ flags) h = absurd (false≢true h)
without_marked n i (suc k) (true ∷ flags) h =
    let e : i + suc k ≡ (i + 1) + k = omega arith in
    let ne : i + suc k ≢ i = omega arith in
    behind (save_of n (i + suc k)) (save_of n i) (marked_stores n (i + 1) flags) (save_apart n (i + suc k) i ne)
    ∙ ap (with_store (save_of n i)) (ap (λ j. without (save_of n j) (marked_stores n (i + 1) flags)) e ∙ without_marked n (i + 1) k flags h)
without_marked n i (suc k) (false ∷ flags) h =
    let e : i + suc k ≡ (i + 1) + k = omega arith in
    ap (λ j. without (save_of n j) (marked_stores n (i + 1) flags)) e ∙ without_marked n (i + 1) k flags h

one_on : (n i : ℕ) (s : Store) (flags : List Bool) → ((k : ℕ) → get_or flags k false ≡ true → same_store s (save_of n (i + k)) ≡ false) →
    (k : ℕ) → get_or flags (suc k) false ≡ true → same_store s (save_of n ((i + 1) + k)) ≡ false
one_on n i s flags h k p =
    let e : (i + 1) + k ≡ i + suc k = omega arith in
    ap (λ j. same_store s (save_of n j)) e ∙ h (suc k) p

pub without_none : (n i : ℕ) (s : Store) (flags : List Bool) → ((k : ℕ) → get_or flags k false ≡ true → same_store s (save_of n (i + k)) ≡ false) → without s (marked_stores n i flags) ≡ None
without_none n i s [] h = refl
without_none n i s (true ∷ flags) h =
    let e : i ≡ i + 0 = omega arith in
    let first : same_store s (save_of n i) ≡ false = ap (λ j. same_store s (save_of n j)) e ∙ h 0 refl in
    behind s (save_of n i) (marked_stores n (i + 1) flags) first ∙ ap (with_store (save_of n i)) (without_none n (i + 1) s flags (one_on n i s (true ∷ flags) h))
without_none n i s (false ∷ flags) h = without_none n (i + 1) s flags (one_on n i s (false ∷ flags) h)

-- ---- the saves that are left
pub nothing_left : (stores : List Store) → (still_wanted stores [] ≡ None) ⊎ (still_wanted stores [] ≡ Some [])
nothing_left [] = inr refl
nothing_left (s ∷ older) = ⊎_elim (λ h. inl (ap (then_without s) h)) (λ h. inl (ap (then_without s) h)) (nothing_left older)

pub never : (stores : List Store) (s : Store) → still_wanted (s ∷ stores) [] ≡ None
never stores s = ⊎_elim (λ h. ap (then_without s) h) (λ h. ap (then_without s) h) (nothing_left stores)

pub none_marked : (n i : ℕ) (flags : List Bool) → ((k : ℕ) → k < length flags → get_or flags k false ≡ false) → is_done (Some (marked_stores n i flags)) ≡ true
none_marked n i [] h = refl
none_marked n i (true ∷ flags) h = absurd (true≢false (h 0 (omega arith)))
none_marked n i (false ∷ flags) h = none_marked n (i + 1) flags (λ k l. h (suc k) (omega arith))

pub some_marked : (n i k : ℕ) (flags : List Bool) → k < length flags → get_or flags k false ≡ true → is_done (Some (marked_stores n i flags)) ≡ false
some_marked n i k [] l h = absurd (omega arith)
some_marked n i k (true ∷ flags) l h = refl
some_marked n i zero (false ∷ flags) l h = absurd (false≢true h)
some_marked n i (suc k) (false ∷ flags) l h = some_marked n (i + 1) k flags (omega arith) h

-- ---- the end
pub spoiled_end : (side : Side) (n : ℕ) (e : Effect) → IsSpoiled side n e → has_effect side n e ≡ false
unfolding has_effect
spoiled_end side n e (inl h) = and_left _ _ (ap is_done h)
spoiled_end side n e (inr h) = and_right _ _ (and_left _ _ h)
