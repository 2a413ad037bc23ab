-- What the ring holds once a front is written back: its registers at their places, and a write to one of them.
use Rattle.std.proofs.Common.{◌≡◌, ◌≢◌, ℕ, zero, suc, ◌<◌, ◌≤◌, List, length, slice_index, slice_set, refl, sym, ap, ◌∙◌, ⊎_elim, arith}
use Rattle.std.proofs.lemmas.Bool.{cases_eq}
use Rattle.std.proofs.lemmas.List.{length-set, get_or-set_same, get_or-set_other, set-set, set_comm, set-get_or}
use Rattle.xt_window.specs.Ring.{place}
use Rattle.xt_window.specs.FrontAndRing.{written_back}

-- two registers of a front have two places
apart : (w i j : ℕ) → i < 16 → j < 16 → i ≢ j → place w i ≢ place w j
apart w i j a b ne e = ne (omega arith)

length_back : (ring front : List ℕ) (w n : ℕ) → length (written_back ring front w n) ≡ length ring
unfolding written_back
length_back ring front w zero = refl
length_back ring front w (suc n) = length-set (written_back ring front w n) (place w n) (slice_index front n) ∙ length_back ring front w n

-- a register of the front stands at its place
pub back_at : (ring front : List ℕ) (w n i : ℕ) → length ring ≡ 64 → i < n → n ≤ 16 → slice_index (written_back ring front w n) (place w i) ≡ slice_index front i
unfolding written_back
back_at ring front w zero i size low high = absurd (omega arith)
back_at ring front w (suc n) i size low high =
    let now = written_back ring front w n in
    ⊎_elim
    (λ (e : i ≡ n). let len = length_back ring front w n in
    ap (λ k. slice_index (slice_set now (place w n) (slice_index front n)) (place w k)) e
    ∙ get_or-set_same now (place w n) (slice_index front n) 0 (omega (arith, len))
    ∙ ap (λ k. slice_index front k) (sym e))
    (λ (ne : i ≢ n). get_or-set_other now (place w n) (place w i) (slice_index front n) 0 (apart w i n (omega arith) (omega arith) ne)
    ∙ back_at ring front w n i size (omega arith) (omega arith))
    (cases_eq i n)

-- a register after the first n plays no part
back_before : (ring front : List ℕ) (w n i v : ℕ) → n ≤ i → written_back ring (slice_set front i v) w n ≡ written_back ring front w n
unfolding written_back
back_before ring front w zero i v low = refl
back_before ring front w (suc n) i v low =
    ap (λ xs. slice_set xs (place w n) (slice_index (slice_set front i v) n)) (back_before ring front w n i v (omega arith))
    ∙ ap (λ x. slice_set (written_back ring front w n) (place w n) x) (get_or-set_other front i n v 0 (λ (e : n ≡ i). absurd (omega arith)))

-- a write to the front is one to the register's place
pub back_set : (ring front : List ℕ) (w n i v : ℕ) → length front ≡ 16 → i < n → n ≤ 16
    → written_back ring (slice_set front i v) w n ≡ slice_set (written_back ring front w n) (place w i) v
unfolding written_back
back_set ring front w zero i v size low high = absurd (omega arith)
back_set ring front w (suc n) i v size low high =
    let now = written_back ring front w n in
    ⊎_elim
    (λ (e : i ≡ n).
    ap (λ xs. slice_set xs (place w n) (slice_index (slice_set front i v) n)) (back_before ring front w n i v (omega arith))
    ∙ ap (λ x. slice_set now (place w n) x) (ap (λ k. slice_index (slice_set front k v) n) e ∙ get_or-set_same front n v 0 (omega arith))
    ∙ sym (set-set now (place w n) (slice_index front n) v)
    ∙ ap (λ k. slice_set (slice_set now (place w n) (slice_index front n)) (place w k) v) (sym e))
    (λ (ne : i ≢ n).
    ap (λ xs. slice_set xs (place w n) (slice_index (slice_set front i v) n)) (back_set ring front w n i v size (omega arith) (omega arith))
    ∙ ap (λ x. slice_set (slice_set now (place w i) v) (place w n) x) (get_or-set_other front i n v 0 (λ (e : n ≡ i). ne (sym e)))
    ∙ set_comm now (place w i) (place w n) v (slice_index front n) (apart w i n (omega arith) (omega arith) ne))
    (cases_eq i n)

-- a front that holds what the ring has changes nothing
pub back_same : (ring front : List ℕ) (w n : ℕ) → ((i : ℕ) → i < n → slice_index front i ≡ slice_index ring (place w i)) → written_back ring front w n ≡ ring
unfolding written_back
back_same ring front w zero same = refl
back_same ring front w (suc n) same =
    let before = back_same ring front w n (λ i h. same i (omega arith)) in
    ap (λ xs. slice_set xs (place w n) (slice_index front n)) before
    ∙ ap (λ x. slice_set ring (place w n) x) (same n (omega arith))
    ∙ set-get_or ring (place w n) 0
