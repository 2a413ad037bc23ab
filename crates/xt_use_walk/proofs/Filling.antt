-- So many masks in a row are cleared at once.
use Rattle.std.proofs.Common.{◌≡◌, ⊎_elim, ℕ, zero, suc, ◌+◌, ◌-◌, ◌<◌, ◌≤◌, Bool, true, false, cond, List, ◌++◌, length, get_or, take, drop, replicate, refl, sym, ◌∙◌, ap, arith}
use Rattle.std.proofs.lemmas.Bool.{true≢false, cases_lt, cond-true, cond-false}
use Rattle.std.proofs.lemmas.Bool.Decides.{nat_tests}
use Rattle.std.proofs.lemmas.List.{get_or-append_right, get_or-drop, get_or-replicate, get_or-take, get_or_append_left, length-append, length-drop, length-replicate, length-take-le, take-append-le}
use Rattle.std.proofs.Math.Seq.{take-length}
use Rattle.xt_map.specs.Touching.{touches}
use Rattle.xt_use_walk.specs.MaskedBytes.{AreBytes, is_byte, place}
use Rattle.xt_use_walk.proofs.Places.{next_place, place_small, same_place}

-- ---- the places of bytes in a row
place_on : (from size k : ℕ) → AreBytes from size → k < size → place (from + k) ≡ place from + k
place_on from size zero b h =
    let e : from + 0 ≡ from = omega arith in
    let p = ap place e in
    omega (arith, p)
place_on from size (suc k) b h =
    let p = place_on from size k b (omega (arith, h)) in
    let n = next_place (from + k) (b (from + k) (omega arith) (omega (arith, h))) (b (from + k + 1) (omega arith) (omega (arith, h))) in
    let e : from + suc k ≡ from + k + 1 = omega arith in
    let q = ap place e in
    omega (arith, p, n, q)

in_row : (from size a : ℕ) → AreBytes from size → is_byte a ≡ true → place from ≤ place a → place a < place from + size → touches from size a ≡ true
in_row from size a b h low high =
    let k = place a - place from in
    let p = place_on from size k b (omega (arith, low, high)) in
    let same : a ≡ from + k = same_place a (from + k) h (b (from + k) (omega arith) (omega (arith, low, high))) (omega (arith, p, low)) in
    touched from size k a same (omega (arith, low, high))
  where
    touched : (from size k a : ℕ) → a ≡ from + k → k < size → touches from size a ≡ true
    touched from size k a e l = grind (arith, nat_tests)

out_of_row : (from size a : ℕ) → AreBytes from size → touches from size a ≡ true → (place from ≤ place a) × (place a < place from + size)
out_of_row from size a b t =
    let i = inside_row from size a t in
    let k = a - from in
    let low = i.0 in
    let high = i.1 in
    let p = place_on from size k b (omega (arith, low, high)) in
    let e : from + k ≡ a = omega (arith, low) in
    let q = ap place e in
    (omega (arith, p, q), omega (arith, p, q, low, high))
  where
    inside_row : (from size a : ℕ) → touches from size a ≡ true → (from ≤ a) × (a < from + size)
    inside_row from size a t = (grind (arith, nat_tests), grind (arith, nat_tests))

-- ---- a list with zeros in its middle
abbrev pub with_zeros : ℕ → ℕ → List ℕ → List ℕ
with_zeros a n xs = take a xs ++ (replicate n 0 ++ drop n (drop a xs))

low_at : (a n j : ℕ) (xs : List ℕ) → j < a → a ≤ length xs → get_or (with_zeros a n xs) j 0 ≡ get_or xs j 0
low_at a n j xs h l =
    let t = length-take-le a xs l in
    get_or_append_left (take a xs) (replicate n 0 ++ drop n (drop a xs)) 0 j (omega (arith, t, h)) ∙ get_or-take a xs j 0 h

past_at : (a n j : ℕ) (xs : List ℕ) → a ≤ j → a ≤ length xs → get_or (with_zeros a n xs) j 0 ≡ get_or (replicate n 0 ++ drop n (drop a xs)) (j - a) 0
past_at a n j xs h l = get_or-append_right (take a xs) (replicate n 0 ++ drop n (drop a xs)) a j 0 (length-take-le a xs l) h

zero_at : (a n j : ℕ) (xs : List ℕ) → a ≤ j → j < a + n → a ≤ length xs → get_or (with_zeros a n xs) j 0 ≡ 0
zero_at a n j xs h u l =
    let t : length (replicate n 0) ≡ n = length-replicate {A = ℕ} n 0 in
    past_at a n j xs h l ∙ (get_or_append_left (replicate n 0) (drop n (drop a xs)) 0 (j - a) (omega (arith, t, h, u)) ∙ get_or-replicate n (j - a) 0 0 (omega (arith, h, u)))

high_at : (a n j : ℕ) (xs : List ℕ) → a + n ≤ j → a ≤ length xs → get_or (with_zeros a n xs) j 0 ≡ get_or xs j 0
high_at a n j xs h l =
    let i : a + (n + ((j - a) - n)) ≡ j = omega (arith, h) in
    past_at a n j xs (omega (arith, h)) l
    ∙ (get_or-append_right (replicate n 0) (drop n (drop a xs)) n (j - a) 0 (length-replicate n 0) (omega (arith, h))
    ∙ (get_or-drop n (drop a xs) ((j - a) - n) 0
    ∙ (get_or-drop a xs (n + ((j - a) - n)) 0 ∙ ap (λ k. get_or xs k 0) i)))

-- as they are written over a part of the list
zeros_are : (a k n : ℕ) (xs ys : List ℕ) → k ≡ n → a + n ≤ length xs → ys ≡ replicate (length (take k (drop a xs))) 0 → take a xs ++ (ys ++ drop k (drop a xs)) ≡ with_zeros a n xs
zeros_are a k n xs ys e l z =
    let d = length-drop a xs in
    let len : length (take k (drop a xs)) ≡ n = length-take-le k (drop a xs) (omega (arith, e, l, d)) ∙ e in
    let zeros : ys ≡ replicate n 0 = z ∙ ap (λ m. replicate m 0) len in
    λ i. take a xs ++ (zeros i ++ drop (e i) (drop a xs))

zeros_long : (a n : ℕ) (xs : List ℕ) → a + n ≤ length xs → length (with_zeros a n xs) ≡ length xs
zeros_long a n xs l =
    let t = length-take-le a xs (omega (arith, l)) in
    let r : length (replicate n 0) ≡ n = length-replicate {A = ℕ} n 0 in
    let d = length-drop a xs in
    let f = length-drop n (drop a xs) in
    let p = length-append (take a xs) (replicate n 0 ++ drop n (drop a xs)) in
    let q = length-append (replicate n 0) (drop n (drop a xs)) in
    omega (arith, l, t, r, d, f, p, q)

-- and put back into it
put_back : (ws xs : List ℕ) (n : ℕ) → length ws ≡ length xs → n ≡ length xs → take n (ws ++ drop (length ws) xs) ≡ ws
put_back ws xs n e m =
    ap (λ k. take k (ws ++ drop (length ws) xs)) (m ∙ sym e) ∙ (take-append-le (length ws) ws (drop (length ws) xs) (omega arith) ∙ take-length ws)

pub row_end : (from size : ℕ) → 0 < size → AreBytes from size → place from + size ≤ 0x56000
row_end from size some b =
    let last : (size - 1) < size = omega (arith, some) in
    let p = place_on from size (size - 1) b last in
    let s = place_small (from + (size - 1)) (b (from + (size - 1)) (omega arith) (omega (arith, some))) in
    omega (arith, p, s, some)

pub row_forgotten : (from size a : ℕ) (xs : List ℕ) → 0 < size → length xs ≡ 0x56000 → AreBytes from size → is_byte a ≡ true
    → get_or (with_zeros (place from) size xs) (place a) 0 ≡ cond (touches from size a) 0 (get_or xs (place a) 0)
row_forgotten from size a xs some full b h = by (touches from size a) refl
  where
    room : place from ≤ length xs
    room = let s = place_small from (b from (omega arith) (omega (arith, some))) in omega (arith, s, full)

    beyond : place from ≤ place a → touches from size a ≡ false → place from + size ≤ place a
    beyond low e = ⊎_elim
        (λ less. absurd (true≢false (sym (in_row from size a b h low less) ∙ e)))
        (λ no. omega (arith, no))
        (cases_lt (place a) (place from + size))

    by : (t : Bool) → touches from size a ≡ t → get_or (with_zeros (place from) size xs) (place a) 0 ≡ cond (touches from size a) 0 (get_or xs (place a) 0)
    by true e = let o = out_of_row from size a b e in zero_at (place from) size (place a) xs o.0 o.1 room ∙ sym (cond-true (touches from size a) 0 _ e)
    by false e = ⊎_elim
        (λ low. low_at (place from) size (place a) xs low room ∙ sym (cond-false (touches from size a) 0 _ e))
        (λ no. high_at (place from) size (place a) xs (beyond (omega (arith, no)) e) room ∙ sym (cond-false (touches from size a) 0 _ e))
        (cases_lt (place a) (place from))

pub row_cleared : (from size p n a : ℕ) (xs now ys : List ℕ) → 0 < size → length xs ≡ 0x56000 → n ≡ length xs → AreBytes from size → is_byte a ≡ true
    → now ≡ xs → p ≡ place from → ys ≡ replicate (length (take (p + size - p) (drop p now))) 0
    → get_or (take n ((take p now ++ (ys ++ drop (p + size - p) (drop p now))) ++ drop (length (take p now ++ (ys ++ drop (p + size - p) (drop p now)))) xs)) (place a) 0 ≡ cond (touches from size a) 0 (get_or xs (place a) 0)
row_cleared from size p n a xs now ys some full m b h same at z =
    let room : p + size ≤ length now = let r = row_end from size some b in let l = ap (λ (v : List ℕ). length v) same in omega (arith, r, l, at, full) in
    let k : p + size - p ≡ size = omega arith in
    let put : take p now ++ (ys ++ drop (p + size - p) (drop p now)) ≡ with_zeros (place from) size xs =
    zeros_are p (p + size - p) size now ys k room z ∙ (λ i. with_zeros (at i) size (same i)) in
    let long : place from + size ≤ length xs = let r = row_end from size some b in omega (arith, r, full) in
    ap (λ (ws : List ℕ). get_or (take n (ws ++ drop (length ws) xs)) (place a) 0) put
    ∙ (ap (λ (ws : List ℕ). get_or ws (place a) 0) (put_back (with_zeros (place from) size xs) xs n (zeros_long (place from) size xs long) m)
    ∙ row_forgotten from size a xs some full b h)
