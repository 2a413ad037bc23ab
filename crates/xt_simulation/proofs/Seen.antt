-- Registers of which some have a number, and the words that fit them: a write, a number that is filled in, a call and a return.
use Rattle.std.specs.Prelude.{unwrap_or, bit_and}
use Rattle.std.proofs.Common.{◌≡◌, ℕ, ◌+◌, ◌-◌, ◌*◌, ◌<◌, ◌≤◌, ◌≢◌, ◌⊎◌, List, ◌++◌, Option, Some, None, sym, ap, ◌∙◌, arith, ⊎_elim, length, get_or, take, drop, replicate}
use Rattle.std.proofs.Math.ListN.{set}
use Rattle.std.proofs.lemmas.Bool.{cases_eq, cases_lt}
use Rattle.std.proofs.lemmas.List.{get_or-set_same, get_or-set_other, length-set, get_or_past, length-append, length-take, length-drop, length-replicate, get_or-take, get_or-drop, get_or_append_left, get_or-append_right, get_or-replicate}
use Rattle.std.proofs.lemmas.Nat.{and_assoc}
use Rattle.std.specs.Int.Bits.{and_self, and_zero_r}
use Rattle.xt_frames.specs.Frames.{value_or_zero, seen_after_call}
use Rattle.xt_uses.specs.Words.{masked}
use Rattle.xt_simulation.specs.Knowing.{SeenFit}

pub cut_zero : (n : ℕ) → masked 0 n ≡ 0
cut_zero n = and_zero_r n

pub cut_twice : (mask n : ℕ) → masked mask (masked mask n) ≡ masked mask n
cut_twice mask n = and_assoc mask n mask ∙ ap (bit_and n) (and_self mask)

-- ---- the value of a register
abbrev value : Option ℕ → ℕ
value o = unwrap_or o 0

pub known_same : (xs : List (Option ℕ)) (r : ℕ) (o : Option ℕ) → r < length xs → value_or_zero (set xs r o) r ≡ value o
known_same xs r o within = ap value (get_or-set_same xs r o None within)

pub known_other : (xs : List (Option ℕ)) (r i : ℕ) (o : Option ℕ) → i ≢ r → value_or_zero (set xs r o) i ≡ value_or_zero xs i
known_other xs r i o other = ap value (get_or-set_other xs r i o None other)

-- one register, and its mask, are exchanged
pub set_fits : {n : ℕ} {masks : List ℕ} {xs ys : List (Option ℕ)} → SeenFit n masks xs ys → (r mask : ℕ) (o p : Option ℕ) → r < n → masked mask (value o) ≡ value p → (o ≡ None → mask ≡ 0)
    → SeenFit n (set masks r mask) (set xs r o) (set ys r p)
set_fits {n = n} {masks = masks} {xs = xs} {ys = ys} s r mask o p within fits lacks =
    let size = s.size in
    let wide = s.wide in
    let spread = s.spread in
    record {
      size = length-set xs r o ∙ size;
      wide = length-set ys r p ∙ wide;
      spread = length-set masks r mask ∙ spread;
      fits = λ i. ⊎_elim
          (λ same.
          let a : value_or_zero (set xs r o) r ≡ value o = known_same xs r o (omega arith) in
          let b : value_or_zero (set ys r p) r ≡ value p = known_same ys r p (omega arith) in
          let c : get_or (set masks r mask) r 0 ≡ mask = get_or-set_same masks r mask 0 (omega arith) in
          rw same (rw (a, b, c) fits))
          (λ other.
          let a = known_other xs r i o other in
          let b = known_other ys r i p other in
          let c = get_or-set_other masks r i mask 0 other in
          rw (a, b, c) (s.fits i))
          (cases_eq i r);
      lacks = λ i e. ⊎_elim
          (λ same.
          let a : get_or (set xs r o) r None ≡ o = get_or-set_same xs r o None (omega arith) in
          let c : get_or (set masks r mask) r 0 ≡ mask = get_or-set_same masks r mask 0 (omega arith) in
          let e2 : get_or (set xs r o) r None ≡ None = rw same at e in
          rw same (c ∙ lacks (sym a ∙ e2)))
          (λ other. get_or-set_other masks r i mask 0 other ∙ s.lacks i (sym (get_or-set_other xs r i o None other) ∙ e))
          (cases_eq i r);
    }

-- a register that has no number receives one
module _ {n : ℕ} {masks : List ℕ} {xs ys : List (Option ℕ)} (s : SeenFit n masks xs ys) (r v : ℕ) (within : r < n) (before : (get_or xs r None ≡ None) ⊎ (get_or xs r None ≡ Some v)) where
  here : value_or_zero (set xs r (Some v)) r ≡ v
  here = known_same xs r (Some v) (let size = s.size in omega arith)

  at_fill : masked (get_or masks r 0) v ≡ value_or_zero ys r
  at_fill = ⊎_elim
      (λ none.
      let m : get_or masks r 0 ≡ 0 = s.lacks r none in
      let f : masked (get_or masks r 0) (value_or_zero xs r) ≡ value_or_zero ys r = s.fits r in
      let g : masked 0 (value_or_zero xs r) ≡ value_or_zero ys r = rw m at f in
      rw m (cut_zero v ∙ sym (cut_zero (value_or_zero xs r)) ∙ g))
      (λ some. let k : value_or_zero xs r ≡ v = ap value some in let f : masked (get_or masks r 0) (value_or_zero xs r) ≡ value_or_zero ys r = s.fits r in rw k at f)
      before

  pub filled : SeenFit n masks (set xs r (Some v)) ys
  filled = record {
    size = length-set xs r (Some v) ∙ s.size;
    wide = s.wide;
    spread = s.spread;
    fits = λ i. ⊎_elim
        (λ same. rw same (ap (masked (get_or masks r 0)) here ∙ at_fill))
        (λ other. let a = known_other xs r i (Some v) other in rw a (s.fits i))
        (cases_eq i r);
    lacks = λ i e. ⊎_elim
        (λ same.
        let a : get_or (set xs r (Some v)) r None ≡ Some v = get_or-set_same xs r (Some v) None (let size = s.size in omega arith) in
        let e2 : get_or (set xs r (Some v)) r None ≡ None = rw same at e in
        absurd cc)
        (λ other. s.lacks i (sym (get_or-set_other xs r i (Some v) None other) ∙ e))
        (cases_eq i r);
  }

-- ---- parts of lists
pub fits_at : {m k : ℕ} {o p q r : Option ℕ} → o ≡ q → p ≡ r → m ≡ k → masked k (value q) ≡ value r → masked m (value o) ≡ value p
fits_at {m = m} {q = q} e f g h = ap (λ (x : Option ℕ). masked m (value x)) e ∙ (ap (λ z. masked z (value q)) g ∙ (h ∙ sym (ap value f)))

pub take_low : {X : Type 0} (n : ℕ) (xs : List X) (i : ℕ) (d : X) → i < n → get_or (take n xs) i d ≡ get_or xs i d
take_low n xs i d h = get_or-take n xs i d h

pub take_high : {X : Type 0} (n : ℕ) (xs : List X) (i : ℕ) (d : X) → n ≤ i → get_or (take n xs) i d ≡ d
take_high n xs i d h = get_or_past (take n xs) i d (let l = length-take n xs in omega arith)

pub join_low : {X : Type 0} (xs ys : List X) (k i : ℕ) (d : X) → length xs ≡ k → i < k → get_or (xs ++ ys) i d ≡ get_or xs i d
join_low xs ys k i d l h = get_or_append_left xs ys d i (omega arith)

pub join_high : {X : Type 0} (xs ys : List X) (k i : ℕ) (d : X) → length xs ≡ k → k ≤ i → get_or (xs ++ ys) i d ≡ get_or ys (i - k) d
join_high xs ys k i d l h = get_or-append_right xs ys k i d l h

pub blank : {X : Type 0} (n i : ℕ) (d : X) → get_or (replicate n d) i d ≡ d
blank n i d = ⊎_elim (λ h. get_or-replicate n i d d h) (λ h. get_or_past (replicate n d) i d (let l = length-replicate n d in omega arith)) (cases_lt i n)

-- ---- a call: the first registers are kept
module _ {masks : List ℕ} {xs ys : List (Option ℕ)} (s : SeenFit 16 masks xs ys) (n : ℕ) (within : n ≤ 3) where
  pub kept_fits : SeenFit (4 * n) (take (4 * n) masks) (take (4 * n) xs) (take (4 * n) ys)
  kept_fits =
      let size = s.size in
      let wide = s.wide in
      let spread = s.spread in
      let a = length-take (4 * n) xs in
      let b = length-take (4 * n) ys in
      let c = length-take (4 * n) masks in
      record {
        size = (let l : length (take (4 * n) xs) ≡ 4 * n = omega arith in l);
        wide = (let l : length (take (4 * n) ys) ≡ 4 * n = omega arith in l);
        spread = (let l : length (take (4 * n) masks) ≡ 4 * n = omega arith in l);
        fits = λ i. ⊎_elim
            (λ low.
            let p = take_low (4 * n) xs i None low in
            let q = take_low (4 * n) ys i None low in
            let r = take_low (4 * n) masks i 0 low in
            fits_at p q r (s.fits i))
            (λ high.
            let p = take_high (4 * n) xs i None high in
            let q = take_high (4 * n) ys i None high in
            let r = take_high (4 * n) masks i 0 high in
            fits_at p q r (cut_zero 0))
            (cases_lt i (4 * n));
        lacks = λ i e. ⊎_elim
            (λ low. take_low (4 * n) masks i 0 low ∙ s.lacks i (sym (take_low (4 * n) xs i None low) ∙ e))
            (λ high. take_high (4 * n) masks i 0 high)
            (cases_lt i (4 * n));
      }

  -- those behind come first, and then registers without a number
  moved_low : {X : Type 0} (zs : List X) (i : ℕ) (d : X) → length zs ≡ 16 → i < 16 - 4 * n → get_or (drop (4 * n) zs ++ replicate (4 * n) d) i d ≡ get_or zs (4 * n + i) d
  moved_low zs i d l h = let e = length-drop (4 * n) zs in join_low (drop (4 * n) zs) (replicate (4 * n) d) (16 - 4 * n) i d (omega arith) h ∙ get_or-drop (4 * n) zs i d

  moved_high : {X : Type 0} (zs : List X) (i : ℕ) (d : X) → length zs ≡ 16 → 16 - 4 * n ≤ i → get_or (drop (4 * n) zs ++ replicate (4 * n) d) i d ≡ d
  moved_high zs i d l h = let e = length-drop (4 * n) zs in join_high (drop (4 * n) zs) (replicate (4 * n) d) (16 - 4 * n) i d (omega arith) h ∙ blank (4 * n) (i - (16 - 4 * n)) d

  moved_length : {X : Type 0} (zs : List X) (d : X) → length zs ≡ 16 → length (drop (4 * n) zs ++ replicate (4 * n) d) ≡ 16
  moved_length zs d l =
      let e = length-drop (4 * n) zs in
      let r = length-replicate (4 * n) d in
      let a = length-append (drop (4 * n) zs) (replicate (4 * n) d) in
      omega arith

  pub called_fits : SeenFit 16 (drop (4 * n) masks ++ replicate (4 * n) 0) (seen_after_call xs n) (seen_after_call ys n)
  called_fits = record {
    size = moved_length xs None s.size;
    wide = moved_length ys None s.wide;
    spread = moved_length masks 0 s.spread;
    fits = λ i. ⊎_elim
        (λ low.
        let p = moved_low xs i None s.size low in
        let q = moved_low ys i None s.wide low in
        let r = moved_low masks i 0 s.spread low in
        fits_at p q r (s.fits (4 * n + i)))
        (λ high.
        let p = moved_high xs i None s.size high in
        let q = moved_high ys i None s.wide high in
        let r = moved_high masks i 0 s.spread high in
        fits_at p q r (cut_zero 0))
        (cases_lt i (16 - 4 * n));
    lacks = λ i e. ⊎_elim
        (λ low. moved_low masks i 0 s.spread low ∙ s.lacks (4 * n + i) (sym (moved_low xs i None s.size low) ∙ e))
        (λ high. moved_high masks i 0 s.spread high)
        (cases_lt i (16 - 4 * n));
  }

-- ---- a return: the kept registers come back
module _ {n : ℕ} {kept masks : List ℕ} {olds news xs ys : List (Option ℕ)} (k : SeenFit (4 * n) kept olds news) (s : SeenFit 16 masks xs ys) (within : n ≤ 3) where
  back_low : {X : Type 0} (zs ws : List X) (i : ℕ) (d : X) → length zs ≡ 4 * n → i < 4 * n → get_or (zs ++ take (16 - 4 * n) ws) i d ≡ get_or zs i d
  back_low zs ws i d l h = join_low zs (take (16 - 4 * n) ws) (4 * n) i d l h

  back_mid : {X : Type 0} (zs ws : List X) (i : ℕ) (d : X) → length zs ≡ 4 * n → 4 * n ≤ i → i < 16 → get_or (zs ++ take (16 - 4 * n) ws) i d ≡ get_or ws (i - 4 * n) d
  back_mid zs ws i d l h m = join_high zs (take (16 - 4 * n) ws) (4 * n) i d l h ∙ take_low (16 - 4 * n) ws (i - 4 * n) d (omega arith)

  back_high : {X : Type 0} (zs ws : List X) (i : ℕ) (d : X) → length zs ≡ 4 * n → 16 ≤ i → get_or (zs ++ take (16 - 4 * n) ws) i d ≡ d
  back_high zs ws i d l m = join_high zs (take (16 - 4 * n) ws) (4 * n) i d l (omega arith) ∙ take_high (16 - 4 * n) ws (i - 4 * n) d (omega arith)

  back_length : {X : Type 0} (zs ws : List X) → length zs ≡ 4 * n → length ws ≡ 16 → length (zs ++ take (16 - 4 * n) ws) ≡ 16
  back_length zs ws l m =
      let t = length-take (16 - 4 * n) ws in
      let a = length-append zs (take (16 - 4 * n) ws) in
      omega arith

  pub returned_fits : SeenFit 16 (kept ++ take (16 - 4 * n) masks) (olds ++ take (16 - 4 * n) xs) (news ++ take (16 - 4 * n) ys)
  returned_fits = record {
    size = back_length olds xs k.size s.size;
    wide = back_length news ys k.wide s.wide;
    spread = back_length kept masks k.spread s.spread;
    fits = λ i. ⊎_elim
        (λ low.
        let p = back_low olds xs i None k.size low in
        let q = back_low news ys i None k.wide low in
        let r = back_low kept masks i 0 k.spread low in
        fits_at p q r (k.fits i))
        (λ high. ⊎_elim
        (λ mid.
        let p = back_mid olds xs i None k.size high mid in
        let q = back_mid news ys i None k.wide high mid in
        let r = back_mid kept masks i 0 k.spread high mid in
        fits_at p q r (s.fits (i - 4 * n)))
        (λ past.
        let p = back_high olds xs i None k.size past in
        let q = back_high news ys i None k.wide past in
        let r = back_high kept masks i 0 k.spread past in
        fits_at p q r (cut_zero 0))
        (cases_lt i 16))
        (cases_lt i (4 * n));
    lacks = λ i e. ⊎_elim
        (λ low. back_low kept masks i 0 k.spread low ∙ k.lacks i (sym (back_low olds xs i None k.size low) ∙ e))
        (λ high. ⊎_elim
        (λ mid. back_mid kept masks i 0 k.spread high mid ∙ s.lacks (i - 4 * n) (sym (back_mid olds xs i None k.size high mid) ∙ e))
        (λ past. back_high kept masks i 0 k.spread past)
        (cases_lt i 16))
        (cases_lt i (4 * n));
  }
