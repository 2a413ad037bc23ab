-- The tables past one more entry.
use Rattle.std.proofs.Common.{◌≡◌, ◌≢◌, ℕ, zero, suc, ◌+◌, ◌-◌, ◌/◌, ◌%◌, ◌<◌, ◌≤◌, Bool, true, false, ◌&&◌, ◌||◌, cond, eqb, Option, Some, None, List, [], ◌∷◌, ◌++◌, length, replicate, take, get_or, refl, sym, ap, ◌∙◌, inl, inr, arith, get_or-set_other, get_or-set_same}
use Rattle.std.proofs.lemmas.Bool.{true≢false, and_from, and_left, and_parts, and_right, cases_Bool, cases_eq, cond-false, cond-true, eq-eqb, leb-true, ne_eqb}
use Rattle.std.proofs.lemmas.Bool.Decides.{nat_tests}
use Rattle.std.specs.Prelude.{slice_set}
use Rattle.xt_map.specs.declared.regions.Region.{Region}
use Rattle.xt_map.specs.declared.regions.Region.TheVariants.{Drom, Uart, RtcFastData, Dram, Iram, RtcFastCode, Irom, RtcSlow}
use Rattle.xt_map.specs.Regions.{region_of, is_memory}
use Rattle.xt_map.specs.Touching.{touches}
use Rattle.xt_map.proofs.Ranged.{dram_range, rtc_fast_data_range, rtc_slow_range, range_dram, range_rtc_fast_data, range_rtc_slow}
use Rattle.xt_race.specs.declared.latest.Mark.{Mark}
use Rattle.xt_race.specs.declared.latest.Note.{Note}
use Rattle.xt_race.specs.declared.marks.Marks.{Marks}
use Rattle.xt_race.specs.Tables.{IsNoted, mark_at, mark_in, no_mark, mark_after_note, place_of, within, some_byte}

-- ---- places

pub place_one : (a b p : ℕ) → place_of a ≡ Some p → place_of b ≡ Some p → a ≡ b
unfolding place_of
place_one a b p h g = grind (arith, nat_tests)

pub in_memory : (a p : ℕ) → place_of a ≡ Some p → is_memory (region_of a) ≡ true
unfolding place_of
in_memory a p h =
    let f : Bool = within 0x3FF80000 0x3FF81FFF a in
    let d : Bool = within 0x3FFAE000 0x3FFFFFFF a in
    let s : Bool = within 0x50000000 0x50001FFF a in
    elim (cases_Bool f) [
      | inl y ↦ (let q = and_parts _ _ y in ap is_memory (range_rtc_fast_data a (leb-true _ _ q.0) (leb-true _ _ q.1)))
      | inr n ↦ elim (cases_Bool d) [
        | inl y ↦ (let q = and_parts _ _ y in ap is_memory (range_dram a (leb-true _ _ q.0) (leb-true _ _ q.1)))
        | inr m ↦ elim (cases_Bool s) [
          | inl y ↦ (let q = and_parts _ _ y in ap is_memory (range_rtc_slow a (leb-true _ _ q.0) (leb-true _ _ q.1)))
          | inr k ↦ grind (arith)
        ]
      ]
    ]

apart : (a : ℕ) → place_of a ≡ None → (0x3FF80000 ≤ a → a ≤ 0x3FF81FFF → ⊥) × (0x3FFAE000 ≤ a → a ≤ 0x3FFFFFFF → ⊥) × (0x50000000 ≤ a → a ≤ 0x50001FFF → ⊥)
unfolding place_of
apart a h = (λ x y. grind (arith, nat_tests), λ x y. grind (arith, nat_tests), λ x y. grind (arith, nat_tests))

no_memory : (a : ℕ) → place_of a ≡ None → (o : Option Region) → region_of a ≡ o → is_memory o ≡ false
no_memory a h None e = refl
no_memory a h (Some Drom) e = refl
no_memory a h (Some Uart) e = refl
no_memory a h (Some RtcFastData) e = let r = rtc_fast_data_range a e in absurd ((apart a h).0 r.0 r.1)
no_memory a h (Some Dram) e = let r = dram_range a e in absurd ((apart a h).1 r.0 r.1)
no_memory a h (Some Iram) e = refl
no_memory a h (Some RtcFastCode) e = refl
no_memory a h (Some Irom) e = refl
no_memory a h (Some RtcSlow) e = let r = rtc_slow_range a e in absurd ((apart a h).2 r.0 r.1)

pub out_of_memory : (a : ℕ) → place_of a ≡ None → is_memory (region_of a) ≡ false
out_of_memory a h = no_memory a h (region_of a) refl

-- ---- a byte

abbrev pub empty : List Mark
empty = []

blank : (n p : ℕ) → get_or (replicate n empty) p empty ≡ empty
blank zero p = refl
blank (suc n) zero = refl
blank (suc n) (suc p) = blank n p

pub none_marked : (pages : List (List Mark)) (n : ℕ) → pages ≡ replicate n empty → (o : Option ℕ) → mark_in pages o ≡ no_mark
none_marked pages n e None = refl
none_marked pages n e (Some p) =
    ap (λ (l : List (List Mark)). get_or (get_or l (p / 64) empty) (p % 64) no_mark) e
    ∙ ap (λ (l : List Mark). get_or l (p % 64) no_mark) (blank n (p / 64))

blanks : (m k : ℕ) → get_or (replicate m no_mark) k no_mark ≡ no_mark
blanks zero k = refl
blanks (suc m) zero = refl
blanks (suc m) (suc k) = blanks m k

pub filled : (xs : List Mark) (n m k : ℕ) → length xs ≤ n → get_or (take n xs ++ replicate m no_mark) k no_mark ≡ get_or xs k no_mark
filled [] zero m k h = blanks m k
filled [] (suc n) m k h = blanks m k
filled (x ∷ xs) zero m k h = absurd (omega arith)
filled (x ∷ xs) (suc n) m zero h = refl
filled (x ∷ xs) (suc n) m (suc k) h = let q : length xs ≤ n = omega (arith, h) in filled xs n m k q

touches_here : (a : ℕ) → touches a 1 a ≡ true
touches_here a = grind (arith, nat_tests)

touches_other : (addr a : ℕ) → a ≢ addr → touches addr 1 a ≡ false
touches_other addr a apart = grind (arith, nat_tests)

pub noted_none : (n : Note) (addr : ℕ) (old : List (List Mark)) → place_of addr ≡ None → (a : ℕ)
    → mark_in old (place_of a) ≡ cond (touches addr 1 a && is_memory (region_of a)) (mark_after_note n (mark_in old (place_of a))) (mark_in old (place_of a))
noted_none n addr old none a =
    let m : Mark = mark_in old (place_of a) in
    let b : Bool = touches addr 1 a && is_memory (region_of a) in
    let out : b ≡ false = elim (cases_eq a addr) [ inl e ↦ and_right _ _ (out_of_memory a (ap place_of e ∙ none)) | inr e ↦ and_left _ _ (touches_other addr a e) ] in
    sym (cond-false b (mark_after_note n m) m out)

-- a page past an entry that touches a byte
abbrev pub IsPagePast : Note → ℕ → List Mark → List Mark → Type 0
IsPagePast n r old new = (k : ℕ) → get_or new k no_mark ≡ cond (eqb k r) (mark_after_note n (get_or old r no_mark)) (get_or old k no_mark)

same_place : (p q : ℕ) → q / 64 ≡ p / 64 → q % 64 ≡ p % 64 → q ≡ p
same_place p q h g = omega (arith, h, g)

kept : (n : Note) (addr p : ℕ) (old : List (List Mark)) (page : List Mark) → place_of addr ≡ Some p → p / 64 < length old → IsPagePast n (p % 64) (get_or old (p / 64) empty) page
    → (a : ℕ) → a ≢ addr → (o : Option ℕ) → place_of a ≡ o → mark_in (slice_set old (p / 64) page) o ≡ mark_in old o
kept n addr p old page at lt past a ne None e = refl
kept n addr p old page at lt past a ne (Some q) e =
    let g : ℕ = p / 64 in
    let r : ℕ = q % 64 in
    let other : q ≢ p = λ same. ne (place_one a addr p (e ∙ ap (λ (i : ℕ). Some i) same) at) in
    elim (cases_eq (q / 64) g) [
      | inl h ↦ (let away : r ≢ p % 64 = λ same. other (same_place p q h same) in
          ap (λ (i : ℕ). get_or (get_or (slice_set old g page) i empty) r no_mark) h
          ∙ ap (λ (l : List Mark). get_or l r no_mark) (get_or-set_same old g page empty lt)
          ∙ past r
          ∙ cond-false _ _ _ (ne_eqb r (p % 64) away)
          ∙ sym (ap (λ (i : ℕ). get_or (get_or old i empty) r no_mark) h))
      | inr h ↦ ap (λ (l : List Mark). get_or l r no_mark) (get_or-set_other old g (q / 64) page empty h)
    ]

pub noted_one : (n : Note) (addr p : ℕ) (old new : List (List Mark)) (page : List Mark) → place_of addr ≡ Some p → p / 64 < length old → IsPagePast n (p % 64) (get_or old (p / 64) empty) page → new ≡ slice_set old (p / 64) page → (a : ℕ)
    → mark_in new (place_of a) ≡ cond (touches addr 1 a && is_memory (region_of a)) (mark_after_note n (mark_in old (place_of a))) (mark_in old (place_of a))
noted_one n addr p old new page at lt past is a =
    let g : ℕ = p / 64 in
    let r : ℕ = p % 64 in
    let m : Mark = mark_in old (place_of a) in
    let b : Bool = touches addr 1 a && is_memory (region_of a) in
    let same : mark_in new (place_of a) ≡ mark_in (slice_set old g page) (place_of a) = ap (λ (l : List (List Mark)). mark_in l (place_of a)) is in
    elim (cases_eq a addr) [
      | inl e ↦ (let here : place_of a ≡ Some p = ap place_of e ∙ at in
          let met : b ≡ true = and_from _ _ (ap (λ (i : ℕ). touches addr 1 i) e ∙ touches_here addr) (in_memory a p here) in
          let read : m ≡ get_or (get_or old g empty) r no_mark = ap (mark_in old) here in
          same ∙ ap (mark_in (slice_set old g page)) here
          ∙ ap (λ (l : List Mark). get_or l r no_mark) (get_or-set_same old g page empty lt)
          ∙ past r ∙ cond-true _ _ _ (eq-eqb r r refl)
          ∙ sym (ap (mark_after_note n) read) ∙ sym (cond-true b (mark_after_note n m) m met))
      | inr e ↦ (let out : b ≡ false = and_left _ _ (touches_other addr a e) in
          same ∙ kept n addr p old page at lt past a e (place_of a) refl ∙ sym (cond-false b (mark_after_note n m) m out))
    ]

-- ---- several bytes

touches_more : (from k a : ℕ) → touches from (k + 1) a ≡ (touches from k a || touches (from + k) 1 a)
touches_more from k a = grind (arith, nat_tests)

touches_apart : (from k a : ℕ) → touches from k a ≡ true → touches (from + k) 1 a ≡ false
touches_apart from k a h = grind (arith, nat_tests)

touches_none : (from a : ℕ) → touches from 0 a ≡ false
touches_none from a = grind (arith, nat_tests)

pick : (t u b : Bool) (f : Mark → Mark) (x y z : Mark) → (t ≡ true → u ≡ false) → y ≡ cond (t && b) (f x) x → z ≡ cond (u && b) (f y) y → z ≡ cond ((t || u) && b) (f x) x
pick true true b f x y z none p q = absurd (true≢false (none refl))
pick true false true f x y z none p q = q ∙ p
pick true false false f x y z none p q = q ∙ p
pick false true true f x y z none p q = q ∙ ap f p
pick false true false f x y z none p q = q ∙ p
pick false false true f x y z none p q = q ∙ p
pick false false false f x y z none p q = q ∙ p

pub noted_more : (n : Note) (from k addr : ℕ) (old m new : Marks) → addr ≡ from + k → IsNoted n from k old m → IsNoted n addr 1 m new → IsNoted n from (k + 1) old new
noted_more n from k addr old m new e h g a =
    let b : Bool = is_memory (region_of a) in
    let q : mark_at new a ≡ cond (touches (from + k) 1 a && b) (mark_after_note n (mark_at m a)) (mark_at m a) =
    g a ∙ ap (λ (i : ℕ). cond (touches i 1 a && b) (mark_after_note n (mark_at m a)) (mark_at m a)) e in
    pick (touches from k a) (touches (from + k) 1 a) b (mark_after_note n) (mark_at old a) (mark_at m a) (mark_at new a) (touches_apart from k a) (h a) q
    ∙ sym (ap (λ (t : Bool). cond (t && b) (mark_after_note n (mark_at old a)) (mark_at old a)) (touches_more from k a))

pub noted_start : (n : Note) (from : ℕ) (old : Marks) → IsNoted n from 0 old old
noted_start n from old a = sym (ap (λ (t : Bool). cond (t && is_memory (region_of a)) (mark_after_note n (mark_at old a)) (mark_at old a)) (touches_none from a))

-- at the byte after the first k
pub some_at : (f : ℕ → Bool) (addr size k : ℕ) → k < size → some_byte f (addr + k) (size - k) ≡ (f (addr + k) || some_byte f (addr + (k + 1)) (size - (k + 1)))
some_at f addr size k h =
    let e : size - k ≡ suc (size - (k + 1)) = omega arith in
    let n : (addr + k) + 1 ≡ addr + (k + 1) = omega arith in
    ap (some_byte f (addr + k)) e ∙ ap (λ (b : ℕ). f (addr + k) || some_byte f b (size - (k + 1))) n

pub some_end : (f : ℕ → Bool) (addr size k : ℕ) → size ≤ k → some_byte f (addr + k) (size - k) ≡ false
some_end f addr size k h = let e : size - k ≡ 0 = omega arith in ap (some_byte f (addr + k)) e
