-- Lists of special registers that are equal but for time.
use Rattle.std.proofs.Common.{◌≡◌, ◌≢◌, ℕ, zero, suc, ◌+◌, ◌%◌, ◌^◌, Bool, true, false, cond, eqb, ◌&&◌, ◌||◌, List, [], ◌∷◌, length, slice_index, slice_set, bit_or, refl, sym, ap, ◌∙◌, subst, arith}
use Rattle.std.proofs.lemmas.Bool.{eqb-true, false_from_ne_true, true≢false}
use Rattle.std.proofs.lemmas.List.{length-set, set-get_or, ext_get_or}
use Rattle.xt_special.specs.Access.{without_bits}
use Rattle.xt_special.specs.Timers.{with_timer, ticked_special}
use Rattle.xt_timeless.specs.Time.{special_without_time, timer_bits}
use Rattle.xt_timeless.specs.Alike.{AreAlike, Clocks, Compare, Difference, Timers, has_clocks, has_compare, has_timers, may_differ}
use Rattle.xt_timeless.proofs.Bits.{gone, or_same, raised_0, raised_1, raised_2}

-- ---- an equivalence

pub alike_refl : {gap : Difference} → (xs : List ℕ) → AreAlike gap xs xs
alike_refl xs = record { long = refl; same = λ k h. refl; interrupt = refl }

pub alike_sym : {gap : Difference} → (xs ys : List ℕ) → AreAlike gap xs ys → AreAlike gap ys xs
alike_sym xs ys a = record { long = sym a.long; same = λ k h. sym (a.same k h); interrupt = sym a.interrupt }

pub alike_trans : {gap : Difference} → (xs ys zs : List ℕ) → AreAlike gap xs ys → AreAlike gap ys zs → AreAlike gap xs zs
alike_trans xs ys zs a b = record { long = a.long ∙ b.long; same = λ k h. a.same k h ∙ b.same k h; interrupt = a.interrupt ∙ b.interrupt }

-- ---- one entry of both is set

-- what holds of two entries as they were, and of the new values where they are these, holds afterwards
both_held : (xs ys : List ℕ) (k v w j : ℕ) (P : ℕ → ℕ → Type 0) → length xs ≡ length ys → (k ≡ j → P v w) → P (slice_index xs j) (slice_index ys j) → P (slice_index (slice_set xs k v) j) (slice_index (slice_set ys k w) j)
both_held [] [] k v w j P e f p = p
both_held [] (y ∷ ys) k v w j P e f p = absurd (omega arith)
both_held (x ∷ xs) [] k v w j P e f p = absurd (omega arith)
both_held (x ∷ xs) (y ∷ ys) zero v w zero P e f p = f refl
both_held (x ∷ xs) (y ∷ ys) zero v w (suc j) P e f p = p
both_held (x ∷ xs) (y ∷ ys) (suc k) v w zero P e f p = p
both_held (x ∷ xs) (y ∷ ys) (suc k) v w (suc j) P e f p = both_held xs ys k v w j P (omega arith) (λ h. f (ap suc h)) p

pub alike_put : {gap : Difference} → (xs ys : List ℕ) (k v w : ℕ) → (may_differ gap k ≡ false → v ≡ w) → (k ≡ 226 → without_bits v timer_bits ≡ without_bits w timer_bits) → AreAlike gap xs ys → AreAlike gap (slice_set xs k v) (slice_set ys k w)
alike_put {gap} xs ys k v w f g a = record {
  long = length-set xs k v ∙ a.long ∙ sym (length-set ys k w);
  same = λ j h. both_held xs ys k v w j (λ x y. x ≡ y) a.long (λ e. f (ap (may_differ gap) e ∙ h)) (a.same j h);
  interrupt = both_held xs ys k v w 226 (λ x y. without_bits x timer_bits ≡ without_bits y timer_bits) a.long g a.interrupt;
}

-- the same value
pub alike_set : {gap : Difference} → (xs ys : List ℕ) (k v : ℕ) → AreAlike gap xs ys → AreAlike gap (slice_set xs k v) (slice_set ys k v)
alike_set xs ys k v a = alike_put xs ys k v v (λ h. refl) (λ h. refl) a

-- ---- one entry of one is set

-- a register of time but INTERRUPT
pub alike_but : (xs : List ℕ) (k v : ℕ) → may_differ Clocks k ≡ true → k ≢ 226 → AreAlike Clocks (slice_set xs k v) xs
alike_but xs k v time other =
    subst (AreAlike Clocks (slice_set xs k v)) (set-get_or xs k 0)
    (alike_put xs xs k v (slice_index xs k) (λ h. absurd (true≢false (sym time ∙ h))) (λ e. absurd (other e)) (alike_refl xs))

pub alike_interrupt : {gap : Difference} → (xs : List ℕ) (v : ℕ) → may_differ gap 226 ≡ true → without_bits v timer_bits ≡ without_bits (slice_index xs 226) timer_bits → AreAlike gap (slice_set xs 226 v) xs
alike_interrupt {gap} xs v may e =
    subst (AreAlike gap (slice_set xs 226 v)) (set-get_or xs 226 0)
    (alike_put xs xs 226 v (slice_index xs 226) (λ h. absurd (true≢false (sym may ∙ h))) (λ h. e) (alike_refl xs))

-- ---- the tick

timer_alike : (timer mask : ℕ) (xs : List ℕ) → ((v : ℕ) → without_bits (bit_or v mask) timer_bits ≡ without_bits v timer_bits) → AreAlike Clocks (with_timer timer mask xs) xs
timer_alike timer mask xs h = by_test (eqb (slice_index xs (240 + timer)) (slice_index xs 234))
  where
    by_test : (b : Bool) → AreAlike Clocks (cond b (slice_set xs 226 (bit_or (slice_index xs 226) mask)) xs) xs
    by_test true = alike_interrupt xs (bit_or (slice_index xs 226) mask) refl (h (slice_index xs 226))
    by_test false = alike_refl xs

pub ticked_alike : (xs : List ℕ) → AreAlike Clocks (ticked_special xs) xs
unfolding ticked_special
ticked_alike xs =
    let counted = slice_set xs 234 ((slice_index xs 234 + 1) % 2 ^ 32) in
    let one = with_timer 0 (2 ^ 6) counted in
    let two = with_timer 1 (2 ^ 15) one in
    alike_trans (with_timer 2 (2 ^ 16) two) two xs (timer_alike 2 (2 ^ 16) two raised_2)
    (alike_trans two one xs (timer_alike 1 (2 ^ 15) one raised_1)
    (alike_trans one counted xs (timer_alike 0 (2 ^ 6) counted raised_0) (alike_but xs 234 ((slice_index xs 234 + 1) % 2 ^ 32) refl (λ e. omega arith))))

-- where the clocks are equal, a timer sets its bit in both or in neither
module _ (gap : Difference) (equal : has_clocks gap ≡ false) where
  known : (k : ℕ) → eqb k 226 ≡ false → eqb k 12 ≡ false → may_differ gap k ≡ false
  known k e c = (λ i. (e i && has_timers gap) || (((eqb k 234 || (eqb k 240 || (eqb k 241 || eqb k 242))) && equal i) || (c i && has_compare gap))) ∙ none (eqb k 234 || (eqb k 240 || (eqb k 241 || eqb k 242)))
    where
      none : (b : Bool) → ((b && false) || false) ≡ false
      none true = refl
      none false = refl

  timer_both : (timer mask : ℕ) (xs ys : List ℕ) → may_differ gap (240 + timer) ≡ false → AreAlike gap xs ys → AreAlike gap (with_timer timer mask xs) (with_timer timer mask ys)
  timer_both timer mask xs ys free a =
      subst (λ (b : Bool). AreAlike gap (with_timer timer mask xs) (choice b ys)) same (by_test (eqb (slice_index xs (240 + timer)) (slice_index xs 234)))
    where
      choice : Bool → List ℕ → List ℕ
      choice b zs = cond b (slice_set zs 226 (bit_or (slice_index zs 226) mask)) zs

      same : eqb (slice_index xs (240 + timer)) (slice_index xs 234) ≡ eqb (slice_index ys (240 + timer)) (slice_index ys 234)
      same = λ i. eqb (a.same (240 + timer) free i) (a.same 234 (known 234 refl refl) i)

      by_test : (b : Bool) → AreAlike gap (choice b xs) (choice b ys)
      by_test true =
          alike_put xs ys 226 (bit_or (slice_index xs 226) mask) (bit_or (slice_index ys 226) mask) (λ h. ap (λ (v : ℕ). bit_or v mask) (a.same 226 h))
          (λ h. or_same (slice_index xs 226) (slice_index ys 226) mask a.interrupt) a
      by_test false = a

  clocks_ticked : (xs ys : List ℕ) → AreAlike gap xs ys → AreAlike gap (ticked_special xs) (ticked_special ys)
  unfolding ticked_special
  clocks_ticked xs ys a =
      let counted =
      alike_put xs ys 234 ((slice_index xs 234 + 1) % 2 ^ 32) ((slice_index ys 234 + 1) % 2 ^ 32) (λ h. ap (λ (v : ℕ). (v + 1) % 2 ^ 32) (a.same 234 h)) (λ e. absurd (omega arith)) a
      in
      timer_both 2 (2 ^ 16) _ _ (known 242 refl refl) (timer_both 1 (2 ^ 15) _ _ (known 241 refl refl) (timer_both 0 (2 ^ 6) _ _ (known 240 refl refl) counted))

time_ticked : (xs ys : List ℕ) → AreAlike Clocks xs ys → AreAlike Clocks (ticked_special xs) (ticked_special ys)
time_ticked xs ys a =
    alike_trans (ticked_special xs) xs (ticked_special ys) (ticked_alike xs) (alike_trans xs ys (ticked_special ys) a (alike_sym (ticked_special ys) ys (ticked_alike ys)))

pub both_ticked : (gap : Difference) (xs ys : List ℕ) → AreAlike gap xs ys → AreAlike gap (ticked_special xs) (ticked_special ys)
both_ticked Timers xs ys a = clocks_ticked Timers refl xs ys a
both_ticked Clocks xs ys a = time_ticked xs ys a
both_ticked Compare xs ys a = clocks_ticked Compare refl xs ys a

-- ---- the list without time

pub cleared_alike : (xs : List ℕ) → AreAlike Clocks (special_without_time xs) xs
cleared_alike xs =
    let a = slice_set xs 234 0 in
    let b = slice_set a 240 0 in
    let c = slice_set b 241 0 in
    let d = slice_set c 242 0 in
    let ab : AreAlike Clocks d xs =
    alike_trans d c xs (alike_but c 242 0 refl (λ e. omega arith))
    (alike_trans c b xs (alike_but b 241 0 refl (λ e. omega arith))
    (alike_trans b a xs (alike_but a 240 0 refl (λ e. omega arith)) (alike_but xs 234 0 refl (λ e. omega arith)))) in
    alike_trans (special_without_time xs) d xs
    (alike_interrupt d (without_bits (slice_index xs 226) timer_bits) refl (gone (slice_index xs 226) ∙ sym ab.interrupt)) ab

-- what is left of two lists that are alike is one list
not_time : (k : ℕ) → k ≢ 226 → k ≢ 234 → k ≢ 240 → k ≢ 241 → k ≢ 242 → may_differ Clocks k ≡ false
not_time k p q r s t =
    (λ i. (no 226 p i && true) || (((no 234 q i || (no 240 r i || (no 241 s i || no 242 t i))) && true) || (eqb k 12 && false))) ∙ never (eqb k 12)
  where
    no : (n : ℕ) → k ≢ n → eqb k n ≡ false
    no n h = false_from_ne_true (eqb k n) (λ e. h (eqb-true k n e))

    never : (b : Bool) → (b && false) ≡ false
    never true = refl
    never false = refl

-- an entry after one was set: where it is this one, and where it is not
both_set : (xs ys : List ℕ) (k v w j : ℕ) → length xs ≡ length ys → (k ≡ j → v ≡ w) → (j ≢ k → slice_index xs j ≡ slice_index ys j) → slice_index (slice_set xs k v) j ≡ slice_index (slice_set ys k w) j
both_set [] [] k v w j e f h = refl
both_set [] (y ∷ ys) k v w j e f h = absurd (omega arith)
both_set (x ∷ xs) [] k v w j e f h = absurd (omega arith)
both_set (x ∷ xs) (y ∷ ys) zero v w zero e f h = f refl
both_set (x ∷ xs) (y ∷ ys) zero v w (suc j) e f h = h (λ z. omega arith)
both_set (x ∷ xs) (y ∷ ys) (suc k) v w zero e f h = h (λ z. omega arith)
both_set (x ∷ xs) (y ∷ ys) (suc k) v w (suc j) e f h = both_set xs ys k v w j (omega arith) (λ z. f (ap suc z)) (λ n. h (λ z. n (omega arith)))

both_long : (xs ys : List ℕ) (k v w : ℕ) → length xs ≡ length ys → length (slice_set xs k v) ≡ length (slice_set ys k w)
both_long xs ys k v w e = length-set xs k v ∙ e ∙ sym (length-set ys k w)

pub same_cleared : (xs ys : List ℕ) → AreAlike Clocks xs ys → special_without_time xs ≡ special_without_time ys
same_cleared xs ys h =
    let a = slice_set xs 234 0 in
    let b = slice_set a 240 0 in
    let c = slice_set b 241 0 in
    let d = slice_set c 242 0 in
    let p = slice_set ys 234 0 in
    let q = slice_set p 240 0 in
    let r = slice_set q 241 0 in
    let s = slice_set r 242 0 in
    let l1 = both_long xs ys 234 0 0 h.long in
    let l2 = both_long a p 240 0 0 l1 in
    let l3 = both_long b q 241 0 0 l2 in
    let l4 = both_long c r 242 0 0 l3 in
    ext_get_or 0 (special_without_time xs) (special_without_time ys) (both_long d s 226 (without_bits (slice_index xs 226) timer_bits) (without_bits (slice_index ys 226) timer_bits) l4)
    (λ j less.
    both_set d s 226 (without_bits (slice_index xs 226) timer_bits) (without_bits (slice_index ys 226) timer_bits) j l4 (λ e. h.interrupt)
    (λ n5. both_set c r 242 0 0 j l3 (λ e. refl)
    (λ n4. both_set b q 241 0 0 j l2 (λ e. refl)
    (λ n3. both_set a p 240 0 0 j l1 (λ e. refl)
    (λ n2. both_set xs ys 234 0 0 j h.long (λ e. refl) (λ n1. h.same j (not_time j n5 n1 n2 n3 n4)))))))

pub alike_from : (xs ys : List ℕ) → special_without_time xs ≡ special_without_time ys → AreAlike Clocks xs ys
alike_from xs ys e =
    alike_trans xs (special_without_time xs) ys (alike_sym (special_without_time xs) xs (cleared_alike xs))
    (subst (λ (l : List ℕ). AreAlike Clocks l ys) (sym e) (cleared_alike ys))
