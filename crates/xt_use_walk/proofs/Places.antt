-- The places of the bytes of memory among the masks.
use Rattle.std.proofs.Common.{◌≡◌, ⊎_elim, ℕ, ◌+◌, ◌-◌, ◌<◌, ◌≤◌, ◌^◌, Bool, true, false, cond, eqb, Option, Some, List, length, get_or, set, replicate, refl, sym, ◌∙◌, ap, arith}
use Rattle.std.proofs.lemmas.Bool.{true≢false, cases_eq, cond-true, cond-false, eq-eqb, ne_eqb}
use Rattle.std.proofs.lemmas.Bool.Decides.{nat_tests}
use Rattle.std.proofs.lemmas.List.{get_or-replicate, get_or-set_other, get_or-set_same}
use Rattle.xt_map.specs.declared.regions.Region.{Region}
use Rattle.xt_map.specs.declared.regions.Region.TheVariants.{RtcFastData, Dram, RtcSlow}
use Rattle.xt_map.specs.Regions.{is_memory, region_of}
use Rattle.xt_map.specs.Touching.{touches}
use Rattle.xt_map.proofs.Ranged.{dram_range, range_dram, rtc_fast_data_range, rtc_slow_range}
use Rattle.xt_use_walk.specs.declared.bytes.ByteMasks.{ByteMasks}
use Rattle.xt_use_walk.specs.MaskedBytes.{AreMasks, is_byte, mask_at, place, put_at, without}

-- ---- the three regions
data IsIn (a : ℕ) : Type 0 where
  InFast : 0x3FF80000 ≤ a → a ≤ 0x3FF81FFF → place a ≡ a - 0x3FF80000 → IsIn a
  InDram : 0x3FFAE000 ≤ a → a ≤ 0x3FFFFFFF → place a ≡ a - 0x3FFAE000 + 0x2000 → IsIn a
  InSlow : 0x50000000 ≤ a → a ≤ 0x50001FFF → place a ≡ a - 0x50000000 + 0x54000 → IsIn a

place_fast : (a : ℕ) → a ≤ 0x3FF81FFF → place a ≡ a - 0x3FF80000
place_fast a h = grind (arith, nat_tests)

place_dram : (a : ℕ) → 0x3FFAE000 ≤ a → a ≤ 0x3FFFFFFF → place a ≡ a - 0x3FFAE000 + 0x2000
place_dram a l h = grind (arith, nat_tests)

place_slow : (a : ℕ) → 0x50000000 ≤ a → place a ≡ a - 0x50000000 + 0x54000
place_slow a l = grind (arith, nat_tests)

is_in : (a : ℕ) → is_byte a ≡ true → IsIn a
is_in a h = by (region_of a) refl h
  where
    by : (r : Option Region) → region_of a ≡ r → is_memory r ≡ true → IsIn a
    by (Some RtcFastData) e m = let p = rtc_fast_data_range a e in InFast p.0 p.1 (place_fast a p.1)
    by (Some Dram) e m = let p = dram_range a e in InDram p.0 p.1 (place_dram a p.0 p.1)
    by (Some RtcSlow) e m = let p = rtc_slow_range a e in InSlow p.0 p.1 (place_slow a p.0)
    by _ e m = absurd (true≢false (sym m))

pub place_small : (a : ℕ) → is_byte a ≡ true → place a < 0x56000
place_small a h = by (is_in a h)
  where
    by : IsIn a → place a < 0x56000
    by (InFast l u e) = omega (arith, l, u, e)
    by (InDram l u e) = omega (arith, l, u, e)
    by (InSlow l u e) = omega (arith, l, u, e)

pub byte_small : (a : ℕ) → is_byte a ≡ true → a < 0x50002000
byte_small a h = by (is_in a h)
  where
    by : IsIn a → a < 0x50002000
    by (InFast l u e) = omega (arith, l, u)
    by (InDram l u e) = omega (arith, l, u)
    by (InSlow l u e) = omega (arith, l, u)

pub byte_large : (a : ℕ) → is_byte a ≡ true → 0x3FF80000 ≤ a
byte_large a h = by (is_in a h)
  where
    by : IsIn a → 0x3FF80000 ≤ a
    by (InFast l u e) = l
    by (InDram l u e) = omega (arith, l)
    by (InSlow l u e) = omega (arith, l)

-- two bytes have two places
pub same_place : (a b : ℕ) → is_byte a ≡ true → is_byte b ≡ true → place a ≡ place b → a ≡ b
same_place a b h k same = by (is_in a h) (is_in b k)
  where
    by : IsIn a → IsIn b → a ≡ b
    by (InFast l u e) (InFast m v f) = omega (arith, same, l, u, e, m, v, f)
    by (InFast l u e) (InDram m v f) = omega (arith, same, l, u, e, m, v, f)
    by (InFast l u e) (InSlow m v f) = omega (arith, same, l, u, e, m, v, f)
    by (InDram l u e) (InFast m v f) = omega (arith, same, l, u, e, m, v, f)
    by (InDram l u e) (InDram m v f) = omega (arith, same, l, u, e, m, v, f)
    by (InDram l u e) (InSlow m v f) = omega (arith, same, l, u, e, m, v, f)
    by (InSlow l u e) (InFast m v f) = omega (arith, same, l, u, e, m, v, f)
    by (InSlow l u e) (InDram m v f) = omega (arith, same, l, u, e, m, v, f)
    by (InSlow l u e) (InSlow m v f) = omega (arith, same, l, u, e, m, v, f)

-- the next byte has the next place
pub next_place : (a : ℕ) → is_byte a ≡ true → is_byte (a + 1) ≡ true → place (a + 1) ≡ place a + 1
next_place a h k = by (is_in a h) (is_in (a + 1) k)
  where
    by : IsIn a → IsIn (a + 1) → place (a + 1) ≡ place a + 1
    by (InFast l u e) (InFast m v f) = omega (arith, l, u, e, m, v, f)
    by (InFast l u e) (InDram m v f) = omega (arith, l, u, e, m, v, f)
    by (InFast l u e) (InSlow m v f) = omega (arith, l, u, e, m, v, f)
    by (InDram l u e) (InFast m v f) = omega (arith, l, u, e, m, v, f)
    by (InDram l u e) (InDram m v f) = omega (arith, l, u, e, m, v, f)
    by (InDram l u e) (InSlow m v f) = omega (arith, l, u, e, m, v, f)
    by (InSlow l u e) (InFast m v f) = omega (arith, l, u, e, m, v, f)
    by (InSlow l u e) (InDram m v f) = omega (arith, l, u, e, m, v, f)
    by (InSlow l u e) (InSlow m v f) = omega (arith, l, u, e, m, v, f)

pub dram_byte : (a : ℕ) → 0x3FFAE000 ≤ a → a < 2 ^ 30 → is_byte a ≡ true
dram_byte a l h = ap is_memory (range_dram a l (omega (arith, h)))

-- ---- one byte is put, or none
pub all_set : (masks : List ℕ) (a mask x : ℕ) → length masks ≡ 0x56000 → is_byte a ≡ true → is_byte x ≡ true
    → get_or (set masks (place a) mask) (place x) 0 ≡ put_at a mask (λ b. get_or masks (place b) 0) x
all_set masks a mask x full h k = ⊎_elim
    (λ e. ap (λ (b : ℕ). get_or (set masks (place a) mask) (place b) 0) e
    ∙ (get_or-set_same masks (place a) mask 0 (let s = place_small a h in omega (arith, full, s)) ∙ sym (cond-true (eqb x a) mask _ (eq-eqb x a e))))
    (λ n. get_or-set_other masks (place a) (place x) mask 0 (λ e. n (same_place x a k h e)) ∙ sym (cond-false (eqb x a) mask _ (ne_eqb x a n)))
    (cases_eq x a)

pub all_known : (masks : List ℕ) (n a : ℕ) → masks ≡ replicate n 255 → n ≡ 0x56000 → is_byte a ≡ true → get_or masks (place a) 0 ≡ 255
all_known masks n a e all h = ap (λ (l : List ℕ). get_or l (place a) 0) e ∙ get_or-replicate n (place a) 255 0 (let s = place_small a h in omega (arith, s, all))

-- ---- so many bytes are forgotten
pub touches_nothing : (from a : ℕ) → touches from 0 a ≡ false
touches_nothing from a = grind (arith, nat_tests)

touches_more : (from k a : ℕ) → touches from (k + 1) a ≡ cond (eqb a (from + k)) true (touches from k a)
touches_more from k a = grind (arith, nat_tests)

pub none_forgotten : (m : ByteMasks) (from : ℕ) → AreMasks m (without (touches from 0) (mask_at m))
none_forgotten m from a h = sym (cond-false (touches from 0 a) 0 (mask_at m a) (touches_nothing from a))

one_over : (e t : Bool) (z m : ℕ) → z ≡ cond e 0 (cond t 0 m) → z ≡ cond (cond e true t) 0 m
one_over true t z m h = h
one_over false t z m h = h

pub one_forgotten : (old mid new : ByteMasks) (from k : ℕ) → AreMasks mid (without (touches from k) (mask_at old)) → AreMasks new (put_at (from + k) 0 (mask_at mid)) → AreMasks new (without (touches from (k + 1)) (mask_at old))
one_forgotten old mid new from k before put a h =
    let here : mask_at new a ≡ cond (eqb a (from + k)) 0 (cond (touches from k a) 0 (mask_at old a)) = put a h ∙ ap (λ (n : ℕ). cond (eqb a (from + k)) 0 n) (before a h) in
    one_over (eqb a (from + k)) (touches from k a) (mask_at new a) (mask_at old a) here ∙ ap (λ (b : Bool). cond b 0 (mask_at old a)) (sym (touches_more from k a))
