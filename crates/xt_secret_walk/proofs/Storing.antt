-- The masks of bytes as a run begins, and after a turn.
use Rattle.std.proofs.Common.{◌≡◌, ℕ, zero, suc, ◌+◌, ◌-◌, ◌<◌, ◌≤◌, ◌&&◌, ◌||◌, Bool, true, false, not, cond, eqb, Option, Some, None, get_or, refl, sym, ap, ◌∙◌, arith}
use Rattle.std.proofs.lemmas.Bool.{cond-false, cond-true, eqb-true, true≢false}
use Rattle.std.proofs.lemmas.Bool.Decides.{nat_tests}
use Rattle.xt_map.specs.declared.access.Access.{Access}
use Rattle.xt_map.specs.declared.regions.Region.{Region}
use Rattle.xt_map.specs.declared.regions.Region.TheVariants.{RtcFastData, Dram, RtcSlow}
use Rattle.xt_map.proofs.Ranged.{dram_range, rtc_fast_data_range, rtc_slow_range}
use Rattle.xt_map.specs.Regions.{is_mapped, is_memory, region_of}
use Rattle.xt_map.specs.Touching.{is_store, touches}
use Rattle.xt_frames.specs.Breaches.{some_byte}
use Rattle.xt_uses.specs.FirstUse.{stored_byte}
use Rattle.xt_simulation.specs.SecretBytes.{mask_stored}
use Rattle.xt_use_walk.specs.MaskedBytes.{AreMasks, IsFull, is_byte, mask_at, place, put_at}
use Rattle.xt_use_walk.proofs.Places.{place_small, touches_nothing}
use Rattle.xt_use_walk.proofs.Served.{touches_no_byte}
use Rattle.xt_simulation.specs.FirstLeak.{stores_hidden}
use Rattle.xt_simulation.specs.SecretBytes.{bytes_past, opening_bytes}
use Rattle.xt_use_walk.specs.declared.bytes.ByteMasks.{ByteMasks}
use Rattle.xt_secret_walk.specs.KnownBytes.{KnowsBytes, address_at, is_hidden_byte, stored_in_bytes}

-- ---- as a run begins

-- the byte at the place of a byte is that byte
at_low : (n : ℕ) → n < 0x2000 → address_at n ≡ n + 0x3FF80000
at_low n h = grind (arith, nat_tests)

at_mid : (n : ℕ) → 0x2000 ≤ n → n < 0x54000 → address_at n ≡ n - 0x2000 + 0x3FFAE000
at_mid n l h = grind (arith, nat_tests)

at_high : (n : ℕ) → 0x54000 ≤ n → address_at n ≡ n - 0x54000 + 0x50000000
at_high n l = grind (arith, nat_tests)

place_fast : (a : ℕ) → a ≤ 0x3FF81FFF → place a ≡ a - 0x3FF80000
place_fast a h = grind (arith, nat_tests)

place_dram : (a : ℕ) → 0x3FFAE000 ≤ a → a ≤ 0x3FFFFFFF → place a ≡ a - 0x3FFAE000 + 0x2000
place_dram a l h = grind (arith, nat_tests)

place_slow : (a : ℕ) → 0x50000000 ≤ a → place a ≡ a - 0x50000000 + 0x54000
place_slow a l = grind (arith, nat_tests)

fast : (a : ℕ) → 0x3FF80000 ≤ a → a ≤ 0x3FF81FFF → address_at (place a) ≡ a
fast a l h = ap address_at (place_fast a h) ∙ (at_low (a - 0x3FF80000) (omega (arith, l, h)) ∙ (let e : a - 0x3FF80000 + 0x3FF80000 ≡ a = omega (arith, l) in e))

dram : (a : ℕ) → 0x3FFAE000 ≤ a → a ≤ 0x3FFFFFFF → address_at (place a) ≡ a
dram a l h =
    ap address_at (place_dram a l h)
    ∙ (at_mid (a - 0x3FFAE000 + 0x2000) (omega arith) (omega (arith, l, h)) ∙ (let e : a - 0x3FFAE000 + 0x2000 - 0x2000 + 0x3FFAE000 ≡ a = omega (arith, l) in e))

slow : (a : ℕ) → 0x50000000 ≤ a → a ≤ 0x50001FFF → address_at (place a) ≡ a
slow a l h =
    ap address_at (place_slow a l) ∙ (at_high (a - 0x50000000 + 0x54000) (omega arith) ∙ (let e : a - 0x50000000 + 0x54000 - 0x54000 + 0x50000000 ≡ a = omega (arith, l) in e))

address_of_place : (a : ℕ) → is_byte a ≡ true → address_at (place a) ≡ a
address_of_place a h = by (region_of a) refl h
  where
    by : (r : Option Region) → region_of a ≡ r → is_memory r ≡ true → address_at (place a) ≡ a
    by (Some RtcFastData) e m = let p = rtc_fast_data_range a e in fast a p.0 p.1
    by (Some Dram) e m = let p = dram_range a e in dram a p.0 p.1
    by (Some RtcSlow) e m = let p = rtc_slow_range a e in slow a p.0 p.1
    by _ e m = absurd (true≢false (sym m))

pub opened : (x : ByteMasks) (secret public : ℕ → Bool) → IsFull x → ((k : ℕ) → k < 0x56000 → get_or x.masks.items k 0 ≡ opening_bytes secret public (address_at k)) → KnowsBytes x public (opening_bytes secret public)
opened x secret public full each = record {
  full = full;
  masks_are = λ a h. each (place a) (place_small a h) ∙ ap (opening_bytes secret public) (address_of_place a h);
  public_are = λ a is. known (secret a) (public a) is;
}
  where
    known : (s p : Bool) → p ≡ true → (let n : ℕ = cond (s && not p) 0 255 in n) ≡ 255
    known true true is = refl
    known false true is = refl
    known s false is = absurd (true≢false (sym is))

-- ---- a store, byte by byte

abbrev kept : Bool → ℕ → ℕ
kept hidden mask = cond hidden mask 255

touches_next : (from k a : ℕ) → touches from (k + 1) a ≡ cond (eqb a (from + k)) true (touches from k a)
touches_next from k a = grind (arith, nat_tests)

pub none_stored : (public : ℕ → Bool) (m : ByteMasks) (stored addr : ℕ) → AreMasks m (stored_in_bytes public stored addr 0 (mask_at m))
none_stored public m stored addr a h = sym (cond-false (touches addr 0 a) _ (mask_at m a) (touches_nothing addr a))

one_over : (e t : Bool) (x y m p q : ℕ) → (e ≡ true → p ≡ q) → y ≡ cond t q m → x ≡ cond e p y → x ≡ cond (cond e true t) q m
one_over true t x y m p q f h k = k ∙ f refl
one_over false t x y m p q f h k = k ∙ h

pub one_stored : (public : ℕ → Bool) (f : ℕ → ℕ) (mid new : ByteMasks) (stored addr k mask : ℕ) → mask ≡ kept (is_hidden_byte public stored addr (addr + k)) (stored_byte stored addr (addr + k))
    → AreMasks mid (stored_in_bytes public stored addr k f) → AreMasks new (put_at (addr + k) mask (mask_at mid)) → AreMasks new (stored_in_bytes public stored addr (k + 1) f)
one_stored public f mid new stored addr k mask is before put a h =
    one_over (eqb a (addr + k)) (touches addr k a) (mask_at new a) (mask_at mid a) (f a) mask (kept (is_hidden_byte public stored addr a) (stored_byte stored addr a))
    (λ e. is ∙ ap (λ (b : ℕ). kept (is_hidden_byte public stored addr b) (stored_byte stored addr b)) (sym (eqb-true a (addr + k) e))) (before a h) (put a h)
    ∙ ap (λ (t : Bool). cond t (kept (is_hidden_byte public stored addr a) (stored_byte stored addr a)) (f a)) (sym (touches_next addr k a))

-- a byte's mask is kept, or 255
pub kept_hides : (p : Bool) (mask : ℕ) → not (eqb (kept (not (p || eqb mask 255)) mask) 255) ≡ not (p || eqb mask 255)
kept_hides true mask = refl
kept_hides false mask = by (eqb mask 255) refl
  where
    by : (e : Bool) → eqb mask 255 ≡ e → not (eqb (kept (not e) mask) 255) ≡ not e
    by true e = refl
    by false e = ap not e

pub some_more : (f : ℕ → Bool) (n addr : ℕ) → (some_byte f addr n || f (addr + n)) ≡ some_byte f addr (n + 1)
some_more f zero addr = (let e : addr + 0 ≡ addr = omega arith in ap f e) ∙ or_false (f addr)
  where
    or_false : (b : Bool) → b ≡ (b || false)
    or_false true = refl
    or_false false = refl
some_more f (suc n) addr =
    or_assoc (f addr) (some_byte f (addr + 1) n) (f (addr + suc n))
    ∙ (ap (λ (b : Bool). f addr || b) (ap (λ (a : ℕ). some_byte f (addr + 1) n || f a) (let e : addr + suc n ≡ addr + 1 + n = omega arith in e) ∙ some_more f n (addr + 1))
    ∙ ap (some_byte f addr) (let e : suc (n + 1) ≡ suc n + 1 = omega arith in e))
  where
    or_assoc : (a b c : Bool) → ((a || b) || c) ≡ (a || (b || c))
    or_assoc true b c = refl
    or_assoc false b c = refl

pub kept_is : (public : ℕ → Bool) (stored addr k byte mask : ℕ) → byte ≡ stored_byte stored addr (addr + k) → mask ≡ kept (not (public (addr + k) || eqb byte 255)) byte
    → mask ≡ kept (is_hidden_byte public stored addr (addr + k)) (stored_byte stored addr (addr + k))
kept_is public stored addr k byte mask e is = is ∙ ap (λ (n : ℕ). kept (not (public (addr + k) || eqb n 255)) n) e

pub hides_more : (public : ℕ → Bool) (stored addr k mask : ℕ) (h : Bool) → h ≡ some_byte (is_hidden_byte public stored addr) addr k → mask ≡ kept (is_hidden_byte public stored addr (addr + k)) (stored_byte stored addr (addr + k))
    → (h || not (eqb mask 255)) ≡ some_byte (is_hidden_byte public stored addr) addr (k + 1)
hides_more public stored addr k mask h e is =
    (λ i. e i || not (eqb (is i) 255))
    ∙ (ap (λ (b : Bool). some_byte (is_hidden_byte public stored addr) addr k || b) (kept_hides (public (addr + k)) (stored_byte stored addr (addr + k))) ∙ some_more (is_hidden_byte public stored addr) k addr)

-- ---- after a turn

module _ (public : ℕ → Bool) (masks : ℕ → ℕ) (stored : ℕ) where
  past_public : (o : Option Access) (a : ℕ) → public a ≡ true → bytes_past public stored o masks a ≡ 255
  past_public o a is = cond-true (public a) 255 (mask_stored stored o masks a) is

  by_public : (b : Bool) (x y : ℕ) → (b ≡ true → x ≡ 255) → (b ≡ false → x ≡ y) → x ≡ cond b 255 y
  by_public true x y f g = f refl
  by_public false x y f g = g refl

  -- no byte of memory is stored
  kept_past : (x : ByteMasks) (o : Option Access) → KnowsBytes x public masks → ((a : ℕ) → is_byte a ≡ true → masks a ≡ mask_stored stored o masks a) → KnowsBytes x public (bytes_past public stored o masks)
  kept_past x o k same = record {
    full = k.full;
    masks_are = λ a h. by_public (public a) (mask_at x a) (mask_stored stored o masks a) (λ p. k.masks_are a h ∙ k.public_are a p) (λ n. k.masks_are a h ∙ same a h);
    public_are = past_public o;
  }

  pub none_past : (x : ByteMasks) (o : Option Access) → o ≡ None → KnowsBytes x public masks → KnowsBytes x public (bytes_past public stored o masks)
  none_past x o e k = kept_past x o k (λ a h. sym (ap (λ (p : Option Access). mask_stored stored p masks a) e))

  at_some : (o : Option Access) (a : Access) (b : ℕ) → o ≡ Some a → (is_store a.kind && touches a.addr a.size b) ≡ false → masks b ≡ mask_stored stored o masks b
  at_some o a b e none = sym (ap (λ (p : Option Access). mask_stored stored p masks b) e ∙ cond-false (is_store a.kind && touches a.addr a.size b) (stored_byte stored a.addr b) (masks b) none)

  pub other_past : (x : ByteMasks) (o : Option Access) (a : Access) → o ≡ Some a → is_store a.kind ≡ false → KnowsBytes x public masks → KnowsBytes x public (bytes_past public stored o masks)
  other_past x o a e none k = kept_past x o k (λ b h. at_some o a b e (ap (λ (s : Bool). s && touches a.addr a.size b) none))

  pub sent_past : (x : ByteMasks) (o : Option Access) (a : Access) → o ≡ Some a → is_mapped a ≡ true → is_memory (region_of a.addr) ≡ false → KnowsBytes x public masks → KnowsBytes x public (bytes_past public stored o masks)
  sent_past x o a e mapped none k =
      kept_past x o k (λ b h. at_some o a b e (ap (λ (t : Bool). is_store a.kind && t) (touches_no_byte a b mapped none h) ∙ and_false (is_store a.kind)))
    where
      and_false : (b : Bool) → (b && false) ≡ false
      and_false true = refl
      and_false false = refl

  store_pick : (t p : Bool) (sb x old : ℕ) → x ≡ cond t (kept (not (p || eqb sb 255)) sb) old → (p ≡ true → old ≡ 255) → x ≡ cond p 255 (cond t sb old)
  store_pick false true sb x old e f = e ∙ f refl
  store_pick false false sb x old e f = e
  store_pick true true sb x old e f = e
  store_pick true false sb x old e f = e ∙ by (eqb sb 255) refl
    where
      by : (b : Bool) → eqb sb 255 ≡ b → kept (not b) sb ≡ sb
      by true is = sym (eqb-true sb 255 is)
      by false is = refl

  pub stored_past : (x y : ByteMasks) (o : Option Access) (a : Access) → o ≡ Some a → is_store a.kind ≡ true → KnowsBytes x public masks → IsFull y → AreMasks y (stored_in_bytes public stored a.addr a.size (mask_at x))
      → KnowsBytes y public (bytes_past public stored o masks)
  stored_past x y o a e stores k full put = record {
    full = full;
    masks_are = λ b h.
        store_pick (touches a.addr a.size b) (public b) (stored_byte stored a.addr b) (mask_at y b) (masks b)
        (put b h ∙ ap (λ (n : ℕ). cond (touches a.addr a.size b) (kept (is_hidden_byte public stored a.addr b) (stored_byte stored a.addr b)) n) (k.masks_are b h)) (k.public_are b)
        ∙ ap (λ (n : ℕ). cond (public b) 255 n)
        (sym (ap (λ (p : Option Access). mask_stored stored p masks b) e ∙ ap (λ (s : Bool). cond (s && touches a.addr a.size b) (stored_byte stored a.addr b) (masks b)) stores));
    public_are = past_public o;
  }

-- whether a byte is left with a bit that is not known
pub hides_at : (public : ℕ → Bool) (stored : ℕ) (o : Option Access) (a : Access) (b : Bool) → o ≡ Some a → is_store a.kind ≡ true → is_memory (region_of a.addr) ≡ true → b ≡ some_byte (is_hidden_byte public stored a.addr) a.addr a.size → b ≡ stores_hidden public stored o
hides_at public stored o a b e stores memory is =
    is ∙ sym (ap (λ (p : Option Access). stores_hidden public stored p) e ∙ (λ i. stores i && (memory i && some_byte (is_hidden_byte public stored a.addr) a.addr a.size)))

pub hides_not : (public : ℕ → Bool) (stored : ℕ) (o : Option Access) (a : Access) → o ≡ Some a → is_store a.kind ≡ false → false ≡ stores_hidden public stored o
hides_not public stored o a e none =
    sym (ap (λ (p : Option Access). stores_hidden public stored p) e ∙ ap (λ (s : Bool). s && (is_memory (region_of a.addr) && some_byte (is_hidden_byte public stored a.addr) a.addr a.size)) none)

pub sends_not : (public : ℕ → Bool) (stored : ℕ) (o : Option Access) (a : Access) → o ≡ Some a → is_memory (region_of a.addr) ≡ false → false ≡ stores_hidden public stored o
sends_not public stored o a e none =
    sym (ap (λ (p : Option Access). stores_hidden public stored p) e ∙ (ap (λ (m : Bool). is_store a.kind && (m && some_byte (is_hidden_byte public stored a.addr) a.addr a.size)) none ∙ and_false (is_store a.kind)))
  where
    and_false : (b : Bool) → (b && false) ≡ false
    and_false true = refl
    and_false false = refl
