-- The bytes of an access that the bus serves, and what their masks come to.
use Rattle.std.proofs.Common.{◌≡◌, ◌⊎◌, ⊎_elim, inl, inr, ℕ, zero, suc, ◌+◌, ◌-◌, ◌*◌, ◌%◌, ◌<◌, ◌≤◌, ◌^◌, Bool, true, false, not, ◌&&◌, ◌||◌, cond, eqb, Option, Some, None, refl, sym, ◌∙◌, ap, subst, arith}
use Rattle.std.specs.Prelude.{IfSome}
use Rattle.std.proofs.lemmas.Bool.{true≢false, and_parts, or_cases, eqb-true, cond-false, cases_Bool}
use Rattle.xt_map.specs.declared.regions.Region.{Region}
use Rattle.xt_map.specs.declared.regions.Region.TheVariants.{RtcFastData, Dram, RtcSlow}
use Rattle.xt_map.specs.declared.access.Access.{Access}
use Rattle.xt_map.specs.declared.access.Kind.{Kind}
use Rattle.xt_map.specs.declared.access.Kind.TheVariants.{Load, Store, Cas}
use Rattle.xt_map.specs.Regions.{is_mapped, is_memory, is_size, is_uart, kind_fits, region_of, uart_status, uart_takes, uart_transmit}
use Rattle.xt_map.specs.Touching.{is_store, touches}
use Rattle.xt_map.proofs.Alike.{inside, three_sizes}
use Rattle.xt_map.proofs.Ranged.{dram_range, range_dram, range_rtc_fast_data, range_rtc_slow, rtc_fast_data_range, rtc_slow_range}
use Rattle.xt_frames.specs.Breaches.{some_byte}
use Rattle.xt_uses.specs.Words.{all_bits, complement}
use Rattle.xt_uses.specs.UseStep.{reply_mask, unknown_bits}
use Rattle.xt_uses.specs.UseBreaches.{is_swap, swaps_unknown}
use Rattle.xt_use_walk.specs.MaskedBytes.{AreBytes, is_byte}
use Rattle.xt_use_walk.proofs.Places.{byte_large}

-- ---- where they lie
-- an aligned access ends where a region does, or before
room : (a size last : ℕ) → (size ≡ 1) ⊎ ((size ≡ 2) ⊎ (size ≡ 4)) → a % size ≡ 0 → a ≤ last → (last + 1) % 4 ≡ 0 → a + size ≤ last + 1
room a size last (inl e) aligned below end = omega (arith, e, below)
room a size last (inr (inl e)) aligned below end = let at : a % 2 ≡ 0 = subst (λ (n : ℕ). a % n ≡ 0) e aligned in omega (arith, e, at, below, end)
room a size last (inr (inr e)) aligned below end = let at : a % 4 ≡ 0 = subst (λ (n : ℕ). a % n ≡ 0) e aligned in omega (arith, e, at, below, end)

aligned_bytes : (a size : ℕ) → (size ≡ 1) ⊎ ((size ≡ 2) ⊎ (size ≡ 4)) → a % size ≡ 0 → is_memory (region_of a) ≡ true → AreBytes a size
aligned_bytes a size few aligned m = by (region_of a) refl m
  where
    by : (r : Option Region) → region_of a ≡ r → is_memory r ≡ true → AreBytes a size
    by (Some RtcFastData) e m = λ x l h.
        let p = rtc_fast_data_range a e in
        let low = p.0 in
        let high = p.1 in
        let end = room a size 0x3FF81FFF few aligned high refl in
        ap is_memory (range_rtc_fast_data x (omega (arith, low, l)) (omega (arith, end, h)))
    by (Some Dram) e m = λ x l h.
        let p = dram_range a e in
        let low = p.0 in
        let high = p.1 in
        let end = room a size 0x3FFFFFFF few aligned high refl in
        ap is_memory (range_dram x (omega (arith, low, l)) (omega (arith, end, h)))
    by (Some RtcSlow) e m = λ x l h.
        let p = rtc_slow_range a e in
        let low = p.0 in
        let high = p.1 in
        let end = room a size 0x50001FFF few aligned high refl in
        ap is_memory (range_rtc_slow x (omega (arith, low, l)) (omega (arith, end, h)))
    by _ e m = absurd (true≢false (sym m))

uart_low : (a : ℕ) → is_uart a ≡ true → a ≤ 0x3FF4001C
uart_low a u = ⊎_elim
    (λ e. let at : a ≡ uart_transmit = eqb-true a uart_transmit e in omega (arith, at))
    (λ e. let at : a ≡ uart_status = eqb-true a uart_status e in omega (arith, at))
    (or_cases (eqb a uart_transmit) (eqb a uart_status) u)

-- an access is of memory, and aligned, or of UART0
pub record IsPlain (a : Access) : Type 0 where
  pub size : is_size a.size ≡ true
  pub kind : kind_fits a.kind a.size ≡ true
  pub place : ((is_memory (region_of a.addr) && eqb (a.addr % a.size) 0) ≡ true) ⊎ (is_uart a.addr ≡ true)

pub plain : (a : Access) → is_mapped a ≡ true → IsPlain a
plain a h =
    let p = and_parts (is_size a.size) _ h in
    let q = and_parts (kind_fits a.kind a.size) _ p.1 in
    record {
      size = p.0;
      kind = q.0;
      place = ⊎_elim (λ m. inl m) (λ u. inr (and_parts (is_uart a.addr) (uart_takes a.kind) u).0) (or_cases (is_memory (region_of a.addr) && eqb (a.addr % a.size) 0) (is_uart a.addr && uart_takes a.kind) q.1);
    }

pub served_bytes : (a : Access) → is_mapped a ≡ true → is_memory (region_of a.addr) ≡ true → AreBytes a.addr a.size
served_bytes a h m =
    let p = plain a h in
    ⊎_elim
    (λ both. aligned_bytes a.addr a.size (three_sizes a.size p.size) (eqb-true (a.addr % a.size) 0 (and_parts (is_memory (region_of a.addr)) _ both).1) m)
    (λ u. absurd (let low = uart_low a.addr u in let high = byte_large a.addr m in omega (arith, low, high)))
    p.place

pub served_size : (a : Access) → is_mapped a ≡ true → is_size a.size ≡ true
served_size a h = (plain a h).size

pub size_few : (a : Access) → is_mapped a ≡ true → a.size ≤ 4
size_few a h = ⊎_elim (λ e. omega (arith, e)) (λ r. ⊎_elim (λ e. omega (arith, e)) (λ e. omega (arith, e)) r) (three_sizes a.size (plain a h).size)

-- an access of no memory touches none
pub touches_no_byte : (a : Access) (x : ℕ) → is_mapped a ≡ true → is_memory (region_of a.addr) ≡ false → is_byte x ≡ true → touches a.addr a.size x ≡ false
touches_no_byte a x h none byte = ⊎_elim (λ t. absurd (never t)) (λ f. f) (cases_Bool (touches a.addr a.size x))
  where
    never : touches a.addr a.size x ≡ true → ⊥
    never t =
        let up = (inside a.addr a.size x t).1 in
        let few = size_few a h in
        let large = byte_large x byte in
        ⊎_elim
        (λ both. true≢false (sym (and_parts (is_memory (region_of a.addr)) _ both).0 ∙ none))
        (λ u. let low = uart_low a.addr u in omega (arith, up, few, large, low))
        (plain a h).place

-- ---- a word of S32C1I
pub swap_size : (a : Access) (x y : ℕ) → a.kind ≡ Cas x y → is_mapped a ≡ true → a.size ≡ 4
swap_size a x y e h = eqb-true a.size 4 (ap (λ (k : Kind). kind_fits k a.size) (sym e) ∙ (plain a h).kind)

pub swap_memory : (a : Access) (x y : ℕ) → a.kind ≡ Cas x y → is_mapped a ≡ true → is_memory (region_of a.addr) ≡ true
swap_memory a x y e h =
    let p = and_parts (is_size a.size) _ h in
    let q = and_parts (kind_fits a.kind a.size) _ p.1 in
    ⊎_elim (λ m. (and_parts (is_memory (region_of a.addr)) _ m).0)
    (λ u. absurd (true≢false (sym (and_parts (is_uart a.addr) (uart_takes a.kind) u).1 ∙ ap uart_takes e)))
    (or_cases (is_memory (region_of a.addr) && eqb (a.addr % a.size) 0) (is_uart a.addr && uart_takes a.kind) q.1)

pub served_some : (o : Option Access) (a : Access) → o ≡ Some a → IfSome o (λ x. is_mapped x ≡ true) → is_mapped a ≡ true
served_some o a e h = subst (λ (x : Option Access). IfSome x (λ y. is_mapped y ≡ true)) e h

pub swap_bytes : (a : Access) (x y : ℕ) → a.kind ≡ Cas x y → is_mapped a ≡ true → AreBytes a.addr 4
swap_bytes a x y e h = subst (λ (n : ℕ). AreBytes a.addr n) (swap_size a x y e h) (served_bytes a h (swap_memory a x y e h))

-- its bytes, two by two
pub four_first : (f : ℕ → Bool) (a : ℕ) → (f a || f (a + 1)) ≡ true → true ≡ some_byte f a 4
four_first f a e = sym (first (f a) (f (a + 1)) (some_byte f (a + 1 + 1) 2) e)
  where
    first : (x y z : Bool) → (x || y) ≡ true → (x || (y || z)) ≡ true
    first true y z h = refl
    first false true z h = refl
    first false false z h = absurd (true≢false (sym h))

pub four_rest : (f : ℕ → Bool) (a : ℕ) (r : Bool) → (f a || f (a + 1)) ≡ false → r ≡ (f (a + 2) || f (a + 2 + 1)) → r ≡ some_byte f a 4
four_rest f a r e h =
    let two : a + 2 ≡ a + 1 + 1 = omega arith in
    (h ∙ ap (λ (n : ℕ). f n || f (n + 1)) two) ∙ rest (f a) (f (a + 1)) (f (a + 1 + 1)) (f (a + 1 + 1 + 1)) e
  where
    rest : (x y z w : Bool) → (x || y) ≡ false → (z || w) ≡ (x || (y || (z || (w || false))))
    rest true y z w h = absurd (true≢false h)
    rest false true z w h = absurd (true≢false h)
    rest false false true w h = refl
    rest false false false true h = refl
    rest false false false false h = refl

-- ---- of masks that are the same for the bytes of memory
module _ (f g : ℕ → ℕ) (same : (a : ℕ) → is_byte a ≡ true → f a ≡ g a) where
  bits_same : (n addr : ℕ) → AreBytes addr n → unknown_bits f addr n ≡ unknown_bits g addr n
  bits_same zero addr b = refl
  bits_same (suc n) addr b =
      ap (λ (x : ℕ). (255 - x) + 2 ^ 8 * unknown_bits f (addr + 1) n) (same addr (b addr (omega arith) (omega arith)))
      ∙ ap (λ (x : ℕ). (255 - g addr) + 2 ^ 8 * x) (bits_same n (addr + 1) (λ a l h. b a (omega (arith, l)) (omega (arith, h))))

  differs_same : (n addr : ℕ) → AreBytes addr n → some_byte (λ a. not (eqb (f a) 255)) addr n ≡ some_byte (λ a. not (eqb (g a) 255)) addr n
  differs_same zero addr b = refl
  differs_same (suc n) addr b =
      ap (λ (x : ℕ). not (eqb x 255) || some_byte (λ a. not (eqb (f a) 255)) (addr + 1) n) (same addr (b addr (omega arith) (omega arith)))
      ∙ ap (λ (x : Bool). not (eqb (g addr) 255) || x) (differs_same n (addr + 1) (λ a l h. b a (omega (arith, l)) (omega (arith, h))))

  pub reply_same : (o : Option Access) → IfSome o (λ a. is_mapped a ≡ true) → reply_mask f o ≡ reply_mask g o
  reply_same None h = refl
  reply_same (Some a) h = ⊎_elim
      (λ m. ap (λ (x : ℕ). cond (is_memory (region_of a.addr) && not (is_store a.kind)) (complement x) all_bits) (bits_same a.size a.addr (served_bytes a h m)))
      (λ n. let off : (is_memory (region_of a.addr) && not (is_store a.kind)) ≡ false = ap (λ (b : Bool). b && not (is_store a.kind)) n in cond-false _ _ _ off ∙ sym (cond-false _ _ _ off))
      (cases_Bool (is_memory (region_of a.addr)))

  swap_same : (a : Access) (k : Kind) → a.kind ≡ k → is_mapped a ≡ true → swaps_unknown f (Some a) ≡ swaps_unknown g (Some a)
  swap_same a Load e h = ap (λ (k : Kind). is_swap (record a { kind = k }) && some_byte (λ b. not (eqb (f b) 255)) a.addr a.size) e ∙ sym (ap (λ (k : Kind). is_swap (record a { kind = k }) && some_byte (λ b. not (eqb (g b) 255)) a.addr a.size) e)
  swap_same a (Store v) e h = ap (λ (k : Kind). is_swap (record a { kind = k }) && some_byte (λ b. not (eqb (f b) 255)) a.addr a.size) e ∙ sym (ap (λ (k : Kind). is_swap (record a { kind = k }) && some_byte (λ b. not (eqb (g b) 255)) a.addr a.size) e)
  swap_same a (Cas x y) e h = ap (λ (b : Bool). is_swap a && b) (differs_same a.size a.addr (served_bytes a h (swap_memory a x y e h)))

  pub swaps_same : (o : Option Access) → IfSome o (λ a. is_mapped a ≡ true) → swaps_unknown f o ≡ swaps_unknown g o
  swaps_same None h = refl
  swaps_same (Some a) h = swap_same a a.kind refl h

pub some_size : (n : ℕ) → is_size n ≡ true → 0 < n
some_size n h = ⊎_elim (λ e. omega (arith, e)) (λ r. ⊎_elim (λ e. omega (arith, e)) (λ e. omega (arith, e)) r) (three_sizes n h)
