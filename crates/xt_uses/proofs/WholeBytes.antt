-- Masks of bytes, where each bit is known but in live and in stale bytes.
use Rattle.std.proofs.Common.{◌≡◌, ℕ, zero, suc, ◌+◌, ◌-◌, ◌*◌, ◌/◌, ◌%◌, ◌^◌, ◌<◌, ◌≤◌, Bool, true, false, not, eqb, leb, ltb, ◌&&◌, ◌||◌, Option, Some, None, refl, sym, ap, ◌∙◌, ⊎_elim, arith}
use Rattle.std.proofs.lemmas.Bool.{and_left, and_parts, and_right, cases_Bool, cond_both, eq-eqb, leb-true, ltb-true, not-true, not_from_true, or_from, or_parts, or_right}
use Rattle.xt_map.specs.declared.access.Access.{Access}
use Rattle.xt_map.specs.Regions.{is_memory, region_of}
use Rattle.xt_map.specs.Touching.{is_load, is_store, touches}
use Rattle.xt_frames.specs.Breaches.{loads_stale, some_byte, touches_save_area}
use Rattle.xt_uses.specs.Words.{all_bits, complement}
use Rattle.xt_uses.specs.UseStep.{reply_mask, stores_unknown, unknown_bits}
use Rattle.xt_uses.specs.UseBreaches.{is_swap, swaps_unknown}
use Rattle.xt_uses.specs.FirstUse.{stored_byte}

-- ---- a byte of a stored word of which each bit is known
byte_of : (n : ℕ) → n < 4 → all_bits / 2 ^ (8 * n) % 2 ^ 8 ≡ 255
byte_of zero h = refl
byte_of (suc zero) h = refl
byte_of (suc (suc zero)) h = refl
byte_of (suc (suc (suc zero))) h = refl
byte_of (suc (suc (suc (suc n)))) h = absurd (omega (arith, h))

pub stored_whole : (addr size a : ℕ) → size ≤ 4 → touches addr size a ≡ true → stored_byte all_bits addr a ≡ 255
stored_whole addr size a small h =
    let parts = and_parts (leb addr a) (ltb a (addr + size)) h in
    let low = leb-true addr a parts.0 in
    let high = ltb-true a (addr + size) parts.1 in
    byte_of (a - addr) (omega (arith, low, high, small))

stored_size : (n : ℕ) → n ≤ 4 → all_bits % 2 ^ (8 * n) ≡ 2 ^ (8 * n) - 1
stored_size zero h = refl
stored_size (suc zero) h = refl
stored_size (suc (suc zero)) h = refl
stored_size (suc (suc (suc zero))) h = refl
stored_size (suc (suc (suc (suc zero)))) h = refl
stored_size (suc (suc (suc (suc (suc n))))) h = absurd (omega (arith, h))

pub stores_known : (o : Option Access) → ((a : Access) → o ≡ Some a → a.size ≤ 4) → stores_unknown all_bits o ≡ false
stores_known None h = refl
stores_known (Some a) h = and_right (is_store a.kind) _ (not_from_true _ (eq-eqb (all_bits % 2 ^ (8 * a.size)) (2 ^ (8 * a.size) - 1) (stored_size a.size (h a refl))))

-- ---- bytes that are read
module _ (live stale : ℕ → Bool) (bytes : ℕ → ℕ) (told : (a : ℕ) → live a ≡ false → stale a ≡ false → bytes a ≡ 255) where
  bits_known : (n addr : ℕ) → some_byte live addr n ≡ false → some_byte stale addr n ≡ false → unknown_bits bytes addr n ≡ 0
  bits_known zero addr l s = refl
  bits_known (suc n) addr l s =
      let p = or_parts (live addr) (some_byte live (addr + 1) n) l in
      let q = or_parts (stale addr) (some_byte stale (addr + 1) n) s in
      (λ i. (255 - told addr p.0 q.0 i) + 2 ^ 8 * bits_known n (addr + 1) p.1 q.1 i)

  none_differs : (n addr : ℕ) → some_byte live addr n ≡ false → some_byte stale addr n ≡ false → some_byte (λ a. not (eqb (bytes a) 255)) addr n ≡ false
  none_differs zero addr l s = refl
  none_differs (suc n) addr l s =
      let p = or_parts (live addr) (some_byte live (addr + 1) n) l in
      let q = or_parts (stale addr) (some_byte stale (addr + 1) n) s in
      or_from (not (eqb (bytes addr) 255)) _ (not_from_true _ (eq-eqb (bytes addr) 255 (told addr p.0 q.0))) (none_differs n (addr + 1) p.1 q.1)

  -- what is no store touches neither live nor stale bytes
  apart : (a : Access) → is_store a.kind ≡ false → loads_stale live stale (Some a) ≡ false → touches_save_area live (Some a) ≡ false → (some_byte live a.addr a.size ≡ false) × (some_byte stale a.addr a.size ≡ false)
  apart a n h k =
      let p : (some_byte stale a.addr a.size || (is_load a.kind && some_byte live a.addr a.size)) ≡ false = ap (λ b. not b && (some_byte stale a.addr a.size || (is_load a.kind && some_byte live a.addr a.size))) (sym n) ∙ h in
      let q = or_parts (some_byte stale a.addr a.size) (is_load a.kind && some_byte live a.addr a.size) p in (
        ⊎_elim
            (λ loads. ap (λ b. b && some_byte live a.addr a.size) (sym loads) ∙ q.1)
            (λ other. ap (λ b. not b && some_byte live a.addr a.size) (sym other) ∙ k)
            (cases_Bool (is_load a.kind)),
        q.0,
      )

  pub reply_known : (o : Option Access) → loads_stale live stale o ≡ false → touches_save_area live o ≡ false → reply_mask bytes o ≡ all_bits
  reply_known None h k = refl
  reply_known (Some a) h k = cond_both
      (is_memory (region_of a.addr) && not (is_store a.kind))
      (complement (unknown_bits bytes a.addr a.size))
      all_bits
      (λ n. n ≡ all_bits)
      (λ reads.
      let n = not-true (is_store a.kind) (and_parts (is_memory (region_of a.addr)) (not (is_store a.kind)) reads).1 in
      let p = apart a n h k in
      ap complement (bits_known a.size a.addr p.0 p.1))
      (λ others. refl)

  pub swaps_known : (o : Option Access) → loads_stale live stale o ≡ false → touches_save_area live o ≡ false → swaps_unknown bytes o ≡ false
  swaps_known None h k = refl
  swaps_known (Some a) h k = ⊎_elim
      (λ stores. and_left (is_swap a) _ (not_from_true _ (or_right (is_load a.kind) (is_store a.kind) stores)))
      (λ n. let p = apart a n h k in and_right (is_swap a) _ (none_differs a.size a.addr p.0 p.1))
      (cases_Bool (is_store a.kind))
