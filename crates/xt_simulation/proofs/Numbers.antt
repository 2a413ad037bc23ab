-- Numbers in bytes of two memories that agree in masks: what a load reads, and what a store leaves.
use Rattle.std.specs.Int.{bit_at}
use Rattle.std.proofs.Common.{◌≡◌, ℕ, zero, suc, ◌+◌, ◌-◌, ◌*◌, ◌/◌, ◌^◌, ◌%◌, ◌<◌, ◌≤◌, inl, Bool, true, false, ◌||◌, ◌&&◌, not, eqb, cond, Some, sym, ap, ◌∙◌, refl, arith, ⊎_elim, subst}
use Rattle.std.proofs.lemmas.Bool.{and_parts, both_ways, cases_Bool, cases_eq, cases_lt, or_cases}
use Rattle.std.proofs.lemmas.Nat.Bits.{same_from_bits, bit_at-lt, bit_at_cat_low, bit_at_cat_high, bit_at-zero, bit_at_above, bit_at_ones}
use Rattle.xt_map.specs.declared.access.Access.{Access}
use Rattle.xt_map.specs.declared.access.Kind.{Kind}
use Rattle.xt_map.specs.declared.access.Kind.TheVariants.{Load, Store, Cas}
use Rattle.xt_map.specs.declared.contents.MemoryContents.{MemoryContents}
use Rattle.xt_map.specs.Memory.{HasSizes, byte_at, bytes_at, little_endian, low_bytes, with_byte, with_bytes}
use Rattle.xt_map.specs.Regions.{is_mapped, is_memory, is_size, is_uart, kind_fits, region_of, uart_takes}
use Rattle.xt_map.specs.Serving.{number_at, access_reply, reply_to}
use Rattle.xt_map.specs.Touching.{IsMemory, is_store}
use Rattle.xt_map.proofs.Alike.{outside_memory, size_small}
use Rattle.xt_map.proofs.Stored.{byte_keeps_sizes, byte_put, bytes_elsewhere}
use Rattle.xt_uses.specs.Words.{all_bits, masked, complement}
use Rattle.xt_uses.specs.UseStep.{reply_mask, unknown_bits}
use Rattle.xt_uses.specs.UseLaws.{AgreeIn}
use Rattle.xt_uses.specs.FirstUse.{stored_byte}
use Rattle.xt_uses.proofs.Agreeing.{agree_at, agree_from}
use Rattle.xt_uses.proofs.Bits.{bit_at_div, bit_at_rest, bit_at_rest_above, flipped_at, flipped_word, rest_at}

-- ---- bits

-- of the bits that are not known of a byte
lacks_at : (n i : ℕ) → n < 2 ^ 8 → i < 8 → bit_at (255 - n) i ≡ 1 - bit_at n i
lacks_at n i small low =
    let e : (2 ^ 32 - suc n) % 2 ^ 8 ≡ 255 - n = omega arith in
    ap (λ k. bit_at k i) (sym e) ∙ (bit_at_rest (2 ^ 32 - suc n) 8 i low ∙ rest_at n i (omega arith) (omega arith))

low_bit : (lo hi i : ℕ) → i < 8 → bit_at (lo + 256 * hi) i ≡ bit_at lo i
low_bit lo hi i h = ap (λ n. bit_at n i) (let e : lo + 256 * hi ≡ hi * 2 ^ 8 + lo = omega arith in e) ∙ bit_at_cat_low hi 8 lo i h

high_bit : (lo hi i : ℕ) → lo < 2 ^ 8 → 8 ≤ i → bit_at (lo + 256 * hi) i ≡ bit_at hi (i - 8)
high_bit lo hi i small h = ap (λ n. bit_at n i) (let e : lo + 256 * hi ≡ hi * 2 ^ 8 + lo = omega arith in e) ∙ bit_at_cat_high hi 8 lo i small h

low_unknown : (lo hi i : ℕ) → i < 8 → bit_at (lo + 2 ^ 8 * hi) i ≡ bit_at lo i
low_unknown lo hi i h = ap (λ n. bit_at n i) (let e : lo + 2 ^ 8 * hi ≡ hi * 2 ^ 8 + lo = omega arith in e) ∙ bit_at_cat_low hi 8 lo i h

high_unknown : (lo hi i : ℕ) → lo < 2 ^ 8 → 8 ≤ i → bit_at (lo + 2 ^ 8 * hi) i ≡ bit_at hi (i - 8)
high_unknown lo hi i small h = ap (λ n. bit_at n i) (let e : lo + 2 ^ 8 * hi ≡ hi * 2 ^ 8 + lo = omega arith in e) ∙ bit_at_cat_high hi 8 lo i small h

-- ---- a number that is read

module _ (kb : ℕ → ℕ) (small : (a : ℕ) → kb a < 2 ^ 8) (m n : MemoryContents) (r : IsMemory m) (w : IsMemory n) (same : (a : ℕ) → AgreeIn (kb a) (byte_at m a) (byte_at n a)) where
  byte_bits : (a i : ℕ) → i < 8 → bit_at (255 - kb a) i ≡ 0 → bit_at (byte_at m a) i ≡ bit_at (byte_at n a) i
  byte_bits a i low e =
      agree_at (kb a) (byte_at m a) (byte_at n a) i (same a) (let l = lacks_at (kb a) i (small a) low in omega (arith, e, l, bit_at-lt (kb a) i))

  number_bits : (size a i : ℕ) → bit_at (unknown_bits kb a size) i ≡ 0 → bit_at (little_endian (bytes_at m a size)) i ≡ bit_at (little_endian (bytes_at n a size)) i
  number_bits zero a i e = refl
  number_bits (suc size) a i e = ⊎_elim
      (λ low.
      let here : bit_at (255 - kb a) i ≡ 0 = sym (low_unknown (255 - kb a) (unknown_bits kb (a + 1) size) i low) ∙ e in
      low_bit (byte_at m a) (little_endian (bytes_at m (a + 1) size)) i low ∙ (byte_bits a i low here ∙ sym (low_bit (byte_at n a) (little_endian (bytes_at n (a + 1) size)) i low)))
      (λ high.
      let there : bit_at (unknown_bits kb (a + 1) size) (i - 8) ≡ 0 = sym (high_unknown (255 - kb a) (unknown_bits kb (a + 1) size) i (omega arith) high) ∙ e in
      high_bit (byte_at m a) (little_endian (bytes_at m (a + 1) size)) i (r.small a) high
      ∙ (number_bits size (a + 1) (i - 8) there ∙ sym (high_bit (byte_at n a) (little_endian (bytes_at n (a + 1) size)) i (w.small a) high)))
      (cases_lt i 8)

  number_above : (x : MemoryContents) → IsMemory x → (size a i : ℕ) → 8 * size ≤ i → bit_at (little_endian (bytes_at x a size)) i ≡ 0
  number_above x q zero a i h = bit_at-zero i
  number_above x q (suc size) a i h = high_bit (byte_at x a) (little_endian (bytes_at x (a + 1) size)) i (q.small a) (omega arith) ∙ number_above x q size (a + 1) (i - 8) (omega arith)

  numbers_agree : (size a : ℕ) → size ≤ 4 → AgreeIn (complement (unknown_bits kb a size)) (number_at m a size) (number_at n a size)
  numbers_agree size a few =
      agree_from (complement (unknown_bits kb a size)) (number_at m a size) (number_at n a size)
      (λ i one. ⊎_elim
      (λ low. number_bits size a i (let f = flipped_at (unknown_bits kb a size) i low in omega (arith, f, one, bit_at-lt (unknown_bits kb a size) i)))
      (λ high. number_above m r size a i (omega arith) ∙ sym (number_above n w size a i (omega arith)))
      (cases_lt i 32))

  -- ---- a reply: that to a store is 0

  replied_agree : (t : Bool) (mask : ℕ) (k l : Kind) (x y : ℕ) → is_store k ≡ is_store l → t ≡ true → AgreeIn mask x y → AgreeIn (cond (t && not (is_store k)) mask all_bits) (access_reply k x) (access_reply l y)
  replied_agree t mask Load Load x y e memory h = subst (λ (b : Bool). AgreeIn (cond (b && true) mask all_bits) x y) (sym memory) h
  replied_agree t mask Load (Cas expected new) x y e memory h = subst (λ (b : Bool). AgreeIn (cond (b && true) mask all_bits) x y) (sym memory) h
  replied_agree t mask Load (Store v) x y e memory h = absurd cc
  replied_agree t mask (Store v) (Store u) x y e memory h = refl
  replied_agree t mask (Store v) Load x y e memory h = absurd cc
  replied_agree t mask (Store v) (Cas expected new) x y e memory h = absurd cc
  replied_agree t mask (Cas expected new) Load x y e memory h = subst (λ (b : Bool). AgreeIn (cond (b && true) mask all_bits) x y) (sym memory) h
  replied_agree t mask (Cas expected new) (Cas was now) x y e memory h = subst (λ (b : Bool). AgreeIn (cond (b && true) mask all_bits) x y) (sym memory) h
  replied_agree t mask (Cas expected new) (Store v) x y e memory h = absurd cc

  pub memory_is : (x : Access) → is_mapped x ≡ true → is_uart x.addr ≡ false → is_memory (region_of x.addr) ≡ true
  memory_is x q u =
      let p = (and_parts (kind_fits x.kind x.size) ((is_memory (region_of x.addr) && eqb (x.addr % x.size) 0) || (is_uart x.addr && uart_takes x.kind)) (and_parts (is_size x.size) _ q).1).1 in
      ⊎_elim
      (λ q. (and_parts (is_memory (region_of x.addr)) (eqb (x.addr % x.size) 0) q).0)
      (λ q. absurd (both_ways (is_uart x.addr) u (and_parts (is_uart x.addr) (uart_takes x.kind) q).0))
      (or_cases (is_memory (region_of x.addr) && eqb (x.addr % x.size) 0) (is_uart x.addr && uart_takes x.kind) p)

  pub replies_agree_at : (addr size : ℕ) (k l : Kind) → is_mapped (record { addr = addr; size = size; kind = k }) ≡ true → is_store k ≡ is_store l
      → AgreeIn (reply_mask kb (Some (record { addr = addr; size = size; kind = k }))) (reply_to m (record { addr = addr; size = size; kind = k })) (reply_to n (record { addr = addr; size = size; kind = l }))
  unfolding reply_to
  replies_agree_at addr size k l mapped e = by_test (is_uart addr) refl
    where
      by_test : (b : Bool) → is_uart addr ≡ b
          → AgreeIn (cond (is_memory (region_of addr) && not (is_store k)) (complement (unknown_bits kb addr size)) all_bits) (cond b 0 (access_reply k (number_at m addr size))) (cond b 0 (access_reply l (number_at n addr size)))
      by_test true u = refl
      by_test false u =
          replied_agree (is_memory (region_of addr)) (complement (unknown_bits kb addr size)) k l (number_at m addr size) (number_at n addr size) e
          (memory_is (record { addr = addr; size = size; kind = k }) mapped u) (numbers_agree size addr (size_small (record { addr = addr; size = size; kind = k }) mapped))

-- ---- the mask of a reply is a word

pub unknown_small : (kb : ℕ → ℕ) (a n : ℕ) → n ≤ 4 → unknown_bits kb a n < 2 ^ 32
unknown_small kb a zero h = omega arith
unknown_small kb a (suc zero) h = omega arith
unknown_small kb a (suc (suc zero)) h = omega arith
unknown_small kb a (suc (suc (suc zero))) h = omega arith
unknown_small kb a (suc (suc (suc (suc zero)))) h = omega arith
unknown_small kb a (suc (suc (suc (suc (suc n))))) h = absurd (omega arith)

pub reply_word : (kb : ℕ → ℕ) (a : Access) → is_mapped a ≡ true → reply_mask kb (Some a) < 2 ^ 32
reply_word kb a mapped = by_region (is_memory (region_of a.addr) && not (is_store a.kind))
  where
    by_region : (t : Bool) → cond t (complement (unknown_bits kb a.addr a.size)) all_bits < 2 ^ 32
    by_region true = flipped_word (unknown_bits kb a.addr a.size) (unknown_small kb a.addr a.size (size_small a mapped))
    by_region false = omega arith

-- ---- bytes that are all known

pub none_lacks : (x : ℕ) → x < 2 ^ 32 → complement x ≡ all_bits → x ≡ 0
none_lacks x small e =
    same_from_bits x 0
    (λ i. ⊎_elim
    (λ low. let f = flipped_at x i low in let o : bit_at (complement x) i ≡ 1 = ap (λ n. bit_at n i) e ∙ bit_at_ones 32 i low in let z = bit_at-zero i in omega (arith, f, o, z, bit_at-lt x i))
    (λ high. bit_at_above x 32 i small high ∙ sym (bit_at-zero i))
    (cases_lt i 32))

pub known_bytes : (kb : ℕ → ℕ) → ((a : ℕ) → kb a < 2 ^ 8) → (size a : ℕ) → unknown_bits kb a size ≡ 0 → (y : ℕ) → a ≤ y → y < a + size → kb y ≡ 255
known_bytes kb small zero a e y lo up = absurd (omega arith)
known_bytes kb small (suc size) a e y lo up = ⊎_elim
    (λ is. subst (λ (k : ℕ). kb k ≡ 255) (sym is) (let s = small a in omega (arith, e, s)))
    (λ other. known_bytes kb small size (a + 1) (omega (arith, e)) y (omega arith) (omega arith))
    (cases_eq y a)

-- ---- a number that is stored

stored_bit : (v x a i : ℕ) → i < 8 → bit_at (stored_byte v x a) i ≡ bit_at v (8 * (a - x) + i)
stored_bit v x a i low = bit_at_rest (v / 2 ^ (8 * (a - x))) 8 i low ∙ bit_at_div v (8 * (a - x)) i

stored_above : (v x a i : ℕ) → 8 ≤ i → bit_at (stored_byte v x a) i ≡ 0
stored_above v x a i high = bit_at_rest_above (v / 2 ^ (8 * (a - x))) 8 i high

pub bytes_of_agree : (mask v w x a : ℕ) → AgreeIn mask v w → AgreeIn (stored_byte mask x a) (stored_byte v x a) (stored_byte w x a)
bytes_of_agree mask v w x a h =
    agree_from (stored_byte mask x a) (stored_byte v x a) (stored_byte w x a)
    (λ i one. ⊎_elim
    (λ low. stored_bit v x a i low ∙ (agree_at mask v w (8 * (a - x) + i) h (sym (stored_bit mask x a i low) ∙ one) ∙ sym (stored_bit w x a i low)))
    (λ high. let z = stored_above mask x a i high in absurd (omega (arith, z, one)))
    (cases_lt i 8))

next_byte : (v x a : ℕ) → x < a → stored_byte (v / 256) (x + 1) a ≡ stored_byte v x a
next_byte v x a h =
    same_from_bits (stored_byte (v / 256) (x + 1) a) (stored_byte v x a)
    (λ i. ⊎_elim
    (λ low. stored_bit (v / 256) (x + 1) a i low ∙ (bit_at_div v 8 (8 * (a - (x + 1)) + i) ∙ (ap (bit_at v) (let e : 8 + (8 * (a - (x + 1)) + i) ≡ 8 * (a - x) + i = omega arith in e) ∙ sym (stored_bit v x a i low))))
    (λ high. stored_above (v / 256) (x + 1) a i high ∙ sym (stored_above v x a i high))
    (cases_lt i 8))

first_byte : (v x : ℕ) → v % 256 ≡ stored_byte v x x
first_byte v x =
    same_from_bits (v % 256) (stored_byte v x x)
    (λ i. ⊎_elim
    (λ low. bit_at_rest v 8 i low ∙ (ap (bit_at v) (let e : i ≡ 8 * (x - x) + i = omega arith in e) ∙ sym (stored_bit v x x i low)))
    (λ high. bit_at_rest_above v 8 i high ∙ sym (stored_above v x x i high))
    (cases_lt i 8))

pub byte_stored : (size v : ℕ) (m : MemoryContents) (x a : ℕ) → HasSizes m → is_memory (region_of a) ≡ true → x ≤ a → a < x + size → byte_at (with_bytes m x (low_bytes size v)) a ≡ stored_byte v x a
byte_stored zero v m x a s here lo up = absurd (omega arith)
byte_stored (suc size) v m x a s here lo up = ⊎_elim
    (λ is. subst (λ (k : ℕ). byte_at (with_bytes (with_byte m k (v % 256)) (k + 1) (low_bytes size (v / 256))) a ≡ stored_byte v k a) is
    (bytes_elsewhere (with_byte m a (v % 256)) (a + 1) (low_bytes size (v / 256)) a (inl (omega arith)) ∙ (byte_put m a (v % 256) s here ∙ first_byte v a)))
    (λ other.
    byte_stored size (v / 256) (with_byte m x (v % 256)) (x + 1) a (byte_keeps_sizes m x (v % 256) s) here (omega arith) (omega arith) ∙ next_byte v x a (omega arith))
    (cases_eq a x)

-- in two memories
pub stored_agree : (size mask v w : ℕ) (m n : MemoryContents) (x a : ℕ) → HasSizes m → HasSizes n → AgreeIn mask v w → x ≤ a → a < x + size
    → AgreeIn (stored_byte mask x a) (byte_at (with_bytes m x (low_bytes size v)) a) (byte_at (with_bytes n x (low_bytes size w)) a)
stored_agree size mask v w m n x a s t h lo up = ⊎_elim
    (λ here. ap (masked (stored_byte mask x a)) (byte_stored size v m x a s here lo up) ∙ (bytes_of_agree mask v w x a h ∙ sym (ap (masked (stored_byte mask x a)) (byte_stored size w n x a t here lo up))))
    (λ outside. ap (masked (stored_byte mask x a)) (outside_memory (with_bytes m x (low_bytes size v)) a outside ∙ sym (outside_memory (with_bytes n x (low_bytes size w)) a outside)))
    (cases_Bool (is_memory (region_of a)))
