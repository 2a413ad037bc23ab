-- The masks of bytes: what is known of a reply, and that the reply fits it.
use Rattle.std.specs.Int.{bit_at}
use Rattle.std.proofs.Common.{◌≡◌, ℕ, zero, suc, ◌+◌, ◌-◌, ◌*◌, ◌^◌, ◌%◌, ◌<◌, ◌≤◌, ◌≢◌, Bool, true, false, ◌||◌, ◌&&◌, not, eqb, Option, Some, None, sym, ap, ◌∙◌, refl, arith, ⊎_elim, subst, cond}
use Rattle.std.proofs.lemmas.Bool.{and_parts, both_ways, cases_Bool, cases_eq, cases_lt, cond-false, cond-true, eqb-true, not-false, or_cases, or_parts}
use Rattle.std.proofs.lemmas.Nat.Bits.{bit_at-lt, bit_at_ones, bit_at_cat_low, bit_at_cat_high, bit_at-zero}
use Rattle.xt_map.specs.declared.access.Access.{Access}
use Rattle.xt_map.specs.declared.access.Kind.{Kind}
use Rattle.xt_map.specs.declared.access.Kind.TheVariants.{Load, Store, Cas}
use Rattle.xt_map.specs.declared.contents.MemoryContents.{MemoryContents}
use Rattle.xt_map.specs.Memory.{byte_at, bytes_at, little_endian}
use Rattle.xt_map.proofs.Alike.{size_small}
use Rattle.xt_map.specs.Regions.{is_mapped, is_memory, is_size, is_uart, kind_fits, region_of, uart_takes}
use Rattle.xt_map.specs.Serving.{number_at, access_reply, reply_to}
use Rattle.xt_map.specs.Touching.{IsMemory, is_store}
use Rattle.xt_frames.specs.Breaches.{some_byte}
use Rattle.xt_uses.specs.Words.{all_bits, masked, complement}
use Rattle.xt_uses.specs.UseBreaches.{swaps_unknown}
use Rattle.xt_uses.specs.UseStep.{reply_mask, unknown_bits}
use Rattle.xt_uses.specs.UseLaws.{AgreeIn, IsAnswered}
use Rattle.xt_uses.proofs.Agreeing.{agree_from}
use Rattle.xt_uses.proofs.Bits.{flipped_at}

-- bytes of which a bit is known are equal
abbrev pub KnownEqual : (ℕ → ℕ) → MemoryContents → MemoryContents → Type 0
KnownEqual kb real framed = (a : ℕ) → kb a ≢ 0 → byte_at real a ≡ byte_at framed a

-- ---- bits of a number in bytes
low_bit : (lo hi i : ℕ) → i < 8 → bit_at (lo + 256 * hi) i ≡ bit_at lo i
low_bit lo hi i h = ap (λ n. bit_at n i) (let e : lo + 256 * hi ≡ hi * 2 ^ 8 + lo = omega arith in e) ∙ bit_at_cat_low hi 8 lo i h

high_bit : (lo hi i : ℕ) → lo < 2 ^ 8 → 8 ≤ i → bit_at (lo + 256 * hi) i ≡ bit_at hi (i - 8)
high_bit lo hi i small h = ap (λ n. bit_at n i) (let e : lo + 256 * hi ≡ hi * 2 ^ 8 + lo = omega arith in e) ∙ bit_at_cat_high hi 8 lo i small h

low_unknown : (lo hi i : ℕ) → i < 8 → bit_at (lo + 2 ^ 8 * hi) i ≡ bit_at lo i
low_unknown lo hi i h = ap (λ n. bit_at n i) (let e : lo + 2 ^ 8 * hi ≡ hi * 2 ^ 8 + lo = omega arith in e) ∙ bit_at_cat_low hi 8 lo i h

high_unknown : (lo hi i : ℕ) → lo < 2 ^ 8 → 8 ≤ i → bit_at (lo + 2 ^ 8 * hi) i ≡ bit_at hi (i - 8)
high_unknown lo hi i small h = ap (λ n. bit_at n i) (let e : lo + 2 ^ 8 * hi ≡ hi * 2 ^ 8 + lo = omega arith in e) ∙ bit_at_cat_high hi 8 lo i small h

-- ---- a reply
module _ (kb : ℕ → ℕ) (real framed : MemoryContents) (r : IsMemory real) (w : IsMemory framed) (same : KnownEqual kb real framed) where
  byte_bits : (a i : ℕ) → i < 8 → bit_at (255 - kb a) i ≡ 0 → bit_at (byte_at real a) i ≡ bit_at (byte_at framed a) i
  byte_bits a i low e = ⊎_elim
      (λ none.
      let full : bit_at (255 - kb a) i ≡ bit_at 255 i = ap (λ n. bit_at (255 - n) i) none in
      let one : bit_at 255 i ≡ 1 = bit_at_ones 8 i low in
      absurd (omega (arith, e, full, one)))
      (λ some. ap (λ n. bit_at n i) (same a some))
      (cases_eq (kb a) 0)

  number_bits : (n a i : ℕ) → bit_at (unknown_bits kb a n) i ≡ 0 → bit_at (little_endian (bytes_at real a n)) i ≡ bit_at (little_endian (bytes_at framed a n)) i
  number_bits zero a i e = refl
  number_bits (suc n) a i e = ⊎_elim
      (λ low.
      let here : bit_at (255 - kb a) i ≡ 0 = sym (low_unknown (255 - kb a) (unknown_bits kb (a + 1) n) i low) ∙ e in
      low_bit (byte_at real a) (little_endian (bytes_at real (a + 1) n)) i low ∙ (byte_bits a i low here ∙ sym (low_bit (byte_at framed a) (little_endian (bytes_at framed (a + 1) n)) i low)))
      (λ high.
      let there : bit_at (unknown_bits kb (a + 1) n) (i - 8) ≡ 0 = sym (high_unknown (255 - kb a) (unknown_bits kb (a + 1) n) i (omega arith) high) ∙ e in
      high_bit (byte_at real a) (little_endian (bytes_at real (a + 1) n)) i (r.small a) high
      ∙ (number_bits n (a + 1) (i - 8) there ∙ sym (high_bit (byte_at framed a) (little_endian (bytes_at framed (a + 1) n)) i (w.small a) high)))
      (cases_lt i 8)

  number_small : (m : MemoryContents) → IsMemory m → (n a i : ℕ) → 8 * n ≤ i → bit_at (little_endian (bytes_at m a n)) i ≡ 0
  number_small m q zero a i h = bit_at-zero i
  number_small m q (suc n) a i h = high_bit (byte_at m a) (little_endian (bytes_at m (a + 1) n)) i (q.small a) (omega arith) ∙ number_small m q n (a + 1) (i - 8) (omega arith)

  numbers_agree : (n a : ℕ) → n ≤ 4 → AgreeIn (complement (unknown_bits kb a n)) (number_at real a n) (number_at framed a n)
  numbers_agree n a small =
      agree_from (complement (unknown_bits kb a n)) (number_at real a n) (number_at framed a n)
      (λ i one. ⊎_elim
      (λ low. number_bits n a i (let f = flipped_at (unknown_bits kb a n) i low in omega (arith, f, one, bit_at-lt (unknown_bits kb a n) i)))
      (λ high. number_small real r n a i (omega arith) ∙ sym (number_small framed w n a i (omega arith)))
      (cases_lt i 32))

  -- the reply to a store is 0
  replied_agree : (t : Bool) (mask : ℕ) (k : Kind) (n p : ℕ) → t ≡ true → AgreeIn mask n p → AgreeIn (cond (t && not (is_store k)) mask all_bits) (access_reply k n) (access_reply k p)
  replied_agree t mask Load n p memory h = subst (λ (b : Bool). AgreeIn (cond (b && true) mask all_bits) n p) (sym memory) h
  replied_agree t mask (Store v) n p memory h = refl
  replied_agree t mask (Cas expected new) n p memory h = subst (λ (b : Bool). AgreeIn (cond (b && true) mask all_bits) n p) (sym memory) h

  -- what it reads of real memory fits
  pub reply_fits : (access : Access) → is_mapped access ≡ true → AgreeIn (reply_mask kb (Some access)) (reply_to real access) (reply_to framed access)
  unfolding reply_to
  reply_fits access mapped = ⊎_elim
      (λ uart. ap (masked (reply_mask kb (Some access))) (cond-true (is_uart access.addr) 0 (access_reply access.kind (number_at real access.addr access.size)) uart ∙ sym (cond-true (is_uart access.addr) 0 (access_reply access.kind (number_at framed access.addr access.size)) uart)))
      (λ other.
      let memory : is_memory (region_of access.addr) ≡ true = memory_is access mapped other in
      let a = cond-false (is_uart access.addr) 0 (access_reply access.kind (number_at real access.addr access.size)) other in
      let b = cond-false (is_uart access.addr) 0 (access_reply access.kind (number_at framed access.addr access.size)) other in
      let here : AgreeIn (reply_mask kb (Some access)) (access_reply access.kind (number_at real access.addr access.size)) (access_reply access.kind (number_at framed access.addr access.size)) =
      replied_agree (is_memory (region_of access.addr)) (complement (unknown_bits kb access.addr access.size)) access.kind (number_at real access.addr access.size) (number_at framed access.addr access.size) memory (numbers_agree access.size access.addr (size_small access mapped)) in
      ap (masked (reply_mask kb (Some access))) a ∙ (here ∙ sym (ap (masked (reply_mask kb (Some access))) b)))
      (cases_Bool (is_uart access.addr))
    where
      memory_is : (x : Access) → is_mapped x ≡ true → is_uart x.addr ≡ false → is_memory (region_of x.addr) ≡ true
      memory_is x m u =
          let p = (and_parts (kind_fits x.kind x.size) ((is_memory (region_of x.addr) && eqb (x.addr % x.size) 0) || (is_uart x.addr && uart_takes x.kind)) (and_parts (is_size x.size) _ m).1).1 in
          ⊎_elim
          (λ q. (and_parts (is_memory (region_of x.addr)) (eqb (x.addr % x.size) 0) q).0)
          (λ q. absurd (both_ways (is_uart x.addr) u (and_parts (is_uart x.addr) (uart_takes x.kind) q).0))
          (or_cases (is_memory (region_of x.addr) && eqb (x.addr % x.size) 0) (is_uart x.addr && uart_takes x.kind) p)

-- ---- S32C1I reads what is wholly known
none_unknown : (kb : ℕ → ℕ) (a n : ℕ) → some_byte (λ b. not (eqb (kb b) 255)) a n ≡ false → unknown_bits kb a n ≡ 0
none_unknown kb a zero e = refl
none_unknown kb a (suc n) e =
    let p = or_parts (not (eqb (kb a) 255)) (some_byte (λ b. not (eqb (kb b) 255)) (a + 1) n) e in
    let full : kb a ≡ 255 = eqb-true (kb a) 255 (not-false _ p.0) in
    let rest : unknown_bits kb (a + 1) n ≡ 0 = none_unknown kb (a + 1) n p.1 in
    omega arith

pub swap_answered : (kb : ℕ → ℕ) (o : Option Access) → swaps_unknown kb o ≡ false → IsAnswered (reply_mask kb o) o
swap_answered kb None e = tt
swap_answered kb (Some a) e = λ swap.
    let p : some_byte (λ b. not (eqb (kb b) 255)) a.addr a.size ≡ false = subst (λ z. (z && some_byte (λ b. not (eqb (kb b) 255)) a.addr a.size) ≡ false) swap e in
    let none : unknown_bits kb a.addr a.size ≡ 0 = none_unknown kb a.addr a.size p in
    by_region (is_memory (region_of a.addr) && not (is_store a.kind)) (ap complement none)
  where
    by_region : (t : Bool) → complement (unknown_bits kb a.addr a.size) ≡ all_bits → cond t (complement (unknown_bits kb a.addr a.size)) all_bits ≡ all_bits
    by_region true h = h
    by_region false h = refl
