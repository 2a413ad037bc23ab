-- One access to two memories that agree in what is known: what is replied, and what it leaves.
use Rattle.std.proofs.Common.{◌≡◌, ℕ, ◌+◌, ◌%◌, ◌^◌, ◌<◌, ◌≤◌, Bool, true, false, ◌||◌, ◌&&◌, eqb, cond, Option, Some, None, [], ◌∷◌, ◌++◌, sym, ap, ◌∙◌, refl, arith, ⊎_elim, subst}
use Rattle.std.proofs.lemmas.Bool.{and_parts, cases_Bool, cases_lt, eqb-true, or_cases, true≢false}
use Rattle.std.proofs.lemmas.Nat.Bits.{same_from_bits, bit_at_above, bit_at_ones}
use Rattle.xt_map.specs.declared.regions.Region.{Region}
use Rattle.xt_map.specs.declared.regions.Region.TheVariants.{RtcFastData, Dram, RtcSlow}
use Rattle.xt_map.specs.declared.access.Access.{Access}
use Rattle.xt_map.specs.declared.access.Kind.{Kind}
use Rattle.xt_map.specs.declared.access.Kind.TheVariants.{Load, Store, Cas}
use Rattle.xt_map.specs.declared.contents.MemoryContents.{MemoryContents}
use Rattle.xt_map.specs.Memory.{byte_at, low_bytes, with_bytes}
use Rattle.xt_map.specs.Regions.{is_mapped, is_memory, is_size, is_uart, kind_fits, region_of, uart_status, uart_transmit}
use Rattle.xt_map.specs.Serving.{memory_past, number_at, reply_to, with_sent}
use Rattle.xt_map.specs.Touching.{IsMemory, is_store, touches}
use Rattle.xt_map.proofs.Alike.{inside, outside_memory, size_small, touched_alike, untouched}
use Rattle.xt_map.proofs.Ranged.{dram_range, rtc_fast_data_range, rtc_slow_range}
use Rattle.xt_map.proofs.Sent.{sent_of_bytes}
use Rattle.xt_trace.specs.Worlds.{answer, memory_left}
use Rattle.xt_exec.specs.TurnLaws.{IsServed}
use Rattle.xt_uses.specs.Words.{all_bits, complement, masked}
use Rattle.xt_uses.specs.UseLaws.{AgreeIn, KindsAgree}
use Rattle.xt_uses.specs.UseStep.{reply_mask, unknown_bits}
use Rattle.xt_simulation.specs.SecretBytes.{mask_stored}
use Rattle.xt_uses.specs.FirstUse.{stored_byte}
use Rattle.xt_uses.proofs.Agreeing.{agree_at}
use Rattle.xt_simulation.specs.TurnUses.{found_used}
use Rattle.xt_simulation.specs.SecretBytes.{MemoriesAgree}
use Rattle.xt_simulation.specs.SecretLaws.{AccessAgrees, SendAgrees, SentAgrees}
use Rattle.xt_simulation.proofs.Numbers.{known_bytes, none_lacks, replies_agree_at, stored_agree, unknown_small}

abbrev at : ℕ → ℕ → Kind → Access
at addr size k = record { addr = addr; size = size; kind = k }

byte_equal : (x y : ℕ) → x < 2 ^ 8 → y < 2 ^ 8 → AgreeIn 255 x y → x ≡ y
byte_equal x y p q h =
    same_from_bits x y (λ i. ⊎_elim (λ low. agree_at 255 x y i h (bit_at_ones 8 i low)) (λ high. bit_at_above x 8 i p high ∙ sym (bit_at_above y 8 i q high)) (cases_lt i 8))

-- UART0 is no memory
uart_region : (a : ℕ) → 0x3FF40000 ≤ a → a < 0x3FF40020 → is_memory (region_of a) ≡ false
uart_region a lo up = none (region_of a) refl
  where
    none : (r : Option Region) → region_of a ≡ r → is_memory r ≡ false
    none (Some RtcFastData) e = let p = rtc_fast_data_range a e in let l = p.0 in absurd (omega arith)
    none (Some Dram) e = let p = dram_range a e in let l = p.0 in absurd (omega arith)
    none (Some RtcSlow) e = let p = rtc_slow_range a e in let l = p.0 in absurd (omega arith)
    none _ e = refl

-- a load changes nothing
load_keeps : (m : MemoryContents) (addr size : ℕ) → memory_past m (at addr size Load) ≡ m
unfolding memory_past
load_keeps m addr size = by_tests (eqb addr uart_transmit) (eqb addr uart_status)
  where
    by_tests : (b c : Bool) → cond b m (cond c m m) ≡ m
    by_tests true c = refl
    by_tests false true = refl
    by_tests false false = refl

same_test : (b c : Bool) (x y z : MemoryContents) → b ≡ false → c ≡ false → cond b x (cond c y z) ≡ z
same_test true c x y z p q = absurd (true≢false p)
same_test false true x y z p q = absurd (true≢false q)
same_test false false x y z p q = refl

module _ (masks : ℕ → ℕ) (small : (a : ℕ) → masks a < 2 ^ 8) (m n : MemoryContents) (r : IsMemory m) (w : IsMemory n) (h : MemoriesAgree masks m n) where
  -- ---- a store

  module _ (addr size stored x y : ℕ) (mapped : is_mapped (at addr size (Store x)) ≡ true) (same : AgreeIn stored x y) (sends : addr ≡ uart_transmit → x % 256 ≡ y % 256) where
    -- a byte of memory that it touches is none of UART0's
    elsewhere : (a : ℕ) → is_memory (region_of a) ≡ true → addr ≤ a → a < addr + size → (place : ℕ) → 0x3FF40000 ≤ place → place < 0x3FF4001D → eqb addr place ≡ false
    elsewhere a here lo up place low high = ⊎_elim
        (λ e.
        let is = eqb-true addr place e in
        let few = size_small (at addr size (Store x)) mapped in
        absurd (true≢false (sym here ∙ uart_region a (omega (arith, is, lo, low)) (omega (arith, is, up, few, high)))))
        (λ e. e)
        (cases_Bool (eqb addr place))

    put_in : (z v a : ℕ) → is_memory (region_of a) ≡ true → addr ≤ a → a < addr + size → (p : MemoryContents) → memory_past p (at addr size (Store v)) ≡ with_bytes p addr (low_bytes size v)
    unfolding memory_past
    put_in z v a here lo up p = same_test (eqb addr uart_transmit) (eqb addr uart_status) _ _ _ (elsewhere a here lo up uart_transmit (omega arith) (omega arith)) (elsewhere a here lo up uart_status (omega arith) (omega arith))

    touched : (a : ℕ) → addr ≤ a → a < addr + size → AgreeIn (stored_byte stored addr a) (byte_at (memory_past m (at addr size (Store x))) a) (byte_at (memory_past n (at addr size (Store y))) a)
    touched a lo up = ⊎_elim
        (λ here.
        ap (λ (p : MemoryContents). masked (stored_byte stored addr a) (byte_at p a)) (put_in 0 x a here lo up m)
        ∙ (stored_agree size stored x y m n addr a r.sizes w.sizes same lo up ∙ sym (ap (λ (p : MemoryContents). masked (stored_byte stored addr a) (byte_at p a)) (put_in 0 y a here lo up n))))
        (λ outside. ap (masked (stored_byte stored addr a)) (outside_memory (memory_past m (at addr size (Store x))) a outside ∙ sym (outside_memory (memory_past n (at addr size (Store y))) a outside)))
        (cases_Bool (is_memory (region_of a)))

    store_bytes : (a : ℕ) → AgreeIn (mask_stored stored (Some (at addr size (Store x))) masks a) (byte_at (memory_past m (at addr size (Store x))) a) (byte_at (memory_past n (at addr size (Store y))) a)
    store_bytes a = by_test (touches addr size a) refl
      where
        by_test : (b : Bool) → touches addr size a ≡ b → AgreeIn (cond b (stored_byte stored addr a) (masks a)) (byte_at (memory_past m (at addr size (Store x))) a) (byte_at (memory_past n (at addr size (Store y))) a)
        by_test true t = let p = inside addr size a t in touched a p.0 p.1
        by_test false t = ap (masked (masks a)) (untouched m (at addr size (Store x)) a t) ∙ (h.bytes a ∙ sym (ap (masked (masks a)) (untouched n (at addr size (Store y)) a t)))

    store_sent : (memory_past m (at addr size (Store x))).sent ≡ (memory_past n (at addr size (Store y))).sent
    unfolding memory_past
    store_sent = by_tests (eqb addr uart_transmit) refl (eqb addr uart_status)
      where
        by_tests : (b : Bool) → eqb addr uart_transmit ≡ b → (c : Bool)
            → (cond b (with_sent m (Store x)) (cond c m (with_bytes m addr (low_bytes size x)))).sent ≡ (cond b (with_sent n (Store y)) (cond c n (with_bytes n addr (low_bytes size y)))).sent
        by_tests true e c = λ i. h.sent i ++ sends (eqb-true addr uart_transmit e) i ∷ []
        by_tests false e true = h.sent
        by_tests false e false = sent_of_bytes m addr (low_bytes size x) ∙ (h.sent ∙ sym (sent_of_bytes n addr (low_bytes size y)))

    stored_too : MemoriesAgree (mask_stored stored (Some (at addr size (Store x))) masks) (memory_past m (at addr size (Store x))) (memory_past n (at addr size (Store y)))
    stored_too = record { bytes = store_bytes; sent = store_sent }

  -- ---- a compare-and-swap, whose bytes are known

  module _ (addr size stored x y : ℕ) (mapped : is_mapped (at addr size (Cas x y)) ≡ true) (found : found_used (Some (at addr size (Cas x y))) (reply_mask masks (Some (at addr size (Cas x y)))) ≡ true) where
    in_memory : is_memory (region_of addr) ≡ true
    in_memory =
        let p = (and_parts (kind_fits (Cas x y) size) ((is_memory (region_of addr) && eqb (addr % size) 0) || (is_uart addr && false)) (and_parts (is_size size) _ mapped).1).1 in
        ⊎_elim
        (λ q. (and_parts (is_memory (region_of addr)) (eqb (addr % size) 0) q).0)
        (λ q. absurd (true≢false (sym (and_parts (is_uart addr) false q).1)))
        (or_cases (is_memory (region_of addr) && eqb (addr % size) 0) (is_uart addr && false) p)

    all_known : unknown_bits masks addr size ≡ 0
    all_known =
        none_lacks (unknown_bits masks addr size) (unknown_small masks addr size (size_small (at addr size (Cas x y)) mapped))
        (sym (ap (λ (b : Bool). cond (b && true) (complement (unknown_bits masks addr size)) all_bits) in_memory) ∙ eqb-true (reply_mask masks (Some (at addr size (Cas x y)))) all_bits found)

    all_found : (a : ℕ) → addr ≤ a → a < addr + size → byte_at m a ≡ byte_at n a
    all_found a lo up =
        byte_equal (byte_at m a) (byte_at n a) (r.small a) (w.small a) (subst (λ (mask : ℕ). AgreeIn mask (byte_at m a) (byte_at n a)) (known_bytes masks small size addr all_known a lo up) (h.bytes a))

    swap_bytes : (a : ℕ) → AgreeIn (masks a) (byte_at (memory_past m (at addr size (Cas x y))) a) (byte_at (memory_past n (at addr size (Cas x y))) a)
    swap_bytes a = by_test (touches addr size a) refl
      where
        by_test : (b : Bool) → touches addr size a ≡ b → AgreeIn (masks a) (byte_at (memory_past m (at addr size (Cas x y))) a) (byte_at (memory_past n (at addr size (Cas x y))) a)
        by_test true t = let p = inside addr size a t in ap (masked (masks a)) (touched_alike m n (at addr size (Cas x y)) a r.sizes w.sizes mapped p.0 p.1 (λ e. all_found))
        by_test false t = ap (masked (masks a)) (untouched m (at addr size (Cas x y)) a t) ∙ (h.bytes a ∙ sym (ap (masked (masks a)) (untouched n (at addr size (Cas x y)) a t)))

    swap_sends : (p : MemoryContents) → (memory_past p (at addr size (Cas x y))).sent ≡ p.sent
    unfolding memory_past
    swap_sends p = by_tests (eqb addr uart_transmit) (eqb addr uart_status) (eqb (number_at p addr size) x)
      where
        by_tests : (b c d : Bool) → (cond b p (cond c p (cond d (with_bytes p addr (low_bytes size y)) p))).sent ≡ p.sent
        by_tests true c d = refl
        by_tests false true d = refl
        by_tests false false true = sent_of_bytes p addr (low_bytes size y)
        by_tests false false false = refl

    swapped_too : MemoriesAgree masks (memory_past m (at addr size (Cas x y))) (memory_past n (at addr size (Cas x y)))
    swapped_too = record { bytes = swap_bytes; sent = swap_sends m ∙ (h.sent ∙ sym (swap_sends n)) }

  -- ---- any access

  load_too : (addr size : ℕ) → MemoriesAgree masks (memory_past m (at addr size Load)) (memory_past n (at addr size Load))
  load_too addr size =
      subst (λ (p : MemoryContents). MemoriesAgree masks p (memory_past n (at addr size Load))) (sym (load_keeps m addr size)) (subst (λ (p : MemoryContents). MemoriesAgree masks m p) (sym (load_keeps n addr size)) h)

  -- of two kinds that agree
  kinds_too : (addr size stored : ℕ) (k l : Kind) → is_mapped (at addr size k) ≡ true → KindsAgree stored k l → (addr ≡ uart_transmit → SendAgrees k l)
      → found_used (Some (at addr size k)) (reply_mask masks (Some (at addr size k))) ≡ true
      → (is_store k ≡ is_store l) × MemoriesAgree (mask_stored stored (Some (at addr size k)) masks) (memory_past m (at addr size k)) (memory_past n (at addr size l))
  kinds_too addr size stored (Store x) (Store y) mapped same sends found = (refl, stored_too addr size stored x y mapped same sends)
  kinds_too addr size stored (Store x) Load mapped same sends found = absurd cc
  kinds_too addr size stored (Store x) (Cas p q) mapped same sends found = absurd cc
  kinds_too addr size stored Load l mapped same sends found =
      subst (λ (z : Kind). (false ≡ is_store z) × MemoriesAgree masks (memory_past m (at addr size Load)) (memory_past n (at addr size z))) same (refl, load_too addr size)
  kinds_too addr size stored (Cas x y) l mapped same sends found =
      subst (λ (z : Kind). (false ≡ is_store z) × MemoriesAgree masks (memory_past m (at addr size (Cas x y))) (memory_past n (at addr size z))) same (refl, swapped_too addr size stored x y mapped found)

  pub accesses_too : (stored : ℕ) (a b : Option Access) → IsServed a → AccessAgrees stored a b → SentAgrees a b → found_used a (reply_mask masks a) ≡ true
      → AgreeIn (reply_mask masks a) (answer a m) (answer b n) × MemoriesAgree (mask_stored stored a masks) (memory_left a m) (memory_left b n)
  accesses_too stored None None served same sends found = (refl, h)
  accesses_too stored None (Some b) served same sends found = absurd same
  accesses_too stored (Some a) None served same sends found = absurd same
  accesses_too stored (Some a) (Some b) served same sends found =
      let k = kinds_too a.addr a.size stored a.kind b.kind served same.2 sends found in
      subst (λ (x : Access). AgreeIn (reply_mask masks (Some a)) (reply_to m a) (reply_to n x) × MemoriesAgree (mask_stored stored (Some a) masks) (memory_past m a) (memory_past n x))
      (λ i. record { addr = same.0 i; size = same.1 i; kind = b.kind })
      (replies_agree_at masks small m n r w h.bytes a.addr a.size a.kind b.kind served k.0, k.1)
