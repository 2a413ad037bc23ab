-- Which bits of the bytes of memory are not known.
use Rattle.std.proofs.Common.{◌≡◌, ◌⊎◌, ⊎_elim, inl, inr, ℕ, zero, suc, ◌+◌, ◌-◌, ◌*◌, ◌/◌, ◌%◌, ◌^◌, ◌<◌, ◌≤◌}
use Rattle.std.proofs.Common.{Bool, true, false, cond, eqb, ◌&&◌, Some, refl, sym, ap, ◌∙◌, arith}
use Rattle.std.proofs.lemmas.Bool.{cases_Bool, cases_lt, cond-true, eqb-true, true≢false}
use Rattle.std.proofs.lemmas.Nat.Bits.{bit_at_above, same_from_bits}
use Rattle.xt_map.specs.declared.access.Access.{Access}
use Rattle.xt_map.specs.declared.access.Kind.{Kind}
use Rattle.xt_map.specs.declared.access.Kind.TheVariants.{Store}
use Rattle.xt_map.specs.declared.contents.MemoryContents.{MemoryContents}
use Rattle.xt_map.specs.Memory.{HasSizes, byte_at, low_bytes, with_bytes}
use Rattle.xt_map.specs.Regions.{is_mapped, is_memory, region_of, uart_status, uart_transmit}
use Rattle.xt_map.specs.Serving.{memory_past, number_at, with_sent}
use Rattle.xt_map.specs.Touching.{IsMemory, is_store, touches}
use Rattle.xt_map.proofs.Alike.{inside, three_sizes, untouched}
use Rattle.xt_search.specs.Changed.{ChangesState, contents_of}
use Rattle.xt_uses.specs.FirstUse.{stored_byte}
use Rattle.xt_uses.specs.UseStep.{unknown_bits}
use Rattle.xt_uses.specs.Words.{all_bits, complement}
use Rattle.xt_uses.proofs.Bits.{flipped_at, flipped_word, rest_at}
use Rattle.xt_use_walk.specs.MaskedBytes.{AreBytes, is_byte}
use Rattle.xt_use_walk.proofs.Places.{byte_large}
use Rattle.xt_use_walk.proofs.Served.{served_bytes, served_size, touches_no_byte}
use Rattle.xt_simulation.specs.SecretBytes.{mask_stored}
use Rattle.xt_simulation.proofs.Numbers.{byte_stored}
use Rattle.xt_moment_search.specs.KnownCores.{known_byte, read_mask}

-- of a byte of memory
byte_known : (cleared : MemoryContents) (hidden : ChangesState) (a : ℕ) → is_byte a ≡ true
    → known_byte cleared hidden a ≡ 255 - byte_at (contents_of cleared hidden) a
byte_known cleared hidden a h =
    cond-true (is_byte a) (255 - byte_at (contents_of cleared hidden) a) 255 h

-- ---- a number that is read

pub unknown_are : (cleared : MemoryContents) (hidden : ChangesState)
    → IsMemory (contents_of cleared hidden) → (size addr : ℕ) → AreBytes addr size
    → unknown_bits (known_byte cleared hidden) addr size
    ≡ number_at (contents_of cleared hidden) addr size
unknown_are cleared hidden r zero addr bytes = refl
unknown_are cleared hidden r (suc size) addr bytes =
    let first = byte_known cleared hidden addr (bytes addr (omega arith) (omega arith)) in
    let small = r.small addr in
    let here : 255 - known_byte cleared hidden addr ≡ byte_at (contents_of cleared hidden) addr =
    omega (arith, first, small) in
    let rest = unknown_are cleared hidden r size (addr + 1)
    (λ a low high. bytes a (omega (arith, low)) (omega (arith, high))) in
    λ i. here i + 2 ^ 8 * rest i

-- ---- a number that is stored

flipped_is : (x : ℕ) → x < 2 ^ 32 → complement x ≡ 2 ^ 32 - suc x
flipped_is x small =
    same_from_bits (complement x) (2 ^ 32 - suc x)
    (λ i. ⊎_elim
    (λ low. flipped_at x i low ∙ sym (rest_at x i small low))
    (λ high. bit_at_above (complement x) 32 i (flipped_word x small) high
    ∙ sym (bit_at_above (2 ^ 32 - suc x) 32 i (omega arith) high))
    (cases_lt i 32))

-- byte j of so many that are stored
byte_of : (x size j : ℕ) → x < 2 ^ 32 → (size ≡ 1) ⊎ ((size ≡ 2) ⊎ (size ≡ 4)) → j < size
    → (2 ^ 32 - suc x) % 2 ^ (8 * size) / 2 ^ (8 * j) % 2 ^ 8 ≡ 255 - x / 2 ^ (8 * j) % 2 ^ 8
byte_of x size zero small (inl e) less =
    ap (λ (n : ℕ). (2 ^ 32 - suc x) % 2 ^ (8 * n) / 2 ^ 0 % 2 ^ 8) e ∙ omega (arith, small)
byte_of x size (suc j) small (inl e) less = absurd (omega (arith, e, less))
byte_of x size zero small (inr (inl e)) less =
    ap (λ (n : ℕ). (2 ^ 32 - suc x) % 2 ^ (8 * n) / 2 ^ 0 % 2 ^ 8) e ∙ omega (arith, small)
byte_of x size (suc zero) small (inr (inl e)) less =
    ap (λ (n : ℕ). (2 ^ 32 - suc x) % 2 ^ (8 * n) / 2 ^ 8 % 2 ^ 8) e ∙ omega (arith, small)
byte_of x size (suc (suc j)) small (inr (inl e)) less = absurd (omega (arith, e, less))
byte_of x size zero small (inr (inr e)) less =
    ap (λ (n : ℕ). (2 ^ 32 - suc x) % 2 ^ (8 * n) / 2 ^ 0 % 2 ^ 8) e ∙ omega (arith, small)
byte_of x size (suc zero) small (inr (inr e)) less =
    ap (λ (n : ℕ). (2 ^ 32 - suc x) % 2 ^ (8 * n) / 2 ^ 8 % 2 ^ 8) e ∙ omega (arith, small)
byte_of x size (suc (suc zero)) small (inr (inr e)) less =
    ap (λ (n : ℕ). (2 ^ 32 - suc x) % 2 ^ (8 * n) / 2 ^ 16 % 2 ^ 8) e ∙ omega (arith, small)
byte_of x size (suc (suc (suc zero))) small (inr (inr e)) less =
    ap (λ (n : ℕ). (2 ^ 32 - suc x) % 2 ^ (8 * n) / 2 ^ 24 % 2 ^ 8) e ∙ omega (arith, small)
byte_of x size (suc (suc (suc (suc j)))) small (inr (inr e)) less = absurd (omega (arith, e, less))

module _ (cleared : MemoryContents) (old new : ChangesState) (sizes : HasSizes cleared)
    (stored : ℕ) (small : stored < 2 ^ 32) (access : Access) (mapped : is_mapped access ≡ true) where
  abbrev Hidden : ℕ → Type 0
  Hidden a = known_byte cleared new a ≡ mask_stored stored (Some access) (known_byte cleared old) a

  -- no store to memory
  pub nothing_hidden : new ≡ old → ((a : ℕ) → is_byte a ≡ true
      → (is_store access.kind && touches access.addr access.size a) ≡ false)
      → (a : ℕ) → is_byte a ≡ true → Hidden a
  nothing_hidden same none a h =
      ap (λ (x : ChangesState). known_byte cleared x a) same
      ∙ ap (λ (b : Bool). cond b (stored_byte stored access.addr a) (known_byte cleared old a))
      (sym (none a h))

  and_no : (b : Bool) → (b && false) ≡ false
  and_no true = refl
  and_no false = refl

  -- a store to UART0
  pub nothing_at_uart : new ≡ old → is_memory (region_of access.addr) ≡ false
      → (a : ℕ) → is_byte a ≡ true → Hidden a
  nothing_at_uart same none = nothing_hidden same
      (λ a h. ap (λ (t : Bool). is_store access.kind && t) (touches_no_byte access a mapped none h)
      ∙ and_no (is_store access.kind))

  -- a store to memory of the bits that are not known
  module _ (v : ℕ) (kind : access.kind ≡ Store v) (here : is_memory (region_of access.addr) ≡ true)
      (past : contents_of cleared new
      ≡ memory_past (contents_of cleared old) (record {
        addr = access.addr;
        size = access.size;
        kind = Store (complement stored % 2 ^ (8 * access.size));
      })) where
    abbrev value : ℕ
    value = complement stored % 2 ^ (8 * access.size)

    abbrev shown : Access
    shown = record { addr = access.addr; size = access.size; kind = Store value }

    abbrev memory : MemoryContents
    memory = contents_of cleared old

    not_at : (place : ℕ) → place < 0x3FF80000 → eqb access.addr place ≡ false
    not_at place low = ⊎_elim
        (λ e. let at = eqb-true access.addr place e in let large = byte_large access.addr here in
        absurd (omega (arith, at, large, low)))
        (λ e. e)
        (cases_Bool (eqb access.addr place))

    past_is : memory_past memory shown ≡ with_bytes memory access.addr (low_bytes access.size value)
    unfolding memory_past
    past_is = by_tests (eqb access.addr uart_transmit) (eqb access.addr uart_status)
        (not_at uart_transmit (omega arith)) (not_at uart_status (omega arith))
      where
        by_tests : (b c : Bool) → b ≡ false → c ≡ false
            → cond b (with_sent memory (Store value)) (cond c memory
            (with_bytes memory access.addr (low_bytes access.size value)))
            ≡ with_bytes memory access.addr (low_bytes access.size value)
        by_tests true c e f = absurd (true≢false e)
        by_tests false true e f = absurd (true≢false f)
        by_tests false false e f = refl

    -- what a byte is that it touches
    byte_is : (a : ℕ) → access.addr ≤ a → a < access.addr + access.size
        → stored_byte value access.addr a ≡ 255 - stored_byte stored access.addr a
    byte_is a low high =
        ap (λ (n : ℕ). n % 2 ^ (8 * access.size) / 2 ^ (8 * (a - access.addr)) % 2 ^ 8)
        (flipped_is stored small)
        ∙ byte_of stored access.size (a - access.addr) small
        (three_sizes access.size (served_size access mapped)) (omega (arith, low, high))

    touched : HasSizes memory → (a : ℕ) → is_byte a ≡ true → access.addr ≤ a
        → a < access.addr + access.size
        → known_byte cleared new a ≡ stored_byte stored access.addr a
    touched s a h low high =
        let at : byte_at (contents_of cleared new) a ≡ 255 - stored_byte stored access.addr a =
        ap (λ (m : MemoryContents). byte_at m a) (past ∙ past_is)
        ∙ byte_stored access.size value memory access.addr a s h low high ∙ byte_is a low high in
        let few : stored_byte stored access.addr a < 2 ^ 8 = omega arith in
        byte_known cleared new a h ∙ ap (λ (n : ℕ). 255 - n) at ∙ omega (arith, few)

    pub store_hidden : HasSizes memory → (a : ℕ) → is_byte a ≡ true → Hidden a
    store_hidden s a h =
        by_touch (touches access.addr access.size a) refl
        ∙ ap (λ (x : Kind). cond (is_store x && touches access.addr access.size a)
        (stored_byte stored access.addr a) (known_byte cleared old a)) (sym kind)
      where
        by_touch : (b : Bool) → touches access.addr access.size a ≡ b
            → known_byte cleared new a
            ≡ cond b (stored_byte stored access.addr a) (known_byte cleared old a)
        by_touch true t = let p = inside access.addr access.size a t in touched s a h p.0 p.1
        by_touch false t =
            byte_known cleared new a h
            ∙ ap (λ (m : MemoryContents). 255 - byte_at m a) past
            ∙ ap (λ (n : ℕ). 255 - n) (untouched memory shown a t)
            ∙ sym (byte_known cleared old a h)

-- ---- what an access reads

pub number_read : (cleared : MemoryContents) (hidden : ChangesState) (access : Access) (n : ℕ)
    → is_mapped access ≡ true → is_memory (region_of access.addr) ≡ true
    → n ≡ number_at (contents_of cleared hidden) access.addr access.size
    → IsMemory (contents_of cleared hidden)
    → complement n ≡ read_mask (known_byte cleared hidden) access
number_read cleared hidden access n mapped here is r =
    ap complement (is ∙ sym (unknown_are cleared hidden r access.size access.addr
    (served_bytes access mapped here)))
    ∙ sym (cond-true (is_memory (region_of access.addr))
    (complement (unknown_bits (known_byte cleared hidden) access.addr access.size)) all_bits here)
