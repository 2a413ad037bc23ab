-- Two memories that are equal at the bytes which an access touches: its reply is the same, and so are these bytes afterwards.
use Rattle.std.proofs.Common.{◌≡◌, ◌⊎◌, ⊎_elim, inl, inr, ℕ, zero, suc, ◌+◌, ◌<◌, ◌≤◌, Bool, true, false, ◌||◌, ◌&&◌, cond, eqb, leb, ltb, refl, sym, ◌∙◌, ap, arith, List, [], ◌∷◌, length, Some, Option}
use Rattle.std.proofs.lemmas.Bool.{cases_eq, cases_lt, cases_Bool, and_parts, and_from, le-leb, lt-ltb, leb-true, ltb-true, eqb-true, true≢false, false≢true, or_cases}
use Rattle.xt_map.specs.declared.regions.Region.{Region}
use Rattle.xt_map.specs.declared.regions.Region.TheVariants.{RtcFastData, Dram, RtcSlow}
use Rattle.xt_map.specs.declared.access.Access.{Access}
use Rattle.xt_map.specs.declared.access.Kind.{Kind}
use Rattle.xt_map.specs.declared.access.Kind.TheVariants.{Load, Store, Cas}
use Rattle.xt_map.specs.declared.contents.MemoryContents.{MemoryContents}
use Rattle.xt_map.specs.Regions.{region_of, is_memory, is_mapped, is_size, is_uart, uart_transmit, uart_status}
use Rattle.xt_map.specs.Memory.{HasSizes, byte_in, byte_at, with_byte, with_bytes, low_bytes, bytes_at, little_endian}
use Rattle.xt_map.specs.Serving.{number_at, access_reply, reply_to, contents_after, memory_past, with_sent}
use Rattle.xt_map.specs.Touching.{touches, is_store}
use Rattle.xt_map.proofs.Ranged.{dram_range, rtc_fast_data_range, rtc_slow_range}
use Rattle.xt_map.proofs.Stored.{byte_put, byte_elsewhere, byte_keeps_sizes, access_elsewhere, length-low_bytes}

-- ---- one byte, in two memories
nothing_in : (r : Option Region) (m : MemoryContents) (a : ℕ) → is_memory r ≡ false → byte_in r m a ≡ 0
nothing_in (Some RtcFastData) m a h = absurd (true≢false h)
nothing_in (Some Dram) m a h = absurd (true≢false h)
nothing_in (Some RtcSlow) m a h = absurd (true≢false h)
nothing_in _ m a h = refl

pub outside_memory : (m : MemoryContents) (a : ℕ) → is_memory (region_of a) ≡ false → byte_at m a ≡ 0
unfolding byte_at
outside_memory m a h = nothing_in (region_of a) m a h

put_alike : (m n : MemoryContents) (x b a : ℕ) → HasSizes m → HasSizes n → (byte_at m a ≡ byte_at n a) ⊎ (a ≡ x) → byte_at (with_byte m x b) a ≡ byte_at (with_byte n x b) a
put_alike m n x b a s t h = ⊎_elim
    (λ same. ⊎_elim
    (λ is. ap (byte_at (with_byte m x b)) same ∙ (byte_put m x b s is ∙ sym (ap (byte_at (with_byte n x b)) same ∙ byte_put n x b t is)))
    (λ isnt. let z : is_memory (region_of a) ≡ false = rw same isnt in outside_memory (with_byte m x b) a z ∙ sym (outside_memory (with_byte n x b) a z))
    (cases_Bool (is_memory (region_of x))))
    (λ other. byte_elsewhere m x b a (λ e. other (sym e)) ∙ (⊎_elim (λ e. e) (λ e. absurd (other e)) h ∙ sym (byte_elsewhere n x b a (λ e. other (sym e)))))
    (cases_eq a x)

alike : (bs : List ℕ) (m n : MemoryContents) (x a : ℕ) → HasSizes m → HasSizes n → (byte_at m a ≡ byte_at n a) ⊎ ((x ≤ a) × (a < x + length bs)) → byte_at (with_bytes m x bs) a ≡ byte_at (with_bytes n x bs) a
alike [] m n x a s t (inl e) = e
alike [] m n x a s t (inr p) = let lo = p.0 in let up = p.1 in absurd (omega arith)
alike (b ∷ bs) m n x a s t h = alike bs (with_byte m x b) (with_byte n x b) (x + 1) a (byte_keeps_sizes m x b s) (byte_keeps_sizes n x b t) (next h)
  where
    next : (byte_at m a ≡ byte_at n a) ⊎ ((x ≤ a) × (a < x + suc (length bs))) → (byte_at (with_byte m x b) a ≡ byte_at (with_byte n x b) a) ⊎ ((x + 1 ≤ a) × (a < x + 1 + length bs))
    next (inl e) = inl (put_alike m n x b a s t (inl e))
    next (inr p) = let lo = p.0 in let up = p.1 in ⊎_elim
        (λ here. inl (put_alike m n x b a s t (inr here)))
        (λ other. inr (omega arith, omega arith))
        (cases_eq a x)

-- ---- several bytes
pub same_bytes : (m n : MemoryContents) (size a : ℕ) → ((x : ℕ) → a ≤ x → x < a + size → byte_at m x ≡ byte_at n x) → bytes_at m a size ≡ bytes_at n a size
same_bytes m n zero a h = refl
same_bytes m n (suc size) a h =
    let first = h a (omega arith) (omega arith) in
    let rest = same_bytes m n size (a + 1) (λ x lo up. h x (omega arith) (omega arith)) in
    rw (first, rest) refl

pub touched_at : (addr size a : ℕ) → addr ≤ a → a < addr + size → touches addr size a ≡ true
touched_at addr size a lo hi = and_from _ _ (le-leb addr a lo) (lt-ltb a (addr + size) hi)

pub inside : (addr size a : ℕ) → touches addr size a ≡ true → (addr ≤ a) × (a < addr + size)
inside addr size a t = let p = and_parts (leb addr a) (ltb a (addr + size)) t in (leb-true _ _ p.0, ltb-true _ _ p.1)

pub outside : (addr size a : ℕ) → touches addr size a ≡ false → (a < addr) ⊎ (addr + size ≤ a)
outside addr size a t = ⊎_elim
    (λ below. inl below)
    (λ above. ⊎_elim (λ h. absurd (false≢true (sym t ∙ touched_at addr size a above h))) (λ h. inr h) (cases_lt a (addr + size)))
    (cases_lt a addr)

pub untouched : (m : MemoryContents) (access : Access) (a : ℕ) → touches access.addr access.size a ≡ false → byte_at (memory_past m access) a ≡ byte_at m a
untouched m access a t = access_elsewhere m access a (outside access.addr access.size a t)

-- ---- replies
same_replied : (k : Kind) (x y : ℕ) → (is_store k ≡ false → x ≡ y) → access_reply k x ≡ access_reply k y
same_replied Load x y h = h refl
same_replied (Store v) x y h = refl
same_replied (Cas expected new) x y h = h refl

pub same_reply : (real framed : MemoryContents) (access : Access) → (is_store access.kind ≡ false → number_at real access.addr access.size ≡ number_at framed access.addr access.size) → reply_to real access ≡ reply_to framed access
unfolding reply_to
same_reply real framed access h = let e = same_replied access.kind (number_at real access.addr access.size) (number_at framed access.addr access.size) h in ap (λ x. cond (is_uart access.addr) 0 x) e

-- ---- memories
-- UART0 is no memory
uart_region : (a : ℕ) → 0x3FF40000 ≤ a → a < 0x3FF40020 → is_memory (region_of a) ≡ false
uart_region a lo up = none (region_of a) refl
  where
    none : (r : Option Region) → region_of a ≡ r → is_memory r ≡ false
    none (Some RtcFastData) e = let p = rtc_fast_data_range a e in let l = p.0 in absurd (omega arith)
    none (Some Dram) e = let p = dram_range a e in let l = p.0 in absurd (omega arith)
    none (Some RtcSlow) e = let p = rtc_slow_range a e in let l = p.0 in absurd (omega arith)
    none _ e = refl

uart_byte : (m n : MemoryContents) (a : ℕ) → 0x3FF40000 ≤ a → a < 0x3FF40020 → byte_at m a ≡ byte_at n a
uart_byte m n a lo up = let z = uart_region a lo up in outside_memory m a z ∙ sym (outside_memory n a z)

pub three_sizes : (n : ℕ) → is_size n ≡ true → (n ≡ 1) ⊎ ((n ≡ 2) ⊎ (n ≡ 4))
three_sizes n h = ⊎_elim (λ e. inl (eqb-true n 1 e)) (λ r. ⊎_elim (λ e. inr (inl (eqb-true n 2 e))) (λ e. inr (inr (eqb-true n 4 e))) (or_cases (eqb n 2) (eqb n 4) r)) (or_cases (eqb n 1) (eqb n 2 || eqb n 4) h)

pub size_small : (a : Access) → is_mapped a ≡ true → a.size ≤ 4
size_small a h = ⊎_elim (λ e. omega arith) (λ r. ⊎_elim (λ e. omega arith) (λ e. omega arith) r) (three_sizes a.size (and_parts (is_size a.size) _ h).0)

same_if : (b c : Bool) (x y z w : MemoryContents) (a : ℕ) → b ≡ c → byte_at x a ≡ byte_at z a → byte_at y a ≡ byte_at w a → byte_at (cond b x y) a ≡ byte_at (cond c z w) a
same_if true true x y z w a e p q = p
same_if true false x y z w a e p q = absurd (true≢false e)
same_if false true x y z w a e p q = absurd (true≢false (sym e))
same_if false false x y z w a e p q = q

in_bytes : (size v x a : ℕ) → x ≤ a → a < x + size → (x ≤ a) × (a < x + length (low_bytes size v))
in_bytes size v x a lo up = let l = length-low_bytes size v in (lo, omega arith)

-- a touched byte, where what is not stored was equal
changed_alike : (m n : MemoryContents) (x size : ℕ) (k : Kind) (a : ℕ) → HasSizes m → HasSizes n → x ≤ a → a < x + size → (is_store k ≡ false → ((y : ℕ) → x ≤ y → y < x + size → byte_at m y ≡ byte_at n y)) → byte_at (contents_after m x size k) a ≡ byte_at (contents_after n x size k) a
changed_alike m n x size Load a s t lo up h = h refl a lo up
changed_alike m n x size (Store v) a s t lo up h = alike (low_bytes size v) m n x a s t (inr (in_bytes size v x a lo up))
changed_alike m n x size (Cas expected new) a s t lo up h =
    let e : number_at m x size ≡ number_at n x size = ap little_endian (same_bytes m n size x (h refl)) in
    same_if (eqb (number_at m x size) expected) (eqb (number_at n x size) expected) (with_bytes m x (low_bytes size new)) m (with_bytes n x (low_bytes size new)) n a (ap (λ z. eqb z expected) e)
    (alike (low_bytes size new) m n x a s t (inr (in_bytes size new x a lo up))) (h refl a lo up)

pub touched_alike : (m n : MemoryContents) (access : Access) (a : ℕ) → HasSizes m → HasSizes n → is_mapped access ≡ true → access.addr ≤ a → a < access.addr + access.size
    → (is_store access.kind ≡ false → ((y : ℕ) → access.addr ≤ y → y < access.addr + access.size → byte_at m y ≡ byte_at n y)) → byte_at (memory_past m access) a ≡ byte_at (memory_past n access) a
unfolding memory_past
touched_alike m n access a s t mapped lo up h =
    let small = size_small access mapped in
    ⊎_elim
    (λ transmit. let e = eqb-true access.addr uart_transmit transmit in uart_byte (cond (eqb access.addr uart_transmit) (with_sent m access.kind) (cond (eqb access.addr uart_status) m (contents_after m access.addr access.size access.kind))) (cond (eqb access.addr uart_transmit) (with_sent n access.kind) (cond (eqb access.addr uart_status) n (contents_after n access.addr access.size access.kind))) a (omega arith) (omega arith))
    (λ not_transmit. ⊎_elim
    (λ status. let e = eqb-true access.addr uart_status status in uart_byte (cond (eqb access.addr uart_transmit) (with_sent m access.kind) (cond (eqb access.addr uart_status) m (contents_after m access.addr access.size access.kind))) (cond (eqb access.addr uart_transmit) (with_sent n access.kind) (cond (eqb access.addr uart_status) n (contents_after n access.addr access.size access.kind))) a (omega arith) (omega arith))
    (λ not_status. let c = changed_alike m n access.addr access.size access.kind a s t lo up h in let p : eqb access.addr uart_transmit ≡ false = not_transmit in let q : eqb access.addr uart_status ≡ false = not_status in rw (p, q) c)
    (cases_Bool (eqb access.addr uart_status)))
    (cases_Bool (eqb access.addr uart_transmit))
