-- Memories with the same bytes are one, so bytes may be put in any order.
use Rattle.std.proofs.Common.{◌≡◌, ◌≢◌, ℕ, ◌+◌, ◌<◌, true, List, length, ⊎_elim, refl, sym, ap, ◌∙◌, subst, arith}
use Rattle.std.proofs.lemmas.Bool.{cases_Bool, cases_eq}
use Rattle.std.proofs.lemmas.List.{ext_get_or}
use Rattle.xt_map.specs.declared.regions.Region.TheVariants.{RtcFastData, Dram, RtcSlow}
use Rattle.xt_map.specs.declared.contents.MemoryContents.{MemoryContents}
use Rattle.xt_map.specs.Regions.{region_of, is_memory}
use Rattle.xt_map.specs.Memory.{HasSizes, byte_at, with_byte, dram_first, dram_size, rtc_fast_data_first, rtc_fast_data_size, rtc_slow_first, rtc_slow_size}
use Rattle.xt_map.proofs.Alike.{outside_memory}
use Rattle.xt_map.proofs.Sent.{sent_of_byte}
use Rattle.xt_map.proofs.Stored.{byte_put, byte_elsewhere, byte_keeps_sizes}
use Rattle.xt_bus.proofs.Regional.{byte_is}

rtc_fast_data_same : (m n : MemoryContents) → HasSizes m → HasSizes n → ((a : ℕ) → byte_at m a ≡ byte_at n a) → m.rtc_fast_data ≡ n.rtc_fast_data
rtc_fast_data_same m n s t h =
    let z : length m.rtc_fast_data ≡ rtc_fast_data_size = s.rtc_fast_data in
    ext_get_or 0 m.rtc_fast_data n.rtc_fast_data (s.rtc_fast_data ∙ sym t.rtc_fast_data)
    (λ i less. let in_range : i < rtc_fast_data_size = omega arith in sym (byte_is RtcFastData m i refl in_range) ∙ h (rtc_fast_data_first + i) ∙ byte_is RtcFastData n i refl in_range)

dram_same : (m n : MemoryContents) → HasSizes m → HasSizes n → ((a : ℕ) → byte_at m a ≡ byte_at n a) → m.dram ≡ n.dram
dram_same m n s t h =
    let z : length m.dram ≡ dram_size = s.dram in
    ext_get_or 0 m.dram n.dram (s.dram ∙ sym t.dram)
    (λ i less. let in_range : i < dram_size = omega arith in sym (byte_is Dram m i refl in_range) ∙ h (dram_first + i) ∙ byte_is Dram n i refl in_range)

rtc_slow_same : (m n : MemoryContents) → HasSizes m → HasSizes n → ((a : ℕ) → byte_at m a ≡ byte_at n a) → m.rtc_slow ≡ n.rtc_slow
rtc_slow_same m n s t h =
    let z : length m.rtc_slow ≡ rtc_slow_size = s.rtc_slow in
    ext_get_or 0 m.rtc_slow n.rtc_slow (s.rtc_slow ∙ sym t.rtc_slow)
    (λ i less. let in_range : i < rtc_slow_size = omega arith in sym (byte_is RtcSlow m i refl in_range) ∙ h (rtc_slow_first + i) ∙ byte_is RtcSlow n i refl in_range)

pub same_memory : (m n : MemoryContents) → HasSizes m → HasSizes n → m.sent ≡ n.sent → ((a : ℕ) → byte_at m a ≡ byte_at n a) → m ≡ n
same_memory m n s t e h =
    let make : List ℕ → List ℕ → List ℕ → List ℕ → MemoryContents = λ x y z w. record { rtc_fast_data = x; dram = y; rtc_slow = z; sent = w } in
    ap (λ (x : List ℕ). make x m.dram m.rtc_slow m.sent) (rtc_fast_data_same m n s t h)
    ∙ ap (λ (y : List ℕ). make n.rtc_fast_data y m.rtc_slow m.sent) (dram_same m n s t h)
    ∙ ap (λ (z : List ℕ). make n.rtc_fast_data n.dram z m.sent) (rtc_slow_same m n s t h)
    ∙ ap (make n.rtc_fast_data n.dram n.rtc_slow) e

-- outside the memory regions all bytes are 0
pub by_region : (m n : MemoryContents) (y : ℕ) → (is_memory (region_of y) ≡ true → byte_at m y ≡ byte_at n y) → byte_at m y ≡ byte_at n y
by_region m n y h = ⊎_elim h (λ out. outside_memory m y out ∙ sym (outside_memory n y out)) (cases_Bool (is_memory (region_of y)))

-- two bytes at different addresses may be put in either order
swapped_at : (m : MemoryContents) (a b x v y : ℕ) → HasSizes m → a ≢ x → is_memory (region_of y) ≡ true
    → byte_at (with_byte (with_byte m a b) x v) y ≡ byte_at (with_byte (with_byte m x v) a b) y
swapped_at m a b x v y s ne mem = ⊎_elim
    (λ (is : y ≡ a).
    let here : is_memory (region_of a) ≡ true = subst (λ (z : ℕ). is_memory (region_of z) ≡ true) is mem in
    ap (byte_at (with_byte (with_byte m a b) x v)) is
    ∙ byte_elsewhere (with_byte m a b) x v a (λ e. ne (sym e)) ∙ byte_put m a b s here
    ∙ sym (ap (byte_at (with_byte (with_byte m x v) a b)) is ∙ byte_put (with_byte m x v) a b (byte_keeps_sizes m x v s) here))
    (λ (isnt : y ≢ a). ⊎_elim
    (λ (is : y ≡ x).
    let here : is_memory (region_of x) ≡ true = subst (λ (z : ℕ). is_memory (region_of z) ≡ true) is mem in
    ap (byte_at (with_byte (with_byte m a b) x v)) is ∙ byte_put (with_byte m a b) x v (byte_keeps_sizes m a b s) here
    ∙ sym (ap (byte_at (with_byte (with_byte m x v) a b)) is ∙ byte_elsewhere (with_byte m x v) a b x ne ∙ byte_put m x v s here))
    (λ (other : y ≢ x).
    byte_elsewhere (with_byte m a b) x v y (λ e. other (sym e)) ∙ byte_elsewhere m a b y (λ e. isnt (sym e))
    ∙ sym (byte_elsewhere (with_byte m x v) a b y (λ e. isnt (sym e)) ∙ byte_elsewhere m x v y (λ e. other (sym e))))
    (cases_eq y x))
    (cases_eq y a)

pub swapped : (m : MemoryContents) (a b x v : ℕ) → HasSizes m → a ≢ x → with_byte (with_byte m a b) x v ≡ with_byte (with_byte m x v) a b
swapped m a b x v s ne =
    let left = with_byte (with_byte m a b) x v in
    let right = with_byte (with_byte m x v) a b in
    same_memory left right
    (byte_keeps_sizes (with_byte m a b) x v (byte_keeps_sizes m a b s))
    (byte_keeps_sizes (with_byte m x v) a b (byte_keeps_sizes m x v s))
    ((sent_of_byte (with_byte m a b) x v ∙ sent_of_byte m a b) ∙ sym (sent_of_byte (with_byte m x v) a b ∙ sent_of_byte m x v))
    (λ y. by_region left right y (swapped_at m a b x v y s ne))

-- the later byte at an address stays
put_over_at : (m : MemoryContents) (a b v y : ℕ) → HasSizes m → is_memory (region_of y) ≡ true → byte_at (with_byte (with_byte m a v) a b) y ≡ byte_at (with_byte m a b) y
put_over_at m a b v y s mem = ⊎_elim
    (λ (is : y ≡ a).
    let here : is_memory (region_of a) ≡ true = subst (λ (z : ℕ). is_memory (region_of z) ≡ true) is mem in
    ap (byte_at (with_byte (with_byte m a v) a b)) is ∙ byte_put (with_byte m a v) a b (byte_keeps_sizes m a v s) here
    ∙ sym (ap (byte_at (with_byte m a b)) is ∙ byte_put m a b s here))
    (λ (isnt : y ≢ a).
    byte_elsewhere (with_byte m a v) a b y (λ e. isnt (sym e)) ∙ byte_elsewhere m a v y (λ e. isnt (sym e))
    ∙ sym (byte_elsewhere m a b y (λ e. isnt (sym e))))
    (cases_eq y a)

pub put_over : (m : MemoryContents) (a b v : ℕ) → HasSizes m → with_byte (with_byte m a v) a b ≡ with_byte m a b
put_over m a b v s =
    let left = with_byte (with_byte m a v) a b in
    let right = with_byte m a b in
    same_memory left right
    (byte_keeps_sizes (with_byte m a v) a b (byte_keeps_sizes m a v s)) (byte_keeps_sizes m a b s)
    ((sent_of_byte (with_byte m a v) a b ∙ sent_of_byte m a v) ∙ sym (sent_of_byte m a b))
    (λ y. by_region left right y (put_over_at m a b v y s))

-- a byte that stands there already changes nothing
put_same_at : (m : MemoryContents) (a b y : ℕ) → HasSizes m → byte_at m a ≡ b → is_memory (region_of y) ≡ true → byte_at (with_byte m a b) y ≡ byte_at m y
put_same_at m a b y s e mem = ⊎_elim
    (λ (is : y ≡ a).
    let here : is_memory (region_of a) ≡ true = subst (λ (z : ℕ). is_memory (region_of z) ≡ true) is mem in
    ap (byte_at (with_byte m a b)) is ∙ byte_put m a b s here ∙ sym e ∙ ap (byte_at m) (sym is))
    (λ (isnt : y ≢ a). byte_elsewhere m a b y (λ e. isnt (sym e)))
    (cases_eq y a)

pub put_same : (m : MemoryContents) (a b : ℕ) → HasSizes m → byte_at m a ≡ b → with_byte m a b ≡ m
put_same m a b s e =
    same_memory (with_byte m a b) m (byte_keeps_sizes m a b s) s (sent_of_byte m a b)
    (λ y. by_region (with_byte m a b) m y (put_same_at m a b y s e))
