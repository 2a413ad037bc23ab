-- Looking up an address in the starts of the segments.
use Rattle.std.proofs.Common.{◌≡◌, ℕ, ◌+◌, ◌-◌, ◌<◌, ◌≤◌, true, List, [], length, get_or, Option, Some, None, ⊎_elim, refl, sym, ap, ap₂, ◌∙◌, arith, find}
use Rattle.std.specs.Prelude.{slice_index, nat_lt}
use Rattle.std.specs.List.Sorted.{IsNonDecreasingBy, IsPermutation}
use Rattle.std.specs.Option.{option_map_or}
use Rattle.std.proofs.lemmas.Bool.{and_parts, and_from, cases_lt}
use Rattle.std.proofs.lemmas.Bool.Decides.{nat_tests}
use Rattle.std.proofs.lemmas.List.{get_or_default}
use Rattle.std.proofs.lemmas.List.Sorted.{All-permutation, Contains-permutation}
use Rattle.xt_map.specs.declared.segment.Segment.{Segment}
use Rattle.xt_map.specs.declared.constants.Start.{Start}
use Rattle.xt_map.specs.Regions.{is_constant, region_of}
use Rattle.xt_map.specs.Memory.{constant_byte, holds_address, is_loaded, loaded_byte}
use Rattle.xt_map.specs.Index.{HasStarts, IsCountUpto, IsIndexed, IsStart, has_bytes, start_of}
use Rattle.xt_map.proofs.Placed.{Holds, holds_parts, holds_from, only_one, find_only, find_none}

pub starts_moved : (segments : List Segment) (old new : List Start) → IsPermutation old new → HasStarts segments (length segments) old → HasStarts segments (length segments) new
starts_moved segments old new moved h = record {
  sound = All-permutation (IsStart segments) old new moved h.sound;
  complete = λ k d lt has. Contains-permutation old new _ moved (h.complete k d lt has);
}

-- where the last start has an address up to this one, all have
pub all_upto : (starts : List Start) (a : ℕ) (e : Start) → IsNonDecreasingBy (λ (s : Start). s.addr) starts → 0 < length starts
    → (get_or starts (length starts - 1) e).addr ≤ a → IsCountUpto starts a (length starts)
all_upto starts a e ascending some last = record {
  bound = omega arith;
  upto = λ k d lt.
      let step : (get_or starts k e).addr ≤ (get_or starts (length starts - 1) e).addr = ascending k (length starts - 1) e (omega arith) (omega arith) in
      let same : (get_or starts k d).addr ≡ (get_or starts k e).addr = ap (λ (s : Start). s.addr) (get_or_default starts k d e lt) in
      omega arith;
  above = λ k d le lt. omega arith;
}

above_zero : (n : ℕ) → nat_lt 0 n ≡ true → 0 < n
above_zero n h = grind (arith, nat_tests)

is_above_zero : (n : ℕ) → 0 < n → nat_lt 0 n ≡ true
is_above_zero n h = grind (arith, nat_tests)

has_some : (a : ℕ) (s : Segment) → Holds a s → has_bytes s ≡ true
has_some a s h = and_from (is_loaded s) (nat_lt 0 (length s.bytes)) h.loaded (is_above_zero _ (let lt : a - s.addr < length s.bytes = h.ends in omega arith))

-- a segment with bytes has one at its first address
holds_first : (s : Segment) → has_bytes s ≡ true → Holds s.addr s
holds_first s h =
    let (loaded, some) = and_parts (is_loaded s) (nat_lt 0 (length s.bytes)) h in
    let lt : 0 < length s.bytes = above_zero _ some in
    record { loaded = loaded; begins = omega arith; ends = omega arith }

not_from : (starts : List Start) (a count m : ℕ) (e : Start) → IsCountUpto starts a count → m < length starts → (get_or starts m e).addr ≤ a → count ≤ m → ⊥
not_from starts a count m e upto lm le past = (let gt : a < (get_or starts m e).addr = upto.above m e past lm in omega arith)

below_count : (starts : List Start) (a count m : ℕ) (e : Start) → IsCountUpto starts a count → m < length starts → (get_or starts m e).addr ≤ a → m < count
below_count starts a count m e upto lm le = ⊎_elim (λ (h : m < count). h) (λ (h : count ≤ m). absurd (not_from starts a count m e upto lm le h)) (cases_lt m count)

-- a segment that holds the address is the one whose start is the last up to the address
record Last (segments : List Segment) (starts : List Start) (count j : ℕ) : Type 0 where
  some : 0 < count
  is : (e : Start) → (get_or starts (count - 1) e).number ≡ j

last_is : (segments : List Segment) (starts : List Start) (a count j : ℕ) (d : Segment) → IsIndexed segments starts → IsCountUpto starts a count → j < length segments
    → Holds a (get_or segments j d) → Last segments starts count j
last_is segments starts a count j d ix upto lt holds =
    let y = get_or segments j d in
    let start = start_of y j in
    let (m, lm, at) = ix.has_starts.complete j d lt (has_some a y holds) in
    let begins : y.addr ≤ a = holds.begins in
    let here : (get_or starts m start).addr ≡ y.addr = ap (λ (s : Start). s.addr) at in
    let lc : m < count = below_count starts a count m start upto lm (omega arith) in
    let lk : count - 1 < length starts = (let b : count ≤ length starts = upto.bound in omega arith) in
    record {
      some = omega arith;
      is = λ e.
          let t = get_or starts (count - 1) e in
          let names = ix.has_starts.sound (count - 1) e lk in
          let s = get_or segments t.number d in
          let first : t.addr ≡ s.addr = names.addr d in
          let after : (get_or starts m e).addr ≤ t.addr = ix.ascending m (count - 1) e (omega arith) lk in
          let same : (get_or starts m e).addr ≡ y.addr = ap (λ (s : Start). s.addr) (get_or_default starts m e start lm) ∙ here in
          let before : t.addr ≤ a = upto.upto (count - 1) e (omega arith) in
          let ends : a - y.addr < length y.bytes = holds.ends in
          only_one segments s.addr t.number j d ix.placed names.number lt (holds_first s (names.loaded d))
          (record { loaded = holds.loaded; begins = omega arith; ends = omega arith });
    }

pub constant_is_loaded : (segments : List Segment) (a : ℕ) → is_constant (region_of a) ≡ true → constant_byte segments a ≡ loaded_byte segments a
unfolding constant_byte
constant_is_loaded segments a h = rw h refl

abbrev found_byte : ℕ → Option Segment → ℕ
found_byte a o = option_map_or (λ s. slice_index s.bytes (a - s.addr)) o 0

-- no start is of an address up to this one
pub none_upto : (segments : List Segment) (starts : List Start) (a count : ℕ) → IsIndexed segments starts → IsCountUpto starts a count → count ≡ 0
    → is_constant (region_of a) ≡ true → 0 ≡ constant_byte segments a
none_upto segments starts a count ix upto none constant =
    let d : Segment = record { addr = 0; bytes = [] } in
    let nothing : find (holds_address a) segments ≡ None =
    find_none (holds_address a) segments d (λ j lt h. (let some : 0 < count = (last_is segments starts a count j d ix upto lt (holds_parts a _ h)).some in omega arith)) in
    sym (ap (found_byte a) nothing) ∙ sym (constant_is_loaded segments a constant)

named : (segments : List Segment) (starts : List Start) (a count : ℕ) (e : Start) → IsIndexed segments starts → IsCountUpto starts a count → 0 < count
    → IsStart segments (get_or starts (count - 1) e)
named segments starts a count e ix upto some = ix.has_starts.sound (count - 1) e (let b : count ≤ length starts = upto.bound in omega arith)

-- the last start up to the address is of a segment that ends before it
pub none_found : (segments : List Segment) (starts : List Start) (a count : ℕ) (e : Start) (d : Segment) (bytes : List ℕ) → IsIndexed segments starts → IsCountUpto starts a count → 0 < count
    → bytes ≡ (get_or segments (get_or starts (count - 1) e).number d).bytes → length bytes ≤ a - (get_or starts (count - 1) e).addr
    → is_constant (region_of a) ≡ true → 0 ≡ constant_byte segments a
none_found segments starts a count e d bytes ix upto some is le constant =
    let t = get_or starts (count - 1) e in
    let names = named segments starts a count e ix upto some in
    let here = get_or segments t.number d in
    let addr : t.addr ≡ here.addr = names.addr d in
    let size : length bytes ≡ length here.bytes = ap (λ (b : List ℕ). length b) is in
    let misses : (j : ℕ) → j < length segments → holds_address a (get_or segments j d) ≡ true → ⊥ = λ j l h.
    let same : t.number ≡ j = (last_is segments starts a count j d ix upto l (holds_parts a _ h)).is e in
    let held = holds_parts a (get_or segments j d) h in
    let ends : a - (get_or segments j d).addr < length (get_or segments j d).bytes = held.ends in
    let one : here.addr ≡ (get_or segments j d).addr = ap (λ n. (get_or segments n d).addr) same in
    let two : length here.bytes ≡ length (get_or segments j d).bytes = ap (λ n. length (get_or segments n d).bytes) same in
    omega arith in
    let nothing : find (holds_address a) segments ≡ None = find_none (holds_address a) segments d misses in
    sym (ap (found_byte a) nothing) ∙ sym (constant_is_loaded segments a constant)

-- the segment of the last start up to an address holds every address after it, up to the segment's end
pub found_from : (segments : List Segment) (starts : List Start) (a b count : ℕ) (e : Start) (d : Segment) (bytes : List ℕ) → IsIndexed segments starts → IsCountUpto starts a count → 0 < count
    → bytes ≡ (get_or segments (get_or starts (count - 1) e).number d).bytes → a ≤ b → b - (get_or starts (count - 1) e).addr < length bytes
    → is_constant (region_of b) ≡ true → slice_index bytes (b - (get_or starts (count - 1) e).addr) ≡ constant_byte segments b
found_from segments starts a b count e d bytes ix upto some is le lt constant =
    let t = get_or starts (count - 1) e in
    let names = named segments starts a count e ix upto some in
    let here = get_or segments t.number d in
    let addr : t.addr ≡ here.addr = names.addr d in
    let size : length bytes ≡ length here.bytes = ap (λ (b : List ℕ). length b) is in
    let before : t.addr ≤ a = upto.upto (count - 1) e (omega arith) in
    let held : Holds b here = record { loaded = (and_parts (is_loaded here) (nat_lt 0 (length here.bytes)) (names.loaded d)).0; begins = omega arith; ends = omega arith } in
    let found : find (holds_address b) segments ≡ Some here =
    find_only (holds_address b) segments t.number d names.number (holds_from b here held)
    (λ j l h. only_one segments b j t.number d ix.placed l names.number (holds_parts b _ h) held) in
    ap₂ (λ (x : List ℕ) n. slice_index x (b - n)) is addr ∙ sym (ap (found_byte b) found) ∙ sym (constant_is_loaded segments b constant)

-- the same, by the place in the segment
pub found_behind : (segments : List Segment) (starts : List Start) (a k count : ℕ) (e : Start) (d : Segment) (bytes : List ℕ) → IsIndexed segments starts → IsCountUpto starts a count → 0 < count
    → bytes ≡ (get_or segments (get_or starts (count - 1) e).number d).bytes → a - (get_or starts (count - 1) e).addr + k < length bytes
    → is_constant (region_of (a + k)) ≡ true → slice_index bytes (a - (get_or starts (count - 1) e).addr + k) ≡ constant_byte segments (a + k)
found_behind segments starts a k count e d bytes ix upto some is lt constant =
    let t = get_or starts (count - 1) e in
    let before : t.addr ≤ a = upto.upto (count - 1) e (omega arith) in
    let same : a - t.addr + k ≡ a + k - t.addr = omega arith in
    ap (slice_index bytes) same ∙ found_from segments starts a (a + k) count e d bytes ix upto some is (omega arith) (omega arith) constant

pub three_same : (a b c x y z : ℕ) → a ≡ x → b ≡ y → c ≡ z → ◌≡◌ {A = ℕ × ℕ × ℕ} (a, b, c) (x, y, z)
three_same a b c x y z p q r = ap (λ n. (n, b, c)) p ∙ ap (λ n. (x, n, c)) q ∙ ap (λ n. (x, y, n)) r
