-- What was put so far: bytes, segments and words, and one more.
use Rattle.std.proofs.Common.{◌≡◌, ℕ, suc, ◌+◌, ◌<◌, true, false, List, [], ◌∷◌, ◌++◌, length, take, get_or, refl, sym, ap, ◌∙◌, arith}
use Rattle.std.specs.Prelude.{if◌then◌else◌}
use Rattle.std.proofs.lemmas.Bool.Decides.{nat_tests}
use Rattle.std.proofs.lemmas.List.{take_more, length-take-le}
use Rattle.xt_map.specs.declared.contents.MemoryContents.{MemoryContents}
use Rattle.xt_map.specs.declared.segment.Segment.{Segment}
use Rattle.xt_map.specs.Regions.{region_of, is_memory}
use Rattle.xt_map.specs.Memory.{is_loaded, low_bytes, with_byte, with_bytes, with_segments, with_words}
use Rattle.xt_bus.specs.Places.{lies_apart}
use Rattle.xt_bus.specs.States.{MemoryState, memory_state}
use Rattle.xt_bus.proofs.Regional.{with_byte_outside}

pub with_bytes_push : (m : MemoryContents) (a : ℕ) (bs : List ℕ) (b : ℕ) → with_bytes m a (bs ++ b ∷ []) ≡ with_byte (with_bytes m a bs) (a + length bs) b
with_bytes_push m a [] b = let e : a ≡ a + 0 = omega arith in ap (λ k. with_byte m k b) e
with_bytes_push m a (x ∷ xs) b =
    let e : a + 1 + length xs ≡ a + suc (length xs) = omega arith in
    with_bytes_push (with_byte m a x) (a + 1) xs b ∙ ap (λ k. with_byte (with_bytes (with_byte m a x) (a + 1) xs) k b) e

pub with_segments_push : (m : MemoryContents) (ss : List Segment) (s : Segment)
    → with_segments m (ss ++ s ∷ []) ≡ (if is_loaded s then with_bytes (with_segments m ss) s.addr s.bytes else with_segments m ss)
with_segments_push m [] s = refl
with_segments_push m (x ∷ xs) s = with_segments_push (if is_loaded x then with_bytes m x.addr x.bytes else m) xs s

pub with_words_push : (m : MemoryContents) (ws : List (ℕ × ℕ)) (w : ℕ × ℕ) → with_words m (ws ++ w ∷ []) ≡ with_bytes (with_words m ws) w.0 (low_bytes 4 w.1)
with_words_push m [] w = refl
with_words_push m (x ∷ xs) w = with_words_push (with_bytes m x.0 (low_bytes 4 x.1)) xs w

-- ---- bytes outside memory

apart_first : (a n : ℕ) → lies_apart a (suc n) ≡ true → is_memory (region_of a) ≡ false
unfolding region_of
apart_first a n h = grind (arith, nat_tests)

apart_rest : (a n : ℕ) → lies_apart a (suc n) ≡ true → lies_apart (a + 1) n ≡ true
apart_rest a n h = grind (arith, nat_tests)

pub apart_none : (m : MemoryContents) (a : ℕ) (bs : List ℕ) → lies_apart a (length bs) ≡ true → with_bytes m a bs ≡ m
apart_none m a [] h = refl
apart_none m a (b ∷ bs) h =
    ap (λ k. with_bytes k (a + 1) bs) (with_byte_outside m a b (apart_first a (length bs) h)) ∙ apart_none m (a + 1) bs (apart_rest a (length bs) h)

-- ---- a loop's step, as the state of the memory says it

pub bytes_more : (s0 s : MemoryState) (a : ℕ) (bs : List ℕ) (i : ℕ) → s ≡ memory_state (with_bytes s0.contents a (take i bs)) s0.room → i < length bs
    → memory_state (with_byte s.contents (a + i) (get_or bs i 0)) s.room ≡ memory_state (with_bytes s0.contents a (take (i + 1) bs)) s0.room
bytes_more s0 s a bs i is l =
    let b : ℕ = get_or bs i 0 in
    ap (λ (t : MemoryState). memory_state (with_byte t.contents (a + i) b) t.room) is
    ∙ ap (λ k. memory_state (with_byte (with_bytes s0.contents a (take i bs)) (a + k) b) s0.room) (sym (length-take-le i bs (omega arith)))
    ∙ ap (λ m. memory_state m s0.room) (sym (with_bytes_push s0.contents a (take i bs) b))
    ∙ ap (λ xs. memory_state (with_bytes s0.contents a xs) s0.room) (sym (take_more bs i 0 l))

pub segments_more : (s0 s : MemoryState) (xs : List Segment) (i : ℕ) (x : Segment) → s ≡ memory_state (with_segments s0.contents (take i xs)) s0.room → i < length xs → x ≡ get_or xs i x
    → memory_state (if is_loaded x then with_bytes s.contents x.addr x.bytes else s.contents) s.room ≡ memory_state (with_segments s0.contents (take (i + 1) xs)) s0.room
segments_more s0 s xs i x is l item =
    ap (λ (t : MemoryState). memory_state (if is_loaded x then with_bytes t.contents x.addr x.bytes else t.contents) t.room) is
    ∙ ap (λ m. memory_state m s0.room) (sym (with_segments_push s0.contents (take i xs) x))
    ∙ ap (λ (y : Segment). memory_state (with_segments s0.contents (take i xs ++ y ∷ [])) s0.room) item
    ∙ ap (λ ys. memory_state (with_segments s0.contents ys) s0.room) (sym (take_more xs i x l))

pub words_more : (s0 s : MemoryState) (xs : List (ℕ × ℕ)) (i : ℕ) (d : ℕ × ℕ) → s ≡ memory_state (with_words s0.contents (take i xs)) s0.room → i < length xs
    → memory_state (with_bytes s.contents (get_or xs i d).0 (low_bytes 4 (get_or xs i d).1)) s.room ≡ memory_state (with_words s0.contents (take (i + 1) xs)) s0.room
words_more s0 s xs i d is l =
    let w : ℕ × ℕ = get_or xs i d in
    ap (λ (t : MemoryState). memory_state (with_bytes t.contents w.0 (low_bytes 4 w.1)) t.room) is
    ∙ ap (λ m. memory_state m s0.room) (sym (with_words_push s0.contents (take i xs) w))
    ∙ ap (λ ys. memory_state (with_words s0.contents ys) s0.room) (sym (take_more xs i d l))
