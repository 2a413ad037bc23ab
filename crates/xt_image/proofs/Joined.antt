-- A segment that stands at the front of bytes is spelled there.
use Rattle.std.proofs.Math.Seq.{drop-append_seam}
use Rattle.std.proofs.Common.{◌≡◌, ℕ, zero, suc, ◌+◌, ◌-◌, ◌≤◌, ◌<◌, ◌&&◌, List, [], ◌∷◌, ◌++◌, Some, true, length, take, drop, get_or, refl, sym, ap, ap₂, ◌∙◌, arith, append_assoc, take-append-drop, length-take-le, length-drop}
use Rattle.std.specs.List.{flat_map}
use Rattle.std.specs.Int.{w32, to_le_bytes}
use Rattle.std.specs.Prelude.{nat_le}
use Rattle.std.proofs.lemmas.Bool.Decides.{nat_tests}
use Rattle.std.proofs.lemmas.List.{drop-drop, get_or-drop, append-nil}
use Rattle.std.proofs.lemmas.Grind.{flat_map-append}
use Rattle.std.proofs.lemmas.Nat.{le_bytes_4}
use Rattle.std.proofs.lemmas.Option.{cond_some}
use Rattle.xt_map.specs.declared.segment.Segment.{Segment}
use Rattle.xt_image.specs.Layout.{front, word_at, segment_bytes}

abbrev pub IsBytes : List ℕ → Type 0
IsBytes bytes = (i : ℕ) → get_or bytes i 0 < 256

pub take_fits : (n : ℕ) (xs : List ℕ) → IsBytes xs → IsBytes (take n xs)
take_fits zero xs fits i = omega arith
take_fits (suc n) [] fits i = omega arith
take_fits (suc n) (x ∷ xs) fits zero = fits 0
take_fits (suc n) (x ∷ xs) fits (suc i) = take_fits n xs (λ j. fits (suc j)) i

word_is : (bytes : List ℕ) (k : ℕ) → IsBytes bytes → k + 4 ≤ length bytes → to_le_bytes w32 (word_at bytes k) ≡ take 4 (drop k bytes)
unfolding word_at
word_is bytes k fits le = le_bytes_4 (take 4 (drop k bytes)) _ (length-take-le 4 (drop k bytes) (omega (arith, length-drop k bytes))) (take_fits 4 (drop k bytes) (λ i. rw (get_or-drop k bytes i 0) (fits (k + i)))) refl

-- four bytes, four more, n more, and the rest
cut : (bytes : List ℕ) (n : ℕ) → bytes ≡ (take 4 (drop 0 bytes) ++ take 4 (drop 4 bytes) ++ take n (drop 8 bytes)) ++ drop n (drop 8 bytes)
cut bytes n =
    let a = take 4 bytes in
    let b = take 4 (drop 4 bytes) in
    let t = take n (drop 8 bytes) in
    let r = drop n (drop 8 bytes) in
    let behind : b ++ drop 8 bytes ≡ drop 4 bytes = ap (λ l. b ++ l) (sym (drop-drop 4 4 bytes)) ∙ take-append-drop 4 (drop 4 bytes) in
    sym (append_assoc (a ++ b) t r ∙ ap (λ l. (a ++ b) ++ l) (take-append-drop n (drop 8 bytes)) ∙ append_assoc a b (drop 8 bytes)
    ∙ ap (λ l. a ++ l) behind ∙ take-append-drop 4 bytes)

tested : (a b c d : ℕ) → (nat_le a b && nat_le c d) ≡ true → (a ≤ b) × (c ≤ d)
tested a b c d h = grind (arith, nat_tests)

pub front_is : (bytes : List ℕ) (s : Segment) (after : List ℕ) → IsBytes bytes → front bytes ≡ Some (s, after) → bytes ≡ segment_bytes s ++ after
unfolding front
front_is bytes s after fits h =
    let (b, same) = cond_some _ _ _ h in
    let n = word_at bytes 4 in
    let le = tested 8 (length bytes) n (length bytes - 8) b in
    let t = take n (drop 8 bytes) in
    let len : length t ≡ n = length-take-le n (drop 8 bytes) (omega (arith, length-drop 8 bytes, le.1)) in
    let spelled : to_le_bytes w32 (word_at bytes 0) ++ to_le_bytes w32 (length t) ++ t ≡ take 4 (drop 0 bytes) ++ take 4 (drop 4 bytes) ++ t =
    ap₂ (λ x y. x ++ y ++ t) (word_is bytes 0 fits (omega (arith, le.0))) (ap (to_le_bytes w32) len ∙ word_is bytes 4 fits (omega (arith, le.0))) in
    cut bytes n ∙ ap (λ l. l ++ drop n (drop 8 bytes)) (sym spelled) ∙ ap (λ (p : Segment × List ℕ). segment_bytes p.0 ++ p.1) same

pub joins : (bytes rest after : List ℕ) (found : List Segment) (s : Segment) → bytes ≡ flat_map segment_bytes found ++ rest → rest ≡ segment_bytes s ++ after
    → bytes ≡ flat_map segment_bytes (found ++ s ∷ []) ++ after
joins bytes rest after found s e h =
    let front = flat_map segment_bytes found in
    let more : flat_map segment_bytes (found ++ s ∷ []) ≡ front ++ segment_bytes s =
    flat_map-append segment_bytes found (s ∷ []) ∙ ap (λ l. front ++ l) (append-nil (segment_bytes s)) in
    e ∙ ap (λ l. front ++ l) h ∙ sym (append_assoc front (segment_bytes s) after) ∙ ap (λ l. l ++ after) (sym more)

pub rest_fits : (bytes front rest : List ℕ) → IsBytes bytes → bytes ≡ front ++ rest → IsBytes rest
rest_fits bytes front rest fits e i =
    let same : drop (length front) bytes ≡ rest = ap (drop (length front)) e ∙ drop-append_seam front rest in
    rw (← same, get_or-drop (length front) bytes i 0) (fits (length front + i))
