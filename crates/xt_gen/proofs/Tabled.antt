-- The words of the table.
use Rattle.std.proofs.Common.{◌≡◌, ℕ, zero, suc, ◌+◌, ◌*◌, ◌%◌, ◌<◌, ◌≤◌, List, [], ◌++◌, length, refl, sym, ap, ◌∙◌, arith, append_assoc, append-nil, length-append}
use Rattle.std.specs.Int.{w32, to_le_bytes}
use Rattle.std.specs.List.{AllByRecursion}
use Rattle.xt_gen.specs.Generated.{next, words_from}

-- the words that are left follow those that stand there
pub one_word_more : (done whole : List ℕ) (count x : ℕ) → done ++ words_from (suc count) x ≡ whole
    → (done ++ to_le_bytes w32 (next x)) ++ words_from count (next x) ≡ whole
unfolding words_from
one_word_more done whole count x so_far = append_assoc done (to_le_bytes w32 (next x)) (words_from count (next x)) ∙ so_far

pub no_word_left : (x : ℕ) → words_from 0 x ≡ []
unfolding words_from
no_word_left x = refl

word_length : (n : ℕ) → length (to_le_bytes w32 n) ≡ 4
word_length n = refl

pub words_length : (count x : ℕ) → length (words_from count x) ≡ 4 * count
unfolding words_from
words_length zero x = refl
words_length (suc count) x =
    let first : length (to_le_bytes w32 (next x)) ≡ 4 = word_length (next x) in
    length-append (to_le_bytes w32 (next x)) (words_from count (next x))
    ∙ omega (arith, first, words_length count (next x))

byte_small : (n : ℕ) → n % 256 < 256
byte_small n = omega arith

pub words_small : (count x : ℕ) → AllByRecursion (λ b. b < 256) (words_from count x)
unfolding words_from
words_small zero x = tt
words_small (suc count) x = (byte_small _, (byte_small _, (byte_small _, (byte_small _, words_small count (next x)))))

-- ---- the loop: so many words are left, and stand after those that were put there

abbrev pub Left : ℕ → ℕ → List ℕ → List ℕ → Type 0
Left word x bytes whole = (left : ℕ) × (left + word ≡ 32768) × (bytes ++ words_from left x ≡ whole)

pub step : (word x y : ℕ) (old new piece whole : List ℕ) → word < 32768 → y ≡ next x → piece ≡ to_le_bytes w32 y → new ≡ old ++ piece
    → Left word x old whole → Left (word + 1) y new whole
step word x y old new piece whole below same made is (zero, count, so_far) = absurd (omega arith)
step word x y old new piece whole below same made is (suc left, count, so_far) = (
  left,
  omega arith,
  ap (λ l. l ++ words_from left y) (is ∙ ap (λ p. old ++ p) (made ∙ ap (λ n. to_le_bytes w32 n) same))
      ∙ ap (λ n. (old ++ to_le_bytes w32 (next x)) ++ words_from left n) same
      ∙ one_word_more old whole left x so_far,
)

pub all_there : (word x : ℕ) (bytes whole : List ℕ) → 32768 ≤ word → Left word x bytes whole → bytes ≡ whole
all_there word x bytes whole past (zero, count, so_far) = sym (append-nil bytes) ∙ ap (λ l. bytes ++ l) (sym (no_word_left x)) ∙ so_far
all_there word x bytes whole past (suc left, count, so_far) = absurd (omega arith)
