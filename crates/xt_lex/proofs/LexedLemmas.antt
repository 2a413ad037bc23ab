-- What holds of the tokens of a text of at most 1,048,576 bytes.
use Rattle.std.proofs.Common.{◌≡◌, ◌+◌, ◌<◌, ◌≤◌, ℕ, zero, suc, Bool, true, false, cond, List, [], ◌∷◌, ◌++◌, ◌-◌, length, drop, length-drop, Some, None, refl, ◌∙◌, ap, subst, arith, ◌==◌, zero-add}
use Rattle.std.proofs.lemmas.List.Sums.{sum_by-append}
use Rattle.std.proofs.lemmas.List.Elements.{All-from_recursion}
use Rattle.std.specs.Prelude.{sum_by}
use Rattle.std.specs.List.{AllByRecursion}
use Rattle.std.specs.Option.{option_map_or}
use Rattle.xt_lex.specs.declared.token.Token.{Token}
use Rattle.xt_lex.specs.declared.token.TokenKind.{TokenKind}
use Rattle.xt_lex.specs.declared.token.TokenKind.TheVariants.{Bad}
use Rattle.xt_lex.specs.Fronts.{Front, token_at}
use Rattle.xt_lex.specs.Tokens.{tokens_from, line_tokens, lines_of, with_first, tokens_of_lines, tokens_of, starts_blank, starts_comment, valid, token, bad, weight, AreInOrder, IsLexed}
use Rattle.xt_lex.proofs.WidthLemmas.{Within, valid_is_within}

abbrev IsPlaced : Token → Type 0
IsPlaced t = t.column + t.width ≤ 1048577

abbrev ArePlaced : List Token → Type 0
ArePlaced ts = AllByRecursion IsPlaced ts

placed_append : (xs ys : List Token) → ArePlaced xs → ArePlaced ys → ArePlaced (xs ++ ys)
placed_append [] ys a b = b
placed_append (x ∷ xs) ys a b = (a.0, placed_append xs ys a.1 b)

earlier : (a b : ℕ) (ts : List Token) → b ≤ a → AreInOrder a ts → AreInOrder b ts
earlier a b [] h o = tt
earlier a b (t ∷ ts) h o = (omega (arith, o.0), o.1)

weight_cons : (t : Token) (ts : List Token) → sum_by weight (t ∷ ts) ≡ weight t + sum_by weight ts
weight_cons t ts = sum_by-append weight (t ∷ []) ts ∙ ap (λ n. n + sum_by weight ts) (zero-add (weight t))

length_cons : (line : List ℕ) (lines : List (List ℕ)) → sum_by length (line ∷ lines) ≡ length line + sum_by length lines
length_cons line lines = sum_by-append length (line ∷ []) lines ∙ ap (λ n. n + sum_by length lines) (zero-add (length line))

-- of the tokens of a line of so many bytes
record IsGood (line len : ℕ) (ts : List Token) : Type 0 where
  placed : ArePlaced ts
  few : sum_by weight ts ≤ len
  in_order : (from : ℕ) (more : List Token) → from ≤ line → AreInOrder line more → AreInOrder from (ts ++ more)

nothing_good : (line len : ℕ) → IsGood line len []
nothing_good line len = record { placed = tt; few = omega arith; in_order = λ from more h o. earlier line from more h o }

bad_good : (line len column : ℕ) → column + 1 ≤ 1048577 → 0 < len → IsGood line len (bad line column)
bad_good line len column h some = record { placed = (omega arith, tt); few = omega (arith, weight_cons (token line column 0 Bad) []); in_order = λ from more f o. (f, o) }

one_good : (line len column : ℕ) (x : TokenKind × ℕ) (ts : List Token) → Within len x → column + len ≤ 1048577 → IsGood line (len - x.1) ts → IsGood line len (token line column x.1 x.0 ∷ ts)
one_good line len column x ts w h g = record {
  placed = (omega (arith, w.most), g.placed);
  few = omega (arith, w.light, w.most, g.few, weight_cons (token line column x.1 x.0) ts);
  in_order = λ from more f o. (f, g.in_order line more (omega arith) o);
}

wide_good : (line len more : ℕ) (ts : List Token) → len ≤ more → IsGood line len ts → IsGood line more ts
wide_good line len more ts h g = record { placed = g.placed; few = omega (arith, g.few); in_order = g.in_order }

step_good : (next : ℕ → ℕ → List ℕ → List Token) (comment blank : Bool) (front : Front) (line column b : ℕ) (rest : List ℕ) → column + length (b ∷ rest) ≤ 1048577
    → IsGood line (length rest) (next line (column + 1) rest)
    → ((x : TokenKind × ℕ) → front ≡ Some x → Within (length (b ∷ rest)) x × IsGood line (length (b ∷ rest) - x.1) (next line (column + x.1) (drop x.1 (b ∷ rest))))
    → IsGood line (length (b ∷ rest)) (cond comment [] (cond blank (next line (column + 1) rest) (option_map_or (λ x. token line column x.1 x.0 ∷ next line (column + x.1) (drop x.1 (b ∷ rest))) front (bad line column))))
step_good next true blank front line column b rest h one more = nothing_good line (length (b ∷ rest))
step_good next false true front line column b rest h one more = wide_good line (length rest) (length (b ∷ rest)) _ (omega arith) one
step_good next false false None line column b rest h one more = bad_good line (length (b ∷ rest)) column (omega arith) (omega arith)
step_good next false false (Some x) line column b rest h one more = let m = more x refl in one_good line (length (b ∷ rest)) column x _ m.0 h m.1

from_good : (n line column : ℕ) (bytes : List ℕ) → column + length bytes ≤ 1048577 → IsGood line (length bytes) (tokens_from n line column bytes)
unfolding tokens_from
from_good zero line column bytes h = nothing_good line (length bytes)
from_good (suc n) line column [] h = nothing_good line 0
from_good (suc n) line column (b ∷ rest) h =
    step_good (tokens_from n) (starts_comment (b ∷ rest)) (starts_blank (b ∷ rest)) (valid (token_at (b ∷ rest))) line column b rest h
    (from_good n line (column + 1) rest (omega arith))
    (λ x e. let w = valid_is_within (b ∷ rest) x e in
    let left = length-drop x.1 (b ∷ rest) in
    let P : ℕ → Type 0 = λ len. IsGood line len (tokens_from n line (column + x.1) (drop x.1 (b ∷ rest))) in
    (w, subst P left (from_good n line (column + x.1) (drop x.1 (b ∷ rest)) (omega (arith, w.most, left)))))

-- ---- lines

record AreGood (line len : ℕ) (ts : List Token) : Type 0 where
  placed : ArePlaced ts
  few : sum_by weight ts ≤ len
  in_order : (from : ℕ) → from ≤ line → AreInOrder from ts

lines_good : (line : ℕ) (lines : List (List ℕ)) → sum_by length lines ≤ 1048576 → AreGood line (sum_by length lines) (tokens_of_lines line lines)
unfolding tokens_of_lines
lines_good line [] h = record { placed = tt; few = omega arith; in_order = λ from f. tt }
lines_good line (bytes ∷ lines) h =
    let all = length_cons bytes lines in
    let here = from_good (length bytes) line 1 bytes (omega (arith, all)) in
    let more = lines_good (line + 1) lines (omega (arith, all)) in
    record {
      placed = placed_append (line_tokens line bytes) (tokens_of_lines (line + 1) lines) here.placed more.placed;
      few = omega (arith, all, here.few, more.few, sum_by-append weight (line_tokens line bytes) (tokens_of_lines (line + 1) lines));
      in_order = λ from f. here.in_order from (tokens_of_lines (line + 1) lines) f (more.in_order line (omega arith));
    }

first_length : (b : ℕ) (lines : List (List ℕ)) → sum_by length (with_first b lines) ≡ suc (sum_by length lines)
first_length b [] = refl
first_length b (line ∷ lines) = omega (arith, length_cons (b ∷ line) lines, length_cons line lines)

line_length : (t : Bool) (b : ℕ) (lines : List (List ℕ)) (n : ℕ) → sum_by length lines ≡ n → sum_by length (cond t ((10 ∷ []) ∷ lines) (with_first b lines)) ≡ suc n
line_length true b lines n e = omega (arith, e, length_cons (10 ∷ []) lines)
line_length false b lines n e = first_length b lines ∙ ap suc e

lines_length : (text : List ℕ) → sum_by length (lines_of text) ≡ length text
lines_length [] = refl
lines_length (b ∷ rest) = line_length (b == 10) b (lines_of rest) (length rest) (lines_length rest)

pub text_is_lexed : (text : List ℕ) → length text ≤ 1048576 → IsLexed (tokens_of text)
unfolding tokens_of
text_is_lexed text h =
    let good = lines_good 1 (lines_of text) (omega (arith, lines_length text)) in
    record {
      placed = All-from_recursion IsPlaced (tokens_of_lines 1 (lines_of text)) good.placed;
      few = omega (arith, good.few, lines_length text);
      in_order = good.in_order 1 (omega arith);
    }
