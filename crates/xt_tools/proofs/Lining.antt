-- The first line of a text, and its answer.
use Rattle.std.proofs.Common.{◌≡◌, ℕ, suc, ◌+◌, ◌-◌, ◌||◌, not, cond, true, false, List, [], ◌∷◌, ◌++◌, length, map, take, drop, refl, ap, ◌∙◌, arith}
use Rattle.std.specs.List.{after_first, before_first, concat, list_any, position_or_len, slice_split}
use Rattle.std.proofs.Math.Seq.{drop-append-add, take-append_seam}
use Rattle.std.proofs.lemmas.List.Elements.{All-head, All-tail}
use Rattle.std.proofs.lemmas.List.Splits.{length-slice_split, slice_split_at, slice_split_none}
use Rattle.xt_trace.specs.declared.run.Run.{Run}
use Rattle.xt_image.specs.declared.image.Image.{Image}
use Rattle.xt_command_line.specs.declared.beyond.Beyond.{Beyond}
use Rattle.xt_tools.specs.Session.{answer, answers, is_newline, lines_of}
use Rattle.xt_tools.specs.Reads.{IsInLine}

-- ---- the lines

front : (line : List ℕ) (parts : List (List ℕ)) (n : ℕ) → length parts ≡ n + 1 → take (length (line ∷ parts) - 1) (line ∷ parts) ≡ line ∷ take (length parts - 1) parts
front line parts n some =
    let k : length (line ∷ parts) - 1 ≡ suc (length parts - 1) = omega (arith, some) in
    ap (λ (m : ℕ). take m (line ∷ parts)) k

pub lines_at : (line rest : List ℕ) → IsInLine line → lines_of (line ++ (10 ∷ rest)) ≡ line ∷ lines_of rest
unfolding lines_of
lines_at line rest h =
    let parts = slice_split is_newline rest in
    let split : slice_split is_newline (line ++ (10 ∷ rest)) ≡ line ∷ parts = slice_split_at is_newline line 10 rest h refl in
    ap (λ (ps : List (List ℕ)). take (length ps - 1) ps) split ∙ front line parts _ (length-slice_split is_newline rest)

pub lines_none : (rest : List ℕ) → IsInLine rest → lines_of rest ≡ []
unfolding lines_of
lines_none rest h = ap (λ (ps : List (List ℕ)). take (length ps - 1) ps) (slice_split_none is_newline rest h)

-- ---- their answers

pub answers_at : (b : Beyond) (i : Image) (r : Run) (line rest : List ℕ) → IsInLine line → answers b i r (line ++ (10 ∷ rest)) ≡ answer b i r line ++ answers b i r rest
unfolding answers
answers_at b i r line rest h = ap (λ (ls : List (List ℕ)). concat (map (answer b i r) ls)) (lines_at line rest h)

pub answers_none : (b : Beyond) (i : Image) (r : Run) (rest : List ℕ) → IsInLine rest → answers b i r rest ≡ []
unfolding answers
answers_none b i r rest h = ap (λ (ls : List (List ℕ)). concat (map (answer b i r) ls)) (lines_none rest h)

-- ---- the first newline

newline_at : (line rest : List ℕ) → IsInLine line → position_or_len is_newline (line ++ (10 ∷ rest)) ≡ length line
newline_at [] rest h = refl
newline_at (x ∷ xs) rest h =
    let later = position_or_len is_newline (xs ++ (10 ∷ rest)) in
    ap (λ t. cond (not t) (1 + later) 0) (All-head (λ byte. is_newline byte ≡ false) x xs h) ∙ omega (arith, newline_at xs rest (All-tail (λ byte. is_newline byte ≡ false) x xs h))

pub has_newline : (line rest : List ℕ) → IsInLine line → list_any is_newline (line ++ (10 ∷ rest)) ≡ true
has_newline [] rest h = refl
has_newline (x ∷ xs) rest h =
    ap (λ t. t || list_any is_newline (xs ++ (10 ∷ rest))) (All-head (λ byte. is_newline byte ≡ false) x xs h) ∙ has_newline xs rest (All-tail (λ byte. is_newline byte ≡ false) x xs h)

pub no_newline : (rest : List ℕ) → IsInLine rest → list_any is_newline rest ≡ false
no_newline [] h = refl
no_newline (x ∷ xs) h =
    ap (λ t. t || list_any is_newline xs) (All-head (λ byte. is_newline byte ≡ false) x xs h) ∙ no_newline xs (All-tail (λ byte. is_newline byte ≡ false) x xs h)

pub before_at : (line rest : List ℕ) → IsInLine line → before_first is_newline (line ++ (10 ∷ rest)) ≡ line
before_at line rest h = ap (λ (n : ℕ). take n (line ++ (10 ∷ rest))) (newline_at line rest h) ∙ take-append_seam line (10 ∷ rest)

pub after_at : (line rest : List ℕ) → IsInLine line → after_first is_newline (line ++ (10 ∷ rest)) ≡ rest
after_at line rest h = ap (λ (n : ℕ). drop (n + 1) (line ++ (10 ∷ rest))) (newline_at line rest h) ∙ drop-append-add line (10 ∷ rest) 1
