-- The tokens line by line: the first line is cut after its last token.
use Rattle.std.proofs.Common.{◌≡◌, ◌+◌, ◌<◌, ℕ, suc, Bool, true, false, cond, List, [], ◌∷◌, ◌++◌, length, take, drop, get_or, Result, Ok, Err, refl, sym, ◌∙◌, ap, arith, ◌==◌, ◌||◌, append_assoc, append-nil}
use Rattle.std.proofs.lemmas.Bool.Decides.{nat_tests}
use Rattle.std.specs.List.{prefix_len}
use Rattle.xt_lex.specs.declared.token.Token.{Token}
use Rattle.xt_lex.specs.declared.fault.AsmPlace.{AsmPlace}
use Rattle.xt_lex.specs.declared.fault.AsmFault.{AsmFault}
use Rattle.xt_lex.specs.declared.fault.AsmFault.TheVariants as fault
use Rattle.xt_parse.specs.declared.line.Line.{Line}
use Rattle.xt_parse.specs.Reading.{◌>>=◌}
use Rattle.xt_parse.specs.Statements.{line_of}
use Rattle.xt_parse.specs.Lines.{with_token, token_lines, is_segment, lines_from, parsed_lines, Parses, ParsesLine}

abbrev pub width_of : Token → List Token → ℕ
width_of t ts = prefix_len (λ u. t.line == u.line) ts

same_line : (n : ℕ) → (n == n) ≡ true
same_line n = grind (arith, nat_tests)

one_more : (n m : ℕ) → n ≡ m → 1 + n ≡ suc m
one_more n m e = omega arith

-- t begins a line of its own before u, or goes to u's line
joined_line : (b : Bool) (t u : Token) (us : List Token) → (t.line == u.line) ≡ b → token_lines (u ∷ us) ≡ (u ∷ take (width_of u us) us) ∷ token_lines (drop (width_of u us) us)
    → with_token t (token_lines (u ∷ us)) ≡ (t ∷ take (width_of t (u ∷ us)) (u ∷ us)) ∷ token_lines (drop (width_of t (u ∷ us)) (u ∷ us))
joined_line true t u us e h =
    let alike : t.line ≡ u.line = grind (arith, nat_tests) in
    let wide : width_of t (u ∷ us) ≡ 1 + width_of t us = ap (λ b. cond b (1 + width_of t us) 0) e in
    let same : width_of t us ≡ width_of u us = ap (λ n. prefix_len (λ (v : Token). n == v.line) us) alike in
    ap (with_token t) h ∙ ap (λ b. cond b ((t ∷ u ∷ take (width_of u us) us) ∷ token_lines (drop (width_of u us) us)) ((t ∷ []) ∷ (u ∷ take (width_of u us) us) ∷ token_lines (drop (width_of u us) us))) e
    ∙ ap (λ w. (t ∷ take w (u ∷ us)) ∷ token_lines (drop w (u ∷ us))) (sym (wide ∙ one_more (width_of t us) (width_of u us) same))
joined_line false t u us e h =
    let none : width_of t (u ∷ us) ≡ 0 = ap (λ b. cond b (1 + width_of t us) 0) e in
    ap (with_token t) h ∙ ap (λ b. cond b ((t ∷ u ∷ take (width_of u us) us) ∷ token_lines (drop (width_of u us) us)) ((t ∷ []) ∷ (u ∷ take (width_of u us) us) ∷ token_lines (drop (width_of u us) us))) e
    ∙ ap (λ gs. (t ∷ []) ∷ gs) (sym h)
    ∙ ap (λ w. (t ∷ take w (u ∷ us)) ∷ token_lines (drop w (u ∷ us))) (sym none)

first_group : (t : Token) (ts : List Token) → token_lines (t ∷ ts) ≡ (t ∷ take (width_of t ts) ts) ∷ token_lines (drop (width_of t ts) ts)
first_group t [] = refl
first_group t (u ∷ us) = joined_line (t.line == u.line) t u us refl (first_group u us)

first_width : (t : Token) (ts : List Token) → prefix_len (λ u. t.line == u.line) (t ∷ ts) ≡ suc (width_of t ts)
first_width t ts = ap (λ b. cond b (1 + width_of t ts) 0) (same_line t.line) ∙ one_more (width_of t ts) (width_of t ts) refl

pub group_is_cut : (tokens : List Token) (d : Token) (n : ℕ) → 0 < length tokens → n ≡ prefix_len (λ u. (get_or tokens 0 d).line == u.line) tokens → token_lines tokens ≡ take n tokens ∷ token_lines (drop n tokens)
group_is_cut [] d n h e = absurd (omega arith)
group_is_cut (t ∷ ts) d n h e = first_group t ts ∙ ap (λ w. take w (t ∷ ts) ∷ token_lines (drop w (t ∷ ts))) (sym (e ∙ first_width t ts))

pub group_has_one : (tokens : List Token) (d : Token) (n : ℕ) → 0 < length tokens → n ≡ prefix_len (λ u. (get_or tokens 0 d).line == u.line) tokens → 0 < n
group_has_one [] d n h e = absurd (omega arith)
group_has_one (t ∷ ts) d n h e = omega (arith, e ∙ first_width t ts)

-- ---- the lines so far, and those that are left

abbrev pub Lines : Type 0
Lines = Result (List Line) AsmPlace

abbrev pub behind_lines : List Line → Lines → Lines
behind_lines front read = read >>= λ lines. Ok (front ++ lines)

pub line_goes_on : (front : List Line) (begun : Bool) (g : List Token) (gs : List (List Token)) (line : Line) → line_of begun g ≡ Ok line
    → behind_lines (front ++ line ∷ []) (lines_from (begun || is_segment line.statement) gs) ≡ behind_lines front (lines_from begun (g ∷ gs))
unfolding lines_from
line_goes_on front begun g gs line e = more (lines_from (begun || is_segment line.statement) gs) ∙ sym (ap (λ r. behind_lines front (r >>= λ l. lines_from (begun || is_segment l.statement) gs >>= λ ls. Ok (l ∷ ls))) e)
  where
    more : (read : Lines) → behind_lines (front ++ line ∷ []) read ≡ behind_lines front (read >>= λ ls. Ok (line ∷ ls))
    more (Ok ls) = ap Ok (append_assoc front (line ∷ []) ls)
    more (Err place) = refl

pub line_stops : (front : List Line) (begun : Bool) (g : List Token) (gs : List (List Token)) (place : AsmPlace) → line_of begun g ≡ Err place → behind_lines front (lines_from begun (g ∷ gs)) ≡ Err place
unfolding lines_from
line_stops front begun g gs place e = ap (λ r. behind_lines front (r >>= λ l. lines_from (begun || is_segment l.statement) gs >>= λ ls. Ok (l ∷ ls))) e

some_token : (t : Token) (ts : List Token) → (length (t ∷ ts) == 0) ≡ true → ⊥
some_token t ts e = grind (arith, nat_tests)

pub no_line_is_left : (front : List Line) (begun : Bool) (rest : List Token) (whole : Lines) → (length rest == 0) ≡ true → behind_lines front (lines_from begun (token_lines rest)) ≡ whole → whole ≡ Ok front
unfolding lines_from
no_line_is_left front begun [] whole e h = sym h ∙ ap Ok (append-nil front)
no_line_is_left front begun (t ∷ ts) whole e h = absurd (some_token t ts e)

-- a fault of a line is that of the text
pub fault_is_first : (e : AsmFault) (inner : Result Line AsmPlace) (outer : Lines) → ParsesLine (Err e) inner → ((place : AsmPlace) → inner ≡ Err place → outer ≡ Err place) → Parses (Err e) outer
fault_is_first (fault.Place place) inner outer h f = f place h
fault_is_first fault.Memory inner outer h f = tt

pub no_line_before : (read : Lines) → behind_lines [] read ≡ read
no_line_before (Ok ls) = refl
no_line_before (Err place) = refl

pub parsed_is : (tokens : List Token) → lines_from false (token_lines tokens) ≡ parsed_lines tokens
unfolding parsed_lines
parsed_is tokens = refl
