-- The number of a `.seg` is below 2^32, as each number of a text is.
use Rattle.std.proofs.Common.{◌≡◌, ℕ, zero, suc, ◌+◌, ◌-◌, ◌^◌, ◌<◌, Bool, false, ◌&&◌, ◌||◌, not, ◌==◌, if◌then◌else◌, List, [], ◌∷◌, ◌++◌, length, drop, Option, Some, None, Result, Ok, Err, IfOk, subst}
use Rattle.std.specs.Prelude.{nat_lt, take_while}
use Rattle.std.specs.Char.{is_ascii_digit, is_ascii_hexdigit}
use Rattle.std.specs.List.{AllByRecursion, prefix_len}
use Rattle.std.specs.Option.{IfSome, option_map, option_map_or}
use Rattle.std.proofs.lemmas.Bool.{cond_both, ltb-true}
use Rattle.xt_lex.specs.TextBytes.{is_plain, is_word_byte, is_word_start, number_of}
use Rattle.xt_lex.specs.Fronts.{Front, character_front, decimal_front, hex_digits_front, hex_front, longer, mark_front, number_kind, number_kind_of, string_body, string_front, token_at, word_front}
use Rattle.xt_lex.specs.Tokens.{bad, lines_of, starts_blank, starts_comment, token, tokens_from, tokens_of, tokens_of_lines, valid}
use Rattle.xt_lex.specs.declared.fault.AsmPlace.{AsmPlace}
use Rattle.xt_lex.specs.declared.token.Token.{Token}
use Rattle.xt_lex.specs.declared.token.TokenKind.{TokenKind}
use Rattle.xt_lex.specs.declared.token.TokenKind.TheVariants as kind
use Rattle.xt_parse.specs.declared.form.Form.{Form}
use Rattle.xt_parse.specs.declared.form.Form.TheVariants as form
use Rattle.xt_parse.specs.declared.line.Line.{Line}
use Rattle.xt_parse.specs.declared.line.Placed.{Placed}
use Rattle.xt_parse.specs.declared.statement.Statement.{Statement}
use Rattle.xt_parse.specs.declared.statement.Statement.TheVariants as statement
use Rattle.xt_parse.specs.Lines.{token_lines, is_segment, with_token, lines_from, parsed_lines}
use Rattle.xt_parse.specs.Reading.{◌>>=◌, Reading, as_colon, as_comma, as_label, as_number, as_string, expr_at, exprs_at, first_as, operands_at}
use Rattle.xt_names.specs.Forms.{shapes_of}
use Rattle.xt_parse.specs.Statements.{Parts, as_line, as_statement, awaits_colon, behind_label, body_at, label_at, line_of, opens, parts_at, placed_at, statement_at, to_the_end, whole_parts_at, without_label}

-- ---- the tokens of a text

-- a number is below 2^32
abbrev IsLow : TokenKind → Type 0
IsLow (kind.Number n) = n < 2 ^ 32
IsLow _ = Unit {0}

abbrev FrontIsLow : Front → Type 0
FrontIsLow None = Unit {0}
FrontIsLow (Some x) = IsLow x.0

number_is_low : (n : ℕ) → IsLow (number_kind n)
number_is_low n = cond_both (nat_lt n (2 ^ 32)) (Some n) None (λ o. IsLow (number_kind_of o)) (λ lt. ltb-true n (2 ^ 32) lt) (λ _. tt)

word_is_low : (bytes : List ℕ) → FrontIsLow (word_front bytes)
unfolding word_front
word_is_low [] = tt
word_is_low (b ∷ rest) = cond_both (is_word_start b) (Some (kind.Word (take_while is_word_byte (b ∷ rest)), prefix_len is_word_byte (b ∷ rest))) None FrontIsLow (λ _. tt) (λ _. tt)

decimal_is_low : (bytes : List ℕ) → FrontIsLow (decimal_front bytes)
unfolding decimal_front
decimal_is_low bytes =
    cond_both (prefix_len is_ascii_digit bytes == 0) None (Some (number_kind (number_of 10 (take_while is_ascii_digit bytes)), prefix_len is_ascii_digit bytes)) FrontIsLow
    (λ _. tt) (λ _. number_is_low (number_of 10 (take_while is_ascii_digit bytes)))

digits_are_low : (digits : List ℕ) → FrontIsLow (hex_digits_front digits)
digits_are_low digits =
    cond_both (prefix_len is_ascii_hexdigit digits == 0) None (Some (number_kind (number_of 16 (take_while is_ascii_hexdigit digits)), 2 + prefix_len is_ascii_hexdigit digits)) FrontIsLow
    (λ _. tt) (λ _. number_is_low (number_of 16 (take_while is_ascii_hexdigit digits)))

hex_is_low : (bytes : List ℕ) → FrontIsLow (hex_front bytes)
unfolding hex_front
hex_is_low [] = tt
hex_is_low (b ∷ []) = tt
hex_is_low (b ∷ x ∷ digits) = cond_both (b == 48 && x == 120) (hex_digits_front digits) None FrontIsLow (λ _. digits_are_low digits) (λ _. tt)

character_is_low : (bytes : List ℕ) → FrontIsLow (character_front bytes)
unfolding character_front
character_is_low [] = tt
character_is_low (b ∷ []) = tt
character_is_low (b ∷ c ∷ []) = tt
character_is_low (b ∷ c ∷ d ∷ rest) = cond_both (b == 39 && d == 39 && is_plain 39 c) (Some (kind.Character c, 3)) None FrontIsLow (λ _. tt) (λ _. tt)

body_is_low : (body : Option (List ℕ × ℕ)) → FrontIsLow (option_map (λ r. (kind.Str r.0, 1 + r.1)) body)
body_is_low None = tt
body_is_low (Some r) = tt

string_is_low : (bytes : List ℕ) → FrontIsLow (string_front bytes)
unfolding string_front
string_is_low [] = tt
string_is_low (b ∷ rest) = cond_both (b == 34) (option_map (λ r. (kind.Str r.0, 1 + r.1)) (string_body rest)) None FrontIsLow (λ _. body_is_low (string_body rest)) (λ _. tt)

one_or : (b : Bool) (k : TokenKind) (next : Front) → IsLow k → FrontIsLow next → FrontIsLow (if b then Some (k, 1) else next)
one_or b k next h g = cond_both b (Some (k, 1)) next FrontIsLow (λ _. h) (λ _. g)

mark_is_low : (bytes : List ℕ) → FrontIsLow (mark_front bytes)
unfolding mark_front
mark_is_low [] = tt
mark_is_low (b ∷ rest) =
    one_or (b == 44) kind.Comma _ tt (one_or (b == 58) kind.Colon _ tt (one_or (b == 61) kind.Equals _ tt (one_or (b == 43) kind.Plus _ tt (one_or (b == 45) kind.Minus None tt tt))))

longer_is_low : (a b : Front) → FrontIsLow a → FrontIsLow b → FrontIsLow (longer a b)
longer_is_low None b h g = g
longer_is_low (Some a) None h g = h
longer_is_low (Some a) (Some b) h g = cond_both (nat_lt a.1 b.1) (Some b) (Some a) FrontIsLow (λ _. g) (λ _. h)

token_is_low : (bytes : List ℕ) → FrontIsLow (token_at bytes)
unfolding token_at
token_is_low bytes =
    longer_is_low (word_front bytes) (longer (decimal_front bytes) (longer (hex_front bytes) (longer (character_front bytes) (longer (string_front bytes) (mark_front bytes))))) (word_is_low bytes)
    (longer_is_low (decimal_front bytes) (longer (hex_front bytes) (longer (character_front bytes) (longer (string_front bytes) (mark_front bytes)))) (decimal_is_low bytes)
    (longer_is_low (hex_front bytes) (longer (character_front bytes) (longer (string_front bytes) (mark_front bytes))) (hex_is_low bytes)
    (longer_is_low (character_front bytes) (longer (string_front bytes) (mark_front bytes)) (character_is_low bytes)
    (longer_is_low (string_front bytes) (mark_front bytes) (string_is_low bytes) (mark_is_low bytes)))))

valid_is_low : (f : Front) → FrontIsLow f → FrontIsLow (valid f)
valid_is_low None h = tt
valid_is_low (Some (kind.Bad, width)) h = tt
valid_is_low (Some (k, width)) h = h

abbrev pub AreLow : List Token → Type 0
AreLow tokens = AllByRecursion (λ t. IsLow t.what) tokens

one_more : (line column n : ℕ) (bytes : List ℕ) (f : Front) → FrontIsLow f → ((w : ℕ) → AreLow (tokens_from n line (column + w) (drop w bytes))) →
    AreLow (option_map_or (λ x. token line column x.1 x.0 ∷ tokens_from n line (column + x.1) (drop x.1 bytes)) f (bad line column))
one_more line column n bytes None h more = (tt, tt)
one_more line column n bytes (Some x) h more = (h, more x.1)

tokens_from_are_low : (n line column : ℕ) (bytes : List ℕ) → AreLow (tokens_from n line column bytes)
unfolding tokens_from
tokens_from_are_low zero line column bytes = tt
tokens_from_are_low (suc n) line column [] = tt
tokens_from_are_low (suc n) line column (b ∷ rest) =
    let here : List Token = option_map_or (λ x. token line column x.1 x.0 ∷ tokens_from n line (column + x.1) (drop x.1 (b ∷ rest))) (valid (token_at (b ∷ rest))) (bad line column) in
    cond_both (starts_comment (b ∷ rest)) [] (if starts_blank (b ∷ rest) then tokens_from n line (column + 1) rest else here) AreLow (λ _. tt)
    (λ _. cond_both (starts_blank (b ∷ rest)) (tokens_from n line (column + 1) rest) here AreLow (λ _. tokens_from_are_low n line (column + 1) rest)
    (λ _. one_more line column n (b ∷ rest) (valid (token_at (b ∷ rest))) (valid_is_low (token_at (b ∷ rest)) (token_is_low (b ∷ rest))) (λ w. tokens_from_are_low n line (column + w) (drop w (b ∷ rest)))))

joined_are_low : (xs ys : List Token) → AreLow xs → AreLow ys → AreLow (xs ++ ys)
joined_are_low [] ys h g = g
joined_are_low (x ∷ xs) ys h g = (h.0, joined_are_low xs ys h.1 g)

lines_are_low : (line : ℕ) (lines : List (List ℕ)) → AreLow (tokens_of_lines line lines)
unfolding tokens_of_lines
lines_are_low line [] = tt
lines_are_low line (bytes ∷ lines) =
    joined_are_low (tokens_from (length bytes) line 1 bytes) (tokens_of_lines (line + 1) lines) (tokens_from_are_low (length bytes) line 1 bytes) (lines_are_low (line + 1) lines)

pub tokens_are_low : (text : List ℕ) → AreLow (tokens_of text)
unfolding tokens_of
tokens_are_low text = lines_are_low 1 (lines_of text)

-- ---- the tokens of a line

group_with : (t : Token) (groups : List (List Token)) → IsLow t.what → AllByRecursion AreLow groups → AllByRecursion AreLow (with_token t groups)
group_with t [] h gs = ((h, tt), tt)
group_with t ([] ∷ groups) h gs = ((h, tt), gs.1)
group_with t ((u ∷ us) ∷ groups) h gs =
    cond_both (t.line == u.line) ((t ∷ u ∷ us) ∷ groups) ((t ∷ []) ∷ (u ∷ us) ∷ groups) (AllByRecursion AreLow) (λ _. ((h, gs.0), gs.1)) (λ _. ((h, tt), gs))

groups_are_low : (tokens : List Token) → AreLow tokens → AllByRecursion AreLow (token_lines tokens)
groups_are_low [] h = tt
groups_are_low (t ∷ ts) h = group_with t (token_lines ts) h.0 (groups_are_low ts h.1)

-- ---- statements

-- the number of a `.seg` is below 2^32
abbrev pub StartsLow : Statement → Type 0
StartsLow (statement.Seg n) = n < 2 ^ 32
StartsLow _ = Unit {0}

then_if : {A B : Type 0} (r : Result A ℕ) (f : A → Result B ℕ) (P : A → Type 0) (Q : B → Type 0) → IfOk r P → ((x : A) → P x → IfOk (f x) Q) → IfOk (r >>= f) Q
then_if (Ok x) f P Q h each = each x h
then_if (Err e) f P Q h each = tt

then_always : {A B : Type 0} (r : Result A ℕ) (f : A → Result B ℕ) (Q : B → Type 0) → ((x : A) → IfOk (f x) Q) → IfOk (r >>= f) Q
then_always (Ok x) f Q each = each x
then_always (Err e) f Q each = tt

number_of_kind : (k : TokenKind) (ts : List Token) (n : ℕ) → IsLow k → IfOk {T = ℕ × List Token} (option_map_or (λ a. Ok (a, ts)) (as_number k) (Err n)) (λ x. x.0 < 2 ^ 32)
number_of_kind (kind.Number m) ts n h = h
number_of_kind _ ts n h = tt

first_number : (tokens : List Token) → AreLow tokens → IfOk (first_as as_number tokens) (λ x. x.0 < 2 ^ 32)
first_number [] h = tt
first_number (t ∷ ts) h = number_of_kind t.what ts (length (t ∷ ts)) h.0

abbrev BodyStartsLow : Reading Statement → Type 0
BodyStartsLow read = IfOk read (λ x. StartsLow x.0)

body_starts_low : (f : Form) (tokens : List Token) → AreLow tokens → BodyStartsLow (body_at f tokens)
unfolding body_at
body_starts_low form.Seg tokens h = then_if (first_as as_number tokens) (λ x. Ok (statement.Seg x.0, x.1)) (λ x. x.0 < 2 ^ 32) (λ x. StartsLow x.0) (first_number tokens h) (λ x lt. lt)
body_starts_low form.Entry tokens h = then_always (expr_at tokens) (λ x. Ok (statement.Entry x.0, x.1)) (λ x. StartsLow x.0) (λ x. tt)
body_starts_low form.Position tokens h = tt
body_starts_low form.Literal tokens h =
    then_always (placed_at tokens) (λ p. first_as as_comma p.1 >>= λ c. expr_at c.1 >>= λ x. Ok (statement.Literal p.0 x.0, x.1)) (λ x. StartsLow x.0)
    (λ p. then_always (first_as as_comma p.1) (λ c. expr_at c.1 >>= λ x. Ok (statement.Literal p.0 x.0, x.1)) (λ x. StartsLow x.0)
    (λ c. then_always (expr_at c.1) (λ x. Ok (statement.Literal p.0 x.0, x.1)) (λ x. StartsLow x.0) (λ x. tt)))
body_starts_low form.Word tokens h = then_always (exprs_at tokens) (λ x. Ok (statement.Words x.0, x.1)) (λ x. StartsLow x.0) (λ x. tt)
body_starts_low form.Short tokens h = then_always (exprs_at tokens) (λ x. Ok (statement.Shorts x.0, x.1)) (λ x. StartsLow x.0) (λ x. tt)
body_starts_low form.Byte tokens h = then_always (exprs_at tokens) (λ x. Ok (statement.Bytes x.0, x.1)) (λ x. StartsLow x.0) (λ x. tt)
body_starts_low form.Ascii tokens h = then_always (first_as as_string tokens) (λ x. Ok (statement.Ascii x.0, x.1)) (λ x. StartsLow x.0) (λ x. tt)
body_starts_low form.Asciz tokens h = then_always (first_as as_string tokens) (λ x. Ok (statement.Ascii (x.0 ++ 0 ∷ []), x.1)) (λ x. StartsLow x.0) (λ x. tt)
body_starts_low form.Align tokens h = then_always (first_as as_number tokens) (λ x. Ok (statement.Align x.0, x.1)) (λ x. StartsLow x.0) (λ x. tt)
body_starts_low form.Space tokens h = then_always (first_as as_number tokens) (λ x. Ok (statement.Space x.0, x.1)) (λ x. StartsLow x.0) (λ x. tt)
body_starts_low (form.Insn m) tokens h = then_always (operands_at (shapes_of m) tokens) (λ x. Ok (statement.Insn m x.0, x.1)) (λ x. StartsLow x.0) (λ x. tt)

abbrev StatementStartsLow : Reading (ℕ × Statement) → Type 0
StatementStartsLow read = IfOk read (λ x. StartsLow x.0.1)

word_starts_low : (column n : ℕ) (ts : List Token) (w : Option Form) → AreLow ts →
    StatementStartsLow (option_map_or (λ w. body_at w ts >>= λ x. Ok ((column, x.0), x.1)) w (Err n))
word_starts_low column n ts None h = tt
word_starts_low column n ts (Some w) h =
    then_if (body_at w ts) (λ x. Ok ((column, x.0), x.1)) (λ x. StartsLow x.0) (λ x. StartsLow x.0.1) (body_starts_low w ts h) (λ x low. low)

statement_starts_low : (tokens : List Token) → AreLow tokens → StatementStartsLow (statement_at tokens)
unfolding statement_at
statement_starts_low [] h = tt
statement_starts_low (t ∷ ts) h = word_starts_low t.column (length (t ∷ ts)) ts (as_statement t.what) h.1

-- ---- lines

abbrev PartsStartLow : Reading Parts → Type 0
PartsStartLow read = IfOk read (λ x. StartsLow x.0.2)

parts_of_statement : (label : Option Placed) (tokens : List Token) → AreLow tokens → PartsStartLow (statement_at tokens >>= λ x. Ok ((label, x.0.0, x.0.1), x.1))
parts_of_statement label tokens h =
    then_if (statement_at tokens) (λ x. Ok ((label, x.0.0, x.0.1), x.1)) (λ x. StartsLow x.0.1) (λ x. StartsLow x.0.2) (statement_starts_low tokens h) (λ x low. low)

behind_label_starts_low : (p : Placed) (tokens : List Token) → AreLow tokens → PartsStartLow (behind_label p tokens)
behind_label_starts_low p [] h = tt
behind_label_starts_low p (t ∷ ts) h = parts_of_statement (Some p) (t ∷ ts) h

without_label_starts_low : (tokens : List Token) → AreLow tokens → PartsStartLow (without_label tokens)
without_label_starts_low tokens h =
    cond_both (awaits_colon tokens) (Err (length tokens - 1)) (statement_at tokens >>= λ x. Ok ((None, x.0.0, x.0.1), x.1)) PartsStartLow (λ _. tt) (λ _. parts_of_statement None tokens h)

rest_of_label : (column : ℕ) (ts : List Token) (name : Option (List ℕ)) (colon : Option (Unit {0})) → AreLow ts →
    IfSome {T = Placed × List Token} (option_map_or (λ name. option_map (λ _. (record { column = column; name = name }, ts)) colon) name None) (λ l. AreLow l.1)
rest_of_label column ts None colon h = tt
rest_of_label column ts (Some name) None h = tt
rest_of_label column ts (Some name) (Some c) h = h

behind_label_is_low : (tokens : List Token) → AreLow tokens → IfSome (label_at tokens) (λ l. AreLow l.1)
unfolding label_at
behind_label_is_low [] h = tt
behind_label_is_low (t ∷ []) h = tt
behind_label_is_low (t ∷ c ∷ ts) h = rest_of_label t.column ts (as_label t.what) (as_colon c.what) h.1.1

with_label : (label : Option (Placed × List Token)) (other : Reading Parts) → IfSome label (λ l. AreLow l.1) → PartsStartLow other →
    PartsStartLow (option_map_or (λ l. behind_label l.0 l.1) label other)
with_label None other h low = low
with_label (Some l) other h low = behind_label_starts_low l.0 l.1 h

parts_start_low : (begun : Bool) (tokens : List Token) → AreLow tokens → PartsStartLow (parts_at begun tokens)
unfolding parts_at
parts_start_low begun tokens h =
    cond_both (not begun && not (opens tokens)) (Err (length tokens)) (option_map_or (λ l. behind_label l.0 l.1) (label_at tokens) (without_label tokens)) PartsStartLow (λ _. tt)
    (λ _. with_label (label_at tokens) (without_label tokens) (behind_label_is_low tokens h) (without_label_starts_low tokens h))

abbrev LineStartsLow : Line → Type 0
LineStartsLow l = StartsLow l.statement

line_of_parts : (tokens : List Token) (read : Result Parts ℕ) → IfOk read (λ x. StartsLow x.2) → IfOk (as_line tokens read) LineStartsLow
line_of_parts tokens (Ok parts) h = h
line_of_parts tokens (Err n) h = tt

line_starts_low : (begun : Bool) (tokens : List Token) → AreLow tokens → IfOk (line_of begun tokens) LineStartsLow
unfolding line_of
line_starts_low begun tokens h =
    line_of_parts tokens (whole_parts_at begun tokens)
    (then_if (parts_at begun tokens) to_the_end (λ x. StartsLow x.0.2) (λ x. StartsLow x.2) (parts_start_low begun tokens h)
    (λ x low. cond_both (length x.1 == 0) (Ok x.0) (Err (length x.1)) (λ r. IfOk r (λ x. StartsLow x.2)) (λ _. low) (λ _. tt)))

-- ---- the text

abbrev Lines : Type 0
Lines = Result (List Line) AsmPlace

with_line : (line : Line) (read : Lines) → LineStartsLow line → IfOk read (AllByRecursion LineStartsLow) → IfOk (read >>= λ lines. Ok (line ∷ lines)) (AllByRecursion LineStartsLow)
with_line line (Ok lines) h all = (h, all)
with_line line (Err place) h all = tt

lines_behind : (begun : Bool) (gs : List (List Token)) (read : Result Line AsmPlace) → IfOk read LineStartsLow → ((b : Bool) → IfOk (lines_from b gs) (AllByRecursion LineStartsLow)) →
    IfOk (read >>= λ line. lines_from (begun || is_segment line.statement) gs >>= λ lines. Ok (line ∷ lines)) (AllByRecursion LineStartsLow)
lines_behind begun gs (Ok line) h more = with_line line (lines_from (begun || is_segment line.statement) gs) h (more (begun || is_segment line.statement))
lines_behind begun gs (Err place) h more = tt

lines_start_low : (begun : Bool) (groups : List (List Token)) → AllByRecursion AreLow groups → IfOk (lines_from begun groups) (AllByRecursion LineStartsLow)
unfolding lines_from
lines_start_low begun [] h = tt
lines_start_low begun (g ∷ gs) h = lines_behind begun gs (line_of begun g) (line_starts_low begun g h.0) (λ b. lines_start_low b gs h.1)

parsed_start_low : (text : List ℕ) → IfOk (parsed_lines (tokens_of text)) (AllByRecursion LineStartsLow)
unfolding parsed_lines
parsed_start_low text = lines_start_low false (token_lines (tokens_of text)) (groups_are_low (tokens_of text) (tokens_are_low text))

pub starts_are_low : (text : List ℕ) (lines : List Line) → parsed_lines (tokens_of text) ≡ Ok lines → AllByRecursion (λ l. StartsLow l.statement) lines
starts_are_low text lines e = let P : Lines → Type 0 = λ read. IfOk read (AllByRecursion LineStartsLow) in subst P e (parsed_start_low text)
