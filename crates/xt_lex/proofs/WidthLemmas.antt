-- A token takes at least one byte, and no more than there are; a string takes two bytes more than it stands for, or more.
use Rattle.std.proofs.Common.{◌≡◌, ◌+◌, ◌<◌, ◌≤◌, ℕ, Bool, true, false, cond, List, [], ◌∷◌, length, Option, Some, None, refl, subst, arith, ◌==◌, ◌&&◌, nat_lt, ◌^◌, suc}
use Rattle.std.proofs.lemmas.Bool.Decides.{nat_tests}
use Rattle.std.proofs.lemmas.List.Sums.{prefix_len-le-length}
use Rattle.std.specs.List.{prefix_len, take_while}
use Rattle.std.specs.Char.{is_ascii_digit, is_ascii_hexdigit}
use Rattle.std.specs.Option.{option_map, IfSome}
use Rattle.xt_lex.specs.declared.token.TokenKind.{TokenKind}
use Rattle.xt_lex.specs.declared.token.TokenKind.TheVariants.{Word, Number, Character, Str, Comma, Colon, Equals, Plus, Minus, Bad}
use Rattle.xt_lex.specs.TextBytes.{is_word_start, is_word_byte, is_plain, escaped_byte, number_of}
use Rattle.xt_lex.specs.Fronts.{Front, number_kind_of, number_kind, hex_digits_front, word_front, decimal_front, hex_front, character_front, string_body, and_then, after_escape, string_front, mark_front, longer, token_at}
use Rattle.xt_lex.specs.Tokens.{kind_weight, valid}

-- a token takes no more bytes than there are, and weighs no more than the bytes that it takes
pub record Within (len : ℕ) (x : TokenKind × ℕ) : Type 0 where
  pub some : 0 < x.1
  pub most : x.1 ≤ len
  pub light : kind_weight x.0 ≤ x.1

abbrev All' : ℕ → Front → Type 0
All' len front = IfSome front (Within len)

number_weight : (o : Option ℕ) → kind_weight (number_kind_of o) ≡ 1
number_weight None = refl
number_weight (Some n) = refl

numbered : (len n w : ℕ) → 0 < w → w ≤ len → Within len (number_kind n, w)
numbered len n w s m = record { some = s; most = m; light = omega (arith, number_weight (cond {A = Option ℕ} (nat_lt n (2 ^ 32)) (Some n) None)) }

picks : (len : ℕ) (t : Bool) (x : TokenKind × ℕ) → (t ≡ true → Within len x) → All' len (cond {A = Front} t (Some x) None)
picks len true x h = h refl
picks len false x h = tt

refuses : (len : ℕ) (t : Bool) (x : TokenKind × ℕ) → (t ≡ false → Within len x) → All' len (cond {A = Front} t None (Some x))
refuses len true x h = tt
refuses len false x h = h refl

word_within : (bytes : List ℕ) → All' (length bytes) (word_front bytes)
unfolding word_front
word_within [] = tt
word_within (b ∷ rest) = picks (length (b ∷ rest)) (is_word_start b) (Word (take_while is_word_byte (b ∷ rest)), prefix_len is_word_byte (b ∷ rest))
    (λ e. let first : is_word_byte b ≡ true = rw e refl in
    let one : prefix_len is_word_byte (b ∷ rest) ≡ 1 + prefix_len is_word_byte rest = rw first refl in
    record { some = omega arith; most = prefix_len-le-length is_word_byte (b ∷ rest); light = omega arith })

nonzero : (n : ℕ) → (n == 0) ≡ false → 0 < n
nonzero n e = grind (arith, nat_tests)

decimal_within : (bytes : List ℕ) → All' (length bytes) (decimal_front bytes)
unfolding decimal_front
decimal_within bytes = refuses (length bytes) (prefix_len is_ascii_digit bytes == 0) (number_kind (number_of 10 (take_while is_ascii_digit bytes)), prefix_len is_ascii_digit bytes)
    (λ e. numbered (length bytes) _ _ (nonzero _ e) (prefix_len-le-length is_ascii_digit bytes))

hex_digits_within : (digits : List ℕ) → All' (2 + length digits) (hex_digits_front digits)
hex_digits_within digits = refuses (2 + length digits) (prefix_len is_ascii_hexdigit digits == 0) (number_kind (number_of 16 (take_while is_ascii_hexdigit digits)), 2 + prefix_len is_ascii_hexdigit digits)
    (λ e. numbered (2 + length digits) _ _ (omega arith) (omega (arith, prefix_len-le-length is_ascii_hexdigit digits)))

either : (len : ℕ) (t : Bool) (f : Front) → All' len f → All' len (cond {A = Front} t f None)
either len true f h = h
either len false f h = tt

long : (len more : ℕ) (f : Front) → len ≤ more → All' len f → All' more f
long len more None h a = tt
long len more (Some x) h a = record { some = a.some; most = omega (arith, a.most); light = a.light }

hex_within : (bytes : List ℕ) → All' (length bytes) (hex_front bytes)
unfolding hex_front
hex_within [] = tt
hex_within (b ∷ []) = tt
hex_within (b ∷ x ∷ digits) = either (length (b ∷ x ∷ digits)) (b == 48 && x == 120) (hex_digits_front digits) (long (2 + length digits) (length (b ∷ x ∷ digits)) (hex_digits_front digits) (omega arith) (hex_digits_within digits))

character_within : (bytes : List ℕ) → All' (length bytes) (character_front bytes)
unfolding character_front
character_within [] = tt
character_within (b ∷ []) = tt
character_within (b ∷ c ∷ []) = tt
character_within (b ∷ c ∷ d ∷ rest) = picks (length (b ∷ c ∷ d ∷ rest)) (b == 39 && d == 39 && is_plain 39 c) (Character c, 3) (λ e. record { some = omega arith; most = omega arith; light = omega arith })

-- ---- strings

record BodyWithin (len : ℕ) (r : List ℕ × ℕ) : Type 0 where
  light : suc (length r.0) ≤ r.1
  most : r.1 ≤ len

abbrev AllBody : ℕ → Option (List ℕ × ℕ) → Type 0
AllBody len body = IfSome body (BodyWithin len)

then_within : (len byte width : ℕ) (body : Option (List ℕ × ℕ)) → 0 < width → AllBody len body → AllBody (width + len) (and_then byte width body)
then_within len byte width None h a = tt
then_within len byte width (Some r) h a = record { light = omega (arith, a.light); most = omega (arith, a.most) }

escape_within : (len : ℕ) (e : Option ℕ) (body : Option (List ℕ × ℕ)) → AllBody len body → AllBody (2 + len) (after_escape e body)
escape_within len None body a = tt
escape_within len (Some byte) body a = then_within len byte 2 body (omega arith) a

pick_body : (len : ℕ) (t : Bool) (f g : Option (List ℕ × ℕ)) → AllBody len f → AllBody len g → AllBody len (cond t f g)
pick_body len true f g a b = a
pick_body len false f g a b = b

long_body : (len more : ℕ) (f : Option (List ℕ × ℕ)) → len ≤ more → AllBody len f → AllBody more f
long_body len more None h a = tt
long_body len more (Some x) h a = record { light = a.light; most = omega (arith, a.most) }

body_within : (bytes : List ℕ) → AllBody (length bytes) (string_body bytes)
unfolding string_body
body_within [] = tt
body_within (b ∷ []) = pick_body 1 (b == 34) (Some ([], 1)) None (record { light = omega arith; most = omega arith }) tt
body_within (b ∷ c ∷ rest) =
    let len = length (b ∷ c ∷ rest) in
    pick_body len (b == 34) (Some ([], 1)) _ (record { light = omega arith; most = omega arith })
    (pick_body len (b == 92) _ _ (long_body (2 + length rest) len _ (omega arith) (escape_within (length rest) (escaped_byte c) (string_body rest) (body_within rest)))
    (pick_body len (is_plain 34 b) _ None (long_body (1 + length (c ∷ rest)) len _ (omega arith) (then_within (length (c ∷ rest)) b 1 (string_body (c ∷ rest)) (omega arith) (body_within (c ∷ rest)))) tt))

string_of_body : (len : ℕ) (body : Option (List ℕ × ℕ)) → AllBody len body → All' (1 + len) (option_map (λ r. (Str r.0, 1 + r.1)) body)
string_of_body len None a = tt
string_of_body len (Some r) a = record { some = omega arith; most = omega (arith, a.most); light = omega (arith, a.light) }

string_within : (bytes : List ℕ) → All' (length bytes) (string_front bytes)
unfolding string_front
string_within [] = tt
string_within (b ∷ rest) = either (length (b ∷ rest)) (b == 34) _ (long (1 + length rest) (length (b ∷ rest)) _ (omega arith) (string_of_body (length rest) (string_body rest) (body_within rest)))

one_of : (len : ℕ) (t : Bool) (k : TokenKind) (f : Front) → 0 < len → kind_weight k ≡ 1 → All' len f → All' len (cond {A = Front} t (Some (k, 1)) f)
one_of len true k f h w a = record { some = omega arith; most = omega arith; light = omega arith }
one_of len false k f h w a = a

mark_within : (bytes : List ℕ) → All' (length bytes) (mark_front bytes)
unfolding mark_front
mark_within [] = tt
mark_within (b ∷ rest) =
    let len = length (b ∷ rest) in
    let h : 0 < len = omega arith in
    one_of len (b == 44) Comma _ h refl (one_of len (b == 58) Colon _ h refl (one_of len (b == 61) Equals _ h refl (one_of len (b == 43) Plus _ h refl (one_of len (b == 45) Minus None h refl tt))))

chosen : (len : ℕ) (t : Bool) (x y : TokenKind × ℕ) → Within len x → Within len y → All' len (cond {A = Front} t (Some y) (Some x))
chosen len true x y a b = b
chosen len false x y a b = a

longer_within : (len : ℕ) (f g : Front) → All' len f → All' len g → All' len (longer f g)
longer_within len None g a b = b
longer_within len (Some x) None a b = a
longer_within len (Some x) (Some y) a b = chosen len (nat_lt x.1 y.1) x y a b

token_within : (bytes : List ℕ) → All' (length bytes) (token_at bytes)
unfolding token_at
token_within bytes =
    let len = length bytes in
    longer_within len _ _ (word_within bytes) (longer_within len _ _ (decimal_within bytes) (longer_within len _ _ (hex_within bytes) (longer_within len _ _ (character_within bytes) (longer_within len _ _ (string_within bytes) (mark_within bytes)))))

valid_within : (len : ℕ) (f : Front) → All' len f → All' len (valid f)
valid_within len None a = tt
valid_within len (Some (Bad, w)) a = tt
valid_within len (Some (Word n, w)) a = a
valid_within len (Some (Number n, w)) a = a
valid_within len (Some (Character n, w)) a = a
valid_within len (Some (Str n, w)) a = a
valid_within len (Some (Comma, w)) a = a
valid_within len (Some (Colon, w)) a = a
valid_within len (Some (Equals, w)) a = a
valid_within len (Some (Plus, w)) a = a
valid_within len (Some (Minus, w)) a = a

-- a token that stands at the front takes at least one byte, and no more than there are
pub valid_is_within : (bytes : List ℕ) (x : TokenKind × ℕ) → valid (token_at bytes) ≡ Some x → Within (length bytes) x
valid_is_within bytes x e = let P : Front → Type 0 = All' (length bytes) in subst P e (valid_within (length bytes) (token_at bytes) (token_within bytes))
