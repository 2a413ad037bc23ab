-- At most one form of token stands at a place, numbers aside: the first byte tells.
use Rattle.std.proofs.Common.{◌≡◌, ◌+◌, ◌<◌, ℕ, Bool, true, false, cond, List, [], ◌∷◌, take, Some, None, refl, ap, arith, ◌==◌, ◌&&◌, nat_lt}
use Rattle.std.proofs.lemmas.Bool.Decides.{nat_tests}
use Rattle.std.specs.List.{prefix_len}
use Rattle.std.specs.Char.{is_ascii_digit}
use Rattle.xt_lex.specs.declared.token.TokenKind.{TokenKind}
use Rattle.xt_lex.specs.TextBytes.{is_word_start, number_of}
use Rattle.xt_lex.specs.declared.fronts.Form.TheVariants as form
use Rattle.xt_lex.specs.Forms.{form_at}
use Rattle.xt_lex.specs.Fronts.{Front, number_kind, hex_digits_front, word_front, decimal_front, hex_front, character_front, string_front, mark_front, longer, token_at}

-- a byte that passes a test is none that fails it
not_at : (p : ℕ → Bool) (k b : ℕ) → p k ≡ false → p b ≡ true → (b == k) ≡ false
not_at p k b fails passes = differ (b == k) refl
  where
    differ : (t : Bool) → (b == k) ≡ t → t ≡ false
    differ false e = refl
    differ true e = let same : b ≡ k = grind (arith, nat_tests) in cc (fails, passes, ap p same)

word_is_no_digit : (b : ℕ) → is_word_start b ≡ true → is_ascii_digit b ≡ false
word_is_no_digit b h = grind (arith, nat_tests)

word_none : (b : ℕ) (r : List ℕ) → is_word_start b ≡ false → word_front (b ∷ r) ≡ None
unfolding word_front
word_none b r h = rw h refl

decimal_none : (b : ℕ) (r : List ℕ) → is_ascii_digit b ≡ false → decimal_front (b ∷ r) ≡ None
unfolding decimal_front
decimal_none b r h = rw h refl

hex_none : (b : ℕ) (r : List ℕ) → (b == 48) ≡ false → hex_front (b ∷ r) ≡ None
unfolding hex_front
hex_none b [] h = refl
hex_none b (x ∷ digits) h = rw h refl

character_none : (b : ℕ) (r : List ℕ) → (b == 39) ≡ false → character_front (b ∷ r) ≡ None
unfolding character_front
character_none b [] h = refl
character_none b (c ∷ []) h = refl
character_none b (c ∷ d ∷ r) h = rw h refl

string_none : (b : ℕ) (r : List ℕ) → (b == 34) ≡ false → string_front (b ∷ r) ≡ None
unfolding string_front
string_none b r h = rw h refl

mark_none : (b : ℕ) (r : List ℕ) → (b == 44) ≡ false → (b == 58) ≡ false → (b == 61) ≡ false → (b == 43) ≡ false → (b == 45) ≡ false → mark_front (b ∷ r) ≡ None
unfolding mark_front
mark_none b r h1 h2 h3 h4 h5 = rw (h1, h2, h3, h4, h5) refl

-- a first byte that passes a test which no quote and no mark passes
alone : (p : ℕ → Bool) (b : ℕ) (r : List ℕ) → p b ≡ true → p 39 ≡ false → p 34 ≡ false → p 44 ≡ false → p 58 ≡ false → p 61 ≡ false → p 43 ≡ false → p 45 ≡ false
    → longer (character_front (b ∷ r)) (longer (string_front (b ∷ r)) (mark_front (b ∷ r))) ≡ None
alone p b r passes q d m1 m2 m3 m4 m5 =
    rw (character_none b r (not_at p 39 b q passes), string_none b r (not_at p 34 b d passes), mark_none b r (not_at p 44 b m1 passes) (not_at p 58 b m2 passes) (not_at p 61 b m3 passes) (not_at p 43 b m4 passes) (not_at p 45 b m5 passes)) refl

or_none : (x : Front) → longer x None ≡ x
or_none None = refl
or_none (Some x) = refl

abbrev is_quote : ℕ → Bool
is_quote b = b == 39

abbrev is_double_quote : ℕ → Bool
is_double_quote b = b == 34

-- what the tests of a first byte say of its form
word_test : (w d q s : Bool) → form.Word ≡ cond w form.Word (cond d form.Number (cond q form.Character (cond s form.Str form.Mark))) → w ≡ true
word_test true d q s e = refl
word_test false true q s e = cc
word_test false false true s e = cc
word_test false false false true e = cc
word_test false false false false e = cc

number_test : (w d q s : Bool) → form.Number ≡ cond w form.Word (cond d form.Number (cond q form.Character (cond s form.Str form.Mark))) → (w ≡ false) × (d ≡ true)
number_test true d q s e = cc
number_test false true q s e = (refl, refl)
number_test false false true s e = cc
number_test false false false true e = cc
number_test false false false false e = cc

character_test : (w d q s : Bool) → form.Character ≡ cond w form.Word (cond d form.Number (cond q form.Character (cond s form.Str form.Mark))) → (w ≡ false) × (d ≡ false) × (q ≡ true)
character_test true d q s e = cc
character_test false true q s e = cc
character_test false false true s e = (refl, refl, refl)
character_test false false false true e = cc
character_test false false false false e = cc

string_test : (w d q s : Bool) → form.Str ≡ cond w form.Word (cond d form.Number (cond q form.Character (cond s form.Str form.Mark))) → (w ≡ false) × (d ≡ false) × (q ≡ false) × (s ≡ true)
string_test true d q s e = cc
string_test false true q s e = cc
string_test false false true s e = cc
string_test false false false true e = (refl, refl, refl, refl)
string_test false false false false e = cc

mark_test : (w d q s : Bool) → form.Mark ≡ cond w form.Word (cond d form.Number (cond q form.Character (cond s form.Str form.Mark))) → (w ≡ false) × (d ≡ false) × (q ≡ false) × (s ≡ false)
mark_test true d q s e = cc
mark_test false true q s e = cc
mark_test false false true s e = cc
mark_test false false false true e = cc
mark_test false false false false e = (refl, refl, refl, refl)

no_zero : (b : ℕ) → is_ascii_digit b ≡ false → (b == 48) ≡ false
no_zero b e = grind (arith, nat_tests)

-- the token of each form is the one at the front
pub word_alone : (bytes : List ℕ) → form.Word ≡ form_at bytes → word_front bytes ≡ token_at bytes
unfolding token_at
word_alone [] h = cc
word_alone (b ∷ r) h =
    let start = word_test (is_word_start b) (is_ascii_digit b) (b == 39) (b == 34) h in
    rw (decimal_none b r (word_is_no_digit b start), hex_none b r (not_at is_word_start 48 b refl start), alone is_word_start b r start refl refl refl refl refl refl refl, or_none (word_front (b ∷ r))) refl

pub number_alone : (bytes : List ℕ) → form.Number ≡ form_at bytes → longer (decimal_front bytes) (hex_front bytes) ≡ token_at bytes
unfolding token_at
number_alone [] h = cc
number_alone (b ∷ r) h =
    let t = number_test (is_word_start b) (is_ascii_digit b) (b == 39) (b == 34) h in
    rw (word_none b r t.0, alone is_ascii_digit b r t.1 refl refl refl refl refl refl refl, or_none (hex_front (b ∷ r))) refl

pub character_alone : (bytes : List ℕ) → form.Character ≡ form_at bytes → character_front bytes ≡ token_at bytes
unfolding token_at
character_alone [] h = cc
character_alone (b ∷ r) h =
    let t = character_test (is_word_start b) (is_ascii_digit b) (b == 39) (b == 34) h in
    rw (word_none b r t.0, decimal_none b r t.1, hex_none b r (not_at is_quote 48 b refl t.2), string_none b r (not_at is_quote 34 b refl t.2), mark_none b r (not_at is_quote 44 b refl t.2) (not_at is_quote 58 b refl t.2) (not_at is_quote 61 b refl t.2) (not_at is_quote 43 b refl t.2) (not_at is_quote 45 b refl t.2), or_none (character_front (b ∷ r))) refl

pub string_alone : (bytes : List ℕ) → form.Str ≡ form_at bytes → string_front bytes ≡ token_at bytes
unfolding token_at
string_alone [] h = cc
string_alone (b ∷ r) h =
    let t = string_test (is_word_start b) (is_ascii_digit b) (b == 39) (b == 34) h in
    rw (word_none b r t.0, decimal_none b r t.1, hex_none b r (not_at is_double_quote 48 b refl t.3), character_none b r t.2, mark_none b r (not_at is_double_quote 44 b refl t.3) (not_at is_double_quote 58 b refl t.3) (not_at is_double_quote 61 b refl t.3) (not_at is_double_quote 43 b refl t.3) (not_at is_double_quote 45 b refl t.3), or_none (string_front (b ∷ r))) refl

pub mark_alone : (bytes : List ℕ) → form.Mark ≡ form_at bytes → mark_front bytes ≡ token_at bytes
unfolding word_front decimal_front hex_front character_front string_front mark_front token_at
mark_alone [] h = refl
mark_alone (b ∷ r) h =
    let t = mark_test (is_word_start b) (is_ascii_digit b) (b == 39) (b == 34) h in
    rw (word_none b r t.0, decimal_none b r t.1, hex_none b r (no_zero b t.1), character_none b r t.2, string_none b r t.3) refl

-- `0x` and digits are longer than the `0` alone
wider : (d : Front) (x : TokenKind × ℕ) (k : TokenKind) → d ≡ Some (k, 1) → 1 < x.1 → longer d (Some x) ≡ Some x
wider d x k e h = let b : nat_lt 1 x.1 ≡ true = grind (arith, nat_tests) in rw (e, b) refl

hex_digits_wide : (t : Bool) (k : TokenKind) (n : ℕ) (x : TokenKind × ℕ) → cond {A = Front} t None (Some (k, 2 + n)) ≡ Some x → 1 < x.1
hex_digits_wide true k n x e = cc
hex_digits_wide false k n x e =
    let p : (k, 2 + n) ≡ x = cc in
    let w : 2 + n ≡ x.1 = ap (λ (z : TokenKind × ℕ). z.1) p in
    omega arith

zero_alone : (b x : ℕ) (digits : List ℕ) → (b == 48) ≡ true → (x == 120) ≡ true → (k : TokenKind) × (decimal_front (b ∷ x ∷ digits) ≡ Some (k, 1))
unfolding decimal_front
zero_alone b x digits hb hx =
    let is_zero : is_ascii_digit b ≡ true = grind (arith, nat_tests) in
    let is_x : is_ascii_digit x ≡ false = grind (arith, nat_tests) in
    let one : prefix_len is_ascii_digit (b ∷ x ∷ digits) ≡ 1 = rw (is_zero, is_x) refl in
    let front = λ (n : ℕ). cond {A = Front} (n == 0) None (Some (number_kind (number_of 10 (take n (b ∷ x ∷ digits))), n)) in
    (number_kind (number_of 10 (b ∷ [])), ap front one)

pub hex_is_longer : (bytes : List ℕ) (x : TokenKind × ℕ) → hex_front bytes ≡ Some x → longer (decimal_front bytes) (Some x) ≡ Some x
unfolding hex_front
hex_is_longer [] x h = cc
hex_is_longer (b ∷ []) x h = cc
hex_is_longer (b ∷ c ∷ digits) x h = tests (b == 48) (c == 120) refl refl h
  where
    tests : (zero ex : Bool) → (b == 48) ≡ zero → (c == 120) ≡ ex → cond {A = Front} (zero && ex) (hex_digits_front digits) None ≡ Some x → longer (decimal_front (b ∷ c ∷ digits)) (Some x) ≡ Some x
    tests true true e f g = let d = zero_alone b c digits e f in wider (decimal_front (b ∷ c ∷ digits)) x d.0 d.1 (hex_digits_wide _ _ _ x g)
    tests true false e f g = cc
    tests false ex e f g = cc
