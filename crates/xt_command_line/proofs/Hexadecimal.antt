-- The number that `from_str_radix` reads from hexadecimal digits, and the prefix `0x`.
use Rattle.std.proofs.Common.{◌≡◌, ℕ, ◌<◌, ◌≤◌, ◌≢◌, ◌&&◌, ◌^◌, ◌-◌, true, false, List, [], ◌∷◌, length, Some, None, Result, Ok, Err, arith, refl, sym, subst, get_or, codes}
use Rattle.std.specs.Prelude.{nat_lt, nat_le, if◌then◌else◌}
use Rattle.std.specs.Result.{OkIff, result_ok}
use Rattle.std.specs.List.{list_all}
use Rattle.std.specs.Char.{is_ascii_hexdigit, digit_value}
use Rattle.std.specs.Str.Parse.{AllDigits, IsNumeral, ParsesUnsigned, digits_value}
use Rattle.std.specs.Str.Pattern.{FindsTextPrefix, StripsPrefix}
use Rattle.std.specs.Str.{IsCharBoundary}
use Rattle.std.proofs.lemmas.Bool.{and_parts}
use Rattle.std.proofs.lemmas.Bool.Decides.{nat_tests}
use Rattle.std.proofs.lemmas.Str.Parse.{without_leading_plus_none}
use Rattle.std.proofs.lemmas.Str.Pattern.{starts_text}
use Rattle.xt_command_line.specs.Numbers.{hexadecimal_of, number_of, number_up_to}

digit_below : (c : ℕ) → is_ascii_hexdigit c ≡ true → digit_value c < 16
digit_below c h = grind (arith, nat_tests)

no_plus : (c : ℕ) → is_ascii_hexdigit c ≡ true → c ≢ 43
no_plus c h = grind (arith, nat_tests)

all_digits : (bs : List ℕ) → list_all is_ascii_hexdigit bs ≡ true → AllDigits 16 bs
all_digits [] h = tt
all_digits (c ∷ cs) h = let p = and_parts _ _ h in (digit_below c p.0, all_digits cs p.1)

unsigned : (bs : List ℕ) → list_all is_ascii_hexdigit bs ≡ true → get_or bs 0 0 ≢ 43
unsigned [] h = λ e. absurd (omega (arith, e))
unsigned (c ∷ cs) h = no_plus c (and_parts _ _ h).0

by_test : {E : Type 0} (A : Type 0) (r : Result ℕ E) (len v most : ℕ) → OkIff r (((0 < len) × A) × (v < most)) v → A → len ≤ 8
    → result_ok r ≡ (if ((nat_lt 0 len && nat_le len 8) && true) && nat_lt v most then Some v else None)
by_test A (Ok n) len v most p all short = let some : 0 < len = p.0.0.0 in let small : v < most = p.0.1 in let same : n ≡ v = p.1 in grind (arith, nat_tests)
by_test A (Err e) len v most p all short = let none : 0 < len → v < most → ⊥ = λ a b. p ((a, all), b) in grind (arith, nat_tests)

pub hexadecimal_read : {E : Type 0} (bs : List ℕ) (r : Result ℕ E) → ParsesUnsigned 32 16 bs r → length bs ≤ 8 → list_all is_ascii_hexdigit bs ≡ true
    → result_ok r ≡ hexadecimal_of bs
hexadecimal_read bs r h short digits =
    let P : List ℕ → Type 0 = λ ds. OkIff r (IsNumeral 16 ds × (digits_value 16 ds < 2 ^ 32)) (digits_value 16 ds) in
    let read = subst P (without_leading_plus_none bs (unsigned bs digits)) h in
    rw digits (by_test (AllDigits 16 bs) r (length bs) (digits_value 16 bs) (2 ^ 32) read (all_digits bs digits) short)

-- a text with the prefix, and one without
abbrev pub prefix : List ℕ
prefix = codes "0x"

pub with_prefix : (text rest : List ℕ) → StripsPrefix (FindsTextPrefix prefix) text rest → hexadecimal_of rest ≡ number_of text
unfolding number_of
with_prefix text rest (n, (two, is, boundary), cut, long) =
    let P : ℕ → Type 0 = λ k. IsCharBoundary text k in
    let starts = starts_text true prefix text (n, (two, is, boundary), subst P (sym two) boundary) in
    rw (← starts, ← two, cut) refl

pub without_prefix : (text : List ℕ) → FindsTextPrefix prefix text None → number_up_to (2 ^ 32 - 1) text ≡ number_of text
unfolding number_of
without_prefix text none = let starts = starts_text false prefix text none in rw (← starts) refl
