-- The number that `parse` reads from decimal digits, up to a limit.
use Rattle.std.proofs.Common.{Bool, sym, ap, ◌∙◌, ◌≡◌, ℕ, ◌<◌, ◌&&◌, ◌^◌, ◌+◌, ◌-◌, ◌*◌, true, List, length, fold, Option, Some, None, Result, Ok, Err, arith, rules}
use Rattle.std.specs.Prelude.{nat_lt, nat_le, if◌then◌else◌}
use Rattle.std.specs.Bool.{then_some}
use Rattle.std.specs.Result.{OkIff}
use Rattle.std.specs.List.{list_all}
use Rattle.std.specs.Char.{is_ascii_digit}
use Rattle.std.specs.Str.Parse.{ParsesUnsigned}
use Rattle.std.proofs.lemmas.Bool.Decides.{nat_tests}
use Rattle.std.proofs.lemmas.Str.Parse.{IsNumeralModel, numerals_by_fold, parse_digits}
use Rattle.xt_command_line.specs.Numbers.{decimal_value, number_up_to}

-- digits and their value, as the words define them, are those of `parse`
own : IsNumeralModel (λ ds. list_all is_ascii_digit ds ≡ true) decimal_value
own = numerals_by_fold _ (search rules) (λ n ds. fold (λ value digit. 10 * value + (digit - 48)) n ds) (search rules)

-- a number that was read, where it is not above the limit
abbrev pub limited : {E : Type 0} → ℕ → Result ℕ E → Option ℕ
limited most (Ok n) = then_some (nat_le n most) n
limited most (Err e) = None

by_limit : {E : Type 0} (most : ℕ) (r : Result ℕ E) (len v : ℕ) → most < 2 ^ 32 → OkIff r ((0 < len) × (v < 2 ^ 32)) v
    → limited most r ≡ (if (nat_lt 0 len && true) && nat_le v most then Some v else None)
by_limit most (Ok n) len v small p = grind (arith, nat_tests)
by_limit most (Err e) len v small p = grind (arith, nat_tests)

limited-parse : {E : Type 0} (most : ℕ) (bs : List ℕ) (r : Result ℕ E) → most < 2 ^ 32 → ParsesUnsigned 32 10 bs r
    → list_all is_ascii_digit bs ≡ true → limited most r ≡ number_up_to most bs
limited-parse most bs r small h digits = rw digits (by_limit most r (length bs) (decimal_value bs) small (parse_digits own 32 bs r h digits))

-- the same of a word whose bytes were tested
pub read_number : {E : Type 0} (most : ℕ) (word bytes : List ℕ) (are_digits : Bool) (r : Result ℕ E) → most < 2 ^ 32 → bytes ≡ word
    → are_digits ≡ list_all is_ascii_digit bytes → are_digits ≡ true → ParsesUnsigned 32 10 word r → limited most r ≡ number_up_to most word
read_number most word bytes are_digits r small same tested digits h = limited-parse most word r small h (ap (list_all is_ascii_digit) (sym same) ∙ sym tested ∙ digits)
