-- The range that a text says, with and without a colon.
use Rattle.std.proofs.Common.{◌≡◌, ℕ, List, [], Bor, length, Option, Some, None, arith, refl, sym}
use Rattle.std.specs.Prelude.{◌==◌}
use Rattle.std.proofs.lemmas.List.{drop_all}
use Rattle.std.proofs.lemmas.Str.Pattern.{IsSplitOnceResult, split_once_first}
use Rattle.std.specs.List.{position_or_len, before_first, after_first}
use Rattle.xt_command_line.specs.Numbers.{number_of}
use Rattle.xt_command_line.specs.Options.{stack_between, range_of}
use Rattle.xt_command_line.specs.Parts.{colon}

no_number : number_of [] ≡ None
unfolding number_of
no_number = refl

no_high : (lo : Option ℕ) → stack_between lo None ≡ None
no_high None = refl
no_high (Some n) = refl

without_colon : (text : List ℕ) → position_or_len (λ b. b == colon) text ≡ length text → None ≡ range_of text
unfolding range_of
without_colon text none =
    let rest : after_first (λ b. b == colon) text ≡ [] = drop_all _ text (omega (arith, none)) in
    rw (rest, no_number) (sym (no_high _))

with_colon : (text lo hi : List ℕ) → lo ≡ before_first (λ b. b == colon) text → hi ≡ after_first (λ b. b == colon) text
    → stack_between (number_of lo) (number_of hi) ≡ range_of text
unfolding range_of
with_colon text lo hi e f = rw (e, f) refl

pub some_range : (text : List ℕ) (r : Option (Bor (List ℕ) × Bor (List ℕ))) → IsSplitOnceResult colon text r → (x : Bor (List ℕ) × Bor (List ℕ)) → r ≡ Some x
    → stack_between (number_of x.0.now) (number_of x.1.now) ≡ range_of text
some_range text r split x is = let (inside, front, back) = rw is at (split_once_first colon text r split (omega arith)) in with_colon text x.0.now x.1.now front back

pub no_range : (text : List ℕ) (r : Option (Bor (List ℕ) × Bor (List ℕ))) → IsSplitOnceResult colon text r → r ≡ None → None ≡ range_of text
no_range text r split is = let none = rw is at (split_once_first colon text r split (omega arith)) in without_colon text none
