-- The place that a text says, with and without a colon.
use Rattle.std.proofs.Common.{◌≡◌, ℕ, List, [], Bor, length, Option, Some, None, arith, refl, sym}
use Rattle.std.specs.Prelude.{◌==◌}
use Rattle.std.proofs.lemmas.List.{drop_all}
use Rattle.std.proofs.lemmas.Str.Pattern.{IsSplitOnceResult, split_once_first}
use Rattle.std.specs.List.{position_or_len, before_first, after_first}
use Rattle.xt_command_line.specs.Numbers.{number_of}
use Rattle.xt_command_line.specs.Parts.{colon}
use Rattle.xt_command_line.specs.Spans.{span_by, span_of}

no_number : number_of [] ≡ None
unfolding number_of
no_number = refl

no_count : (addr : Option ℕ) → span_by addr None ≡ None
no_count None = refl
no_count (Some a) = refl

without_colon : (text : List ℕ) → position_or_len (λ b. b == colon) text ≡ length text → None ≡ span_of text
unfolding span_of
without_colon text none =
    let rest : after_first (λ b. b == colon) text ≡ [] = drop_all _ text (omega (arith, none)) in
    rw (rest, no_number) (sym (no_count _))

with_colon : (text addr count : List ℕ) → addr ≡ before_first (λ b. b == colon) text → count ≡ after_first (λ b. b == colon) text
    → span_by (number_of addr) (number_of count) ≡ span_of text
unfolding span_of
with_colon text addr count e f = rw (e, f) refl

pub some_span : (text : List ℕ) (r : Option (Bor (List ℕ) × Bor (List ℕ))) → IsSplitOnceResult colon text r → (x : Bor (List ℕ) × Bor (List ℕ)) → r ≡ Some x
    → span_by (number_of x.0.now) (number_of x.1.now) ≡ span_of text
some_span text r split x is = let (inside, front, back) = rw is at (split_once_first colon text r split (omega arith)) in with_colon text x.0.now x.1.now front back

pub no_span : (text : List ℕ) (r : Option (Bor (List ℕ) × Bor (List ℕ))) → IsSplitOnceResult colon text r → r ≡ None → None ≡ span_of text
no_span text r split is = let none = rw is at (split_once_first colon text r split (omega arith)) in without_colon text none
