-- The numbers of the image of a text are in the ranges of their types.
use Rattle.std.proofs.Common.{◌≡◌, ℕ, ◌^◌, ◌<◌, ◌≤◌, true, false, List, [], ◌∷◌, ◌++◌, length, Some, refl, sym, ap, ◌∙◌, ⊎_elim, arith}
use Rattle.std.specs.Prelude.{nat_le, zip}
use Rattle.std.specs.List.{AllByRecursion, list_all}
use Rattle.std.proofs.lemmas.Bool.{and_parts, cases_Bool, cond-false, cond_both, leb-true}
use Rattle.std.proofs.lemmas.List.Elements.{All-replicate, recursion_from_All}
use Rattle.xt_map.specs.declared.segment.Segment.{Segment}
use Rattle.xt_map.specs.Regions.{Range, holds, is_executable, ranges, region_in, region_of}
use Rattle.xt_parse.specs.declared.line.Line.{Line}
use Rattle.xt_parse.specs.declared.statement.Statement.{Statement}
use Rattle.xt_parse.specs.declared.statement.Statement.TheVariants.{Seg}
use Rattle.xt_parse.proofs.SegmentStarts.{StartsLow}
use Rattle.xt_layout.specs.Pools.{is_segment}
use Rattle.xt_layout.specs.Sizes.{padding}
use Rattle.xt_asm.specs.Images.{content, segment_at, segments_of}
use Rattle.xt_asm.specs.Pieces.{ArePieces, Source, zeros}
use Rattle.xt_asm.proofs.WellFormedSegments.{all_append}

-- ---- the entry

below_last : (rs : List Range) (m n : ℕ) → list_all (λ r. nat_le r.last m) rs ≡ true → is_executable (region_in rs n) ≡ true → n ≤ m
below_last [] m n all h = absurd cc
below_last (r ∷ rs) m n all h =
    let parts = and_parts (nat_le r.last m) (list_all (λ r. nat_le r.last m) rs) all in
    ⊎_elim
    (λ (here : holds r n ≡ true). omega (arith, leb-true n r.last (and_parts (nat_le r.first n) (nat_le n r.last) here).1, leb-true r.last m parts.0))
    (λ (later : holds r n ≡ false). below_last rs m n parts.1 (ap is_executable (sym (cond-false (holds r n) (Some r.region) (region_in rs n) later)) ∙ h)) (cases_Bool (holds r n))

pub executable_fits : (n : ℕ) → is_executable (region_of n) ≡ true → n < 2 ^ 32
unfolding region_of
executable_fits n h = let le : n ≤ 0x50001FFF = below_last ranges 0x50001FFF n refl h in omega arith

-- ---- the segments

abbrev pub AreBytes : List ℕ → Type 0
AreBytes xs = AllByRecursion (λ b. b < 256) xs

pub pieces_are_bytes : (sources : List Source) (pieces : List (List ℕ)) → ArePieces sources pieces → AllByRecursion AreBytes pieces
pieces_are_bytes [] [] are = tt
pieces_are_bytes [] (piece ∷ pieces) are = absurd are
pieces_are_bytes (s ∷ sources) [] are = absurd are
pieces_are_bytes (s ∷ sources) (piece ∷ pieces) are = (recursion_from_All (λ b. b < 256) piece are.0.small, pieces_are_bytes sources pieces are.1)

zeros_are_bytes : (n : ℕ) → AreBytes (zeros n)
zeros_are_bytes n = recursion_from_All (λ b. b < 256) (zeros n) (All-replicate (λ b. b < 256) n 0 (omega arith))

content_is_bytes : (lines : List Line) (pieces : List (List ℕ)) → AllByRecursion AreBytes pieces → AreBytes (content (zip lines pieces))
content_is_bytes [] pieces are = tt
content_is_bytes (l ∷ lines) [] are = tt
content_is_bytes (l ∷ lines) (piece ∷ pieces) are =
    cond_both (is_segment l.statement) [] (piece ++ content (zip lines pieces)) AreBytes (λ _. tt)
    (λ _. all_append (λ b. b < 256) piece (content (zip lines pieces)) are.0 (content_is_bytes lines pieces are.1))

-- the address and the bytes of a segment are in their ranges
abbrev pub HasNumbers : Segment → Type 0
HasNumbers s = (s.addr < 2 ^ 32) × AreBytes s.bytes

one_has_numbers : (st : Statement) (lines : List Line) (pieces : List (List ℕ)) → StartsLow st → AllByRecursion AreBytes pieces → AllByRecursion HasNumbers (segment_at st (zip lines pieces))
one_has_numbers (Seg start) lines pieces low are =
    let bytes : List ℕ = content (zip lines pieces) in
    ((low, all_append (λ b. b < 256) bytes (zeros (padding 4 (length bytes))) (content_is_bytes lines pieces are) (zeros_are_bytes (padding 4 (length bytes)))), tt)
one_has_numbers _ lines pieces low are = tt

pub all_have_numbers : (lines : List Line) (pieces : List (List ℕ)) → AllByRecursion (λ l. StartsLow l.statement) lines → AllByRecursion AreBytes pieces →
    AllByRecursion HasNumbers (segments_of (zip lines pieces))
all_have_numbers [] pieces low are = tt
all_have_numbers (l ∷ lines) [] low are = tt
all_have_numbers (l ∷ lines) (piece ∷ pieces) low are =
    all_append HasNumbers (segment_at l.statement (zip lines pieces)) (segments_of (zip lines pieces))
    (one_has_numbers l.statement lines pieces low.0 are.1) (all_have_numbers lines pieces low.1 are.1)
