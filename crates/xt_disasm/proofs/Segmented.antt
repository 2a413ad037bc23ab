-- The segments of an image, one after another, as a function prints each with its number.
use Rattle.std.proofs.Common.{◌≡◌, ℕ, ◌+◌, ◌<◌, ◌≤◌, List, ◌++◌, length, drop, get_or, sym, ap, ◌∙◌, append_assoc}
use mathlib.Core.List.{append-nil}
use Rattle.std.proofs.lemmas.List.{drop_more, drop_all}
use Rattle.std.specs.List.{enumerate_from, flat_map}
use Rattle.xt_map.specs.declared.segment.Segment.{Segment}

-- what is printed of the segments from the k-th on
abbrev pub printed_from : (ℕ × Segment → List ℕ) → ℕ → List Segment → List ℕ
printed_from f k segments = flat_map f (enumerate_from k (drop k segments))

-- a segment more
pub one_segment_more : (f : ℕ × Segment → List ℕ) (old new whole : List ℕ) (k : ℕ) (segments : List Segment) (s : Segment) → k < length segments → s ≡ get_or segments k s
    → new ≡ old ++ f (k, s) → old ++ printed_from f k segments ≡ whole
    → new ++ printed_from f (k + 1) segments ≡ whole
one_segment_more f old new whole k segments s here is printed so_far =
    ap (λ t. t ++ printed_from f (k + 1) segments) printed
    ∙ append_assoc old (f (k, s)) (printed_from f (k + 1) segments)
    ∙ ap (λ x. old ++ (f (k, x) ++ printed_from f (k + 1) segments)) is
    ∙ ap (λ xs. old ++ flat_map f (enumerate_from k xs)) (sym (drop_more segments k s here))
    ∙ so_far

-- the last one
pub no_segment_left : (f : ℕ × Segment → List ℕ) (old whole : List ℕ) (k : ℕ) (segments : List Segment) → length segments ≤ k → old ++ printed_from f k segments ≡ whole → old ≡ whole
no_segment_left f old whole k segments none so_far =
    sym (append-nil old)
    ∙ ap (λ xs. old ++ flat_map f (enumerate_from k xs)) (sym (drop_all k segments none))
    ∙ so_far
