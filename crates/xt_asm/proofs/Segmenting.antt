-- The segments that one line more begins.
use Rattle.std.proofs.Common.{◌≡◌, ℕ, ◌+◌, ◌<◌, List, [], ◌∷◌, ◌++◌, length, drop, get_or, sym, ap, ◌∙◌, arith}
use Rattle.std.specs.Prelude.{zip}
use Rattle.std.proofs.lemmas.List.{append_assoc, drop_more}
use Rattle.xt_map.specs.declared.segment.Segment.{Segment}
use Rattle.xt_parse.specs.declared.line.Line.{Line}
use Rattle.xt_layout.proofs.Each.{here}
use Rattle.xt_asm.specs.Images.{segment_at, segments_of}

pub segments_step : (done done' : List Segment) (k : ℕ) (lines : List Line) (pieces : List (List ℕ)) (l : Line) (all : List Segment) → k < length lines → length pieces ≡ length lines → l ≡ get_or lines k l →
    done ++ segments_of (zip (drop k lines) (drop k pieces)) ≡ all → done' ≡ done ++ segment_at l.statement (zip (drop (k + 1) lines) (drop (k + 1) pieces)) →
    done' ++ segments_of (zip (drop (k + 1) lines) (drop (k + 1) pieces)) ≡ all
segments_step done done' k lines pieces l all lt same is known adds =
    let p : List ℕ = get_or pieces k [] in
    let within : k < length pieces = omega arith in
    let cut : drop k pieces ≡ p ∷ drop (k + 1) pieces = drop_more pieces k [] within in
    ap (λ xs. xs ++ segments_of (zip (drop (k + 1) lines) (drop (k + 1) pieces))) adds
    ∙ append_assoc done (segment_at l.statement (zip (drop (k + 1) lines) (drop (k + 1) pieces))) (segments_of (zip (drop (k + 1) lines) (drop (k + 1) pieces)))
    ∙ ap (λ ps. done ++ segments_of (zip (l ∷ drop (k + 1) lines) ps)) (sym cut)
    ∙ ap (λ ls. done ++ segments_of (zip ls (drop k pieces))) (sym (here lines k l lt is))
    ∙ known
