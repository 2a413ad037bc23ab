use Rattle.std.proofs.Common.{ℕ, ◌+◌, List, Some, Bor, map, drop, sym, ap, ◌∙◌}
use Rattle.std.proofs.lemmas.List.{at_drop_more, at_drop_all}
use Rattle.xt_command_line.specs.Numbers.{number_of}
use Rattle.xt_command_line.specs.Parts.{all_said}
use Rattle.xt_command_line.proofs.TurnTexts.{before, goes_on, no_more, stops}
use Rattle.xt_command_line.proofs.roots.all_numbers.Goals as goal

pub returns-in-None : goal.returns-in-None
returns-in-None c =
    let xs = c.loop-part.numbers.items in
    let i = c.loop-part.part-index in
    sym (sym c.loop-part.invariant ∙ at_drop_more (λ (l : List (Bor (List ℕ))). before xs (all_said number_of (map (λ part. part.now) l))) c.args.parts.now i _ c.loop-part-test.true ∙ stops xs _ _ (sym c.number.ensures ∙ c.in-None.is))

pub loop-part-preserved : goal.loop-part-preserved
loop-part-preserved c =
    let xs = c.loop-part.numbers.items in
    let i = c.loop-part.part-index in
    ap (λ (l : List ℕ). before l (all_said number_of (map (λ part. part.now) (drop (i + 1) c.args.parts.now)))) c.in_ok-push-in-Some.ensures.items
    ∙ goes_on xs _ c.in-Some.number _ (sym c.number.ensures ∙ c.in-Some.is)
    ∙ sym (at_drop_more (λ (l : List (Bor (List ℕ))). before xs (all_said number_of (map (λ part. part.now) l))) c.args.parts.now i _ c.loop-part-test.true)
    ∙ c.loop-part.invariant

pub returns : goal.returns
returns c =
    let xs = c.loop-part.numbers.items in
    ap Some c.new.ensures ∙ sym (sym c.loop-part.invariant ∙ at_drop_all (λ (l : List (Bor (List ℕ))). before xs (all_said number_of (map (λ part. part.now) l))) c.args.parts.now c.loop-part.part-index c.loop-part-test.false ∙ no_more xs)
