use Rattle.std.proofs.Common.{ℕ, ◌+◌, List, Some, drop, sym, ap, ◌∙◌}
use Rattle.std.proofs.lemmas.List.{at_drop_more, at_drop_all}
use Rattle.xt_command_line.specs.Parts.{all_said}
use Rattle.xt_command_line.specs.Secrets.{range_of}
use Rattle.xt_command_line.specs.declared.spans.Span.{Span}
use Rattle.xt_command_line.proofs.TurnTexts.{before, goes_on, no_more, stops}
use Rattle.xt_command_line.proofs.secrets.ranges_from.Goals as goal

pub returns-in-None : goal.returns-in-None
returns-in-None c =
    let xs = c.loop-span.ranges.items in
    let i = c.loop-span.span-index in
    sym (sym c.loop-span.invariant ∙ at_drop_more (λ (l : List Span). before xs (all_said range_of l)) c.args.spans.now i _ c.loop-span-test.true ∙ stops xs _ _ (sym c.range_of.ensures ∙ c.in-None.is))

pub loop-span-preserved : goal.loop-span-preserved
loop-span-preserved c =
    let xs = c.loop-span.ranges.items in
    let i = c.loop-span.span-index in
    ap (λ (l : List (ℕ × ℕ)). before l (all_said range_of (drop (i + 1) c.args.spans.now))) c.in_ok-push-in-Some.ensures.items
    ∙ goes_on xs _ c.in-Some.range _ (sym c.range_of.ensures ∙ c.in-Some.is)
    ∙ sym (at_drop_more (λ (l : List Span). before xs (all_said range_of l)) c.args.spans.now i _ c.loop-span-test.true)
    ∙ c.loop-span.invariant

pub returns : goal.returns
returns c =
    let xs = c.loop-span.ranges.items in
    ap Some c.new.ensures ∙ sym (sym c.loop-span.invariant ∙ at_drop_all (λ (l : List Span). before xs (all_said range_of l)) c.args.spans.now c.loop-span.span-index c.loop-span-test.false ∙ no_more xs)
