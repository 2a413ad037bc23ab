use Rattle.std.proofs.Common.{sym, ◌∙◌, ap}
use Rattle.std.specs.Option.{option_map}
use Rattle.std.specs.Str.{bytes_eq}
use Rattle.xt_parse.specs.Words.{directive_words, word_and_form}
use Rattle.xt_names.proofs.Walked.{found, not_found}
use Rattle.xt_parse.proofs.words.directive_of.Goals as goal

pub returns-then-eq : goal.returns-then-eq
returns-then-eq c = sym (ap (λ o. option_map (λ row. row.1) o) (found word_and_form (λ row. bytes_eq row.0 c.args.name.now) directive_words c.directives-word-items.result.now c.loop-word.word-index _ c.directives-word-items.ensures c.loop-word-test.true c.loop-word.invariant
    (ap (λ b. bytes_eq b c.args.name.now) (sym c.as_bytes.ensures.value) ∙ sym c.eq.ensures ∙ c.if-eq.true)))

pub returns : goal.returns
returns c = sym (ap (λ o. option_map (λ row. row.1) o) (not_found word_and_form (λ row. bytes_eq row.0 c.args.name.now) directive_words c.directives-word-items.result.now c.loop-word.word-index c.directives-word-items.ensures c.loop-word-test.false c.loop-word.invariant))
