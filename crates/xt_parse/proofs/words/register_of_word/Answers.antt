use Rattle.std.proofs.Common.{sym, ◌∙◌, ap}
use Rattle.std.specs.Option.{option_map}
use Rattle.std.specs.Str.{bytes_eq}
use Rattle.xt_parse.specs.Words.{register_of, register_words, shown_register}
use Rattle.xt_names.proofs.Walked.{found, not_found}
use Rattle.xt_parse.proofs.words.register_of_word.Goals as goal

pub returns-then-eq : goal.returns-then-eq
unfolding register_of
returns-then-eq c = sym (ap (λ o. option_map (λ row. row.1) o) (found shown_register (λ row. bytes_eq row.0 c.args.name.now) register_words c.registers-word-items.result.now c.loop-word.word-index _ c.registers-word-items.ensures c.loop-word-test.true c.loop-word.invariant
    (ap (λ b. bytes_eq b c.args.name.now) (sym c.as_bytes.ensures.value) ∙ sym c.eq.ensures ∙ c.if-eq.true)))

pub returns : goal.returns
unfolding register_of
returns c = sym (ap (λ o. option_map (λ row. row.1) o) (not_found shown_register (λ row. bytes_eq row.0 c.args.name.now) register_words c.registers-word-items.result.now c.loop-word.word-index c.registers-word-items.ensures c.loop-word-test.false c.loop-word.invariant))
