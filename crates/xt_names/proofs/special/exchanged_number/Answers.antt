use Rattle.std.proofs.Common.{sym, ◌∙◌, ap}
use Rattle.std.specs.Option.{option_map}
use Rattle.std.specs.Str.{bytes_eq}
use Rattle.xt_names.specs.Search.{shown_special}
use Rattle.xt_names.specs.Specials.{exchanged_names}
use Rattle.xt_names.proofs.Walked.{found, not_found}
use Rattle.xt_names.proofs.special.exchanged_number.Goals as goal

pub returns-then-eq-clause-number : goal.returns-then-eq-clause-number
returns-then-eq-clause-number c = sym (ap (λ o. option_map (λ row. row.1) o) (found shown_special (λ row. bytes_eq row.0 c.args.name.now) exchanged_names c.exchanged-word-items.result.now c.loop-word.word-index _ c.exchanged-word-items.ensures.names c.loop-word-test.true c.loop-word.invariant
    (ap (λ b. bytes_eq b c.args.name.now) (sym c.as_bytes.ensures.value) ∙ sym c.eq.ensures ∙ c.if-eq.true)))

pub returns-clause-number : goal.returns-clause-number
returns-clause-number c = sym (ap (λ o. option_map (λ row. row.1) o) (not_found shown_special (λ row. bytes_eq row.0 c.args.name.now) exchanged_names c.exchanged-word-items.result.now c.loop-word.word-index c.exchanged-word-items.ensures.names c.loop-word-test.false c.loop-word.invariant))
