use Rattle.std.proofs.Common.{sym, ap, []}
use Rattle.std.specs.Option.{option_map_or}
use Rattle.std.proofs.Common.{eqb}
use Rattle.std.proofs.lemmas.Bool.{eq-eqb}
use Rattle.xt_names.specs.Search.{shown_special}
use Rattle.xt_names.specs.Specials.{exchanged_names}
use Rattle.xt_names.proofs.Walked.{found, not_found}
use Rattle.xt_names.proofs.special.exchanged_name.Goals as goal

pub returns-then-word-number : goal.returns-then-word-number
returns-then-word-number c = sym (ap (λ o. option_map_or (λ row. row.0) o []) (found shown_special (λ row. eqb row.1 c.args.number) exchanged_names c.exchanged-word-items.result.now c.loop-word.word-index _ c.exchanged-word-items.ensures.names c.loop-word-test.true c.loop-word.invariant (eq-eqb _ _ c.if-word-number.true)))

pub returns : goal.returns
returns c = sym (ap (λ o. option_map_or (λ row. row.0) o []) (not_found shown_special (λ row. eqb row.1 c.args.number) exchanged_names c.exchanged-word-items.result.now c.loop-word.word-index c.exchanged-word-items.ensures.names c.loop-word-test.false c.loop-word.invariant))
