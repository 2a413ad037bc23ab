use Rattle.std.proofs.Common.{◌∙◌, ap}
use Rattle.std.specs.Prelude.{option_and_then, slice_get}
use Rattle.xt_asm.proofs.targets.word_in.Goals as goal

pub returns-in-Some : goal.returns-in-Some
returns-in-Some c = λ words indexed. c.address_at.ensures ∙ ap (λ o. option_and_then (λ i. slice_get c.args.addresses.now i) o) c.in-Some.ensures.value ∙ indexed (c.args.place, c.args.terms)

pub returns-in-None : goal.returns-in-None
returns-in-None c = λ words indexed. ap (λ o. option_and_then (λ i. slice_get c.args.addresses.now i) o) c.in-None.ensures.value ∙ indexed (c.args.place, c.args.terms)
