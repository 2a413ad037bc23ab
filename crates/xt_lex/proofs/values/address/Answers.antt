use Rattle.std.proofs.Common.{ℤ, Some, sym, ◌∙◌, ap, subst}
use Rattle.std.specs.Option.{option_map}
use Rattle.xt_lex.specs.declared.labels.Label.{Label}
use Rattle.xt_lex.specs.Labels.{address_of}
use Rattle.xt_lex.specs.Values.{IsAddress}
use Rattle.xt_lex.proofs.ValueLemmas.{first_is_address, address_is_read}
use Rattle.xt_lex.proofs.values.address.Goals as goal

pub returns-in-Some-clause-address : goal.returns-in-Some-clause-address
unfolding address_of
returns-in-Some-clause-address c =
    let label = c.in-Some.label.now in
    ap Some (address_is_read label.address (first_is_address c.args.name.now c.args.labels.now label c.requires c.in-Some.ensures))
    ∙ ap (option_map (λ (l : Label). l.address)) c.in-Some.ensures

pub returns-in-Some-clause-within : goal.returns-in-Some-clause-within
returns-in-Some-clause-within c =
    let label = c.in-Some.label.now in
    let known = first_is_address c.args.name.now c.args.labels.now label c.requires c.in-Some.ensures in
    let P : ℤ → Type 0 = IsAddress in
    subst P (sym (address_is_read label.address known)) known

pub returns-in-None-clause-address : goal.returns-in-None-clause-address
unfolding address_of
returns-in-None-clause-address c = ap (option_map (λ (l : Label). l.address)) c.in-None.ensures
