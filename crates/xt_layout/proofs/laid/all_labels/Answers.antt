use Rattle.std.proofs.Common.{sym, ◌∙◌, subst, List}
use Rattle.xt_lex.specs.declared.labels.Label.{Label}
use Rattle.xt_lex.specs.Values.{HaveAddresses}
use Rattle.xt_layout.proofs.Laying.{labels_are}
use Rattle.xt_layout.proofs.laid.all_labels.Goals as goal

pub returns-clause-labels : goal.returns-clause-labels
returns-clause-labels c = c.in_ok-made.ensures ∙ labels_are c.args.lines.now c.args.words.now c.args.of_words.now c.in_ok-labels.labels.items c.requires.words c.requires.of_words c.in_ok-labels.ensures.labels

pub returns-clause-fit : goal.returns-clause-fit
returns-clause-fit c =
    let P : List Label → Type 0 = λ ls. HaveAddresses ls in
    subst P (sym c.in_ok-made.ensures) c.in_ok-labels.ensures.fit
