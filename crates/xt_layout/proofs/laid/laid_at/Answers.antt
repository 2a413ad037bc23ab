use Rattle.std.proofs.Common.{refl}
use Rattle.xt_layout.proofs.Laying.{laid, numbers_fit}
use Rattle.xt_layout.proofs.laid.laid_at.Goals as goal

pub returns-clause-layout : goal.returns-clause-layout
returns-clause-layout c =
    laid c.args.lines.now c.args.addresses.now c.args.of_words.now c.in_ok-signed_all.field-0.items c.in_ok-signed_all-2.field-0.items c.in_ok-all_labels.field-0 c.in_ok-fault.fault
    c.requires.addresses c.requires.of_words c.in_ok-signed_all.ensures c.in_ok-signed_all-2.ensures c.in_ok-all_labels.ensures.labels c.in_ok-fault.ensures

pub returns-clause-fit : goal.returns-clause-fit
returns-clause-fit c = record {
  lines = numbers_fit c.args.addresses.now c.args.addresses.now c.in_ok-signed_all.field-0.items c.in_ok-signed_all.ensures refl c.requires.fit;
  words = numbers_fit c.args.of_words.now c.args.of_words.now c.in_ok-signed_all-2.field-0.items c.in_ok-signed_all-2.ensures refl c.requires.small;
  labels = c.in_ok-all_labels.ensures.fit;
}
