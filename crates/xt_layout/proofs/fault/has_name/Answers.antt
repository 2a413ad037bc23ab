use Rattle.std.proofs.Common.{ap, ◌∙◌}
use Rattle.std.specs.List.{list_any}
use Rattle.std.specs.Str.{bytes_eq}
use Rattle.xt_layout.proofs.Naming.{name_by_order}
use Rattle.xt_layout.proofs.fault.has_name.Goals as goal

pub returns : goal.returns
returns c = c.contains.ensures ∙ name_by_order c.args.names.now.keys c.as_slice.result.now ∙ ap (λ name. list_any (λ k. bytes_eq name k.now) c.args.names.now.keys) c.as_slice.ensures
