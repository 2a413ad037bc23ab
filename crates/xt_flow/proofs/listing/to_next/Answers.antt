use Rattle.std.proofs.Common.{◌∙◌, sym}
use Rattle.xt_flow.specs.FlowTables.{is_marked}
use Rattle.xt_flow.proofs.Runs.{next_goes_on}
use Rattle.xt_flow.proofs.listing.to_next.Goals as goal

pub loop-k-preserved : goal.loop-k-preserved
loop-k-preserved c = next_goes_on (λ a. is_marked c.args.starts.now a) c.args.at c.loop-k.k c.args.most _ c.loop-k-test.true (sym c.is_marked.ensures ∙ c.if-is_marked.false) c.loop-k.invariant
