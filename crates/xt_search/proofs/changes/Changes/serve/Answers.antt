use Rattle.xt_search.proofs.Sending.{mapped_is_low}
use Rattle.xt_search.proofs.changes.Changes.serve.Goals as goal

pub act-requires-clause-low : goal.act-requires-clause-low
act-requires-clause-low c = mapped_is_low c.args.access c.requires.access
