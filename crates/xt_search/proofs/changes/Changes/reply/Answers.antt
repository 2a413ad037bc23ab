use Rattle.xt_search.proofs.Sending.{mapped_is_low}
use Rattle.xt_search.proofs.changes.Changes.reply.Goals as goal

pub number-requires-clause-low : goal.number-requires-clause-low
number-requires-clause-low c = mapped_is_low c.args.access c.requires.access
