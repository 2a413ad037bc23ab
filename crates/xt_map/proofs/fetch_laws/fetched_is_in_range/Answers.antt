use Rattle.xt_map.proofs.Fetches.{fetched_range}
use Rattle.xt_map.proofs.fetch_laws.fetched_is_in_range.Goals as goal

pub returns : goal.returns
returns c = fetched_range
