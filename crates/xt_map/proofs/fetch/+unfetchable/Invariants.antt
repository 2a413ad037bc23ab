use Rattle.xt_map.proofs.fetch.+unfetchable.Given as goal

abbrev pub decreases-unfetchable : goal.decreases-unfetchable
decreases-unfetchable l = l.len
