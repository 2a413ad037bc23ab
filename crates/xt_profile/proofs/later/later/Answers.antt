use Rattle.xt_profile.proofs.later.later.Goals as goal

pub split-requires : goal.split-requires
split-requires c =
    let q = c.requires.known in
    record { known = (q.0, _, c.in_ok-count_past.ensures q.0 q.1 q.2) }

pub returns : goal.returns
returns c o past h = c.in_ok-turns.ensures.turns o _ (c.in_ok-count_past.ensures o past h)
