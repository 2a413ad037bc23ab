use Rattle.std.proofs.Common.{◌+◌, ℕ, List, map, ap, ◌∙◌}
use Rattle.xt_profile.specs.CountedSteps.{count_in, puts, line_of_entry}
use Rattle.xt_profile.proofs.Telling.{reads_insert}
use Rattle.xt_profile.proofs.tally.add.Goals as goal

pub returns : goal.returns
returns c =
    let es = c.args.counts.now.entries in
    ap (map line_of_entry) c.in_ok-insert.ensures.entries
    ∙ (reads_insert c.args.key (c.count_in.result + c.args.row) es
    ∙ ap (λ (n : ℕ). puts c.args.key.items (n + c.args.row) (map line_of_entry es)) (c.count_in.ensures ∙ ap (λ (k : List ℕ). count_in k (map line_of_entry es)) c.deref.ensures.value))
