use Rattle.std.proofs.Common.{◌≡◌, ℕ, List, ◌++◌, sym, ap, ◌∙◌}
use Rattle.xt_search.proofs.Putting.{changes_send_none}
use Rattle.xt_search.specs.Changed.{contents_of}
use Rattle.xt_moments.specs.Outcomes.{MomentOutcome}
use Rattle.xt_moments.proofs.outcome.outcome_in.Goals as goal

pub returns : goal.returns
returns c =
    let m = c.args.opening.now.contents in
    let changes = c.args.world.now.changes in
    let sent : c.extend_from_slice.new.self.items ≡ (contents_of m changes).sent =
    c.in_ok-extend_from_slice.ensures.items
    ∙ ap (λ (l : List ℕ). l ++ c.sent.result.now) c.new-sent.ensures.items ∙ c.sent.ensures
    ∙ sym (changes_send_none (record m { sent = changes.sent }) changes.bytes) in
    let make : List ℕ → ℕ → ℕ → List ℕ → MomentOutcome =
    λ s a b w. record { sent = s; pc0 = a; pc1 = b; words = w } in
    λ i. make (sent i) (c.pc.ensures i) (c.pc-2.ensures i) (c.in_ok-values.ensures i)
