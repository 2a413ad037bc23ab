use Rattle.std.proofs.Common.{◌≡◌, ℕ, ⊎_elim, sym, subst, arith}
use Rattle.std.proofs.lemmas.Bool.{cases_eq}
use Rattle.xt_search.specs.Ends.{IsSettled}
use Rattle.xt_moment_search.specs.Stuckness.{has_ended}
use Rattle.xt_moment_search.proofs.stuck.are_settled.Goals as goal

pub loop-at-preserved : goal.loop-at-preserved
loop-at-preserved c = λ k less.
    let here = c.is_settled.ensures c.if-not-is_settled.false in
    ⊎_elim
    (λ (is : k ≡ c.loop-at.at). subst (λ (j : ℕ). IsSettled has_ended c.args.graph.now c.args.marks.now j) (sym is) here)
    (λ other. c.loop-at.invariant k (omega (arith, less, other)))
    (cases_eq k c.loop-at.at)
