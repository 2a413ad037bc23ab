use Rattle.std.proofs.Common.{◌≡◌, ◌≢◌, ◌≤◌, ◌-◌, suc, length, true, ℕ, ⊎_elim, sym, subst, arith}
use Rattle.std.specs.Prelude.{slice_set}
use Rattle.std.proofs.lemmas.Bool.{cases_eq}
use Rattle.xt_search.specs.Ends.{IsSettled, unmarked_count}
use Rattle.xt_search.proofs.Marking.{fewer_unmarked}
use Rattle.xt_search.proofs.marks.mark_more.Goals as goal

pub loop-at-preserved-then-is_open : goal.loop-at-preserved-then-is_open
loop-at-preserved-then-is_open g c =
    let marks = c.loop-at.marks in
    let at = c.loop-at.at - 1 in
    let e : unmarked_count marks ≡ suc (unmarked_count (slice_set marks at true)) = fewer_unmarked marks at (c.is_open.ensures.open c.if-is_open.true) in
    let h : unmarked_count marks ≤ unmarked_count c.args.marks.now = c.loop-at.invariant.more in
    let w : c.loop-at.at ≤ length c.args.graph.now.kept.items = c.loop-at.invariant.within in
    record {
      within = omega arith;
      sound = c.is_open.ensures.sound c.if-is_open.true;
      more = omega arith;
      fewer = λ t. omega arith;
      settled = λ f. absurd cc;
    }

pub loop-at-preserved : goal.loop-at-preserved
loop-at-preserved g c =
    let w : c.loop-at.at ≤ length c.args.graph.now.kept.items = c.loop-at.invariant.within in
    record {
      within = omega arith;
      sound = c.loop-at.invariant.sound;
      more = c.loop-at.invariant.more;
      fewer = c.loop-at.invariant.fewer;
      settled = λ f k lo hi. ⊎_elim
          (λ (is : k ≡ c.loop-at.at - 1). subst (λ (j : ℕ). IsSettled (g.M.Machine.ends c.args.machine.now) c.args.graph.now c.loop-at.marks j) (sym is) (c.is_open.ensures.settled c.if-is_open.false))
          (λ (isnt : k ≢ c.loop-at.at - 1). c.loop-at.invariant.settled f k (let n : ¬ (k ≡ c.loop-at.at - 1) = isnt in omega arith) hi)
          (cases_eq k (c.loop-at.at - 1));
    }
