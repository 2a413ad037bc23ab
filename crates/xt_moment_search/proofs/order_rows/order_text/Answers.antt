use Rattle.std.proofs.Common.{◌≡◌, ◌∙◌, ap, sym, ◌++◌, ℕ, ◌+◌, ◌≤◌, List, arith, rules, codes}
use Rattle.std.specs.Prelude.{string_bytes}
use Rattle.xt_moment_search.specs.MomentOrders.{move_row_text}
use Rattle.xt_moment_search.proofs.Rows.{appended, counted}
use Rattle.xt_moment_search.proofs.order_rows.order_text.Goals.{then-is_again, else-is_again+in_ok-push_row+in_ok-push_str}
use Rattle.xt_moment_search.proofs.order_rows.order_text.Goals as goal

pub loop-next-preserved : goal.loop-next-preserved
loop-next-preserved c = elim c.if-is_again.branch [
  | then-is_again w ↦ record {
    text = counted _ _ _ _ _ _ _ _ _ _ c.loop-next-test.true (sym c.is_again.ensures ∙ w.if-is_again.true) (search (rules, w.out-is)) w.made-is w.count-is c.loop-next.invariant.text;
    few = let few : c.loop-next.count ≤ c.loop-next.next-index + 1 = c.loop-next.invariant.few in let is = w.count-is in omega arith;
  }
  | else-is_again+in_ok-push_row+in_ok-push_str w ↦ record {
    text =
        let out : string_bytes c.if-is_again.out ≡ (string_bytes c.loop-next.out ++ move_row_text (c.loop-next.made, c.loop-next.count)) ++ codes "," =
        ap string_bytes w.out-is ∙ w.in_ok-push_str.ensures.bytes ∙ ap (λ (l : List ℕ). l ++ codes ",") w.in_ok-push_row.ensures in
        appended _ _ _ _ _ _ _ _ _ _ c.loop-next-test.true (sym c.is_again.ensures ∙ w.if-is_again.false) out w.made-is w.count-is c.loop-next.invariant.text;
    few = let is = w.count-is in omega arith;
  }
]
