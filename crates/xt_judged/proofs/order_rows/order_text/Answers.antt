use Rattle.std.proofs.Common.{◌≡◌, ◌∙◌, ap, ◌++◌, ℕ, ◌+◌, ◌≤◌, List, arith, rules, codes}
use Rattle.std.specs.Prelude.{string_bytes}
use Rattle.xt_judged.specs.OrderText.{row_text}
use Rattle.xt_judged.proofs.Rows.{appended, counted}
use Rattle.xt_judged.proofs.order_rows.order_text.Goals.{then-next-core, else-next-core+in_ok-push_row+in_ok-push_str}
use Rattle.xt_judged.proofs.order_rows.order_text.Goals as goal

pub loop-next-preserved : goal.loop-next-preserved
loop-next-preserved c = elim c.if-next-core.branch [
  | then-next-core w ↦ record {
    text = counted _ _ _ _ _ _ _ _ _ c.loop-next-test.true w.if-next-core.true (search (rules, w.out-is)) w.core-is w.count-is c.loop-next.invariant.text;
    few = let few : c.loop-next.count ≤ c.loop-next.next-index + 1 = c.loop-next.invariant.few in let is = w.count-is in omega arith;
  }
  | else-next-core+in_ok-push_row+in_ok-push_str w ↦ record {
    text =
        let out : string_bytes c.if-next-core.out ≡ (string_bytes c.loop-next.out ++ row_text (c.loop-next.core, c.loop-next.count)) ++ codes "," =
        ap string_bytes w.out-is ∙ w.in_ok-push_str.ensures.bytes ∙ ap (λ (l : List ℕ). l ++ codes ",") w.in_ok-push_row.ensures in
        appended _ _ _ _ _ _ _ _ _ c.loop-next-test.true w.if-next-core.false out w.core-is w.count-is c.loop-next.invariant.text;
    few = let is = w.count-is in omega arith;
  }
]
