use Rattle.std.proofs.Common.{leb, leb-true, arith, rules, ◌≡◌, false, ◌<◌, ℕ}
use Rattle.std.proofs.lemmas.Bool.Decides.{nat_tests}
use Rattle.std.proofs.lemmas.List.Sorted.{IsPartitionPoint-from_clause, IsPartitionedBy-leb}
use Rattle.xt_map.proofs.Indexed.{all_upto}
use Rattle.xt_map.proofs.constants.count_upto.Goals as goal

above : (a b : ℕ) → leb a b ≡ false → b < a
above a b h = grind (arith, nat_tests)

pub returns-then-starts-len : goal.returns-then-starts-len
returns-then-starts-len c = all_upto _ _ _ c.requires c.if-len-gt0.true c.if-starts-len.true

pub returns : goal.returns
returns c =
    let parted = IsPartitionedBy-leb (λ s. s.addr) _ c.args.addr c.requires in
    let point = IsPartitionPoint-from_clause (λ s. leb s.addr c.args.addr) _ _ c.partition_point.ensures.partitioned parted (λ a r q k. search rules) in
    record {
      bound = c.partition_point.ensures.bound;
      upto = λ k d h. leb-true _ _ (point.0 k d (omega arith) h);
      above = λ k d h l. above _ _ (point.1 k d h l);
    }
