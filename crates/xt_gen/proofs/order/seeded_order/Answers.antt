use Rattle.std.proofs.Common.{◌≡◌, ◌-◌, ◌/◌, ◌^◌, ◌++◌, length, take, ap, sym, ◌∙◌, arith}
use Rattle.std.specs.Prelude.{replicate}
use Rattle.xt_gen.proofs.Ordered.{all_done, none_done, step}
use Rattle.xt_gen.proofs.order.seeded_order.Goals as goal

pub filling-init : goal.filling-init
filling-init c = none_done c.args.seed c.args.count c.in_ok-order.order.items c.in_ok-order.ensures.items

pub filling-smaller : goal.filling-smaller
filling-smaller c = omega (arith, c.in_ok-resize.ensures.len, c.min-end.ensures, c.len-in-filling.ensures, c.len.ensures, c.filling-test.true)

pub filling-preserved : goal.filling-preserved
filling-preserved c =
    let done = c.filling.order.items in
    let y = c.next-x.result in
    let len = c.len-in-filling.result in
    let end = c.min-end.result in
    let long : len ≡ length done = omega arith in
    let made : c.resize.new.self.items ≡ take end done ++ replicate (end - len) (y / 2 ^ 31)
    = c.in_ok-resize.ensures.items ∙ ap (λ n. take end done ++ replicate (end - n) (y / 2 ^ 31)) (sym c.len-in-filling.ensures) in
    step c.args.seed c.args.count c.filling.x y len end done c.resize.new.self.items (omega arith) long c.next-x.ensures c.min-end.ensures made c.filling.invariant

pub returns-clause-list : goal.returns-clause-list
returns-clause-list c = all_done c.args.seed c.args.count c.filling.x c.filling.order.items (omega arith) c.filling.invariant

pub returns-clause-count : goal.returns-clause-count
returns-clause-count c = omega (arith, c.filling.invariant.within)

pub returns-clause-cores : goal.returns-clause-cores
returns-clause-cores c = c.filling.invariant.cores
