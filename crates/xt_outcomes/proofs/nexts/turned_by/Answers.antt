use Rattle.std.proofs.Common.{sym, ap, ◌∙◌, List, ℕ}
use Rattle.xt_map.specs.Memory.{constant_byte}
use Rattle.xt_exec.specs.Chips.{processor}
use Rattle.xt_outcomes.specs.KeptWorlds.{spot_of}
use Rattle.xt_outcomes.specs.Spots.{spot_after}
use Rattle.xt_outcomes.proofs.Looking.{core_of_order}
use Rattle.xt_outcomes.proofs.Spreading.{drop_all}
use Rattle.xt_outcomes.proofs.nexts.turned_by.Goals as goal

pub make_turn-requires : goal.make_turn-requires
make_turn-requires c = core_of_order c.args.order.now c.loop-core.core-index c.requires c.loop-core-test.true

pub returns : goal.returns
returns c =
    let t = c.args.machine.now in
    sym (ap (λ (l : List ℕ). spot_after (processor (constant_byte t.code)) t.timed l (spot_of t.opening.contents c.loop-core.world)) (drop_all c.args.order.now c.loop-core.core-index c.loop-core-test.false))
    ∙ c.loop-core.invariant
