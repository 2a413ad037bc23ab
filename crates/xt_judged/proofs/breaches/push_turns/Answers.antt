use Rattle.std.proofs.Common.{sym}
use Rattle.xt_search.proofs.Meeting.{append_nothing}
use Rattle.xt_outcomes.proofs.Spreading.{push_turn}
use Rattle.xt_judged.proofs.breaches.push_turns.Goals as goal

pub loop-made-init : goal.loop-made-init
loop-made-init c = sym (append_nothing c.args.order.now.items)

pub loop-made-preserved : goal.loop-made-preserved
loop-made-preserved c =
    push_turn c.args.order.now.items c.loop-made.order.items c.push.new.self.items c.args.core c.loop-made.made c.in_ok-push.ensures.items c.loop-made.invariant
