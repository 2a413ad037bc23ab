use Rattle.std.proofs.Common.{Option, sym, ap, ◌∙◌}
use Rattle.xt_map.specs.declared.access.Access.{Access}
use Rattle.xt_map.specs.History.{replies_of}
use Rattle.xt_map.specs.Memory.{constant_byte}
use Rattle.xt_trace.specs.Traces.{replies_past}
use Rattle.xt_core.proofs.Cursors.{half_step}
use Rattle.xt_core.proofs.replies.next_turn.Goals as goal

pub returns-in-Asks-clause-turn : goal.returns-in-Asks-clause-turn
returns-in-Asks-clause-turn c =
    half_step (constant_byte c.args.code.now) _ _ _ _ _ _ c.in-Asks.ensures (c.end.ensures (constant_byte c.args.code.now))
    (c.reply_in-reply.ensures.reply c.in-Asks.pending.access)

pub returns-in-Asks-clause-rest : goal.returns-in-Asks-clause-rest
returns-in-Asks-clause-rest c =
    c.reply_in-reply.ensures.rest c.in-Asks.pending.access
    ∙ ap (λ (d : Option Access). replies_past d (replies_of c.args.core c.args.entries.now)) (sym c.in-Asks.ensures.asks)
