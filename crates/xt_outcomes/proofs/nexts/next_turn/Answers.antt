use Rattle.std.proofs.Common.{subst}
use Rattle.xt_map.specs.Memory.{constant_byte}
use Rattle.xt_exec.specs.TurnLaws.{IsServed}
use Rattle.xt_outcomes.proofs.Commuted.{next_served}
use Rattle.xt_outcomes.proofs.nexts.next_turn.Goals as goal

pub reply-reply-requires-clause-access : goal.reply-reply-requires-clause-access
reply-reply-requires-clause-access c =
    subst IsServed c.requires.access (next_served (constant_byte c.args.machine.now.code) c.args.side.now)
