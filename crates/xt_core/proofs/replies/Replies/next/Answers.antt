use Rattle.std.proofs.Common.{ℕ, List, Some, ap, ◌∙◌}
use Rattle.xt_trace.specs.Traces.{replies_past, reply_for}
use Rattle.xt_core.proofs.replies.Replies.next.Goals as goal

pub returns-clause-reply : goal.returns-clause-reply
returns-clause-reply c = λ a. c.reply_in-reply.ensures.reply a ∙ ap (λ (rs : List ℕ). reply_for (Some a) rs) c.self.view_is

pub returns-clause-rest : goal.returns-clause-rest
returns-clause-rest c = λ a. c.reply_in-reply.ensures.rest a ∙ ap (λ (rs : List ℕ). replies_past (Some a) rs) c.self.view_is
