use Rattle.std.proofs.Common.{List, sym, ◌∙◌, subst}
use Rattle.xt_discipline.specs.declared.bytes.Held.{Held}
use Rattle.xt_discipline.specs.ByteMarks.{Agrees}
use Rattle.xt_use_walk.proofs.Spares.{each_spared}
use Rattle.xt_use_walk.proofs.side.Bytes.spares_each.Goals as goal

pub returns : goal.returns
returns c = λ e. each_spared c.args.self.now c.args.access c.requires.served (λ live0 live1 stale agrees. record {
  saves = c.saves-saves.ensures live0 live1 stale (subst (λ (l : List Held). Agrees l live0 live1 stale) (sym c.deref.ensures.value) agrees) ∙ c.if-saves.false;
  swaps = sym c.swaps_unknown-swaps.ensures ∙ c.if-swaps.false;
  reply = sym c.reply_mask-reply.ensures ∙ c.if-reply.false;
})
