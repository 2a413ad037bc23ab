-- What is written of an outcome and a reply agrees, in the mask that the table gives.
use Rattle.std.proofs.Common.{◌≡◌, ℕ, ◌^◌, ◌<◌, Option, Some, None, refl, sym, subst}
use Rattle.xt_isa.specs.declared.Insn.{Insn}
use Rattle.xt_map.specs.declared.access.Access.{Access}
use Rattle.xt_special.specs.Control.{Control}
use Rattle.xt_rows.specs.declared.outcome.ReplyTarget.{ReplyTarget}
use Rattle.xt_rows.specs.declared.outcome.Effect.{Effect}
use Rattle.xt_rows.specs.declared.outcome.Outcome.{Outcome}
use Rattle.xt_rows.specs.declared.outcome.Outcome.TheVariants.{Does, Raises, Asks, Stops, Windowed}
use Rattle.xt_rows.specs.Numbers.{loaded_value}
use Rattle.xt_rows.specs.Settling.{after_outcome, write_with_reply}
use Rattle.xt_uses.specs.declared.discipline.Discipline.{Discipline}
use Rattle.xt_uses.specs.UseLaws.{AgreeIn, OutcomesAgree, RowMasks, WritesAgree}
use Rattle.xt_uses.proofs.Agreeing.{moved_agrees}
use Rattle.xt_uses.proofs.Moves.{extended_moves}
use Rattle.xt_uses.proofs.RowsReplies.{AwaitsMask}

module _ (mask reply n m : ℕ) (a : reply < 2 ^ 32) (b : n < 2 ^ 32) (c : m < 2 ^ 32) (h : AgreeIn reply n m) where
  -- a reply of which the bits of `reply` are known
  same_awaited : (access : Access) (w : Option ReplyTarget) (d : Effect) → AwaitsMask mask reply (Asks access w d) → WritesAgree mask (write_with_reply None w n) (write_with_reply None w m)
  same_awaited access None d is = tt
  same_awaited access (Some w) d is =
      (refl, subst (λ k. AgreeIn k (loaded_value w.signed n) (loaded_value w.signed m)) (sym is) (moved_agrees (λ k. loaded_value w.signed k) reply n m a b c h (extended_moves w.signed)))

  -- where the row asks for no access, the mask is that of a row without a reply
  pub written_agrees : (by : Discipline) (i : Insn) (r : RowMasks) (o p : Outcome) (len : ℕ) (f g : Control) → OutcomesAgree by i r o p → AwaitsMask mask reply o → ((after_outcome o len f).access ≡ None → mask ≡ r.result)
      → WritesAgree mask (write_with_reply (after_outcome o len f).write (after_outcome o len f).awaited n) (write_with_reply (after_outcome p len g).write (after_outcome p len g).awaited m)
  written_agrees by i r (Does d) (Does e) len f g agree is plain = subst (λ k. WritesAgree k d.write e.write) (sym (plain refl)) agree.write
  written_agrees by i r (Does d) (Raises cause2 address2) len f g agree is plain = absurd cc
  written_agrees by i r (Does d) (Asks access2 w2 d2) len f g agree is plain = absurd cc
  written_agrees by i r (Does d) Stops len f g agree is plain = absurd cc
  written_agrees by i r (Does d) (Windowed step2) len f g agree is plain = absurd cc
  written_agrees by i r (Raises cause address) (Does d2) len f g agree is plain = absurd cc
  written_agrees by i r (Raises cause address) (Raises cause2 address2) len f g agree is plain = tt
  written_agrees by i r (Raises cause address) (Asks access2 w2 d2) len f g agree is plain = absurd cc
  written_agrees by i r (Raises cause address) Stops len f g agree is plain = tt
  written_agrees by i r (Raises cause address) (Windowed step2) len f g agree is plain = tt
  written_agrees by i r (Asks access w d) (Does d2) len f g agree is plain = absurd cc
  written_agrees by i r (Asks access w d) (Raises cause2 address2) len f g agree is plain = absurd cc
  written_agrees by i r (Asks x v d) (Asks y w e) len f g agree is plain =
      subst (λ z. WritesAgree mask (write_with_reply None v n) (write_with_reply None z m)) agree.1 (same_awaited x v d is)
  written_agrees by i r (Asks access w d) Stops len f g agree is plain = absurd cc
  written_agrees by i r (Asks access w d) (Windowed step2) len f g agree is plain = absurd cc
  written_agrees by i r Stops (Does d2) len f g agree is plain = absurd cc
  written_agrees by i r Stops (Raises cause2 address2) len f g agree is plain = tt
  written_agrees by i r Stops (Asks access2 w2 d2) len f g agree is plain = absurd cc
  written_agrees by i r Stops Stops len f g agree is plain = tt
  written_agrees by i r Stops (Windowed step2) len f g agree is plain = tt
  written_agrees by i r (Windowed step) (Does d2) len f g agree is plain = absurd cc
  written_agrees by i r (Windowed step) (Raises cause2 address2) len f g agree is plain = tt
  written_agrees by i r (Windowed step) (Asks access2 w2 d2) len f g agree is plain = absurd cc
  written_agrees by i r (Windowed step) Stops len f g agree is plain = tt
  written_agrees by i r (Windowed step) (Windowed step2) len f g agree is plain = tt
