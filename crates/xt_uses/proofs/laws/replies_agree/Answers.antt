use Rattle.xt_rows.specs.Numbers.{loaded_value}
use Rattle.xt_uses.proofs.Agreeing.{moved_agrees}
use Rattle.xt_uses.proofs.Moves.{extended_moves}
use Rattle.xt_uses.proofs.laws.replies_agree.Goals as goal

pub returns : goal.returns
returns c = λ signed reply n m a b d h. moved_agrees (λ k. loaded_value signed k) reply n m a b d h (extended_moves signed)
