use Rattle.std.proofs.Common.{ℕ, Bool, not, eqb, sym, ◌∙◌}
use Rattle.xt_use_walk.specs.MaskedBytes.{mask_at}
use Rattle.xt_use_walk.proofs.Served.{four_rest}
use Rattle.xt_use_walk.proofs.bytes.ByteMasks.some_unknown.Goals as goal

pub returns : goal.returns
returns c =
    let f : ℕ → Bool = λ a. not (eqb (mask_at c.args.self.now a) 255) in
    four_rest f c.args.addr c.either_unknown-2.result (sym c.either_unknown.ensures ∙ c.if-either_unknown.false) c.either_unknown-2.ensures
