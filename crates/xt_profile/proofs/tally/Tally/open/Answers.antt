use Rattle.std.proofs.Common.{◌∷◌, ◌++◌, [], ℕ, List, refl, ap, ◌∙◌}
use Rattle.xt_profile.specs.declared.tally.Tally.{Tally}
use Rattle.xt_profile.proofs.Telling.{opens}
use Rattle.xt_profile.proofs.tally.Tally.open.Goals as goal

pub returns : goal.returns
returns c =
    let t : Tally = record { functions = c.push.new.self; depth = c.args.depth; counts = c.new.result; row = 0; handlers = 0; steps = 0 } in
    opens c.args.pc c.args.depth t (c.in_ok-push.ensures.items ∙ ap (λ (xs : List ℕ). xs ++ c.args.pc ∷ []) c.new-functions.ensures.items) refl c.new.ensures.empty refl refl refl
