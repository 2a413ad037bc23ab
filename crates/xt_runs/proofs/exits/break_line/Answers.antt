use Rattle.std.proofs.Common.{◌≡◌, ◌++◌, List, ℕ, IfOk, string_bytes, subst}
use Rattle.std.specs.Prelude.{codes}
use Rattle.std.specs.Fmt.{decimal}
use Rattle.xt_runs.proofs.exits.break_line.Goals as goal

pub returns : goal.returns
returns c =
    let P : List ℕ → Type 0 = λ pc. IfOk c.format.result (λ line. string_bytes line ≡ codes "core " ++ (decimal c.args.core ++ (codes " stop break pc " ++ (pc ++ codes "\n")))) in
    subst P c.in_ok-pc.ensures c.format.ensures.ok
