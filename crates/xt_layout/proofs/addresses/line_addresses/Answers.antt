use Rattle.std.proofs.Common.{◌≤◌, ◌<◌, ◌^◌, List, ℕ, get_or, subst, sym}
use Rattle.std.specs.Prelude.{All}
use Rattle.xt_layout.proofs.Laying.{addresses_fit, addresses_small}
use Rattle.xt_layout.proofs.addresses.line_addresses.Goals as goal

pub returns-clause-small : goal.returns-clause-small
returns-clause-small c = λ k. let P : List ℕ → Type 0 = λ xs. get_or xs k 0 ≤ 2 ^ 34 in subst P (sym c.in_ok-addresses.ensures) (addresses_small c.args.spots.now k c.requires)

pub returns-clause-fit : goal.returns-clause-fit
returns-clause-fit c = let P : List ℕ → Type 0 = λ xs. All (λ a. a < 2 ^ 40) xs in subst P (sym c.in_ok-addresses.ensures) (addresses_fit c.args.spots.now c.requires)
