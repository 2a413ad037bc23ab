use Rattle.std.proofs.Common.{◌≡◌, take}
use Rattle.std.specs.Prelude.{map, pos}
use Rattle.xt_layout.proofs.addresses.signed_all.Given as goal

abbrev pub invariant-loop-address : goal.invariant-loop-address
invariant-loop-address l = l.numbers.items ≡ map pos (take l.address-index l.addresses)
