use Rattle.std.proofs.Common.{◌≡◌, take}
use Rattle.xt_layout.specs.Around.{each}
use Rattle.xt_layout.proofs.Each.{Builds}
use Rattle.xt_asm.specs.Operands.{open_position}
use Rattle.xt_asm.specs.Uses.{target_at}
use Rattle.xt_asm.proofs.targets.targets_of.Given as goal

-- the addresses so far, and the place of the pool that is open
abbrev pub invariant-loop-k : goal.invariant-loop-k
invariant-loop-k l = record {
  built : Builds (target_at l.words l.addresses) l.targets.items l.k l.lines (each (target_at l.words l.addresses) l.lines);
  open_is : l.position ≡ open_position (take l.k l.lines);
}
