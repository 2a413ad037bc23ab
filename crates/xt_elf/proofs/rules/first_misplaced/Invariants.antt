use Rattle.std.proofs.Common.{◌≡◌, drop}
use Rattle.std.specs.List.{position, position_from}
use Rattle.xt_elf.specs.Rules.{is_misplaced}
use Rattle.xt_elf.proofs.rules.first_misplaced.Given as goal

-- the first is among those that are left
abbrev pub invariant-loop-i : goal.invariant-loop-i
invariant-loop-i l = position_from is_misplaced l.i (drop l.i l.headers) ≡ position is_misplaced l.headers
