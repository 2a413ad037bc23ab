use Rattle.std.proofs.Common.{◌≡◌, drop}
use Rattle.std.specs.List.{position, position_from}
use Rattle.xt_elf.specs.Rules.{is_larger_in_file}
use Rattle.xt_elf.proofs.rules.first_larger_in_file.Given as goal

-- the first is among those that are left
abbrev pub invariant-loop-i : goal.invariant-loop-i
invariant-loop-i l = position_from is_larger_in_file l.i (drop l.i l.headers) ≡ position is_larger_in_file l.headers
