use Rattle.std.proofs.Common.{◌≡◌, drop}
use Rattle.std.specs.List.{position, position_from}
use Rattle.xt_elf.specs.Rules.{ends_behind}
use Rattle.xt_elf.proofs.rules.first_ending_behind.Given as goal

-- the first is among those that are left
abbrev pub invariant-loop-i : goal.invariant-loop-i
invariant-loop-i l = position_from (ends_behind l.end) l.i (drop l.i l.headers) ≡ position (ends_behind l.end) l.headers
