use Rattle.std.proofs.Common.{◌≡◌, drop}
use Rattle.std.specs.List.{position, position_from}
use Rattle.xt_elf.specs.declared.header.Header.{Header}
use Rattle.xt_elf.specs.Rules.{do_overlap}
use Rattle.xt_elf.proofs.rules.first_sharing.Given as goal

-- the first is among those that are left
abbrev pub invariant-loop-i : goal.invariant-loop-i
invariant-loop-i l = position_from (λ (k : Header). do_overlap k l.header) l.i (drop l.i l.before) ≡ position (λ (k : Header). do_overlap k l.header) l.before
