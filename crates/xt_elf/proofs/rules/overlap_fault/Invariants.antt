-- What is found from here on is what is found at all.
use Rattle.std.proofs.Common.{◌≡◌, [], take, drop}
use Rattle.xt_elf.specs.Rules.{first_overlap}
use Rattle.xt_elf.proofs.rules.overlap_fault.Given as goal

abbrev pub invariant-loop-j : goal.invariant-loop-j
invariant-loop-j l = first_overlap (take l.j l.headers) (drop l.j l.headers) ≡ first_overlap [] l.headers
