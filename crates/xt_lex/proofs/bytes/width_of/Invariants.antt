use Rattle.std.proofs.Common.{◌≡◌, ◌+◌, drop}
use Rattle.std.specs.List.{prefix_len}
use Rattle.xt_lex.specs.Runs.{is_of}
use Rattle.xt_lex.proofs.bytes.width_of.Given as goal

-- those so far are followed by those at the front of what is left
abbrev pub invariant-loop-i : goal.invariant-loop-i
invariant-loop-i l = prefix_len (is_of l.run) (drop l.i l.bytes) + l.i ≡ prefix_len (is_of l.run) l.bytes
