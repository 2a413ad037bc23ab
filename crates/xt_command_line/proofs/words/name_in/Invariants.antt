-- The names that follow say what all names say.
use Rattle.std.proofs.Common.{◌≡◌, map, drop}
use Rattle.xt_command_line.specs.Meaning.{name_in}
use Rattle.xt_command_line.proofs.words.name_in.Given as goal

abbrev pub invariant-loop-name : goal.invariant-loop-name
invariant-loop-name l = name_in (map (λ n. (n.0.now, n.1)) (drop l.name-index l.names)) l.word ≡ name_in (map (λ n. (n.0.now, n.1)) l.names) l.word
