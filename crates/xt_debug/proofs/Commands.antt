-- The commands of texts, one after another.
use Rattle.std.proofs.Common.{◌≡◌, Option, Some, None, List, [], ◌∷◌, ◌++◌, refl, sym, ap}
use mathlib.Core.List.{append_assoc, append-nil}
use Rattle.xt_command_line.specs.Parts.{and_all}
use Rattle.xt_debug.specs.Grammar.{commands_of}
use Rattle.xt_debug.specs.declared.script.Command.{Command}

-- commands that were read, before what follows
abbrev pub before : List Command → Option (List Command) → Option (List Command)
before xs None = None
before xs (Some ys) = Some (xs ++ ys)

pub before_any : (o : Option (List Command)) → before [] o ≡ o
before_any None = refl
before_any (Some ys) = refl

pub one_more : (xs : List Command) (c : Command) (o : Option (List Command)) → before xs (and_all (Some c) o) ≡ before (xs ++ c ∷ []) o
one_more xs c None = refl
one_more xs c (Some ys) = ap Some (sym (append_assoc xs (c ∷ []) ys))

pub no_more : (xs : List Command) → before xs (commands_of []) ≡ Some xs
no_more xs = ap Some (append-nil xs)
