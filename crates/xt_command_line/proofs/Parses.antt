-- What a parse of a simple command answers, by its kinds of error.
use Rattle.std.proofs.Common.{◌≡◌, ◌&&◌, Bool, true, false, List, [], ◌∷◌, Some, None, refl}
use Rattle.clap.specs.Kinds.{Kinds, IsAmong}
use Rattle.clap.specs.Words.{Row}
use Rattle.clap.specs.declared.error.kind.ErrorKind.{ErrorKind}
use Rattle.xt_command_line.specs.Simple.{rows_without}

pub found : (kinds : Kinds) (rows matched : List Row) → kinds ≡ [] → rows ≡ matched → rows_without kinds matched ≡ Some rows
found kinds rows matched none same = rw (none, same) refl

pub none_found : (kinds : Kinds) (rows : List Row) (kind : ErrorKind) → IsAmong kind kinds → rows_without kinds rows ≡ None
none_found [] rows kind among = absurd among
none_found (k ∷ ks) rows kind among = refl

pub left_of_both : (a b : Bool) → (a && b) ≡ true → a ≡ true
left_of_both true b both = refl
left_of_both false b both = both
