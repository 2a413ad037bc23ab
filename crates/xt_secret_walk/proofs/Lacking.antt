-- The registers that are shown of a leak.
use Rattle.std.proofs.Common.{◌≡◌, ℕ, Option, Some, None, refl}
use Rattle.xt_map.specs.Fetching.{Fetched, Fetches, Fails, SpellsNothing}
use Rattle.xt_rows.specs.Operands.{reads}
use Rattle.xt_exec.specs.State.{State}
use Rattle.xt_simulation.specs.Knowledge.{Knowledge, register_word}
use Rattle.xt_secret_walk.specs.Answers.{lacks_among, lacks_fetched}
use Rattle.xt_secret_walk.specs.SeenWords.{seen_lacks, seen_of, words_lack}

among : (m : Knowledge) (s : State) (r : Option ℕ × Option ℕ) → words_lack r (register_word m s r.0) (register_word m s r.1) ≡ lacks_among m s r
among m s (None, second) = refl
among m s (Some a, None) = refl
among m s (Some a, Some b) = refl

pub lacks_are : (f : Fetched) (m : Knowledge) (s : State) → seen_lacks (seen_of f m s) ≡ lacks_fetched f m s
lacks_are (Fetches i len) m s = among m s (reads i)
lacks_are (Fails address) m s = refl
lacks_are SpellsNothing m s = refl
