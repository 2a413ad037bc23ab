-- A call that has touched neither its source nor its sink.
use Rattle.std.proofs.Common.{◌≤◌, ℕ, List, [], length, Option, Some, None, refl, arith}
use Rattle.std.specs.Io.KnownBytes.{Consumes, Keeps}
use Rattle.std.proofs.KnownBytes.{Consumes-nil}
use Rattle.xt_report.specs.Calls.{Ends, IsUntouched, TakesWithin}

pub keeps_same : (known : Option (List ℕ)) → Keeps known known
keeps_same None = tt
keeps_same (Some bytes) = refl

-- an input that was read to its end
pub taken_within : (limit : ℕ) (e : Ends) (input : List ℕ) → Consumes e.left e.left_after input → length input ≤ limit → TakesWithin limit e
taken_within limit e input taken within = (input, taken, within)

-- a call that leaves the source and the sink as they were
abbrev pub still : Option (List ℕ) → Option (List ℕ) → ℕ → ℕ → Ends
still left told f g = record {
  left = left;
  left_after = left;
  told = told;
  told_after = told;
  source_faults = f;
  source_faults_after = f;
  sink_faults = g;
  sink_faults_after = g;
}

pub is_untouched : (left told : Option (List ℕ)) (f g : ℕ) → IsUntouched (still left told f g)
is_untouched left told f g = record { left = refl; told = refl; source = refl; sink = refl }

pub takes_nothing : (limit : ℕ) (left told : Option (List ℕ)) (f g : ℕ) → TakesWithin limit (still left told f g)
takes_nothing limit left told f g = ([], Consumes-nil left, omega arith)
