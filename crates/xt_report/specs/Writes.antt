-- What writing a list of bytes comes to, all of it or a prefix of it ('profile').
use Rattle.std.specs.Prelude.{◌≤◌, ℕ, List, Option, Result, OnOk, OnErr, IsErrOf}
use Rattle.std.specs.Io.KnownBytes.{Appends}
use Rattle.xt_io.specs.Causes.{Rose}
use Rattle.xt_io.specs.Whole.{AppendsPrefix}
use Rattle.xt_io.specs.declared.sink.Refused.{Refused}
use Rattle.xt_io.specs.declared.sink.Refused.TheVariants as refused

-- these bytes were written, or after a refusal a prefix of them; a failure comes only where the
-- sink's count of faults, which never falls, has risen
pub record Writes {T : Type 0} (r : Result T Refused) (told told_after : Option (List ℕ))
    (faults faults_after : ℕ) (bytes : List ℕ) : Type 0 where
  pub ok : OnOk r (Appends told told_after bytes)
  pub err : OnErr r (AppendsPrefix told told_after bytes)
  pub later : faults ≤ faults_after
  pub failed : IsErrOf r refused.Failed → Rose faults faults_after
