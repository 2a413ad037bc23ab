-- Carries a proof; nothing that a reader must believe.
-- Writing many texts in few calls: what was written, and what is gathered to be written ('profile').
use Rattle.std.specs.Prelude.{◌≡◌, ◌≤◌, ℕ, List, ◌++◌, Option, Result, OnOk, OnErr, IsErrOf}
use Rattle.std.specs.Io.KnownBytes.{Appends}
use Rattle.xt_io.specs.Causes.{Rose}
use Rattle.xt_io.specs.Whole.{AppendsPrefix}
use Rattle.xt_io.specs.declared.sink.Refused.{Refused}
use Rattle.xt_io.specs.declared.sink.Refused.TheVariants as refused

-- Of what was gathered and these bytes the first were written, and the others are gathered; or after
-- a refusal a prefix of both was written. A failure comes only where the sink's count of faults,
-- which never falls, has risen.
pub record Gathers {T : Type 0} (r : Result T Refused) (told told_after : Option (List ℕ))
    (faults faults_after : ℕ) (gathered gathered_after bytes : List ℕ) : Type 0 where
  pub ok : OnOk r ((done : List ℕ)
      × (gathered ++ bytes ≡ done ++ gathered_after)
      × Appends told told_after done)
  pub err : OnErr r (AppendsPrefix told told_after (gathered ++ bytes))
  pub later : faults ≤ faults_after
  pub failed : IsErrOf r refused.Failed → Rose faults faults_after
