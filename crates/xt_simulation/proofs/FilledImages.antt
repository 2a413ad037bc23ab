-- A run of an image, over any filling.
use Rattle.xt_simulation.specs.Opening.{memory_of, openings_of}
use Rattle.xt_simulation.specs.UseRunLaws.{course_of}
use Rattle.xt_simulation.proofs.ImageRuns.{runs_are_ordinary}
use Rattle.xt_simulation.proofs.ImageUses.{uses_are_so}
use Rattle.xt_simulation.specs.FillingLaws.{RunsAreDecided}
use Rattle.xt_simulation.proofs.FilledRuns.{records_followed}

pub runs_decided : RunsAreDecided
runs_decided segments entry o r runnable handlers apart run d h n q found is first p core rec low j =
    records_followed d (course_of segments entry o r) (memory_of (openings_of segments entry o)) h n q found (runs_are_ordinary segments entry o r runnable run).0 (uses_are_so segments entry o r runnable handlers apart run) is first p core rec low j
