-- Carries a proof; nothing that a reader must believe.
-- What is written of a run, before it is.
use Rattle.std.specs.Prelude.{◌≡◌, ℕ, List, Option, Some, None}
use Rattle.xt_image.specs.declared.image.Image.{Image}
use Rattle.xt_trace.specs.declared.run.Run.{Run}
use Rattle.xt_frames.specs.declared.kinds.Judged.{Judged}
use Rattle.xt_record.specs.Written.{recording_bytes}
use Rattle.xt_command_line.specs.declared.options.RunOptions.{RunOptions}
use Rattle.xt_runs.specs.declared.outcome.Wanted.{Wanted}
use Rattle.xt_runs.specs.declared.outcome.Wanted.TheVariants as wanted
use Rattle.xt_runs.specs.declared.told.Told.{Told}
use Rattle.xt_runs.specs.declared.told.Told.TheVariants as told
use Rattle.xt_runs.specs.Analyses.{AreAnalyses}
use Rattle.xt_runs.specs.Runs.{run_text}
use Rattle.xt_runs.specs.Verdicts.{whole_of}

-- it is what the words ask for, of this run
abbrev pub IsTold : Wanted → RunOptions → Image → Run → Told → Type 0
IsTold wanted.Report o image run (told.Report w analyses) =
    (w ≡ whole_of image run) × AreAnalyses o image run analyses
IsTold wanted.Recording o image run (told.Recording r) = r ≡ run
IsTold _ o image run _ = ⊥

abbrev pub run_in : Told → Run
run_in (told.Report w analyses) = w.run
run_in (told.Recording r) = r

abbrev pub verdict_in : Told → Option Judged
verdict_in (told.Report w analyses) = Some w.judged
verdict_in (told.Recording r) = None

-- the bytes that are written
abbrev pub told_text : RunOptions → Image → Told → List ℕ
told_text o image (told.Report w analyses) = run_text o image w analyses
told_text o image (told.Recording r) = recording_bytes image r
