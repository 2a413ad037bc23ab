-- What each status of `run`, `record` and `gen` says ('profile').
--
-- Note: `IsRunOfImage` is said of the run that is handed out, and `IsText` of what is written;
-- `whole_of` ties the report's handlers and verdict to the walk, `first` of `IsJudged` to the whole
-- lists of records; and `framed` says what the verdict is good for.
use Rattle.std.specs.Prelude.{◌≡◌, ◌≤◌, ◌+◌, ◌⊎◌, ℕ, List, length, Option, Some, None}
use Rattle.std.specs.Io.KnownBytes.{Appends, Keeps}
use Rattle.xt_io.specs.Causes.{Rose}
use Rattle.xt_io.specs.Whole.{AppendsPrefix, Takes}
use Rattle.xt_image.specs.declared.image.Image.{Image}
use Rattle.xt_image.specs.Rules.{image_fault}
use Rattle.xt_image.specs.Format.{image_of}
use Rattle.xt_trace.specs.declared.options.Options.{Options}
use Rattle.xt_trace.specs.declared.run.Run.{Run}
use Rattle.xt_gen.specs.Generated.{generated_image}
use Rattle.xt_gen.specs.Orders.{seeded_order}
use Rattle.xt_core.specs.Runs.{IsRunOf, records_of}
use Rattle.xt_machine.specs.Lists.{run_of_list, schedule_in}
use Rattle.xt_report.specs.Framed.{IsFramed}
use Rattle.xt_record.specs.Written.{recording_bytes}
use Rattle.xt_command_line.specs.Options.{with_entry}
use Rattle.xt_command_line.specs.TurnOrders.{cores_of}
use Rattle.xt_command_line.specs.declared.options.RunOptions.{RunOptions}
use Rattle.xt_command_line.specs.declared.turn_orders.TurnOrder.{TurnOrder}
use Rattle.xt_command_line.specs.declared.turn_orders.TurnOrder.TheVariants as order
use Rattle.xt_report.specs.declared.status.Status.{Status}
use Rattle.xt_report.specs.declared.status.Status.TheVariants as status
use Rattle.xt_report.specs.Calls.{Ends, ReadsWhole, TakesWithin}
use Rattle.xt_report.specs.declared.whole.Whole.{Whole}
use Rattle.xt_runs.specs.declared.outcome.Wanted.{Wanted}
use Rattle.xt_runs.specs.declared.outcome.Wanted.TheVariants as wanted
use Rattle.xt_runs.specs.Analyses.{AreAnalyses}
use Rattle.xt_runs.specs.Requirements.{IsUnmet}
use Rattle.xt_runs.specs.Traces.{output_text}
use Rattle.xt_runs.specs.Generating.{gen_options, gen_text}
use Rattle.xt_runs.specs.Verdicts.{IsJudged, whole_of}

abbrev pub image_limit : ℕ
image_limit = 8388608

-- ---- one input

-- the options of a run of this image: core 1 begins at the image's entry where the words do not say
-- where
abbrev pub options_for : RunOptions → Image → Options
options_for o image = with_entry o image.entry

-- the run of the schedule that is read from this run's own history
unfoldable pub run_of_its_schedule : RunOptions → Image → Run → Run
run_of_its_schedule o image run = run_of_list image (options_for o image) (schedule_in run)

-- the list of cores that an order stands for, with so many turns for both cores: the one that its
-- seed makes, or that of the turns that it lists
abbrev pub cores_for : TurnOrder → ℕ → Option (List ℕ)
cores_for order.Free count = None
cores_for (order.Seeded seed) count = Some (seeded_order seed count)
cores_for (order.Listed list) count = Some (cores_of list)

abbrev pub cores_of_options : RunOptions → Option (List ℕ)
cores_of_options o = cores_for o.order (o.turns0 + o.turns1)

-- where the words give an order, the run is that of its list of cores
abbrev pub IsOrdered : Option (List ℕ) → RunOptions → Image → Run → Type 0
IsOrdered None o image run = Unit {0}
IsOrdered (Some cores) o image run = run ≡ run_of_list image (options_for o image) cores

-- This is a run of the image with the options of the words. It is, in its history and in
-- its traces' counts, places, stops and last program counters, the run of the schedule
-- read from its own history.
pub record IsRunOfImage (o : RunOptions) (image : Image) (run : Run) : Type 0 where
  pub options : run.options ≡ options_for o image
  pub of_image : IsRunOf image run
  pub own : run_of_its_schedule o image run ≡ run
  -- where the six answers for the window handlers are `yes` and the two stacks are apart, it is a
  -- run of the machine with unbounded call frames, up to the first breach of the stack discipline
  pub framed : IsFramed image run
  pub ordered : IsOrdered (cores_of_options o) o image run

-- the input is an image, and this is its run, with what is so of its verdict
pub record IsRunOfInput (o : RunOptions) (input : List ℕ) (run : Run) : Type 0 where
  pub image : image_fault input ≡ None
  pub is_run : IsRunOfImage o (image_of input) run
  pub judged : IsJudged (image_of input) run

-- what `run` writes of a run of an image: its report, the texts of the analyses that the words ask
-- for, and where they ask for them the lines of its traces, which are those of the records that the
-- processor's turns make
unfoldable pub run_text : RunOptions → Image → Whole → List ℕ → List ℕ
run_text o image w analyses =
    output_text o.trace w analyses
    (records_of 0 image w.run).records (records_of 1 image w.run).records

-- what is written of it: that, or its recording
abbrev pub IsText : Wanted → RunOptions → Image → Run → List ℕ → Type 0
IsText wanted.Report o image run text =
    (analyses : List ℕ)
    × AreAnalyses o image run analyses
    × (text ≡ run_text o image (whole_of image run) analyses)
IsText wanted.Recording o image run text = text ≡ recording_bytes image run

-- ---- the statuses of a run

-- this is the run of an input, this line says which requirement it does not meet, or there is none,
-- and this is so of what is written of it
pub record IsOutput (t : Wanted) (o : RunOptions) (P : List ℕ → Type 0) (run : Run)
    (unmet : Option (List ℕ)) (input : List ℕ) : Type 0 where
  pub is_run : IsRunOfInput o input run
  pub is_unmet : IsUnmet o (image_of input) run unmet
  pub text : List ℕ
  pub is_text : IsText t o (image_of input) run text
  pub written : P text

-- the input was read to its end, this is its run, with the line of a requirement that it does not
-- meet, and this is so of what is written of it
abbrev pub HasRun :
    Wanted → RunOptions → Ends → Run → Option (List ℕ) → (List ℕ → Type 0) → Type 0
HasRun t o e run unmet P = ReadsWhole image_limit e (IsOutput t o P run unmet)

-- nothing was written, or a prefix of what is written of the input's run
abbrev pub WritesPrefix : Wanted → RunOptions → Ends → Type 0
WritesPrefix t o e =
    Keeps e.told e.told_after
    ⊎ ((run : Run)
    × (unmet : Option (List ℕ))
    × HasRun t o e run unmet (AppendsPrefix e.told e.told_after))

-- Each status of a run with these options, with its cause and what was written. The byte after the
-- limit was taken exactly where it is `TooLarge`.
abbrev pub Runs :
    Wanted → RunOptions → Ends → Status → Option Run → Option (List ℕ) → Type 0
Runs t o e status.Done (Some run) unmet = HasRun t o e run unmet (Appends e.told e.told_after)
Runs t o e status.WriteFault (Some run) unmet =
    HasRun t o e run unmet (AppendsPrefix e.told e.told_after)
    × Rose e.sink_faults e.sink_faults_after
Runs t o e (status.Image f) None None =
    ReadsWhole image_limit e (λ input. image_fault input ≡ Some f) × Keeps e.told e.told_after
Runs t o e (status.TooLarge limit) None None =
    (limit ≡ image_limit)
    × Takes e.left e.left_after (λ n. n ≡ image_limit + 1)
    × Keeps e.told e.told_after
Runs t o e status.ReadFault None None =
    Rose e.source_faults e.source_faults_after
    × TakesWithin image_limit e
    × Keeps e.told e.told_after
Runs t o e status.Memory None None = TakesWithin image_limit e × WritesPrefix t o e
Runs t o e _ _ _ = ⊥

-- ---- the statuses of `gen`

-- this is a run of the image that is made of the number, with what is so of its verdict
pub record IsGenerated (number : ℕ) (run : Run) : Type 0 where
  pub is_run : IsRunOfImage gen_options (generated_image number) run
  pub judged : IsJudged (generated_image number) run

-- its summary
abbrev pub generated_text : ℕ → Run → List ℕ
generated_text number run = gen_text number (whole_of (generated_image number) run)

-- each status, with its cause and what was written
abbrev pub Generates :
    ℕ → Option (List ℕ) → Option (List ℕ) → ℕ → ℕ → Status → Option Run → Type 0
Generates number told told_after faults faults_after status.Done (Some run) =
    IsGenerated number run × Appends told told_after (generated_text number run)
Generates number told told_after faults faults_after status.WriteFault (Some run) =
    IsGenerated number run
    × AppendsPrefix told told_after (generated_text number run)
    × Rose faults faults_after
Generates number told told_after faults faults_after status.Memory None =
    Keeps told told_after
    ⊎ ((run : Run)
    × IsGenerated number run
    × AppendsPrefix told told_after (generated_text number run))
Generates number told told_after faults faults_after _ _ = ⊥

-- ---- completeness

-- the source tells its bytes, and they are a whole input that is an image
pub record HasImage (left : Option (List ℕ)) : Type 0 where
  pub input : List ℕ
  pub told : left ≡ Some input
  pub within : length input ≤ image_limit
  pub image : image_fault input ≡ None

-- a whole input that is an image, and no fault of the source or the sink in this call, end in Done,
-- or in Memory
abbrev pub FinishesRun : Ends → Status → Type 0
FinishesRun e s =
    HasImage e.left
    → (Rose e.source_faults e.source_faults_after → ⊥)
    → (Rose e.sink_faults e.sink_faults_after → ⊥)
    → (s ≡ status.Done) ⊎ (s ≡ status.Memory)

-- no fault of the sink in this call ends in Done, or in Memory
abbrev pub FinishesGen : ℕ → ℕ → Status → Type 0
FinishesGen faults faults_after s =
    (Rose faults faults_after → ⊥) → (s ≡ status.Done) ⊎ (s ≡ status.Memory)
