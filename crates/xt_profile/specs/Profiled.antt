-- The call profile of a run of an image ('profile').
--
-- Profile: both cores are cut at the first breach of either (`FirstBreach` of `xt_frames`), since
-- past it frames mean nothing: the cut of a core is the number of its turns before that one, in the
-- order of the run's schedule. If there is no breach, it is the number of all its records. The turn
-- that shows the breach counts as after the cut.
-- Note: `end_of` reads off the judge's walk how many turns stand before the breach. The law
-- `profile_ends_at_first_breach` says that it is the one number that `IsFirstBreach` allows, so the
-- walk need not be read. That no record is left over if there is no breach is the law
-- `without_breach_all_is_counted`.
use Rattle.std.specs.Prelude.{◌≡◌, ℕ, ◌+◌, if◌then◌else◌, List, [], take, drop, length}
use Rattle.xt_image.specs.declared.image.Image.{Image}
use Rattle.xt_trace.specs.declared.record.StepRecord.{StepRecord}
use Rattle.xt_trace.specs.declared.run.Run.{Run}
use Rattle.xt_handlers.specs.CheckAnswers.{handlers_of}
use Rattle.xt_frames.specs.FirstBreach.{records_before}
use Rattle.xt_frames.specs.declared.kinds.HandlerPhase.TheVariants.{Outside}
use Rattle.xt_frames.specs.Verdict.{Known}
use Rattle.xt_frames.specs.Walked.{opening_walked}
use Rattle.xt_discipline.specs.Phases.{phases_of}
use Rattle.xt_discipline.specs.Verdicts.{are_yes, course_of, judgement_of}
use Rattle.xt_core.specs.Runs.{code_of, entry_of, records_of}
use Rattle.xt_profile.specs.declared.profiles.CoreProfile.{CoreProfile}
use Rattle.xt_profile.specs.declared.profiles.CoreTurns.{CoreTurns}
use Rattle.xt_profile.specs.declared.profiles.Profile.{Profile}
use Rattle.xt_profile.specs.declared.profiles.Profile.TheVariants.{Unchecked, Cores}
use Rattle.xt_profile.specs.declared.profiles.WholeProfile.{WholeProfile}
use Rattle.xt_profile.specs.After.{in_front, later_from}
use Rattle.xt_profile.specs.Steps.{Step, steps_from}
use Rattle.xt_profile.specs.Keys.{Start, handlers, keys}
use Rattle.xt_profile.specs.Counts.{lines, total}

-- the records of a core of a run of an image
abbrev pub records : ℕ → Image → Run → List StepRecord
records core image r = (records_of core image r).records

abbrev pub turns_seen : Known → ℕ
turns_seen k = k.steps0 + k.steps1

-- How many turns stand before the first breach; all, if there is none. The number is read off the
-- walk of the judge, and the law `profile_ends_at_first_breach` says that `IsFirstBreach` allows it
-- and no other.
abbrev pub end_of : Image → Run → ℕ
end_of image r = turns_seen (judgement_of image r).known

-- how many of these are turns of a core: so many of its records stand before the cut
abbrev pub count_before_cut : ℕ → Image → Run → ℕ
count_before_cut core image r = length (records_before (course_of image r) core (end_of image r))

-- the steps of the first n records of a core, the latest first
abbrev pub first_steps : ℕ → ℕ → Image → Run → List Step
first_steps core n image r =
    steps_from
    (code_of image)
    Outside
    (opening_walked core (entry_of core image r.options) r.options).state
    []
    (take n (records core image r))

-- those before the cut
abbrev pub steps : ℕ → Image → Run → List Step
steps core image r = first_steps core (count_before_cut core image r) image r

abbrev pub start : ℕ → ℕ → Image → Run → Start
start core depth image r = record { pc = entry_of core image r.options; depth = depth }

-- with keys of so many functions at most, but for cut ones
abbrev pub core_profile : ℕ → ℕ → Image → Run → CoreProfile
core_profile core depth image r = record {
  lines = lines (keys (start core depth image r) (steps core image r));
  handlers = handlers (steps core image r);
  after = length (drop (count_before_cut core image r) (records core image r));
}

-- none where a window handler does not pass the check
unfoldable pub profile_of : ℕ → Image → Run → Profile
profile_of depth image r =
    if are_yes (handlers_of (code_of image) r.options.vecbase)
    then Cores (core_profile 0 depth image r) (core_profile 1 depth image r) else Unchecked

-- ---- from the cut on

-- how many records stand before the later steps: if a window handler does not pass the check,
-- nothing is known of frames, and these are all steps
abbrev pub later_at : ℕ → Image → Run → ℕ
later_at core image r =
    if are_yes (handlers_of (code_of image) r.options.vecbase) then count_before_cut core image r
    else 0

-- all steps of a core, the later ones those past its first n records
abbrev pub all_steps : ℕ → ℕ → Image → Run → List Step
all_steps core n image r =
    later_from
    (code_of image)
    (first_steps core n image r)
    (drop n (phases_of (code_of image) (records core image r)))
    (drop n (records core image r))

-- of some steps those that stand in front of the first ones
abbrev pub turns_past : Start → List Step → List Step → CoreTurns
turns_past opening first all = record {
  lines = lines (in_front (keys opening all) (keys opening first));
  handlers = handlers (in_front all first);
}

abbrev pub core_after : ℕ → ℕ → ℕ → Image → Run → CoreTurns
core_after core depth n image r =
    turns_past (start core depth image r) (first_steps core n image r) (all_steps core n image r)

-- a profile with the later steps of both cores
abbrev pub whole_of : ℕ → Image → Run → WholeProfile
whole_of depth image r = record {
  profile = profile_of depth image r;
  after0 = core_after 0 depth (later_at 0 image r) image r;
  after1 = core_after 1 depth (later_at 1 image r) image r;
}

-- ---- sums

-- the counts, the handler steps and the steps from the cut on are all turns of the trace
abbrev pub CoreAddsUp : CoreProfile → ℕ → Type 0
CoreAddsUp p count = total p.lines + p.handlers + p.after ≡ count

abbrev pub AddsUp : Profile → Run → Type 0
AddsUp Unchecked r = Unit {0}
AddsUp (Cores a b) r = CoreAddsUp a r.trace0.count × CoreAddsUp b r.trace1.count

-- the counts and the handler steps of the later steps are all of them
abbrev pub TurnsAddUp : CoreTurns → ℕ → Type 0
TurnsAddUp t count = total t.lines + t.handlers ≡ count

abbrev pub LaterAddUp : Profile → CoreTurns → CoreTurns → Run → Type 0
LaterAddUp Unchecked after0 after1 r =
    TurnsAddUp after0 r.trace0.count × TurnsAddUp after1 r.trace1.count
LaterAddUp (Cores a b) after0 after1 r = TurnsAddUp after0 a.after × TurnsAddUp after1 b.after

abbrev pub WholeAddsUp : WholeProfile → Run → Type 0
WholeAddsUp w r = AddsUp w.profile r × LaterAddUp w.profile w.after0 w.after1 r
