-- Carries a proof; nothing that a reader must believe.
-- A core at the cut, and what comes of a tally.
use Rattle.std.specs.Prelude.{◌≡◌, ℕ, ◌≤◌, [], length}
use Rattle.xt_image.specs.declared.image.Image.{Image}
use Rattle.xt_trace.specs.declared.run.Run.{Run}
use Rattle.xt_frames.specs.Verdict.{opening_known}
use Rattle.xt_discipline.specs.Verdicts.{judgement_in, opened0, opened1}
use Rattle.xt_core.specs.Runs.{code_of}
use Rattle.xt_profile.specs.declared.counting.AtCut.{AtCut}
use Rattle.xt_profile.specs.declared.tally.Tally.{Tally}
use Rattle.xt_profile.specs.Profiled.{CoreAddsUp, core_profile, count_before_cut, records, start}
use Rattle.xt_profile.specs.Profiled.{steps}
use Rattle.xt_profile.specs.CountedSteps.{IsTally, origin}
use Rattle.xt_profile.specs.Follows.{AreCut}

-- no step of either core is counted yet
abbrev pub AreFresh : ℕ → Image → Run → Tally → Tally → Type 0
AreFresh d image r t0 t1 =
    IsTally (origin image.entry d []) [] t0 × IsTally (origin r.options.entry1 d []) [] t1

-- the steps of both cores before the cut are counted
abbrev pub AreAtCut : ℕ → Image → Run → Tally → Tally → Type 0
AreAtCut d image r t0 t1 =
    AreCut
    (code_of image)
    (opening_known (opened0 image r.options).state (opened1 r.options).state)
    (origin image.entry d [])
    (origin r.options.entry1 d [])
    (records 0 image r)
    (records 1 image r)
    (judgement_in image r (records 0 image r) (records 1 image r))
    t0
    t1

-- the core's profile is known, and how many of its records stand before the cut; a tally holds no
-- later step yet
pub record IsAtCut
    (core depth : ℕ) (image : Image) (r : Run) (count : ℕ) (c : AtCut) : Type 0 where
  pub profile_is : c.profile ≡ core_profile core depth image r
  pub adds_up : CoreAddsUp c.profile count
  pub cut_is : c.cut ≡ count_before_cut core image r
  pub within : c.cut ≤ length (records core image r)
  pub tally : IsTally
      (record { start = start core depth image r; first = steps core image r })
      (steps core image r)
      c.tally
  pub none : c.tally.steps ≡ 0
