-- What holds of a run that is judged, and at each of its positions before the first breach.
use Rattle.std.proofs.Common.{◌≡◌, ℕ, Some, None, List, length, take, refl, subst}
use Rattle.std.proofs.Math.Seq.{take-length}
use Rattle.xt_trace.specs.declared.record.StepRecord.{StepRecord}
use Rattle.xt_trace.specs.Runs.{world_at_start, schedule_of}
use Rattle.xt_trace.specs.Walks.{IsWalk, state_at}
use Rattle.xt_trace.proofs.Walks.{own_walk}
use Rattle.xt_exec.specs.Chips.{processor}
use Rattle.xt_frames.specs.Frames.{FrameState}
use Rattle.xt_frames.specs.Verdict.{IsFrameRun, Known, judgement, opening_known}
use Rattle.xt_simulation.specs.Opening.{Openings, opening_core, opening_world, bounds0, bounds1, state0, state1, frame0, frame_of, memory_of}
use Rattle.xt_simulation.specs.Headline.{AreFrames, IsCovered, Position, turns_of, judged_in, opening_of, RunsAreFrames, StretchesOfRuns, WalksAreFrames}
use Rattle.xt_simulation.proofs.Headline.{world_of, alike0, alike1, stretches_move_frames, nested_give_back, turns_are_frames}
use Rattle.xt_simulation.proofs.OneWalk.{Comes, Reaches, one_walk}

-- ---- the judge's walk over a run
module _ (o : Openings) (code : ℕ → ℕ) (turns0 turns1 : ℕ) (c : IsCovered o code) (cores : List ℕ) (xs ys : List StepRecord) (walk : IsWalk (processor code) cores (world_at_start (opening_of o turns0 turns1)) xs ys) where
  -- the walk of both cores beside it
  beside : (p : ℕ) → Comes code (bounds0 o) (bounds1 o) (take p cores) (Some (opening_world o)) (world_at_start (opening_of o turns0 turns1)) (judged_in o code (take p cores) xs ys)
  beside p =
      let C : FrameState → FrameState → Type 0 = λ f g. Comes code (bounds0 o) (bounds1 o) (take p cores) (Some (opening_world o)) (world_at_start (opening_of o turns0 turns1)) (judgement code (bounds0 o) (bounds1 o) (take p cores) xs ys (opening_known f g)) in
      let here : C (frame_of (state0 o)) (frame_of (state1 o)) =
      one_walk code (bounds0 o) (bounds1 o) p cores (world_at_start (opening_of o turns0 turns1)) (opening_known (frame_of (state0 o)) (frame_of (state1 o))) (opening_core (state0 o)).entered (opening_core (state1 o)).entered xs ys walk in
      subst (C (frame0 o)) (alike1 o) (subst (λ f. C f (frame_of (state1 o))) (alike0 o) here)

  -- what it judges is a frame run
  judged_frames : (p : ℕ) → AreFrames o code (judged_in o code (take p cores) xs ys)
  judged_frames p =
      let r = beside p in
      let R : FrameState → FrameState → Type 0 = λ f g. IsFrameRun code (memory_of o) f g (judged_in o code (take p cores) xs ys).known in
      let run = turns_are_frames o code c r.made (world_of code r.at (judged_in o code (take p cores) xs ys).known r.reaches.entered0 r.reaches.entered1) r.reaches.walk in
      subst (R (frame0 o)) (alike1 o) (subst (λ f. R f (frame_of (state1 o))) (alike0 o) (record { first = run.first; second = run.second; legal = run.legal }))

  -- and where it shows no breach, the walk stands where the run does
  reached : (p : ℕ) → (judged_in o code (take p cores) xs ys).breach ≡ None
      → Reaches code (bounds0 o) (bounds1 o) (turns_of (take p cores)) (Some (opening_world o)) (state_at (processor code) (opening_of o turns0 turns1) cores p) (judged_in o code (take p cores) xs ys).known
  reached p none =
      let r = beside p in
      let k = (judged_in o code (take p cores) xs ys).known in
      let all = r.whole none in
      subst (λ v. Reaches code (bounds0 o) (bounds1 o) (turns_of (take p cores)) (Some (opening_world o)) v k) all.1 (subst (λ cs. Reaches code (bounds0 o) (bounds1 o) cs (Some (opening_world o)) r.at k) all.0 r.reaches)

pub walks_are_frames : WalksAreFrames
walks_are_frames o code turns0 turns1 c cores xs ys walk =
    subst (λ cs. AreFrames o code (judged_in o code cs xs ys)) (take-length cores) (judged_frames o code turns0 turns1 c cores xs ys walk (length cores))

pub runs_are_frames : RunsAreFrames
runs_are_frames o code turns0 turns1 r c run =
    walks_are_frames o code turns0 turns1 c (schedule_of r) r.trace0.records r.trace1.records (own_walk (processor code) (opening_of o turns0 turns1) r run)

-- where the walk has come, beside the judge
position : (o : Openings) (code : ℕ → ℕ) (turns0 turns1 : ℕ) (cores : List ℕ) (p : ℕ) (k : Known) → IsCovered o code
    → Reaches code (bounds0 o) (bounds1 o) (turns_of (take p cores)) (Some (opening_world o)) (state_at (processor code) (opening_of o turns0 turns1) cores p) k
    → Position o code turns0 turns1 cores p k
position o code turns0 turns1 cores p k c r =
    let w = world_of code (state_at (processor code) (opening_of o turns0 turns1) cores p) k r.entered0 r.entered1 in
    let ends = stretches_move_frames o code c (turns_of (take p cores)) w r.walk in
    let back = nested_give_back o code c (turns_of (take p cores)) w r.walk in
    record {
      world = w;
      reached = r.walk;
      knows = record { standing0 = refl; standing1 = refl; stale = refl; judged0 = refl; judged1 = refl; entries = refl };
      stands = record { state0 = refl; state1 = refl; memory = refl };
      moves0 = ends.0;
      moves1 = ends.1;
      returns0 = back.0;
      returns1 = back.1;
    }

pub stretches_of_runs : StretchesOfRuns
stretches_of_runs o code turns0 turns1 r c run p none =
    position o code turns0 turns1 (schedule_of r) p _ c
    (reached o code turns0 turns1 c (schedule_of r) r.trace0.records r.trace1.records (own_walk (processor code) (opening_of o turns0 turns1) r run) p none)
