use Rattle.std.proofs.Common.{◌≡◌, ◌+◌, ℕ, List, drop, sym, ◌∙◌, arith}
use Rattle.std.proofs.lemmas.List.{drop_more}
use Rattle.xt_map.specs.Memory.{constant_byte}
use Rattle.xt_profile.specs.Steps.{Step}
use Rattle.xt_profile.specs.CountedSteps.{IsTally, Origin}
use Rattle.xt_profile.proofs.PastCut.{goes_one, gone_phases, gone_records, taken}
use Rattle.xt_profile.proofs.later.count_left.Goals as goal

pub returns-in_default : goal.returns-in_default
returns-in_default g c o past h =
    gone_records (constant_byte c.args.code.now) o past c.args.phases.now (g.R.Records.left c.args.records.now) (drop c.loop-phase.phase-index c.args.phases.now) (g.R.Records.left c.loop-phase.records) c.loop-phase.tally (sym c.in_default.is ∙ c.next.ensures.first) (c.loop-phase.invariant.1 o past h)

pub change-requires-clause-known : goal.change-requires-clause-known
change-requires-clause-known g c =
    let q = c.requires.known in
    let h = c.loop-phase.invariant.1 q.0 q.1 q.2 in
    (q.0, h.0, h.1)

steps_on : (s t u i : ℕ) → s ≡ t + 1 → t ≡ u + i → s ≡ u + (i + 1)
steps_on s t u i e f = omega (arith, e, f)

pub loop-phase-preserved : goal.loop-phase-preserved
loop-phase-preserved g c =
    let i = c.loop-phase.phase-index in
    let phases = c.args.phases.now in
    let left = g.R.Records.left c.loop-phase.records in
    let left2 = g.R.Records.left c.next.new.self in (
      steps_on c.change.new.self.steps c.loop-phase.tally.steps c.args.tally.now.steps i c.in_ok-change.ensures.steps c.loop-phase.invariant.0,
      λ (o : Origin) (past : List Step) (h : IsTally o past c.args.tally.now).
          goes_one (constant_byte c.args.code.now) o past phases (g.R.Records.left c.args.records.now) (drop i phases) (drop (i + 1) phases) left left2 c.loop-phase.tally c.change.new.self _ c.in-Some.rec c.change_at.result (drop_more phases i _ c.loop-phase-test.true)
          (taken c.in-Some.rec left left2 (sym c.in-Some.is ∙ c.next.ensures.first) c.next.ensures.rest) c.change_at.ensures (c.loop-phase.invariant.1 o past h) c.in_ok-change.ensures.tally,
    )

pub returns : goal.returns
returns g c o past h =
    gone_phases (constant_byte c.args.code.now) o past c.args.phases.now (g.R.Records.left c.args.records.now) c.loop-phase.phase-index (g.R.Records.left c.loop-phase.records) c.loop-phase.tally c.loop-phase-test.false (c.loop-phase.invariant.1 o past h)
