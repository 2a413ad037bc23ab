use Rattle.std.proofs.Common.{◌≡◌, ◌+◌, ◌<◌, Some, length, slice_get, refl, ap, subst, arith}
use Rattle.xt_core.specs.Positions.{schedule_in}
use Rattle.xt_events.proofs.Following.{two_cores}
use Rattle.xt_replay.specs.Shown.{ReplayState, replay_at}
use Rattle.xt_debug.proofs.FrameWalking.{next_turn}
use Rattle.xt_debug.proofs.frame_walk.FrameWalk.advance.Goals as goal

pub step-self-inside-requires-clause-core : goal.step-self-inside-requires-clause-core
step-self-inside-requires-clause-core c =
    let t = c.self.inside in
    let turn = next_turn t c.in-Some.core c.as_slice.result.now c.core_at.result c.self.invariant c.as_slice.ensures c.core_at.ensures c.in-Some.is in
    two_cores t.image.now t.run.now t.position c.in-Some.core c.self.invariant.run_is turn.inside turn.is

pub step-self-inside-requires-clause-stands : goal.step-self-inside-requires-clause-stands
step-self-inside-requires-clause-stands c =
    let t = c.self.inside in
    (t.image.now, t.run.now, t.position, next_turn t c.in-Some.core c.as_slice.result.now c.core_at.result c.self.invariant c.as_slice.ensures c.core_at.ensures c.in-Some.is, c.self.invariant.stands)

pub overflow_add-self : goal.overflow_add-self
overflow_add-self c =
    let turn = next_turn c.self.inside c.in-Some.core c.as_slice.result.now c.core_at.result c.self.invariant c.as_slice.ensures c.core_at.ensures c.in-Some.is in
    omega (arith, turn.inside, turn.short)

pub invariant_of-self : goal.invariant_of-self
invariant_of-self c =
    let t = c.self.inside in
    let h = c.self.invariant in
    let turn = next_turn t c.in-Some.core c.as_slice.result.now c.core_at.result h c.as_slice.ensures c.core_at.ensures c.in-Some.is in
    let long : length t.schedule ≡ length (schedule_in t.run.now) = ap length h.schedule_is in
    record {
      run_is = h.run_is;
      schedule_is = h.schedule_is;
      within = omega (arith, turn.inside, long);
      stands = c.step-self-inside.ensures t.image.now t.run.now t.position turn h.stands;
    }

pub returns : goal.returns
returns c =
    let t = c.self.inside in
    let core = c.in-Some.core in
    let turn = next_turn t core c.as_slice.result.now c.core_at.result c.self.invariant c.as_slice.ensures c.core_at.ensures c.in-Some.is in
    let two = two_cores t.image.now t.run.now t.position core c.self.invariant.run_is turn.inside turn.is in
    let new : ReplayState = record { image = t.image.now; run = t.run.now; position = t.position + 1 } in
    let A : ReplayState → Type 0 = λ s. (slice_get (schedule_in s.run) s.position ≡ Some core) × (core < 2) × (new ≡ replay_at s (s.position + 1)) in
    subst A c.self.view_is (turn.is, two, refl)
