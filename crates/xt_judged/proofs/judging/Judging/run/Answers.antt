use Rattle.std.proofs.Common.{◌≡◌, ℕ, ◌+◌, ◌-◌, sym, ◌∙◌, arith}
use Rattle.xt_map.specs.Memory.{constant_byte}
use Rattle.xt_exec.specs.Chips.{processor}
use Rattle.xt_outcomes.proofs.Spreading.{onward_end, onward_off, onward_on, onward_start}
use Rattle.xt_judged.specs.Scenes.{Scene, scene_past}
use Rattle.xt_judged.specs.Kept.{bounds0, bounds1, goes_on, scene_of, stretch}
use Rattle.xt_judged.proofs.judging.Judging.run.Goals as goal

pub loop-made-init : goal.loop-made-init
loop-made-init c =
    let t = c.args.self.now.timed in
    let code = constant_byte t.code in
    let m = t.opening.contents in
    let v = c.args.scene.now in
    let turn = c.in_ok-next.ensures in
    record {
      run = onward_start (goes_on code t.timed c.args.core) (scene_past (processor code) code (bounds0 v) (bounds1 v) t.timed c.args.core) c.args.self.now.most_alone (scene_of m v) (scene_of m c.in_ok-next.next) turn.turn;
      count = omega arith;
      same0 = turn.same0;
      same1 = turn.same1;
    }

pub loop-made-preserved : goal.loop-made-preserved
loop-made-preserved c =
    let t = c.args.self.now.timed in
    let code = constant_byte t.code in
    let m = t.opening.contents in
    let v = c.args.scene.now in
    let core = c.args.core in
    let most = c.args.self.now.most_alone in
    let step : ℕ → Scene → Scene = scene_past (processor code) code (bounds0 v) (bounds1 v) t.timed in
    let old = c.loop-made.invariant in
    let u = scene_of m c.loop-made.next in
    let next = c.in_ok-next-2.next in
    let turn = c.in_ok-next-2.ensures in
    let on = sym c.goes_on.ensures ∙ c.if-not-goes_on.false in
    let e : c.loop-made.turns ≡ c.loop-made.made + 1 = old.count in
    let one : scene_of m next ≡ step core u = turn.turn ∙ (λ i. scene_past (processor code) code (old.same0 i) (old.same1 i) t.timed core u) in
    record {
      run = onward_on (goes_on code t.timed core) (step core) most c.loop-made.made u (scene_of m next) (stretch code (bounds0 v) (bounds1 v) t.timed most core (scene_of m v)) c.loop-made-test.true on one old.run;
      count = omega arith;
      same0 = turn.same0 ∙ old.same0;
      same1 = turn.same1 ∙ old.same1;
    }

pub returns-then-not-goes_on-clause-stretch : goal.returns-then-not-goes_on-clause-stretch
returns-then-not-goes_on-clause-stretch c =
    let t = c.args.self.now.timed in
    let code = constant_byte t.code in
    let m = t.opening.contents in
    let v = c.args.scene.now in
    let core = c.args.core in
    let most = c.args.self.now.most_alone in
    onward_off (goes_on code t.timed core) (scene_past (processor code) code (bounds0 v) (bounds1 v) t.timed core) (most - c.loop-made.made) (scene_of m c.loop-made.next)
    (stretch code (bounds0 v) (bounds1 v) t.timed most core (scene_of m v)) (sym c.goes_on.ensures ∙ c.if-not-goes_on.true) c.loop-made.invariant.run

pub returns-clause-stretch : goal.returns-clause-stretch
returns-clause-stretch c =
    let t = c.args.self.now.timed in
    let code = constant_byte t.code in
    let m = t.opening.contents in
    let v = c.args.scene.now in
    let core = c.args.core in
    let most = c.args.self.now.most_alone in
    onward_end (goes_on code t.timed core) (scene_past (processor code) code (bounds0 v) (bounds1 v) t.timed core) most c.loop-made.made (scene_of m c.loop-made.next)
    (stretch code (bounds0 v) (bounds1 v) t.timed most core (scene_of m v)) c.loop-made-test.false c.loop-made.invariant.run
