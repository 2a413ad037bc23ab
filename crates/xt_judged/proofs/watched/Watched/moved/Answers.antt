use Rattle.std.proofs.Common.{◌≡◌, ◌<◌, ap, ◌∙◌, arith}
use Rattle.xt_search.specs.Changed.{contents_of}
use Rattle.xt_exec.specs.State.{State}
use Rattle.xt_outcomes.specs.KeptWorlds.{moved_spot, spot_of}
use Rattle.xt_outcomes.specs.Spots.{Spot}
use Rattle.xt_judged.specs.OwnJudges.{Judge, Watched}
use Rattle.xt_judged.specs.WatchedKept.{judge_of}
use Rattle.xt_judged.proofs.WatchedMade.{moved_one}
use Rattle.xt_judged.proofs.watched.Watched.moved.Goals as goal

pub returns-in_ok-clone-2 : goal.returns-in_ok-clone-2
returns-in_ok-clone-2 c = λ m.
    let v = c.args.self.now in
    let some : 0 < c.args.core = omega (arith, c.if-core-eq0.false) in
    let first : judge_of c.in_ok-clone-2.field-0.value ≡ judge_of v.judge0.value = ap judge_of c.in_ok-clone-2.ensures.cases in
    let make : Spot State → Judge → Judge → Watched = λ p j k. record { spot = p; judge0 = j; judge1 = k } in
    (λ i. make (c.in_ok-world.ensures m i) (first i) (judge_of c.args.judge.value))
    ∙ moved_one m v c.args.core (judge_of c.args.judge.value) (moved_spot c.args.core c.args.side (contents_of m c.args.changes) (spot_of m v.world)) some
