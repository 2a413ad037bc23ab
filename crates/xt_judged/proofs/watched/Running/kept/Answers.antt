use Rattle.std.proofs.Common.{sym, ◌∙◌, ap, subst}
use Rattle.std.specs.Prelude.{None}
use Rattle.xt_frames.specs.Walked.{Walked}
use Rattle.xt_judged.specs.Lives.{AreApart}
use Rattle.xt_judged.specs.WatchedKept.{judge_at, judge_of}
use Rattle.xt_judged.specs.declared.watched.OwnJudge.{OwnJudge}
use Rattle.xt_judged.proofs.JudgePast.{counted_first}
use Rattle.xt_judged.proofs.watched.Running.kept.Goals as goal

pub returns-clause-judge : goal.returns-clause-judge
returns-clause-judge c =
    ap judge_of c.in_ok-judge.ensures.ok
    ∙ ap (λ (w : Walked). judge_at w c.args.self) (c.in_ok-snapshot.ensures ∙ counted_first c.args.frames.now c.requires.first)

pub returns-clause-apart : goal.returns-clause-apart
returns-clause-apart c =
    let same = c.in_ok-snapshot.ensures ∙ counted_first c.args.frames.now c.requires.first in
    subst (λ (j : OwnJudge). AreApart j.standing.frames None j.stale) (sym c.in_ok-judge.ensures.ok)
    (subst (λ (w : Walked). AreApart w None c.args.self.stale) (sym same) c.requires.apart)
