use Rattle.std.proofs.Common.{◌≡◌, suc, ◌+◌, ◌-◌, false, sym, ap, ◌∙◌, arith}
use Rattle.xt_replay.specs.Shown.{ReplayState, replay_at}
use Rattle.xt_debug.specs.Searches.{end_of, first_step, hits}
use Rattle.xt_debug.proofs.Found.{not_here}
use Rattle.xt_debug.proofs.searching.first.Goals as goal

pub loop-position-init : goal.loop-position-init
loop-position-init c =
    let r = c.args.replay.now in
    let start = c.position-position.ensures.position in
    record {
      rest = ap (first_step (hits r.image r.run c.args.target.now) r.run) start;
      replay = ap (replay_at r) (sym start);
    }

pub loop-position-preserved : goal.loop-position-preserved
loop-position-preserved c =
    let r = c.args.replay.now in
    let p = c.loop-position.position in
    let same = c.loop-position.invariant.replay in
    let test = hits r.image r.run c.args.target.now in
    let below = c.loop-position-test.true in
    let end = c.end_of-end.ensures in
    let next : p + 1 ≡ suc p = omega arith in
    let more : end_of r.run - p ≡ suc (end_of r.run - (p + 1)) = omega (arith, below, end) in
    let fails : test p ≡ false = sym (ap (λ (s : ReplayState). hits s.image s.run c.args.target.now s.position) same) ∙ sym c.step_hits.ensures.hits ∙ c.if-step_hits.false in
    record {
      rest = sym (not_here test p (p + 1) (end_of r.run - p) (end_of r.run - (p + 1)) next more fails) ∙ c.loop-position.invariant.rest;
      replay = c.step_hits.ensures.moved ∙ ap (λ (s : ReplayState). replay_at s (s.position + 1)) same;
    }
