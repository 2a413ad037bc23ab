use Rattle.std.proofs.Common.{◌≡◌, suc, ◌+◌, sym, ap, ◌∙◌, arith}
use Rattle.xt_replay.specs.Shown.{ReplayState, replay_at}
use Rattle.xt_debug.specs.Searches.{hits, last_before}
use Rattle.xt_debug.proofs.Found.{below_more, found_below}
use Rattle.xt_debug.proofs.searching.last_until.Goals as goal

pub loop-position-init : goal.loop-position-init
loop-position-init c =
    let r = c.args.replay.now in
    let start = c.position-position.ensures.position in
    record {
      rest = ap (last_before (hits r.image r.run c.args.target.now)) (sym start);
      range = tt;
      replay = ap (replay_at r) (sym start);
    }

pub loop-position-preserved : goal.loop-position-preserved
loop-position-preserved c =
    let r = c.args.replay.now in
    let p = c.loop-position.position in
    let same = c.loop-position.invariant.replay in
    let test = hits r.image r.run c.args.target.now in
    let next : p + 1 ≡ suc p = omega arith in
    let passes : c.step_hits-is_found.result ≡ test p = c.step_hits-is_found.ensures.hits ∙ ap (λ (s : ReplayState). hits s.image s.run c.args.target.now s.position) same in
    record {
      rest = found_below test c.step_hits-is_found.result p (p + 1) c.loop-position.found c.newer-found.result (last_before test r.position) next passes c.newer-found.ensures c.loop-position.invariant.rest;
      range = below_more c.step_hits-is_found.result p (p + 1) c.loop-position.found c.newer-found.result next c.newer-found.ensures c.loop-position.invariant.range;
      replay = c.step_hits-is_found.ensures.moved ∙ ap (λ (s : ReplayState). replay_at s (s.position + 1)) same;
    }
