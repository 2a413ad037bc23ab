use Rattle.std.proofs.Common.{◌≡◌, suc, ◌+◌, ◌-◌, ◌++◌, sym, ap, ◌∙◌, arith, append_assoc}
use Rattle.xt_replay.specs.Shown.{ReplayState, replay_at}
use Rattle.xt_events.specs.declared.filter.Filter.{Filter}
use Rattle.xt_events.specs.Filters.{everything}
use Rattle.xt_events.specs.Lines.{line_at}
use Rattle.xt_debug.proofs.Turning.{all_lines, no_line, one_line, text_from}
use Rattle.xt_debug.proofs.turns.push_turns.Goals as goal

pub loop-init : goal.loop-init
loop-init c =
    let r = c.args.replay.now in
    let start = c.position-counter.ensures.position in
    record {
      text = ap (λ p. c.args.out.now.items ++ text_from r.image r.run p (c.args.to - p)) start;
      replay = ap (replay_at r) (sym start);
    }

pub loop-preserved : goal.loop-preserved
loop-preserved c =
    let r = c.args.replay.now in
    let p = c.loop.counter in
    let before = c.loop.out.items in
    let same = c.loop.invariant.replay in
    let rest = text_from r.image r.run (p + 1) (c.args.to - (p + 1)) in
    let more : c.args.to - p ≡ suc (c.args.to - (p + 1)) = omega (arith, c.loop-test.true) in
    record {
      text = ap (λ t. t ++ rest) (c.in_ok-push_next_turn.ensures.text ∙ ap (λ (f : Filter). before ++ line_at f c.loop.replay.image c.loop.replay.run c.loop.replay.position) c.everything.ensures)
          ∙ ap (λ (s : ReplayState). (before ++ line_at everything s.image s.run s.position) ++ rest) same
          ∙ append_assoc before (line_at everything r.image r.run p) rest
          ∙ ap (λ t. before ++ t) (sym (one_line r.image r.run p (c.args.to - p) (c.args.to - (p + 1)) more))
          ∙ c.loop.invariant.text;
      replay = c.in_ok-push_next_turn.ensures.moved ∙ ap (λ (s : ReplayState). replay_at s (s.position + 1)) same;
    }

pub returns-clause-text : goal.returns-clause-text
returns-clause-text c =
    let r = c.args.replay.now in
    let p = c.loop.counter in
    let none : c.args.to - p ≡ 0 = omega (arith, c.loop-test.false) in
    sym (no_line r.image r.run p (c.args.to - p) c.loop.out.items none)
    ∙ c.loop.invariant.text
    ∙ ap (λ t. c.args.out.now.items ++ t) (all_lines r.image r.run r.position c.args.to c.requires.from c.requires.within)
