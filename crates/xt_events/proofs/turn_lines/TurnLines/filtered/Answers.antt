use Rattle.std.proofs.Common.{◌≡◌, ◌-◌, length, min, ap, ◌∙◌, arith}
use Rattle.xt_core.specs.Positions.{schedule_in}
use Rattle.xt_replay.specs.Shown.{ReplayState}
use Rattle.xt_replay.specs.Shown as shown
use Rattle.xt_events.specs.Lines.{lines_from}
use Rattle.xt_events.proofs.Following.{ends, lines_start, opened, start_there}
use Rattle.xt_events.proofs.turn_lines.TurnLines.filtered.Goals as goal

pub overflow_add-run : goal.overflow_add-run
overflow_add-run c =
    let most = (ends c.args.image.now c.args.run.now c.requires.run).1 in
    omega (arith, most)

pub invariant_of-result : goal.invariant_of-result
invariant_of-result c =
    let image = c.args.image.now in
    let run = c.args.run.now in
    let old = c.in_ok-replay.replay in
    let start = c.min-start.result in
    let same = ap (λ (s : ReplayState). s.run) c.in_ok-replay.ensures in
    let there = start_there image run old c.seek.new.self c.args.from c.args.to c.min-end.result start c.seek.result c.requires.run same c.min-end.ensures c.min-start.ensures c.seek.ensures
    ∙ ap (λ (s : ReplayState). shown.replay_at s start) c.in_ok-replay.ensures in
    let long = (ends image run c.requires.run).0 in
    opened c.args.filter image run c.seek.new.self start c.min-end.result c.requires.run there (omega (arith, c.min-end.ensures, long))

pub returns : goal.returns
returns c =
    let image = c.args.image.now in
    let run = c.args.run.now in
    let old = c.in_ok-replay.replay in
    let end = c.min-end.result in
    let start = c.min-start.result in
    let same = ap (λ (s : ReplayState). s.run) c.in_ok-replay.ensures in
    let there = start_there image run old c.seek.new.self c.args.from c.args.to end start c.seek.result c.requires.run same c.min-end.ensures c.min-start.ensures c.seek.ensures
    ∙ ap (λ (s : ReplayState). shown.replay_at s start) c.in_ok-replay.ensures in
    let long = (ends image run c.requires.run).0 in
    let last : end ≡ min c.args.to (length (schedule_in run)) = c.min-end.ensures ∙ ap (min c.args.to) long in
    ap (λ (s : ReplayState). lines_from c.args.filter s.image s.run s.position (end - s.position)) there
    ∙ lines_start c.args.filter image run c.args.from c.args.to end start last c.min-start.ensures
