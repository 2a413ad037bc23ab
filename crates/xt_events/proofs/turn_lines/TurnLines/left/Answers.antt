use Rattle.std.proofs.Common.{◌-◌, length, sym, ap, ◌∙◌}
use Rattle.xt_events.specs.Left.{state_of}
use Rattle.xt_events.specs.Lines.{LinesState, lines_in}
use Rattle.xt_events.proofs.Following.{lines_long}
use Rattle.xt_events.proofs.turn_lines.TurnLines.left.Goals as goal

pub returns : goal.returns
returns c =
    let s = state_of c.self.inside in
    c.saturating_sub.ensures ∙ ap (λ n. s.end - n) c.position.ensures.position
    ∙ sym (lines_long s.filter s.image s.run s.position (s.end - s.position)) ∙ ap (λ (x : LinesState). length (lines_in x)) c.self.view_is
