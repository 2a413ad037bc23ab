use Rattle.std.proofs.Common.{◌≡◌, ℕ, List, ◌++◌, ap, ◌∙◌, subst}
use Rattle.std.specs.Prelude.{OnOk}
use Rattle.xt_replay.specs.Shown.{ReplayState}
use Rattle.xt_events.proofs.Following.{line_is, next_there}
use Rattle.xt_events.proofs.turn_lines.push_next_turn.Goals as goal

pub returns-clause-text : goal.returns-clause-text
returns-clause-text c =
    let s = c.args.replay.now in
    let t = next_there s c.next_turn.result c.in-Some.core c.in-Some.turn c.in-Some.is c.next_turn.ensures in
    let code = c.code.ensures ∙ ap (λ (x : ReplayState). x.image.segments) c.tell_turn-told.ensures.moved in
    let F : List ℕ → Type 0 = λ l. OnOk c.push_kept.result (c.push_kept.new.out.items ≡ c.args.out.now.items ++ l) in
    subst F (line_is c.args.filter s.image s.run s.position c.in-Some.core c.in-Some.turn _ c.code.result.now t.0 t.2 c.tell_turn-told.ensures.told code) c.push_kept.ensures
