use Rattle.std.proofs.Common.{ap, ◌∙◌}
use Rattle.xt_map.specs.Memory.{constant_byte}
use Rattle.xt_search.specs.Changed.{contents_of}
use Rattle.xt_exec.specs.States.{file_state}
use Rattle.xt_outcomes.specs.Dead.{side_forgotten}
use Rattle.xt_outcomes.proofs.Turned.{memory_is, next_is, past_is}
use Rattle.xt_outcomes.proofs.timed.Timed.go_on.Goals as goal

pub returns-clause-side : goal.returns-clause-side
returns-clause-side c =
    let t = c.args.self.now in
    let code = constant_byte t.code in
    let ms = t.dead.masks.items in
    let s = c.args.side.now in
    let m = contents_of t.opening.contents c.args.changes.now in
    let x = c.args.ahead.now.record in
    let u = file_state c.args.ahead.now.regs in
    let is = c.requires.ahead.turn in
    c.go_past.ensures.side
    ∙ ap (side_forgotten ms) (past_is code t.timed s m x u c.requires.left is)
    ∙ next_is code t.timed s m x u c.requires.left is ms

pub returns-clause-memory : goal.returns-clause-memory
returns-clause-memory c =
    let t = c.args.self.now in
    let code = constant_byte t.code in
    let m = contents_of t.opening.contents c.args.changes.now in
    c.in_ok-serve.ensures.memory ∙ memory_is code t.timed c.args.side.now m c.args.ahead.now.record (file_state c.args.ahead.now.regs) c.requires.left c.requires.ahead.turn
