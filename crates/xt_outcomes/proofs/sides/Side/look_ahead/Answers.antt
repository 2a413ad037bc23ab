use Rattle.std.proofs.Common.{◌≡◌, ap, ◌∙◌}
use Rattle.xt_map.specs.Memory.{constant_byte}
use Rattle.xt_trace.specs.Worlds.{answer}
use Rattle.xt_search.specs.Changed.{contents_of}
use Rattle.xt_exec.specs.State.{State}
use Rattle.xt_exec.specs.States.{file_state}
use Rattle.xt_exec.specs.Turn.{demand, turn}
use Rattle.xt_outcomes.proofs.Turned.{begun_served, begun_shaped}
use Rattle.xt_outcomes.proofs.sides.Side.look_ahead.Goals as goal

pub returns : goal.returns
returns c =
    let code = constant_byte c.args.code.now in
    let m = contents_of c.args.opening.now.contents c.args.changes.now in
    let s : State = file_state c.args.ahead.now.regs in
    let reply = answer (demand code s) m in
    let state : s ≡ c.args.self.now.state = c.requires.ready.0 in
    let is = c.begun_turn-ahead.ensures.turn in
    let x = c.begun_turn-ahead.result in
    let u = file_state c.begun_turn-ahead.new.regs in
    record {
      turn = is ∙ ap (λ (v : State). turn code v (answer (demand code v) m)) state;
      served = begun_served code s reply x u is;
      shaped = begun_shaped code s reply x u is c.requires.bytes c.requires.ready.1 c.begun_turn-ahead.ensures.word;
    }
