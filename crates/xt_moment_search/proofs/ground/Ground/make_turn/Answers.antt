use Rattle.xt_map.specs.Memory.{constant_byte}
use Rattle.xt_trace.specs.Worlds.{answer}
use Rattle.xt_search.specs.Changed.{contents_of}
use Rattle.xt_exec.specs.States.{file_state}
use Rattle.xt_exec.specs.Turn.{demand}
use Rattle.xt_outcomes.proofs.Turned.{begun_served, begun_shaped}
use Rattle.xt_moment_search.proofs.ground.Ground.make_turn.Goals as goal

pub returns : goal.returns
returns c =
    let g = c.args.self.now in
    let code = constant_byte g.code in
    let s = file_state c.args.regs.now in
    let reply = answer (demand code s) (contents_of g.opening.contents c.args.held.now) in
    let x = c.begun_turn.result in
    let u = file_state c.begun_turn.new.regs in
    let is = c.begun_turn.ensures.turn in
    record {
      shaped = begun_shaped code s reply x u is g.bytes c.requires c.begun_turn.ensures.word;
      served = begun_served code s reply x u is;
      turn = is;
    }
