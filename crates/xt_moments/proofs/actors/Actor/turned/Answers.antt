use Rattle.std.proofs.Common.{◌≡◌, false, ap, sym, ◌∙◌}
use Rattle.xt_map.specs.Memory.{constant_byte}
use Rattle.xt_search.specs.Changed.{contents_of}
use Rattle.xt_special.specs.Numbers as number
use Rattle.xt_trace.specs.Worlds.{answer}
use Rattle.xt_exec.specs.States.{file_state}
use Rattle.xt_exec.specs.Turn.{demand}
use Rattle.xt_moments.specs.Moments.{MomentCore, with_special}
use Rattle.xt_moments.proofs.Turned.{core_is, memory_is, served, shaped}
use Rattle.xt_moments.proofs.actors.Actor.turned.Goals as goal

pub serve-requires-clause-served : goal.serve-requires-clause-served
serve-requires-clause-served c =
    let code = constant_byte c.args.code.now in
    let m = contents_of c.args.opening.now.contents c.args.changes.now in
    let s = file_state c.with_register-before.result in
    served code s (answer (demand code s) m) c.begun_turn-record.result
    (file_state c.begun_turn-record.new.regs) c.begun_turn-record.ensures.turn

pub past-requires : goal.past-requires
past-requires c =
    let code = constant_byte c.args.code.now in
    let m = contents_of c.args.opening.now.contents c.args.changes.now in
    let s = file_state c.with_register-before.result in
    shaped code s (answer (demand code s) m) c.begun_turn-record.result
    (file_state c.begun_turn-record.new.regs) c.begun_turn-record.ensures.turn c.requires.bytes
    c.with_register-before.ensures.shaped c.begun_turn-record.ensures.word

pub returns-clause-core : goal.returns-clause-core
returns-clause-core c =
    let code = constant_byte c.args.code.now in
    let m = contents_of c.args.opening.now.contents c.args.changes.now in
    let k = c.args.self.now in
    let same = c.with_register-before.ensures.state
    ∙ ap (λ (a : MomentCore). with_special number.ccount c.args.count a.state) c.self.view_is in
    let going : k.stopped ≡ false =
    sym (ap (λ (a : MomentCore). a.stopped) c.self.view_is) ∙ c.if-self.false in
    c.past.ensures
    ∙ core_is code c.args.count k m (file_state c.with_register-before.result)
    c.begun_turn-record.result (file_state c.begun_turn-record.new.regs) same going
    c.begun_turn-record.ensures.turn

pub returns-clause-memory : goal.returns-clause-memory
returns-clause-memory c =
    let code = constant_byte c.args.code.now in
    let m = contents_of c.args.opening.now.contents c.args.changes.now in
    let k = c.args.self.now in
    let same = c.with_register-before.ensures.state
    ∙ ap (λ (a : MomentCore). with_special number.ccount c.args.count a.state) c.self.view_is in
    let going : k.stopped ≡ false =
    sym (ap (λ (a : MomentCore). a.stopped) c.self.view_is) ∙ c.if-self.false in
    c.in_ok-serve.ensures
    ∙ memory_is code c.args.count k m (file_state c.with_register-before.result)
    c.begun_turn-record.result (file_state c.begun_turn-record.new.regs) same going
    c.begun_turn-record.ensures.turn
