use Rattle.std.proofs.Common.{arith}
use Rattle.xt_map.specs.Memory.{constant_byte}
use Rattle.xt_exec.specs.States.{file_state}
use Rattle.xt_core.proofs.Cursors.{next_is}
use Rattle.xt_core.proofs.cursor.CursorRecords.next.Goals as goal

pub returns-clause-first : goal.returns-clause-first
returns-clause-first c =
    (next_is (constant_byte c.self.inside.code) c.self.inside.core (file_state c.self.inside.regs) (file_state c.next_turn.new.regs) c.self.inside.left
    c.left_past-self-inside.result c.self.inside.entries.now c.next_turn.result.1.now c.next_turn.result.0 c.args.self.now c.self.view_is
    (omega (arith, c.if-self-eq0.false)) c.next_turn.ensures.turn c.next_turn.ensures.rest c.left_past-self-inside.ensures).first

pub returns-clause-rest : goal.returns-clause-rest
returns-clause-rest c =
    (next_is (constant_byte c.self.inside.code) c.self.inside.core (file_state c.self.inside.regs) (file_state c.next_turn.new.regs) c.self.inside.left
    c.left_past-self-inside.result c.self.inside.entries.now c.next_turn.result.1.now c.next_turn.result.0 c.args.self.now c.self.view_is
    (omega (arith, c.if-self-eq0.false)) c.next_turn.ensures.turn c.next_turn.ensures.rest c.left_past-self-inside.ensures).rest
