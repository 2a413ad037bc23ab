use Rattle.xt_map.specs.Memory.{constant_byte}
use Rattle.xt_trace.specs.Traces.{reply_for}
use Rattle.xt_exec.specs.Turn.{demand}
use Rattle.xt_use_shadow.specs.Shadows.{core_state}
use Rattle.xt_use_shadow.proofs.Making.{is_made, made_served}
use Rattle.xt_use_shadow.proofs.cores.UseShadow.make.Goals as goal

pub returns-clause-made : goal.returns-clause-made
returns-clause-made c =
    let n = c.next-rec.ensures in
    is_made (constant_byte c.args.lookups.now) c.args.bytes.now c.args.self.now c.next-rec.new.self c.next-rec.result c.left_past-self.result n.started c.requires.left n.owb n.turn n.rest c.left_past-self.ensures n.spared

pub returns-clause-served : goal.returns-clause-served
returns-clause-served c =
    let code = constant_byte c.args.lookups.now in
    let s = core_state c.args.self.now in
    made_served code s (core_state c.next-rec.new.self) (reply_for (demand code s) c.args.self.now.replies) c.next-rec.result c.next-rec.ensures.turn
