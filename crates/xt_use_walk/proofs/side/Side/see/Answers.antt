use Rattle.xt_map.specs.Memory.{constant_byte}
use Rattle.xt_discipline.specs.declared.roles.Role.TheVariants.{Own, NestedStep}
use Rattle.xt_use_walk.proofs.Seen.{role_seen}
use Rattle.xt_use_walk.proofs.side.Side.see.Goals as goal

pub returns-in-Own-clause-seen : goal.returns-in-Own-clause-seen
returns-in-Own-clause-seen c others masks known =
    let j = c.judge in
    role_seen c.args.self.now j.new.self j.new.bytes others masks (constant_byte c.args.code.now) c.args.rec.now Own j.result c.in-Own.ensures (j.ensures.seen others masks known)

pub returns-in-NestedStep-clause-seen : goal.returns-in-NestedStep-clause-seen
returns-in-NestedStep-clause-seen c others masks known =
    let j = c.judge-in-NestedStep in
    role_seen c.args.self.now j.new.self j.new.bytes others masks (constant_byte c.args.code.now) c.args.rec.now NestedStep j.result c.in-NestedStep.ensures (j.ensures.seen others masks known)
