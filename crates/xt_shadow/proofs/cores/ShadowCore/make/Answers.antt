use Rattle.xt_map.specs.Memory.{constant_byte}
use Rattle.xt_shadow.proofs.Making.{is_made}
use Rattle.xt_shadow.proofs.cores.ShadowCore.make.Goals as goal

pub returns-clause-made : goal.returns-clause-made
returns-clause-made c =
    let n = c.next-rec.ensures in
    is_made (constant_byte c.args.lookups.now) c.args.self.now c.next-rec.new.self c.next-rec.result c.left_past-self.result n.started c.requires.left n.owb n.turn n.rest c.left_past-self.ensures
