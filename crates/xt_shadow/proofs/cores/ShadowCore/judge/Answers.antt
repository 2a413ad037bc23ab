use Rattle.xt_map.specs.Memory.{constant_byte}
use Rattle.xt_shadow.specs.declared.cores.ShadowCore.{ShadowCore}
use Rattle.xt_shadow.proofs.Saw.{core_handles, core_outside, seen_ok}
use Rattle.xt_shadow.proofs.Turning.{shown_whole}
use Rattle.xt_shadow.proofs.cores.ShadowCore.judge.Goals as goal

pub find_level-requires-clause-inside : goal.find_level-requires-clause-inside
find_level-requires-clause-inside c =
    let q = c.requires.known in
    core_outside c.args.self.now c.see.new.side c.see.new.marks q.0 q.1 (constant_byte c.args.code.now) c.args.rec c.in_default.field-0 c.requires.inside c.requires.level (c.in_default.ensures.seen q.0 q.1 q.2) c.in-Outside.is

pub returns-in-InHandler-clause-seen : goal.returns-in-InHandler-clause-seen
returns-in-InHandler-clause-seen c = λ others stale known.
    let old = c.args.self.now in
    let new = c.see.new.side in
    let code = constant_byte c.args.code.now in
    let saw = c.in_default.ensures.seen others stale known in
    let core : ShadowCore = record old { side = new } in
    seen_ok old new c.see.new.marks others stale code c.args.rec c.in_default.field-0 c.requires.inside c.requires.level saw core (shown_whole core c.requires.level)
    (core_handles old new c.see.new.marks others stale code c.args.rec c.in_default.field-0 c.requires.inside c.requires.level saw c.in-InHandler.is)
