use Rattle.xt_map.specs.Memory.{constant_byte}
use Rattle.xt_discipline.specs.declared.roles.Role.TheVariants.{Own}
use Rattle.xt_use_walk.specs.Sides.{live_in}
use Rattle.xt_use_walk.proofs.Seen.{role_seen}
use Rattle.xt_use_shadow.proofs.seeing.judge.Goals as goal

pub judge_whole-requires : goal.judge_whole-requires
judge_whole-requires c = record {
  side = c.requires.side;
  room = c.requires.room;
  served = c.requires.served;
  next = c.phase_after-next.ensures;
  full = c.requires.full;
  touched = c.touched-touched.ensures.some;
}

pub returns-clause-seen : goal.returns-clause-seen
returns-clause-seen c others masks known =
    let s = c.args.side.now in
    let j = c.judge_whole in
    role_seen s j.new.self j.new.bytes others masks (constant_byte c.args.code.now) c.args.rec.now Own j.result c.requires.own
    (j.ensures.seen others masks known (c.touched-touched.ensures.touched s.core (live_in s.uses) others masks known))
