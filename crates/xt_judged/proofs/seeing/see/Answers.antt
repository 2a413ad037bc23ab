use Rattle.std.specs.Prelude.{option_copied}
use Rattle.xt_map.specs.Memory.{constant_byte}
use Rattle.xt_discipline.specs.declared.roles.Role.TheVariants.{Own, NestedStep}
use Rattle.xt_judged.specs.Stales.{among}
use Rattle.xt_judged.proofs.SeenAs.{by_role}
use Rattle.xt_judged.proofs.seeing.see.Goals as goal

pub returns-in-Own : goal.returns-in-Own
returns-in-Own c =
    let seen = c.see_judged in
    by_role (constant_byte c.args.code.now) c.args.own.now seen.new.own (option_copied c.args.other) (among c.args.stale.now) c.args.rec.now c.args.phase Own seen.result c.in-Own.ensures
    (seen.ensures c.args.phase c.phase_after-next.ensures)

pub returns-in-NestedStep : goal.returns-in-NestedStep
returns-in-NestedStep c =
    let seen = c.see_judged-in-NestedStep in
    by_role (constant_byte c.args.code.now) c.args.own.now seen.new.own (option_copied c.args.other) (among c.args.stale.now) c.args.rec.now c.args.phase NestedStep seen.result c.in-NestedStep.ensures
    (seen.ensures c.args.phase c.phase_after-next.ensures)
