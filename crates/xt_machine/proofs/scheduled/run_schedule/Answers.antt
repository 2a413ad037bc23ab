use Rattle.std.proofs.Common.{◌∙◌}
use Rattle.xt_machine.specs.Shorts.{world_of}
use Rattle.xt_machine.proofs.Images.{comes_to_list, is_list_run}
use Rattle.xt_machine.proofs.scheduled.run_schedule.Goals as goal

pub returns-clause-list : goal.returns-clause-list
returns-clause-list c =
    comes_to_list c.args.image.now c.args.options.now c.args.schedule.now c.in_ok-code.code
    (world_of c.in_ok-pair.pair) (world_of c.follow.new.self) (world_of c.finish0.new.self) (world_of c.finish1.new.self) c.into_run.result
    (c.in_ok-code.ensures ∙ c.as_slice.ensures) c.in_ok-pair.ensures c.follow.ensures c.finish0.ensures.world c.finish1.ensures.world c.into_run.ensures

pub returns-clause-run : goal.returns-clause-run
returns-clause-run c =
    is_list_run c.args.image.now c.args.options.now c.args.schedule.now c.into_run.result c.requires.valid (returns-clause-list c)
