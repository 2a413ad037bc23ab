use Rattle.std.proofs.Common.{refl, arith}
use Rattle.xt_core.proofs.Scheduled.{has_schedule}
use Rattle.xt_debug.proofs.FrameWalking.{begins}
use Rattle.xt_debug.proofs.frame_walk.FrameWalk.make.Goals as goal

pub schedule_of-requires : goal.schedule_of-requires
schedule_of-requires c = has_schedule c.args.image.now c.args.run.now c.requires.run

pub invariant_of-result : goal.invariant_of-result
invariant_of-result c = record {
  run_is = c.requires.run;
  schedule_is = c.in_ok-schedule.ensures.schedule;
  within = omega arith;
  stands = begins c.in_ok-walk.walk c.args.image.now c.args.run.now c.args.image.now.segments c.in_ok-handlers.handlers c.are_yes.result c.opening_course.result c.in_ok-records.records.0 c.in_ok-records.records.1
      c.opening_course.ensures c.are_yes.ensures c.in_ok-handlers.ensures c.in_ok-walk.ensures refl c.in_ok-records.ensures.zero c.in_ok-records.ensures.one;
}
