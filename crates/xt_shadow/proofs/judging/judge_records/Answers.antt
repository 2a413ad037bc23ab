use Rattle.xt_core.proofs.Scheduled.{has_schedule}
use Rattle.xt_shadow.proofs.judging.judge_records.Goals as goal

pub judge-requires-clause-schedule : goal.judge-requires-clause-schedule
judge-requires-clause-schedule c = has_schedule c.args.image.now c.args.run.now c.requires.run
