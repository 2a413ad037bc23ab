use Rattle.xt_core.proofs.Scheduled.{has_schedule}
use Rattle.xt_simulation.specs.WatchedRuns.{has_byte_at, watched_of}
use Rattle.xt_secret_walk.proofs.judging.judge_secrets.Goals as goal

pub judge-requires-clause-schedule : goal.judge-requires-clause-schedule
judge-requires-clause-schedule c = has_schedule c.args.image.now c.args.run.now c.requires.run

pub judge-requires-clause-on : goal.judge-requires-clause-on
judge-requires-clause-on c = (watched_of c.args.image.now c.args.run.now (has_byte_at c.args.secret.now) (has_byte_at c.args.public.now), c.in_ok-walk.ensures)

pub returns : goal.returns
returns c = c.judge.ensures (watched_of c.args.image.now c.args.run.now (has_byte_at c.args.secret.now) (has_byte_at c.args.public.now)) c.in_ok-walk.ensures
