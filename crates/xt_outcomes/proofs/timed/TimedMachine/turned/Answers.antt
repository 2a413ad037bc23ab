use Rattle.xt_outcomes.proofs.timed.TimedMachine.turned.Goals as goal

pub returns-in-Some-clause-leads : goal.returns-in-Some-clause-leads
returns-in-Some-clause-leads c = (
  rw c.in-Some.is at c.in_ok-run.ensures.run,
  rw c.in-Some.is at c.in_ok-run.ensures.begins,
  rw c.in-Some.is at c.in_ok-run.ensures.lean,
)
