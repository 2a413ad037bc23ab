use Rattle.xt_report.proofs.Courses.{are_later, are_so, is_only, uses_are}
use Rattle.xt_report.proofs.use_report.uses_of.Goals as goal

pub returns-clause-uses : goal.returns-clause-uses
returns-clause-uses c =
    uses_are c.args.discipline c.args.image.now c.args.run.now c.in_ok-handlers.handlers c.in_ok-uses.uses c.in_ok-handlers.ensures c.in_ok-uses.ensures

pub returns-clause-only : goal.returns-clause-only
returns-clause-only c = is_only c.args.discipline c.args.image.now c.args.run.now c.in_ok-uses.uses c.uses_are_one.ensures (returns-clause-uses c)

pub returns-clause-so : goal.returns-clause-so
returns-clause-so c =
    are_so c.args.discipline c.args.image.now c.args.run.now c.in_ok-uses.uses c.uses_are_so.ensures c.runs_are_decided.ensures c.requires.image.fits c.is_word.ensures c.is_word-2.ensures c.requires.run (returns-clause-uses c)

pub returns-clause-later : goal.returns-clause-later
returns-clause-later c =
    are_later c.args.discipline c.args.image.now c.args.run.now c.in_ok-uses.uses c.uses_of_runs_are_later.ensures c.requires.image.fits c.is_word.ensures c.is_word-2.ensures c.requires.run (returns-clause-uses c)
