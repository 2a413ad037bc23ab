use Rattle.xt_report.proofs.Kept.{are_kept, is_only}
use Rattle.xt_report.proofs.leaks.secrets_of.Goals as goal

pub returns-clause-only : goal.returns-clause-only
returns-clause-only c = is_only c.args.image.now c.args.run.now c.args.secret.now c.args.public.now c.secrets_are_one.ensures c.in_ok-secrets.secrets c.in_ok-secrets.ensures

pub returns-clause-kept : goal.returns-clause-kept
returns-clause-kept c =
    are_kept c.args.image.now c.args.run.now c.args.secret.now c.args.public.now c.image_runs_are_same_up_to_the_leak.ensures c.requires.image.fits c.is_word.ensures c.is_word-2.ensures c.requires.run
    c.in_ok-secrets.secrets c.in_ok-secrets.ensures
