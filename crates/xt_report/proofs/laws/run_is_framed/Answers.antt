use Rattle.xt_report.proofs.Framing.{runs_are_framed}
use Rattle.xt_report.proofs.laws.run_is_framed.Goals as goal

pub returns : goal.returns
returns c =
    runs_are_framed c.args.image.now c.args.run.now
    (record { image_fits = c.requires.image.fits; vecbase = c.is_word.ensures; entry1 = c.is_word-2.ensures }) c.requires.run
