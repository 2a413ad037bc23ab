use Rattle.std.proofs.Common.{refl}
use Rattle.xt_runs.specs.Generating.{gen_options}
use Rattle.xt_runs.proofs.Numbered.{of_number, of_size}
use Rattle.xt_runs.proofs.generating.run_summed_up.Goals as goal

pub verdict_is_so-requires : goal.verdict_is_so-requires
verdict_is_so-requires g c = let r = c.in_ok-run.ensures in r.framed

pub judged-requires-clause-run : goal.judged-requires-clause-run
judged-requires-clause-run g c = let r = c.in_ok-run.ensures in r.of_image

pub returns-clause-run : goal.returns-clause-run
returns-clause-run g c =
    of_number c.args.number gen_options c.args.image.now c.in_ok-run.run' c.in_ok-whole.whole.run refl c.requires.image
    c.in_ok-run.ensures c.verdict_is_so.ensures c.in_ok-whole.ensures.run

pub returns-clause-text : goal.returns-clause-text
returns-clause-text g c =
    of_size c.args.number c.written_length-size.result c.args.image.now c.in_ok-run.run' c.in_ok-whole.whole.run c.in_ok-whole.whole c.in_ok-text.text
    c.written_length-size.ensures c.requires.image c.in_ok-whole.ensures.whole c.in_ok-whole.ensures.run c.in_ok-text.ensures
