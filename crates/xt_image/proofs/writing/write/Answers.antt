use Rattle.std.proofs.Common.{◌≡◌, [], arith, sym, ap, ◌∙◌}
use Rattle.xt_image.specs.ImageParts.{image_bytes}
use Rattle.xt_image.specs.Rules.{image_fault}
use Rattle.xt_image.specs.Format.{image_of}
use Rattle.xt_image.proofs.Written.{file_again, segments_short}
use Rattle.xt_image.proofs.writing.write.Goals as goal

pub whole-requires-clause-short : goal.whole-requires-clause-short
whole-requires-clause-short c = omega (arith, segments_short c.args.image.now, c.requires.short)

pub returns-clause-again : goal.returns-clause-again
unfolding image_bytes
returns-clause-again c =
    let written : c.new.result ≡ image_bytes c.args.image.now = c.new.ensures ∙ c.in_ok-whole.ensures in
    (ap image_fault written ∙ c.requires.no_fault, sym (ap image_of written ∙ file_again c.args.image.now _ [] c.requires.fits))
