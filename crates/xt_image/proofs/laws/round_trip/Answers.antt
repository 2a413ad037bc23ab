use Rattle.std.proofs.Common.{[]}
use Rattle.xt_image.specs.ImageParts.{image_bytes}
use Rattle.xt_image.proofs.Written.{file_again}
use Rattle.xt_image.proofs.laws.round_trip.Goals as goal

pub returns : goal.returns
unfolding image_bytes
returns c = λ i w. (w.no_fault, file_again i _ [] w.fits)
