use Rattle.std.proofs.Common.{◌≡◌, ℕ, Bool, if◌then◌else◌, ap, arith, ◌∙◌}
use Rattle.xt_image.specs.Layout.{end_of}
use Rattle.xt_image.proofs.Ruled.{written_length}
use Rattle.xt_image.proofs.Written.{segments_short}
use Rattle.xt_image.proofs.writing.written_length.Goals as goal
use Rattle.xt_image.proofs.writing.written_length.Goals.{then-image, else-image}

pub end_of-end-requires : goal.end_of-end-requires
end_of-end-requires c = rw c.as_slice.ensures (omega (arith, segments_short c.args.image.now, c.requires.short))

pub overflow_add-result-2 : goal.overflow_add-result-2
overflow_add-result-2 c =
    let end : c.end_of-end.result ≡ end_of c.args.image.now.segments = c.end_of-end.ensures ∙ ap end_of c.as_slice.ensures in
    omega (arith, end, written_length c.args.image.now c.requires.fits, c.requires.short)

abbrev digest_size : Bool → ℕ
digest_size digest = if digest then 32 else 0

pub returns : goal.returns
returns c =
    let end : c.end_of-end.result ≡ end_of c.args.image.now.segments = c.end_of-end.ensures ∙ ap end_of c.as_slice.ensures in
    let long = written_length c.args.image.now c.requires.fits in
    elim c.if-image.branch [
      | then-image w ↦ let digest = ap digest_size w.if-image.true in omega (arith, end, long, digest, w.digest-is)
      | else-image w ↦ let digest = ap digest_size w.if-image.false in omega (arith, end, long, digest, w.digest-is)
    ]

pub overflow_add-result-3 : goal.overflow_add-result-3
overflow_add-result-3 c = let sum = returns c in omega (arith, sum, c.requires.short)
