use Rattle.std.proofs.Common.{◌≡◌, List, ℕ, Ok, IfOk, ap, ◌∙◌, subst}
use Rattle.std.proofs.lemmas.Result.{IfOk-weaker}
use Rattle.xt_image.specs.ImageParts.{image_bytes}
use Rattle.xt_record.specs.Checkpoints.{checkpoints_of}
use Rattle.xt_record.specs.Format.{Reads, recording_fault}
use Rattle.xt_record.specs.Joined.{joined_parts}
use Rattle.xt_record.specs.Written.{recording_bytes}
use Rattle.xt_record.proofs.Settled.{reads_again}
use Rattle.xt_record.proofs.writing.write_recording.Goals as goal

pub returns : goal.returns
unfolding recording_bytes
returns c =
    let image = c.args.image.now in
    let r = c.args.run.now in
    let file : c.as_slice.result.now ≡ image_bytes image = c.as_slice.ensures ∙ c.in_ok-file.ensures.bytes in
    let points : c.as_slice-2.result.now ≡ checkpoints_of image r = c.as_slice-2.ensures.value ∙ c.in_ok-points.ensures.points in
    let same : joined_parts c.as_slice.result.now r c.as_slice-2.result.now ≡ recording_bytes image r =
    ap (λ (l : List ℕ). joined_parts l r c.as_slice-2.result.now) file ∙ ap (joined_parts (image_bytes image) r) points in
    let P : List ℕ → Type 0 = λ l. IfOk c.joined.result (λ b. b ≡ l) in
    let bytes : P (recording_bytes image r) = subst P same c.joined.ensures in
    record {
      bytes = bytes;
      again = λ fits. IfOk-weaker c.joined.result (λ b. b ≡ recording_bytes image r) (λ b. Reads (Ok (image, r)) b (recording_fault b))
          (λ b is. reads_again image r b c.requires.image c.requires.run fits is) bytes;
    }
