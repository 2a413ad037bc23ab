-- A recording as it is written: its parts joined (this project's own format,
-- 'profile'; little-endian).
use Rattle.std.specs.Prelude.{ℕ, List, [], ◌∷◌, ◌++◌, length}
use Rattle.std.specs.List.{concat, flat_map}
use Rattle.xt_trace.specs.declared.run.Run.{Run}
use Rattle.xt_image.specs.declared.image.Image.{Image}
use Rattle.xt_image.specs.ImageParts.{image_bytes}
use Rattle.xt_record.specs.Checkpoints.{checkpoints_of}
use Rattle.xt_record.specs.Fields.{magic, words}
use Rattle.xt_record.specs.RecordingParts.{entry_bytes, options_bytes}

-- version 2: the head, the image, the options, the entries, and the checkpoints
unfoldable pub recording_bytes : Image → Run → List ℕ
recording_bytes image r =
    magic
    ++ words (2 ∷ length (image_bytes image) ∷ [])
    ++ image_bytes image
    ++ options_bytes r.options
    ++ words (length r.history ∷ [])
    ++ flat_map entry_bytes r.history
    ++ words (length (checkpoints_of image r) ∷ [])
    ++ concat (checkpoints_of image r)
