-- The image that a file without a fault holds (esptool's image format).
use Rattle.std.specs.Prelude.{ℕ, List, take, drop, slice_index, Result, Ok, Err, Some, None, ◌≡◌}
use Rattle.std.specs.Prelude.{◌≢◌}
use Rattle.xt_image.specs.Layout.{half_at, segments_in, word_at}
use Rattle.xt_image.specs.Rules.{Finding, has_digest}
use Rattle.xt_image.specs.declared.image.Head.{Head}
use Rattle.xt_image.specs.declared.image.Image.{Image}
use Rattle.xt_image.specs.declared.fault.ImageFault.{ImageFault}
use Rattle.xt_image.specs.declared.fault.ImageFault.TheVariants.{Memory}

abbrev pub head_of : List ℕ → Head
head_of bytes = record {
  mode = slice_index bytes 2;
  size_freq = slice_index bytes 3;
  wp_pin = slice_index bytes 8;
  drive = take 3 (drop 9 bytes);
  min_rev_old = slice_index bytes 14;
  min_rev = half_at bytes 15;
  max_rev = half_at bytes 17;
  reserved = take 4 (drop 19 bytes);
}

abbrev pub image_of : List ℕ → Image
image_of bytes = record {
  head = head_of bytes;
  entry = word_at bytes 4;
  digest = has_digest bytes;
  segments = segments_in bytes;
}

-- the image where no rule fails, else the first fault, unless memory ran out
abbrev pub Reads : Result Image ImageFault → List ℕ → Finding → Type 0
Reads (Ok image) bytes fault = (fault ≡ None) × (image ≡ image_of bytes)
Reads (Err e) bytes fault = e ≢ Memory → fault ≡ Some e
