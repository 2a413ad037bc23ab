-- The constant bytes of an image are bytes.
use Rattle.std.proofs.Common.{ℕ, ◌-◌, ◌<◌, ◌^◌, zero, suc, Bool, true, false, cond, Option, Some, List, [], ◌∷◌, arith}
use Rattle.std.specs.Prelude.{find, slice_index}
use Rattle.std.specs.List.{AllByRecursion}
use Rattle.std.specs.Option.{option_map_or}
use Rattle.std.proofs.lemmas.List.Elements.{recursion_from_All}
use Rattle.xt_map.specs.declared.segment.Segment.{Segment}
use Rattle.xt_map.specs.Memory.{HasSizes, constant_byte, holds_address, loaded_byte}
use Rattle.xt_map.specs.Regions.{is_constant, region_of}
use Rattle.xt_map.proofs.Stored.{opening_has_sizes}
use Rattle.xt_trace.specs.declared.options.Options.{Options}
use Rattle.xt_core.specs.Runs.{memory_of, stack_words}
use Rattle.xt_map.specs.Code.{AreBytes}
use Rattle.xt_image.specs.declared.image.Image.{Image}
use Rattle.xt_image.specs.ImageParts.{FitsImage, FitsSegment}

bytes_small : (bytes : List ℕ) → AllByRecursion (λ b. b < 256) bytes → (k : ℕ) → slice_index bytes k < 256
bytes_small [] all k = omega arith
bytes_small (b ∷ bytes) all zero = all.0
bytes_small (b ∷ bytes) all (suc k) = bytes_small bytes all.1 k

small_if : (b : Bool) (s : Segment) (o : Option Segment) (f : Segment → ℕ) → f s < 2 ^ 8 → option_map_or f o 0 < 2 ^ 8 → option_map_or f (cond b (Some s) o) 0 < 2 ^ 8
small_if true s o f p q = p
small_if false s o f p q = q

small_byte : (segments : List Segment) (a : ℕ) → AllByRecursion FitsSegment segments → loaded_byte segments a < 2 ^ 8
small_byte [] a h = omega arith
small_byte (s ∷ rest) a h =
    small_if (holds_address a s) s (find (holds_address a) rest) (λ (s : Segment). slice_index s.bytes (a - s.addr))
    (bytes_small s.bytes (recursion_from_All (λ b. b < 256) s.bytes (h.0).bytes) (a - s.addr)) (small_byte rest a h.1)

by_kind : (b : Bool) (n : ℕ) → n < 2 ^ 8 → cond b n 0 < 2 ^ 8
by_kind true n h = h
by_kind false n h = omega arith

pub code_bytes : (image : Image) → FitsImage image → AreBytes (constant_byte image.segments)
unfolding constant_byte
code_bytes image h a = by_kind (is_constant (region_of a)) (loaded_byte image.segments a) (small_byte image.segments a (recursion_from_All FitsSegment image.segments h.segments))

pub memory_sizes : (image : Image) (o : Options) → HasSizes (memory_of image o)
memory_sizes image o = opening_has_sizes image.segments (stack_words o)
