-- Segments that no rule refuses lie in one region each, and no two share a byte.
use Rattle.std.proofs.Common.{◌≡◌, ℕ, List, [], None, length, get_or, subst, arith}
use Rattle.xt_map.specs.declared.segment.Segment.{Segment}
use Rattle.xt_map.specs.Placing.{IsPlaced, do_overlap, is_well_placed}
use Rattle.xt_image.specs.declared.image.Image.{Image}
use Rattle.xt_image.specs.declared.fault.ImageFault.TheVariants.{SegmentOverlap, SegmentPlace}
use Rattle.xt_image.specs.Findings.{first}
use Rattle.xt_image.specs.Rules.{image_fault, is_misplaced, segment_rules}
use Rattle.xt_image.specs.Layout.{segments_in}
use Rattle.xt_image.specs.ImageParts.{IsWellFormed, image_bytes}
use Rattle.xt_image.proofs.Findings.{no_place, none_passes}
use Rattle.xt_image.proofs.Overlapping.{none_meet}
use Rattle.xt_image.proofs.Accepted.{Meets}
use Rattle.xt_image.proofs.Standing.{meets}
use Rattle.xt_image.proofs.Passing.{segments_passed, not_false}
use Rattle.xt_image.proofs.Written.{file_again}

pub placed_of : (count : ℕ) (segments : List Segment) → first (segment_rules count segments) ≡ None → IsPlaced segments
placed_of count segments h =
    let four = segments_passed count segments h in
    record {
      placed = λ k d lt. not_false (is_well_placed (get_or segments k d)) (none_passes is_misplaced segments (no_place SegmentPlace _ four.three) k d lt);
      apart = λ i j d lt within. none_meet do_overlap SegmentOverlap [] segments four.four i j d lt (omega arith) within;
    }

pub well_formed_meets : (i : Image) → IsWellFormed i → Meets i
unfolding image_bytes
well_formed_meets i w =
    let P : Image → Type 0 = Meets in
    subst P (file_again i _ [] w.fits) (meets (image_bytes i) w.no_fault)

pub well_formed_placed : (i : Image) → IsWellFormed i → IsPlaced i.segments
well_formed_placed i w = placed_of (length i.segments) i.segments (well_formed_meets i w).segments

pub accepted_placed : (bytes : List ℕ) → image_fault bytes ≡ None → IsPlaced (segments_in bytes)
accepted_placed bytes none = placed_of (length (segments_in bytes)) (segments_in bytes) (meets bytes none).segments
