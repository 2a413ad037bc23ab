-- A well-formed image, said without its file.
use Rattle.std.proofs.Common.{◌≡◌, ℕ, ◌+◌, ◌%◌, ◌≤◌, List, [], ◌∷◌, None, Bool, true, false, ◌↔◌, length, get_or, refl, ap, ap₂, ◌∙◌, arith, add-zero}
use Rattle.std.specs.List.{position}
use Rattle.std.specs.Prelude.{not, nat_lt, ◌==◌, if◌then◌else◌, option_map, replicate}
use Rattle.std.proofs.lemmas.List.{length-replicate}
use Rattle.sha2.specs.Sha256.{sha256}
use Rattle.sha2.proofs.Facts256.{length-sha256}
use Rattle.xt_map.specs.declared.segment.Segment.{Segment}
use Rattle.xt_map.specs.Placing.{do_overlap, is_well_placed}
use Rattle.xt_image.specs.declared.fault.ImageFault.{ImageFault}
use Rattle.xt_image.specs.declared.fault.ImageFault.TheVariants.{SegmentEnd, SegmentLength, SegmentOverlap, SegmentPlace}
use Rattle.xt_image.specs.declared.image.Image.{Image}
use Rattle.xt_image.specs.Layout.{checksum_place}
use Rattle.xt_image.specs.Findings.{fails, first}
use Rattle.xt_image.specs.Rules.{Finding, first_overlap, is_misplaced, is_uneven}
use Rattle.xt_image.specs.ImageParts.{FitsImage, IsWellFormed, MeetsRules, digest_bytes, gap_length, image_bytes, summed_bytes}
use Rattle.xt_image.proofs.Findings.{no_place, none_found, none_passes}
use Rattle.xt_image.proofs.Overlapping.{no_pair_in}
use Rattle.xt_image.proofs.Accepted.{Meets, file_length, summed_length}
use Rattle.xt_image.proofs.Passing.{is_not_false, not_below, same, segments_passed}
use Rattle.xt_image.proofs.Placement.{placed_of, well_formed_meets}
use Rattle.xt_image.proofs.Standing.{written_passes}

-- ---- where nothing fails, nothing is found

abbrev no_segment : Segment
no_segment = record { addr = 0; bytes = [] }

four_pass : (a : Bool) (f : ImageFault) (x y z : Finding) → a ≡ false → x ≡ None → y ≡ None → z ≡ None → first (fails a f ∷ x ∷ y ∷ z ∷ []) ≡ None
four_pass a f x y z p q r s = rw (p, q, r, s) refl

-- ---- in both directions

even : (s : Segment) → length s.bytes % 4 ≡ 0 → is_uneven s ≡ false
even s h = ap (λ n. not (n == 0)) h

meets_of_rules : (i : Image) → MeetsRules i → Meets i
meets_of_rules i m =
    let ss = i.segments in
    record {
      some = m.some;
      few = m.few;
      segments = four_pass (nat_lt (length ss) (length ss)) (SegmentEnd (length ss)) (option_map SegmentLength (position is_uneven ss)) (option_map SegmentPlace (position is_misplaced ss)) (first_overlap [] ss)
          (not_below (length ss) (length ss) (omega arith))
          (ap (option_map SegmentLength) (none_found no_segment is_uneven ss (λ k d lt. even (get_or ss k d) (m.whole_words k d lt))))
          (ap (option_map SegmentPlace) (none_found no_segment is_misplaced ss (λ k d lt. is_not_false (is_well_placed (get_or ss k d)) (m.placed.placed k d lt))))
          (no_pair_in do_overlap SegmentOverlap ss m.placed.apart);
      entry = m.entry;
    }

rules_of_meets : (i : Image) → Meets i → MeetsRules i
rules_of_meets i m =
    let four = segments_passed (length i.segments) i.segments m.segments in
    record {
      some = m.some;
      few = m.few;
      whole_words = λ k d lt. same (length (get_or i.segments k d).bytes % 4) 0 (none_passes is_uneven i.segments (no_place SegmentLength _ four.two) k d lt);
      placed = placed_of (length i.segments) i.segments m.segments;
      entry = m.entry;
    }

pub by_rules : (i : Image) → IsWellFormed i ↔ (FitsImage i × (MeetsRules i × (length (image_bytes i) ≤ 8388608)))
by_rules i = (
  λ w. (w.fits, (rules_of_meets i (well_formed_meets i w), w.short)),
  λ h. record { fits = h.0; few = h.1.0.few; no_fault = written_passes i h.0 (meets_of_rules i h.1.0); short = h.1.1 },
)

-- ---- the length of the file

digest_of : (d : Bool) (x : List ℕ) → length (if d then sha256 x else []) ≡ (if d then 32 else 0)
digest_of true x = length-sha256 x
digest_of false x = refl

pub written_length : (i : Image) → FitsImage i → length (image_bytes i) ≡ (checksum_place i.segments + 1) + (if i.digest then 32 else 0)
unfolding image_bytes
written_length i fits =
    let zeros : List ℕ = replicate (gap_length i) 0 in
    let len : length zeros ≡ gap_length i = length-replicate (gap_length i) 0 in
    let d : length (digest_bytes i zeros) ≡ (if i.digest then 32 else 0) = digest_of i.digest (summed_bytes i zeros) in
    file_length i zeros [] ∙ ap₂ (λ a b. a + (b + 0)) (summed_length i zeros fits len) d ∙ ap (λ n. (checksum_place i.segments + 1) + n) (add-zero (if i.digest then 32 else 0))
