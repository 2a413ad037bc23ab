-- The first finding, where it is known in which part of the rules it stands.
use Rattle.std.proofs.Common.{◌≡◌, ℕ, ◌+◌, ◌-◌, ◌%◌, ◌≤◌, List, ◌++◌, Some, None, length, drop, slice_index, sym, ap, ap₂, ◌∙◌, arith, length-append, length-drop}
use Rattle.std.specs.List.{flat_map}
use Rattle.xt_map.specs.declared.segment.Segment.{Segment}
use Rattle.xt_image.specs.declared.fault.ImageFault.{ImageFault}
use Rattle.xt_image.specs.Layout.{checksum_place, end_of, segment_bytes, segments_in}
use Rattle.xt_image.specs.Findings.{first}
use Rattle.xt_image.specs.Rules.{Finding, head_rules, segment_rules, end_rules, checksum, image_fault}
use Rattle.xt_image.proofs.Findings.{in_first, not_in_first}

abbrev later_rules : List ℕ → List Segment → List Finding
later_rules bytes ss = end_rules bytes (checksum_place ss) (checksum ss)

pub at_head : (bytes : List ℕ) (f : ImageFault) → Some f ≡ first (head_rules bytes) → image_fault bytes ≡ Some f
unfolding image_fault
at_head bytes f h = in_first (head_rules bytes) (segment_rules (slice_index bytes 1) (segments_in bytes) ++ later_rules bytes (segments_in bytes)) f h

behind_head : (bytes : List ℕ) → None ≡ first (head_rules bytes)
    → image_fault bytes ≡ first (segment_rules (slice_index bytes 1) (segments_in bytes) ++ end_rules bytes (checksum_place (segments_in bytes)) (checksum (segments_in bytes)))
unfolding image_fault
behind_head bytes h = not_in_first (head_rules bytes) (segment_rules (slice_index bytes 1) (segments_in bytes) ++ later_rules bytes (segments_in bytes)) h

pub at_segments : (bytes : List ℕ) (ss : List Segment) (f : ImageFault) → None ≡ first (head_rules bytes) → ss ≡ segments_in bytes
    → Some f ≡ first (segment_rules (slice_index bytes 1) ss) → image_fault bytes ≡ Some f
at_segments bytes ss f head same h =
    behind_head bytes head ∙ in_first (segment_rules (slice_index bytes 1) (segments_in bytes)) (later_rules bytes (segments_in bytes)) f (h ∙ ap (λ ss. first (segment_rules (slice_index bytes 1) ss)) same)

behind_segments : (bytes : List ℕ) (ss : List Segment) (place sum : ℕ) → None ≡ first (head_rules bytes) → ss ≡ segments_in bytes
    → None ≡ first (segment_rules (slice_index bytes 1) ss) → place ≡ checksum_place ss → sum ≡ checksum ss
    → image_fault bytes ≡ first (end_rules bytes place sum)
behind_segments bytes ss place sum head same none at is =
    behind_head bytes head ∙ not_in_first (segment_rules (slice_index bytes 1) (segments_in bytes)) (later_rules bytes (segments_in bytes)) (none ∙ ap (λ ss. first (segment_rules (slice_index bytes 1) ss)) same)
    ∙ ap₂ (λ p s. first (end_rules bytes p s)) (sym (at ∙ ap checksum_place same)) (sym (is ∙ ap checksum same))

pub at_end : (bytes : List ℕ) (ss : List Segment) (place sum : ℕ) (x : Finding) → None ≡ first (head_rules bytes) → ss ≡ segments_in bytes
    → None ≡ first (segment_rules (slice_index bytes 1) ss) → place ≡ checksum_place ss → sum ≡ checksum ss
    → x ≡ first (end_rules bytes place sum) → image_fault bytes ≡ x
at_end bytes ss place sum x head same none at is h = behind_segments bytes ss place sum head same none at is ∙ sym h

pub place_is : (bytes rest : List ℕ) (ss : List Segment) (end : ℕ) → 24 ≤ length bytes → drop 24 bytes ≡ flat_map segment_bytes ss ++ rest
    → end ≡ length bytes - length rest → end + (15 - end % 16) ≡ checksum_place ss
place_is bytes rest ss end long joined is =
    let e : end ≡ end_of ss = omega (arith, length-append (flat_map segment_bytes ss) rest, ap length joined, length-drop 24 bytes) in
    ap (λ n. n + (15 - n % 16)) e
