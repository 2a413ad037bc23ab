-- The parts of a recording, rule by rule.
use Rattle.std.proofs.Common.{◌≡◌, ℕ, ◌+◌, ◌<◌, All, Some, None, List, [], ◌∷◌, map, take, drop, refl, sym, ap, ◌∙◌}
use Rattle.std.proofs.lemmas.List.{drop-take}
use Rattle.std.specs.Prelude.{option_map}
use Rattle.xt_map.specs.declared.access.Entry.{Entry}
use Rattle.xt_map.specs.Placing.{IsPlaced}
use Rattle.xt_trace.specs.Validity.{IsValid}
use Rattle.xt_image.specs.Format.{image_of}
use Rattle.xt_image.specs.ImageParts.{IsWellFormed}
use Rattle.xt_image.specs.Rules.{image_fault}
use Rattle.xt_record.specs.declared.fault.RecordFault.{RecordFault}
use Rattle.xt_record.specs.declared.fault.RecordFault.TheVariants as fault
use Rattle.xt_record.specs.declared.parts.Parts.{Parts}
use Rattle.xt_record.specs.Fields.{behind_image, entry_of, image_length, image_part, options_at, raws_in, version}
use Rattle.xt_record.specs.Heads.{HasParts, IsParts}
use Rattle.xt_image.specs.Findings.{first, or_else}
use Rattle.xt_record.specs.Rules.{Finding, head_rules, image_finding, options_finding, part_rules, shape_finding}
use Rattle.xt_image.proofs.Findings.{first-append}

by_findings : (bytes : List ℕ) (h i o s : Finding) → first (head_rules bytes) ≡ h → image_finding bytes ≡ i
    → options_finding (version bytes) (options_at (behind_image bytes) 0) ≡ o → shape_finding 0 (raws_in (behind_image bytes)) ≡ s
    → first (part_rules bytes) ≡ or_else h (or_else i (or_else o (or_else s None)))
by_findings bytes h i o s is_head is_image is_options is_shape =
    let rest = behind_image bytes in
    let options = options_finding (version bytes) (options_at rest 0) in
    let shape = shape_finding 0 (raws_in rest) in
    first-append (head_rules bytes) (image_finding bytes ∷ options ∷ shape ∷ [])
    ∙ ap (λ (x : Finding). or_else x (or_else (image_finding bytes) (or_else options (or_else shape None)))) is_head
    ∙ ap (λ (x : Finding). or_else h (or_else x (or_else options (or_else shape None)))) is_image
    ∙ ap (λ (x : Finding). or_else h (or_else i (or_else x (or_else shape None)))) is_options
    ∙ ap (λ (x : Finding). or_else h (or_else i (or_else o (or_else x None)))) is_shape

pub not_head : (bytes : List ℕ) (f : RecordFault) → Some f ≡ first (head_rules bytes) → first (part_rules bytes) ≡ Some f
not_head bytes f is = by_findings bytes (Some f) _ _ _ (sym is) refl refl refl

-- the bytes of the image
pub file_is : (bytes file : List ℕ) → file ≡ drop 12 (take (12 + image_length bytes) bytes) → file ≡ image_part bytes
file_is bytes file is = is ∙ drop-take 12 (image_length bytes) bytes

pub not_image : (bytes file : List ℕ) (f : RecordFault) → None ≡ first (head_rules bytes) → file ≡ image_part bytes
    → option_map fault.Image (image_fault file) ≡ Some f → first (part_rules bytes) ≡ Some f
not_image bytes file f head is bad =
    by_findings bytes None (Some f) _ _ (sym head) (ap (λ (l : List ℕ). option_map fault.Image (image_fault l)) (sym is) ∙ bad) refl refl

no_image_fault : (bytes file : List ℕ) → file ≡ image_part bytes → image_fault file ≡ None → image_finding bytes ≡ None
no_image_fault bytes file is good =
    ap (λ (l : List ℕ). option_map fault.Image (image_fault l)) (sym is) ∙ ap (option_map fault.Image) good

pub not_options : (bytes file : List ℕ) (f : RecordFault) → None ≡ first (head_rules bytes) → file ≡ image_part bytes → image_fault file ≡ None
    → Some f ≡ options_finding (version bytes) (options_at (behind_image bytes) 0) → first (part_rules bytes) ≡ Some f
not_options bytes file f head is good bad =
    by_findings bytes None None (Some f) _ (sym head) (no_image_fault bytes file is good) (sym bad) refl

pub not_entries : (bytes file : List ℕ) (f : RecordFault) → None ≡ first (head_rules bytes) → file ≡ image_part bytes → image_fault file ≡ None
    → None ≡ options_finding (version bytes) (options_at (behind_image bytes) 0) → shape_finding 0 (raws_in (behind_image bytes)) ≡ Some f
    → first (part_rules bytes) ≡ Some f
not_entries bytes file f head is good options bad =
    by_findings bytes None None None (Some f) (sym head) (no_image_fault bytes file is good) (sym options) bad

pub are_parts : (bytes file : List ℕ) (parts : Parts) → None ≡ first (head_rules bytes) → HasParts bytes → file ≡ image_part bytes
    → (image_fault file ≡ None) × (parts.image ≡ image_of file) × IsWellFormed parts.image × IsPlaced parts.image.segments
    → parts.options ≡ options_at (behind_image bytes) 0 → None ≡ options_finding (version bytes) parts.options → IsValid parts.options
    → (shape_finding 0 (raws_in (behind_image bytes)) ≡ None) × (parts.entries.items ≡ map entry_of (raws_in (behind_image bytes)))
    × All (λ (e : Entry). e.core < 2) parts.entries.items
    → IsParts parts bytes
are_parts bytes file parts head has is image options good valid entries = record {
  good = by_findings bytes None None None None (sym head) (no_image_fault bytes file is image.0)
      (ap (options_finding (version bytes)) (sym options) ∙ sym good) entries.0;
  has_parts = has;
  image_is = image.1 ∙ ap image_of is;
  well_formed = image.2;
  placed = image.3;
  options_are = options;
  valid = valid;
  entries_are = entries.1;
  cores = entries.2;
}
