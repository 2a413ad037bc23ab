-- Carries a proof; nothing that a reader must believe.
-- What is known of a recording whose parts have their lengths.
use Rattle.std.specs.Prelude.{◌≡◌, ◌≢◌, ℕ, ◌+◌, ◌<◌, ◌≤◌, All, List, length, map, option_map}
use Rattle.std.specs.Prelude.{Result, Ok, Err, Some, None, Vec}
use Rattle.std.specs.declared.alloc.Global.{Global}
use Rattle.xt_map.specs.declared.access.Entry.{Entry}
use Rattle.xt_map.specs.Placing.{IsPlaced}
use Rattle.xt_trace.specs.Validity.{IsValid}
use Rattle.xt_image.specs.declared.image.Image.{Image}
use Rattle.xt_image.specs.Format.{image_of}
use Rattle.xt_image.specs.ImageParts.{IsWellFormed}
use Rattle.xt_image.specs.Rules.{image_fault}
use Rattle.xt_record.specs.declared.fault.RecordFault.{RecordFault}
use Rattle.xt_record.specs.declared.fault.RecordFault.TheVariants as fault
use Rattle.xt_record.specs.declared.parts.Parts.{Parts}
use Rattle.xt_record.specs.Fields.{behind_image, entry_of, image_in, image_length, length_behind}
use Rattle.xt_record.specs.Fields.{options_at, raws_in, version}
use Rattle.xt_image.specs.Findings.{first}
use Rattle.xt_record.specs.Rules.{part_rules, shape_finding}

pub record HasParts (bytes : List ℕ) : Type 0 where
  pub long : 12 + image_length bytes ≤ length bytes
  pub image : image_length bytes ≤ 8388608
  pub behind : length (behind_image bytes) ≡ length_behind (version bytes) (behind_image bytes)

-- the entries where each is one, else the first that is none, unless memory ran out
abbrev pub HasRead : Result (Vec Entry Global) RecordFault → List ℕ → Type 0
HasRead (Ok entries) rest =
    (shape_finding 0 (raws_in rest) ≡ None) × (entries.items ≡ map entry_of (raws_in rest))
    × All (λ (e : Entry). e.core < 2) entries.items
HasRead (Err e) rest = e ≢ fault.Memory → shape_finding 0 (raws_in rest) ≡ Some e

-- the image, else its fault, unless memory ran out
abbrev pub HasImage : Result Image RecordFault → List ℕ → Type 0
HasImage (Ok image) bytes =
    (image_fault bytes ≡ None) × (image ≡ image_of bytes) × IsWellFormed image
    × IsPlaced image.segments
HasImage (Err e) bytes = e ≢ fault.Memory → option_map fault.Image (image_fault bytes) ≡ Some e

-- the parts, where each is good by itself
pub record IsParts (parts : Parts) (bytes : List ℕ) : Type 0 where
  pub good : first (part_rules bytes) ≡ None
  pub has_parts : HasParts bytes
  pub image_is : parts.image ≡ image_in bytes
  pub well_formed : IsWellFormed parts.image
  pub placed : IsPlaced parts.image.segments
  pub options_are : parts.options ≡ options_at (behind_image bytes) 0
  pub valid : IsValid parts.options
  pub entries_are : parts.entries.items ≡ map entry_of (raws_in (behind_image bytes))
  pub cores : All (λ (e : Entry). e.core < 2) parts.entries.items

abbrev pub ReadsParts : Result Parts RecordFault → List ℕ → Type 0
ReadsParts (Ok parts) bytes = IsParts parts bytes
ReadsParts (Err e) bytes = e ≢ fault.Memory → first (part_rules bytes) ≡ Some e
