-- The first rule of a recording that fails, found part by part.
use Rattle.std.proofs.Common.{◌≡◌, ℕ, Bool, true, false, cond, Option, Some, None, List, [], ◌∷◌, Ok, Err, map, refl, sym, ap, ◌∙◌, subst}
use Rattle.std.specs.Prelude.{◌==◌, if◌then◌else◌, option_map}
use Rattle.xt_map.specs.declared.access.Entry.{Entry}
use Rattle.xt_trace.specs.declared.options.Options.{Options}
use Rattle.xt_trace.specs.declared.run.Run.{Run}
use Rattle.xt_trace.specs.declared.trace.Trace.{Trace}
use Rattle.xt_image.specs.declared.image.Image.{Image}
use Rattle.xt_core.specs.Runs.{IsRunOf}
use Rattle.xt_record.specs.declared.fault.RecordFault.{RecordFault}
use Rattle.xt_record.specs.declared.fault.RecordFault.TheVariants as fault
use Rattle.xt_record.specs.declared.parts.Parts.{Parts}
use Rattle.xt_record.specs.declared.walk.Walked.{Walked}
use Rattle.xt_record.specs.Checkpoints.{checkpoints_of}
use Rattle.xt_record.specs.Fields as field
use Rattle.xt_record.specs.Fields.{behind_image, checkpoints_in, image_in, options_at, raws_in, version}
use Rattle.xt_record.specs.Format.{Reads, recording_fault, run_in, run_with}
use Rattle.xt_record.specs.Heads.{ReadsParts}
use Rattle.xt_image.specs.Findings.{first, or_else}
use Rattle.xt_record.specs.Rules.{part_rules, Finding}
use Rattle.xt_record.specs.TurnRules.{checkpoint_finding, first_difference, run_rules}
use Rattle.xt_record.specs.Standing.{Walks, turn_rules}
use Rattle.xt_image.proofs.Findings.{first-append, or_nothing}

-- the findings of a run, the turns first
abbrev pub verdict : List ℕ → Image → Run → Finding
verdict bytes image r = or_else (first (turn_rules image r)) (checkpoint_finding (version bytes) (behind_image bytes) image r)

whole : (bytes : List ℕ) → recording_fault bytes ≡ or_else (first (part_rules bytes)) (verdict bytes (image_in bytes) (run_in bytes))
unfolding recording_fault
whole bytes =
    let rest = behind_image bytes in
    let rules = run_rules bytes (image_in bytes) (run_in bytes) in
    first-append (part_rules bytes) rules
    ∙ ap (or_else (first (part_rules bytes)))
    (first-append (turn_rules (image_in bytes) (run_in bytes)) (checkpoint_finding (version bytes) rest (image_in bytes) (run_in bytes) ∷ [])
    ∙ ap (or_else (first (turn_rules (image_in bytes) (run_in bytes)))) (or_nothing (checkpoint_finding (version bytes) rest (image_in bytes) (run_in bytes))))

pub by_parts : (bytes : List ℕ) (finding : Finding) → first (part_rules bytes) ≡ finding
    → recording_fault bytes ≡ or_else finding (verdict bytes (image_in bytes) (run_in bytes))
by_parts bytes finding is = whole bytes ∙ ap (λ (x : Finding). or_else x (verdict bytes (image_in bytes) (run_in bytes))) is

-- the run of the parts is the recording's
pub run_is : (bytes : List ℕ) (image : Image) (o : Options) (es : List Entry) → image ≡ image_in bytes → o ≡ options_at (behind_image bytes) 0
    → es ≡ map field.entry_of (raws_in (behind_image bytes)) → run_with image o es ≡ run_in bytes
run_is bytes image o es is_image is_options is_entries =
    ap (λ (x : Image). run_with x o es) is_image ∙ ap (λ (x : Options). run_with (image_in bytes) x es) is_options
    ∙ ap (run_with (image_in bytes) (options_at (behind_image bytes) 0)) is_entries

pub by_run : (bytes : List ℕ) (image : Image) (o : Options) (es : List Entry) (turns points : Finding) → first (part_rules bytes) ≡ None → image ≡ image_in bytes
    → o ≡ options_at (behind_image bytes) 0 → es ≡ map field.entry_of (raws_in (behind_image bytes))
    → first (turn_rules image (run_with image o es)) ≡ turns → checkpoint_finding (version bytes) (behind_image bytes) image (run_with image o es) ≡ points
    → recording_fault bytes ≡ or_else turns points
by_run bytes image o es turns points none is_image is_options is_entries is_turns is_points =
    let run = run_is bytes image o es is_image is_options is_entries in
    by_parts bytes None none
    ∙ ap (λ (x : Image). verdict bytes x (run_in bytes)) (sym is_image) ∙ ap (verdict bytes image) (sym run)
    ∙ ap (λ (x : Finding). or_else x (checkpoint_finding (version bytes) (behind_image bytes) image (run_with image o es))) is_turns
    ∙ ap (or_else turns) is_points

-- ---- what is read

-- the first place where the checkpoints differ, in version 2
abbrev pub difference : List ℕ → List (List ℕ) → Option ℕ
difference bytes points = if version bytes == 1 then None else first_difference (checkpoints_in (behind_image bytes)) points

points_finding : (bytes : List ℕ) (image : Image) (r : Run) (points : List (List ℕ)) (x : Option ℕ) → points ≡ checkpoints_of image r → x ≡ difference bytes points
    → checkpoint_finding (version bytes) (behind_image bytes) image r ≡ option_map fault.Checkpoint x
points_finding bytes image r points x is e =
    let inside : (b : Bool) (y : Option ℕ) → cond b None (option_map fault.Checkpoint y) ≡ option_map fault.Checkpoint (cond b None y) =
    λ b y. elim b as (λ t. cond t None (option_map fault.Checkpoint y) ≡ option_map fault.Checkpoint (cond t None y)) [ true ↦ refl | false ↦ refl ] in
    inside (version bytes == 1) (first_difference (checkpoints_in (behind_image bytes)) (checkpoints_of image r))
    ∙ ap (λ (l : List (List ℕ)). option_map fault.Checkpoint (difference bytes l)) (sym is)
    ∙ ap (option_map fault.Checkpoint) (sym e)

pub not_parts : (bytes : List ℕ) (e : RecordFault) → ReadsParts (Err e) bytes → Reads (Err e) bytes (recording_fault bytes)
not_parts bytes e h other = by_parts bytes (Some e) (h other)

pub not_turns : (bytes : List ℕ) (parts : Parts) (e : RecordFault) → ReadsParts (Ok parts) bytes → Walks (Err e) parts.image parts.options parts.entries.items
    → Reads (Err e) bytes (recording_fault bytes)
not_turns bytes parts e h walks other =
    let r = run_with parts.image parts.options parts.entries.items in
    by_run bytes parts.image parts.options parts.entries.items (Some e) (checkpoint_finding (version bytes) (behind_image bytes) parts.image r)
    h.good h.image_is h.options_are h.entries_are (walks other) refl

pub not_points : (bytes : List ℕ) (parts : Parts) (walked : Walked) (k : ℕ) → ReadsParts (Ok parts) bytes → Walks (Ok walked) parts.image parts.options parts.entries.items
    → Some k ≡ difference bytes walked.points.items → Reads (Err (fault.Checkpoint k)) bytes (recording_fault bytes)
not_points bytes parts walked k h walks differs other =
    let r = run_with parts.image parts.options parts.entries.items in
    by_run bytes parts.image parts.options parts.entries.items None (Some (fault.Checkpoint k))
    h.good h.image_is h.options_are h.entries_are walks.good (points_finding bytes parts.image r walked.points.items (Some k) walks.points_are differs)

run_made : (r run : Run) (trace0 trace1 : Trace) → trace0 ≡ r.trace0 → trace1 ≡ r.trace1
    → ◌≡◌ {A = Run} run (record { options = r.options; history = r.history; trace0 = trace0; trace1 = trace1 }) → run ≡ r
run_made r run trace0 trace1 is0 is1 is =
    let made : Trace → Trace → Run = λ s t. record { options = r.options; history = r.history; trace0 = s; trace1 = t } in
    is ∙ ap (λ (s : Trace). made s trace1) is0 ∙ ap (made r.trace0) is1

pub is_read : (bytes : List ℕ) (parts : Parts) (walked : Walked) (run : Run) → ReadsParts (Ok parts) bytes → Walks (Ok walked) parts.image parts.options parts.entries.items
    → None ≡ difference bytes walked.points.items
    → ◌≡◌ {A = Run} run (record { options = parts.options; history = parts.entries.items; trace0 = walked.trace0; trace1 = walked.trace1 })
    → Reads (Ok (parts.image, run)) bytes (recording_fault bytes)
is_read bytes parts walked run h walks same is =
    let r = run_with parts.image parts.options parts.entries.items in (
      by_run bytes parts.image parts.options parts.entries.items None None h.good h.image_is h.options_are h.entries_are walks.good
          (points_finding bytes parts.image r walked.points.items None walks.points_are same),
      h.image_is,
      run_made r run walked.trace0 walked.trace1 walks.trace0_is walks.trace1_is is
          ∙ run_is bytes parts.image parts.options parts.entries.items h.image_is h.options_are h.entries_are,
    )

pub is_run : (parts : Parts) (walked : Walked) (run : Run) → Walks (Ok walked) parts.image parts.options parts.entries.items
    → ◌≡◌ {A = Run} run (record { options = parts.options; history = parts.entries.items; trace0 = walked.trace0; trace1 = walked.trace1 })
    → IsRunOf parts.image run
is_run parts walked run walks is =
    let r = run_with parts.image parts.options parts.entries.items in
    subst (IsRunOf parts.image) (sym (run_made r run walked.trace0 walked.trace1 walks.trace0_is walks.trace1_is is)) walks.run_is
