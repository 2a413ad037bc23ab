-- The rules of the parts of a recording (this project's own format, 'profile'), in their order,
-- each by itself: what is wrong by this rule, or nothing.
--
-- Note: `is_valid` repeats `IsValid` of `xt_trace` as a test; a lemma ties them. The word after
-- LCOUNT in a checkpoint is BR.
use Rattle.std.specs.Prelude.{ℕ, suc, ◌+◌, ◌%◌, Bool, true, ◌==◌, ◌&&◌, ◌||◌, not, nat_le, nat_lt}
use Rattle.std.specs.Prelude.{if◌then◌else◌, List, [], ◌∷◌, ◌++◌, length, take, Option, Some, None}
use Rattle.std.specs.Prelude.{option_map}
use Rattle.std.specs.Str.{bytes_eq}
use Rattle.xt_map.specs.declared.access.Kind.{Kind}
use Rattle.xt_map.specs.declared.access.Kind.TheVariants.{Load, Store, Cas}
use Rattle.xt_map.specs.Regions.{is_executable, is_mapped, region_of}
use Rattle.xt_trace.specs.declared.options.Options.{Options}
use Rattle.xt_trace.specs.declared.options.Stack.{Stack}
use Rattle.xt_trace.specs.Validity.{most_turns}
use Rattle.xt_image.specs.Findings.{fails}
use Rattle.xt_image.specs.Rules.{image_fault}
use Rattle.xt_record.specs.declared.fault.RecordFault.{RecordFault}
use Rattle.xt_record.specs.declared.fault.RecordFault.TheVariants as fault
use Rattle.xt_record.specs.declared.raw.RawEntry.{RawEntry}
use Rattle.xt_record.specs.Fields.{access_of, behind_image, image_length, image_part, length_behind}
use Rattle.xt_record.specs.Fields.{magic, options_at, raws_in, version}

abbrev pub Finding : Type 0
Finding = Option RecordFault

-- ---- the head, and how long the parts are

-- neither version 1 nor version 2
abbrev pub is_unknown : ℕ → Bool
is_unknown v = not (v == 1 || v == 2)

-- What follows the image is shorter, or longer, than its counts ask for. A count that is itself cut
-- off asks for no less than what stands before it.
abbrev pub length_rules : ℕ → List ℕ → List Finding
length_rules v rest =
    fails (nat_lt (length rest) (length_behind v rest)) fault.Short
    ∷ fails (nat_lt (length_behind v rest) (length rest)) fault.Trailing ∷ []

abbrev pub head_rules : List ℕ → List Finding
head_rules bytes =
    fails (nat_lt (length bytes) 12) fault.Short
    ∷ fails (not (bytes_eq (take 4 bytes) magic)) fault.Magic
    ∷ fails (is_unknown (version bytes)) (fault.Version (version bytes))
    ∷ fails (nat_lt 8388608 (image_length bytes)) fault.Short
    ∷ length_rules (version bytes) (behind_image bytes)

-- ---- the image and the options

abbrev pub image_finding : List ℕ → Finding
image_finding bytes = option_map fault.Image (image_fault (image_part bytes))

-- as a test: a range of at least 256 bytes in the internal data memory, whose
-- ends are multiples of 16
abbrev pub is_valid_stack : Stack → Bool
is_valid_stack s =
    nat_le 0x3FFAE000 s.lo
    && (nat_le s.hi 0x40000000 && (s.lo % 16 == 0 && (s.hi % 16 == 0 && nat_le (s.lo + 256) s.hi)))

-- as a test: options that a run accepts
abbrev pub is_valid : Options → Bool
is_valid o =
    nat_le o.turns0 most_turns && (nat_le o.turns1 most_turns && (is_executable (region_of o.entry1)
    && (o.vecbase % 1024 == 0 && (is_valid_stack o.stack0 && is_valid_stack o.stack1))))

-- version 1 was for runs of at most 1,000,000 turns a core
abbrev pub is_too_long : ℕ → Options → Bool
is_too_long v o = v == 1 && (nat_lt 1000000 o.turns0 || nat_lt 1000000 o.turns1)

abbrev pub options_finding : ℕ → Options → Finding
options_finding v o = fails (not (is_valid o) || is_too_long v o) fault.Options

-- ---- the entries, each by itself

-- the operands that this kind does not use are 0
abbrev pub keeps_zeros : Kind → RawEntry → Bool
keeps_zeros Load e = e.a == 0 && e.b == 0
keeps_zeros (Store v) e = e.b == 0
keeps_zeros (Cas expected new) e = true

-- An access that is mapped has a size of 1, 2 or 4, and of 4 for a compare-and-swap.
abbrev pub is_entry : RawEntry → Bool
is_entry e =
    nat_lt e.core 2
    && (nat_lt e.kind 3
    && (e.zero == 0 && (keeps_zeros (access_of e).kind e && is_mapped (access_of e))))

-- the first that is none, from the entry of this number on
abbrev pub shape_finding : ℕ → List RawEntry → Finding
shape_finding i [] = None
shape_finding i (e ∷ rest) = if is_entry e then shape_finding (suc i) rest else Some (fault.Entry i)

-- ---- all of them

-- the rules of the parts, in their order; those of the turns and of the checkpoints follow
abbrev pub part_rules : List ℕ → List Finding
part_rules bytes =
    let rest = behind_image bytes in
    head_rules bytes ++ image_finding bytes ∷ options_finding (version bytes) (options_at rest 0)
    ∷ shape_finding 0 (raws_in rest) ∷ []
