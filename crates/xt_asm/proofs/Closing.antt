-- The entry of lines that have no fault, and the fault of a text from those of its passes.
use Rattle.std.proofs.Common.{◌≡◌, ℕ, ℤ, pos, Bool, true, false, not, ◌&&◌, ◌||◌, List, [], ◌∷◌, ◌++◌, Option, Some, None, Result, Ok, Err, refl, sym, ap, ◌∙◌, subst, suc, length}
use Rattle.std.specs.Prelude.{is_none, is_some, map}
use Rattle.std.specs.Option.{option_map_or}
use Rattle.std.proofs.lemmas.List.{length-map}
use Rattle.xt_lex.specs.declared.fault.AsmPlace.{AsmPlace}
use Rattle.xt_lex.specs.declared.fault.AsmFault.{AsmFault}
use Rattle.xt_lex.specs.declared.fault.AsmFault.TheVariants as fault
use Rattle.xt_lex.specs.Tokens.{tokens_of}
use Rattle.xt_image.specs.declared.image.Image.{Image}
use Rattle.xt_lex.specs.declared.labels.Label.{Label}
use Rattle.xt_lex.specs.Values.{value_of}
use Rattle.xt_parse.specs.declared.line.Line.{Line}
use Rattle.xt_parse.specs.declared.statement.Statement.{Statement}
use Rattle.xt_parse.specs.declared.statement.Statement.TheVariants as statement
use Rattle.xt_parse.specs.Lines.{Parses, parsed_lines}
use Rattle.xt_parse.specs.Small.{AreAbove}
use Rattle.xt_layout.specs.Around.{each_after}
use Rattle.xt_layout.specs.Findings.{Finding, fails, first, least, or_else}
use Rattle.xt_layout.specs.Pools.{pool_fault, words_of}
use Rattle.xt_layout.specs.Addresses.{labels_of, line_addresses, word_addresses}
use Rattle.xt_layout.specs.Faults.{has_entry, is_entry, layout_fault}
use Rattle.xt_layout.proofs.Each.{length-each}
use Rattle.xt_layout.proofs.Wording.{length-words}
use Rattle.xt_asm.specs.Pieces.{ArePieces, Source, source_at, sources_of}
use Rattle.xt_asm.specs.Contexts.{LineFault}
use Rattle.xt_asm.specs.Images.{Assembles, AssemblesLines, Closes, entry_of, entry_or}
use Rattle.xt_asm.specs.Kinds.{fault_of, has_segment, has_unknown, is_code, is_stray_entry, lines_fault, no_entry, text_fault}
use Rattle.xt_asm.specs.Operands.{insn_at, site_at}
use Rattle.xt_asm.specs.Walks.{own_at, own_first}
use Rattle.xt_asm.proofs.Clear.{IsClear, clear_line, or_else_none}
use Rattle.xt_asm.proofs.Merging.{all_merged}
use Rattle.xt_asm.proofs.WellFormed.{well_formed}
use Rattle.xt_image.specs.ImageParts.{IsWellFormed}
use Rattle.std.specs.Prelude.{IfOk}

-- ---- the entry

-- the first `.entry` is an address of code, and it is there where a line is an `.entry`
pub record HasEntry (labels : List Label) (lines : List Line) : Type 0 where
  pub code : (v : ℤ) → entry_of labels lines ≡ Some v → is_code v ≡ true
  pub there : is_some (entry_of labels lines) ≡ has_entry lines

fits_code : (o : Option ℤ) (v : ℤ) → option_map_or (λ v. not (is_code v)) o false ≡ false → o ≡ Some v → is_code v ≡ true
fits_code None v e is = absurd (cc)
fits_code (Some w) v e is =
    let same : w ≡ v = cc in
    double_not (is_code v) (ap (λ x. not (is_code x)) (sym same) ∙ e)
  where
    double_not : (b : Bool) → not b ≡ false → b ≡ true
    double_not true e = refl
    double_not false e = absurd (cc)

known_is_some : (o : Option ℤ) → is_none o ≡ false → is_some o ≡ true
known_is_some None e = absurd (cc)
known_is_some (Some v) e = refl

code_step : (labels : List Label) (s : Statement) (later : Option ℤ) → is_stray_entry labels s ≡ false → ((v : ℤ) → later ≡ Some v → is_code v ≡ true) → (v : ℤ) → entry_or labels s later ≡ Some v → is_code v ≡ true
code_step labels (statement.Entry e) later stray rest v is = fits_code (value_of labels e) v stray is
code_step labels _ later stray rest v is = rest v is

there_step : (labels : List Label) (s : Statement) (later : Option ℤ) (behind : Bool) → has_unknown labels s ≡ false → is_some later ≡ behind → is_some (entry_or labels s later) ≡ (is_entry s || behind)
there_step labels (statement.Entry e) later behind known is = known_is_some (value_of labels e) known
there_step labels _ later behind known is = is

has_entry_after : (lines before rest : List Line) → first (each_after (own_at lines) before rest) ≡ None → HasEntry (labels_of lines) rest
has_entry_after lines before [] e = record { code = λ v is. absurd (cc); there = refl }
has_entry_after lines before (l ∷ rest) e =
    let parts = or_else_none (own_at lines before l rest) (first (each_after (own_at lines) (before ++ l ∷ []) rest)) e in
    let clear : IsClear (site_at lines before l) l.statement (insn_at (site_at lines before l) l.statement) = clear_line (site_at lines before l) l (insn_at (site_at lines before l) l.statement) parts.0 in
    let later : HasEntry (labels_of lines) rest = has_entry_after lines (before ++ l ∷ []) rest parts.1 in
    record {
      code = code_step (labels_of lines) l.statement (entry_of (labels_of lines) rest) clear.executable later.code;
      there = there_step (labels_of lines) l.statement (entry_of (labels_of lines) rest) (has_entry rest) clear.known later.there;
    }

pub entry_is : (lines : List Line) (labels : List Label) → labels ≡ labels_of lines → own_first lines ≡ None → HasEntry labels lines
entry_is lines labels e clear =
    let P : List Label → Type 0 = λ ls. HasEntry ls lines in
    subst P (sym e) (has_entry_after lines [] lines clear)

-- ---- an entry and a segment

absent : (a b : Bool) (place : AsmPlace) → a ≡ false → fails (not (a && b)) place ≡ Some place
absent a b place e = ap (λ x. fails (not (x && b)) place) e

no_segment : (a b : Bool) (place : AsmPlace) → b ≡ false → fails (not (a && b)) place ≡ Some place
no_segment true b place e = ap (λ x. fails (not x) place) e
no_segment false b place e = refl

nothing_absent : (a b : Bool) (place : AsmPlace) → a ≡ true → b ≡ true → fails (not (a && b)) place ≡ None
nothing_absent a b place e f = ap (λ x. fails (not (x && b)) place) e ∙ ap (λ x. fails (not x) place) f

abbrev whole_text : AsmPlace
whole_text = record { line = 0; column = 0; kind = 9 }

pub without_entry : (lines : List Line) (labels : List Label) → HasEntry labels lines → entry_of labels lines ≡ None → no_entry lines ≡ Some (record { line = 0; column = 0; kind = 9 })
without_entry lines labels has none = absent (has_entry lines) (has_segment lines) whole_text (sym has.there ∙ ap is_some none)

pub without_segment : (lines : List Line) → has_segment lines ≡ false → no_entry lines ≡ Some (record { line = 0; column = 0; kind = 9 })
without_segment lines none = no_segment (has_entry lines) (has_segment lines) whole_text none

pub with_both : (lines : List Line) (labels : List Label) (v : ℤ) → HasEntry labels lines → entry_of labels lines ≡ Some v → has_segment lines ≡ true → no_entry lines ≡ None
with_both lines labels v has is segment = nothing_absent (has_entry lines) (has_segment lines) whole_text (sym has.there ∙ ap is_some is) segment

pub closes_err : (e : AsmFault) (lines : List Line) → e ≡ fault.Place (record { line = 0; column = 0; kind = 9 }) → no_entry lines ≡ Some (record { line = 0; column = 0; kind = 9 }) → Closes (Err e) lines
closes_err e lines is none = let P : AsmFault → Type 0 = λ x. Closes (Err x) lines in subst P (sym is) none

-- ---- how many pieces

count_pieces : (sources : List Source) (pieces : List (List ℕ)) → ArePieces sources pieces → length pieces ≡ length sources
count_pieces [] [] all = refl
count_pieces [] (x ∷ pieces) all = absurd all
count_pieces (x ∷ sources) [] all = absurd all
count_pieces (x ∷ sources) (y ∷ pieces) all = ap suc (count_pieces sources pieces all.1)

pub pieces_count : (lines : List Line) (pieces : List (List ℕ)) → ArePieces (sources_of lines) pieces → length pieces ≡ length lines
pieces_count lines pieces all = count_pieces (sources_of lines) pieces all ∙ length-each (source_at lines) lines

-- ---- the fault of lines

pub fault_there : (lines : List Line) (earlier own : Finding) (place : AsmPlace) → AreAbove 0 lines → earlier ≡ least (pool_fault lines) (layout_fault lines) → own_first lines ≡ own → least earlier own ≡ Some place → lines_fault lines ≡ Some place
unfolding lines_fault
fault_there lines earlier own place above earlier_is own_is e =
    ap (λ x. or_else x (no_entry lines)) (sym (all_merged lines above) ∙ ap (λ x. least x (own_first lines)) (sym earlier_is) ∙ ap (least earlier) own_is ∙ e)

pub fault_alone : (e : AsmFault) (lines : List Line) (earlier : Finding) → AreAbove 0 lines → earlier ≡ least (pool_fault lines) (layout_fault lines) → earlier ≡ None → LineFault e (own_first lines) → AssemblesLines (Err e) lines
fault_alone (fault.Place place) lines earlier above earlier_is none found = fault_there lines earlier (own_first lines) place above earlier_is refl (ap (λ x. least x (own_first lines)) none ∙ found)
fault_alone fault.Memory lines earlier above earlier_is none found = tt

pub fault_last : (lines : List Line) (earlier : Finding) → AreAbove 0 lines → earlier ≡ least (pool_fault lines) (layout_fault lines) → own_first lines ≡ None → earlier ≡ None → lines_fault lines ≡ no_entry lines
unfolding lines_fault
fault_last lines earlier above earlier_is own_is e =
    ap (λ x. or_else x (no_entry lines)) (sym (all_merged lines above) ∙ ap (λ x. least x (own_first lines)) (sym earlier_is ∙ e) ∙ own_is)

pub closes_all : (r : Result Image AsmFault) (lines : List Line) → lines_fault lines ≡ no_entry lines → Closes r lines → AssemblesLines r lines
closes_all (Ok image) lines e closes = (e ∙ closes.0, closes.1)
closes_all (Err (fault.Place place)) lines e closes = e ∙ closes
closes_all (Err fault.Memory) lines e closes = tt

-- ---- the fault of a text

pub assembles_read : (r : Result Image AsmFault) (text : List ℕ) (lines : List Line) → parsed_lines (tokens_of text) ≡ Ok lines → AssemblesLines r lines → Assembles r text
unfolding text_fault
assembles_read (Ok image) text lines read all = (ap fault_of read ∙ all.0, record { lines = lines; read = read; image_is = all.1 })
assembles_read (Err (fault.Place place)) text lines read all = ap fault_of read ∙ all
assembles_read (Err fault.Memory) text lines read all = tt

pub assembles_unread : (e : AsmFault) (text : List ℕ) → Parses (Err e) (parsed_lines (tokens_of text)) → Assembles (Err e) text
unfolding text_fault
assembles_unread (fault.Place place) text read = ap fault_of read
assembles_unread fault.Memory text read = tt

-- an image that was made is well formed
pub assembled_well : (r : Result Image AsmFault) (text : List ℕ) → Assembles r text → IfOk r IsWellFormed
assembled_well (Ok image) text exact = well_formed text image exact.0 exact.1
assembled_well (Err e) text exact = tt

-- ---- lengths

pub addresses_long : (lines : List Line) (words : List ℤ) → words ≡ map pos (word_addresses lines) → length words ≡ length (words_of lines)
unfolding word_addresses
addresses_long lines words e = ap length e ∙ length-map (word_addresses lines) pos ∙ length-words (line_addresses lines) (words_of lines)
