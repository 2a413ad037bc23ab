-- The map of an assembly text: its labels with their addresses ('profile').
--
-- Profile: the map of a text (`Maps`) is a sorted permutation of its labels' lines; of two labels
-- with one name the first counts, which is the one that uses mean.
use Rattle.std.specs.Prelude.{◌≡◌, ℕ, ◌^◌, ◌==◌, Bool, false, List, ◌∷◌, [], ◌++◌, map, filter, flat_map}
use Rattle.std.specs.Prelude.{None, Some, Result, Ok, Err, IsPermutation, IsSorted}
use Rattle.std.specs.Option.{option_map_or}
use Rattle.std.specs.Ordering.{nat_cmp, ordering_then}
use Rattle.std.specs.Cmp.Lexicographic.{slice_cmp}
use Rattle.std.specs.declared.cmp.Ordering.{Ordering}
use Rattle.xt_word.specs.Hexadecimal.{hex8}
use Rattle.xt_lex.specs.declared.fault.AsmFault.{AsmFault}
use Rattle.xt_lex.specs.declared.fault.AsmFault.TheVariants as fault
use Rattle.xt_lex.specs.Tokens.{tokens_of}
use Rattle.xt_lex.specs.declared.labels.Label.{Label}
use Rattle.xt_lex.specs.Labels.{first_label}
use Rattle.xt_parse.specs.declared.line.Line.{Line}
use Rattle.xt_parse.specs.Lines.{parsed_lines}
use Rattle.xt_layout.specs.Addresses.{labels_of}
use Rattle.xt_asm.specs.declared.map.Row.{Row}
use Rattle.xt_asm.specs.Kinds.{text_fault}
use Rattle.xt_asm.specs.Pieces.{residue}

-- a label's name, with its address mod 2^32
abbrev pub row_of : Label → Row
row_of l = record { address = residue l.address (2 ^ 32); name = l.name }

-- a label counts where its address is that of the first of its name: so of two with one name
-- the first counts
abbrev pub counts : List Label → Label → Bool
counts labels l =
    option_map_or (λ first. (row_of l).address == (row_of first).address)
    (first_label l.name labels) false

abbrev pub rows_of : List Label → List Row
rows_of labels = map row_of (filter (counts labels) labels)

-- by address, and then by the bytes of the name
abbrev pub row_cmp : Row → Row → Ordering
row_cmp x y = ordering_then (nat_cmp x.address y.address) (slice_cmp nat_cmp x.name y.name)

-- eight hexadecimal digits, a space, the name and 0A
abbrev pub row_line : Row → List ℕ
row_line r = hex8 r.address ++ 32 ∷ r.name ++ 10 ∷ []

-- the text is a line for each label that counts, in the order of the rows
pub record IsMapOf (labels : List Label) (text : List ℕ) : Type 0 where
  pub rows : List Row
  pub are_all : IsPermutation (rows_of labels) rows
  pub in_order : IsSorted row_cmp rows
  pub text_is : text ≡ flat_map row_line rows

-- the map is that of the labels of the text's lines
pub record IsMapOfText (text map : List ℕ) : Type 0 where
  pub lines : List Line
  pub read : parsed_lines (tokens_of text) ≡ Ok lines
  pub map_is : IsMapOf (labels_of lines) map

-- a map comes exactly where the text has no fault, and is the text's; else its first fault, unless
-- memory ran out
abbrev pub Maps : Result (List ℕ) AsmFault → List ℕ → Type 0
Maps (Ok map) text = (text_fault text ≡ None) × IsMapOfText text map
Maps (Err (fault.Place place)) text = text_fault text ≡ Some place
Maps (Err fault.Memory) text = Unit {0}
