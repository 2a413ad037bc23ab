-- A text has one image: its lines are one, the bytes of each line are one, and the rest is given by equations.
use Rattle.std.proofs.Common.{◌≡◌, ℕ, ◌<◌, Bool, List, [], ◌∷◌, Option, Some, Result, Ok, refl, sym, ap, ◌∙◌, subst}
use Rattle.std.specs.Prelude.{ℤ, pos, zip}
use Rattle.std.specs.List.{All}
use Rattle.xt_isa.specs.declared.Insn.{Insn}
use Rattle.xt_map.specs.declared.segment.Segment.{Segment}
use Rattle.xt_image.specs.declared.image.Head.{Head}
use Rattle.xt_image.specs.declared.image.Image.{Image}
use Rattle.xt_names.specs.declared.argument.OperandFault.{OperandFault}
use Rattle.xt_names.proofs.EncodingBytes.{one_list}
use Rattle.xt_lex.specs.declared.fault.AsmPlace.{AsmPlace}
use Rattle.xt_parse.specs.declared.line.Line.{Line}
use Rattle.xt_parse.specs.declared.statement.Statement.{Statement}
use Rattle.xt_parse.specs.declared.statement.Statement.TheVariants as statement
use Rattle.xt_layout.specs.declared.word.PoolWord.{PoolWord}
use Rattle.xt_asm.specs.Images.{IsImageOf, segments_of}
use Rattle.xt_asm.specs.AssemblyLaws.{TextHasOneImage}
use Rattle.xt_asm.specs.Operands.{Site, insn_at}
use Rattle.xt_asm.specs.Pieces.{AreCode, ArePieces, IsPiece, Source, StandFor, sources_of}

-- ---- the bytes of a line

-- bytes that spell one instruction are one list
one_code : (made : Option (Result Insn OperandFault)) (a b : List ℕ) → All (λ x. x < 256) a → All (λ x. x < 256) b → AreCode made a → AreCode made b → a ≡ b
one_code (Some (Ok i)) a b small_a small_b p q = one_list i a b small_a small_b p q
one_code _ a b small_a small_b p q = absurd p

-- those of any other statement are what its equation says
one_meaning : (site : Site) (pool : List PoolWord) (s : Statement) (a b : List ℕ) → All (λ x. x < 256) a → All (λ x. x < 256) b → StandFor site pool s a → StandFor site pool s b → a ≡ b
one_meaning site pool (statement.Insn name operands) a b small_a small_b p q = one_code (insn_at site (statement.Insn name operands)) a b small_a small_b p q
one_meaning site pool _ a b small_a small_b p q = p ∙ sym q

one_piece : (s : Source) (a b : List ℕ) → IsPiece s a → IsPiece s b → a ≡ b
one_piece s a b p q = one_meaning s.site s.pool s.statement a b p.small q.small p.stand_for q.stand_for

same_pieces : (sources : List Source) (a b : List (List ℕ)) → ArePieces sources a → ArePieces sources b → a ≡ b
same_pieces [] [] [] p q = refl
same_pieces [] [] (y ∷ b) p q = absurd q
same_pieces [] (x ∷ a) b p q = absurd p
same_pieces (s ∷ sources) [] b p q = absurd p
same_pieces (s ∷ sources) (x ∷ a) [] p q = absurd q
same_pieces (s ∷ sources) (x ∷ a) (y ∷ b) p q = ap (λ z. z ∷ a) (one_piece s x y p.0 q.0) ∙ ap (λ zs. y ∷ zs) (same_pieces sources a b p.1 q.1)

-- ---- the image

-- an image is its parts
abbrev image_of : Head → ℕ → Bool → List Segment → Image
image_of h n d segments = record { head = h; entry = n; digest = d; segments = segments }

same_image : (a b : Image) → a.head ≡ b.head → a.entry ≡ b.entry → a.digest ≡ b.digest → a.segments ≡ b.segments → a ≡ b
same_image a b head entry digest segments =
    ap (λ x. image_of x a.entry a.digest a.segments) head
    ∙ ap (λ x. image_of b.head x a.digest a.segments) entry
    ∙ ap (λ x. image_of b.head b.entry x a.segments) digest
    ∙ ap (λ x. image_of b.head b.entry b.digest x) segments

same_entry : (m n : ℕ) (found : Option ℤ) → Some (pos m) ≡ found → Some (pos n) ≡ found → m ≡ n
same_entry m n found p q = cc

image_of_lines : (lines : List Line) (a b : Image) → IsImageOf lines a → IsImageOf lines b → a ≡ b
image_of_lines lines a b p q =
    let pieces : p.pieces ≡ q.pieces = same_pieces (sources_of lines) p.pieces q.pieces p.are_pieces q.are_pieces in
    same_image a b
    (p.head_is ∙ sym q.head_is)
    (same_entry a.entry b.entry _ p.entry q.entry)
    (p.digest ∙ sym q.digest)
    (p.segments ∙ ap (λ xs. segments_of (zip lines xs)) pieces ∙ sym q.segments)

-- ---- the text

same_lines : (read : Result (List Line) AsmPlace) (a b : List Line) → read ≡ Ok a → read ≡ Ok b → a ≡ b
same_lines read a b p q = cc

pub one_image : TextHasOneImage
one_image text a b p q =
    image_of_lines p.lines a b p.image_is (subst (λ lines. IsImageOf lines b) (same_lines _ q.lines p.lines q.read p.read) q.image_is)
