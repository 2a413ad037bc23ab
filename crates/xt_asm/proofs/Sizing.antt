-- The bytes of a statement are as many as its address counts.
use Rattle.std.proofs.Common.{◌≡◌, ℕ, ◌+◌, ◌*◌, ◌%◌, ◌<◌, Bool, true, false, ◌&&◌, List, [], ◌∷◌, Option, Some, None, Result, Ok, Err, length, get_or, refl, sym, ap, ◌∙◌, subst, arith, if◌then◌else◌, length-append, zero, suc}
use Rattle.std.specs.Prelude.{All, nat_le}
use Rattle.std.specs.List.{AllByRecursion, flat_map}
use Rattle.std.proofs.lemmas.List.{length-replicate, length-map}
use Rattle.std.proofs.lemmas.List.Elements.{recursion_from_All}
use Rattle.xt_isa.specs.declared.Insn.{Insn}
use Rattle.xt_isa.specs.Ranges.{AreNibbles}
use Rattle.xt_isa.specs.Spelling.{fields_at, length_of, spelled_insn}
use Rattle.xt_codec.specs.declared.Decoded.TheVariants.{Good}
use Rattle.xt_codec.specs.DecoderAnswers.{answer}
use Rattle.xt_names.specs.declared.argument.OperandFault.{OperandFault}
use Rattle.xt_names.specs.declared.mnemonic.Mnemonic.{Mnemonic}
use Rattle.xt_names.specs.Forms.{size_of}
use Rattle.xt_names.specs.Lengths.{HasLength}
use Rattle.xt_lex.specs.declared.labels.Label.{Label}
use Rattle.xt_lex.specs.declared.expr.Expr.{Expr}
use Rattle.xt_parse.specs.declared.statement.Statement.{Statement}
use Rattle.xt_parse.specs.declared.statement.Statement.TheVariants as statement
use Rattle.xt_layout.specs.declared.word.PoolWord.{PoolWord}
use Rattle.xt_layout.specs.Sizes.{is_alignment, is_space, padding, size}
use Rattle.xt_asm.specs.Contexts.{IsMade, IsMadeOf}
use Rattle.xt_asm.specs.Operands.{Site, insn_at}
use Rattle.xt_asm.specs.Pieces.{AreCode, Spells, StandFor, byte, byte_of, short_bytes, word_bytes, zeros}

-- ---- instructions

-- a number from 0 to 255 at each place
abbrev AreBytes : List ℕ → Type 0
AreBytes bytes = All (λ b. b < 256) bytes

byte_small_by : (bytes : List ℕ) (k : ℕ) → AllByRecursion (λ b. b < 256) bytes → get_or bytes k 0 < 256
byte_small_by [] k all = omega arith
byte_small_by (b ∷ bytes) zero all = all.0
byte_small_by (b ∷ bytes) (suc k) all = byte_small_by bytes k all.1

byte_small : (bytes : List ℕ) (k : ℕ) → AreBytes bytes → byte bytes k < 256
byte_small bytes k all = byte_small_by bytes k (recursion_from_All (λ b. b < 256) bytes all)

nibbles : (bytes : List ℕ) → AreBytes bytes → AreNibbles (fields_at (byte bytes 0) (byte bytes 1) (byte bytes 2))
nibbles bytes all =
    let a = byte_small bytes 0 all in
    let b = byte_small bytes 1 all in
    let d = byte_small bytes 2 all in
    (omega arith, omega arith, omega arith, omega arith, omega arith, omega arith)

low_again : (b : ℕ) → b % 16 % 16 ≡ b % 16
low_again b = omega arith

length_again : (b : ℕ) → length_of (b % 16) ≡ length_of b
length_again b = ap (λ n. if (nat_le 8 n && nat_le n 13) then 2 else 3) (low_again b)

spelled_long : (i : Insn) (b n m : ℕ) (s : Option Insn) → answer b s ≡ Good i n → (s ≡ Some i → length_of (b % 16) ≡ m) → n ≡ m
spelled_long i b n m None e long = absurd (cc)
spelled_long i b n m (Some j) e long =
    let same : Some j ≡ Some i = cc in
    let b_is : length_of b ≡ n = cc in
    sym b_is ∙ sym (length_again b) ∙ long same

pub code_long : (i : Insn) (m : ℕ) (bytes : List ℕ) → AreBytes bytes → HasLength i m → Spells i bytes → length bytes ≡ m
code_long i m bytes all long e =
    spelled_long i (byte bytes 0) (length bytes) m (spelled_insn (fields_at (byte bytes 0) (byte bytes 1) (byte bytes 2))) e
    (λ s. long (fields_at (byte bytes 0) (byte bytes 1) (byte bytes 2)) (nibbles bytes all) s)

made_long : (name : Mnemonic) (made : Option (Result Insn OperandFault)) (bytes : List ℕ) → AreBytes bytes → IsMade name made → AreCode made bytes → length bytes ≡ size_of name
made_long name None bytes all is code = absurd code
made_long name (Some (Err e)) bytes all is code = absurd code
made_long name (Some (Ok i)) bytes all is code = code_long i (size_of name) bytes all is.1 code

-- ---- values

word_long : (labels : List Label) (e : Expr) → length (word_bytes labels e) ≡ 4
word_long labels e = refl

words_long : (labels : List Label) (es : List Expr) → length (flat_map (word_bytes labels) es) ≡ 4 * length es
words_long labels [] = refl
words_long labels (e ∷ es) = omega (arith, length-append (word_bytes labels e) (flat_map (word_bytes labels) es), word_long labels e, words_long labels es)

short_long : (labels : List Label) (e : Expr) → length (short_bytes labels e) ≡ 2
short_long labels e = refl

shorts_long : (labels : List Label) (es : List Expr) → length (flat_map (short_bytes labels) es) ≡ 2 * length es
shorts_long labels [] = refl
shorts_long labels (e ∷ es) = omega (arith, length-append (short_bytes labels e) (flat_map (short_bytes labels) es), short_long labels e, shorts_long labels es)

pool_long : (labels : List Label) (ws : List PoolWord) → length (flat_map (λ w. word_bytes labels w.value) ws) ≡ 4 * length ws
pool_long labels [] = refl
pool_long labels (w ∷ ws) = omega (arith, length-append (word_bytes labels w.value) (flat_map (λ w. word_bytes labels w.value) ws), word_long labels w.value, pool_long labels ws)

aligned_long : (b : Bool) (n : ℕ) → length (if b then zeros n else []) ≡ (if b then n else 0)
aligned_long true n = length-replicate n 0
aligned_long false n = refl

-- ---- statements

pub piece_long : (site : Site) (pool : List PoolWord) (s : Statement) (made : Option (Result Insn OperandFault)) (bytes : List ℕ) → made ≡ insn_at site s → IsMadeOf s made → AreBytes bytes →
    StandFor site pool s bytes → length bytes ≡ size (length pool) site.at s
unfolding size
piece_long site pool (statement.Insn name operands) made bytes is sound all code =
    let P : Option (Result Insn OperandFault) → Type 0 = λ m. AreCode m bytes in
    made_long name made bytes all sound (subst P (sym is) code)
piece_long site pool statement.Position made bytes is sound all e =
    ap length e ∙ length-append (zeros (padding 4 site.at)) (flat_map (λ w. word_bytes site.labels w.value) pool)
    ∙ ap (λ n. n + length (flat_map (λ w. word_bytes site.labels w.value) pool)) (length-replicate (padding 4 site.at) 0)
    ∙ ap (λ n. padding 4 site.at + n) (pool_long site.labels pool)
piece_long site pool (statement.Words values) made bytes is sound all e = ap length e ∙ words_long site.labels values
piece_long site pool (statement.Shorts values) made bytes is sound all e = ap length e ∙ shorts_long site.labels values
piece_long site pool (statement.Bytes values) made bytes is sound all e = ap length e ∙ length-map values (byte_of site.labels)
piece_long site pool (statement.Ascii text) made bytes is sound all e = ap length e
piece_long site pool (statement.Align n) made bytes is sound all e = ap length e ∙ aligned_long (is_alignment n) (padding n site.at)
piece_long site pool (statement.Space n) made bytes is sound all e = ap length e ∙ aligned_long (is_space n site.at) n
piece_long site pool _ made bytes is sound all e = ap length e
