-- What an answer of the decoder says of the instruction that some bytes begin with.
use Rattle.std.proofs.Common.{◌≡◌, ℕ, ◌<◌, ◌≤◌, List, length, Option, Some, None, Bool, true, false, refl, ◌∙◌, arith}
use Rattle.std.specs.Prelude.{nat_le, if◌then◌else◌}
use Rattle.std.proofs.lemmas.Bool.Decides.{nat_tests}
use Rattle.xt_isa.specs.declared.Insn.{Insn}
use Rattle.xt_isa.specs.Spelling.{fields_at, length_of, spelled_insn}
use Rattle.xt_codec.specs.DecoderAnswers.{answer}
use Rattle.xt_codec.specs.declared.Decoded.TheVariants as decoded
use Rattle.xt_disasm.specs.Listing.{byte_at, front, wanted_length}
use Rattle.xt_disasm.specs.Fronts.{IsFront}

-- what the first three bytes spell, whether or not they are all there
abbrev pub at_front : List ℕ → Option Insn
at_front bytes = spelled_insn (fields_at (byte_at bytes 0) (byte_at bytes 1) (byte_at bytes 2))

good-insn : (o : Option Insn) (b0 : ℕ) (i : Insn) (n : ℕ) → decoded.Good i n ≡ answer b0 o → o ≡ Some i
good-insn None b0 i n e = cc
good-insn (Some j) b0 i n e = cc

good-length : (o : Option Insn) (b0 : ℕ) (i : Insn) (n : ℕ) → decoded.Good i n ≡ answer b0 o → n ≡ length_of b0
good-length None b0 i n e = cc
good-length (Some j) b0 i n e = cc

nothing : (o : Option Insn) (b0 : ℕ) → decoded.Illegal ≡ answer b0 o → o ≡ None
nothing None b0 e = refl
nothing (Some j) b0 e = cc

chosen : (b : Bool) (o : Option Insn) → b ≡ true → (if b then o else None) ≡ o
chosen true o e = refl
chosen false o e = cc

left_out : (b : Bool) (o : Option Insn) → b ≡ false → (if b then o else None) ≡ None
left_out true o e = cc
left_out false o e = refl

none_either_way : (b : Bool) (o : Option Insn) → o ≡ None → (if b then o else None) ≡ None
none_either_way true o e = e
none_either_way false o e = refl

-- an instruction whose bytes are there
pub front-good : (bytes : List ℕ) (i : Insn) (n : ℕ) → decoded.Good i n ≡ answer (byte_at bytes 0) (at_front bytes) → n ≤ length bytes → IsFront bytes (Some (i, n))
unfolding front
front-good bytes i n e fits =
    let len : n ≡ wanted_length bytes = good-length (at_front bytes) (byte_at bytes 0) i n e in
    let enough : wanted_length bytes ≤ length bytes = omega arith in
    let test : nat_le (wanted_length bytes) (length bytes) ≡ true = grind (arith, nat_tests) in
    (chosen (nat_le (wanted_length bytes) (length bytes)) (at_front bytes) test ∙ good-insn (at_front bytes) (byte_at bytes 0) i n e, len, fits)

-- an instruction that reaches past the end
pub front-short : (bytes : List ℕ) (i : Insn) (n : ℕ) → decoded.Good i n ≡ answer (byte_at bytes 0) (at_front bytes) → length bytes < n → IsFront bytes None
unfolding front
front-short bytes i n e short =
    let len : n ≡ wanted_length bytes = good-length (at_front bytes) (byte_at bytes 0) i n e in
    let few : length bytes < wanted_length bytes = omega arith in
    let test : nat_le (wanted_length bytes) (length bytes) ≡ false = grind (arith, nat_tests) in
    left_out (nat_le (wanted_length bytes) (length bytes)) (at_front bytes) test

-- no instruction
pub front-illegal : (bytes : List ℕ) → decoded.Illegal ≡ answer (byte_at bytes 0) (at_front bytes) → IsFront bytes None
unfolding front
front-illegal bytes e = none_either_way (nat_le (wanted_length bytes) (length bytes)) (at_front bytes) (nothing (at_front bytes) (byte_at bytes 0) e)
