-- The bytes of an instruction are one list: they are the fields of the one word that spells it, packed.
use Rattle.std.proofs.Common.{◌≡◌, ℕ, ◌+◌, ◌*◌, ◌/◌, ◌%◌, ◌<◌, ◌≤◌, Bool, true, false, List, [], ◌∷◌, length, take, Option, Some, None, inl, inr, sym, ap, ◌∙◌, arith}
use Rattle.std.proofs.lemmas.Bool.{and_from, cases_lt, cond-true, cond_both, le-leb}
use Rattle.std.proofs.lemmas.List.{get_or_past}
use Rattle.std.specs.List.{All}
use Rattle.xt_isa.specs.declared.Insn.{Insn}
use Rattle.xt_isa.specs.declared.Fields.{Fields}
use Rattle.xt_isa.specs.Spelling.{fields_at, length_of, spelled_insn, within}
use Rattle.xt_isa.proofs.ThirdByte.{spelled_below}
use Rattle.xt_codec.specs.declared.Decoded.{Decoded}
use Rattle.xt_codec.specs.declared.Decoded.TheVariants.{Good, Illegal}
use Rattle.xt_codec.specs.DecoderAnswers.{answer}
use Rattle.xt_names.specs.InsnBytes.{HasOneList, IsReadAt, byte}
use Rattle.xt_names.specs.Encodings.{Encodes, IsPadded}
use Rattle.xt_names.proofs.Encoding.{one_encoding}

is_good : Decoded → Bool
is_good (Good i n) = true
is_good Illegal = false

not_good : (i : Insn) (n : ℕ) → Illegal ≡ Good i n → ⊥
unfolding is_good
not_good i n e = cc

-- an answer that is an instruction has been spelled, and has the length of the first byte
answered : (i : Insn) (b0 n : ℕ) (o : Option Insn) → answer b0 o ≡ Good i n → (o ≡ Some i) × (length_of b0 ≡ n)
answered i b0 n None e = absurd (not_good i n e)
answered i b0 n (Some j) e = (cc, cc)

length_two : (b0 : ℕ) → 7 < b0 % 16 → b0 % 16 < 14 → length_of b0 ≡ 2
length_two b0 h g = cond-true (within 8 13 (b0 % 16)) 2 3 (and_from _ _ (le-leb 8 (b0 % 16) (omega arith)) (le-leb (b0 % 16) 13 (omega arith)))

length_cases : (b0 : ℕ) → (2 ≤ length_of b0) × (length_of b0 ≤ 3)
length_cases b0 = cond_both (within 8 13 (b0 % 16)) 2 3 (λ n. (2 ≤ n) × (n ≤ 3)) (λ h. (omega arith, omega arith)) (λ h. (omega arith, omega arith))

-- the bytes after the last are 0
byte_small : (bytes : List ℕ) (k : ℕ) → All (λ x. x < 256) bytes → byte bytes k < 256
byte_small bytes k small = elim (cases_lt k (length bytes)) [ inl p ↦ small k 0 p | inr q ↦ omega (arith, get_or_past bytes k 0 q) ]

padded : (i : Insn) (bytes : List ℕ) → All (λ x. x < 256) bytes → IsReadAt i bytes → IsPadded (fields_at (byte bytes 0) (byte bytes 1) (byte bytes 2))
padded i bytes small e h =
    let known = answered i (byte bytes 0) (length bytes) (spelled_insn (fields_at (byte bytes 0) (byte bytes 1) (byte bytes 2))) e in
    let low = spelled_below (fields_at (byte bytes 0) (byte bytes 1) (byte bytes 2)) i (omega arith) known.0 in
    let two = length_two (byte bytes 0) h low in
    let zero_byte : byte bytes 2 ≡ 0 = get_or_past bytes 2 0 (omega (arith, two, known.1)) in
    (omega (arith, zero_byte), omega (arith, zero_byte))

encodes : (i : Insn) (bytes : List ℕ) → All (λ x. x < 256) bytes → IsReadAt i bytes → Encodes (fields_at (byte bytes 0) (byte bytes 1) (byte bytes 2)) i
encodes i bytes small e =
    let known = answered i (byte bytes 0) (length bytes) (spelled_insn (fields_at (byte bytes 0) (byte bytes 1) (byte bytes 2))) e in
    let s0 = byte_small bytes 0 small in
    let s1 = byte_small bytes 1 small in
    let s2 = byte_small bytes 2 small in
    (known.0, (omega arith, omega arith, omega arith, omega arith, omega arith, omega arith), padded i bytes small e)

-- the first bytes, as many as the length by the first of them
abbrev firsts : ℕ → ℕ → ℕ → List ℕ
firsts x y z = take (length_of x) (x ∷ y ∷ z ∷ [])

are_firsts : (bytes : List ℕ) → length_of (byte bytes 0) ≡ length bytes → bytes ≡ firsts (byte bytes 0) (byte bytes 1) (byte bytes 2)
are_firsts [] e = absurd (omega (arith, e, (length_cases 0).0))
are_firsts (x ∷ []) e = absurd (omega (arith, e, (length_cases x).0))
are_firsts (x ∷ y ∷ []) e = sym (ap (λ n. take n (x ∷ y ∷ 0 ∷ [])) e)
are_firsts (x ∷ y ∷ z ∷ []) e = sym (ap (λ n. take n (x ∷ y ∷ z ∷ [])) e)
are_firsts (x ∷ y ∷ z ∷ u ∷ bytes) e = absurd (omega (arith, e, (length_cases x).1))

-- the bytes of a word
abbrev packed : Fields → List ℕ
packed w = firsts (w.op0 + 16 * w.t) (w.s + 16 * w.r) (w.op1 + 16 * w.op2)

same_firsts : {x y z a b c : ℕ} → x ≡ a → y ≡ b → z ≡ c → firsts x y z ≡ firsts a b c
same_firsts p q r = cc

digits : (n : ℕ) → n ≡ n % 16 + 16 * (n / 16)
digits n = omega arith

is_packed : (bytes : List ℕ) → length_of (byte bytes 0) ≡ length bytes → bytes ≡ packed (fields_at (byte bytes 0) (byte bytes 1) (byte bytes 2))
is_packed bytes e = are_firsts bytes e ∙ same_firsts (digits (byte bytes 0)) (digits (byte bytes 1)) (digits (byte bytes 2))

pub one_list : (i : Insn) → HasOneList i
one_list i a b p q d e =
    is_packed a (answered i (byte a 0) (length a) _ d).1 ∙ (ap packed (one_encoding i _ _ (encodes i a p d) (encodes i b q e)) ∙ sym (is_packed b (answered i (byte b 0) (length b) _ e).1))
