-- The rows of the 16-bit instructions, each inverted and of its length.
use Rattle.std.proofs.Common.{◌≡◌, ℕ, ◌+◌, ◌*◌, ◌/◌, ◌%◌, ltb, true, refl, sym, arith}
use Rattle.std.proofs.lemmas.Bool.{ltb-true}
use Rattle.xt_isa.specs.declared.Fields.{Fields}
use Rattle.xt_isa.specs.Ranges.{AreNibbles}
use Rattle.xt_isa.specs.Apart.{AllRows}
use Rattle.xt_isa.specs.Spelling.{density_rows, minus_one_or, narrow_constant, nibble}
use Rattle.xt_isa.proofs.RowByRow.{◌▸◌}
use Rattle.xt_names.specs.Encodings.{IsPadded}
use Rattle.xt_names.proofs.EncodingWords.{narrow, narrow_none, narrow_s, narrow_s6, narrow_s7, narrow_ts, natural, unsigned}
use Rattle.xt_names.proofs.EncodingParts.{IsEncoded, Matches, digit0, full, high_one, high_two, minus_one_or_back, narrow_constant_back, rest1, word_is}
use Rattle.xt_names.proofs.EncodingFormats.{times_back}

narrow_is : (v : ℕ) {r s t : ℕ} (w : Fields) → ltb 7 (nibble v 0) ≡ true → IsPadded w → nibble v 0 ≡ w.op0 → t ≡ w.t → s ≡ w.s → r ≡ w.r → narrow v r s t ≡ w
narrow_is v w h p o t s r =
    let zeros = p (omega (arith, o, ltb-true 7 (nibble v 0) h)) in
    word_is w o t s r (sym zeros.0) (sym zeros.1)

words : {v : ℕ} → ltb 7 (nibble v 0) ≡ true → (w : Fields) → AreNibbles w → IsPadded w → Matches 0x00000F v w → narrow v (4 * w.r / 4) w.s w.t ≡ w
words {v = v} h w n p m = narrow_is v w h p (full _ _ n.0 m.at0) refl refl (times_back w.r).1

add : (w : Fields) → AreNibbles w → IsPadded w → Matches 0x00000F 0x00000A w → narrow 0x00000A w.r w.s w.t ≡ w
add w n p m = narrow_is 0x00000A w refl p (full _ _ n.0 m.at0) refl refl refl

addi : (w : Fields) → AreNibbles w → IsPadded w → Matches 0x00000F 0x00000B w → narrow 0x00000B w.r w.s (natural (minus_one_or w.t)) ≡ w
addi w n p m = narrow_is 0x00000B w refl p (full _ _ n.0 m.at0) (minus_one_or_back w.t n.1) refl refl

movi : (w : Fields) → AreNibbles w → IsPadded w → Matches 0x00008F 0x00000C w → narrow_s7 0x00000C w.s (unsigned 64 (narrow_constant (w.r + 16 * (w.t % 8)))) ≡ w
movi w n p m =
    let same = narrow_constant_back (w.r + 16 * (w.t % 8)) (omega arith) in
    narrow_is 0x00000C w refl p (full _ _ n.0 m.at0) (high_one w.t _ n.1 m.at1 (rest1 _ w.r (w.t % 8) n.3 same)) refl (digit0 _ w.r (w.t % 8) n.3 same)

beqz : {v : ℕ} → ltb 7 (nibble v 0) ≡ true → (w : Fields) → AreNibbles w → IsPadded w → Matches 0x0000CF v w → narrow_s6 v w.s (w.r + 16 * (w.t % 4)) ≡ w
beqz {v = v} h w n p m =
    narrow_is v w h p (full _ _ n.0 m.at0) (high_two w.t _ _ n.1 m.at1 (rest1 _ w.r (w.t % 4) n.3 refl)) refl (digit0 _ w.r (w.t % 4) n.3 refl)

mov : (w : Fields) → AreNibbles w → IsPadded w → Matches 0x00F00F 0x00000D w → narrow_ts 0x00000D w.t w.s ≡ w
mov w n p m = narrow_is 0x00000D w refl p (full _ _ n.0 m.at0) refl refl (full _ _ n.3 m.at3)

ret : {v : ℕ} → ltb 7 (nibble v 0) ≡ true → (w : Fields) → AreNibbles w → IsPadded w → Matches 0x00FFFF v w → narrow_none v ≡ w
ret {v = v} h w n p m = narrow_is v w h p (full _ _ n.0 m.at0) (full _ _ n.1 m.at1) (full _ _ n.2 m.at2) (full _ _ n.3 m.at3)

breakpoint : (w : Fields) → AreNibbles w → IsPadded w → Matches 0x00F0FF 0x00F02D w → narrow_s 0x00F02D w.s ≡ w
breakpoint w n p m = narrow_is 0x00F02D w refl p (full _ _ n.0 m.at0) (full _ _ n.1 m.at1) refl (full _ _ n.3 m.at3)

pub density_encoded : AllRows IsEncoded density_rows
density_encoded =
    (words refl, λ w. refl) ▸  -- L32I.N
    (words refl, λ w. refl) ▸  -- S32I.N
    (add, λ w. refl) ▸  -- ADD.N
    (addi, λ w. refl) ▸  -- ADDI.N
    (movi, λ w. refl) ▸  -- MOVI.N
    (beqz refl, λ w. refl) ▸  -- BEQZ.N
    (beqz refl, λ w. refl) ▸  -- BNEZ.N
    (mov, λ w. refl) ▸  -- MOV.N
    (ret refl, λ w. refl) ▸  -- RET.N
    (ret refl, λ w. refl) ▸  -- RETW.N
    (ret refl, λ w. refl) ▸  -- NOP.N
    (ret refl, λ w. refl) ▸  -- ILL.N
    (breakpoint, λ w. refl) ▸  -- BREAK.N
    tt
