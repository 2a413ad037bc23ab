-- The rows of loads, stores and immediates, each inverted and of its length.
use Rattle.std.proofs.Common.{◌≡◌, ℕ, ◌+◌, ◌*◌, ◌/◌, ◌%◌, ◌<◌, refl, ap, ◌∙◌, arith}
use Rattle.xt_isa.specs.declared.Fields.{Fields}
use Rattle.xt_isa.specs.Ranges.{AreNibbles}
use Rattle.xt_isa.specs.Apart.{AllRows}
use Rattle.xt_isa.specs.Spelling.{below, imm8, imm16, memory_rows, signed}
use Rattle.xt_isa.proofs.RowByRow.{◌▸◌}
use Rattle.xt_names.specs.Encodings.{IsPadded}
use Rattle.xt_names.proofs.EncodingWords.{of_t16, of_ts8, rrr, unsigned}
use Rattle.xt_names.proofs.EncodingParts.{IsEncoded, Matches, below_back, full, signed_back}
use Rattle.xt_names.proofs.EncodingFormats.{rrr_is, t16_is, times_back, ts8_is}

byte : {v : ℕ} (w : Fields) → AreNibbles w → IsPadded w → Matches 0x00F00F v w → of_ts8 v w.t w.s (imm8 w) ≡ w
byte w n p m = ts8_is w n m refl refl

halves : {v : ℕ} (w : Fields) → AreNibbles w → IsPadded w → Matches 0x00F00F v w → of_ts8 v w.t w.s (2 * imm8 w / 2) ≡ w
halves w n p m = ts8_is w n m refl (times_back (imm8 w)).0

words : {v : ℕ} (w : Fields) → AreNibbles w → IsPadded w → Matches 0x00F00F v w → of_ts8 v w.t w.s (4 * imm8 w / 4) ≡ w
words w n p m = ts8_is w n m refl (times_back (imm8 w)).1

window : {v : ℕ} (w : Fields) → AreNibbles w → IsPadded w → Matches 0xFF000F v w → rrr v (unsigned 32 (below (4 * w.r) 64) / 4) w.s w.t ≡ w
window w n p m = rrr_is w n m (ap (λ k. k / 4) (below_back 32 (4 * w.r) (omega arith)) ∙ (times_back w.r).1) refl refl

literal : (w : Fields) → AreNibbles w → IsPadded w → Matches 0x00000F 0x000001 w → of_t16 0x000001 w.t (unsigned 131072 (below (4 * imm16 w) 262144) / 4) ≡ w
literal w n p m = t16_is 0x000001 w n (full _ _ n.0 m.at0) refl (ap (λ k. k / 4) (below_back 131072 (4 * imm16 w) (omega arith)) ∙ (times_back (imm16 w)).1)

pages : (k a b : ℕ) → a < 256 → k ≡ a + 256 * b → (k / 256 ≡ b) × (k % 256 ≡ a)
pages k a b h e = (omega arith, omega arith)

movi : (w : Fields) → AreNibbles w → IsPadded w → Matches 0x00F00F 0x00A002 w → of_ts8 0x00A002 w.t (unsigned 2048 (signed 2048 (imm8 w + 256 * w.s)) / 256) (unsigned 2048 (signed 2048 (imm8 w + 256 * w.s)) % 256) ≡ w
movi w n p m =
    let parts = pages (unsigned 2048 (signed 2048 (imm8 w + 256 * w.s))) (imm8 w) w.s (omega arith) (signed_back 2048 (imm8 w + 256 * w.s) (omega arith)) in
    ts8_is w n m parts.0 parts.1

addi : (w : Fields) → AreNibbles w → IsPadded w → Matches 0x00F00F 0x00C002 w → of_ts8 0x00C002 w.t w.s (unsigned 128 (signed 128 (imm8 w))) ≡ w
addi w n p m = ts8_is w n m refl (signed_back 128 (imm8 w) (omega arith))

addmi : (w : Fields) → AreNibbles w → IsPadded w → Matches 0x00F00F 0x00D002 w → of_ts8 0x00D002 w.t w.s (unsigned 32768 (signed 32768 (256 * imm8 w)) / 256) ≡ w
addmi w n p m = ts8_is w n m refl (ap (λ k. k / 256) (signed_back 32768 (256 * imm8 w) (omega arith)) ∙ (times_back (imm8 w)).3)

pub memory_encoded : AllRows IsEncoded memory_rows
memory_encoded =
    (byte, λ w. refl) ▸  -- L8UI
    (byte, λ w. refl) ▸  -- S8I
    (halves, λ w. refl) ▸  -- L16UI
    (halves, λ w. refl) ▸  -- L16SI
    (halves, λ w. refl) ▸  -- S16I
    (words, λ w. refl) ▸  -- L32I
    (words, λ w. refl) ▸  -- S32I
    (words, λ w. refl) ▸  -- L32AI
    (words, λ w. refl) ▸  -- S32RI
    (words, λ w. refl) ▸  -- S32C1I
    (window, λ w. refl) ▸  -- L32E
    (window, λ w. refl) ▸  -- S32E
    (literal, λ w. refl) ▸  -- L32R
    (movi, λ w. refl) ▸  -- MOVI
    (addi, λ w. refl) ▸  -- ADDI
    (addmi, λ w. refl) ▸  -- ADDMI
    tt
