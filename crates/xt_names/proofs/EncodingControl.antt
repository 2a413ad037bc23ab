-- The rows of jumps, calls, branches, ENTRY and loops, each inverted and of its length.
use Rattle.std.proofs.Common.{◌≡◌, ℕ, ◌+◌, ◌*◌, ◌/◌, ◌%◌, ◌<◌, refl, ap, ◌∙◌, arith}
use Rattle.xt_isa.specs.declared.Fields.{Fields}
use Rattle.xt_isa.specs.Ranges.{AreNibbles}
use Rattle.xt_isa.specs.Apart.{AllRows}
use Rattle.xt_isa.specs.Spelling.{b4const, b4constu, control_rows, five, imm8, imm12, imm16, imm18, signed}
use Rattle.xt_isa.proofs.RowByRow.{◌▸◌}
use Rattle.xt_names.specs.Encodings.{IsPadded}
use Rattle.xt_names.proofs.EncodingWords.{bit, constant, of_18, of_s8, of_s12, of_sr8, of_ts8, unsigned}
use Rattle.xt_names.proofs.EncodingParts.{IsEncoded, Matches, b4const_back, b4constu_back, digit0, full, high_three, low_two, rest1, signed_back, word_is}
use Rattle.xt_names.proofs.EncodingFormats.{in_none, in_s, s12_is, sr8_is, t16_is, times_back, ts8_is}

two_bits : (k q x : ℕ) → q < 4 → k ≡ q + 4 * x → (k % 4 ≡ q) × (k / 4 ≡ x)
two_bits k q x h e = (omega arith, omega arith)

offset18 : {v k : ℕ} (w : Fields) → AreNibbles w → Matches 0x00003F v w → k ≡ imm18 w → of_18 v k ≡ w
offset18 {v = v} {k = k} w n m e =
    let parts = two_bits k (w.t / 4) (imm16 w) (omega arith) e in
    t16_is v w n (full _ _ n.0 m.at0) (low_two w.t _ (k % 4) m.at1 parts.0) parts.1

jump : (w : Fields) → AreNibbles w → IsPadded w → Matches 0x00003F 0x000006 w → of_18 0x000006 (unsigned 131072 (signed 131072 (imm18 w))) ≡ w
jump w n p m = offset18 w n m (signed_back 131072 (imm18 w) (omega arith))

call : {v : ℕ} (w : Fields) → AreNibbles w → IsPadded w → Matches 0x00003F v w → of_18 v (unsigned 524288 (signed 524288 (4 * imm18 w)) / 4) ≡ w
call w n p m = offset18 w n m (ap (λ k. k / 4) (signed_back 524288 (4 * imm18 w) (omega arith)) ∙ (times_back (imm18 w)).1)

beqz : {v : ℕ} (w : Fields) → AreNibbles w → IsPadded w → Matches 0x0000FF v w → of_s12 v w.s (unsigned 2048 (signed 2048 (imm12 w))) ≡ w
beqz w n p m = s12_is w n m (signed_back 2048 (imm12 w) (omega arith))

pub near : (w : Fields) → AreNibbles w → unsigned 128 (signed 128 (imm8 w)) ≡ imm8 w
near w n = signed_back 128 (imm8 w) (omega arith)

beqi : {v : ℕ} (w : Fields) → AreNibbles w → IsPadded w → Matches 0x0000FF v w → of_sr8 v w.s (constant (b4const w.r)) (unsigned 128 (signed 128 (imm8 w))) ≡ w
beqi w n p m = sr8_is w n m (b4const_back w.r n.3) (near w n)

bltui : {v : ℕ} (w : Fields) → AreNibbles w → IsPadded w → Matches 0x0000FF v w → of_sr8 v w.s (constant (b4constu w.r)) (unsigned 128 (signed 128 (imm8 w))) ≡ w
bltui w n p m = sr8_is w n m (b4constu_back w.r n.3) (near w n)

branch : {v : ℕ} (w : Fields) → AreNibbles w → IsPadded w → Matches 0x00F00F v w → of_ts8 v w.t w.s (unsigned 128 (signed 128 (imm8 w))) ≡ w
branch w n p m = ts8_is w n m refl (near w n)

bbci : {v : ℕ} (w : Fields) → AreNibbles w → IsPadded w → Matches 0x00E00F v w → bit v w.s (five w.t w.r) (unsigned 128 (signed 128 (imm8 w))) ≡ w
bbci w n p m =
    word_is w (full _ _ n.0 m.at0) (digit0 _ w.t (w.r % 2) n.1 refl) refl (high_three w.r _ _ n.3 m.at3 (rest1 _ w.t (w.r % 2) n.1 refl))
    (digit0 _ w.op1 w.op2 n.4 (near w n)) (rest1 _ w.op1 w.op2 n.4 (near w n))

entry : (w : Fields) → AreNibbles w → IsPadded w → Matches 0x0000FF 0x000036 w → of_s12 0x000036 w.s (8 * imm12 w / 8) ≡ w
entry w n p m = s12_is w n m (times_back (imm12 w)).2

loops : {v : ℕ} (w : Fields) → AreNibbles w → IsPadded w → Matches 0x00F0FF v w → of_s8 v w.s (imm8 w) ≡ w
loops w n p m =
    word_is w (full _ _ n.0 m.at0) (full _ _ n.1 m.at1) refl (full _ _ n.3 m.at3) (digit0 _ w.op1 w.op2 n.4 refl) (rest1 _ w.op1 w.op2 n.4 refl)

pub control_encoded : AllRows IsEncoded control_rows
control_encoded =
    (jump, λ w. refl) ▸  -- J
    (call, λ w. refl) ▸  -- CALL0
    (call, λ w. refl) ▸  -- CALL4
    (call, λ w. refl) ▸  -- CALL8
    (call, λ w. refl) ▸  -- CALL12
    (in_none, λ w. refl) ▸  -- RET
    (in_none, λ w. refl) ▸  -- RETW
    (in_s, λ w. refl) ▸  -- JX
    (in_s, λ w. refl) ▸  -- CALLX0
    (in_s, λ w. refl) ▸  -- CALLX4
    (in_s, λ w. refl) ▸  -- CALLX8
    (in_s, λ w. refl) ▸  -- CALLX12
    (beqz, λ w. refl) ▸  -- BEQZ
    (beqz, λ w. refl) ▸  -- BNEZ
    (beqz, λ w. refl) ▸  -- BLTZ
    (beqz, λ w. refl) ▸  -- BGEZ
    (beqi, λ w. refl) ▸  -- BEQI
    (beqi, λ w. refl) ▸  -- BNEI
    (beqi, λ w. refl) ▸  -- BLTI
    (beqi, λ w. refl) ▸  -- BGEI
    (bltui, λ w. refl) ▸  -- BLTUI
    (bltui, λ w. refl) ▸  -- BGEUI
    (branch, λ w. refl) ▸  -- BNONE
    (branch, λ w. refl) ▸  -- BEQ
    (branch, λ w. refl) ▸  -- BLT
    (branch, λ w. refl) ▸  -- BLTU
    (branch, λ w. refl) ▸  -- BALL
    (branch, λ w. refl) ▸  -- BBC
    (branch, λ w. refl) ▸  -- BANY
    (branch, λ w. refl) ▸  -- BNE
    (branch, λ w. refl) ▸  -- BGE
    (branch, λ w. refl) ▸  -- BGEU
    (branch, λ w. refl) ▸  -- BNALL
    (branch, λ w. refl) ▸  -- BBS
    (bbci, λ w. refl) ▸  -- BBCI
    (bbci, λ w. refl) ▸  -- BBSI
    (entry, λ w. refl) ▸  -- ENTRY
    (loops, λ w. refl) ▸  -- LOOP
    (loops, λ w. refl) ▸  -- LOOPNEZ
    (loops, λ w. refl) ▸  -- LOOPGTZ
    tt
