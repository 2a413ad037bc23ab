-- The words of the formats that several tables share, out of their parts.
use Rattle.std.proofs.Common.{◌≡◌, ℕ, ◌*◌, ◌/◌, refl, arith}
use Rattle.xt_isa.specs.declared.Fields.{Fields}
use Rattle.xt_isa.specs.Ranges.{AreNibbles}
use Rattle.xt_isa.specs.Spelling.{imm8, imm12, imm16, nibble}
use Rattle.xt_names.specs.Encodings.{IsPadded}
use Rattle.xt_names.proofs.EncodingWords.{of_none, of_r, of_rs, of_rt, of_s, of_s12, of_sr8, of_t, of_t16, of_ts, of_ts8, rrr}
use Rattle.xt_names.proofs.EncodingParts.{Matches, digit0, digit1, digit2, full, rest1, rest2, rest3, word_is}

pub times_back : (n : ℕ) → (2 * n / 2 ≡ n) × (4 * n / 4 ≡ n) × (8 * n / 8 ≡ n) × (256 * n / 256 ≡ n)
times_back n = (omega arith, omega arith, omega arith, omega arith)

-- ---- Registers, and numbers in their places.
pub rrr_is : {v r s t : ℕ} (w : Fields) → AreNibbles w → Matches 0xFF000F v w → r ≡ w.r → s ≡ w.s → t ≡ w.t → rrr v r s t ≡ w
rrr_is w n m r s t = word_is w (full _ _ n.0 m.at0) t s r (full _ _ n.4 m.at4) (full _ _ n.5 m.at5)

pub all_three : {v : ℕ} (w : Fields) → AreNibbles w → IsPadded w → Matches 0xFF000F v w → rrr v w.r w.s w.t ≡ w
all_three w n p m = rrr_is w n m refl refl refl

pub in_rt : {v : ℕ} (w : Fields) → AreNibbles w → IsPadded w → Matches 0xFF0F0F v w → of_rt v w.r w.t ≡ w
in_rt w n p m = word_is w (full _ _ n.0 m.at0) refl (full _ _ n.2 m.at2) refl (full _ _ n.4 m.at4) (full _ _ n.5 m.at5)

pub in_rs : {v : ℕ} (w : Fields) → AreNibbles w → IsPadded w → Matches 0xFF00FF v w → of_rs v w.r w.s ≡ w
in_rs w n p m = word_is w (full _ _ n.0 m.at0) (full _ _ n.1 m.at1) refl refl (full _ _ n.4 m.at4) (full _ _ n.5 m.at5)

pub in_ts : {v : ℕ} (w : Fields) → AreNibbles w → IsPadded w → Matches 0xFFF00F v w → of_ts v w.t w.s ≡ w
in_ts w n p m = word_is w (full _ _ n.0 m.at0) refl refl (full _ _ n.3 m.at3) (full _ _ n.4 m.at4) (full _ _ n.5 m.at5)

pub in_r : {v : ℕ} (w : Fields) → AreNibbles w → IsPadded w → Matches 0xFF0FFF v w → of_r v w.r ≡ w
in_r w n p m = word_is w (full _ _ n.0 m.at0) (full _ _ n.1 m.at1) (full _ _ n.2 m.at2) refl (full _ _ n.4 m.at4) (full _ _ n.5 m.at5)

pub in_s : {v : ℕ} (w : Fields) → AreNibbles w → IsPadded w → Matches 0xFFF0FF v w → of_s v w.s ≡ w
in_s w n p m = word_is w (full _ _ n.0 m.at0) (full _ _ n.1 m.at1) refl (full _ _ n.3 m.at3) (full _ _ n.4 m.at4) (full _ _ n.5 m.at5)

pub t_is : {v t : ℕ} (w : Fields) → AreNibbles w → Matches 0xFFFF0F v w → t ≡ w.t → of_t v t ≡ w
t_is w n m t = word_is w (full _ _ n.0 m.at0) t (full _ _ n.2 m.at2) (full _ _ n.3 m.at3) (full _ _ n.4 m.at4) (full _ _ n.5 m.at5)

pub in_t : {v : ℕ} (w : Fields) → AreNibbles w → IsPadded w → Matches 0xFFFF0F v w → of_t v w.t ≡ w
in_t w n p m = t_is w n m refl

pub in_none : {v : ℕ} (w : Fields) → AreNibbles w → IsPadded w → Matches 0xFFFFFF v w → of_none v ≡ w
in_none w n p m = word_is w (full _ _ n.0 m.at0) (full _ _ n.1 m.at1) (full _ _ n.2 m.at2) (full _ _ n.3 m.at3) (full _ _ n.4 m.at4) (full _ _ n.5 m.at5)

-- ---- A number of 8, 12 or 16 bits, up to bit 23.
pub ts8_is : {v s k : ℕ} (w : Fields) → AreNibbles w → Matches 0x00F00F v w → s ≡ w.s → k ≡ imm8 w → of_ts8 v w.t s k ≡ w
ts8_is {k = k} w n m s e = word_is w (full _ _ n.0 m.at0) refl s (full _ _ n.3 m.at3) (digit0 k w.op1 w.op2 n.4 e) (rest1 k w.op1 w.op2 n.4 e)

pub sr8_is : {v r k : ℕ} (w : Fields) → AreNibbles w → Matches 0x0000FF v w → r ≡ w.r → k ≡ imm8 w → of_sr8 v w.s r k ≡ w
sr8_is {k = k} w n m r e = word_is w (full _ _ n.0 m.at0) (full _ _ n.1 m.at1) refl r (digit0 k w.op1 w.op2 n.4 e) (rest1 k w.op1 w.op2 n.4 e)

pub s12_is : {v k : ℕ} (w : Fields) → AreNibbles w → Matches 0x0000FF v w → k ≡ imm12 w → of_s12 v w.s k ≡ w
s12_is {k = k} w n m e =
    word_is w (full _ _ n.0 m.at0) (full _ _ n.1 m.at1) refl (digit0 k w.r (imm8 w) n.3 e) (digit1 k w.r w.op1 w.op2 n.3 n.4 e) (rest2 k w.r w.op1 w.op2 n.3 n.4 e)

pub t16_is : (v : ℕ) {t k : ℕ} (w : Fields) → AreNibbles w → nibble v 0 ≡ w.op0 → t ≡ w.t → k ≡ imm16 w → of_t16 v t k ≡ w
t16_is v {k = k} w n o t e =
    word_is w o t (digit0 k w.s (imm12 w) n.2 e) (digit1 k w.s w.r (imm8 w) n.2 n.3 e) (digit2 k w.s w.r w.op1 w.op2 n.2 n.3 n.4 e) (rest3 k w.s w.r w.op1 w.op2 n.2 n.3 n.4 e)
