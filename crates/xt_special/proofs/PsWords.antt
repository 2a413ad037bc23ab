-- PS as a word, and its fields.
use Rattle.std.proofs.Common.{◌≡◌, ℕ, zero, suc, ◌+◌, ◌-◌, ◌*◌, ◌/◌, ◌%◌, ◌^◌, ◌<◌, Bool, true, false, refl, ap, ◌∙◌, sym, arith, bit_and}
use Rattle.std.specs.Prelude.{◌==◌}
use Rattle.std.proofs.lemmas.Nat.{and_block, and_mask}
use Rattle.std.proofs.lemmas.Nat.Bits.{and_high}
use Rattle.xt_special.specs.declared.ps.Ps.{Ps}
use Rattle.xt_special.specs.Control.{bit_of, ps_of, ps_word}
use Rattle.xt_special.specs.Shape.{IsPs}

-- ---- a word from fields

bit_fits : (b : Bool) → bit_of b < 2
bit_fits true = omega arith
bit_fits false = omega arith

same_bool : (b : Bool) (n : ℕ) → n ≡ bit_of b → (n == 1) ≡ b
same_bool true n e = ap (λ m. m == 1) e
same_bool false n e = ap (λ m. m == 1) e

abbrev word_of : (i e u r o c v : ℕ) → ℕ
word_of i e u r o c v = i + 2 ^ 4 * e + 2 ^ 5 * u + 2 ^ 6 * r + 2 ^ 8 * o + 2 ^ 16 * c + 2 ^ 18 * v

record Digits (i e u r o c v : ℕ) : Type 0 where
  intlevel : word_of i e u r o c v % 16 ≡ i
  excm : word_of i e u r o c v / 2 ^ 4 % 2 ≡ e
  um : word_of i e u r o c v / 2 ^ 5 % 2 ≡ u
  ring : word_of i e u r o c v / 2 ^ 6 % 4 ≡ r
  owb : word_of i e u r o c v / 2 ^ 8 % 16 ≡ o
  callinc : word_of i e u r o c v / 2 ^ 16 % 4 ≡ c
  woe : word_of i e u r o c v / 2 ^ 18 % 2 ≡ v

digits : (i e u r o c v : ℕ) → i < 16 → e < 2 → u < 2 → r < 4 → o < 16 → c < 4 → v < 2 → Digits i e u r o c v
digits i e u r o c v hi he hu hr ho hc hv = record {
  intlevel = omega arith;
  excm = omega arith;
  um = omega arith;
  ring = omega arith;
  owb = omega arith;
  callinc = omega arith;
  woe = omega arith;
}

abbrev made : ℕ → Bool → Bool → ℕ → ℕ → ℕ → Bool → Ps
made i e u r o c v = record { intlevel = i; excm = e; um = u; ring = r; owb = o; callinc = c; woe = v }

same_made : (i i' : ℕ) (e e' u u' : Bool) (r r' o o' c c' : ℕ) (v v' : Bool) → i ≡ i' → e ≡ e' → u ≡ u' → r ≡ r' → o ≡ o' → c ≡ c' → v ≡ v'
    → made i e u r o c v ≡ made i' e' u' r' o' c' v'
same_made i i' e e' u u' r r' o o' c c' v v' pi pe pu pr po pc pv = cc

pub of_word_of_fields : (ps : Ps) → IsPs ps → ps_of (ps_word ps) ≡ ps
unfolding ps_of ps_word
of_word_of_fields ps h =
    let d = digits ps.intlevel (bit_of ps.excm) (bit_of ps.um) ps.ring ps.owb ps.callinc (bit_of ps.woe)
    h.intlevel_fits (bit_fits ps.excm) (bit_fits ps.um) h.ring_fits h.owb_fits h.callinc_fits (bit_fits ps.woe) in
    same_made _ ps.intlevel _ ps.excm _ ps.um _ ps.ring _ ps.owb _ ps.callinc _ ps.woe
    d.intlevel (same_bool ps.excm _ d.excm) (same_bool ps.um _ d.um) d.ring d.owb d.callinc (same_bool ps.woe _ d.woe)

-- ---- fields from a word

bit_back : (n : ℕ) → n < 2 → bit_of (n == 1) ≡ n
bit_back zero h = refl
bit_back (suc zero) h = refl
bit_back (suc (suc n)) h = absurd (omega arith)

kept_bits : (w : ℕ) → bit_and w 0x70FFF ≡ w / 2 ^ 16 % 8 * 2 ^ 16 + w % 2 ^ 12
kept_bits w =
    let high : bit_and (w / 2 ^ 12) (2 ^ 7 - 2 ^ 4) ≡ (w / 2 ^ 12 / 2 ^ 4 % 2 ^ 3) * 2 ^ 4 = and_high (w / 2 ^ 12) 3 4 in
    let low : bit_and (w % 2 ^ 12) (2 ^ 12 - 1) ≡ w % 2 ^ 12 % 2 ^ 12 = and_mask (w % 2 ^ 12) 12 in
    let block : bit_and (w / 2 ^ 12 * 2 ^ 12 + w % 2 ^ 12) (0x70 * 2 ^ 12 + 0xFFF) ≡ bit_and (w / 2 ^ 12) 0x70 * 2 ^ 12 + bit_and (w % 2 ^ 12) 0xFFF =
    and_block 12 (w / 2 ^ 12) 0x70 (w % 2 ^ 12) 0xFFF (omega arith) (omega arith) in
    let whole : w / 2 ^ 12 * 2 ^ 12 + w % 2 ^ 12 ≡ w = omega arith in
    ap (λ n. bit_and n 0x70FFF) (sym whole) ∙ (block ∙ omega arith)

pub word_of_fields_of : (w : ℕ) → w < 2 ^ 32 → ps_word (ps_of w) ≡ bit_and w 0x70FFF
unfolding ps_of ps_word
word_of_fields_of w h =
    let e = bit_back (w / 2 ^ 4 % 2) (omega arith) in
    let u = bit_back (w / 2 ^ 5 % 2) (omega arith) in
    let v = bit_back (w / 2 ^ 18 % 2) (omega arith) in
    let k = kept_bits w in
    omega arith
