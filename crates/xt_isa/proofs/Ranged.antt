-- Whatever a row spells is in range.
use Rattle.std.proofs.Common.{◌≡◌, ℕ, zero, suc, ◌/◌, ◌<◌, ◌+◌, ◌-◌, ◌*◌, ◌%◌, Bool, true, false, ◌&&◌, cond, ltb, leb, eqb, not, List, [], ◌∷◌, Some, None, refl, sym, subst, ap, ◌∙◌, arith, pos, negsuc, ◌≤◌}
use Rattle.std.proofs.lemmas.Bool.Decides.{nat_tests}
use Rattle.std.proofs.lemmas.Bool.{and_from, and_parts, lt-ltb, le-leb, ltb-true, ltb-false, eq-eqb, cond-true, cond_both, eqb-false, not-true, agree_below_at}
use Rattle.std.proofs.lemmas.Int.{ints}
use Rattle.xt_isa.specs.declared.system.System.TheVariants as system
use Rattle.xt_isa.specs.declared.system.SpecialName.TheVariants as special
use Rattle.xt_isa.specs.declared.Insn.TheVariants as insn
use Rattle.xt_isa.specs.declared.shift.Shift.TheVariants as shift
use Rattle.xt_isa.specs.declared.boolean.Boolean.TheVariants as boolean
use Rattle.xt_isa.specs.declared.boolean.FourName.{FourName}
use Rattle.xt_isa.specs.declared.boolean.EightName.{EightName}
use Rattle.xt_isa.specs.declared.Insn.{Insn}
use Rattle.xt_isa.specs.declared.Fields.{Fields}
use Rattle.xt_isa.specs.Apart.{AllRows}
use Rattle.xt_isa.specs.Spelling.{fields_at, spelled_insn, all_rows, Row, fits, spell, five, eight, imm8, imm12, imm16, imm18, below, signed, b4const, b4constu, minus_one_or, narrow_constant, can_read, can_write, can_exchange}
use Rattle.xt_isa.proofs.RowByRow.{◌▸◌}
use Rattle.xt_isa.specs.Ranges.{AreNibbles, in_range, one_register, two_registers, three_registers, natural_within, signed_within, multiple_within, window_within, literal_within, page_within, call_within, is_b4const, is_b4constu, small_within, narrow_within, holds, HasSpelling}

abbrev pub Ranged : Row → Type 0
Ranged row = (w : Fields) → AreNibbles w → holds (row.operands w) ≡ true

pub spell_ranged : (rows : List Row) → AllRows Ranged rows → (w : Fields) → AreNibbles w → holds (spell rows w) ≡ true
spell_ranged [] a w n = refl
spell_ranged (row ∷ rows) a w n =
    elim (fits row w) as (λ b. holds (elim b [ true ↦ row.operands w | false ↦ spell rows w ]) ≡ true) [ true ↦ a.0 w n | false ↦ spell_ranged rows a.1 w n ]

three : (w : Fields) → AreNibbles w → three_registers w.r w.s w.t ≡ true
unfolding three_registers
three w n = grind (arith, nat_tests)

pair : (a b : ℕ) → a < 16 → b < 16 → two_registers a b ≡ true
unfolding two_registers
pair a b p q = grind (arith, nat_tests)

pair_rt : (w : Fields) → AreNibbles w → two_registers w.r w.t ≡ true
pair_rt w n = pair _ _ (omega arith) (omega arith)

pair_rs : (w : Fields) → AreNibbles w → two_registers w.r w.s ≡ true
pair_rs w n = pair _ _ (omega arith) (omega arith)

pair_ts : (w : Fields) → AreNibbles w → two_registers w.t w.s ≡ true
pair_ts w n = pair _ _ (omega arith) (omega arith)

single : (w : Fields) → AreNibbles w → one_register w.s ≡ true
unfolding one_register
single w n = grind (arith, nat_tests)

within : (first last n : ℕ) → leb first n ≡ true → leb n last ≡ true → natural_within first last (pos n) ≡ true
unfolding natural_within
within first last n p q = and_from _ _ p q

five_below : (a b : ℕ) → a < 16 → leb (five a b) 31 ≡ true
five_below a b p = le-leb _ _ (omega arith)

slli : (w : Fields) → AreNibbles w → holds (cond (not (eqb (five w.t w.op2) 0)) (Some (insn.Shift (shift.Slli w.r w.s (pos (32 - five w.t w.op2))))) None) ≡ true
slli w n =
    cond_both (not (eqb (five w.t w.op2) 0)) (Some (insn.Shift (shift.Slli w.r w.s (pos (32 - five w.t w.op2))))) None (λ o. holds o ≡ true)
    (λ h. let nonzero : five w.t w.op2 ≡ 0 → ⊥ = eqb-false _ _ (not-true _ h) in and_from _ _ (pair_rs w n) (within 1 31 _ (le-leb _ _ (omega (arith, nonzero))) (le-leb _ _ (omega (arith, nonzero)))))
    (λ h. refl)

srai : (w : Fields) → AreNibbles w → (two_registers w.r w.t && natural_within 0 31 (pos (five w.s w.op2))) ≡ true
srai w n = and_from _ _ (pair_rt w n) (within 0 31 _ (le-leb _ _ (omega arith)) (five_below _ _ (omega arith)))

srli : (w : Fields) → AreNibbles w → (two_registers w.r w.t && natural_within 0 15 (pos w.s)) ≡ true
srli w n = and_from _ _ (pair_rt w n) (within 0 15 _ (le-leb _ _ (omega arith)) (le-leb _ _ (omega arith)))

extui : (w : Fields) → AreNibbles w → (two_registers w.r w.t && (natural_within 0 31 (pos (five w.s w.op1)) && natural_within 1 16 (pos (w.op2 + 1)))) ≡ true
extui w n = and_from _ _ (pair_rt w n) (and_from _ _ (within 0 31 _ (le-leb _ _ (omega arith)) (five_below _ _ (omega arith))) (within 1 16 _ (le-leb _ _ (omega arith)) (le-leb _ _ (omega arith))))

sext : (w : Fields) → AreNibbles w → (two_registers w.r w.s && natural_within 7 22 (pos (w.t + 7))) ≡ true
sext w n = and_from _ _ (pair_rs w n) (within 7 22 _ (le-leb _ _ (omega arith)) (le-leb _ _ (omega arith)))

ssai : (w : Fields) → AreNibbles w → natural_within 0 31 (pos (five w.s w.t)) ≡ true
ssai w n = within 0 31 _ (le-leb _ _ (omega arith)) (five_below _ _ (omega arith))

pub below_negative : (n k : ℕ) → n < k → below n k ≡ negsuc (k - suc n)
below_negative n zero h = absurd (omega arith)
below_negative n (suc k) h = cond-true (ltb n (suc k)) (negsuc (suc k - suc n)) (pos (n - suc k)) (lt-ltb n (suc k) h)

signed_ok : (half n : ℕ) → 0 < half → n < 2 * half → signed_within half (signed half n) ≡ true
unfolding signed signed_within
signed_ok half n p h =
    cond_both (ltb n half) (pos n) (below n (2 * half)) (λ z. signed_within half z ≡ true) (λ e. e)
    (λ e. ap (signed_within half) (below_negative n (2 * half) h) ∙ lt-ltb _ _ (omega (arith, ltb-false _ _ e)))

imm8_below : (w : Fields) → AreNibbles w → imm8 w < 256
imm8_below w n = omega arith

imm12_below : (w : Fields) → AreNibbles w → imm12 w < 4096
imm12_below w n = omega arith

twice : (m : ℕ) → m < 256 → multiple_within 2 256 (pos (2 * m)) ≡ true
unfolding multiple_within
twice m h = and_from _ _ (eq-eqb (2 * m % 2) 0 (omega arith)) (lt-ltb (2 * m / 2) 256 (omega arith))

four_times : (end m : ℕ) → m < end → multiple_within 4 end (pos (4 * m)) ≡ true
unfolding multiple_within
four_times end m h = and_from _ _ (eq-eqb (4 * m % 4) 0 (omega arith)) (lt-ltb (4 * m / 4) end (omega arith))

eight_times : (m : ℕ) → m < 4096 → multiple_within 8 4096 (pos (8 * m)) ≡ true
unfolding multiple_within
eight_times m h = and_from _ _ (eq-eqb (8 * m % 8) 0 (omega arith)) (lt-ltb (8 * m / 8) 4096 (omega arith))

natural_low : (last n : ℕ) → n ≤ last → natural_within 0 last (pos n) ≡ true
natural_low last n h = within 0 last n (le-leb _ _ (omega arith)) (le-leb _ _ h)

single_t : (w : Fields) → AreNibbles w → one_register w.t ≡ true
unfolding one_register
single_t w n = grind (arith, nat_tests)

single_r : (w : Fields) → AreNibbles w → one_register w.r ≡ true
unfolding one_register
single_r w n = grind (arith, nat_tests)

pair_st : (w : Fields) → AreNibbles w → two_registers w.s w.t ≡ true
pair_st w n = pair _ _ (omega arith) (omega arith)

byte : (w : Fields) → AreNibbles w → (two_registers w.t w.s && natural_within 0 255 (pos (imm8 w))) ≡ true
byte w n = and_from _ _ (pair_ts w n) (natural_low 255 _ (omega arith))

halves : (w : Fields) → AreNibbles w → (two_registers w.t w.s && multiple_within 2 256 (pos (2 * imm8 w))) ≡ true
halves w n = and_from _ _ (pair_ts w n) (twice _ (imm8_below w n))

words : (w : Fields) → AreNibbles w → (two_registers w.t w.s && multiple_within 4 256 (pos (4 * imm8 w))) ≡ true
words w n = and_from _ _ (pair_ts w n) (four_times 256 _ (imm8_below w n))

window_ok : (r : ℕ) → r < 16 → window_within (below (4 * r) 64) ≡ true
unfolding window_within
window_ok r h = agree_below_at (λ r. window_within (below (4 * r) 64)) (λ _. true) 16 r refl h

window : (w : Fields) → AreNibbles w → (two_registers w.t w.s && window_within (below (4 * w.r) 64)) ≡ true
window w n = and_from _ _ (pair_ts w n) (window_ok w.r n.3)

literal_ok : (m : ℕ) → m < 65536 → literal_within (below (4 * m) 262144) ≡ true
unfolding literal_within
literal_ok m h =
    ap literal_within (below_negative (4 * m) 262144 (omega arith)) ∙ and_from _ _ (eq-eqb ((262144 - suc (4 * m) + 1) % 4) 0 (omega arith)) (lt-ltb (262144 - suc (4 * m)) 262144 (omega arith))

literal : (w : Fields) → AreNibbles w → (one_register w.t && literal_within (below (4 * imm16 w) 262144)) ≡ true
literal w n = and_from _ _ (single_t w n) (literal_ok (imm16 w) (omega arith))

movi : (w : Fields) → AreNibbles w → (one_register w.t && signed_within 2048 (signed 2048 (imm8 w + 256 * w.s))) ≡ true
movi w n = and_from _ _ (single_t w n) (signed_ok 2048 _ (omega arith) (omega arith))

addi : (w : Fields) → AreNibbles w → (two_registers w.t w.s && signed_within 128 (signed 128 (imm8 w))) ≡ true
addi w n = and_from _ _ (pair_ts w n) (signed_ok 128 _ (omega arith) (omega arith))

page_ok : (m : ℕ) → m < 256 → page_within (signed 32768 (256 * m)) ≡ true
unfolding signed page_within
page_ok m h = agree_below_at (λ m. page_within (signed 32768 (256 * m))) (λ _. true) 256 m refl h

addmi : (w : Fields) → AreNibbles w → (two_registers w.t w.s && page_within (signed 32768 (256 * imm8 w))) ≡ true
addmi w n = and_from _ _ (pair_ts w n) (page_ok _ (imm8_below w n))

jump : (w : Fields) → AreNibbles w → signed_within 131072 (signed 131072 (imm18 w)) ≡ true
jump w n = signed_ok 131072 _ (omega arith) (omega arith)

call_ok : (m : ℕ) → m < 262144 → call_within (signed 524288 (4 * m)) ≡ true
unfolding signed call_within
call_ok m h = grind (arith, ints, nat_tests)

call : (w : Fields) → AreNibbles w → call_within (signed 524288 (4 * imm18 w)) ≡ true
call w n = call_ok _ (omega arith)

beqz : (w : Fields) → AreNibbles w → (one_register w.s && signed_within 2048 (signed 2048 (imm12 w))) ≡ true
beqz w n = and_from _ _ (single w n) (signed_ok 2048 _ (omega arith) (omega arith))

constant_ok : (r : ℕ) → r < 16 → is_b4const (b4const r) ≡ true
unfolding b4const is_b4const
constant_ok r h = agree_below_at (λ r. is_b4const (b4const r)) (λ _. true) 16 r refl h

constantu_ok : (r : ℕ) → r < 16 → is_b4constu (b4constu r) ≡ true
unfolding b4constu is_b4constu
constantu_ok r h = agree_below_at (λ r. is_b4constu (b4constu r)) (λ _. true) 16 r refl h

beqi : (w : Fields) → AreNibbles w → (one_register w.s && (is_b4const (b4const w.r) && signed_within 128 (signed 128 (imm8 w)))) ≡ true
beqi w n = and_from _ _ (single w n) (and_from _ _ (constant_ok w.r n.3) (signed_ok 128 _ (omega arith) (omega arith)))

bltui : (w : Fields) → AreNibbles w → (one_register w.s && (is_b4constu (b4constu w.r) && signed_within 128 (signed 128 (imm8 w)))) ≡ true
bltui w n = and_from _ _ (single w n) (and_from _ _ (constantu_ok w.r n.3) (signed_ok 128 _ (omega arith) (omega arith)))

branch : (w : Fields) → AreNibbles w → (two_registers w.s w.t && signed_within 128 (signed 128 (imm8 w))) ≡ true
branch w n = and_from _ _ (pair_st w n) (signed_ok 128 _ (omega arith) (omega arith))

bbci : (w : Fields) → AreNibbles w → (one_register w.s && (natural_within 0 31 (pos (five w.t w.r)) && signed_within 128 (signed 128 (imm8 w)))) ≡ true
bbci w n = and_from _ _ (single w n) (and_from _ _ (natural_low 31 _ (omega arith)) (signed_ok 128 _ (omega arith) (omega arith)))

entry : (w : Fields) → AreNibbles w → (one_register w.s && multiple_within 8 4096 (pos (8 * imm12 w))) ≡ true
entry w n = and_from _ _ (single w n) (eight_times _ (imm12_below w n))

loops : (w : Fields) → AreNibbles w → (one_register w.s && natural_within 0 255 (pos (imm8 w))) ≡ true
loops w n = and_from _ _ (single w n) (natural_low 255 _ (omega arith))

guarded : (b : Bool) (i : Insn) → (b ≡ true → in_range i ≡ true) → holds (cond b (Some i) None) ≡ true
guarded b i h = cond_both b (Some i) None (λ o. holds o ≡ true) h (λ _. refl)

rfi : (w : Fields) → AreNibbles w → holds (cond (ltb 1 w.s && ltb w.s 8) (Some (insn.System (system.Rfi (pos w.s)))) None) ≡ true
rfi w n = guarded (ltb 1 w.s && ltb w.s 8) (insn.System (system.Rfi (pos w.s))) (λ h. let parts = and_parts (ltb 1 w.s) (ltb w.s 8) h in within 2 7 w.s (le-leb 2 w.s (omega (arith, ltb-true 1 w.s parts.0))) (le-leb w.s 7 (omega (arith, ltb-true w.s 8 parts.1))))

breaks : (w : Fields) → AreNibbles w → (natural_within 0 15 (pos w.s) && natural_within 0 15 (pos w.t)) ≡ true
breaks w n = and_from _ _ (natural_low 15 _ (omega arith)) (natural_low 15 _ (omega arith))

syscall : (w : Fields) → AreNibbles w → (natural_within 0 0 (pos 0) && natural_within 0 0 (pos 0)) ≡ true
unfolding natural_within
syscall w n = refl

rsil : (w : Fields) → AreNibbles w → (one_register w.t && natural_within 0 15 (pos w.s)) ≡ true
rsil w n = and_from _ _ (single_t w n) (natural_low 15 _ (omega arith))

waiti : (w : Fields) → AreNibbles w → natural_within 0 15 (pos w.s) ≡ true
waiti w n = natural_low 15 _ (omega arith)

rotw : (w : Fields) → AreNibbles w → signed_within 8 (signed 8 w.t) ≡ true
rotw w n = signed_ok 8 _ (omega arith) (omega arith)

rsr : (w : Fields) → AreNibbles w → holds (cond (can_read (eight w)) (Some (insn.System (system.Special special.Rsr w.t (eight w)))) None) ≡ true
rsr w n = guarded (can_read (eight w)) (insn.System (system.Special special.Rsr w.t (eight w))) (λ h. and_from _ _ (single_t w n) h)

wsr : (w : Fields) → AreNibbles w → holds (cond (can_write (eight w)) (Some (insn.System (system.Special special.Wsr w.t (eight w)))) None) ≡ true
wsr w n = guarded (can_write (eight w)) (insn.System (system.Special special.Wsr w.t (eight w))) (λ h. and_from _ _ (single_t w n) h)

xsr : (w : Fields) → AreNibbles w → holds (cond (can_exchange (eight w)) (Some (insn.System (system.Special special.Xsr w.t (eight w)))) None) ≡ true
xsr w n = guarded (can_exchange (eight w)) (insn.System (system.Special special.Xsr w.t (eight w))) (λ h. and_from _ _ (single_t w n) h)

rur : (w : Fields) → AreNibbles w → (one_register w.r && true) ≡ true
rur w n = and_from _ _ (single_r w n) refl

wur : (w : Fields) → AreNibbles w → (one_register w.t && true) ≡ true
wur w n = and_from _ _ (single_t w n) refl

narrow_words : (w : Fields) → AreNibbles w → (two_registers w.t w.s && multiple_within 4 16 (pos (4 * w.r))) ≡ true
narrow_words w n = and_from _ _ (pair_ts w n) (four_times 16 _ n.3)

small_ok : (t : ℕ) → t < 16 → small_within (minus_one_or t) ≡ true
unfolding minus_one_or small_within
small_ok t h = agree_below_at (λ t. small_within (minus_one_or t)) (λ _. true) 16 t refl h

narrow_addi : (w : Fields) → AreNibbles w → (two_registers w.r w.s && small_within (minus_one_or w.t)) ≡ true
narrow_addi w n = and_from _ _ (pair_rs w n) (small_ok w.t n.1)

narrow_ok : (v : ℕ) → v < 128 → narrow_within (narrow_constant v) ≡ true
unfolding narrow_constant narrow_within
narrow_ok v h = agree_below_at (λ v. narrow_within (narrow_constant v)) (λ _. true) 128 v refl h

narrow_movi : (w : Fields) → AreNibbles w → (one_register w.s && narrow_within (narrow_constant (w.r + 16 * (w.t % 8)))) ≡ true
narrow_movi w n = and_from _ _ (single w n) (narrow_ok _ (omega arith))

narrow_beqz : (w : Fields) → AreNibbles w → (one_register w.s && natural_within 0 63 (pos (w.r + 16 * (w.t % 4)))) ≡ true
narrow_beqz w n = and_from _ _ (single w n) (natural_low 63 _ (omega arith))

narrow_break : (w : Fields) → AreNibbles w → natural_within 0 15 (pos w.s) ≡ true
narrow_break w n = natural_low 15 _ (omega arith)

-- four or eight Boolean registers from a multiple of 4 or 8
four : (name : FourName) (w : Fields) → AreNibbles w → holds (cond (eqb (w.s % 4) 0) (Some (insn.Boolean (boolean.Four name w.t w.s))) None) ≡ true
four name w n = guarded (eqb (w.s % 4) 0) (insn.Boolean (boolean.Four name w.t w.s)) (λ h. and_from _ _ (pair_ts w n) h)

eight_registers : (name : EightName) (w : Fields) → AreNibbles w → holds (cond (eqb (w.s % 8) 0) (Some (insn.Boolean (boolean.Eight name w.t w.s))) None) ≡ true
eight_registers name w n = guarded (eqb (w.s % 8) 0) (insn.Boolean (boolean.Eight name w.t w.s)) (λ h. and_from _ _ (pair_ts w n) h)

test : (w : Fields) → AreNibbles w → (one_register w.s && signed_within 128 (signed 128 (imm8 w))) ≡ true
test w n = and_from _ _ (single w n) (signed_ok 128 _ (omega arith) (omega arith))

rows_ranged : AllRows Ranged all_rows
unfolding all_rows
rows_ranged =
    -- three registers
    three ▸  -- AND
    three ▸  -- OR
    three ▸  -- XOR
    three ▸  -- ADD
    three ▸  -- ADDX2
    three ▸  -- ADDX4
    three ▸  -- ADDX8
    three ▸  -- SUB
    three ▸  -- SUBX2
    three ▸  -- SUBX4
    three ▸  -- SUBX8
    three ▸  -- SRC
    three ▸  -- MUL16U
    three ▸  -- MUL16S
    three ▸  -- MULL
    three ▸  -- MULUH
    three ▸  -- MULSH
    three ▸  -- QUOU
    three ▸  -- QUOS
    three ▸  -- REMU
    three ▸  -- REMS
    three ▸  -- MIN
    three ▸  -- MAX
    three ▸  -- MINU
    three ▸  -- MAXU
    three ▸  -- MOVEQZ
    three ▸  -- MOVNEZ
    three ▸  -- MOVLTZ
    three ▸  -- MOVGEZ
    -- shifts, and one source
    pair_rt ▸  -- NEG
    pair_rt ▸  -- ABS
    pair_rt ▸  -- SRL
    pair_rt ▸  -- SRA
    pair_rs ▸  -- SLL
    slli ▸  -- SLLI
    srai ▸  -- SRAI
    srli ▸  -- SRLI
    extui ▸  -- EXTUI
    sext ▸  -- SEXT
    sext ▸  -- CLAMPS
    pair_ts ▸  -- NSA
    pair_ts ▸  -- NSAU
    pair_ts ▸  -- MOVSP
    single ▸  -- SSR
    single ▸  -- SSL
    single ▸  -- SSA8L
    single ▸  -- SSA8B
    ssai ▸  -- SSAI
    -- loads, stores and immediates
    byte ▸  -- L8UI
    byte ▸  -- S8I
    halves ▸  -- L16UI
    halves ▸  -- L16SI
    halves ▸  -- S16I
    words ▸  -- L32I
    words ▸  -- S32I
    words ▸  -- L32AI
    words ▸  -- S32RI
    words ▸  -- S32C1I
    window ▸  -- L32E
    window ▸  -- S32E
    literal ▸  -- L32R
    movi ▸  -- MOVI
    addi ▸  -- ADDI
    addmi ▸  -- ADDMI
    -- control
    jump ▸  -- J
    call ▸  -- CALL0
    call ▸  -- CALL4
    call ▸  -- CALL8
    call ▸  -- CALL12
    (λ w n. refl) ▸  -- RET
    (λ w n. refl) ▸  -- RETW
    single ▸  -- JX
    single ▸  -- CALLX0
    single ▸  -- CALLX4
    single ▸  -- CALLX8
    single ▸  -- CALLX12
    beqz ▸  -- BEQZ
    beqz ▸  -- BNEZ
    beqz ▸  -- BLTZ
    beqz ▸  -- BGEZ
    beqi ▸  -- BEQI
    beqi ▸  -- BNEI
    beqi ▸  -- BLTI
    beqi ▸  -- BGEI
    bltui ▸  -- BLTUI
    bltui ▸  -- BGEUI
    branch ▸  -- BNONE
    branch ▸  -- BEQ
    branch ▸  -- BLT
    branch ▸  -- BLTU
    branch ▸  -- BALL
    branch ▸  -- BBC
    branch ▸  -- BANY
    branch ▸  -- BNE
    branch ▸  -- BGE
    branch ▸  -- BGEU
    branch ▸  -- BNALL
    branch ▸  -- BBS
    bbci ▸  -- BBCI
    bbci ▸  -- BBSI
    entry ▸  -- ENTRY
    loops ▸  -- LOOP
    loops ▸  -- LOOPNEZ
    loops ▸  -- LOOPGTZ
    -- system
    (λ w n. refl) ▸  -- ILL
    (λ w n. refl) ▸  -- ISYNC
    (λ w n. refl) ▸  -- RSYNC
    (λ w n. refl) ▸  -- ESYNC
    (λ w n. refl) ▸  -- DSYNC
    (λ w n. refl) ▸  -- EXCW
    (λ w n. refl) ▸  -- MEMW
    (λ w n. refl) ▸  -- EXTW
    (λ w n. refl) ▸  -- NOP
    (λ w n. refl) ▸  -- RFE
    (λ w n. refl) ▸  -- RFDE
    (λ w n. refl) ▸  -- RFWO
    (λ w n. refl) ▸  -- RFWU
    rfi ▸  -- RFI
    breaks ▸  -- BREAK
    syscall ▸  -- SYSCALL
    rsil ▸  -- RSIL
    waiti ▸  -- WAITI
    rotw ▸  -- ROTW
    rsr ▸  -- RSR
    wsr ▸  -- WSR
    xsr ▸  -- XSR
    rur ▸  -- RUR
    wur ▸  -- WUR
    -- 16 bits
    narrow_words ▸  -- L32I.N
    narrow_words ▸  -- S32I.N
    three ▸  -- ADD.N
    narrow_addi ▸  -- ADDI.N
    narrow_movi ▸  -- MOVI.N
    narrow_beqz ▸  -- BEQZ.N
    narrow_beqz ▸  -- BNEZ.N
    pair_ts ▸  -- MOV.N
    (λ w n. refl) ▸  -- RET.N
    (λ w n. refl) ▸  -- RETW.N
    (λ w n. refl) ▸  -- NOP.N
    (λ w n. refl) ▸  -- ILL.N
    narrow_break ▸  -- BREAK.N
    -- Boolean registers
    three ▸  -- ANDB
    three ▸  -- ANDBC
    three ▸  -- ORB
    three ▸  -- ORBC
    three ▸  -- XORB
    four _ ▸  -- ANY4
    four _ ▸  -- ALL4
    eight_registers _ ▸  -- ANY8
    eight_registers _ ▸  -- ALL8
    test ▸  -- BF
    test ▸  -- BT
    three ▸  -- MOVF
    three ▸  -- MOVT
    tt

pub all_ranged : (w : Fields) → AreNibbles w → holds (spelled_insn w) ≡ true
unfolding spelled_insn
all_ranged w n = spell_ranged all_rows rows_ranged w n

-- an instruction that has a spelling is in range
pub spelling_in_range : (i : Insn) → HasSpelling i → in_range i ≡ true
spelling_in_range i h = subst (λ o. holds o ≡ true) h.1.1 (all_ranged h.0 h.1.0)

-- what three bytes spell is in range
pub spelled_at_in_range : (b0 b1 b2 : ℕ) (i : Insn) → b0 < 256 → b1 < 256 → b2 < 256 → Some i ≡ spelled_insn (fields_at b0 b1 b2) → in_range i ≡ true
spelled_at_in_range b0 b1 b2 i p q r e =
    spelling_in_range i (fields_at b0 b1 b2, ((omega arith, omega arith, omega arith, omega arith, omega arith, omega arith), sym e))
