-- An instruction in range: its numbers, and that it is that of its parts.
use Rattle.std.proofs.Common.{◌≡◌, ℕ, ◌<◌, ◌≤◌, ◌^◌, ℤ, pos, negsuc, Bool, true, ◌&&◌, eqb, leb, refl, sym, ap, ◌∙◌, arith}
use Rattle.std.proofs.lemmas.Bool.{and_parts, and_from, eqb-true, leb-true}
use Rattle.std.proofs.lemmas.Bool.Decides.{nat_tests}
use Rattle.xt_isa.specs.declared.Insn.{Insn}
use Rattle.xt_isa.specs.declared.Insn.TheVariants as insn
use Rattle.xt_isa.specs.declared.three.Three.TheVariants as three
use Rattle.xt_isa.specs.declared.shift.Shift.TheVariants as shift
use Rattle.xt_isa.specs.declared.memory.Memory.TheVariants as memory
use Rattle.xt_isa.specs.declared.control.Control.TheVariants as control
use Rattle.xt_isa.specs.declared.system.System.TheVariants as system
use Rattle.xt_isa.specs.declared.density.Density.TheVariants as density
use Rattle.xt_isa.specs.declared.boolean.Boolean.TheVariants as boolean
use Rattle.xt_isa.specs.declared.system.TrapName.TheVariants.{Break, Syscall}
use Rattle.xt_isa.specs.declared.system.LevelName.TheVariants.{Rsil, Waiti}
use Rattle.xt_isa.specs.declared.system.SpecialName.TheVariants.{Rsr, Wsr, Xsr}
use Rattle.xt_isa.specs.Ranges.{in_range, natural_within, signed_within, multiple_within, window_within, literal_within, call_within, page_within, is_b4const, is_b4constu, small_within, narrow_within, one_register, two_registers}
use Rattle.xt_isa.specs.Spelling.{can_exchange, can_read, can_write}
use Rattle.xt_names.specs.declared.forms.Access.TheVariants.{User}
use Rattle.xt_names.specs.declared.mnemonic.OneAndSpecial.TheVariants as one_special
use Rattle.xt_names.specs.declared.parts.Parts.{Parts}
use Rattle.xt_names.specs.declared.parts.Parts.TheVariants as parts
use Rattle.xt_names.specs.Forms.{special_access}
use Rattle.xt_names.specs.Insns.{insn_of}
use Rattle.xt_names.specs.NameLaws.{IsItsParts}
use Rattle.xt_names.specs.InsnParts.{parts_of}
use Rattle.xt_names.specs.Specials.{reaches}

-- a number of 32 bits
abbrev pub is_word : ℤ → Bool
is_word n = signed_within (2 ^ 31) n

-- less than 2^19 bytes forwards, or at most so many backwards
abbrev pub is_near : ℤ → Bool
is_near d = signed_within 524288 d

-- the numbers of the parts are such as an instruction in range has
abbrev pub fits : Parts → Bool
fits (parts.Nothing name) = true
fits (parts.One name s) = true
fits (parts.Two name o) = true
fits (parts.Three name o) = true
fits (parts.Number name n) = is_word n
fits (parts.Break (x, y)) = is_word x && is_word y
fits (parts.OneAndNumber name (s, n)) = is_word n
fits (parts.TwoAndNumber name (a, b, n)) = is_word n
fits (parts.Extui (r, t, n, w)) = is_word n && is_word w
fits (parts.OneAndSpecial (one_special.Special name) (t, n)) = reaches (special_access name) n
fits (parts.OneAndSpecial (one_special.User name) (t, n)) = reaches User n
fits (parts.Jump d) = is_near d
fits (parts.Call name d) = call_within d
fits (parts.Literal (t, d)) = literal_within d
fits (parts.OneAndTarget name (s, d)) = is_near d
fits (parts.OneNumberAndTarget name (s, n, d)) = is_word n && is_near d
fits (parts.TwoAndTarget name (s, t, d)) = is_near d

natural_word : (a b : ℕ) (n : ℤ) → b < 2 ^ 31 → natural_within a b n ≡ true → is_word n ≡ true
unfolding natural_within signed_within
natural_word a b (pos n) small h = grind (arith, nat_tests)
natural_word a b (negsuc n) small h = cc

natural_near : (a b : ℕ) (n : ℤ) → b < 524288 → natural_within a b n ≡ true → is_near n ≡ true
unfolding natural_within signed_within
natural_near a b (pos n) small h = grind (arith, nat_tests)
natural_near a b (negsuc n) small h = cc

signed_word : (half : ℕ) (n : ℤ) → half ≤ 2 ^ 31 → signed_within half n ≡ true → is_word n ≡ true
unfolding signed_within
signed_word half (pos n) small h = grind (arith, nat_tests)
signed_word half (negsuc n) small h = grind (arith, nat_tests)

signed_near : (half : ℕ) (n : ℤ) → half ≤ 524288 → signed_within half n ≡ true → is_near n ≡ true
unfolding signed_within
signed_near half (pos n) small h = grind (arith, nat_tests)
signed_near half (negsuc n) small h = grind (arith, nat_tests)

multiple_word_2 : (end : ℕ) (n : ℤ) → end ≤ 4096 → multiple_within 2 end n ≡ true → is_word n ≡ true
unfolding multiple_within signed_within
multiple_word_2 end (pos n) small h = grind (arith, nat_tests)
multiple_word_2 end (negsuc n) small h = cc

multiple_word_4 : (end : ℕ) (n : ℤ) → end ≤ 4096 → multiple_within 4 end n ≡ true → is_word n ≡ true
unfolding multiple_within signed_within
multiple_word_4 end (pos n) small h = grind (arith, nat_tests)
multiple_word_4 end (negsuc n) small h = cc

multiple_word_8 : (end : ℕ) (n : ℤ) → end ≤ 4096 → multiple_within 8 end n ≡ true → is_word n ≡ true
unfolding multiple_within signed_within
multiple_word_8 end (pos n) small h = grind (arith, nat_tests)
multiple_word_8 end (negsuc n) small h = cc

window_word : (n : ℤ) → window_within n ≡ true → is_word n ≡ true
unfolding window_within signed_within
window_word (pos n) h = cc
window_word (negsuc n) h = grind (arith, nat_tests)

page_word : (n : ℤ) → page_within n ≡ true → is_word n ≡ true
unfolding page_within signed_within
page_word (pos n) h = grind (arith, nat_tests)
page_word (negsuc n) h = grind (arith, nat_tests)

b4const_word : (n : ℤ) → is_b4const n ≡ true → is_word n ≡ true
unfolding is_b4const signed_within
b4const_word (pos n) h = grind (arith, nat_tests)
b4const_word (negsuc n) h = grind (arith, nat_tests)

b4constu_word : (n : ℤ) → is_b4constu n ≡ true → is_word n ≡ true
unfolding is_b4constu signed_within
b4constu_word (pos n) h = grind (arith, nat_tests)
b4constu_word (negsuc n) h = cc

small_word : (n : ℤ) → small_within n ≡ true → is_word n ≡ true
unfolding small_within signed_within
small_word (pos n) h = grind (arith, nat_tests)
small_word (negsuc n) h = grind (arith, nat_tests)

narrow_word : (n : ℤ) → narrow_within n ≡ true → is_word n ≡ true
unfolding narrow_within signed_within
narrow_word (pos n) h = grind (arith, nat_tests)
narrow_word (negsuc n) h = grind (arith, nat_tests)

-- a number from 0 to 0
is_zero : (n : ℤ) → natural_within 0 0 n ≡ true → n ≡ pos 0
unfolding natural_within
is_zero (pos n) h = let least = leb-true n 0 (and_parts (leb 0 n) (leb n 0) h).1 in ap pos (omega (arith, least))
is_zero (negsuc n) h = cc

-- both, by the tables: of most rows the parts give the instruction back by definition
in_parts : (i : Insn) → in_range i ≡ true → (fits (parts_of i) ≡ true) × (insn_of (parts_of i) ≡ i)
in_parts (insn.Three (three.Bitwise n r s t)) h = (refl, refl)
in_parts (insn.Three (three.Sum n r s t)) h = (refl, refl)
in_parts (insn.Three (three.Difference n r s t)) h = (refl, refl)
in_parts (insn.Three (three.Src r s t)) h = (refl, refl)
in_parts (insn.Three (three.Mul16 n r s t)) h = (refl, refl)
in_parts (insn.Three (three.Mull r s t)) h = (refl, refl)
in_parts (insn.Three (three.MulHigh n r s t)) h = (refl, refl)
in_parts (insn.Three (three.Divide n r s t)) h = (refl, refl)
in_parts (insn.Three (three.MinMax n r s t)) h = (refl, refl)
in_parts (insn.Three (three.Move n r s t)) h = (refl, refl)
in_parts (insn.Shift (shift.Sign name r t)) h = (refl, refl)
in_parts (insn.Shift (shift.ShiftRight name r t)) h = (refl, refl)
in_parts (insn.Shift (shift.Sll r s)) h = (refl, refl)
in_parts (insn.Shift (shift.Slli r s n)) h = (natural_word 1 31 n (omega arith) (and_parts (two_registers r s) (natural_within 1 31 n) h).1, refl)
in_parts (insn.Shift (shift.Srai r t n)) h = (natural_word 0 31 n (omega arith) (and_parts (two_registers r t) (natural_within 0 31 n) h).1, refl)
in_parts (insn.Shift (shift.Srli r t n)) h = (natural_word 0 15 n (omega arith) (and_parts (two_registers r t) (natural_within 0 15 n) h).1, refl)
in_parts (insn.Shift (shift.Extui r t n m)) h =
    let each = and_parts (natural_within 0 31 n) (natural_within 1 16 m) (and_parts (two_registers r t) (natural_within 0 31 n && natural_within 1 16 m) h).1 in
    (and_from (is_word n) (is_word m) (natural_word 0 31 n (omega arith) each.0) (natural_word 1 16 m (omega arith) each.1), refl)
in_parts (insn.Shift (shift.Signed name r s b)) h = (natural_word 7 22 b (omega arith) (and_parts (two_registers r s) (natural_within 7 22 b) h).1, refl)
in_parts (insn.Shift (shift.Normalize name t s)) h = (refl, refl)
in_parts (insn.Shift (shift.Movsp t s)) h = (refl, refl)
in_parts (insn.Shift (shift.Amount name s)) h = (refl, refl)
in_parts (insn.Shift (shift.ByteAmount name s)) h = (refl, refl)
in_parts (insn.Shift (shift.Ssai n)) h = (natural_word 0 31 n (omega arith) h, refl)
in_parts (insn.Memory (memory.Byte name t s off)) h = (natural_word 0 255 off (omega arith) (and_parts (two_registers t s) (natural_within 0 255 off) h).1, refl)
in_parts (insn.Memory (memory.Half name t s off)) h = (multiple_word_2 256 off (omega arith) (and_parts (two_registers t s) (multiple_within 2 256 off) h).1, refl)
in_parts (insn.Memory (memory.Word name t s off)) h = (multiple_word_4 256 off (omega arith) (and_parts (two_registers t s) (multiple_within 4 256 off) h).1, refl)
in_parts (insn.Memory (memory.S32c1i t s off)) h = (multiple_word_4 256 off (omega arith) (and_parts (two_registers t s) (multiple_within 4 256 off) h).1, refl)
in_parts (insn.Memory (memory.Window name t s off)) h = (window_word off (and_parts (two_registers t s) (window_within off) h).1, refl)
in_parts (insn.Memory (memory.L32r t off)) h = ((and_parts (one_register t) (literal_within off) h).1, refl)
in_parts (insn.Memory (memory.Movi t n)) h = (signed_word 2048 n (omega arith) (and_parts (one_register t) (signed_within 2048 n) h).1, refl)
in_parts (insn.Memory (memory.Addi t s n)) h = (signed_word 128 n (omega arith) (and_parts (two_registers t s) (signed_within 128 n) h).1, refl)
in_parts (insn.Memory (memory.Addmi t s n)) h = (page_word n (and_parts (two_registers t s) (page_within n) h).1, refl)
in_parts (insn.Control (control.J off)) h = (signed_near 131072 off (omega arith) h, refl)
in_parts (insn.Control (control.Call name off)) h = (h, refl)
in_parts (insn.Control (control.Return name)) h = (refl, refl)
in_parts (insn.Control (control.Jx s)) h = (refl, refl)
in_parts (insn.Control (control.Callx name s)) h = (refl, refl)
in_parts (insn.Control (control.BranchZero name s off)) h = (signed_near 2048 off (omega arith) (and_parts (one_register s) (signed_within 2048 off) h).1, refl)
in_parts (insn.Control (control.BranchConst name s c off)) h =
    let each = and_parts (is_b4const c) (signed_within 128 off) (and_parts (one_register s) (is_b4const c && signed_within 128 off) h).1 in
    (and_from (is_word c) (is_near off) (b4const_word c each.0) (signed_near 128 off (omega arith) each.1), refl)
in_parts (insn.Control (control.BranchConstu name s c off)) h =
    let each = and_parts (is_b4constu c) (signed_within 128 off) (and_parts (one_register s) (is_b4constu c && signed_within 128 off) h).1 in
    (and_from (is_word c) (is_near off) (b4constu_word c each.0) (signed_near 128 off (omega arith) each.1), refl)
in_parts (insn.Control (control.Branch name s t off)) h = (signed_near 128 off (omega arith) (and_parts (two_registers s t) (signed_within 128 off) h).1, refl)
in_parts (insn.Control (control.BranchNot name s t off)) h = (signed_near 128 off (omega arith) (and_parts (two_registers s t) (signed_within 128 off) h).1, refl)
in_parts (insn.Control (control.BranchBit name s b off)) h =
    let each = and_parts (natural_within 0 31 b) (signed_within 128 off) (and_parts (one_register s) (natural_within 0 31 b && signed_within 128 off) h).1 in
    (and_from (is_word b) (is_near off) (natural_word 0 31 b (omega arith) each.0) (signed_near 128 off (omega arith) each.1), refl)
in_parts (insn.Control (control.Entry s n)) h = (multiple_word_8 4096 n (omega arith) (and_parts (one_register s) (multiple_within 8 4096 n) h).1, refl)
in_parts (insn.Control (control.Loop name s off)) h = (natural_near 0 255 off (omega arith) (and_parts (one_register s) (natural_within 0 255 off) h).1, refl)
in_parts (insn.System (system.Sync name)) h = (refl, refl)
in_parts (insn.System (system.Wait name)) h = (refl, refl)
in_parts (insn.System (system.ExceptionReturn name)) h = (refl, refl)
in_parts (insn.System (system.Rfi l)) h = (natural_word 2 7 l (omega arith) h, refl)
in_parts (insn.System (system.Trap Break x y)) h =
    let each = and_parts (natural_within 0 15 x) (natural_within 0 15 y) h in
    (and_from (is_word x) (is_word y) (natural_word 0 15 x (omega arith) each.0) (natural_word 0 15 y (omega arith) each.1), refl)
in_parts (insn.System (system.Trap Syscall x y)) h =
    let parts = and_parts (natural_within 0 0 x) (natural_within 0 0 y) h in
    (refl, ap (λ n. insn.System (system.Trap Syscall n (pos 0))) (sym (is_zero x parts.0)) ∙ ap (λ n. insn.System (system.Trap Syscall x n)) (sym (is_zero y parts.1)))
in_parts (insn.System (system.Level Rsil t l)) h = (natural_word 0 15 l (omega arith) (and_parts (one_register t) (natural_within 0 15 l) h).1, refl)
in_parts (insn.System (system.Level Waiti t l)) h =
    let each = and_parts (eqb t 0) (natural_within 0 15 l) h in
    (natural_word 0 15 l (omega arith) each.1, ap (λ r. insn.System (system.Level Waiti r l)) (sym (eqb-true t 0 each.0)))
in_parts (insn.System (system.Rotw n)) h = (signed_word 8 n (omega arith) h, refl)
in_parts (insn.System (system.Special Rsr t n)) h = ((and_parts (one_register t) (can_read n) h).1, refl)
in_parts (insn.System (system.Special Wsr t n)) h = ((and_parts (one_register t) (can_write n) h).1, refl)
in_parts (insn.System (system.Special Xsr t n)) h = ((and_parts (one_register t) (can_exchange n) h).1, refl)
in_parts (insn.System (system.User name r n)) h = ((and_parts (one_register r) (eqb n 231) h).1, refl)
in_parts (insn.Density (density.Word name t s off)) h = (multiple_word_4 16 off (omega arith) (and_parts (two_registers t s) (multiple_within 4 16 off) h).1, refl)
in_parts (insn.Density (density.Add r s t)) h = (refl, refl)
in_parts (insn.Density (density.Addi r s n)) h = (small_word n (and_parts (two_registers r s) (small_within n) h).1, refl)
in_parts (insn.Density (density.Movi s n)) h = (narrow_word n (and_parts (one_register s) (narrow_within n) h).1, refl)
in_parts (insn.Density (density.BranchZero name s off)) h = (natural_near 0 63 off (omega arith) (and_parts (one_register s) (natural_within 0 63 off) h).1, refl)
in_parts (insn.Density (density.Mov t s)) h = (refl, refl)
in_parts (insn.Density (density.Bare name)) h = (refl, refl)
in_parts (insn.Density (density.Break n)) h = (natural_word 0 15 n (omega arith) h, refl)
in_parts (insn.Boolean (boolean.Logic name r s t)) h = (refl, refl)
in_parts (insn.Boolean (boolean.Four name t s)) h = (refl, refl)
in_parts (insn.Boolean (boolean.Eight name t s)) h = (refl, refl)
in_parts (insn.Boolean (boolean.Test name s off)) h = (signed_near 128 off (omega arith) (and_parts (one_register s) (signed_within 128 off) h).1, refl)
in_parts (insn.Boolean (boolean.Choice name r s t)) h = (refl, refl)

pub in_range_fits : (i : Insn) → in_range i ≡ true → fits (parts_of i) ≡ true
in_range_fits i h = (in_parts i h).0

pub whole : (i : Insn) → IsItsParts i
whole i h = (in_parts i h).1
