-- The text of an instruction is read back: first the numbers, then the operands of each form, then the whole.
use Rattle.std.proofs.Common.{◌≡◌, ℕ, zero, suc, ◌+◌, ◌*◌, ◌/◌, ◌%◌, ◌<◌, ◌≤◌, ℤ, pos, negsuc, Bool, true, ◌&&◌, cond, ltb, [], ◌∷◌, map, Option, Some, Result, Ok, Err, refl, ap, ◌∙◌, arith, None, sym, ◌^◌}
use lib.IntN.{sub_ℕ, ◌+ℤ◌, ◌-ℤ◌}
use Rattle.std.specs.Option.{option_and_then, option_map}
use Rattle.std.proofs.lemmas.Bool.{and_parts}
use Rattle.std.proofs.lemmas.Bool.Decides.{nat_tests}
use Rattle.xt_names.specs.declared.forms.Access.TheVariants.{User}
use Rattle.xt_names.specs.declared.mnemonic.OneAndSpecial.TheVariants as one_special
use Rattle.xt_names.specs.declared.mnemonic.OneAndTarget.{OneAndTarget}
use Rattle.xt_names.specs.declared.mnemonic.OneAndTarget.TheVariants as one_target
use Rattle.xt_names.specs.declared.mnemonic.Three.{Three}
use Rattle.xt_names.specs.declared.mnemonic.Three.TheVariants as triple
use Rattle.xt_names.specs.declared.mnemonic.Two.{Two}
use Rattle.xt_names.specs.declared.mnemonic.Two.TheVariants as two
use Rattle.xt_names.specs.declared.mnemonic.Mnemonic.TheVariants as mnemonic
use Rattle.xt_names.specs.declared.parts.Parts.{Parts}
use Rattle.xt_names.specs.declared.parts.Parts.TheVariants as parts
use Rattle.xt_names.specs.Forms.{shapes_of, special_access}
use Rattle.xt_names.specs.InsnParts.{mnemonic_in, parts_of}
use Rattle.xt_names.specs.Specials.{reaches}
use Rattle.xt_names.proofs.Found.{found}
use Rattle.xt_names.proofs.InRange.{fits, in_range_fits, is_near, is_word as in_word, whole}
use Rattle.xt_names.proofs.Specials.{all_named}
use Rattle.xt_names.specs.declared.argument.Argument.TheVariants as argument
use Rattle.xt_names.specs.declared.argument.OperandFault.{OperandFault}
use Rattle.xt_names.specs.declared.argument.OperandFault.TheVariants.{Range, Misaligned, OutOfReach}
use Rattle.xt_isa.specs.declared.Insn.{Insn}
use Rattle.xt_isa.specs.Ranges.{call_within, in_range, literal_within, signed_within}
use Rattle.xt_names.specs.Insns.{insn_of}
use Rattle.xt_names.specs.Names.{mnemonic_of}
use Rattle.xt_names.specs.Making.{if_in_range, instruction_of, parts_in}
use Rattle.xt_names.specs.Operands.{all_known, and_then, call_offset, call_reaches, offset_from, is_aligned, is_word, literal_offset, literal_reaches}
use Rattle.xt_disasm.specs.Operands.{address_from, call_target, jump_target, literal_target, operands}
use Rattle.xt_disasm.specs.Reading.{IsReadBack, arguments_of}

-- ---- numbers

minus : (a b : ℕ) → pos a -ℤ pos b ≡ sub_ℕ a b
minus a zero = grind arith
minus a (suc b) = refl

sub_more : (a b n : ℕ) → a ≡ b + n → sub_ℕ a b ≡ pos n
sub_more a b n e = grind (arith, nat_tests)

sub_less : (a b n : ℕ) → b ≡ a + suc n → sub_ℕ a b ≡ negsuc n
sub_less a b n e = grind (arith, nat_tests)

-- the offset of an address that was counted from a base
back : (base : ℕ) (d : ℤ) → 524288 ≤ base → base + 524288 ≤ 4294967296 → is_near d ≡ true → pos (address_from base d) -ℤ pos base ≡ d
unfolding signed_within
back base (pos n) least most near =
    let small : n < 524288 = grind (arith, nat_tests) in
    minus (address_from base (pos n)) base ∙ sub_more (address_from base (pos n)) base n (omega (arith, small))
back base (negsuc n) least most near =
    let small : n < 524288 = grind (arith, nat_tests) in
    minus (address_from base (negsuc n)) base ∙ sub_less (address_from base (negsuc n)) base n (omega (arith, small))

near_word : (d : ℤ) → is_near d ≡ true → is_word d ≡ true
unfolding signed_within
near_word (pos n) near = grind (arith, nat_tests)
near_word (negsuc n) near = grind (arith, nat_tests)

-- a number in range is one that an operand can be
word_is : (n : ℤ) → in_word n ≡ true → is_word n ≡ true
unfolding signed_within
word_is (pos n) h = h
word_is (negsuc n) h = h

less_zero : (n : ℤ) → n -ℤ pos 0 ≡ n
less_zero (pos n) = ap pos (omega arith)
less_zero (negsuc n) = sub_less 0 (suc n) n (omega arith)

chosen : {A : Type 0} (b : Bool) (x y : A) → b ≡ true → cond b x y ≡ x
chosen b x y h = ap (λ c. cond c x y) h

counted_is : (base n d : ℤ) → n -ℤ base ≡ d → is_word d ≡ true → offset_from base n ≡ Ok d
unfolding offset_from
counted_is base n d is word = ap (λ x. cond (is_word x) (Ok x) (Err Range)) is ∙ chosen (is_word d) (Ok d) (Err Range) word

counted_zero : (n : ℤ) → is_word n ≡ true → offset_from (pos 0) n ≡ Ok n
counted_zero n word = counted_is (pos 0) n n (less_zero n) word

counted_back : (base : ℕ) (d : ℤ) → 524288 ≤ base → base + 524288 ≤ 4294967296 → is_near d ≡ true → offset_from (pos base) (pos (address_from base d)) ≡ Ok d
counted_back base d least most near = counted_is (pos base) (pos (address_from base d)) d (back base d least most near) (near_word d near)

-- ---- the offsets of calls and of literals

call_near : (d : ℤ) → call_within d ≡ true → is_near d ≡ true
unfolding call_within signed_within
call_near (pos n) h = grind (arith, nat_tests)
call_near (negsuc n) h = grind (arith, nat_tests)

call_reached : (d : ℤ) → call_within d ≡ true → call_reaches d ≡ true
unfolding call_within
call_reached (pos n) h = grind (arith, nat_tests)
call_reached (negsuc n) h = grind (arith, nat_tests)

-- so many bytes from a multiple of 4 is a multiple of 4
call_aligned : (base : ℕ) (d : ℤ) → base % 4 ≡ 0 → 524288 ≤ base → call_within d ≡ true → is_aligned (pos (address_from base d)) ≡ true
unfolding call_within
call_aligned base (pos n) even least h = grind (arith, nat_tests)
call_aligned base (negsuc n) even least h = grind (arith, nat_tests)

call_back : (base : ℕ) (d : ℤ) → base % 4 ≡ 0 → 524288 ≤ base → base + 524288 ≤ 4294967296 → call_within d ≡ true → call_offset (pos base) (pos (address_from base d)) ≡ Ok d
unfolding call_offset
call_back base d even least most within =
    let aligned = is_aligned (pos (address_from base d)) in
    ap (λ x. cond (call_reaches x) (cond aligned (Ok x) (Err Misaligned)) (Err Range)) (back base d least most (call_near d within))
    ∙ chosen (call_reaches d) (cond aligned (Ok d) (Err Misaligned)) (Err Range) (call_reached d within)
    ∙ chosen aligned (Ok d) (Err Misaligned) (call_aligned base d even least within)

literal_near : (d : ℤ) → literal_within d ≡ true → call_within d ≡ true
unfolding call_within literal_within
literal_near (pos n) h = cc
literal_near (negsuc n) h = grind (arith, nat_tests)

literal_reached : (d : ℤ) → literal_within d ≡ true → literal_reaches d ≡ true
unfolding literal_within
literal_reached (pos n) h = cc
literal_reached (negsuc n) h = grind (arith, nat_tests)

literal_back : (base : ℕ) (d : ℤ) → base % 4 ≡ 0 → 524288 ≤ base → base + 524288 ≤ 4294967296 → literal_within d ≡ true → literal_offset (pos base) (pos (address_from base d)) ≡ Ok d
unfolding literal_offset
literal_back base d even least most within =
    let call = literal_near d within in
    ap (λ x. cond (is_aligned (pos (address_from base d))) (cond (literal_reaches x) (Ok x) (Err OutOfReach)) (Err Misaligned)) (back base d least most (call_near d call))
    ∙ chosen (is_aligned (pos (address_from base d))) (cond (literal_reaches d) (Ok d) (Err OutOfReach)) (Err Misaligned) (call_aligned base d even least call)
    ∙ chosen (literal_reaches d) (Ok d) (Err OutOfReach) (literal_reached d within)

-- ---- the operands, by their form

-- what is made of the parts' mnemonic and the operands that are printed
abbrev pub remade : Parts → ℕ → Option (Result Parts OperandFault)
remade p pc = option_map (λ arguments. parts_in (mnemonic_in p) (pos pc) arguments) (all_known (arguments_of (shapes_of (mnemonic_in p)) (operands p pc)))

two_back : (name : Two) (a b pc : ℕ) → remade (parts.Two name (a, b)) pc ≡ Some (Ok (parts.Two name (a, b)))
unfolding parts_in operands shapes_of
two_back (two.Sign name) a b pc = refl
two_back (two.ShiftRight name) a b pc = refl
two_back two.Sll a b pc = refl
two_back (two.Normalize name) a b pc = refl
two_back two.Movsp a b pc = refl
two_back two.Mov a b pc = refl
two_back two.MovNarrow a b pc = refl
two_back (two.Four name) a b pc = refl
two_back (two.Eight name) a b pc = refl

three_back : (name : Three) (r s t pc : ℕ) → remade (parts.Three name (r, s, t)) pc ≡ Some (Ok (parts.Three name (r, s, t)))
unfolding parts_in operands shapes_of
three_back (triple.Bitwise name) r s t pc = refl
three_back (triple.Sum name) r s t pc = refl
three_back (triple.Difference name) r s t pc = refl
three_back triple.Src r s t pc = refl
three_back (triple.Mul16 name) r s t pc = refl
three_back triple.Mull r s t pc = refl
three_back (triple.MulHigh name) r s t pc = refl
three_back (triple.Divide name) r s t pc = refl
three_back (triple.MinMax name) r s t pc = refl
three_back (triple.Move name) r s t pc = refl
three_back triple.AddNarrow r s t pc = refl
three_back (triple.Logic name) r s t pc = refl
three_back (triple.Choice name) r s t pc = refl

-- the offset of a branch or a loop, with its register
branch_back : (name : OneAndTarget) (s : ℕ) (d : ℤ) (pc : ℕ) → offset_from (pos (pc + 4)) (pos (address_from (pc + 4) d)) ≡ Ok d → remade (parts.OneAndTarget name (s, d)) pc ≡ Some (Ok (parts.OneAndTarget name (s, d)))
unfolding parts_in operands shapes_of jump_target
branch_back (one_target.BranchZero name) s d pc e = ap (λ a. Some (and_then (and_then a (λ n. Ok (s, n))) (λ o. Ok (parts.OneAndTarget (one_target.BranchZero name) o)))) e
branch_back (one_target.Loop name) s d pc e = ap (λ a. Some (and_then (and_then a (λ n. Ok (s, n))) (λ o. Ok (parts.OneAndTarget (one_target.Loop name) o)))) e
branch_back (one_target.BranchZeroNarrow name) s d pc e = ap (λ a. Some (and_then (and_then a (λ n. Ok (s, n))) (λ o. Ok (parts.OneAndTarget (one_target.BranchZeroNarrow name) o)))) e
branch_back (one_target.Test name) s d pc e = ap (λ a. Some (and_then (and_then a (λ n. Ok (s, n))) (λ o. Ok (parts.OneAndTarget (one_target.Test name) o)))) e

pub parts_back : (p : Parts) (pc : ℕ) → 1048576 ≤ pc → pc + 1048576 ≤ 4294967296 → fits p ≡ true → remade p pc ≡ Some (Ok p)
unfolding parts_in operands shapes_of jump_target call_target literal_target
parts_back (parts.Nothing name) pc least most h = refl
parts_back (parts.One name s) pc least most h = refl
parts_back (parts.Two name (a, b)) pc least most h = two_back name a b pc
parts_back (parts.Three name (r, s, t)) pc least most h = three_back name r s t pc
parts_back (parts.Number name n) pc least most h = ap (λ x. Some (and_then x (λ n. Ok (parts.Number name n)))) (counted_zero n (word_is n h))
parts_back (parts.Break (x, y)) pc least most h =
    let each = and_parts (in_word x) (in_word y) h in
    ap (λ a. Some (and_then (and_then a (λ m. and_then (offset_from (pos 0) y) (λ n. Ok (m, n)))) (λ o. Ok (parts.Break o)))) (counted_zero x (word_is x each.0))
    ∙ ap (λ a. Some (and_then (and_then a (λ n. Ok (x, n))) (λ o. Ok (parts.Break o)))) (counted_zero y (word_is y each.1))
parts_back (parts.OneAndNumber name (s, n)) pc least most h = ap (λ a. Some (and_then (and_then a (λ n. Ok (s, n))) (λ o. Ok (parts.OneAndNumber name o)))) (counted_zero n (word_is n h))
parts_back (parts.TwoAndNumber name (a, b, n)) pc least most h = ap (λ x. Some (and_then (and_then x (λ n. Ok (a, b, n))) (λ o. Ok (parts.TwoAndNumber name o)))) (counted_zero n (word_is n h))
parts_back (parts.Extui (r, t, n, w)) pc least most h =
    let each = and_parts (in_word n) (in_word w) h in
    ap (λ a. Some (and_then (and_then a (λ m. and_then (offset_from (pos 0) w) (λ k. Ok (r, t, m, k)))) (λ o. Ok (parts.Extui o)))) (counted_zero n (word_is n each.0))
    ∙ ap (λ a. Some (and_then (and_then a (λ k. Ok (r, t, n, k))) (λ o. Ok (parts.Extui o)))) (counted_zero w (word_is w each.1))
parts_back (parts.OneAndSpecial (one_special.Special name) (t, n)) pc least most h =
    ap (λ o. option_map (λ arguments. parts_in (mnemonic.OneAndSpecial (one_special.Special name)) (pos pc) arguments) (all_known (Some (argument.Register t) ∷ option_map argument.Special o ∷ []))) (all_named (special_access name) n h)
parts_back (parts.OneAndSpecial (one_special.User name) (t, n)) pc least most h =
    ap (λ o. option_map (λ arguments. parts_in (mnemonic.OneAndSpecial (one_special.User name)) (pos pc) arguments) (all_known (Some (argument.Register t) ∷ option_map argument.Special o ∷ []))) (all_named User n h)
parts_back (parts.Jump d) pc least most h = ap (λ a. Some (and_then a (λ d. Ok (parts.Jump d)))) (counted_back (pc + 4) d (omega arith) (omega arith) h)
parts_back (parts.Call name d) pc least most h = ap (λ a. Some (and_then a (λ d. Ok (parts.Call name d)))) (call_back (pc / 4 * 4 + 4) d (omega arith) (omega arith) (omega arith) h)
parts_back (parts.Literal (t, d)) pc least most h = ap (λ a. Some (and_then (and_then a (λ n. Ok (t, n))) (λ o. Ok (parts.Literal o)))) (literal_back ((pc + 3) / 4 * 4) d (omega arith) (omega arith) (omega arith) h)
parts_back (parts.OneAndTarget name (s, d)) pc least most h = branch_back name s d pc (counted_back (pc + 4) d (omega arith) (omega arith) h)
parts_back (parts.OneNumberAndTarget name (s, n, d)) pc least most h =
    let each = and_parts (in_word n) (is_near d) h in
    ap (λ a. Some (and_then (and_then a (λ m. and_then (offset_from (pos pc +ℤ pos 4) (pos (address_from (pc + 4) d))) (λ k. Ok (s, m, k)))) (λ o. Ok (parts.OneNumberAndTarget name o)))) (counted_zero n (word_is n each.0))
    ∙ ap (λ a. Some (and_then (and_then a (λ k. Ok (s, n, k))) (λ o. Ok (parts.OneNumberAndTarget name o)))) (counted_back (pc + 4) d (omega arith) (omega arith) each.1)
parts_back (parts.TwoAndTarget name (s, t, d)) pc least most h = ap (λ a. Some (and_then (and_then a (λ n. Ok (s, t, n))) (λ o. Ok (parts.TwoAndTarget name o)))) (counted_back (pc + 4) d (omega arith) (omega arith) h)

-- ---- the whole

composed : {A B C : Type 0} (g : B → C) (f : A → B) (o : Option A) → option_map (λ a. g (f a)) o ≡ option_map g (option_map f o)
composed g f None = refl
composed g f (Some a) = refl

pub read_back : (i : Insn) → IsReadBack i
unfolding instruction_of
read_back i h pc least most =
    let p = parts_of i in
    let m = mnemonic_in p in
    let known = all_known (arguments_of (shapes_of m) (operands p pc)) in
    let made = parts_back p pc (omega (arith, least)) (omega (arith, most)) (in_range_fits i h) in
    ap (λ o. option_and_then (λ n. option_map (λ arguments. instruction_of n arguments (pos pc)) (all_known (arguments_of (shapes_of n) (operands p pc)))) o) (found m).0
    ∙ composed (λ r. and_then r (λ p. if_in_range (insn_of p))) (λ arguments. parts_in m (pos pc) arguments) known
    ∙ ap (λ o. option_map (λ r. and_then r (λ p. if_in_range (insn_of p))) o) made
    ∙ ap (λ j. Some (if_in_range j)) (whole i h)
    ∙ ap (λ b. Some (cond b (Ok i) (Err Range))) h
