-- Which form the outcome of each row has, of some twenty. The formulas of `Outcomes` are written in the words of `Effects`,
-- and once their conditions are decided, few outcomes are left. What depends on the form alone has a case for each form,
-- and none for each row. PS and THREADPTR are left open, so that a proof can compare what comes of two of them.
use Rattle.std.proofs.Common.{◌≡◌, ℕ, ◌*◌, ◌%◌, ◌^◌, ◌<◌, ◌≤◌, ◌==◌, ◌||◌, ℤ, pos, negsuc, Bool, true, false, cond, eqb, Option, Some, None, refl, arith, ltb-true, bit_and, bit_or, inl, inr}
use Rattle.std.specs.Prelude.{bit_xor, min, max}
use Rattle.std.proofs.lemmas.Bool.{and_parts}
use Rattle.std.proofs.lemmas.Bool.Decides.{nat_tests}
use Rattle.xt_isa.specs.declared.Insn.{Insn}
use Rattle.xt_isa.specs.declared.Insn.TheVariants as insn
use Rattle.xt_isa.specs.declared.three.Three.{Three}
use Rattle.xt_isa.specs.declared.three.Three.TheVariants as three
use Rattle.xt_isa.specs.declared.three.BitwiseName.TheVariants as BitwiseName
use Rattle.xt_isa.specs.declared.three.SumName.TheVariants as SumName
use Rattle.xt_isa.specs.declared.three.DifferenceName.TheVariants as DifferenceName
use Rattle.xt_isa.specs.declared.three.Mul16Name.TheVariants as Mul16Name
use Rattle.xt_isa.specs.declared.three.MulHighName.TheVariants as MulHighName
use Rattle.xt_isa.specs.declared.three.DivideName.TheVariants as DivideName
use Rattle.xt_isa.specs.declared.three.MinMaxName.TheVariants as MinMaxName
use Rattle.xt_isa.specs.declared.three.MoveName.TheVariants as MoveName
use Rattle.xt_isa.specs.declared.shift.Shift.{Shift}
use Rattle.xt_isa.specs.declared.shift.Shift.TheVariants as shift
use Rattle.xt_isa.specs.declared.shift.SignName.TheVariants as SignName
use Rattle.xt_isa.specs.declared.shift.ShiftRightName.TheVariants as ShiftRightName
use Rattle.xt_isa.specs.declared.shift.SignedName.TheVariants as SignedName
use Rattle.xt_isa.specs.declared.shift.NormalizeName.TheVariants as NormalizeName
use Rattle.xt_isa.specs.declared.shift.AmountName.TheVariants as AmountName
use Rattle.xt_isa.specs.declared.shift.ByteAmountName.TheVariants as ByteAmountName
use Rattle.xt_isa.specs.declared.memory.Memory.{Memory}
use Rattle.xt_isa.specs.declared.memory.Memory.TheVariants as memory
use Rattle.xt_isa.specs.declared.memory.ByteName.TheVariants as ByteName
use Rattle.xt_isa.specs.declared.memory.HalfName.TheVariants as HalfName
use Rattle.xt_isa.specs.declared.memory.WordName.TheVariants as WordName
use Rattle.xt_isa.specs.declared.memory.WindowName.TheVariants as WindowName
use Rattle.xt_isa.specs.declared.control.Control.{Control}
use Rattle.xt_isa.specs.declared.control.Control.TheVariants as control
use Rattle.xt_isa.specs.declared.control.ReturnName.TheVariants as ReturnName
use Rattle.xt_isa.specs.declared.control.ZeroName.TheVariants as ZeroName
use Rattle.xt_isa.specs.declared.control.ConstName.TheVariants as ConstName
use Rattle.xt_isa.specs.declared.control.ConstuName.TheVariants as ConstuName
use Rattle.xt_isa.specs.declared.control.BranchName.TheVariants as BranchName
use Rattle.xt_isa.specs.declared.control.OppositeName.TheVariants as OppositeName
use Rattle.xt_isa.specs.declared.control.BitName.TheVariants as BitName
use Rattle.xt_isa.specs.declared.control.LoopName.TheVariants as LoopName
use Rattle.xt_isa.specs.declared.system.System.{System}
use Rattle.xt_isa.specs.declared.system.System.TheVariants as system
use Rattle.xt_isa.specs.declared.system.SyncName.TheVariants as SyncName
use Rattle.xt_isa.specs.declared.system.WaitName.TheVariants as WaitName
use Rattle.xt_isa.specs.declared.system.ExceptionReturnName.TheVariants as ExceptionReturnName
use Rattle.xt_isa.specs.declared.system.TrapName.TheVariants as TrapName
use Rattle.xt_isa.specs.declared.system.LevelName.TheVariants as LevelName
use Rattle.xt_isa.specs.declared.system.SpecialName.TheVariants as SpecialName
use Rattle.xt_isa.specs.declared.system.UserName.TheVariants as UserName
use Rattle.xt_isa.specs.declared.density.Density.{Density}
use Rattle.xt_isa.specs.declared.density.Density.TheVariants as density
use Rattle.xt_isa.specs.declared.density.NarrowName.TheVariants as NarrowName
use Rattle.xt_isa.specs.declared.density.NarrowZeroName.TheVariants as NarrowZeroName
use Rattle.xt_isa.specs.declared.density.BareName.TheVariants as BareName
use Rattle.xt_isa.specs.declared.boolean.Boolean.{Boolean}
use Rattle.xt_isa.specs.declared.boolean.Boolean.TheVariants as boolean
use Rattle.xt_isa.specs.declared.boolean.LogicName.TheVariants as LogicName
use Rattle.xt_isa.specs.declared.boolean.FourName.TheVariants as FourName
use Rattle.xt_isa.specs.declared.boolean.EightName.TheVariants as EightName
use Rattle.xt_isa.specs.declared.boolean.TestName.TheVariants as TestName
use Rattle.xt_isa.specs.declared.boolean.ChoiceName.TheVariants as ChoiceName
use Rattle.xt_isa.specs.declared.control.CallName.{CallName}
use Rattle.xt_isa.specs.declared.control.CallxName.{CallxName}
use Rattle.xt_isa.specs.Ranges.{one_register, two_registers, three_registers, natural_within, in_range}
use Rattle.xt_isa.specs.declared.control.CallName.{CallName}
use Rattle.xt_isa.specs.declared.control.CallxName.{CallxName}
use Rattle.xt_map.specs.declared.access.Access.{Access}
use Rattle.xt_map.specs.declared.access.Kind.TheVariants.{Load, Store, Cas}
use Rattle.xt_map.specs.Regions.{is_mapped, is_constant, region_of}
use Rattle.xt_special.specs.declared.ps.Ps.{Ps}
use Rattle.xt_special.specs.Control.{ps_word, ps_of}
use Rattle.xt_special.specs.Access.{value_read, ps_written, written_by, is_window_register}
use Rattle.xt_special.specs.Shape.{CanHold}
use Rattle.xt_word.specs.Conditions.{holds}
use Rattle.xt_word.specs.declared.conditions.Cond.TheVariants as cond_
use Rattle.xt_word.specs.Arithmetic.{addx, subx, mul16u, mul16s, mull, muluh, mulsh, quou, quos, remu, rems, signed_min, signed_max, neg, abs, sext, clamps, nsa, nsau}
use Rattle.xt_word.specs.Shifts.{src, srl, sra, sll, slli, srai, srli, extui, ssr, ssl, ssa8l, ssa8b}
use Rattle.xt_word.specs.Registers.{logic, group}
use Rattle.xt_word.specs.declared.booleans.BoolOp.TheVariants as op
use Rattle.xt_map.specs.Code.{code_number}
use Rattle.xt_rows.specs.declared.outcome.ReplyTarget.{ReplyTarget}
use Rattle.xt_rows.specs.declared.outcome.Flow.TheVariants.{Goes}
use Rattle.xt_rows.specs.declared.outcome.WindowRegister.{WindowRegister}
use Rattle.xt_rows.specs.declared.outcome.WindowRegister.TheVariants as window
use Rattle.xt_rows.specs.declared.outcome.WindowStep.{WindowStep}
use Rattle.xt_rows.specs.declared.outcome.WindowStep.TheVariants.{Enters, Returns, EndsOverflow, EndsUnderflow, Rotates, MovesStack, Reads, Sets, Exchanges}
use Rattle.xt_rows.specs.declared.outcome.Outcome.{Outcome}
use Rattle.xt_rows.specs.declared.outcome.Outcome.TheVariants.{Does, Raises, Asks, Stops, Windowed}
use Rattle.xt_rows.specs.Numbers.{plus, minus, natural, loaded_value, return_address, branch_target, call_target, address_behind, literal_address}
use Rattle.xt_rows.specs.Operands.{call_size, callx_size, highest_register}
use Rattle.xt_rows.specs.Effects.{no_change, puts, moves, divides, goes, branches, calls, loops, asks, if_aligned, loads, stores, swaps, window_register, reads_special, writes_special, exchanges_special, sets_special, write_to}
use Rattle.xt_rows.specs.Outcomes.{three_outcome, shift_outcome, memory_outcome, control_outcome, system_outcome, density_outcome, boolean_outcome, booleans, outcome, sets_br, sets_sar}
use Rattle.xt_rows.specs.Kinds.{is_entry, is_movsp, is_windowing, names_window_register, moved_to, FitsStep}
use Rattle.xt_rows.specs.RowLaws.{IsProperAddress, IsProperStep, IsGiven}
use Rattle.xt_rows.proofs.Bounds.{IsSize, One, Two, Four, addx_small, subx_small, mul16u_small, mul16s_small, mull_small, muluh_small, mulsh_small, quou_small, quos_small, remu_small, rems_small, signed_min_small, signed_max_small, min_small, max_small, and_small, or_small, xor_small, neg_small, abs_small, sext_small, clamps_small, nsa_small, nsau_small, src_small, srl_small, sra_small, sll_small, slli_small, srai_small, srli_small, extui_small, ssr_small, ssl_small, ssa8l_small, ssa8b_small, plus_small, minus_small, logic_small, group_small}

-- ---- what an instruction is
-- neither ENTRY, WSR, XSR nor WUR
unfoldable pub is_calm : Insn → Bool
is_calm (insn.Control (control.Entry s n)) = false
is_calm (insn.System (system.Special SpecialName.Wsr t n)) = false
is_calm (insn.System (system.Special SpecialName.Xsr t n)) = false
is_calm (insn.System (system.User UserName.Wur t n)) = false
is_calm _ = true

pub calm_moves : (i : Insn) → is_calm i ≡ true → moved_to i ≡ None
unfolding is_calm moved_to
calm_moves (insn.System (system.Special SpecialName.Wsr t n)) c = absurd cc
calm_moves (insn.System (system.Special SpecialName.Xsr t n)) c = absurd cc
calm_moves _ c = refl

pub calm_enters : (i : Insn) → is_calm i ≡ true → is_entry i ≡ false
unfolding is_calm is_entry
calm_enters (insn.Control (control.Entry s n)) c = absurd cc
calm_enters _ c = refl

-- a load, and whether it extends the sign
pub data IsLoad : Insn → Bool → Type 0 where
  l8ui : {t s : ℕ} {offset : ℤ} → IsLoad (insn.Memory (memory.Byte ByteName.L8ui t s offset)) false
  l16ui : {t s : ℕ} {offset : ℤ} → IsLoad (insn.Memory (memory.Half HalfName.L16ui t s offset)) false
  l16si : {t s : ℕ} {offset : ℤ} → IsLoad (insn.Memory (memory.Half HalfName.L16si t s offset)) true
  l32i : {t s : ℕ} {offset : ℤ} → IsLoad (insn.Memory (memory.Word WordName.L32i t s offset)) false
  l32ai : {t s : ℕ} {offset : ℤ} → IsLoad (insn.Memory (memory.Word WordName.L32ai t s offset)) false
  l32e : {t s : ℕ} {offset : ℤ} → IsLoad (insn.Memory (memory.Window WindowName.L32e t s offset)) false
  l32r : {t : ℕ} {offset : ℤ} → IsLoad (insn.Memory (memory.L32r t offset)) false
  l32i_n : {t s : ℕ} {offset : ℤ} → IsLoad (insn.Density (density.Word NarrowName.L32i t s offset)) false

-- a store, and its offset
pub data IsStore : Insn → ℤ → Type 0 where
  s8i : {t s : ℕ} {offset : ℤ} → IsStore (insn.Memory (memory.Byte ByteName.S8i t s offset)) offset
  s16i : {t s : ℕ} {offset : ℤ} → IsStore (insn.Memory (memory.Half HalfName.S16i t s offset)) offset
  s32i : {t s : ℕ} {offset : ℤ} → IsStore (insn.Memory (memory.Word WordName.S32i t s offset)) offset
  s32ri : {t s : ℕ} {offset : ℤ} → IsStore (insn.Memory (memory.Word WordName.S32ri t s offset)) offset
  s32e : {t s : ℕ} {offset : ℤ} → IsStore (insn.Memory (memory.Window WindowName.S32e t s offset)) offset
  s32i_n : {t s : ℕ} {offset : ℤ} → IsStore (insn.Density (density.Word NarrowName.S32i t s offset)) offset

-- ---- registers and fields that are in their range
pub below : (a : ℕ) → one_register a ≡ true → a < 16
unfolding one_register
below a h = ltb-true a 16 h

-- of two and of three registers
first : (a b : ℕ) → two_registers a b ≡ true → a < 16
unfolding two_registers
first a b h = ltb-true a 16 (and_parts _ _ h).0

first_of_3 : (a b c : ℕ) → three_registers a b c ≡ true → a < 16
unfolding three_registers
first_of_3 a b c h = ltb-true a 16 (and_parts _ _ h).0

pub at_most : (low high : ℕ) (n : ℤ) → natural_within low high n ≡ true → natural n ≤ high
unfolding natural_within natural
at_most low high (pos n) h = grind (arith, nat_tests)
at_most low high (negsuc n) h = omega arith

call_small : (name : CallName) → call_size name < 4
call_small CallName.Call0 = omega arith
call_small CallName.Call4 = omega arith
call_small CallName.Call8 = omega arith
call_small CallName.Call12 = omega arith

callx_small : (name : CallxName) → callx_size name < 4
callx_small CallxName.Callx0 = omega arith
callx_small CallxName.Callx4 = omega arith
callx_small CallxName.Callx8 = omega arith
callx_small CallxName.Callx12 = omega arith

-- a register that is neither SAR nor VECBASE holds any word
pub holds_any : (number value : ℕ) → eqb number 3 ≡ false → eqb number 231 ≡ false → CanHold number value
holds_any number value p q = record { as_sar = λ e. absurd (grind (arith, nat_tests)); as_vecbase = λ e. absurd (grind (arith, nat_tests)) }

some_window_register : (n : ℕ) (w : WindowRegister) → window_register n ≡ Some w → is_window_register n ≡ true
some_window_register n w e = by_tests (eqb n 72) (eqb n 73) e
  where
    by_tests : (b c : Bool) → cond b (Some window.Base) (cond c (Some window.Start) None) ≡ Some w → (b || c) ≡ true
    by_tests true c h = refl
    by_tests false true h = refl
    by_tests false false h = absurd cc

-- ---- the forms
-- the instruction's operands are in their ranges, and what the row is given is words
pub record AreGiven (i : Insn) (x y u v : ℕ) : Type 0 where
  pub range : in_range i ≡ true
  pub x_word : x < 2 ^ 32
  pub y_word : y < 2 ^ 32
  pub u_word : u < 2 ^ 32
  pub v_word : v < 2 ^ 32

pub given : {i : Insn} {pc x y u v : ℕ} {ps : Ps} {t : ℕ} → IsGiven i pc x y u v ps t → AreGiven i x y u v
given g = record { range = g.range; x_word = g.x_word; y_word = g.y_word; u_word = g.u_word; v_word = g.v_word }

-- what a row makes of PS and THREADPTR
abbrev pub Makes : Type 0
Makes = Ps → ℕ → Outcome

module _ (code : ℕ → ℕ) (pc x y u v : ℕ) where
  -- x and y, u and v are what the row is given, as in `Outcomes`; ps and t are PS and THREADPTR
  pub data Form : Insn → Makes → Type 0 where
    -- a register receives a value; of constant memory, what a load reads
    Puts : {i : Insn} (number value : ℕ) → is_calm i ≡ true → number ≤ highest_register i → (AreGiven i x y u v → value < 2 ^ 32) → Form i (λ ps t. puts number value (no_change ps t))
    PutsLoaded : {i : Insn} (size : ℕ) (signed : Bool) (number addr : ℕ) → IsLoad i signed → IsSize size → is_calm i ≡ true → number ≤ highest_register i
        → Form i (λ ps t. puts number (loaded_value signed (code_number code addr size)) (no_change ps t))
    Jumps : {i : Insn} (target : ℕ) → is_calm i ≡ true → (AreGiven i x y u v → target < 2 ^ 32) → Form i (λ ps t. goes target (no_change ps t))
    -- CALL0 and CALLX0, and the other calls
    Calls : {i : Insn} (target : ℕ) → is_calm i ≡ true → (AreGiven i x y u v → target < 2 ^ 32)
        → Form i (λ ps t. Does (record (no_change ps t) { write = write_to 0 (address_behind pc); flow = Goes target }))
    CallsWindow : {i : Insn} (size target : ℕ) → size < 4 → is_calm i ≡ true → 4 * size ≤ highest_register i → (AreGiven i x y u v → target < 2 ^ 32)
        → Form i (λ ps t. Does (record (no_change ps t) { write = write_to (4 * size) (return_address size pc); ps = record ps { callinc = size }; flow = Goes target }))
    Loops : {i : Insn} (passes : Bool) (offset : ℤ) → is_calm i ≡ true → Form i (λ ps t. loops passes x pc offset (no_change ps t))
    -- SAR or BR receives a value
    SetsRegister : {i : Insn} (number value : ℕ) → is_calm i ≡ true → number < 177 → (AreGiven i x y u v → CanHold number value × (value < 2 ^ 32))
        → Form i (λ ps t. sets_special number value (no_change ps t))
    -- RSR, WSR and XSR of a register that is kept with the others
    PutsSpecial : {r n : ℕ} → Form (insn.System (system.Special SpecialName.Rsr r n)) (λ ps t. puts r (value_read n u ps) (no_change ps t))
    WritesSpecial : {r n : ℕ} → Form (insn.System (system.Special SpecialName.Wsr r n)) (λ ps t. Does (record (no_change ps t) { sets = written_by n x v; ps = ps_written n x ps }))
    ExchangesSpecial : {r n : ℕ} → Form (insn.System (system.Special SpecialName.Xsr r n))
        (λ ps t. Does (record (no_change ps t) { write = write_to r (value_read n u ps); sets = written_by n x v; ps = ps_written n x ps }))
    -- RUR and WUR
    PutsPointer : {r n : ℕ} → Form (insn.System (system.User UserName.Rur r n)) (λ ps t. puts r t (no_change ps t))
    SetsPointer : {r n : ℕ} → Form (insn.System (system.User UserName.Wur r n)) (λ ps t. Does (record (no_change ps t) { threadptr = x }))
    -- RFE, RFI, RSIL and WAITI
    EndsException : Form (insn.System (system.ExceptionReturn ExceptionReturnName.Rfe)) (λ ps t. Does (record (no_change ps t) { ps = record ps { excm = false }; flow = Goes u }))
    EndsInterrupt : {level : ℤ} → Form (insn.System (system.Rfi level)) (λ ps t. Does (record (no_change ps t) { ps = ps_of v; flow = Goes u }))
    SetsLevel : {r : ℕ} {level : ℤ} → Form (insn.System (system.Level LevelName.Rsil r level))
        (λ ps t. Does (record (no_change ps t) { write = write_to r (ps_word ps); ps = record ps { intlevel = natural level } }))
    Waits : {r : ℕ} {level : ℤ} → Form (insn.System (system.Level LevelName.Waiti r level)) (λ ps t. Does (record (no_change ps t) { ps = record ps { intlevel = natural level }; waits = true }))
    Nothing : {i : Insn} → is_calm i ≡ true → Form i (λ ps t. Does (no_change ps t))
    Refuses : {i : Insn} (cause : ℕ) (address : Option ℕ) → cause < 64 → IsProperAddress address → Form i (λ ps t. Raises cause address)
    Halts : {i : Insn} → Form i (λ ps t. Stops)
    MovesWindow : {i : Insn} (step : WindowStep) → FitsStep i step → (AreGiven i x y u v → IsProperStep step) → Form i (λ ps t. Windowed step)
    AsksLoad : {i : Insn} (size : ℕ) (signed : Bool) (number addr : ℕ) → IsLoad i signed → is_calm i ≡ true → number ≤ highest_register i → is_mapped (record { addr = addr; size = size; kind = Load }) ≡ true
        → Form i (λ ps t. Asks (record { addr = addr; size = size; kind = Load }) (Some (record { number = number; signed = signed })) (no_change ps t))
    AsksStore : {i : Insn} (size : ℕ) (offset : ℤ) → IsStore i offset → is_calm i ≡ true → is_mapped (record { addr = plus x offset; size = size; kind = Store (y % 2 ^ (8 * size)) }) ≡ true
        → Form i (λ ps t. Asks (record { addr = plus x offset; size = size; kind = Store (y % 2 ^ (8 * size)) }) None (no_change ps t))
    AsksSwap : {r s : ℕ} {offset : ℤ} → is_mapped (record { addr = plus x offset; size = 4; kind = Cas u y }) ≡ true
        → Form (insn.Memory (memory.S32c1i r s offset)) (λ ps t. Asks (record { addr = plus x offset; size = 4; kind = Cas u y }) (Some (record { number = r; signed = false })) (no_change ps t))

  -- ---- the words of the formulas
  either : {i : Insn} {o p : Makes} (b : Bool) → (b ≡ true → Form i o) → (b ≡ false → Form i p) → Form i (λ ps t. cond b (o ps t) (p ps t))
  either true f g = f refl
  either false f g = g refl

  moves_form : {i : Insn} (b : Bool) (number : ℕ) → is_calm i ≡ true → number ≤ highest_register i → Form i (λ ps t. moves b number x (no_change ps t))
  moves_form b number c n = either b (λ h. Puts number x c n (λ g. g.x_word)) (λ h. Nothing c)

  divides_form : {i : Insn} (number value : ℕ) → is_calm i ≡ true → number ≤ highest_register i → (AreGiven i x y u v → value < 2 ^ 32) → Form i (λ ps t. divides y number value (no_change ps t))
  divides_form number value c n w = either (y == 0) (λ h. Refuses 6 None (omega arith) tt) (λ h. Puts number value c n w)

  branches_form : {i : Insn} (b : Bool) (offset : ℤ) → is_calm i ≡ true → Form i (λ ps t. branches b pc offset (no_change ps t))
  branches_form b offset c = either b (λ h. Jumps (branch_target pc offset) c (λ g. plus_small _ offset)) (λ h. Nothing c)

  calls_form : {i : Insn} (size target : ℕ) → size < 4 → is_calm i ≡ true → 4 * size ≤ highest_register i → (AreGiven i x y u v → target < 2 ^ 32) → Form i (λ ps t. calls size target pc (no_change ps t))
  calls_form size target s c n w = either (size == 0) (λ h. Calls target c w) (λ h. CallsWindow size target s c n w)

  aligned_form : {i : Insn} {o : Makes} (size addr : ℕ) → addr < 2 ^ 32 → Form i o → Form i (λ ps t. if_aligned size addr (o ps t))
  aligned_form size addr small f = either ((addr % size) == 0) (λ h. f) (λ h. Refuses 9 (Some addr) (omega arith) small)

  asks_form : {i : Insn} (a : Access) (w : Option ReplyTarget) → a.addr < 2 ^ 32 → (is_mapped a ≡ true → Form i (λ ps t. Asks a w (no_change ps t))) → Form i (λ ps t. asks a w (no_change ps t))
  asks_form a w small f = either (is_mapped a) f (λ h. Refuses 3 (Some a.addr) (omega arith) small)

  loads_form : {i : Insn} (size : ℕ) (signed : Bool) (number addr : ℕ) → IsLoad i signed → IsSize size → addr < 2 ^ 32 → is_calm i ≡ true → number ≤ highest_register i → Form i (λ ps t. loads code size signed number addr (no_change ps t))
  loads_form size signed number addr l z small c n = aligned_form size addr small
      (either (is_constant (region_of addr)) (λ h. PutsLoaded size signed number addr l z c n)
      (λ h. asks_form (record { addr = addr; size = size; kind = Load }) (Some (record { number = number; signed = signed })) small (AsksLoad size signed number addr l c n)))

  stores_form : {i : Insn} (size : ℕ) (offset : ℤ) → IsStore i offset → is_calm i ≡ true → Form i (λ ps t. stores size y (plus x offset) (no_change ps t))
  stores_form size offset s c = aligned_form size (plus x offset) (plus_small x offset)
      (asks_form (record { addr = plus x offset; size = size; kind = Store (y % 2 ^ (8 * size)) }) None (plus_small x offset) (AsksStore size offset s c))

  swaps_form : (r s : ℕ) (offset : ℤ) → Form (insn.Memory (memory.S32c1i r s offset)) (λ ps t. swaps u y r (plus x offset) (no_change ps t))
  swaps_form r s offset = aligned_form 4 (plus x offset) (plus_small x offset)
      (asks_form (record { addr = plus x offset; size = 4; kind = Cas u y }) (Some (record { number = r; signed = false })) (plus_small x offset) (λ m. AsksSwap m))

  sar_form : {i : Insn} (amount : ℕ) → is_calm i ≡ true → (AreGiven i x y u v → amount < 2 ^ 6) → Form i (λ ps t. sets_sar amount (no_change ps t))
  sar_form amount c w = SetsRegister 3 amount c (omega arith) (λ g. let h : amount < 2 ^ 6 = w g in (record { as_sar = λ same. h; as_vecbase = λ same. absurd (omega arith) }, omega arith))

  br_form : {i : Insn} (value : ℕ) → is_calm i ≡ true → (AreGiven i x y u v → value < 2 ^ 16) → Form i (λ ps t. sets_br value (no_change ps t))
  br_form value c w = SetsRegister 4 value c (omega arith) (λ g. let h : value < 2 ^ 16 = w g in (holds_any 4 value refl refl, omega arith))

  -- ---- special registers
  rsr_form : (r n : ℕ) (w : Option WindowRegister) → window_register n ≡ w → Form (insn.System (system.Special SpecialName.Rsr r n)) (λ ps t. reads_special w r n u (no_change ps t))
  unfolding names_window_register
  rsr_form r n None h = PutsSpecial
  rsr_form r n (Some k) h = MovesWindow (Reads k r) (some_window_register n k h) (λ g. below r (and_parts _ _ g.range).0)

  wsr_form : (r n : ℕ) (w : Option WindowRegister) → window_register n ≡ w → Form (insn.System (system.Special SpecialName.Wsr r n)) (λ ps t. writes_special w n x v (no_change ps t))
  unfolding names_window_register
  wsr_form r n None h = WritesSpecial
  wsr_form r n (Some k) h = MovesWindow (Sets k x) (some_window_register n k h) (λ g. g.x_word)

  xsr_form : (r n : ℕ) (w : Option WindowRegister) → window_register n ≡ w → Form (insn.System (system.Special SpecialName.Xsr r n)) (λ ps t. exchanges_special w r n x u v (no_change ps t))
  unfolding names_window_register
  xsr_form r n None h = ExchangesSpecial
  xsr_form r n (Some k) h = MovesWindow (Exchanges k r x) (some_window_register n k h) (λ g. (below r (and_parts _ _ g.range).0, g.x_word))

  -- ---- the tables of rows
  three_form : (i : Three) → Form (insn.Three i) (λ ps t. three_outcome i x y u (no_change ps t))
  unfolding three_outcome highest_register is_calm
  three_form (three.Bitwise BitwiseName.And r s t) = Puts r (bit_and x y) refl (omega arith) (λ g. and_small x y g.x_word)
  three_form (three.Bitwise BitwiseName.Or r s t) = Puts r (bit_or x y) refl (omega arith) (λ g. or_small x y g.x_word g.y_word)
  three_form (three.Bitwise BitwiseName.Xor r s t) = Puts r (bit_xor x y) refl (omega arith) (λ g. xor_small x y g.x_word g.y_word)
  three_form (three.Sum SumName.Add r s t) = Puts r (addx x y 0) refl (omega arith) (λ g. addx_small x y 0)
  three_form (three.Sum SumName.Addx2 r s t) = Puts r (addx x y 1) refl (omega arith) (λ g. addx_small x y 1)
  three_form (three.Sum SumName.Addx4 r s t) = Puts r (addx x y 2) refl (omega arith) (λ g. addx_small x y 2)
  three_form (three.Sum SumName.Addx8 r s t) = Puts r (addx x y 3) refl (omega arith) (λ g. addx_small x y 3)
  three_form (three.Difference DifferenceName.Sub r s t) = Puts r (subx x y 0) refl (omega arith) (λ g. subx_small x y 0)
  three_form (three.Difference DifferenceName.Subx2 r s t) = Puts r (subx x y 1) refl (omega arith) (λ g. subx_small x y 1)
  three_form (three.Difference DifferenceName.Subx4 r s t) = Puts r (subx x y 2) refl (omega arith) (λ g. subx_small x y 2)
  three_form (three.Difference DifferenceName.Subx8 r s t) = Puts r (subx x y 3) refl (omega arith) (λ g. subx_small x y 3)
  three_form (three.Src r s t) = Puts r (src x y u) refl (omega arith) (λ g. src_small x y u)
  three_form (three.Mul16 Mul16Name.Mul16u r s t) = Puts r (mul16u x y) refl (omega arith) (λ g. mul16u_small x y)
  three_form (three.Mul16 Mul16Name.Mul16s r s t) = Puts r (mul16s x y) refl (omega arith) (λ g. mul16s_small x y)
  three_form (three.Mull r s t) = Puts r (mull x y) refl (omega arith) (λ g. mull_small x y)
  three_form (three.MulHigh MulHighName.Muluh r s t) = Puts r (muluh x y) refl (omega arith) (λ g. muluh_small x y g.x_word g.y_word)
  three_form (three.MulHigh MulHighName.Mulsh r s t) = Puts r (mulsh x y) refl (omega arith) (λ g. mulsh_small x y g.x_word g.y_word)
  three_form (three.Divide DivideName.Quou r s t) = divides_form r (quou x y) refl (omega arith) (λ g. quou_small x y g.x_word)
  three_form (three.Divide DivideName.Quos r s t) = divides_form r (quos x y) refl (omega arith) (λ g. quos_small x y g.x_word)
  three_form (three.Divide DivideName.Remu r s t) = divides_form r (remu x y) refl (omega arith) (λ g. remu_small x y g.x_word)
  three_form (three.Divide DivideName.Rems r s t) = divides_form r (rems x y) refl (omega arith) (λ g. rems_small x y g.x_word)
  three_form (three.MinMax MinMaxName.Min r s t) = Puts r (signed_min x y) refl (omega arith) (λ g. signed_min_small x y g.x_word g.y_word)
  three_form (three.MinMax MinMaxName.Max r s t) = Puts r (signed_max x y) refl (omega arith) (λ g. signed_max_small x y g.x_word g.y_word)
  three_form (three.MinMax MinMaxName.Minu r s t) = Puts r (min x y) refl (omega arith) (λ g. min_small x y g.x_word g.y_word)
  three_form (three.MinMax MinMaxName.Maxu r s t) = Puts r (max x y) refl (omega arith) (λ g. max_small x y g.x_word g.y_word)
  three_form (three.Move MoveName.Moveqz r s t) = moves_form (holds cond_.Eq y 0) r refl (omega arith)
  three_form (three.Move MoveName.Movnez r s t) = moves_form (holds cond_.Ne y 0) r refl (omega arith)
  three_form (three.Move MoveName.Movltz r s t) = moves_form (holds cond_.Lt y 0) r refl (omega arith)
  three_form (three.Move MoveName.Movgez r s t) = moves_form (holds cond_.Ge y 0) r refl (omega arith)

  shift_form : (i : Shift) → Form (insn.Shift i) (λ ps t. shift_outcome i x u (no_change ps t))
  unfolding shift_outcome highest_register is_calm is_movsp
  shift_form (shift.Sign SignName.Neg r t) = Puts r (neg x) refl (omega arith) (λ g. neg_small x)
  shift_form (shift.Sign SignName.Abs r t) = Puts r (abs x) refl (omega arith) (λ g. abs_small x g.x_word)
  shift_form (shift.ShiftRight ShiftRightName.Srl r t) = Puts r (srl x u) refl (omega arith) (λ g. srl_small x u)
  shift_form (shift.ShiftRight ShiftRightName.Sra r t) = Puts r (sra x u) refl (omega arith) (λ g. sra_small x u g.x_word)
  shift_form (shift.Sll r s) = Puts r (sll x u) refl (omega arith) (λ g. sll_small x u)
  shift_form (shift.Slli r s n) = Puts r (slli x (natural n)) refl (omega arith) (λ g. slli_small x (natural n))
  shift_form (shift.Srai r t n) = Puts r (srai x (natural n)) refl (omega arith) (λ g. srai_small x (natural n) g.x_word)
  shift_form (shift.Srli r t n) = Puts r (srli x (natural n)) refl (omega arith) (λ g. srli_small x (natural n) g.x_word)
  shift_form (shift.Extui r t n width) = Puts r (extui x (natural n) (natural width)) refl (omega arith) (λ g. extui_small x (natural n) (natural width) g.x_word)
  shift_form (shift.Signed SignedName.Sext r s b) = Puts r (sext x (natural b)) refl (omega arith) (λ g. sext_small x (natural b) (at_most 7 22 b (and_parts _ _ g.range).1))
  shift_form (shift.Signed SignedName.Clamps r s b) = Puts r (clamps x (natural b)) refl (omega arith) (λ g. clamps_small x (natural b) g.x_word)
  shift_form (shift.Normalize NormalizeName.Nsa t s) = Puts t (nsa x) refl (omega arith) (λ g. nsa_small x)
  shift_form (shift.Normalize NormalizeName.Nsau t s) = Puts t (nsau x) refl (omega arith) (λ g. nsau_small x)
  shift_form (shift.Movsp t s) = MovesWindow (MovesStack t x) refl (λ g. (first t s g.range, g.x_word))
  shift_form (shift.Amount AmountName.Ssr s) = sar_form (ssr x) refl (λ g. ssr_small x)
  shift_form (shift.Amount AmountName.Ssl s) = sar_form (ssl x) refl (λ g. ssl_small x)
  shift_form (shift.ByteAmount ByteAmountName.Ssa8l s) = sar_form (ssa8l x) refl (λ g. ssa8l_small x)
  shift_form (shift.ByteAmount ByteAmountName.Ssa8b s) = sar_form (ssa8b x) refl (λ g. ssa8b_small x)
  shift_form (shift.Ssai n) = sar_form (natural n) refl (λ g. let h = at_most 0 31 n g.range in omega arith)

  memory_form : (i : Memory) → Form (insn.Memory i) (λ ps t. memory_outcome code i pc x y u (no_change ps t))
  unfolding memory_outcome highest_register is_calm
  memory_form (memory.Byte ByteName.L8ui t s offset) = loads_form 1 false t (plus x offset) l8ui One (plus_small x offset) refl (omega arith)
  memory_form (memory.Byte ByteName.S8i t s offset) = stores_form 1 offset s8i refl
  memory_form (memory.Half HalfName.L16ui t s offset) = loads_form 2 false t (plus x offset) l16ui Two (plus_small x offset) refl (omega arith)
  memory_form (memory.Half HalfName.L16si t s offset) = loads_form 2 true t (plus x offset) l16si Two (plus_small x offset) refl (omega arith)
  memory_form (memory.Half HalfName.S16i t s offset) = stores_form 2 offset s16i refl
  memory_form (memory.Word WordName.L32i t s offset) = loads_form 4 false t (plus x offset) l32i Four (plus_small x offset) refl (omega arith)
  memory_form (memory.Word WordName.S32i t s offset) = stores_form 4 offset s32i refl
  memory_form (memory.Word WordName.L32ai t s offset) = loads_form 4 false t (plus x offset) l32ai Four (plus_small x offset) refl (omega arith)
  memory_form (memory.Word WordName.S32ri t s offset) = stores_form 4 offset s32ri refl
  memory_form (memory.S32c1i t s offset) = swaps_form t s offset
  memory_form (memory.Window WindowName.L32e t s offset) = loads_form 4 false t (plus x offset) l32e Four (plus_small x offset) refl (omega arith)
  memory_form (memory.Window WindowName.S32e t s offset) = stores_form 4 offset s32e refl
  memory_form (memory.L32r t offset) = loads_form 4 false t (literal_address pc offset) l32r Four (plus_small _ offset) refl (omega arith)
  memory_form (memory.Movi t n) = Puts t (plus 0 n) refl (omega arith) (λ g. plus_small 0 n)
  memory_form (memory.Addi t s n) = Puts t (plus x n) refl (omega arith) (λ g. plus_small x n)
  memory_form (memory.Addmi t s n) = Puts t (plus x n) refl (omega arith) (λ g. plus_small x n)

  control_form : (i : Control) → Form (insn.Control i) (λ ps t. control_outcome i pc x y (no_change ps t))
  unfolding control_outcome highest_register is_calm
  control_form (control.J offset) = Jumps (branch_target pc offset) refl (λ g. plus_small _ offset)
  control_form (control.Call name offset) = calls_form (call_size name) (call_target pc offset) (call_small name) refl (omega arith) (λ g. plus_small _ offset)
  control_form (control.Return ReturnName.Ret) = Jumps x refl (λ g. g.x_word)
  control_form (control.Return ReturnName.Retw) = MovesWindow (Returns x) (inl refl) (λ g. g.x_word)
  control_form (control.Jx s) = Jumps x refl (λ g. g.x_word)
  control_form (control.Callx name s) = calls_form (callx_size name) x (callx_small name) refl (omega arith) (λ g. g.x_word)
  control_form (control.BranchZero ZeroName.Beqz s offset) = branches_form (holds cond_.Eq x 0) offset refl
  control_form (control.BranchZero ZeroName.Bnez s offset) = branches_form (holds cond_.Ne x 0) offset refl
  control_form (control.BranchZero ZeroName.Bltz s offset) = branches_form (holds cond_.Lt x 0) offset refl
  control_form (control.BranchZero ZeroName.Bgez s offset) = branches_form (holds cond_.Ge x 0) offset refl
  control_form (control.BranchConst ConstName.Beqi s c offset) = branches_form (holds cond_.Eq x (plus 0 c)) offset refl
  control_form (control.BranchConst ConstName.Bnei s c offset) = branches_form (holds cond_.Ne x (plus 0 c)) offset refl
  control_form (control.BranchConst ConstName.Blti s c offset) = branches_form (holds cond_.Lt x (plus 0 c)) offset refl
  control_form (control.BranchConst ConstName.Bgei s c offset) = branches_form (holds cond_.Ge x (plus 0 c)) offset refl
  control_form (control.BranchConstu ConstuName.Bltui s c offset) = branches_form (holds cond_.Ltu x (plus 0 c)) offset refl
  control_form (control.BranchConstu ConstuName.Bgeui s c offset) = branches_form (holds cond_.Geu x (plus 0 c)) offset refl
  control_form (control.Branch BranchName.Bnone s t offset) = branches_form (holds cond_.NoBits x y) offset refl
  control_form (control.Branch BranchName.Beq s t offset) = branches_form (holds cond_.Eq x y) offset refl
  control_form (control.Branch BranchName.Blt s t offset) = branches_form (holds cond_.Lt x y) offset refl
  control_form (control.Branch BranchName.Bltu s t offset) = branches_form (holds cond_.Ltu x y) offset refl
  control_form (control.Branch BranchName.Ball s t offset) = branches_form (holds cond_.AllBits x y) offset refl
  control_form (control.Branch BranchName.Bbc s t offset) = branches_form (holds cond_.BitClear x y) offset refl
  control_form (control.BranchNot OppositeName.Bany s t offset) = branches_form (holds cond_.AnyBits x y) offset refl
  control_form (control.BranchNot OppositeName.Bne s t offset) = branches_form (holds cond_.Ne x y) offset refl
  control_form (control.BranchNot OppositeName.Bge s t offset) = branches_form (holds cond_.Ge x y) offset refl
  control_form (control.BranchNot OppositeName.Bgeu s t offset) = branches_form (holds cond_.Geu x y) offset refl
  control_form (control.BranchNot OppositeName.Bnall s t offset) = branches_form (holds cond_.NotAllBits x y) offset refl
  control_form (control.BranchNot OppositeName.Bbs s t offset) = branches_form (holds cond_.BitSet x y) offset refl
  control_form (control.BranchBit BitName.Bbci s b offset) = branches_form (holds cond_.BitClear x (natural b)) offset refl
  control_form (control.BranchBit BitName.Bbsi s b offset) = branches_form (holds cond_.BitSet x (natural b)) offset refl
  control_form (control.Entry s n) = MovesWindow (Enters s (minus x (natural n))) (n, refl) (λ g. (below s (and_parts _ _ g.range).0, minus_small x (natural n)))
  control_form (control.Loop LoopName.Loop s offset) = Loops false offset refl
  control_form (control.Loop LoopName.Loopnez s offset) = Loops (holds cond_.Eq x 0) offset refl
  control_form (control.Loop LoopName.Loopgtz s offset) = Loops (holds cond_.Ge 0 x) offset refl

  system_form : (i : System) → Form (insn.System i) (λ ps t. system_outcome i x u v (no_change ps t))
  unfolding system_outcome is_calm is_windowing
  system_form (system.Sync SyncName.Ill) = Refuses 0 None (omega arith) tt
  system_form (system.Sync SyncName.Isync) = Nothing refl
  system_form (system.Sync SyncName.Rsync) = Nothing refl
  system_form (system.Sync SyncName.Esync) = Nothing refl
  system_form (system.Sync SyncName.Dsync) = Nothing refl
  system_form (system.Wait WaitName.Excw) = Nothing refl
  system_form (system.Wait WaitName.Memw) = Nothing refl
  system_form (system.Wait WaitName.Extw) = Nothing refl
  system_form (system.Wait WaitName.Nop) = Nothing refl
  system_form (system.ExceptionReturn ExceptionReturnName.Rfe) = EndsException
  system_form (system.ExceptionReturn ExceptionReturnName.Rfde) = Jumps u refl (λ g. g.u_word)
  system_form (system.ExceptionReturn ExceptionReturnName.Rfwo) = MovesWindow (EndsOverflow u) refl (λ g. g.u_word)
  system_form (system.ExceptionReturn ExceptionReturnName.Rfwu) = MovesWindow (EndsUnderflow u) refl (λ g. g.u_word)
  system_form (system.Rfi level) = EndsInterrupt
  system_form (system.Trap TrapName.Break level number) = Halts
  system_form (system.Trap TrapName.Syscall level number) = Refuses 1 None (omega arith) tt
  system_form (system.Level LevelName.Rsil t level) = SetsLevel
  system_form (system.Level LevelName.Waiti t level) = Waits
  system_form (system.Rotw n) = MovesWindow (Rotates n) refl (λ g. g.range)
  system_form (system.Special SpecialName.Rsr t n) = rsr_form t n (window_register n) refl
  system_form (system.Special SpecialName.Wsr t n) = wsr_form t n (window_register n) refl
  system_form (system.Special SpecialName.Xsr t n) = xsr_form t n (window_register n) refl
  system_form (system.User UserName.Rur r n) = PutsPointer
  system_form (system.User UserName.Wur t n) = SetsPointer

  density_form : (i : Density) → Form (insn.Density i) (λ ps t. density_outcome code i pc x y (no_change ps t))
  unfolding density_outcome highest_register is_calm
  density_form (density.Word NarrowName.L32i t s offset) = loads_form 4 false t (plus x offset) l32i_n Four (plus_small x offset) refl (omega arith)
  density_form (density.Word NarrowName.S32i t s offset) = stores_form 4 offset s32i_n refl
  density_form (density.Add r s t) = Puts r (addx x y 0) refl (omega arith) (λ g. addx_small x y 0)
  density_form (density.Addi r s n) = Puts r (plus x n) refl (omega arith) (λ g. plus_small x n)
  density_form (density.Movi s n) = Puts s (plus 0 n) refl (omega arith) (λ g. plus_small 0 n)
  density_form (density.BranchZero NarrowZeroName.Beqz s offset) = branches_form (holds cond_.Eq x 0) offset refl
  density_form (density.BranchZero NarrowZeroName.Bnez s offset) = branches_form (holds cond_.Ne x 0) offset refl
  density_form (density.Mov t s) = Puts t x refl (omega arith) (λ g. g.x_word)
  density_form (density.Bare BareName.Ret) = Jumps x refl (λ g. g.x_word)
  density_form (density.Bare BareName.Retw) = MovesWindow (Returns x) (inr refl) (λ g. g.x_word)
  density_form (density.Bare BareName.Nop) = Nothing refl
  density_form (density.Bare BareName.Ill) = Refuses 0 None (omega arith) tt
  density_form (density.Break n) = Halts

  boolean_form : (i : Boolean) → Form (insn.Boolean i) (λ ps t. boolean_outcome i pc x u (no_change ps t))
  unfolding boolean_outcome highest_register is_calm
  boolean_form (boolean.Logic LogicName.Andb r s t) = br_form (logic op.And (booleans u) r s t) refl (λ g. logic_small _ (booleans u) r s t (omega arith) (first_of_3 r s t g.range))
  boolean_form (boolean.Logic LogicName.Andbc r s t) = br_form (logic op.AndNot (booleans u) r s t) refl (λ g. logic_small _ (booleans u) r s t (omega arith) (first_of_3 r s t g.range))
  boolean_form (boolean.Logic LogicName.Orb r s t) = br_form (logic op.Or (booleans u) r s t) refl (λ g. logic_small _ (booleans u) r s t (omega arith) (first_of_3 r s t g.range))
  boolean_form (boolean.Logic LogicName.Orbc r s t) = br_form (logic op.OrNot (booleans u) r s t) refl (λ g. logic_small _ (booleans u) r s t (omega arith) (first_of_3 r s t g.range))
  boolean_form (boolean.Logic LogicName.Xorb r s t) = br_form (logic op.Xor (booleans u) r s t) refl (λ g. logic_small _ (booleans u) r s t (omega arith) (first_of_3 r s t g.range))
  boolean_form (boolean.Four FourName.Any4 t s) = br_form (group false 4 (booleans u) t s) refl (λ g. group_small false 4 (booleans u) t s (omega arith) (first t s (and_parts _ _ g.range).0))
  boolean_form (boolean.Four FourName.All4 t s) = br_form (group true 4 (booleans u) t s) refl (λ g. group_small true 4 (booleans u) t s (omega arith) (first t s (and_parts _ _ g.range).0))
  boolean_form (boolean.Eight EightName.Any8 t s) = br_form (group false 8 (booleans u) t s) refl (λ g. group_small false 8 (booleans u) t s (omega arith) (first t s (and_parts _ _ g.range).0))
  boolean_form (boolean.Eight EightName.All8 t s) = br_form (group true 8 (booleans u) t s) refl (λ g. group_small true 8 (booleans u) t s (omega arith) (first t s (and_parts _ _ g.range).0))
  boolean_form (boolean.Test TestName.Bf s offset) = branches_form (holds cond_.BitClear u s) offset refl
  boolean_form (boolean.Test TestName.Bt s offset) = branches_form (holds cond_.BitSet u s) offset refl
  boolean_form (boolean.Choice ChoiceName.Movf r s t) = moves_form (holds cond_.BitClear u t) r refl (omega arith)
  boolean_form (boolean.Choice ChoiceName.Movt r s t) = moves_form (holds cond_.BitSet u t) r refl (omega arith)

  pub rows_have_forms : (i : Insn) → Form i (λ ps t. outcome code i pc x y u v ps t)
  unfolding outcome
  rows_have_forms (insn.Three i) = three_form i
  rows_have_forms (insn.Shift i) = shift_form i
  rows_have_forms (insn.Memory i) = memory_form i
  rows_have_forms (insn.Control i) = control_form i
  rows_have_forms (insn.System i) = system_form i
  rows_have_forms (insn.Density i) = density_form i
  rows_have_forms (insn.Boolean i) = boolean_form i
