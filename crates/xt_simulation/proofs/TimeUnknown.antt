-- Time as what is not known.
use Rattle.std.proofs.Common.{◌≡◌, ◌≢◌, ℕ, ◌+◌, ◌^◌, ◌<◌, ◌≤◌, Bool, true, false, cond, eqb, not, ◌&&◌, ◌||◌, Option, Some, None, List, length, slice_index, bit_and, bit_or, refl, sym, ap, ◌∙◌, subst, ⊎_elim, arith}
use Rattle.std.specs.Prelude.{min}
use Rattle.std.specs.Int.{bit_at}
use Rattle.std.proofs.lemmas.Bool.{cases_eq, cases_lt, eqb-true, or_parts, true≢false}
use Rattle.std.proofs.lemmas.List.{ext_get_or}
use Rattle.std.proofs.lemmas.Nat.Bits.{bit_at-lt, bit_at-zero, bit_at_above, bit_at_and, bit_at_ones, bit_at_or, same_from_bits}
use Rattle.xt_isa.specs.declared.Insn.{Insn}
use Rattle.xt_isa.specs.declared.Insn.TheVariants as insn
use Rattle.xt_isa.specs.declared.three.Three.{Three}
use Rattle.xt_isa.specs.declared.three.Three.TheVariants as three
use Rattle.xt_isa.specs.declared.shift.Shift.{Shift}
use Rattle.xt_isa.specs.declared.shift.Shift.TheVariants as shift
use Rattle.xt_isa.specs.declared.memory.Memory.{Memory}
use Rattle.xt_isa.specs.declared.memory.Memory.TheVariants as memory
use Rattle.xt_isa.specs.declared.system.System.{System}
use Rattle.xt_isa.specs.declared.system.System.TheVariants as system
use Rattle.xt_isa.specs.declared.system.ExceptionReturnName.TheVariants as ExceptionReturnName
use Rattle.xt_isa.specs.declared.system.SpecialName.TheVariants as SpecialName
use Rattle.xt_isa.specs.declared.system.UserName.TheVariants as UserName
use Rattle.xt_isa.specs.Ranges.{in_range}
use Rattle.xt_map.specs.declared.access.Access.{Access}
use Rattle.xt_special.specs.Access.{timer_bit, without_bits}
use Rattle.xt_special.specs.Control.{special_of}
use Rattle.xt_window.specs.Ring.{place}
use Rattle.xt_trace.specs.declared.record.RegWrite.{RegWrite}
use Rattle.xt_trace.specs.declared.record.StepKind.{StepKind}
use Rattle.xt_trace.specs.declared.record.StepKind.TheVariants as kind
use Rattle.xt_map.specs.Code.{AreBytes}
use Rattle.xt_map.specs.Fetching.{Fetched, Fetches, Fails, SpellsNothing, fetch_at}
use Rattle.xt_map.proofs.Fetches.{fetched_range}
use Rattle.xt_rows.specs.Kinds.{is_return, moved_to}
use Rattle.xt_rows.specs.Numbers.{natural}
use Rattle.xt_rows.specs.Operands.{memory_special_reads, reads, shift_special_reads, special_reads, system_special_reads, three_special_reads}
use Rattle.xt_rows.proofs.Forms.{at_most}
use Rattle.xt_exec.specs.State.{State}
use Rattle.xt_exec.specs.Turn.{planned_turn, turn}
use Rattle.xt_exec.specs.TurnLaws.{IsShaped}
use Rattle.xt_exec.proofs.Shapes.{turn_shaped}
use Rattle.xt_frames.specs.Marks.{holds_marks}
use Rattle.xt_uses.specs.declared.discipline.Discipline.TheVariants.{Lenient}
use Rattle.xt_uses.specs.declared.words.Word.{Word}
use Rattle.xt_uses.specs.Words.{all_bits, and_mask, complement, masked, whole_word}
use Rattle.xt_uses.specs.Used.{both_whole, used_are_known}
use Rattle.xt_uses.specs.Known.{result_mask}
use Rattle.xt_uses.specs.UseBreaches.{is_swap}
use Rattle.xt_uses.specs.UseLaws.{AgreeIn, pointer_mask}
use Rattle.xt_uses.specs.UseStep.{step_insn}
use Rattle.xt_uses.proofs.Agreeing.{agree_none}
use Rattle.xt_uses.proofs.Bits.{flipped_at}
use Rattle.xt_uses.proofs.Owb.{all_agree_word}
use Rattle.xt_uses.proofs.WholeRows.{result_whole, used_whole}
use Rattle.xt_simulation.specs.Knowledge.{AreMasks, Knowledge, StatesAgree, first_special, first_word, is_apart, register_word, second_special, second_word, special_word}
use Rattle.xt_simulation.specs.TurnUses.{common_used, found_used, insn_used, kind_used, row_used, specials_used, turn_used}
use Rattle.xt_simulation.specs.Learning.{doubtful, known_past, regs_past, special_given, ticked_masks, timed_mask, with_mask, written_mask}
use Rattle.xt_simulation.specs.SecretLaws.{FitsAccess, executed}
use Rattle.xt_simulation.proofs.Law.{turns_with_known_uses_agree}
use Rattle.xt_simulation.proofs.SecretSpecials.{differs, unequal}
use Rattle.xt_timeless.specs.Time.{executes, fetches_time, is_of_time, reads_time, timer_bits, uses_time, without_time}
use Rattle.xt_timeless.specs.Alike.{AreAlike, Clocks, may_differ}
use Rattle.xt_simulation.specs.TimeUnknown.{TimeIsUnknown, all_but_time, timeless_mask}
use Rattle.xt_timeless.proofs.Lists.{alike_from, same_cleared}

-- ---- the masks

-- of a register that is none of time each bit is known
known_at : (n : ℕ) → is_of_time n ≡ false → timeless_mask n ≡ all_bits
known_at n other = λ i. cond (interrupt i) (complement timer_bits) (cond (other i) 0 all_bits)
  where
    interrupt : eqb n 226 ≡ false
    interrupt = unequal n 226 (λ e. true≢false (sym (ap is_of_time e) ∙ other))

-- a register with a lower number than INTERRUPT is none of time
low : (k : ℕ) → k < 226 → is_of_time k ≡ false
low k less = λ i. no 234 (omega arith) i || (no 226 less i || (no 240 (omega arith) i || (no 241 (omega arith) i || no 242 (omega arith) i)))
  where
    no : (n : ℕ) → k < n → eqb k n ≡ false
    no n below = unequal k n (λ e. omega (arith, e, below))

-- what holds of each register of time and, where no time is meant, of the others
by_register : (P : ℕ → Type 0) → P 226 → P 234 → P 240 → P 241 → P 242 → ((n : ℕ) → is_of_time n ≡ false → P n) → (n : ℕ) → P n
by_register P a b c d e rest n = ⊎_elim
    (λ (is : n ≡ 226). subst P (sym is) a)
    (λ (p : n ≢ 226). ⊎_elim
    (λ (is : n ≡ 234). subst P (sym is) b)
    (λ (q : n ≢ 234). ⊎_elim
    (λ (is : n ≡ 240). subst P (sym is) c)
    (λ (r : n ≢ 240). ⊎_elim
    (λ (is : n ≡ 241). subst P (sym is) d)
    (λ (s : n ≢ 241). ⊎_elim
    (λ (is : n ≡ 242). subst P (sym is) e)
    (λ (t : n ≢ 242). rest n (λ i. unequal n 234 q i || (unequal n 226 p i || (unequal n 240 r i || (unequal n 241 s i || unequal n 242 t i)))))
    (cases_eq n 242))
    (cases_eq n 241))
    (cases_eq n 240))
    (cases_eq n 234))
    (cases_eq n 226)

masks : AreMasks all_but_time
masks = record {
  regs = λ place. omega arith;
  special = by_register (λ n. timeless_mask n < 2 ^ 32) (omega arith) (omega arith) (omega arith) (omega arith) (omega arith) (λ n other. let e = known_at n other in omega (arith, e));
  threadptr = omega arith;
  apart = λ n apart. known_at n (not_time n apart);
}
  where
    not_time : (n : ℕ) → is_apart n ≡ true → is_of_time n ≡ false
    not_time n apart = λ i. off 234 refl i || (off 226 refl i || (off 240 refl i || (off 241 refl i || off 242 refl i)))
      where
        off : (k : ℕ) → is_apart k ≡ false → eqb n k ≡ false
        off k e = unequal n k (differs n k is_apart apart e)

-- ---- equal but for time

-- the registers of time are those that may differ
and_true : (b : Bool) → (b && true) ≡ false → b ≡ false
and_true true e = e
and_true false e = e

may_not_differ : (n : ℕ) → is_of_time n ≡ false → may_differ Clocks n ≡ false
may_not_differ n h =
    let p = or_parts (eqb n 234) (eqb n 226 || (eqb n 240 || (eqb n 241 || eqb n 242))) h in
    let q = or_parts (eqb n 226) (eqb n 240 || (eqb n 241 || eqb n 242)) p.1 in
    (λ i. (q.0 i && true) || (((p.0 i || q.1 i) && true) || (eqb n 12 && false))) ∙ never (eqb n 12)
  where
    never : (b : Bool) → (b && false) ≡ false
    never true = refl
    never false = refl

is_not_of_time : (n : ℕ) → may_differ Clocks n ≡ false → is_of_time n ≡ false
is_not_of_time n h =
    let clocks = eqb n 234 || (eqb n 240 || (eqb n 241 || eqb n 242)) in
    let p = or_parts (eqb n 226 && true) ((clocks && true) || (eqb n 12 && false)) h in
    let r = or_parts (clocks && true) (eqb n 12 && false) p.1 in
    let q = or_parts (eqb n 234) (eqb n 240 || (eqb n 241 || eqb n 242)) (and_true clocks r.0) in
    let interrupt = and_true (eqb n 226) p.0 in
    λ i. q.0 i || (interrupt i || q.1 i)

agree_special : (xs ys : List ℕ) → AreAlike Clocks xs ys → (n : ℕ) → AgreeIn (timeless_mask n) (slice_index xs n) (slice_index ys n)
unfolding without_bits
agree_special xs ys a =
    by_register (λ n. AgreeIn (timeless_mask n) (slice_index xs n) (slice_index ys n)) a.interrupt (agree_none _ _) (agree_none _ _) (agree_none _ _) (agree_none _ _)
    (λ n other. ap (masked (timeless_mask n)) (a.same n (may_not_differ n other)))

states_agree : (s t : State) → without_time s ≡ without_time t → StatesAgree all_but_time s t
states_agree s t e = record {
  pc = ap (λ (u : State). u.control.pc) e;
  base = ap (λ (u : State). u.base) e;
  start = ap (λ (u : State). u.start) e;
  ps = ap (λ (u : State). u.control.ps) e;
  waits = ap (λ (u : State). u.control.waits) e;
  regs = λ k. ap (λ (u : State). masked all_bits (slice_index u.regs k)) e;
  special = agree_special s.control.special t.control.special (alike_from s.control.special t.control.special (ap (λ (u : State). u.control.special) e));
  threadptr = ap (λ (u : State). masked all_bits u.control.threadptr) e;
}

same_words : (xs ys : List ℕ) → length xs ≡ length ys → ((k : ℕ) → slice_index xs k < 2 ^ 32) → ((k : ℕ) → slice_index ys k < 2 ^ 32) → ((k : ℕ) → AgreeIn all_bits (slice_index xs k) (slice_index ys k)) → xs ≡ ys
same_words xs ys long small low h = ext_get_or 0 xs ys long (λ k less. all_agree_word (slice_index xs k) (slice_index ys k) (small k) (low k) (h k))

equal_again : (s t : State) → IsShaped s → IsShaped t → StatesAgree all_but_time s t → without_time s ≡ without_time t
unfolding without_bits
equal_again s t f g h =
    let regs = same_words s.regs t.regs (f.count ∙ sym g.count) f.words g.words h.regs in
    let pointer = all_agree_word s.control.threadptr t.control.threadptr f.control.threadptr g.control.threadptr h.threadptr in
    let special = same_cleared s.control.special t.control.special (record { long = f.control.count ∙ sym g.control.count; same = λ n h. same_at n (is_not_of_time n h); interrupt = h.special 226 }) in
    λ i. record {
      regs = regs i;
      base = h.base i;
      start = h.start i;
      control = record { pc = h.pc i; special = special i; ps = h.ps i; threadptr = pointer i; waits = h.waits i };
    }
  where
    same_at : (n : ℕ) → is_of_time n ≡ false → slice_index s.control.special n ≡ slice_index t.control.special n
    same_at n other =
        all_agree_word (special_of s.control n) (special_of t.control n) (f.control.words n) (g.control.words n)
        (subst (λ (mask : ℕ). AgreeIn mask (special_of s.control n) (special_of t.control n)) (known_at n other) (h.special n))

-- ---- a turn that uses no time uses known bits alone

-- a word of which each bit is known
abbrev IsWholeWord : Word → Type 0
IsWholeWord w = (n : ℕ) × (w ≡ whole_word n)

-- the bits of INTERRUPT that INTENABLE leaves, if it has no timer's, are known
enabled_known : (v e : ℕ) → bit_and e timer_bits ≡ 0
    → and_mask (record { value = masked (complement timer_bits) v; mask = complement timer_bits }) (record { value = masked all_bits e; mask = all_bits }) ≡ all_bits
enabled_known v e none =
    same_from_bits (bit_or both (bit_or first second)) all_bits
    (λ i.
    let o = bit_at_or both (bit_or first second) i in
    let p = bit_at_or first second i in
    let b = bit_at_and (complement timer_bits) all_bits i in
    let q = bit_at_and (complement (masked all_bits e)) all_bits i in
    let r = bit_at_and e all_bits i in
    let z : min (bit_at e i) (bit_at timer_bits i) ≡ 0 = sym (bit_at_and e timer_bits i) ∙ (ap (λ n. bit_at n i) none ∙ bit_at-zero i) in
    ⊎_elim
    (λ less.
    let one = bit_at_ones 32 i less in
    let f = flipped_at timer_bits i less in
    let g = flipped_at (masked all_bits e) i less in
    omega (arith, o, p, b, q, r, z, one, f, g, bit_at-lt e i, bit_at-lt timer_bits i, bit_at-lt first i))
    (λ more.
    let n = bit_at_above all_bits 32 i (omega arith) more in
    let m = bit_at_above (complement timer_bits) 32 i (omega arith) more in
    let w = bit_at_and (complement (masked (complement timer_bits) v)) (complement timer_bits) i in
    omega (arith, o, p, b, q, n, m, w, bit_at-lt (complement (masked (complement timer_bits) v)) i))
    (cases_lt i 32))
  where
    both : ℕ
    both = bit_and (complement timer_bits) all_bits

    first : ℕ
    first = bit_and (complement (masked (complement timer_bits) v)) (complement timer_bits)

    second : ℕ
    second = bit_and (complement (masked all_bits e)) all_bits

module _ (s : State) where
  register_whole : (o : Option ℕ) → IsWholeWord (register_word all_but_time s o)
  register_whole None = (0, refl)
  register_whole (Some i) = (masked all_bits (slice_index s.regs (place s.base i)), refl)

  special_whole : (n : ℕ) → is_of_time n ≡ false → IsWholeWord (special_word all_but_time s (Some n))
  special_whole n other =
      let w : ℕ → Word = λ mask. record { value = masked mask (special_of s.control n); mask = mask } in
      (masked all_bits (special_of s.control n), ap w (known_at n other))

  first_mask : (o : Option ℕ) → (register_word all_but_time s o).mask ≡ all_bits
  first_mask None = refl
  first_mask (Some i) = refl

  -- ---- what the turn uses

  row_whole : (i : Insn) (a b : ℕ) → row_used i (whole_word a) (whole_word b) ≡ true
  unfolding row_used
  row_whole (insn.Three (three.Move name r p q)) a b = refl
  row_whole (insn.Three (three.Divide name r p q)) a b = refl
  row_whole i a b = used_whole Lenient i a b

  row_known : (i : Insn) → row_used i (first_word i all_but_time s) (second_word i all_but_time s) ≡ true
  row_known i =
      let a = register_whole (reads i).0 in
      let b = register_whole (reads i).1 in
      (λ j. row_used i (a.1 j) (b.1 j)) ∙ row_whole i a.0 b.0

  system_known : (i : System) → in_range (insn.System i) ≡ true
      → specials_used (insn.System i) (special_word all_but_time s (system_special_reads i).0) (special_word all_but_time s (system_special_reads i).1) ≡ true
  unfolding specials_used
  system_known (system.Special name t n) ok = refl
  system_known (system.Rfi level) ok =
      let small : natural level ≤ 7 = at_most 2 7 level ok in
      let a = special_whole (176 + natural level) (low (176 + natural level) (omega arith)) in
      let b = special_whole (192 + natural level) (low (192 + natural level) (omega arith)) in
      λ j. both_whole (a.1 j) (b.1 j)
  system_known (system.ExceptionReturn ExceptionReturnName.Rfe) ok = refl
  system_known (system.ExceptionReturn ExceptionReturnName.Rfde) ok = refl
  system_known (system.ExceptionReturn ExceptionReturnName.Rfwo) ok = refl
  system_known (system.ExceptionReturn ExceptionReturnName.Rfwu) ok = refl
  system_known _ ok = refl

  three_known : (i : Three) → specials_used (insn.Three i) (special_word all_but_time s (three_special_reads i).0) (special_word all_but_time s (three_special_reads i).1) ≡ true
  unfolding specials_used
  three_known (three.Src r p q) = refl
  three_known _ = refl

  shift_known : (i : Shift) → specials_used (insn.Shift i) (special_word all_but_time s (shift_special_reads i).0) (special_word all_but_time s (shift_special_reads i).1) ≡ true
  unfolding specials_used
  shift_known (shift.ShiftRight name r t) = refl
  shift_known (shift.Sll r p) = refl
  shift_known _ = refl

  memory_known : (i : Memory) → specials_used (insn.Memory i) (special_word all_but_time s (memory_special_reads i).0) (special_word all_but_time s (memory_special_reads i).1) ≡ true
  unfolding specials_used
  memory_known (memory.S32c1i t p offset) = refl
  memory_known _ = refl

  specials_known : (i : Insn) → in_range i ≡ true → specials_used i (first_special i all_but_time s) (second_special i all_but_time s) ≡ true
  unfolding special_reads specials_used
  specials_known (insn.Three i) ok = three_known i
  specials_known (insn.Shift i) ok = shift_known i
  specials_known (insn.Memory i) ok = memory_known i
  specials_known (insn.Control i) ok = refl
  specials_known (insn.System i) ok = system_known i ok
  specials_known (insn.Density i) ok = refl
  specials_known (insn.Boolean i) ok = refl

  insn_known : (i : Insn) → in_range i ≡ true → insn_used i all_but_time s ≡ true
  insn_known i ok = λ j. row_known i j && specials_known i ok j

  or_true : (b : Bool) → (not b || true) ≡ true
  or_true true = refl
  or_true false = refl

  kind_known : (k : StepKind) (f : Fetched) → ((i : Insn) (len : ℕ) → f ≡ Fetches i len → in_range i ≡ true) → kind_used k f all_but_time s ≡ true
  unfolding kind_used
  kind_known (kind.Interrupt level) f ok = refl
  kind_known kind.Wait f ok = refl
  kind_known (kind.Window vector) (Fetches i len) ok = or_true (is_return i)
  kind_known (kind.Window vector) (Fails address) ok = refl
  kind_known (kind.Window vector) SpellsNothing ok = refl
  kind_known kind.Insn (Fetches i len) ok = insn_known i (ok i len refl)
  kind_known kind.Insn (Fails address) ok = refl
  kind_known kind.Insn SpellsNothing ok = refl
  kind_known (kind.Exc cause) (Fetches i len) ok = insn_known i (ok i len refl)
  kind_known (kind.Exc cause) (Fails address) ok = refl
  kind_known (kind.Exc cause) SpellsNothing ok = refl
  kind_known kind.Stop (Fetches i len) ok = insn_known i (ok i len refl)
  kind_known kind.Stop (Fails address) ok = refl
  kind_known kind.Stop SpellsNothing ok = refl

  found_known : (a : Option Access) → found_used a all_bits ≡ true
  found_known None = refl
  found_known (Some a) = or_true (is_swap a)

  -- where no timer is enabled, it is known which interrupts are taken
  common_known : bit_and (special_of s.control 228) timer_bits ≡ 0 → common_used all_but_time s ≡ true
  common_known none = ap (λ (mask : ℕ). eqb (bit_and all_bits mask) all_bits && true) (enabled_known (special_of s.control 226) (special_of s.control 228) none)

  module _ (code : ℕ → ℕ) (bytes : AreBytes code) (free : uses_time code s ≡ false) where
    parts : (not (eqb (bit_and (special_of s.control 228) timer_bits) 0) ≡ false) × ((executes (planned_turn code s).kind && fetches_time (fetch_at code s.control.pc)) ≡ false)
    parts = or_parts (not (eqb (bit_and (special_of s.control 228) timer_bits) 0)) (executes (planned_turn code s).kind && fetches_time (fetch_at code s.control.pc)) free

    not_false : (b : Bool) → not b ≡ false → b ≡ true
    not_false true h = refl
    not_false false h = absurd (true≢false h)

    none : bit_and (special_of s.control 228) timer_bits ≡ 0
    none = eqb-true (bit_and (special_of s.control 228) timer_bits) 0 (not_false _ parts.0)

    used_known : turn_used code (planned_turn code s).kind (planned_turn code s).access all_bits all_but_time s ≡ true
    unfolding turn_used
    used_known =
        let p = planned_turn code s in
        let ok : (i : Insn) (len : ℕ) → fetch_at code s.control.pc ≡ Fetches i len → in_range i ≡ true = λ i len e. fetched_range code s.control.pc i len bytes e in
        λ j. common_known none j && (kind_known p.kind (fetch_at code s.control.pc) ok j && found_known p.access j)

    -- what is executed reads no time
    executed_free : (k : StepKind) (f : Fetched) (i : Insn) → (executes k && fetches_time f) ≡ false → step_insn k f ≡ Some i → (reads_time i ≡ false) × (len : ℕ) × (f ≡ Fetches i len)
    unfolding step_insn
    executed_free kind.Insn (Fetches j len) i h e = let same : j ≡ i = cc in (sym (ap reads_time same) ∙ h, len, ap (λ (n : Insn). Fetches n len) same)
    executed_free kind.Insn (Fails address) i h e = absurd cc
    executed_free kind.Insn SpellsNothing i h e = absurd cc
    executed_free (kind.Window vector) f i h e = absurd cc
    executed_free (kind.Exc cause) f i h e = absurd cc
    executed_free (kind.Interrupt level) f i h e = absurd cc
    executed_free kind.Wait f i h e = absurd cc
    executed_free kind.Stop f i h e = absurd cc

  -- ---- what is known after it

  -- the special register that the result comes from
  abbrev Known : Option ℕ → Type 0
  Known o = IsWholeWord (special_word all_but_time s o)

  system_first : (i : System) → in_range (insn.System i) ≡ true → reads_time (insn.System i) ≡ false → Known (system_special_reads i).0
  system_first (system.Special SpecialName.Rsr t n) ok h = special_whole n h
  system_first (system.Special SpecialName.Wsr t n) ok h = (0, refl)
  system_first (system.Special SpecialName.Xsr t n) ok h = special_whole n h
  system_first (system.Rfi level) ok h = let small : natural level ≤ 7 = at_most 2 7 level ok in special_whole (176 + natural level) (low (176 + natural level) (omega arith))
  system_first (system.ExceptionReturn ExceptionReturnName.Rfe) ok h = special_whole 177 refl
  system_first (system.ExceptionReturn ExceptionReturnName.Rfde) ok h = special_whole 192 refl
  system_first (system.ExceptionReturn ExceptionReturnName.Rfwo) ok h = special_whole 177 refl
  system_first (system.ExceptionReturn ExceptionReturnName.Rfwu) ok h = special_whole 177 refl
  system_first _ ok h = (0, refl)

  three_first : (i : Three) → Known (three_special_reads i).0
  three_first (three.Src r p q) = special_whole 3 refl
  three_first _ = (0, refl)

  shift_first : (i : Shift) → Known (shift_special_reads i).0
  shift_first (shift.ShiftRight name r t) = special_whole 3 refl
  shift_first (shift.Sll r p) = special_whole 3 refl
  shift_first _ = (0, refl)

  memory_first : (i : Memory) → Known (memory_special_reads i).0
  memory_first (memory.S32c1i t p offset) = special_whole 12 refl
  memory_first _ = (0, refl)

  first_known : (i : Insn) → in_range i ≡ true → reads_time i ≡ false → Known (special_reads i).0
  unfolding special_reads
  first_known (insn.Three i) ok h = three_first i
  first_known (insn.Shift i) ok h = shift_first i
  first_known (insn.Memory i) ok h = memory_first i
  first_known (insn.Control i) ok h = (0, refl)
  first_known (insn.System i) ok h = system_first i ok h
  first_known (insn.Density i) ok h = (0, refl)
  first_known (insn.Boolean i) ok h = special_whole 4 refl

  doubts_none : (i : Insn) (a : ℕ) → doubtful i (whole_word a) ≡ None
  unfolding doubtful used_are_known
  doubts_none (insn.Three (three.Move name r p q)) a = ap (λ (b : Bool). cond b None (Some r)) (used_whole Lenient (insn.Three (three.Move name r p q)) a a)
  doubts_none _ a = refl

  sure : (i : Insn) → doubtful i (second_word i all_but_time s) ≡ None
  sure i = let b = register_whole (reads i).1 in ap (doubtful i) b.1 ∙ doubts_none i b.0

  result_known : (i : Insn) → in_range i ≡ true → reads_time i ≡ false → written_mask i all_bits all_but_time s ≡ all_bits
  result_known i ok h =
      let a = register_whole (reads i).0 in
      let b = register_whole (reads i).1 in
      let c = first_known i ok h in
      (λ j. result_mask Lenient i (a.1 j) (b.1 j) (c.1 j) all_bits all_bits) ∙ result_whole i a.0 b.0 c.0

  regs_known : (i : Insn) → in_range i ≡ true → reads_time i ≡ false → (write : Option RegWrite) (base n : ℕ) → regs_past i (doubtful i (second_word i all_but_time s)) write base all_bits all_but_time s n ≡ all_bits
  regs_known i ok h write base n = ap (λ (o : Option ℕ). regs_past i o write base all_bits all_but_time s n) (sure i) ∙ by_write write
    where
      by_test : (b : Bool) → cond b all_bits all_bits ≡ all_bits
      by_test true = refl
      by_test false = refl

      by_write : (w : Option RegWrite) → regs_past i None w base all_bits all_but_time s n ≡ all_bits
      by_write None = refl
      by_write (Some w) = ap (λ (mask : ℕ). cond (eqb n (place base w.reg)) mask all_bits) (result_known i ok h) ∙ by_test (eqb n (place base w.reg))

-- ---- special registers after it

given_same : (o : Option (ℕ × ℕ)) (n : ℕ) → special_given o all_bits timeless_mask n ≡ timeless_mask n
given_same None n = refl
given_same (Some p) n = by_marks (holds_marks p.1) refl
  where
    marks_other : holds_marks p.1 ≡ true → is_of_time p.1 ≡ false
    marks_other e = λ i. off 234 refl i || (off 226 refl i || (off 240 refl i || (off 241 refl i || off 242 refl i)))
      where
        off : (k : ℕ) → holds_marks k ≡ false → eqb p.1 k ≡ false
        off k f = unequal p.1 k (differs p.1 k holds_marks e f)

    by_number : holds_marks p.1 ≡ true → (b : Bool) → eqb n p.1 ≡ b → cond b all_bits (timeless_mask n) ≡ timeless_mask n
    by_number e true same = sym (known_at n (ap is_of_time (eqb-true n p.1 same) ∙ marks_other e))
    by_number e false same = refl

    by_marks : (b : Bool) → holds_marks p.1 ≡ b → cond b (with_mask p.1 all_bits timeless_mask) timeless_mask n ≡ timeless_mask n
    by_marks true e = by_number e (eqb n p.1) refl
    by_marks false e = refl

ticked_same : (n : ℕ) → ticked_masks timeless_mask n ≡ timeless_mask n
unfolding timer_bit without_bits
ticked_same = by_register (λ n. ticked_masks timeless_mask n ≡ timeless_mask n) refl refl refl refl refl (λ n other. λ i. cond (off n other 234 refl i) (cond (eqb (timeless_mask n) all_bits) all_bits 0) (cond (off n other 226 refl i) (timed n) (timeless_mask n)))
  where
    timed : ℕ → ℕ
    timed n = timed_mask timeless_mask 2 (timed_mask timeless_mask 1 (timed_mask timeless_mask 0 (timeless_mask n)))

    off : (n : ℕ) → is_of_time n ≡ false → (k : ℕ) → is_of_time k ≡ true → eqb n k ≡ false
    off n other k time = unequal n k (λ e. true≢false (sym time ∙ (sym (ap is_of_time e) ∙ other)))

pointer_known : (i : Insn) (given : ℕ) → given ≡ all_bits → pointer_mask i given all_bits ≡ all_bits
unfolding pointer_mask
pointer_known (insn.System (system.User UserName.Wur t n)) given e = e
pointer_known _ given e = refl

-- all but time is known again
known_again : (s : State) (o : Option Insn) → ((i : Insn) → o ≡ Some i → (in_range i ≡ true) × (reads_time i ≡ false)) → (write : Option RegWrite) (base : ℕ) → known_past o write base all_bits all_but_time s ≡ all_but_time
unfolding known_past
known_again s None h write base = λ j. record { regs = λ n. all_bits; special = λ n. ticked_same n j; threadptr = all_bits }
known_again s (Some i) h write base =
    let ok = h i refl in
    let mask = first_mask s (reads i).0 in
    let given : special_given (moved_to i) (first_word i all_but_time s).mask timeless_mask ≡ timeless_mask = (λ j. special_given (moved_to i) (mask j) timeless_mask) ∙ (λ j. λ n. given_same (moved_to i) n j) in
    let special : (n : ℕ) → ticked_masks (special_given (moved_to i) (first_word i all_but_time s).mask timeless_mask) n ≡ timeless_mask n = λ n. (λ j. ticked_masks (given j) n) ∙ ticked_same n in
    λ j. record {
      regs = λ n. regs_known s i ok.0 ok.1 write base n j;
      special = λ n. special n j;
      threadptr = pointer_known i (first_word i all_but_time s).mask mask j;
    }

-- ---- the law of one turn

fits_all : (a : Option Access) → FitsAccess a all_bits
fits_all None = refl
fits_all (Some a) = tt

executed_known : (code : ℕ → ℕ) → AreBytes code → (s : State) (reply : ℕ) → uses_time code s ≡ false → (i : Insn) → executed code s (turn code s reply).0 ≡ Some i → (in_range i ≡ true) × (reads_time i ≡ false)
unfolding turn
executed_known code bytes s reply free i e =
    let f = executed_free s code bytes free (planned_turn code s).kind (fetch_at code s.control.pc) i (parts s code bytes free).1 e in
    (fetched_range code s.control.pc i f.1 bytes f.2, f.0)

pub time_is_unknown : TimeIsUnknown
time_is_unknown code s t reply bytes f g small e free =
    let x = turn code s reply in
    let y = turn code t reply in
    let agree = states_agree s t e in
    let used = used_known s code bytes free in
    let turns = turns_with_known_uses_agree code all_but_time s t all_bits reply reply bytes masks f g agree (omega arith) small small refl (fits_all (planned_turn code s).access) used in
    let known = known_again s (executed code s x.0) (executed_known code bytes s reply free) x.0.write x.1.base in
    record {
      agree = agree;
      used = used;
      turns = turns;
      after = equal_again x.1 y.1 (turn_shaped code s reply bytes f small) (turn_shaped code t reply bytes g small) (subst (λ (k : Knowledge). StatesAgree k x.1 y.1) known turns.after);
    }
