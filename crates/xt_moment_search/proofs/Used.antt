-- What a turn uses where nothing is known of the clocks.
use Rattle.std.proofs.Common.{◌≡◌, ℕ, ℤ, pos, negsuc, ◌+◌, ◌≤◌, ◌&&◌, ◌||◌, Bool, true, false, not}
use Rattle.std.proofs.Common.{cond, eqb, Option, Some, None, refl, sym, ap, ◌∙◌, arith, subst}
use Rattle.std.specs.Prelude.{bit_and, slice_index_or}
use Rattle.std.proofs.lemmas.Bool.{and_parts, cond-false, eqb-true, not-false, or_parts}
use Rattle.std.proofs.lemmas.Bool.Decides.{nat_tests}
use Rattle.xt_isa.specs.declared.Insn.{Insn}
use Rattle.xt_isa.specs.declared.Insn.TheVariants as insn
use Rattle.xt_isa.specs.declared.three.Three.TheVariants as three
use Rattle.xt_isa.specs.declared.shift.Shift.TheVariants as shift
use Rattle.xt_isa.specs.declared.memory.Memory.TheVariants as memory
use Rattle.xt_isa.specs.declared.control.Control.TheVariants as control
use Rattle.xt_isa.specs.declared.control.ReturnName.TheVariants as ReturnName
use Rattle.xt_isa.specs.declared.density.Density.TheVariants as density
use Rattle.xt_isa.specs.declared.density.BareName.TheVariants as BareName
use Rattle.xt_isa.specs.declared.system.System.{System}
use Rattle.xt_isa.specs.declared.system.System.TheVariants as system
use Rattle.xt_isa.specs.declared.system.SpecialName.TheVariants as SpecialName
use Rattle.xt_isa.specs.declared.system.ExceptionReturnName.TheVariants as ExceptionReturnName
use Rattle.xt_isa.specs.Ranges.{in_range, natural_within}
use Rattle.xt_map.specs.declared.access.Access.{Access}
use Rattle.xt_trace.specs.declared.record.StepKind.{StepKind}
use Rattle.xt_trace.specs.declared.record.StepKind.TheVariants as kind
use Rattle.xt_map.specs.Fetching.{Fetched, Fetches, Fails, SpellsNothing, fetch_at}
use Rattle.xt_rows.specs.Kinds.{is_return}
use Rattle.xt_rows.specs.Numbers.{natural}
use Rattle.xt_rows.specs.Operands.{reads, special_reads}
use Rattle.xt_exec.specs.State.{State}
use Rattle.xt_frames.specs.Marks.{holds_marks}
use Rattle.xt_uses.specs.declared.words.Word.{Word}
use Rattle.xt_uses.specs.Words.{all_bits, is_whole}
use Rattle.xt_uses.specs.Used.{both_whole}
use Rattle.xt_uses.specs.UseStep.{step_insn}
use Rattle.xt_uses.proofs.WholeRows.{and_whole}
use Rattle.xt_simulation.specs.Knowledge.{Knowledge, first_special, first_word, register_word}
use Rattle.xt_simulation.specs.Knowledge.{second_special, second_word, special_word}
use Rattle.xt_simulation.specs.TurnUses.{common_used, found_used, insn_used, kind_used, row_used}
use Rattle.xt_simulation.specs.TurnUses.{specials_used, turn_used, window_used}
use Rattle.xt_secret_walk.specs.declared.masks.CoreMasks.{CoreMasks}
use Rattle.xt_secret_walk.specs.SeenWords.{IsGoodSeen, executed_in, knowledge_of, seen_of, seen_uses}
use Rattle.xt_secret_walk.specs.SeenWords.{special_mask, turn_uses}
use Rattle.xt_moments.specs.MomentLaws.{executes_clock, is_clock, may_be_lost}
use Rattle.xt_moment_search.specs.KnownCores.{clock_written, deciding, kept_mask, misses_epc1}
use Rattle.xt_moment_search.specs.KnownCores.{moment_known_of, reads_clock, reads_lost}

-- ---- the special registers that are always known

-- it is no clock, and keeps nothing that is not known
record IsPlain (n : ℕ) : Type 0 where
  lost : may_be_lost n ≡ false
  clock : is_clock n ≡ false

abbrev ArePlain : Option ℕ → Type 0
ArePlain None = Unit {0}
ArePlain (Some n) = IsPlain n

level_kept : (first n : ℕ) → 2 ≤ n → n ≤ 7 → first ≤ 192 → 176 ≤ first
    → may_be_lost (first + n) ≡ false
level_kept first n low high less more = grind (arith, nat_tests)

level_clock : (first n : ℕ) → n ≤ 7 → first ≤ 192 → is_clock (first + n) ≡ false
level_clock first n high less = grind (arith, nat_tests)

level_plain : (first n : ℕ) → 2 ≤ n → n ≤ 7 → first ≤ 192 → 176 ≤ first → IsPlain (first + n)
level_plain first n low high less more = record {
  lost = level_kept first n low high less more;
  clock = level_clock first n high less;
}

level_range : (l : ℤ) → natural_within 2 7 l ≡ true → (2 ≤ natural l) × (natural l ≤ 7)
unfolding natural natural_within
level_range (pos n) e = (grind (arith, nat_tests), grind (arith, nat_tests))
level_range (negsuc n) e = absurd cc

level_is_plain : (l : ℤ) → natural_within 2 7 l ≡ true → IsPlain (176 + natural l)
level_is_plain l e =
    let at = level_range l e in
    level_plain 176 (natural l) at.0 at.1 (omega arith) (omega arith)

-- ---- EPC1

-- of a special register that is no clock as much is known as the walk of secrets knows
pub record IsRead (c : CoreMasks) (n : ℕ) : Type 0 where
  pub clock : is_clock n ≡ false
  pub kept : kept_mask c n ≡ special_mask c n

abbrev pub AreRead : CoreMasks → Option ℕ → Type 0
AreRead c None = Unit {0}
AreRead c (Some n) = IsRead c n

module _ (c : CoreMasks) where
  abbrev epc1_mask : ℕ
  epc1_mask = slice_index_or c.special 177 all_bits

  -- it is known where it is read
  epc1_known : not (eqb epc1_mask all_bits) ≡ false → epc1_mask ≡ all_bits
  epc1_known h = eqb-true epc1_mask all_bits (not-false (eqb epc1_mask all_bits) h)

  -- of another register as much is known as the walk of secrets knows
  pub kept_other : (n : ℕ) → eqb n 177 ≡ false → kept_mask c n ≡ special_mask c n
  kept_other n e =
      ap (λ (b : Bool). cond (b || holds_marks n) (slice_index_or c.special n all_bits) all_bits) e

  kept_read : (n : ℕ) → (eqb n 177 && not (eqb epc1_mask all_bits)) ≡ false
      → kept_mask c n ≡ special_mask c n
  kept_read n free = by_number (eqb n 177) refl free
    where
      by_number : (b : Bool) → eqb n 177 ≡ b → (b && not (eqb epc1_mask all_bits)) ≡ false
          → kept_mask c n ≡ special_mask c n
      by_number true e h = subst (λ j. kept_mask c j ≡ special_mask c j) (sym (eqb-true n 177 e))
          (epc1_known h)
      by_number false e h = kept_other n e

  -- ---- no row but RSR and XSR reads a clock

  plain_read : (n : ℕ) → IsPlain n → IsRead c n
  plain_read n h = record {
    clock = h.clock;
    kept = cond-false (may_be_lost n) _ all_bits h.lost
        ∙ sym (cond-false (holds_marks n) _ all_bits
        (or_parts (eqb n 177) (holds_marks n) h.lost).1);
  }

  epc1_read : not (eqb epc1_mask all_bits) ≡ false → IsRead c 177
  epc1_read h = record { clock = refl; kept = epc1_known h }

  literal_read : (n : ℕ) → is_clock n ≡ false → may_be_lost n ≡ false → IsRead c n
  literal_read n clock lost = plain_read n (record { lost = lost; clock = clock })

  system_reads : (i : System) → in_range (insn.System i) ≡ true
      → reads_clock (insn.System i) ≡ false → misses_epc1 c (insn.System i) ≡ false
      → AreRead c (special_reads (insn.System i)).0
  unfolding special_reads
  system_reads (system.Special SpecialName.Rsr t n) ok e free =
      record { clock = e; kept = kept_read n free }
  system_reads (system.Special SpecialName.Wsr t n) ok e free = tt
  system_reads (system.Special SpecialName.Xsr t n) ok e free =
      record { clock = e; kept = kept_read n free }
  system_reads (system.Rfi l) ok e free = plain_read (176 + natural l) (level_is_plain l ok)
  system_reads (system.ExceptionReturn ExceptionReturnName.Rfe) ok e free = epc1_read free
  system_reads (system.ExceptionReturn ExceptionReturnName.Rfde) ok e free =
      literal_read 192 refl refl
  system_reads (system.ExceptionReturn ExceptionReturnName.Rfwo) ok e free = epc1_read free
  system_reads (system.ExceptionReturn ExceptionReturnName.Rfwu) ok e free = epc1_read free
  system_reads _ ok e free = tt

  pub reads_known : (i : Insn) → in_range i ≡ true → reads_clock i ≡ false
      → misses_epc1 c i ≡ false → AreRead c (special_reads i).0
  unfolding special_reads
  reads_known (insn.Three (three.Src r f t)) ok e free = literal_read 3 refl refl
  reads_known (insn.Three _) ok e free = tt
  reads_known (insn.Shift (shift.ShiftRight name r t)) ok e free = literal_read 3 refl refl
  reads_known (insn.Shift (shift.Sll r f)) ok e free = literal_read 3 refl refl
  reads_known (insn.Shift _) ok e free = tt
  reads_known (insn.Memory (memory.S32c1i t f offset)) ok e free = literal_read 12 refl refl
  reads_known (insn.Memory _) ok e free = tt
  reads_known (insn.System i) ok e free = system_reads i ok e free
  reads_known (insn.Control i) ok e free = tt
  reads_known (insn.Density i) ok e free = tt
  reads_known (insn.Boolean i) ok e free = literal_read 4 refl refl

module _ (c : CoreMasks) (s : State) where
  abbrev k : Knowledge
  k = knowledge_of c

  abbrev m : Knowledge
  m = moment_known_of c

  -- ---- the words of registers are the same

  pub register_same : (o : Option ℕ) → register_word m s o ≡ register_word k s o
  register_same None = refl
  register_same (Some i) = refl

  pub special_same : (o : Option ℕ) → AreRead c o → special_word m s o ≡ special_word k s o
  special_same None h = refl
  special_same (Some n) h =
      ap (λ (x : ℕ). let f : Knowledge = record k { special = λ j. x } in special_word f s (Some n))
      (cond-false (is_clock n) 0 (kept_mask c n) h.clock ∙ h.kept)

  plain_whole : (o : Option ℕ) → ArePlain o → is_whole (special_word m s o) ≡ true
  plain_whole None h = refl
  plain_whole (Some n) h =
      ap (λ (x : ℕ). eqb (bit_and all_bits x) all_bits)
      (cond-false (is_clock n) 0 (kept_mask c n) h.clock
      ∙ cond-false (may_be_lost n) _ all_bits h.lost)

  epc1_whole : not (eqb (epc1_mask c) all_bits) ≡ false
      → both_whole (special_word m s (Some 177)) (special_word m s None) ≡ true
  epc1_whole h = ap (λ (x : ℕ). eqb (bit_and all_bits x) all_bits && true) (epc1_known c h)

  both_known : (r : Option ℕ × Option ℕ) → ArePlain r.0 → ArePlain r.1
      → both_whole (special_word m s r.0) (special_word m s r.1) ≡ true
  both_known r p q = λ i. plain_whole r.0 p i && plain_whole r.1 q i

  -- ---- the special registers that an instruction uses

  system_known : (i : System) → in_range (insn.System i) ≡ true
      → misses_epc1 c (insn.System i) ≡ false
      → specials_used (insn.System i) (first_special (insn.System i) m s)
      (second_special (insn.System i) m s)
      ≡ true
  unfolding special_reads specials_used
  system_known (system.Special name t n) ok free = refl
  system_known (system.Rfi l) ok free =
      let at = level_range l ok in
      let low = at.0 in
      let high = at.1 in
      both_known (Some (176 + natural l), Some (192 + natural l))
      (level_plain 176 (natural l) low high (omega arith) (omega arith))
      (level_plain 192 (natural l) low high (omega arith) (omega arith))
  system_known (system.ExceptionReturn ExceptionReturnName.Rfe) ok free = epc1_whole free
  system_known (system.ExceptionReturn ExceptionReturnName.Rfde) ok free = refl
  system_known (system.ExceptionReturn ExceptionReturnName.Rfwo) ok free = epc1_whole free
  system_known (system.ExceptionReturn ExceptionReturnName.Rfwu) ok free = epc1_whole free
  system_known _ ok free = refl

  specials_known : (i : Insn) → in_range i ≡ true → misses_epc1 c i ≡ false
      → specials_used i (first_special i m s) (second_special i m s) ≡ true
  unfolding special_reads specials_used
  specials_known (insn.Three (three.Src r f t)) ok free = refl
  specials_known (insn.Three _) ok free = refl
  specials_known (insn.Shift (shift.ShiftRight name r t)) ok free = refl
  specials_known (insn.Shift (shift.Sll r f)) ok free = refl
  specials_known (insn.Shift _) ok free = refl
  specials_known (insn.Memory (memory.S32c1i t f offset)) ok free = refl
  specials_known (insn.Memory _) ok free = refl
  specials_known (insn.System i) ok free = system_known i ok free
  specials_known (insn.Control i) ok free = refl
  specials_known (insn.Density i) ok free = refl
  specials_known (insn.Boolean i) ok free = refl

  common_known : common_used m s ≡ true
  common_known =
      let a : Word = special_word m s (Some 226) in
      let b : Word = special_word m s (Some 228) in
      ap (λ (mask : ℕ). eqb (bit_and all_bits mask) all_bits && true) (and_whole a.value b.value)

  -- ---- what a turn uses

  insn_is : (i : Insn) → in_range i ≡ true → misses_epc1 c i ≡ false
      → row_used i (first_word i k s) (second_word i k s) ≡ true
      → insn_used i m s ≡ true
  insn_is i ok free used =
      (λ j. row_used i (register_same (reads i).0 j) (register_same (reads i).1 j)
      && specials_known i ok free j)
      ∙ ap (λ (b : Bool). b && true) used

  return_is : (i : Insn) → (not (is_return i) || is_whole (first_word i k s)) ≡ true
      → window_used i m s ≡ true
  unfolding is_return reads
  return_is (insn.Control (control.Return ReturnName.Retw)) h = h
  return_is (insn.Density (density.Bare BareName.Retw)) h = h
  return_is _ h = h

  kind_is : (x : StepKind) (f : Fetched) → IsGoodSeen (seen_of f k s)
      → reads_lost c (seen_of f k s) ≡ false
      → seen_uses x (seen_of f k s) ≡ true → kind_used x f m s ≡ true
  unfolding kind_used
  kind_is (kind.Interrupt level) (Fetches i len) good free h = refl
  kind_is (kind.Interrupt level) (Fails address) good free h = refl
  kind_is (kind.Interrupt level) SpellsNothing good free h = refl
  kind_is kind.Wait (Fetches i len) good free h = refl
  kind_is kind.Wait (Fails address) good free h = refl
  kind_is kind.Wait SpellsNothing good free h = refl
  kind_is (kind.Window vector) (Fetches i len) good free h = return_is i h
  kind_is (kind.Window vector) (Fails address) good free h = refl
  kind_is (kind.Window vector) SpellsNothing good free h = refl
  kind_is kind.Insn (Fetches i len) good free h = insn_is i good.range free h
  kind_is kind.Insn (Fails address) good free h = refl
  kind_is kind.Insn SpellsNothing good free h = refl
  kind_is (kind.Exc cause) (Fetches i len) good free h = insn_is i good.range free h
  kind_is (kind.Exc cause) (Fails address) good free h = refl
  kind_is (kind.Exc cause) SpellsNothing good free h = refl
  kind_is kind.Stop (Fetches i len) good free h = insn_is i good.range free h
  kind_is kind.Stop (Fails address) good free h = refl
  kind_is kind.Stop SpellsNothing good free h = refl

  written_is : (x : StepKind) (f : Fetched)
      → clock_written (executed_in x (seen_of f k s)) ≡ executes_clock (step_insn x f)
  unfolding step_insn
  written_is (kind.Interrupt level) f = refl
  written_is kind.Wait f = refl
  written_is (kind.Window vector) f = refl
  written_is kind.Insn (Fetches i len) = refl
  written_is kind.Insn (Fails address) = refl
  written_is kind.Insn SpellsNothing = refl
  written_is (kind.Exc cause) f = refl
  written_is kind.Stop f = refl

  -- a turn that the search makes uses known bits alone, or writes a clock
  pub uses_are : (code : ℕ → ℕ) (x : StepKind) (access : Option Access) (reply : ℕ)
      → IsGoodSeen (seen_of (fetch_at code s.control.pc) k s)
      → reads_lost c (seen_of (fetch_at code s.control.pc) k s) ≡ false
      → turn_uses x access (deciding x (seen_of (fetch_at code s.control.pc) k s)) reply ≡ true
      → (found_used access reply
      && (executes_clock (step_insn x (fetch_at code s.control.pc))
      || turn_used code x access reply m s))
      ≡ true
  unfolding turn_used
  uses_are code x access reply good free h =
      subst (λ (b : Bool). (found_used access reply && (b || turn_used code x access reply m s))
      ≡ true) (written_is x (fetch_at code s.control.pc))
      (by_clock (clock_written (executed_in x (seen_of (fetch_at code s.control.pc) k s))) h)
    where
      by_clock : (b : Bool)
          → turn_uses x access (cond b None (seen_of (fetch_at code s.control.pc) k s)) reply ≡ true
          → (found_used access reply && (b || turn_used code x access reply m s)) ≡ true
      by_clock true used = ap (λ (a : Bool). a && true) used
      by_clock false used =
          let f = fetch_at code s.control.pc in
          let parts = and_parts (seen_uses x (seen_of f k s)) (found_used access reply) used in
          λ i. parts.1 i && (common_known i && (kind_is x f good free parts.0 i && parts.1 i))
