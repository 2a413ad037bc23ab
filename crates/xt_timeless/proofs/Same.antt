-- What an instruction does in states that are equal but for time.
use Rattle.std.proofs.Common.{◌≡◌, ℕ, ◌+◌, ◌<◌, ◌≤◌, ◌⊎◌, Bool, true, false, cond, eqb, ◌&&◌, ◌||◌, Option, Some, None, List, slice_index, refl, sym, ap, ◌∙◌, ℤ, inl, inr, arith}
use Rattle.std.proofs.lemmas.Bool.{eqb-true, false_from_ne_true, or_parts, true≢false}
use Rattle.xt_isa.specs.declared.Insn.{Insn}
use Rattle.xt_isa.specs.declared.Insn.TheVariants as insn
use Rattle.xt_isa.specs.declared.three.Three.{Three}
use Rattle.xt_isa.specs.declared.three.Three.TheVariants as three
use Rattle.xt_isa.specs.declared.shift.Shift.{Shift}
use Rattle.xt_isa.specs.declared.shift.Shift.TheVariants as shift
use Rattle.xt_isa.specs.declared.memory.Memory.{Memory}
use Rattle.xt_isa.specs.declared.memory.Memory.TheVariants as memory
use Rattle.xt_isa.specs.declared.system.System.{System}
use Rattle.xt_isa.specs.declared.system.System.TheVariants as system
use Rattle.xt_isa.specs.declared.system.ExceptionReturnName.TheVariants as ExceptionReturnName
use Rattle.xt_isa.specs.declared.system.SpecialName.TheVariants as SpecialName
use Rattle.xt_special.specs.Control.{Control}
use Rattle.xt_special.specs.Access.{SpecialWrites, is_ccompare, ps_written, value_read, with_sets, without_bits, written_by}
use Rattle.xt_rows.specs.declared.outcome.Effect.{Effect}
use Rattle.xt_rows.specs.declared.outcome.WindowRegister.{WindowRegister}
use Rattle.xt_rows.specs.declared.outcome.Outcome.{Outcome}
use Rattle.xt_rows.specs.declared.outcome.Outcome.TheVariants.{Does}
use Rattle.xt_rows.specs.Effects.{no_change, window_register, write_to, writes_special, exchanges_special}
use Rattle.xt_rows.specs.Numbers.{natural}
use Rattle.xt_rows.specs.Operands.{changes_interrupt, memory_special_reads, reads, shift_special_reads, special_reads, system_special_reads, three_special_reads}
use Rattle.xt_rows.specs.Outcomes.{outcome, outcome_at, system_outcome, value_of}
use Rattle.xt_rows.proofs.Forms.{at_most}
use Rattle.xt_timeless.specs.Time.{is_of_time, timer_bits}
use Rattle.xt_timeless.specs.Alike.{AreAlike, Clocks, Compare, Difference, Timers, has_clocks, has_compare, has_timers, may_differ, IsRanged, reads_difference}
use Rattle.xt_timeless.proofs.Keeping.{with_special, written_alike}

-- a register with a lower number than INTERRUPT is none of time
low : (k : ℕ) → k < 226 → is_of_time k ≡ false
low k h = λ i. no 234 (omega arith) i || (no 226 h i || (no 240 (omega arith) i || (no 241 (omega arith) i || no 242 (omega arith) i)))
  where
    no : (n : ℕ) → k < n → eqb k n ≡ false
    no n less = false_from_ne_true (eqb k n) (λ t. let same = eqb-true k n t in absurd (omega (arith, same)))

-- what is not of time does not differ by time
not_time : (gap : Difference) (k : ℕ) → is_of_time k ≡ false → has_compare gap ≡ false → may_differ gap k ≡ false
not_time gap k h none =
    let p = or_parts (eqb k 234) (eqb k 226 || (eqb k 240 || (eqb k 241 || eqb k 242))) h in
    let q = or_parts (eqb k 226) (eqb k 240 || (eqb k 241 || eqb k 242)) p.1 in
    (λ i. (q.0 i && has_timers gap) || (((p.0 i || q.1 i) && has_clocks gap) || (eqb k 12 && none i))) ∙ never (eqb k 12)
  where
    never : (b : Bool) → (b && false) ≡ false
    never true = refl
    never false = refl

-- what is not SCOMPARE1 does not differ by that
not_compare : (k : ℕ) → eqb k 12 ≡ false → may_differ Compare k ≡ false
not_compare k h = (λ i. (eqb k 226 && false) || (((eqb k 234 || (eqb k 240 || (eqb k 241 || eqb k 242))) && false) || (h i && true))) ∙ none (eqb k 226) (eqb k 234 || (eqb k 240 || (eqb k 241 || eqb k 242)))
  where
    none : (b c : Bool) → ((b && false) || ((c && false) || false)) ≡ false
    none true true = refl
    none true false = refl
    none false true = refl
    none false false = refl

-- where RFI finds the program counter and PS
saved_free : (gap : Difference) (level : ℤ) → IsRanged gap (insn.System (system.Rfi level)) → (may_differ gap (176 + natural level) ≡ false) × (may_differ gap (192 + natural level) ≡ false)
saved_free Timers level ok =
    let small : natural level ≤ 7 = at_most 2 7 level ok in
    (not_time Timers (176 + natural level) (low (176 + natural level) (omega arith)) refl, not_time Timers (192 + natural level) (low (192 + natural level) (omega arith)) refl)
saved_free Clocks level ok =
    let small : natural level ≤ 7 = at_most 2 7 level ok in
    (not_time Clocks (176 + natural level) (low (176 + natural level) (omega arith)) refl, not_time Clocks (192 + natural level) (low (192 + natural level) (omega arith)) refl)
saved_free Compare level ok = (not_compare (176 + natural level) (high (176 + natural level) (omega arith)), not_compare (192 + natural level) (high (192 + natural level) (omega arith)))
  where
    high : (k : ℕ) → 12 < k → eqb k 12 ≡ false
    high k more = false_from_ne_true (eqb k 12) (λ t. let same = eqb-true k 12 t in absurd (omega (arith, same)))

-- what an instruction reads that reads nothing of what may differ
swap_free : (gap : Difference) (t s : ℕ) (offset : ℤ) → reads_difference gap (insn.Memory (memory.S32c1i t s offset)) ≡ false → may_differ gap 12 ≡ false
swap_free Timers t s offset h = refl
swap_free Clocks t s offset h = refl
swap_free Compare t s offset h = absurd (true≢false h)

read_free : (gap : Difference) (t n : ℕ) → reads_difference gap (insn.System (system.Special SpecialName.Rsr t n)) ≡ false → may_differ gap n ≡ false
read_free Timers t n h = not_time Timers n h refl
read_free Clocks t n h = not_time Clocks n h refl
read_free Compare t n h = not_compare n h

exchange_free : (gap : Difference) (t n : ℕ) → reads_difference gap (insn.System (system.Special SpecialName.Xsr t n)) ≡ false → may_differ gap n ≡ false
exchange_free Timers t n h = not_time Timers n h refl
exchange_free Clocks t n h = not_time Clocks n h refl
exchange_free Compare t n h = not_compare n h

-- ---- the special registers that a row reads

module _ {gap : Difference} (xs ys : List ℕ) (a : AreAlike gap xs ys) where
  abbrev SameReads : Option ℕ × Option ℕ → Type 0
  SameReads n = (value_of (slice_index xs) n.0 ≡ value_of (slice_index ys) n.0) × (value_of (slice_index xs) n.1 ≡ value_of (slice_index ys) n.1)

  three_same : (i : Three) → SameReads (three_special_reads i)
  three_same (three.Src r s t) = (a.same 3 refl, refl)
  three_same _ = (refl, refl)

  shift_same : (i : Shift) → SameReads (shift_special_reads i)
  shift_same (shift.ShiftRight name r t) = (a.same 3 refl, refl)
  shift_same (shift.Sll r s) = (a.same 3 refl, refl)
  shift_same _ = (refl, refl)

  memory_same : (i : Memory) → reads_difference gap (insn.Memory i) ≡ false → SameReads (memory_special_reads i)
  memory_same (memory.S32c1i t s offset) h = (a.same 12 (swap_free gap t s offset h), refl)
  memory_same _ h = (refl, refl)

  -- all but WSR and XSR
  system_same : (i : System) → IsRanged gap (insn.System i) → reads_difference gap (insn.System i) ≡ false → ((t n : ℕ) → i ≡ system.Special SpecialName.Wsr t n → ⊥) → ((t n : ℕ) → i ≡ system.Special SpecialName.Xsr t n → ⊥)
      → SameReads (system_special_reads i)
  system_same (system.ExceptionReturn ExceptionReturnName.Rfe) ok h w x = (a.same 177 refl, refl)
  system_same (system.ExceptionReturn ExceptionReturnName.Rfde) ok h w x = (a.same 192 refl, refl)
  system_same (system.ExceptionReturn ExceptionReturnName.Rfwo) ok h w x = (a.same 177 refl, refl)
  system_same (system.ExceptionReturn ExceptionReturnName.Rfwu) ok h w x = (a.same 177 refl, refl)
  system_same (system.Rfi level) ok h w x =
      let free = saved_free gap level ok in
      (a.same (176 + natural level) free.0, a.same (192 + natural level) free.1)
  system_same (system.Special SpecialName.Rsr t n) ok h w x = (a.same n (read_free gap t n h), refl)
  system_same (system.Special SpecialName.Wsr t n) ok h w x = absurd (w t n refl)
  system_same (system.Special SpecialName.Xsr t n) ok h w x = absurd (x t n refl)
  system_same _ ok h w x = (refl, refl)

  equal_interrupt : (n : ℕ) → may_differ gap 226 ≡ false → value_of (slice_index xs) (changes_interrupt n) ≡ value_of (slice_index ys) (changes_interrupt n)
  equal_interrupt n h = by_test (eqb n 226 || (eqb n 227 || is_ccompare n))
    where
      by_test : (b : Bool) → value_of (slice_index xs) (cond b (Some 226) None) ≡ value_of (slice_index ys) (cond b (Some 226) None)
      by_test true = a.same 226 h
      by_test false = refl

  -- what WSR and XSR see of INTERRUPT
  interrupt_same : (n : ℕ) → without_bits (value_of (slice_index xs) (changes_interrupt n)) timer_bits ≡ without_bits (value_of (slice_index ys) (changes_interrupt n)) timer_bits
  interrupt_same n = by_test (eqb n 226 || (eqb n 227 || is_ccompare n))
    where
      by_test : (b : Bool) → without_bits (value_of (slice_index xs) (cond b (Some 226) None)) timer_bits ≡ without_bits (value_of (slice_index ys) (cond b (Some 226) None)) timer_bits
      by_test true = a.interrupt
      by_test false = refl

-- ---- outcomes

-- they are the same, but for the special registers that are written, which differ by time
abbrev pub AreAlikeOutcomes : Difference → List ℕ → List ℕ → Outcome → Outcome → Type 0
AreAlikeOutcomes gap xs ys o p =
    (o ≡ p) ⊎ ((e : Effect) × (sets : SpecialWrites) × (o ≡ Does e) × (p ≡ Does (record e { sets = sets })) × AreAlike gap (with_sets e.sets xs) (with_sets sets ys))

module _ {gap : Difference} (code : ℕ → ℕ) (registers : ℕ → ℕ) (c : Control) (ys : List ℕ) (a : AreAlike gap c.special ys) where
  as_read : (i : Insn) → SameReads c.special ys a (special_reads i) → outcome_at code i registers c ≡ outcome_at code i registers (with_special c ys)
  as_read i same = λ k. outcome code i c.pc (value_of registers (reads i).0) (value_of registers (reads i).1) (same.0 k) (same.1 k) c.ps c.threadptr

  wsr_alike : (t n : ℕ) → AreAlikeOutcomes gap c.special ys (outcome_at code (insn.System (system.Special SpecialName.Wsr t n)) registers c) (outcome_at code (insn.System (system.Special SpecialName.Wsr t n)) registers (with_special c ys))
  unfolding outcome special_reads system_outcome
  wsr_alike t n = by_register (window_register n)
    where
      i : Insn
      i = insn.System (system.Special SpecialName.Wsr t n)

      x : ℕ
      x = value_of registers (reads i).0

      v : List ℕ → ℕ
      v zs = value_of (slice_index zs) (changes_interrupt n)

      e : Effect
      e = no_change c.ps c.threadptr

      by_register : (r : Option WindowRegister) → AreAlikeOutcomes gap c.special ys (writes_special r n x (v c.special) e) (writes_special r n x (v ys) e)
      by_register None = inr (record e { sets = written_by n x (v c.special); ps = ps_written n x e.ps }, written_by n x (v ys), refl, refl, written_alike n x (v c.special) (v ys) c.special ys (equal_interrupt c.special ys a n) (interrupt_same c.special ys a n) a)
      by_register (Some w) = inl refl

  xsr_alike : (t n : ℕ) → may_differ gap n ≡ false → AreAlikeOutcomes gap c.special ys (outcome_at code (insn.System (system.Special SpecialName.Xsr t n)) registers c) (outcome_at code (insn.System (system.Special SpecialName.Xsr t n)) registers (with_special c ys))
  unfolding outcome special_reads system_outcome
  xsr_alike t n h = by_register (window_register n)
    where
      i : Insn
      i = insn.System (system.Special SpecialName.Xsr t n)

      x : ℕ
      x = value_of registers (reads i).0

      v : List ℕ → ℕ
      v zs = value_of (slice_index zs) (changes_interrupt n)

      e : Effect
      e = no_change c.ps c.threadptr

      by_register : (r : Option WindowRegister) → AreAlikeOutcomes gap c.special ys (exchanges_special r t n x (slice_index c.special n) (v c.special) e) (exchanges_special r t n x (slice_index ys n) (v ys) e)
      by_register None =
          inr (
            record e { write = write_to t (value_read n (slice_index c.special n) e.ps); sets = written_by n x (v c.special); ps = ps_written n x e.ps },
            written_by n x (v ys),
            refl,
            ap (λ (u : ℕ). exchanges_special None t n x u (v ys) e) (sym (a.same n h)),
            written_alike n x (v c.special) (v ys) c.special ys (equal_interrupt c.special ys a n) (interrupt_same c.special ys a n) a,
          )
      by_register (Some w) = inl refl

  other_alike : (i : Insn) → SameReads c.special ys a (special_reads i) → AreAlikeOutcomes gap c.special ys (outcome_at code i registers c) (outcome_at code i registers (with_special c ys))
  other_alike i same = inl (as_read i same)

  system_alike : (i : System) → IsRanged gap (insn.System i) → reads_difference gap (insn.System i) ≡ false
      → AreAlikeOutcomes gap c.special ys (outcome_at code (insn.System i) registers c) (outcome_at code (insn.System i) registers (with_special c ys))
  unfolding special_reads
  system_alike (system.Special SpecialName.Wsr t n) ok h = wsr_alike t n
  system_alike (system.Special SpecialName.Xsr t n) ok h = xsr_alike t n (exchange_free gap t n h)
  system_alike (system.ExceptionReturn name) ok h = other_alike (insn.System (system.ExceptionReturn name)) (system_same c.special ys a (system.ExceptionReturn name) ok h (λ t n e. absurd cc) (λ t n e. absurd cc))
  system_alike (system.Rfi level) ok h = other_alike (insn.System (system.Rfi level)) (system_same c.special ys a (system.Rfi level) ok h (λ t n e. absurd cc) (λ t n e. absurd cc))
  system_alike (system.Special SpecialName.Rsr t n) ok h = other_alike (insn.System (system.Special SpecialName.Rsr t n)) (a.same n (read_free gap t n h), refl)
  system_alike (system.Sync name) ok h = other_alike (insn.System (system.Sync name)) (refl, refl)
  system_alike (system.Wait name) ok h = other_alike (insn.System (system.Wait name)) (refl, refl)
  system_alike (system.Trap name x y) ok h = other_alike (insn.System (system.Trap name x y)) (refl, refl)
  system_alike (system.Level name t level) ok h = other_alike (insn.System (system.Level name t level)) (refl, refl)
  system_alike (system.Rotw n) ok h = other_alike (insn.System (system.Rotw n)) (refl, refl)
  system_alike (system.User name r n) ok h = other_alike (insn.System (system.User name r n)) (refl, refl)

  pub outcomes_alike : (i : Insn) → IsRanged gap i → reads_difference gap i ≡ false → AreAlikeOutcomes gap c.special ys (outcome_at code i registers c) (outcome_at code i registers (with_special c ys))
  unfolding special_reads
  outcomes_alike (insn.Three i) ok h = other_alike (insn.Three i) (three_same c.special ys a i)
  outcomes_alike (insn.Shift i) ok h = other_alike (insn.Shift i) (shift_same c.special ys a i)
  outcomes_alike (insn.Memory i) ok h = other_alike (insn.Memory i) (memory_same c.special ys a i h)
  outcomes_alike (insn.Control i) ok h = other_alike (insn.Control i) (refl, refl)
  outcomes_alike (insn.System i) ok h = system_alike i ok h
  outcomes_alike (insn.Density i) ok h = other_alike (insn.Density i) (refl, refl)
  outcomes_alike (insn.Boolean i) ok h = other_alike (insn.Boolean i) (a.same 4 refl, refl)
