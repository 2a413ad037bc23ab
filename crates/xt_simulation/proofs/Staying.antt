-- What is known after a turn are words again.
use Rattle.std.specs.Prelude.{bit_xor}
use Rattle.std.proofs.Common.{◌≡◌, ℕ, ◌+◌, ◌-◌, ◌^◌, ◌<◌, Bool, true, false, cond, eqb, ◌||◌, Option, Some, None, refl, ap, ◌∙◌, arith}
use Rattle.std.proofs.lemmas.Nat.{and_le_l}
use Rattle.xt_isa.specs.declared.Insn.{Insn}
use Rattle.xt_isa.specs.declared.Insn.TheVariants as insn
use Rattle.xt_isa.specs.declared.system.System.TheVariants as system
use Rattle.xt_isa.specs.declared.system.UserName.TheVariants as UserName
use Rattle.xt_isa.specs.Ranges.{in_range}
use Rattle.xt_special.specs.Access.{timer_bit, without_bits}
use Rattle.xt_window.specs.Ring.{place}
use Rattle.xt_trace.specs.declared.record.RegWrite.{RegWrite}
use Rattle.xt_trace.specs.declared.record.StepKind.{StepKind}
use Rattle.xt_trace.specs.declared.record.StepKind.TheVariants as kind
use Rattle.xt_map.specs.Fetching.{Fetched, Fetches, Fails, SpellsNothing, fetch_at}
use Rattle.xt_map.proofs.Fetches.{fetched_range}
use Rattle.xt_rows.specs.Kinds.{moved_to}
use Rattle.xt_rows.specs.Operands.{reads, special_reads}
use Rattle.xt_exec.specs.State.{State}
use Rattle.xt_exec.specs.Turn.{turn}
use Rattle.xt_frames.specs.Marks.{holds_marks}
use Rattle.xt_uses.specs.declared.discipline.Discipline.TheVariants.{Lenient}
use Rattle.xt_uses.specs.Words.{all_bits, both_mask, complement}
use Rattle.xt_uses.specs.UseLaws.{pointer_mask}
use Rattle.xt_uses.specs.UseStep.{step_insn}
use Rattle.xt_uses.proofs.RowsWords.{result_word}
use Rattle.xt_simulation.specs.Knowledge.{AreMasks, Knowledge, is_apart, register_word, special_word, first_word, second_word, first_special}
use Rattle.xt_simulation.specs.Learning.{common_mask, doubtful, is_timed, known_past, regs_past, special_given, ticked_masks, timed_mask, with_mask, written_mask}
use Rattle.xt_simulation.specs.SecretLaws.{MasksStay, executed}
use Rattle.xt_simulation.proofs.SecretSpecials.{differs, unequal, with_other}

-- ---- words

with_word : (k mask : ℕ) (m : ℕ → ℕ) (j : ℕ) → mask < 2 ^ 32 → m j < 2 ^ 32 → with_mask k mask m j < 2 ^ 32
with_word k mask m j p q = by_test (eqb j k)
  where
    by_test : (b : Bool) → cond b mask (m j) < 2 ^ 32
    by_test true = p
    by_test false = q

fewer : (mask bits : ℕ) → mask < 2 ^ 32 → without_bits mask bits < 2 ^ 32
unfolding without_bits
fewer mask bits p = let l = and_le_l mask (2 ^ 32 - 1 - bits) in omega arith

timed_word : (m : ℕ → ℕ) (timer mask : ℕ) → mask < 2 ^ 32 → timed_mask m timer mask < 2 ^ 32
timed_word m timer mask p = by_test (is_timed m timer)
  where
    by_test : (b : Bool) → cond b mask (without_bits mask (timer_bit (240 + timer))) < 2 ^ 32
    by_test true = p
    by_test false = fewer mask (timer_bit (240 + timer)) p

ticked_word : (m : ℕ → ℕ) (n : ℕ) → m n < 2 ^ 32 → ticked_masks m n < 2 ^ 32
ticked_word m n p = by_tests (eqb n 234) (eqb n 226) (eqb (m n) all_bits)
  where
    by_tests : (a b c : Bool) → cond a (cond c all_bits 0) (cond b (timed_mask m 2 (timed_mask m 1 (timed_mask m 0 (m n)))) (m n)) < 2 ^ 32
    by_tests true b true = omega arith
    by_tests true b false = omega arith
    by_tests false true c = timed_word m 2 (timed_mask m 1 (timed_mask m 0 (m n))) (timed_word m 1 (timed_mask m 0 (m n)) (timed_word m 0 (m n) p))
    by_tests false false c = p

-- a register that is kept apart from the list is none that the tick changes
ticked_apart : (m : ℕ → ℕ) (n : ℕ) → is_apart n ≡ true → ticked_masks m n ≡ m n
ticked_apart m n apart = ap (λ (b : Bool). cond b (cond (eqb (m n) all_bits) all_bits 0) (cond (eqb n 226) (timed_mask m 2 (timed_mask m 1 (timed_mask m 0 (m n)))) (m n))) (off 234 refl)
    ∙ ap (λ (b : Bool). cond b (timed_mask m 2 (timed_mask m 1 (timed_mask m 0 (m n)))) (m n)) (off 226 refl)
  where
    off : (k : ℕ) → is_apart k ≡ false → eqb n k ≡ false
    off k e = unequal n k (differs n k is_apart apart e)

given_word : (o : Option (ℕ × ℕ)) (given : ℕ) (m : ℕ → ℕ) (n : ℕ) → given < 2 ^ 32 → m n < 2 ^ 32 → special_given o given m n < 2 ^ 32
given_word None given m n p q = q
given_word (Some r) given m n p q = by_test (holds_marks r.1)
  where
    by_test : (b : Bool) → cond b (with_mask r.1 given m) m n < 2 ^ 32
    by_test true = with_word r.1 given m n p q
    by_test false = q

-- a register that keeps what is not known is not kept apart
marks_together : (n : ℕ) → holds_marks n ≡ true → is_apart n ≡ false
marks_together n e = λ i. off 230 refl i || (off 72 refl i || off 73 refl i)
  where
    off : (k : ℕ) → holds_marks k ≡ false → eqb n k ≡ false
    off k f = unequal n k (differs n k holds_marks e f)

given_apart : (o : Option (ℕ × ℕ)) (given : ℕ) (m : ℕ → ℕ) (n : ℕ) → is_apart n ≡ true → special_given o given m n ≡ m n
given_apart None given m n apart = refl
given_apart (Some r) given m n apart = by_test (holds_marks r.1) refl
  where
    by_test : (b : Bool) → holds_marks r.1 ≡ b → cond b (with_mask r.1 given m) m n ≡ m n
    by_test false e = refl
    by_test true e = with_other r.1 given m n (differs n r.1 is_apart apart (marks_together r.1 e))

pointer_word : (i : Insn) (given pointer : ℕ) → given < 2 ^ 32 → pointer < 2 ^ 32 → pointer_mask i given pointer < 2 ^ 32
unfolding pointer_mask
pointer_word (insn.System (system.User UserName.Wur t n)) given pointer p q = p
pointer_word _ given pointer p q = q

module _ (m : Knowledge) (masks : AreMasks m) (s : State) where
  register_small : (o : Option ℕ) → (register_word m s o).mask < 2 ^ 32
  register_small None = omega arith
  register_small (Some i) = masks.regs (place s.base i)

  special_small : (o : Option ℕ) → (special_word m s o).mask < 2 ^ 32
  special_small None = omega arith
  special_small (Some n) = masks.special n

  written_word : (i : Insn) → in_range i ≡ true → (reply : ℕ) → reply < 2 ^ 32 → written_mask i reply m s < 2 ^ 32
  written_word i ok reply small =
      result_word (first_word i m s) (second_word i m s) (register_small (reads i).0) (register_small (reads i).1) Lenient i ok (first_special i m s) m.threadptr reply (special_small (special_reads i).0) masks.threadptr small

  regs_word : (i : Insn) → in_range i ≡ true → (d : Option ℕ) (write : Option RegWrite) (base reply : ℕ) → reply < 2 ^ 32 → (j : ℕ) → regs_past i d write base reply m s j < 2 ^ 32
  regs_word i ok (Some r) write base reply small j =
      with_word (place base r) (common_mask (register_word m s (Some r)) (first_word i m s)) m.regs j
      (let a = register_word m s (Some r) in
      let b = first_word i m s in
      let low = register_small (Some r) in
      let one = and_le_l (both_mask a b) (complement (bit_xor a.value b.value)) in
      let two = and_le_l a.mask b.mask in
      omega arith)
      (masks.regs j)
  regs_word i ok None None base reply small j = masks.regs j
  regs_word i ok None (Some w) base reply small j = with_word (place base w.reg) (written_mask i reply m s) m.regs j (written_word i ok reply small) (masks.regs j)

  known_masks : (o : Option Insn) → ((i : Insn) → o ≡ Some i → in_range i ≡ true) → (write : Option RegWrite) (base reply : ℕ) → reply < 2 ^ 32 → AreMasks (known_past o write base reply m s)
  unfolding known_past
  known_masks None ok write base reply small = record {
    regs = masks.regs;
    special = λ n. ticked_word m.special n (masks.special n);
    threadptr = masks.threadptr;
    apart = λ n e. ticked_apart m.special n e ∙ masks.apart n e;
  }
  known_masks (Some i) ok write base reply small =
      let given = (first_word i m s).mask in
      let after = special_given (moved_to i) given m.special in
      record {
        regs = regs_word i (ok i refl) (doubtful i (second_word i m s)) write base reply small;
        special = λ n. ticked_word after n (given_word (moved_to i) given m.special n (register_small (reads i).0) (masks.special n));
        threadptr = pointer_word i given m.threadptr (register_small (reads i).0) masks.threadptr;
        apart = λ n e. ticked_apart after n e ∙ (given_apart (moved_to i) given m.special n e ∙ masks.apart n e);
      }

-- what a turn executes is what is fetched
step_fetched : (k : StepKind) (f : Fetched) (i : Insn) → step_insn k f ≡ Some i → (len : ℕ) × (f ≡ Fetches i len)
unfolding step_insn
step_fetched kind.Insn (Fetches j len) i e = (len, let same : j ≡ i = cc in ap (λ (n : Insn). Fetches n len) same)
step_fetched kind.Insn (Fails address) i e = absurd cc
step_fetched kind.Insn SpellsNothing i e = absurd cc
step_fetched (kind.Window vector) f i e = absurd cc
step_fetched (kind.Exc cause) f i e = absurd cc
step_fetched (kind.Interrupt level) f i e = absurd cc
step_fetched kind.Wait f i e = absurd cc
step_fetched kind.Stop f i e = absurd cc

pub masks_stay : MasksStay
masks_stay code m s reply v bytes masks small =
    let x = turn code s v in
    known_masks m masks s (executed code s x.0) (λ i e. let f = step_fetched x.0.kind (fetch_at code s.control.pc) i e in fetched_range code s.control.pc i f.0 bytes f.1) x.0.write x.1.base reply small
