-- What is known after a turn of the registers of time.
use Rattle.std.proofs.Common.{◌≡◌, ◌≢◌, ℕ, ◌+◌, Bool, true, false, cond, eqb, ◌&&◌, Option, Some}
use Rattle.std.proofs.Common.{None, refl, sym, ap, ◌∙◌, ⊎_elim, subst, arith}
use Rattle.std.proofs.lemmas.Bool.{cases_eq, or_parts, true≢false}
use Rattle.xt_isa.specs.declared.Insn.{Insn}
use Rattle.xt_special.specs.Access.{timer_bit, without_bits}
use Rattle.xt_trace.specs.declared.record.RegWrite.{RegWrite}
use Rattle.xt_rows.specs.Kinds.{moved_to}
use Rattle.xt_rows.specs.RowLaws.{IsWord}
use Rattle.xt_exec.specs.State.{State}
use Rattle.xt_frames.specs.Marks.{holds_marks}
use Rattle.xt_uses.specs.Words.{all_bits, complement}
use Rattle.xt_timeless.specs.Time.{timer_bits}
use Rattle.xt_simulation.specs.Knowledge.{AreMasks, Knowledge, first_word, is_apart}
use Rattle.xt_simulation.specs.Learning.{known_past, special_given, ticked_masks, with_mask}
use Rattle.xt_simulation.proofs.SecretSpecials.{differs, unequal, with_other}
use Rattle.xt_moments.specs.MomentLaws.{IsMomentKnown, entered_known, is_clock}
use Rattle.xt_moments.specs.MomentLaws.{may_be_lost, moment_known}

-- a special register that keeps nothing secret keeps its mask
given_other : (o : Option (ℕ × ℕ)) (given : ℕ) (special : ℕ → ℕ) (n : ℕ) → holds_marks n ≡ false
    → special_given o given special n ≡ special n
given_other None given special n none = refl
given_other (Some p) given special n none = by_marks (holds_marks p.1) refl
  where
    by_marks : (b : Bool) → holds_marks p.1 ≡ b
        → cond b (with_mask p.1 given special) special n ≡ special n
    by_marks true e = with_other p.1 given special n (λ is. differs p.1 n holds_marks e none (sym
        is))
    by_marks false e = refl

-- what is left of a mask after a tick
abbrev cut_by : ℕ → (ℕ → ℕ) → ℕ → ℕ → ℕ
cut_by count special timer mask =
    cond (eqb count all_bits && eqb (special (240 + timer)) all_bits) mask
    (without_bits mask (timer_bit (240 + timer)))

ticked_interrupt : (special : ℕ → ℕ) → special 226 ≡ all_bits → special 234 ≡ 0
    → ticked_masks special 226 ≡ complement timer_bits
unfolding timer_bit without_bits
ticked_interrupt special e f = λ i.
    cut_by (f i) special 2 (cut_by (f i) special 1 (cut_by (f i) special 0 (e i)))

ticked_count : (special : ℕ → ℕ) → special 234 ≡ 0 → ticked_masks special 234 ≡ 0
ticked_count special f = λ i. cond (eqb (f i) all_bits) all_bits 0

module _ (m : Knowledge) (h : IsMomentKnown m) (s : State) (write : Option RegWrite) (base reply :
    ℕ)
  where
    interrupt_past : (o : Option Insn)
        → (known_past o write base reply m s).special 226 ≡ complement timer_bits
    unfolding known_past
    interrupt_past None = ticked_interrupt m.special (h.others 226 refl refl) h.ccount
    interrupt_past (Some i) =
        let o = moved_to i in
        let x = (first_word i m s).mask in
        ticked_interrupt (special_given o x m.special)
        (given_other o x m.special 226 refl ∙ h.others 226 refl refl) (given_other o x m.special
        234 refl ∙ h.ccount)

    pub count_past : (o : Option Insn) → (known_past o write base reply m s).special 234 ≡ 0
    unfolding known_past
    count_past None = ticked_count m.special h.ccount
    count_past (Some i) =
        let o = moved_to i in
        let x = (first_word i m s).mask in
        ticked_count (special_given o x m.special) (given_other o x m.special 234 refl ∙ h.ccount)

    pub compare0_past : (o : Option Insn) → (known_past o write base reply m s).special 240 ≡ 0
    unfolding known_past
    compare0_past None = h.ccompare0
    compare0_past (Some i) =
        given_other (moved_to i) (first_word i m s).mask m.special 240 refl ∙ h.ccompare0

    pub compare1_past : (o : Option Insn) → (known_past o write base reply m s).special 241 ≡ 0
    unfolding known_past
    compare1_past None = h.ccompare1
    compare1_past (Some i) =
        given_other (moved_to i) (first_word i m s).mask m.special 241 refl ∙ h.ccompare1

    pub compare2_past : (o : Option Insn) → (known_past o write base reply m s).special 242 ≡ 0
    unfolding known_past
    compare2_past None = h.ccompare2
    compare2_past (Some i) =
        given_other (moved_to i) (first_word i m s).mask m.special 242 refl ∙ h.ccompare2

    -- a register that is neither CCOUNT nor INTERRUPT keeps its mask in a tick
    pub ticked_other : (special : ℕ → ℕ) (n : ℕ) → n ≢ 226 → n ≢ 234
        → ticked_masks special n ≡ special n
    ticked_other special n d e = λ i.
        cond (unequal n 234 e i) (cond (eqb (special n) all_bits) all_bits 0)
        (cond (unequal n 226 d i) (cut_by (special 234) special 2 (cut_by (special 234) special 1
        (cut_by (special 234) special 0 (special n)))) (special n))

    pub others_past : (o : Option Insn) (n : ℕ) → n ≢ 226 → may_be_lost n ≡ false → is_clock n ≡ false
        → (known_past o write base reply m s).special n ≡ all_bits
    unfolding known_past
    others_past None n d unmarked other =
        ticked_other m.special n d (λ is. true≢false (sym (ap is_clock is) ∙ other))
        ∙ h.others n unmarked other
    others_past (Some i) n d unmarked other =
        ticked_other (special_given (moved_to i) (first_word i m s).mask m.special) n d
        (λ is. true≢false (sym (ap is_clock is) ∙ other))
        ∙ given_other (moved_to i) (first_word i m s).mask m.special n
        (or_parts (eqb n 177) (holds_marks n) unmarked).1
        ∙ h.others n unmarked other

    -- of the bits of INTERRUPT those that no timer sets are known after any turn
    pub interrupt_mask : (o : Option Insn)
        → (known_past o write base reply m s).special 226 ≡ complement timer_bits
    interrupt_mask o = interrupt_past o

    pub moment_stays : (o : Option Insn) → AreMasks (known_past o write base reply m s)
        → IsMomentKnown (moment_known o write base reply m s)
    moment_stays o masks =
        let special = (known_past o write base reply m s).special in record {
          masks = record {
            regs = masks.regs;
            special = λ n. ⊎_elim
                (λ (is : n ≡ 226). subst (λ k. IsWord (with_mask 226 all_bits special k)) (sym is)
                (omega arith))
                (λ (other : n ≢ 226). subst IsWord (sym (with_other 226 all_bits special n other))
                (masks.special n))
                (cases_eq n 226);
            threadptr = masks.threadptr;
            apart = λ n apart. with_other 226 all_bits special n (differs n 226 is_apart apart refl)
                ∙ masks.apart n apart;
          };
          others = λ n unmarked other. ⊎_elim
              (λ (is : n ≡ 226). subst (λ k. with_mask 226 all_bits special k
              ≡ all_bits) (sym is) refl)
              (λ (d : n ≢ 226). with_other 226 all_bits special n d
              ∙ others_past o n d unmarked other)
              (cases_eq n 226);
          ccount = count_past o;
          ccompare0 = compare0_past o;
          ccompare1 = compare1_past o;
          ccompare2 = compare2_past o;
        }

-- once EPC1 is known
pub entered_stays : (b : Bool) (k : Knowledge) → IsMomentKnown k
    → IsMomentKnown (entered_known b k)
entered_stays false k h = h
entered_stays true k h = record {
  masks = record {
    regs = h.masks.regs;
    special = λ n. ⊎_elim
        (λ (is : n ≡ 177). subst (λ j. IsWord (with_mask 177 all_bits k.special j)) (sym is)
        (omega arith))
        (λ (other : n ≢ 177). subst IsWord (sym (with_other 177 all_bits k.special n other))
        (h.masks.special n))
        (cases_eq n 177);
    threadptr = h.masks.threadptr;
    apart = λ n apart. with_other 177 all_bits k.special n (differs n 177 is_apart apart refl)
        ∙ h.masks.apart n apart;
  };
  others = λ n lost other. with_other 177 all_bits k.special n
      (λ is. true≢false (sym (ap may_be_lost is) ∙ lost))
      ∙ h.others n lost other;
  ccount = h.ccount;
  ccompare0 = h.ccompare0;
  ccompare1 = h.ccompare1;
  ccompare2 = h.ccompare2;
}

-- it is known already
pub entered_whole : (b : Bool) (k : Knowledge) → k.special 177 ≡ all_bits → entered_known b k ≡ k
entered_whole false k whole = refl
entered_whole true k whole = λ i. record k { special = λ n. same n i }
  where
    same : (n : ℕ) → with_mask 177 all_bits k.special n ≡ k.special n
    same n = ⊎_elim
        (λ (is : n ≡ 177). subst (λ j. with_mask 177 all_bits k.special j ≡ k.special j) (sym is)
        (sym whole))
        (λ (d : n ≢ 177). with_other 177 all_bits k.special n d)
        (cases_eq n 177)
