-- The known words that a row reads in a state, and that they fit what it reads.
use Rattle.std.proofs.Common.{◌≡◌, ℕ, ◌^◌, ◌<◌, true, Option, Some, None, List, slice_index, refl, sym, ap, ◌∙◌, subst, arith}
use Rattle.xt_isa.specs.declared.Insn.{Insn}
use Rattle.xt_isa.specs.Ranges.{in_range}
use Rattle.xt_special.specs.Control.{special_of}
use Rattle.xt_window.specs.Ring.{place, visible}
use Rattle.xt_rows.specs.Operands.{reads, special_reads}
use Rattle.xt_rows.specs.Outcomes.{outcome, outcome_at, value_of}
use Rattle.xt_rows.specs.RowLaws.{IsGiven, IsHeld, IsWord}
use Rattle.xt_rows.proofs.Registers.{shift_amount}
use Rattle.xt_exec.specs.State.{State}
use Rattle.xt_exec.specs.TurnLaws.{IsShaped}
use Rattle.xt_uses.specs.declared.discipline.Discipline.TheVariants.{Lenient}
use Rattle.xt_uses.specs.declared.words.Word.{Word}
use Rattle.xt_uses.specs.Words.{Fits, is_whole, masked}
use Rattle.xt_uses.specs.Used.{used_are_known}
use Rattle.xt_uses.specs.UseLaws.{IsKnownNumber, OthersAgree, OutcomesAgree, SpecialFits, masks_of_row}
use Rattle.xt_uses.proofs.Agreeing.{cut_agrees}
use Rattle.xt_uses.proofs.Owb.{lenient_counts}
use Rattle.xt_uses.proofs.RowsAll.{all_agree}
use Rattle.xt_simulation.specs.Knowledge.{AreMasks, Knowledge, StatesAgree, register_word, special_word, first_word, second_word, first_special}
use Rattle.xt_simulation.proofs.Likes.{like_words, whole_is}
use Rattle.xt_simulation.proofs.SecretSpecials.{Specials}
use Rattle.xt_simulation.proofs.Controls.{with_parts}

-- a state with other registers, other special registers and another THREADPTR
abbrev pub other : State → List ℕ → List ℕ → ℕ → State
other s rs ys k = record { regs = rs; base = s.base; start = s.start; control = with_parts s.control ys k }

-- ---- one state

module _ (m : Knowledge) (masks : AreMasks m) (s : State) (f : IsShaped s) where
  pub register_fits : (o : Option ℕ) → Fits (value_of (visible s.regs s.base) o) (register_word m s o)
  register_fits None = refl
  register_fits (Some i) = refl

  pub register_mask : (o : Option ℕ) → (register_word m s o).mask < 2 ^ 32
  register_mask None = omega arith
  register_mask (Some i) = masks.regs (place s.base i)

  pub special_mask : (o : Option ℕ) → (special_word m s o).mask < 2 ^ 32
  special_mask None = omega arith
  special_mask (Some n) = masks.special n

  pub register_small : (o : Option ℕ) → IsWord (value_of (visible s.regs s.base) o)
  register_small None = omega arith
  register_small (Some i) = f.words (place s.base i)

  pub special_small : (o : Option ℕ) → IsWord (value_of (special_of s.control) o)
  special_small None = omega arith
  special_small (Some n) = f.control.words n

  held : (o : Option ℕ) → IsHeld o (value_of (special_of s.control) o)
  held None = refl
  held (Some n) = λ e. subst (λ (k : ℕ). special_of s.control k < 2 ^ 6) (sym e) f.control.shape.sar_fits

  pub is_given : (i : Insn) → in_range i ≡ true
      → IsGiven i s.control.pc (value_of (visible s.regs s.base) (reads i).0) (value_of (visible s.regs s.base) (reads i).1) (value_of (special_of s.control) (special_reads i).0)
      (value_of (special_of s.control) (special_reads i).1) s.control.ps s.control.threadptr
  is_given i ok = record {
    range = ok;
    pc_word = f.control.pc;
    x_word = register_small (reads i).0;
    y_word = register_small (reads i).1;
    u_word = special_small (special_reads i).0;
    v_word = special_small (special_reads i).1;
    sar = shift_amount i (value_of (special_of s.control) (special_reads i).0) (held (special_reads i).0);
    fields = f.control.ps;
    threadptr_word = f.control.threadptr;
  }

  special_fits : (o : Option ℕ) → SpecialFits o (value_of (special_of s.control) o) (special_word m s o)
  special_fits None = refl
  special_fits (Some n) = (λ e. refl, cut_agrees (m.special n) (special_of s.control n))

  known_number : (o : Option ℕ) → is_whole (special_word m s o) ≡ true → IsKnownNumber Lenient o (special_word m s o)
  known_number None h = h
  known_number (Some n) h = λ e. whole_is (m.special n) (masks.special n) (special_word m s (Some n)) refl h ∙ sym (lenient_counts n)

  same_register : (o p : Option ℕ) → o ≡ p → (value_of (visible s.regs s.base) o ≡ value_of (visible s.regs s.base) p) × (register_word m s o ≡ register_word m s p)
  same_register o p e = (ap (value_of (visible s.regs s.base)) e, ap (register_word m s) e)

  -- a row that uses known bits alone, and of special registers known ones: its outcome over what is
  -- known
  pub cut_outcome : (code : ℕ → ℕ) (i : Insn) → in_range i ≡ true → (w : ℕ) → OthersAgree Lenient (special_reads i).1 (value_of (special_of s.control) (special_reads i).1) w
      → is_whole (first_special i m s) ≡ true → used_are_known Lenient i (first_word i m s) (second_word i m s) ≡ true
      → OutcomesAgree Lenient i (masks_of_row Lenient i (first_word i m s) (second_word i m s) (first_special i m s) m.threadptr) (outcome_at code i (visible s.regs s.base) s.control)
      (outcome code i s.control.pc (first_word i m s).value (second_word i m s).value (first_special i m s).value w s.control.ps (masked m.threadptr s.control.threadptr))
  cut_outcome code i ok w others whole used =
      all_agree Lenient code i s.control.pc (value_of (visible s.regs s.base) (reads i).0) (value_of (visible s.regs s.base) (reads i).1) (value_of (special_of s.control) (special_reads i).0)
      (value_of (special_of s.control) (special_reads i).1) w s.control.ps s.control.threadptr m.threadptr (first_word i m s) (second_word i m s) (first_special i m s) (is_given i ok)
      (record {
        first = register_fits (reads i).0;
        second = register_fits (reads i).1;
        special = special_fits (special_reads i).0;
        other = others;
        same = same_register (reads i).0 (reads i).1;
        first_mask = register_mask (reads i).0;
        second_mask = register_mask (reads i).1;
        number = known_number (special_reads i).0 whole;
        used = used;
      })

-- ---- two states that agree

pub record Two (m : Knowledge) (s : State) (rs ys : List ℕ) (k : ℕ) : Type 0 where
  pub masks : AreMasks m
  pub first : IsShaped s
  pub second : IsShaped (other s rs ys k)
  pub agree : StatesAgree m s (other s rs ys k)

module _ (m : Knowledge) (s : State) (rs ys : List ℕ) (k : ℕ) (h : Two m s rs ys k) where
  pub register_same : (o : Option ℕ) → register_word m s o ≡ register_word m (other s rs ys k) o
  register_same None = refl
  register_same (Some i) = ap (λ (v : ℕ). let w : Word = record { value = v; mask = m.regs (place s.base i) } in w) (h.agree.regs (place s.base i))

  pub special_same : (o : Option ℕ) → special_word m s o ≡ special_word m (other s rs ys k) o
  special_same None = refl
  special_same (Some n) = ap (λ (v : ℕ). let w : Word = record { value = v; mask = m.special n } in w) (h.agree.special n)

  pub specials : Specials m.special s.control.special ys
  specials = record {
    long = h.first.control.count ∙ sym h.second.control.count;
    same = λ n. like_words (m.special n) (slice_index s.control.special n) (slice_index ys n) (h.first.control.words n) (h.second.control.words n) (h.agree.special n);
  }

  -- a register of which each bit is known
  pub register_equal : (o : Option ℕ) → is_whole (register_word m s o) ≡ true → value_of (visible s.regs s.base) o ≡ value_of (visible rs s.base) o
  register_equal None w = refl
  register_equal (Some i) w =
      (like_words (m.regs (place s.base i)) (visible s.regs s.base i) (visible rs s.base i) (h.first.words (place s.base i)) (h.second.words (place s.base i)) (h.agree.regs (place s.base i))).whole
      (whole_is (m.regs (place s.base i)) (h.masks.regs (place s.base i)) (register_word m s (Some i)) refl w)

  pub special_equal : (o : Option ℕ) → is_whole (special_word m s o) ≡ true → value_of (special_of s.control) o ≡ value_of (slice_index ys) o
  special_equal None w = refl
  special_equal (Some n) w = (specials.same n).whole (whole_is (m.special n) (h.masks.special n) (special_word m s (Some n)) refl w)
