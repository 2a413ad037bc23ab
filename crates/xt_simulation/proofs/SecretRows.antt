-- One instruction over two states that agree in what is known, where it uses known bits alone.
use Rattle.std.proofs.Common.{◌≡◌, ℕ, Bool, true, false, cond, eqb, ◌||◌, Option, Some, None, List, slice_index, refl, sym, ap, ◌∙◌, subst}
use Rattle.std.proofs.lemmas.Bool.{and_parts}
use Rattle.xt_isa.specs.declared.Insn.{Insn}
use Rattle.xt_isa.specs.declared.Insn.TheVariants as insn
use Rattle.xt_isa.specs.declared.three.Three.{Three}
use Rattle.xt_isa.specs.declared.three.Three.TheVariants as three
use Rattle.xt_isa.specs.declared.three.MoveName.{MoveName}
use Rattle.xt_isa.specs.declared.system.System.{System}
use Rattle.xt_isa.specs.declared.system.System.TheVariants as system
use Rattle.xt_isa.specs.declared.system.SpecialName.TheVariants as SpecialName
use Rattle.xt_isa.specs.Ranges.{in_range}
use Rattle.xt_word.specs.Conditions.{holds}
use Rattle.xt_word.specs.declared.conditions.Cond.TheVariants as cond_of
use Rattle.xt_special.specs.Control.{special_of, ps_word}
use Rattle.xt_special.specs.Access.{is_ccompare, ps_written, value_read, with_sets, written_by}
use Rattle.xt_window.specs.Ring.{place, visible}
use Rattle.xt_trace.specs.declared.record.RegWrite.{RegWrite}
use Rattle.xt_rows.specs.declared.outcome.Outcome.{Outcome}
use Rattle.xt_rows.specs.declared.outcome.Outcome.TheVariants.{Windowed}
use Rattle.xt_rows.specs.declared.outcome.WindowStep.TheVariants.{Sets, Exchanges}
use Rattle.xt_rows.specs.declared.outcome.WindowRegister.{WindowRegister}
use Rattle.xt_rows.specs.Effects.{moves, no_change, exchanges_special, reads_special, window_register, writes_special}
use Rattle.xt_rows.specs.Kinds.{moved_to}
use Rattle.xt_rows.specs.Operands.{changes_interrupt, reads, special_reads}
use Rattle.xt_rows.specs.Outcomes.{outcome, outcome_at, system_outcome, three_outcome, value_of}
use Rattle.xt_exec.specs.State.{State}
use Rattle.xt_frames.specs.Marks.{holds_marks}
use Rattle.xt_uses.specs.declared.discipline.Discipline.TheVariants.{Lenient}
use Rattle.xt_uses.specs.declared.words.Word.{Word}
use Rattle.xt_uses.specs.Words.{all_bits, is_whole, knows, masked}
use Rattle.xt_uses.specs.Used.{both_whole, counted_bits, used_are_known, three_used, system_used}
use Rattle.xt_uses.specs.Known.{result_mask, system_mask}
use Rattle.xt_uses.specs.UseLaws.{AgreeIn, OthersAgree, OutcomesAgree, WritesAgree, masks_of_row, pointer_mask}
use Rattle.xt_uses.proofs.Owb.{lenient_counts}
use Rattle.xt_uses.proofs.RowsMarks.{marked_ps, window_unmarked}
use Rattle.xt_simulation.specs.Knowledge.{Knowledge, register_word, first_word, second_word, first_special, second_special}
use Rattle.xt_simulation.specs.TurnUses.{insn_used, row_used, specials_used}
use Rattle.xt_simulation.specs.Learning.{doubtful, special_given, with_mask, written_mask}
use Rattle.xt_simulation.proofs.Likes.{Like, like_same, like_words}
use Rattle.xt_simulation.proofs.SecretSpecials.{Specials, marks_written, whole_written}
use Rattle.xt_simulation.proofs.Controls.{with_parts}
use Rattle.xt_simulation.proofs.Readings.{Two, cut_outcome, other, register_equal, register_same, special_equal, special_same, specials}
use Rattle.xt_simulation.proofs.Outcomes.{Outcomes, outcomes_joined}

-- ---- what is written

-- no register, or this one gets this value
abbrev pub May : ℕ → ℕ → Option RegWrite → Type 0
May r x None = Unit {0}
May r x (Some w) = (w.reg ≡ r) × (w.value ≡ x)

abbrev pub Made : Option ℕ → ℕ → ℕ → ℕ → Option RegWrite → Option RegWrite → Type 0
Made None mask x y v w = WritesAgree mask v w
Made (Some r) mask x y v w = May r x v × May r y w

-- whether the instruction writes is not in doubt
abbrev pub Sure : Option ℕ → Type 0
Sure o = o ≡ None

others_same : (o : Option ℕ) (v w : ℕ) → v ≡ w → OthersAgree Lenient o v w
others_same None v w e = e
others_same (Some n) v w e = (λ f. e, ap (masked (counted_bits Lenient n)) e)

module _ (code : ℕ → ℕ) (m : Knowledge) (s : State) (rs ys : List ℕ) (k : ℕ) (h : Two m s rs ys k) where
  abbrev pub t : State
  t = other s rs ys k

  abbrev pub one : Insn → Outcome
  one i = outcome_at code i (visible s.regs s.base) s.control

  abbrev pub two : Insn → Outcome
  two i = outcome_at code i (visible rs s.base) (with_parts s.control ys k)

  -- the outcomes agree
  abbrev pub Agreed : Insn → Outcome → Outcome → Type 0
  Agreed i o p =
      Outcomes (Made (doubtful i (second_word i m s)) (written_mask i all_bits m s) (value_of (visible s.regs s.base) (reads i).0) (value_of (visible rs s.base) (reads i).0)) (Sure (doubtful i (second_word i m s))) (second_word i m s).mask
      (special_given (moved_to i) (first_word i m s).mask m.special) (pointer_mask i (first_word i m s).mask m.threadptr) s.control.special ys o p

  -- ---- rows that xt_uses compares

  module _ (i : Insn) (ok : in_range i ≡ true) (calm : moved_to i ≡ None) (sure : doubtful i (second_word i m s) ≡ None) (used : used_are_known Lenient i (first_word i m s) (second_word i m s) ≡ true)
      (whole : both_whole (first_special i m s) (second_special i m s) ≡ true) where
    abbrev v : ℕ
    v = value_of (special_of s.control) (special_reads i).1

    parts : (is_whole (first_special i m s) ≡ true) × (is_whole (second_special i m s) ≡ true)
    parts = and_parts (is_whole (first_special i m s)) (is_whole (second_special i m s)) whole

    abbrev Cut : Outcome → Word → Word → Word → ℕ → Type 0
    Cut o a b c z = OutcomesAgree Lenient i (masks_of_row Lenient i a b c m.threadptr) o (outcome code i s.control.pc a.value b.value c.value v s.control.ps z)

    first_cut : Cut (one i) (first_word i m s) (second_word i m s) (first_special i m s) (masked m.threadptr s.control.threadptr)
    first_cut = cut_outcome m h.masks s h.first code i ok v (others_same (special_reads i).1 v v refl) parts.0 used

    used_too : used_are_known Lenient i (first_word i m t) (second_word i m t) ≡ true
    used_too = sym (λ j. used_are_known Lenient i (register_same m s rs ys k h (reads i).0 j) (register_same m s rs ys k h (reads i).1 j)) ∙ used

    second_cut : Cut (two i) (first_word i m t) (second_word i m t) (first_special i m t) (masked m.threadptr k)
    second_cut =
        cut_outcome m h.masks t h.second code i ok v (others_same (special_reads i).1 (value_of (slice_index ys) (special_reads i).1) v (sym (special_equal m s rs ys k h (special_reads i).1 parts.1)))
        (sym (ap is_whole (special_same m s rs ys k h (special_reads i).0)) ∙ parts.0) used_too

    moved_cut : Cut (two i) (first_word i m s) (second_word i m s) (first_special i m s) (masked m.threadptr s.control.threadptr)
    moved_cut =
        let a = register_same m s rs ys k h (reads i).0 in
        let b = register_same m s rs ys k h (reads i).1 in
        let c = special_same m s rs ys k h (special_reads i).0 in
        subst (λ (x : Word). Cut (two i) x (second_word i m s) (first_special i m s) (masked m.threadptr s.control.threadptr)) (sym a)
        (subst (λ (x : Word). Cut (two i) (first_word i m t) x (first_special i m s) (masked m.threadptr s.control.threadptr)) (sym b)
        (subst (λ (x : Word). Cut (two i) (first_word i m t) (second_word i m t) x (masked m.threadptr s.control.threadptr)) (sym c)
        (subst (λ (x : ℕ). Cut (two i) (first_word i m t) (second_word i m t) (first_special i m t) x) (sym h.agree.threadptr) second_cut)))

    plain : Agreed i (one i) (two i)
    plain =
        subst (λ (o : Option (ℕ × ℕ)). Outcomes (Made (doubtful i (second_word i m s)) (written_mask i all_bits m s) (value_of (visible s.regs s.base) (reads i).0) (value_of (visible rs s.base) (reads i).0)) (Sure (doubtful i (second_word i m s))) (second_word i m s).mask (special_given o (first_word i m s).mask m.special)
        (pointer_mask i (first_word i m s).mask m.threadptr) s.control.special ys (one i) (two i)) (sym calm)
        (subst (λ (o : Option ℕ). Outcomes (Made o (written_mask i all_bits m s) (value_of (visible s.regs s.base) (reads i).0) (value_of (visible rs s.base) (reads i).0)) (Sure (doubtful i (second_word i m s))) (second_word i m s).mask m.special
        (pointer_mask i (first_word i m s).mask m.threadptr) s.control.special ys (one i) (two i)) (sym sure)
        (outcomes_joined i calm (masks_of_row Lenient i (first_word i m s) (second_word i m s) (first_special i m s) m.threadptr) m.special s.control.special ys (specials m s rs ys k h) (Sure (doubtful i (second_word i m s))) sure (one i) (two i) _ first_cut moved_cut))

  -- ---- conditional moves

  module _ (name : MoveName) (r p q : ℕ) where
    abbrev i : Insn
    i = insn.Three (three.Move name r p q)

    abbrev x : ℕ
    x = visible s.regs s.base p

    abbrev y : ℕ
    y = visible rs s.base p

    -- whether it moves is not known
    maybe : (b c : Bool) → Outcomes (Made (Some r) (written_mask i all_bits m s) x y) (Sure (doubtful i (second_word i m s))) (second_word i m s).mask m.special m.threadptr s.control.special ys
        (moves b r x (no_change s.control.ps s.control.threadptr)) (moves c r y (no_change s.control.ps k))
    maybe true true = (((refl, refl), (refl, refl)), record { sets = specials m s rs ys k h; ps = refl; threadptr = h.agree.threadptr; flow = refl; waits = refl })
    maybe true false = (((refl, refl), tt), record { sets = specials m s rs ys k h; ps = refl; threadptr = h.agree.threadptr; flow = refl; waits = refl })
    maybe false true = ((tt, (refl, refl)), record { sets = specials m s rs ys k h; ps = refl; threadptr = h.agree.threadptr; flow = refl; waits = refl })
    maybe false false = ((tt, tt), record { sets = specials m s rs ys k h; ps = refl; threadptr = h.agree.threadptr; flow = refl; waits = refl })

    condition : (n : MoveName) (a b : Word) → three_used (three.Move n r p q) b b ≡ three_used (three.Move n r p q) a b
    unfolding three_used
    condition MoveName.Moveqz a b = refl
    condition MoveName.Movnez a b = refl
    condition MoveName.Movltz a b = refl
    condition MoveName.Movgez a b = refl

    move : row_used i (first_word i m s) (second_word i m s) ≡ true → in_range i ≡ true → Agreed i (one i) (two i)
    unfolding doubtful moved_to pointer_mask reads special_reads outcome three_outcome used_are_known
    move free ok = by_test (three_used (three.Move name r p q) (second_word i m s) (second_word i m s)) refl
      where
        by_name : (n : MoveName)
            → Outcomes (Made (Some r) (written_mask i all_bits m s) x y) (Sure (doubtful i (second_word i m s))) (second_word i m s).mask m.special m.threadptr s.control.special ys
            (three_outcome (three.Move n r p q) x (visible s.regs s.base q) 0 (no_change s.control.ps s.control.threadptr)) (three_outcome (three.Move n r p q) y (visible rs s.base q) 0 (no_change s.control.ps k))
        by_name MoveName.Moveqz = maybe (holds cond_of.Eq (visible s.regs s.base q) 0) (holds cond_of.Eq (visible rs s.base q) 0)
        by_name MoveName.Movnez = maybe (holds cond_of.Ne (visible s.regs s.base q) 0) (holds cond_of.Ne (visible rs s.base q) 0)
        by_name MoveName.Movltz = maybe (holds cond_of.Lt (visible s.regs s.base q) 0) (holds cond_of.Lt (visible rs s.base q) 0)
        by_name MoveName.Movgez = maybe (holds cond_of.Ge (visible s.regs s.base q) 0) (holds cond_of.Ge (visible rs s.base q) 0)

        by_test : (b : Bool) → three_used (three.Move name r p q) (second_word i m s) (second_word i m s) ≡ b
            → Outcomes (Made (cond b None (Some r)) (written_mask i all_bits m s) x y) (Sure (doubtful i (second_word i m s))) (second_word i m s).mask m.special m.threadptr s.control.special ys (one i) (two i)
        by_test true e =
            subst (λ (o : Option ℕ). Outcomes (Made o (written_mask i all_bits m s) x y) (Sure (doubtful i (second_word i m s))) (second_word i m s).mask m.special m.threadptr s.control.special ys (one i) (two i)) (ap (λ (b : Bool). cond b None (Some r)) e)
            (plain i ok refl (ap (λ (b : Bool). cond b None (Some r)) e) (sym (condition name (first_word i m s) (second_word i m s)) ∙ e) refl)
        by_test false e = by_name name

  -- ---- RSR, WSR and XSR

  -- what is read of the register n
  read_agrees : (n : ℕ) → AgreeIn (m.special n) (value_read n (special_of s.control n) s.control.ps) (value_read n (slice_index ys n) s.control.ps)
  read_agrees n = by_test (eqb n 230)
    where
      by_test : (b : Bool) → AgreeIn (m.special n) (cond b (ps_word s.control.ps) (special_of s.control n)) (cond b (ps_word s.control.ps) (slice_index ys n))
      by_test true = refl
      by_test false = h.agree.special n

  -- what a write of the register n sees of INTERRUPT
  interrupt : (n : ℕ) → Like (m.special 226) (value_of (special_of s.control) (changes_interrupt n)) (value_of (slice_index ys) (changes_interrupt n))
  interrupt n = by_test (eqb n 226 || (eqb n 227 || is_ccompare n))
    where
      by_test : (b : Bool) → Like (m.special 226) (value_of (special_of s.control) (cond b (Some 226) None)) (value_of (slice_index ys) (cond b (Some 226) None))
      by_test true = (specials m s rs ys k h).same 226
      by_test false = like_same (m.special 226) 0 0 refl

  module _ (q n : ℕ) (used : (holds_marks n || knows (counted_bits Lenient n) (register_word m s (Some q))) ≡ true) where
    abbrev first : ℕ
    first = visible s.regs s.base q

    abbrev second : ℕ
    second = visible rs s.base q

    abbrev given : ℕ
    given = m.regs (place s.base q)

    unmarked : holds_marks n ≡ false → first ≡ second
    unmarked clear =
        register_equal m s rs ys k h (Some q)
        (ap (λ (bits : ℕ). knows bits (register_word m s (Some q))) (sym (lenient_counts n)) ∙ by_test (holds_marks n) clear used)
      where
        by_test : (b : Bool) → b ≡ false → (b || knows (counted_bits Lenient n) (register_word m s (Some q))) ≡ true → knows (counted_bits Lenient n) (register_word m s (Some q)) ≡ true
        by_test true e u = absurd cc
        by_test false e u = u

    abbrev was : ℕ
    was = value_of (special_of s.control) (changes_interrupt n)

    abbrev had : ℕ
    had = value_of (slice_index ys) (changes_interrupt n)

    abbrev after : ℕ → ℕ
    after = cond (holds_marks n) (with_mask n given m.special) m.special

    written : Specials after (with_sets (written_by n first was) s.control.special) (with_sets (written_by n second had) ys)
    written = by_test (holds_marks n) refl
      where
        by_test : (b : Bool) → holds_marks n ≡ b → Specials (cond b (with_mask n given m.special) m.special) (with_sets (written_by n first was) s.control.special) (with_sets (written_by n second had) ys)
        by_test true e =
            marks_written m.special s.control.special ys (specials m s rs ys k h) n first second was had given e
            (like_words given first second (h.first.words (place s.base q)) (h.second.words (place s.base q)) (h.agree.regs (place s.base q)))
        by_test false e =
            subst (λ (z : ℕ). Specials m.special (with_sets (written_by n first was) s.control.special) (with_sets (written_by n z had) ys)) (unmarked e)
            (whole_written m.special s.control.special ys (specials m s rs ys k h) first was had (interrupt n) n)

    same_ps : ps_written n first s.control.ps ≡ ps_written n second s.control.ps
    same_ps = by_test (holds_marks n) refl
      where
        by_test : (b : Bool) → holds_marks n ≡ b → ps_written n first s.control.ps ≡ ps_written n second s.control.ps
        by_test true e = marked_ps n first s.control.ps e ∙ sym (marked_ps n second s.control.ps e)
        by_test false e = ap (λ (z : ℕ). ps_written n z s.control.ps) (unmarked e)

    wsr : Agreed (insn.System (system.Special SpecialName.Wsr q n)) (one (insn.System (system.Special SpecialName.Wsr q n))) (two (insn.System (system.Special SpecialName.Wsr q n)))
    unfolding doubtful moved_to pointer_mask reads special_reads outcome system_outcome
    wsr = by_register (window_register n) refl
      where
        by_register : (r : Option WindowRegister) → window_register n ≡ r
            → Outcomes (Made None (written_mask (insn.System (system.Special SpecialName.Wsr q n)) all_bits m s) first second) (Sure None) all_bits after m.threadptr s.control.special ys
            (writes_special r n first was (no_change s.control.ps s.control.threadptr))
            (writes_special r n second had (no_change s.control.ps k))
        by_register None e = (tt, record { sets = written; ps = same_ps; threadptr = h.agree.threadptr; flow = refl; waits = refl })
        by_register (Some w) e = ap (λ (z : ℕ). Windowed (Sets w z)) (unmarked (window_unmarked n w e))

    xsr : Agreed (insn.System (system.Special SpecialName.Xsr q n)) (one (insn.System (system.Special SpecialName.Xsr q n))) (two (insn.System (system.Special SpecialName.Xsr q n)))
    unfolding doubtful moved_to pointer_mask reads special_reads outcome system_outcome result_mask system_mask
    xsr = by_register (window_register n) refl
      where
        by_register : (r : Option WindowRegister) → window_register n ≡ r
            → Outcomes (Made None (m.special n) first second) (Sure None) all_bits after m.threadptr s.control.special ys
            (exchanges_special r q n first (special_of s.control n) was (no_change s.control.ps s.control.threadptr))
            (exchanges_special r q n second (slice_index ys n) had (no_change s.control.ps k))
        by_register None e = ((refl, read_agrees n), record { sets = written; ps = same_ps; threadptr = h.agree.threadptr; flow = refl; waits = refl })
        by_register (Some w) e = ap (λ (z : ℕ). Windowed (Exchanges w q z)) (unmarked (window_unmarked n w e))

  rsr : (q n : ℕ) → Agreed (insn.System (system.Special SpecialName.Rsr q n)) (one (insn.System (system.Special SpecialName.Rsr q n))) (two (insn.System (system.Special SpecialName.Rsr q n)))
  unfolding doubtful moved_to pointer_mask reads special_reads outcome system_outcome result_mask system_mask
  rsr q n = by_register (window_register n)
    where
      by_register : (r : Option WindowRegister)
          → Outcomes (Made None (m.special n) 0 0) (Sure None) all_bits m.special m.threadptr s.control.special ys (reads_special r q n (special_of s.control n) (no_change s.control.ps s.control.threadptr))
          (reads_special r q n (slice_index ys n) (no_change s.control.ps k))
      by_register None = ((refl, read_agrees n), record { sets = specials m s rs ys k h; ps = refl; threadptr = h.agree.threadptr; flow = refl; waits = refl })
      by_register (Some w) = refl

  -- ---- all rows

  system_rows : (i : System) → in_range (insn.System i) ≡ true → row_used (insn.System i) (first_word (insn.System i) m s) (second_word (insn.System i) m s) ≡ true
      → specials_used (insn.System i) (first_special (insn.System i) m s) (second_special (insn.System i) m s) ≡ true → Agreed (insn.System i) (one (insn.System i)) (two (insn.System i))
  unfolding row_used specials_used doubtful moved_to used_are_known system_used reads
  system_rows (system.Special SpecialName.Rsr q n) ok used whole = rsr q n
  system_rows (system.Special SpecialName.Wsr q n) ok used whole = wsr q n used
  system_rows (system.Special SpecialName.Xsr q n) ok used whole = xsr q n used
  system_rows i ok used whole = plain (insn.System i) ok refl refl used whole

  three_rows : (i : Three) → in_range (insn.Three i) ≡ true → row_used (insn.Three i) (first_word (insn.Three i) m s) (second_word (insn.Three i) m s) ≡ true
      → specials_used (insn.Three i) (first_special (insn.Three i) m s) (second_special (insn.Three i) m s) ≡ true → Agreed (insn.Three i) (one (insn.Three i)) (two (insn.Three i))
  unfolding row_used specials_used doubtful moved_to used_are_known three_used
  three_rows (three.Divide name r p q) ok used whole = plain (insn.Three (three.Divide name r p q)) ok refl refl (and_parts _ _ used).1 whole
  three_rows (three.Move name r p q) ok used whole = move name r p q used ok
  three_rows i ok used whole = plain (insn.Three i) ok refl refl used whole

  by_insn : (i : Insn) → in_range i ≡ true → row_used i (first_word i m s) (second_word i m s) ≡ true → specials_used i (first_special i m s) (second_special i m s) ≡ true → Agreed i (one i) (two i)
  unfolding row_used specials_used doubtful moved_to
  by_insn (insn.Three i) ok used whole = three_rows i ok used whole
  by_insn (insn.Shift i) ok used whole = plain (insn.Shift i) ok refl refl used whole
  by_insn (insn.Memory i) ok used whole = plain (insn.Memory i) ok refl refl used whole
  by_insn (insn.Control i) ok used whole = plain (insn.Control i) ok refl refl used whole
  by_insn (insn.System i) ok used whole = system_rows i ok used whole
  by_insn (insn.Density i) ok used whole = plain (insn.Density i) ok refl refl used whole
  by_insn (insn.Boolean i) ok used whole = plain (insn.Boolean i) ok refl refl used whole

  pub rows : (i : Insn) → in_range i ≡ true → insn_used i m s ≡ true → Agreed i (one i) (two i)
  rows i ok used = let u = and_parts _ _ used in by_insn i ok u.0 u.1
