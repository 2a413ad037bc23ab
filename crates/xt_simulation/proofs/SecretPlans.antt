-- What two states that agree in what is known make of one outcome, or of an exception.
use Rattle.std.proofs.Common.{◌≡◌, ℕ, ◌+◌, ◌-◌, ◌*◌, ◌%◌, ◌^◌, Bool, true, false, cond, eqb, ◌||◌, Option, Some, None, List, refl, sym, ap, ◌∙◌, subst, ◌⊎◌, inl, inr, ⊎_elim}
use Rattle.std.proofs.lemmas.Bool.{eqb-true, true≢false}
use Rattle.xt_isa.specs.declared.Insn.{Insn}
use Rattle.xt_isa.specs.declared.Insn.TheVariants as insn
use Rattle.xt_isa.specs.declared.control.Control.TheVariants as control
use Rattle.xt_isa.specs.declared.control.ReturnName.TheVariants as ReturnName
use Rattle.xt_isa.specs.declared.density.Density.TheVariants as density
use Rattle.xt_isa.specs.declared.density.BareName.TheVariants as BareName
use Rattle.xt_isa.specs.declared.system.System.TheVariants as system
use Rattle.xt_isa.specs.declared.system.SpecialName.TheVariants as SpecialName
use Rattle.xt_isa.specs.declared.system.UserName.TheVariants as UserName
use Rattle.xt_map.specs.declared.access.Access.{Access}
use Rattle.xt_special.specs.Access.{is_window_register}
use Rattle.xt_special.specs.Control.{Control}
use Rattle.xt_special.specs.Exceptions.{after_exception}
use Rattle.xt_special.specs.Timers.{after_tick}
use Rattle.xt_special.specs.WindowExceptions.{after_window_exception}
use Rattle.xt_window.specs.Ring.{bit, size_at, visible, with_bit, without_bit}
use Rattle.xt_window.specs.Moves.{base_after_call, base_after_return, base_rotated, behind}
use Rattle.xt_trace.specs.declared.record.RegWrite.{RegWrite}
use Rattle.xt_trace.specs.declared.record.StepKind.{StepKind}
use Rattle.xt_trace.specs.declared.record.StepKind.TheVariants as kind
use Rattle.xt_map.specs.Fetching.{Fetched, Fetches}
use Rattle.xt_rows.specs.declared.outcome.Effect.{Effect}
use Rattle.xt_rows.specs.declared.outcome.Flow.TheVariants.{Falls}
use Rattle.xt_rows.specs.declared.outcome.Outcome.{Outcome}
use Rattle.xt_rows.specs.declared.outcome.Outcome.TheVariants.{Does, Raises, Asks, Stops, Windowed}
use Rattle.xt_rows.specs.declared.outcome.ReplyTarget.{ReplyTarget}
use Rattle.xt_rows.specs.declared.outcome.WindowRegister.TheVariants as window
use Rattle.xt_rows.specs.declared.outcome.WindowStep.{WindowStep}
use Rattle.xt_rows.specs.declared.outcome.WindowStep.TheVariants.{Enters, Returns, EndsOverflow, EndsUnderflow, Rotates, MovesStack, Reads, Sets, Exchanges}
use Rattle.xt_rows.specs.Effects.{no_caller_window, write_to}
use Rattle.xt_rows.specs.Kinds.{Fits, FitsStep, is_entry, is_movsp, is_return, is_windowing, moved_to, names_window_register}
use Rattle.xt_rows.specs.Operands.{reads}
use Rattle.xt_rows.specs.Outcomes.{value_of}
use Rattle.xt_rows.specs.Settling.{after_flow, return_pc, return_size, settled_exception}
use Rattle.xt_exec.specs.State.{State}
use Rattle.xt_exec.specs.Turn.{Planned, entry_turn, fall_through, in_window, moved_stack, outcome_turn, overflow, raises, resuming_turn, return_turn, underflow, window_exception, window_step, window_turn}
use Rattle.xt_frames.specs.Marks.{holds_marks}
use Rattle.xt_uses.specs.declared.words.Word.{Word}
use Rattle.xt_uses.specs.Words.{all_bits}
use Rattle.xt_uses.specs.Known.{loaded_mask}
use Rattle.xt_uses.specs.UseLaws.{WritesAgree, pointer_mask}
use Rattle.xt_uses.proofs.RowsReplies.{AwaitsMask}
use Rattle.xt_uses.specs.UseStep.{step_insn}
use Rattle.xt_simulation.specs.Knowledge.{Knowledge, first_word, second_word}
use Rattle.xt_simulation.specs.Learning.{doubtful, special_given, ticked_masks, with_mask, written_mask}
use Rattle.xt_simulation.specs.SecretLaws.{AccessAgrees, SentAgrees}
use Rattle.xt_simulation.proofs.SecretSpecials.{differs, with_other}
use Rattle.xt_simulation.proofs.Controls.{Commons, Controls, effect_agrees, exception_agrees, flow_agrees, parts_agree, tick_agrees, window_agrees}
use Rattle.xt_simulation.proofs.Readings.{Two, other, specials}
use Rattle.xt_simulation.proofs.Sends.{Sends, both_send}
use Rattle.xt_simulation.proofs.SecretRows.{Agreed, Made}

-- ---- what two turns have in common before a reply

-- a turn that asks writes what is replied, or nothing
abbrev pub Silent : Option Access → Option RegWrite → Option RegWrite → Type 0
Silent None v w = Unit {0}
Silent (Some a) v w = (v ≡ None) × (w ≡ None)

pub record Plans (written : Option RegWrite → Option RegWrite → Type 0) (stored : ℕ) (special : ℕ → ℕ) (pointer : ℕ) (regs others : List ℕ) (p q : Planned) : Type 0 where
  pub kind : p.kind ≡ q.kind
  pub write : written p.write q.write
  pub access : AccessAgrees stored p.access q.access
  pub sent : SentAgrees p.access q.access
  pub silent : Silent p.access p.write q.write
  pub awaited : p.awaited ≡ q.awaited
  pub base : p.after.base ≡ q.after.base
  pub start : p.after.start ≡ q.after.start
  pub first_regs : p.after.regs ≡ regs
  pub second_regs : q.after.regs ≡ others
  pub control : Controls special pointer p.after.control q.after.control

-- a conditional move whose condition is not known moves no window
abbrev pub Stays : Option ℕ → State → Planned → Type 0
Stays None s p = Unit {0}
Stays (Some r) s p = p.after.base ≡ s.base

-- ---- instructions that move windows write no other register than one by the table

-- where the condition, the mask of THREADPTR and those of special registers are no matter
pub record Quiet (i : Insn) : Type 0 where
  pub sure : (y : Word) → doubtful i y ≡ None
  pub pointer : (given pointer : ℕ) → pointer_mask i given pointer ≡ pointer
  pub special : (given : ℕ) (m : ℕ → ℕ) → special_given (moved_to i) given m ≡ m

abbrev at_windows : Insn → Bool
at_windows i = is_entry i || (is_return i || (is_movsp i || (is_windowing i || names_window_register i)))

window_unmarked_bit : (n : ℕ) → is_window_register n ≡ true → holds_marks n ≡ false
window_unmarked_bit n e = by_test (holds_marks n) refl
  where
    by_test : (b : Bool) → holds_marks n ≡ b → holds_marks n ≡ false
    by_test false h = h
    by_test true h = absurd (by_tests (eqb n 72) refl (eqb n 73) refl e)
      where
        by_tests : (b : Bool) → eqb n 72 ≡ b → (c : Bool) → eqb n 73 ≡ c → (b || c) ≡ true → ⊥
        by_tests true p c q r = differs n 72 holds_marks h refl (eqb-true n 72 p)
        by_tests false p true q r = differs n 73 holds_marks h refl (eqb-true n 73 q)
        by_tests false p false q r = absurd cc

quiet : (i : Insn) → at_windows i ≡ true → Quiet i
unfolding is_entry is_return is_movsp is_windowing names_window_register moved_to doubtful pointer_mask
quiet (insn.Three i) h = absurd (true≢false (sym h))
quiet (insn.Shift i) h = record { sure = λ y. refl; pointer = λ g p. refl; special = λ g m. refl }
quiet (insn.Memory i) h = record { sure = λ y. refl; pointer = λ g p. refl; special = λ g m. refl }
quiet (insn.Control i) h = record { sure = λ y. refl; pointer = λ g p. refl; special = λ g m. refl }
quiet (insn.Density i) h = record { sure = λ y. refl; pointer = λ g p. refl; special = λ g m. refl }
quiet (insn.Boolean i) h = record { sure = λ y. refl; pointer = λ g p. refl; special = λ g m. refl }
quiet (insn.System (system.User UserName.Rur q n)) h = absurd (true≢false (sym h))
quiet (insn.System (system.User UserName.Wur q n)) h = absurd (true≢false (sym h))
quiet (insn.System (system.Special SpecialName.Rsr q n)) h = record { sure = λ y. refl; pointer = λ g p. refl; special = λ g m. refl }
quiet (insn.System (system.Special SpecialName.Wsr q n)) h = record { sure = λ y. refl; pointer = λ g p. refl; special = λ g m. ap (λ (b : Bool). cond b (with_mask n g m) m) (window_unmarked_bit n h) }
quiet (insn.System (system.Special SpecialName.Xsr q n)) h = record { sure = λ y. refl; pointer = λ g p. refl; special = λ g m. ap (λ (b : Bool). cond b (with_mask n g m) m) (window_unmarked_bit n h) }
quiet (insn.System i) h = record { sure = λ y. refl; pointer = λ g p. refl; special = λ g m. refl }

one_of : (a b c d e : Bool) → (a ≡ true) ⊎ ((b ≡ true) ⊎ ((c ≡ true) ⊎ ((d ≡ true) ⊎ (e ≡ true)))) → (a || (b || (c || (d || e)))) ≡ true
one_of true b c d e h = refl
one_of false true c d e h = refl
one_of false false true d e h = refl
one_of false false false true e h = refl
one_of false false false false true h = refl
one_of false false false false false h = absurd (⊎_elim (λ x. true≢false (sym x)) (⊎_elim (λ x. true≢false (sym x)) (⊎_elim (λ x. true≢false (sym x)) (⊎_elim (λ x. true≢false (sym x)) (λ x. true≢false (sym x))))) h)

step_quiet : (i : Insn) (step : WindowStep) → FitsStep i step → Quiet i
unfolding is_entry is_return
step_quiet i (Enters number value) f = subst Quiet (sym f.1) (quiet (insn.Control (control.Entry number f.0)) refl)
step_quiet i (Returns a0) f = ⊎_elim (λ e. subst Quiet (sym e) (quiet (insn.Control (control.Return ReturnName.Retw)) refl)) (λ e. subst Quiet (sym e) (quiet (insn.Density (density.Bare BareName.Retw)) refl)) f
step_quiet i (EndsOverflow epc1) f = quiet i (one_of (is_entry i) (is_return i) (is_movsp i) (is_windowing i) (names_window_register i) (inr (inr (inr (inl f)))))
step_quiet i (EndsUnderflow epc1) f = quiet i (one_of (is_entry i) (is_return i) (is_movsp i) (is_windowing i) (names_window_register i) (inr (inr (inr (inl f)))))
step_quiet i (Rotates n) f = quiet i (one_of (is_entry i) (is_return i) (is_movsp i) (is_windowing i) (names_window_register i) (inr (inr (inr (inl f)))))
step_quiet i (MovesStack number value) f = quiet i (one_of (is_entry i) (is_return i) (is_movsp i) (is_windowing i) (names_window_register i) (inr (inr (inl f))))
step_quiet i (Reads register number) f = quiet i (one_of (is_entry i) (is_return i) (is_movsp i) (is_windowing i) (names_window_register i) (inr (inr (inr (inr f)))))
step_quiet i (Sets register value) f = quiet i (one_of (is_entry i) (is_return i) (is_movsp i) (is_windowing i) (names_window_register i) (inr (inr (inr (inr f)))))
step_quiet i (Exchanges register number value) f = quiet i (one_of (is_entry i) (is_return i) (is_movsp i) (is_windowing i) (names_window_register i) (inr (inr (inr (inr f)))))

writes_self : (mask : ℕ) (w : Option RegWrite) → WritesAgree mask w w
writes_self mask None = tt
writes_self mask (Some w) = (refl, refl)

-- ---- two states

module _ (m : Knowledge) (s : State) (rs ys : List ℕ) (k : ℕ) (h : Two m s rs ys k) (known : Commons m.special) where
  abbrev pub t : State
  t = other s rs ys k

  -- what awaits a reply is written with its mask
  abbrev pub Waits : Insn → Option ReplyTarget → Type 0
  Waits i None = Unit {0}
  Waits i (Some a) = (doubtful i (second_word i m s) ≡ None) × ((reply : ℕ) → written_mask i reply m s ≡ loaded_mask a.signed reply)

  -- turns of these kinds agree
  abbrev pub Agrees : Option Insn → Planned → Planned → Type 0
  Agrees None p q = Plans (λ v w. v ≡ w) all_bits (ticked_masks m.special) m.threadptr s.regs rs p q × (p.awaited ≡ None) × (p.write ≡ None)
  Agrees (Some i) p q =
      Plans (Made (doubtful i (second_word i m s)) (written_mask i all_bits m s) (value_of (visible s.regs s.base) (reads i).0) (value_of (visible rs s.base) (reads i).0)) (second_word i m s).mask
      (ticked_masks (special_given (moved_to i) (first_word i m s).mask m.special)) (pointer_mask i (first_word i m s).mask m.threadptr) s.regs rs p q
      × Stays (doubtful i (second_word i m s)) s p × Waits i p.awaited

  pub at_start : Controls m.special m.threadptr s.control t.control
  at_start = parts_agree m.special m.threadptr s.control ys k (specials m s rs ys k h) h.agree.threadptr

  -- ---- turns that execute nothing

  -- a turn of this kind, which leaves these windows and control states before the tick
  abbrev ends : StepKind → ℕ → ℕ → List ℕ → Control → Planned
  ends kind base start regs c = record {
    kind = kind;
    write = None;
    access = None;
    awaited = None;
    after = record { regs = regs; base = base; start = start; control = after_tick c };
  }

  pub idle : (kind : StepKind) (base start : ℕ) (c d : Control) → Controls m.special m.threadptr c d → Agrees None (ends kind base start s.regs c) (ends kind base start rs d)
  idle kind base start c d g = (
    record {
      kind = refl;
      write = refl;
      access = tt;
      sent = tt;
      silent = tt;
      awaited = refl;
      base = refl;
      start = refl;
      first_regs = refl;
      second_regs = refl;
      control = tick_agrees m.special m.threadptr c d g;
    },
    refl,
    refl,
  )

  pub raised : (cause : ℕ) (address : Option ℕ) → Agrees None (in_window (settled_exception cause address s.control) s) (in_window (settled_exception cause address t.control) t)
  raised cause address = idle (kind.Exc cause) s.base s.start (after_exception cause address s.control) (after_exception cause address t.control) (exception_agrees m.special m.threadptr known s.control t.control at_start cause address)

  excepted : (number base : ℕ) → Agrees None (window_exception number base s) (window_exception number base t)
  excepted number base =
      idle (kind.Window number) base s.start (after_window_exception s.base number s.control) (after_window_exception s.base number t.control) (window_agrees m.special m.threadptr known s.control t.control at_start s.base number)

  pub overflows : (distance : ℕ) → Agrees None (overflow distance s) (overflow distance t)
  unfolding overflow
  overflows distance = excepted (2 * (size_at s.start (s.base + distance) - 1)) (base_after_call s.base distance)

  underflows : (size : ℕ) → Agrees None (underflow size s) (underflow size t)
  unfolding underflow
  underflows size = excepted (2 * (size - 1) + 1) (base_after_return s.base size)

  -- ---- steps of windows

  module _ (i : Insn) (q : Quiet i) (len : ℕ) where
    abbrev at : Fetched
    at = Fetches i len

    -- an instruction is executed that leaves these windows and control states before the tick
    stepped : (write : Option RegWrite) (base start : ℕ) (c d : Control) → Controls m.special m.threadptr c d
        → Agrees (Some i) (window_step write (record { regs = s.regs; base = base; start = start; control = c })) (window_step write (record { regs = rs; base = base; start = start; control = d }))
    stepped write base start c d g =
        subst (λ (o : Option ℕ). Plans (Made o (written_mask i all_bits m s) (value_of (visible s.regs s.base) (reads i).0) (value_of (visible rs s.base) (reads i).0)) (second_word i m s).mask
        (ticked_masks (special_given (moved_to i) (first_word i m s).mask m.special)) (pointer_mask i (first_word i m s).mask m.threadptr) s.regs rs one two × Stays o s one × Waits i None) (sym (q.sure (second_word i m s))) (
          subst (λ (pointer : ℕ). Plans (WritesAgree (written_mask i all_bits m s)) (second_word i m s).mask (ticked_masks (special_given (moved_to i) (first_word i m s).mask m.special)) pointer s.regs rs one two)
              (sym (q.pointer (first_word i m s).mask m.threadptr))
              (subst (λ (special : ℕ → ℕ). Plans (WritesAgree (written_mask i all_bits m s)) (second_word i m s).mask (ticked_masks special) m.threadptr s.regs rs one two) (sym (q.special (first_word i m s).mask m.special))
              (record {
                kind = refl;
                write = writes_self (written_mask i all_bits m s) write;
                access = tt;
                sent = tt;
                silent = tt;
                awaited = refl;
                base = refl;
                start = refl;
                first_regs = refl;
                second_regs = refl;
                control = tick_agrees m.special m.threadptr c d g;
              })),
          tt,
          tt,
        )
      where
        one : Planned
        one = window_step write (record { regs = s.regs; base = base; start = start; control = c })

        two : Planned
        two = window_step write (record { regs = rs; base = base; start = start; control = d })

    falls : Controls m.special m.threadptr (after_flow Falls len s.control) (after_flow Falls len t.control)
    falls = flow_agrees m.special m.threadptr known s.control t.control at_start Falls len

    entered : (number value : ℕ) → Agrees (step_insn (entry_turn number value len s).kind at) (entry_turn number value len s) (entry_turn number value len t)
    unfolding entry_turn step_insn
    entered number value =
        let base = base_after_call s.base s.control.ps.callinc in
        stepped (write_to number value) base (with_bit s.start base) (after_flow Falls len s.control) (after_flow Falls len t.control) falls

    returned : (a0 : ℕ) → Agrees (step_insn (return_turn a0 s).kind at) (return_turn a0 s) (return_turn a0 t)
    unfolding return_turn step_insn underflow
    returned a0 = by_test (bit s.start base)
      where
        base : ℕ
        base = base_after_return s.base (return_size a0)

        back : State → Planned
        back u = window_step None (record u { base = base; start = without_bit u.start u.base; control = record u.control { pc = return_pc u.control.pc a0 } })

        choice : Bool → State → Planned
        choice b u = cond b (back u) (underflow (return_size a0) u)

        by_test : (b : Bool) → Agrees (step_insn (choice b s).kind at) (choice b s) (choice b t)
        by_test true =
            stepped None base (without_bit s.start s.base) (record s.control { pc = return_pc s.control.pc a0 }) (record t.control { pc = return_pc s.control.pc a0 })
            (record { pc = refl; special = at_start.special; ps = refl; threadptr = at_start.threadptr; waits = refl })
        by_test false = underflows (return_size a0)

    resumed : (start epc1 : ℕ) → Agrees (step_insn (resuming_turn start epc1 s).kind at) (resuming_turn start epc1 s) (resuming_turn start epc1 t)
    unfolding resuming_turn step_insn
    resumed start epc1 =
        stepped None s.control.ps.owb start (record s.control { pc = epc1; ps = record s.control.ps { excm = false } }) (record t.control { pc = epc1; ps = record s.control.ps { excm = false } })
        (record { pc = refl; special = at_start.special; ps = refl; threadptr = at_start.threadptr; waits = refl })

    moved : (number value : ℕ) → Agrees (step_insn (moved_stack number value len s).kind at) (moved_stack number value len s) (moved_stack number value len t)
    unfolding moved_stack step_insn
    moved number value = by_test (eqb (behind s.start s.base) 0)
      where
        choice : Bool → State → Planned
        choice b u = cond b (raises no_caller_window u) (window_step (write_to number value) (fall_through len u))

        by_test : (b : Bool) → Agrees (step_insn (choice b s).kind at) (choice b s) (choice b t)
        by_test true = raised no_caller_window None
        by_test false = stepped (write_to number value) s.base s.start (after_flow Falls len s.control) (after_flow Falls len t.control) falls

    pub windowed : (step : WindowStep) → Agrees (step_insn (window_turn step len s).kind at) (window_turn step len s) (window_turn step len t)
    unfolding step_insn
    windowed (Enters number value) = entered number value
    windowed (Returns a0) = returned a0
    windowed (EndsOverflow epc1) = resumed (without_bit s.start s.base) epc1
    windowed (EndsUnderflow epc1) = resumed (with_bit s.start s.base) epc1
    windowed (Rotates n) = stepped None (base_rotated s.base n) s.start (after_flow Falls len s.control) (after_flow Falls len t.control) falls
    windowed (MovesStack number value) = moved number value
    windowed (Reads window.Base number) = stepped (write_to number s.base) s.base s.start (after_flow Falls len s.control) (after_flow Falls len t.control) falls
    windowed (Reads window.Start number) = stepped (write_to number s.start) s.base s.start (after_flow Falls len s.control) (after_flow Falls len t.control) falls
    windowed (Sets window.Base value) = stepped None (value % 2 ^ 4) s.start (after_flow Falls len s.control) (after_flow Falls len t.control) falls
    windowed (Sets window.Start value) = stepped None s.base (value % 2 ^ 16) (after_flow Falls len s.control) (after_flow Falls len t.control) falls
    windowed (Exchanges window.Base number value) = stepped (write_to number s.base) (value % 2 ^ 4) s.start (after_flow Falls len s.control) (after_flow Falls len t.control) falls
    windowed (Exchanges window.Start number value) = stepped (write_to number s.start) s.base (value % 2 ^ 16) (after_flow Falls len s.control) (after_flow Falls len t.control) falls

  -- ---- outcomes

  given_commons : (o : Option (ℕ × ℕ)) (given : ℕ) → Commons (special_given o given m.special)
  given_commons None given = known
  given_commons (Some p) given = by_test (holds_marks p.1) refl
    where
      by_test : (b : Bool) → holds_marks p.1 ≡ b → Commons (cond b (with_mask p.1 given m.special) m.special)
      by_test false e = known
      by_test true e = record {
        vecbase = with_other p.1 given m.special 231 (λ z. differs p.1 231 holds_marks e refl (sym z)) ∙ known.vecbase;
        lbeg = with_other p.1 given m.special 0 (λ z. differs p.1 0 holds_marks e refl (sym z)) ∙ known.lbeg;
        lend = with_other p.1 given m.special 1 (λ z. differs p.1 1 holds_marks e refl (sym z)) ∙ known.lend;
        lcount = with_other p.1 given m.special 2 (λ z. differs p.1 2 holds_marks e refl (sym z)) ∙ known.lcount;
      }

  module _ (code : ℕ → ℕ) (i : Insn) (len : ℕ) where
    abbrev Same : Outcome → Outcome → Type 0
    Same o p = Agreed code m s rs ys k h i o p

    made_none : (o : Option ℕ) (mask x y : ℕ) → Made o mask x y None None
    made_none None mask x y = tt
    made_none (Some r) mask x y = (tt, tt)

    stays_here : (o : Option ℕ) (p : Planned) → p.after.base ≡ s.base → Stays o s p
    stays_here None p e = tt
    stays_here (Some r) p e = e

    done : (a b : Effect) → Same (Does a) (Does b) → Agrees (Some i) (outcome_turn (Does a) len s) (outcome_turn (Does b) len t)
    done a b g = (
      record {
        kind = refl;
        write = g.0;
        access = tt;
        sent = tt;
        silent = tt;
        awaited = refl;
        base = refl;
        start = refl;
        first_regs = refl;
        second_regs = refl;
        control = tick_agrees _ _ _ _ (effect_agrees _ _ (given_commons (moved_to i) (first_word i m s).mask) a b len s.control t.control refl g.1);
      },
      stays_here (doubtful i (second_word i m s)) (outcome_turn (Does a) len s) refl,
      tt,
    )

    waits_for : (a : Access) (x : Option ReplyTarget) (d : Effect) → doubtful i (second_word i m s) ≡ None → ((reply : ℕ) → AwaitsMask (written_mask i reply m s) reply (Asks a x d)) → Waits i x
    waits_for a None d sure masked = tt
    waits_for a (Some w) d sure masked = (sure, masked)

    asked : (a b : Access) (x y : Option ReplyTarget) (d e : Effect) (z : ℕ) → ((reply : ℕ) → AwaitsMask (written_mask i reply m s) reply (Asks a x d)) → Sends z (Asks a x d) → Sends z (Asks b y e) → Same (Asks a x d) (Asks b y e)
        → Agrees (Some i) (outcome_turn (Asks a x d) len s) (outcome_turn (Asks b y e) len t)
    asked a b x y d e z masked one two g = (
      record {
        kind = refl;
        write = made_none (doubtful i (second_word i m s)) _ _ _;
        access = g.0;
        sent = both_send z a b g.0.0 one two;
        silent = (refl, refl);
        awaited = g.1;
        base = refl;
        start = refl;
        first_regs = refl;
        second_regs = refl;
        control = tick_agrees _ _ _ _ (effect_agrees _ _ (given_commons (moved_to i) (first_word i m s).mask) d e len s.control t.control refl g.2);
      },
      stays_here (doubtful i (second_word i m s)) (outcome_turn (Asks a x d) len s) refl,
      waits_for a x d g.3 masked,
    )

    stopped : Agrees None (outcome_turn Stops len s) (outcome_turn Stops len t)
    stopped = idle kind.Stop s.base s.start s.control t.control at_start

    -- an outcome that is the same for both
    equal : (o p : Outcome) → o ≡ p → Agrees (step_insn (outcome_turn o len s).kind (Fetches i len)) (outcome_turn o len s) (outcome_turn o len t)
        → Agrees (step_insn (outcome_turn o len s).kind (Fetches i len)) (outcome_turn o len s) (outcome_turn p len t)
    equal o p e g = subst (λ (x : Outcome). Agrees (step_insn (outcome_turn o len s).kind (Fetches i len)) (outcome_turn o len s) (outcome_turn x len t)) e g

    with_does : (a : Effect) (p : Outcome) → Same (Does a) p → Agrees (Some i) (outcome_turn (Does a) len s) (outcome_turn p len t)
    with_does a (Does b) g = done a b g
    with_does a (Raises cause address) g = absurd cc
    with_does a (Asks b y e) g = absurd cc
    with_does a Stops g = absurd cc
    with_does a (Windowed step) g = absurd cc

    with_asks : (a : Access) (x : Option ReplyTarget) (d : Effect) (p : Outcome) (z : ℕ) → ((reply : ℕ) → AwaitsMask (written_mask i reply m s) reply (Asks a x d)) → Sends z (Asks a x d) → Sends z p → Same (Asks a x d) p
        → Agrees (Some i) (outcome_turn (Asks a x d) len s) (outcome_turn p len t)
    with_asks a x d (Does b) z masked one two g = absurd cc
    with_asks a x d (Raises cause address) z masked one two g = absurd cc
    with_asks a x d (Asks b y e) z masked one two g = asked a b x y d e z masked one two g
    with_asks a x d Stops z masked one two g = absurd cc
    with_asks a x d (Windowed step) z masked one two g = absurd cc

    pub outcome_plans : (o p : Outcome) (z : ℕ) → Fits i o → ((reply : ℕ) → AwaitsMask (written_mask i reply m s) reply o) → Sends z o → Sends z p → Same o p
        → Agrees (step_insn (outcome_turn o len s).kind (Fetches i len)) (outcome_turn o len s) (outcome_turn p len t)
    unfolding step_insn
    outcome_plans (Does a) p z f masked one two g = with_does a p g
    outcome_plans (Asks a x d) p z f masked one two g = with_asks a x d p z masked one two g
    outcome_plans (Raises cause address) p z f masked one two g = equal (Raises cause address) p g (raised cause address)
    outcome_plans Stops p z f masked one two g = equal Stops p g stopped
    outcome_plans (Windowed step) p z f masked one two g = equal (Windowed step) p g (windowed i (step_quiet i step f) len step)
