-- A nested step that moves no mark: both machines compute the same outcome.
use Rattle.std.proofs.Common.{◌≡◌, ◌⊎◌, ℕ, ◌<◌, ◌≢◌, Bool, true, false, ◌&&◌, not, cond, eqb, leb, List, Option, Some, None, sym, ap, ◌∙◌, refl, arith, inl, inr, ⊎_elim, subst, length, get_or}
use Rattle.std.specs.Prelude.{is_some}
use Rattle.std.proofs.lemmas.Bool.{cases_Bool, true≢false, both_ways, or_parts, or_right, and_cases, leb-false, eqb-false, not-false, false_from_ne_true, cond-true, cond-false}
use Rattle.std.proofs.lemmas.List.{length-set}
use Rattle.xt_isa.specs.declared.Insn.{Insn}
use Rattle.xt_isa.specs.declared.Insn.TheVariants as insn
use Rattle.xt_isa.specs.declared.control.Control.TheVariants as control
use Rattle.xt_isa.specs.declared.control.ReturnName.TheVariants as ReturnName
use Rattle.xt_isa.specs.declared.density.Density.TheVariants as density
use Rattle.xt_isa.specs.declared.density.BareName.TheVariants as BareName
use Rattle.xt_isa.specs.declared.system.System.TheVariants as system
use Rattle.xt_isa.specs.declared.system.ExceptionReturnName.TheVariants as ExceptionReturnName
use Rattle.xt_isa.specs.declared.system.SpecialName.TheVariants as SpecialName
use Rattle.xt_map.specs.declared.access.Access.{Access}
use Rattle.xt_map.specs.declared.contents.MemoryContents.{MemoryContents}
use Rattle.xt_special.specs.declared.ps.Ps.{Ps}
use Rattle.xt_special.specs.Control.{Control, special_of}
use Rattle.xt_special.specs.Timers.{after_tick}
use Rattle.xt_window.specs.Ring.{visible}
use Rattle.xt_trace.specs.declared.record.RegWrite.{RegWrite}
use Rattle.xt_trace.specs.declared.record.StepRecord.{StepRecord}
use Rattle.xt_rows.specs.declared.outcome.ReplyTarget.{ReplyTarget}
use Rattle.xt_rows.specs.declared.outcome.Effect.{Effect}
use Rattle.xt_rows.specs.declared.outcome.Outcome.{Outcome}
use Rattle.xt_rows.specs.declared.outcome.Outcome.TheVariants.{Does, Raises, Asks, Stops, Windowed}
use Rattle.xt_rows.specs.declared.outcome.WindowStep.TheVariants.{Enters, Returns, EndsOverflow, EndsUnderflow, Rotates, MovesStack, Reads, Sets, Exchanges}
use Rattle.xt_rows.specs.declared.outcome.WindowRegister.{WindowRegister}
use Rattle.xt_rows.specs.Effects.{illegal_instruction, no_change, window_register, writes_special, exchanges_special}
use Rattle.xt_rows.specs.Kinds.{is_saved, moved_to, sets_epc1, is_windowing, AllSpare, SetsOne, WritesNamed, Fits}
use Rattle.xt_rows.specs.RowLaws.{sets_mode, KeepsMode, AsksWith}
use Rattle.xt_rows.specs.Operands.{reads, special_reads, highest_register}
use Rattle.xt_rows.specs.Outcomes.{outcome, control_outcome, density_outcome, system_outcome, outcome_at}
use Rattle.xt_rows.specs.Settling.{Kind, Executed, Stopped, Settled, after_effect, after_outcome, write_with_reply}
use Rattle.xt_rows.proofs.Fitting.{outcome_fits, outcome_alone}
use Rattle.xt_rows.proofs.Modes.{modes_kept}
use Rattle.xt_map.specs.Code.{AreBytes}
use Rattle.xt_map.specs.Fetching.{Fetched, Fetches, Fails, SpellsNothing, fetch_at}
use Rattle.xt_exec.specs.State.{State}
use Rattle.xt_exec.specs.TurnLaws.{IsShaped}
use Rattle.xt_exec.specs.Turn.{planned_turn, turn, in_window, is_illegal, outcome_turn}
use Rattle.xt_frames.specs.declared.holes.Nested.{Nested}
use Rattle.xt_frames.specs.Frames.{FrameState, value_or_zero, seen_after_write}
use Rattle.xt_frames.specs.FrameStep.{FrameTurn, in_frame, exception_in_frame, entry_in_frame, return_in_frame, windowed_in_frame, done_in_frame, fetched_step, with_inputs, step_with_inputs}
use Rattle.xt_frames.specs.Marks.{are_own_marks, moves_marks, mark_read, marked_write, unset_by, unset_written}
use Rattle.xt_frames.specs.Nesting.{disturbs_nested, ends_nested, nested_view, with_kept_frame, nested_after, nested_fetched, nested_insn}
use Rattle.xt_frames.specs.Breaches.{Bounds, breach_of, breaks_nested, fetched_tests, insn_tests, is_exception, is_unset, lacks, loses_epc1, lost_of, names_high, other_tests, reads_epc1, reads_none_in, reads_unset, writes_sp}
use Rattle.xt_frames.specs.Judging.{step_on, value_in}
use Rattle.xt_frames.proofs.Inside.{step_inside}
use Rattle.xt_frames.proofs.Shown.{NoneShown, Sound, KeepsSp, keeps_sp, sound}
use Rattle.xt_frames.proofs.StackSteps.{step_fetches}
use Rattle.xt_simulation.specs.Relation.{Even, inputs}
use Rattle.xt_simulation.specs.Steps.{reply_now, record_now}
use Rattle.xt_simulation.specs.Nested.{IsInside, IsSpare, marked_value}
use Rattle.xt_simulation.proofs.Evenly.{effect_even, even_ticked, lost_in}
use Rattle.xt_simulation.proofs.Judged.{awaited_named}
use Rattle.xt_simulation.proofs.Judges.{record_reply}
use Rattle.xt_simulation.proofs.Turns.{quiet_nested, turn_does}
use Rattle.xt_simulation.proofs.Inner.{Ends, Inner, laid_excm, laid_quiet, laid_runs, laid_same, laid_tests}
use Rattle.xt_simulation.proofs.Laid.{even_laid, laid_other}
use Rattle.xt_simulation.proofs.Plans.{plan_access, plan_kind, plan_state, plan_write}
use Rattle.xt_simulation.proofs.Windowed.{some_value}
use Rattle.xt_simulation.proofs.InnerMarks.{marks_moved}
use Rattle.xt_simulation.proofs.InnerSteps.{Elsewhere, IsNarrow, ReadsNumber, after_write, all_spare, can_saved, effect_mode, effect_spares, same_moved, saved_left, ticked_saved, write_marks, write_numbers, write_others, write_size}
use Rattle.xt_simulation.proofs.Ordinary.{outcome_read, what_is_read, write_control, write_keeps}

-- ---- what the tests of a nested step deny
-- `u` is the step of the state inside
pub record Quiet (i : Insn) (x : Nested) (g : FrameState) (u : FrameTurn) : Type 0 where
  pub reads : cond (moves_marks i) false (not (ends_nested i) && reads_unset i g) ≡ false
  pub lost : reads_epc1 false i ≡ false
  pub epc1 : sets_epc1 i ≡ false
  pub disturbs : disturbs_nested i ≡ false
  pub kind : is_exception u.kind ≡ false
  -- RFI 5 looks at the marks
  pub own : ends_nested i ≡ true → are_own_marks x.marks ≡ true

unmarked_reads : (b c d : Bool) → cond b c d ≡ false → cond b false d ≡ false
unmarked_reads true c d e = refl
unmarked_reads false c d e = e

pub quiet_of : (b : Bounds) (live stale : ℕ → Bool) (i : Insn) (rec : StepRecord) (g : FrameState) (u : FrameTurn) (x : Nested) → g.nested ≡ Some x → Sound b false live stale i rec g u → Quiet i x g u
quiet_of b live stale i rec g u x is o =
    let reads : reads_none_in (Some x) i g ≡ false = subst (λ (n : Option Nested). reads_none_in n i g ≡ false) is o.unset in
    let lost : loses_epc1 (Some x) false i ≡ false = subst (λ (n : Option Nested). loses_epc1 n false i ≡ false) is o.lost in
    let breaks : breaks_nested (Some x) i u ≡ false = subst (λ (n : Option Nested). breaks_nested n i u ≡ false) is o.nested in
    let l = or_parts (reads_epc1 false i) (sets_epc1 i) lost in
    let n = or_parts (is_exception u.kind) _ breaks in
    let d = or_parts (disturbs_nested i) (ends_nested i && not (are_own_marks x.marks)) n.1 in
    record {
      reads = unmarked_reads (moves_marks i) _ _ reads;
      lost = l.0;
      epc1 = l.1;
      disturbs = d.0;
      kind = n.0;
      own = λ ends. not-false (are_own_marks x.marks) (ap (λ e. e && not (are_own_marks x.marks)) (sym ends) ∙ d.1);
    }

-- ---- the controls that a row leaves, where c is the processor's and d the frame machine's
abbrev pub unset_left : Insn → FrameState → Nested → List Bool
unset_left i f x = unset_written i x.marks f.unset

pub record Leaves (s : State) (f : FrameState) (x : Nested) (i : Insn) (c d : Control) : Type 0 where
  pub even : Even (lost_in false (unset_left i f x)) c d
  pub level : c.ps.intlevel ≡ s.control.ps.intlevel
  pub mode : c.ps.excm ≡ s.control.ps.excm
  pub running : c.waits ≡ false
  pub spared : (n : ℕ) → is_saved n ≡ true → Elsewhere (moved_to i) n → special_of c n ≡ special_of s.control n
  pub framed : Elsewhere (moved_to i) 177 → special_of d 177 ≡ special_of (with_inputs (inputs 0 s) (nested_view x f)).control 177

-- and the step of the state inside leaves this
abbrev pub left_turn : Insn → Nested → FrameState → FrameTurn → FrameTurn
left_turn i x f u = record u {
  after = record (with_kept_frame f u.after) { unset = unset_left i f x; nested = Some (nested_after i None x u) };
}

pub left_is : (i : Insn) (value : ℕ) (x : Nested) (f : FrameState) (u : FrameTurn) → ends_nested i ≡ false → mark_read i x.saved ≡ None → nested_insn i value x f u ≡ left_turn i x f u
left_is i value x f u goes_on none =
    cond-false (ends_nested i) _ _ goes_on
    ∙ ap (λ (mark : Option ℕ). (let v : FrameTurn = record u {
      write = marked_write mark value u.write;
      after = record (with_kept_frame f u.after) { unset = unset_left i f x; nested = Some (nested_after i mark x u) };
    } in v)) none

seen_size : (w : Option RegWrite) (seen : List (Option ℕ)) → length (seen_after_write w seen) ≡ length seen
seen_size None seen = refl
seen_size (Some w) seen = length-set seen w.reg (Some w.value)

module _ {suspended s : State} {f : FrameState} {x : Nested} (h : IsInside suspended s f x) where
  -- the frame machine's state before the step, over which the inputs are laid
  abbrev before : FrameState
  before = with_inputs (inputs 0 s) (nested_view x f)

  special_saved : (n k : ℕ) → get_or x.saved n None ≡ Some k → is_saved n ≡ true
  special_saved n k e = can_saved n (h.even.special.only n (or_right (lost_of false n) (get_or f.unset n false) (h.saved n k e).1))

  module _ (count : length s.regs ≡ 64) (wide : length x.marks ≡ 16) (i : Insn) (v : Settled) (reply : ℕ) (narrow : IsNarrow (write_with_reply v.write v.awaited reply)) (c : Control) (l : Leaves s f x i c v.control) (reads : ReadsNumber (moved_to i) x.marks) (epc : Elsewhere (moved_to i) 181) (eps : Elsewhere (moved_to i) 197) where
    pub left_inside : IsInside suspended (after_write (write_with_reply v.write v.awaited reply) c s) (left_turn i x f (in_frame v reply (with_inputs (inputs 0 s) (nested_view x f)))).after (nested_after i None x (in_frame v reply (with_inputs (inputs 0 s) (nested_view x f))))
    left_inside =
        let w : Option RegWrite = write_with_reply v.write v.awaited reply in
        let t : State = after_write w c s in
        let u : FrameTurn = in_frame v reply (with_inputs (inputs 0 s) (nested_view x f)) in
        let keeps = write_keeps w (record s { control = c }) in
        let is : t.control ≡ c = keeps.2 in
        let left : FrameState = nested_view (nested_after i None x u) (left_turn i x f u).after in
        let even : Even (lost_in false (unset_left i f x)) c left.control = record { pc = l.even.pc; ps = l.even.ps; threadptr = l.even.threadptr; waits = l.even.waits; special = l.even.special } in
        record {
          even = even_laid t left (subst (λ (q : Control). Even (lost_in false (unset_left i f x)) q left.control) (sym is) even);
          level = ap (λ (q : Control). q.ps.intlevel) is ∙ (l.level ∙ h.level);
          mode = ap (λ (q : Control). q.ps.excm) is ∙ (l.mode ∙ h.mode);
          running = ap (λ (q : Control). q.waits) is ∙ l.running;
          woe = h.woe;
          epc = ap (λ (q : Control). special_of q 181) is ∙ (l.spared 181 refl epc ∙ h.epc);
          eps = ap (λ (q : Control). special_of q 197) is ∙ (l.spared 197 refl eps ∙ h.eps);
          base = keeps.0 ∙ h.base;
          start = keeps.1 ∙ h.start;
          size = write_size c s w ∙ h.size;
          wide = seen_size w x.seen ∙ h.wide;
          others = λ p other. write_others c s w narrow p other ∙ h.others p (λ e. other (subst (λ (q : ℕ). IsSpare q p) (sym keeps.0) e));
          numbers = write_numbers c s w narrow count x.seen h.wide h.numbers;
          marks = write_marks c s w narrow (marked_value suspended) x.seen x.marks wide h.marks;
          saved = λ n k e.
              let q = saved_left (moved_to i) x.marks x.saved f.unset n k reads e in
              let was = h.saved n k q.0 in
              (ap (λ (q : Control). special_of q n) is ∙ (l.spared n (special_saved n k q.0) q.1 ∙ was.0), q.2 ∙ was.1);
        }

  -- ---- what an effect leaves, and BREAK
  module _ (i : Insn) (reads : ReadsNumber (moved_to i) x.marks) where
    pub effect_leaves : (e : Effect) (len : ℕ) → ((n : ℕ) → is_saved n ≡ true → SetsOne (moved_to i) n e.sets) → e.ps.intlevel ≡ s.control.ps.intlevel → e.ps.excm ≡ s.control.ps.excm → e.waits ≡ false
        → Leaves s f x i (after_tick (after_effect e len s.control)) (after_tick (after_effect e len (with_inputs (inputs 0 s) (nested_view x f)).control))
    effect_leaves e len sets level mode running =
        let c : Control = s.control in
        let d : Control = (with_inputs (inputs 0 s) (nested_view x f)).control in
        let m = effect_mode e len c in
        record {
          even = even_ticked (after_effect e len c) (after_effect e len d) (effect_even e len c d h.even.pc (same_moved (moved_to i) e.sets x.marks f.unset h.even.special reads sets));
          level = ap (λ (p : Ps). p.intlevel) m.0 ∙ level;
          mode = ap (λ (p : Ps). p.excm) m.0 ∙ mode;
          running = m.1 ∙ running;
          spared = λ n is other. ticked_saved (after_effect e len c) n is ∙ effect_spares e len c n is (all_spare (moved_to i) n e.sets (sets n is) other);
          framed = λ other. ticked_saved (after_effect e len d) 177 refl ∙ effect_spares e len d 177 refl (all_spare (moved_to i) 177 e.sets (sets 177 refl) other);
        }

    pub stops_leaves : moved_to i ≡ None → Leaves s f x i (after_tick s.control) (after_tick (with_inputs (inputs 0 s) (nested_view x f)).control)
    stops_leaves none =
        let c : Control = s.control in
        let d : Control = (with_inputs (inputs 0 s) (nested_view x f)).control in
        record {
          even = subst (λ (o : Option (ℕ × ℕ)). Even (lost_in false (unset_by o x.marks f.unset)) (after_tick c) (after_tick d)) (sym none) (even_ticked c d h.even);
          level = refl;
          mode = refl;
          running = h.running;
          spared = λ n is other. ticked_saved c n is;
          framed = λ other. ticked_saved d 177 refl;
        }

-- ---- the register that is written
names_low : (i : Insn) (g : FrameState) → g.control.ps.excm ≡ true → names_high i g ≡ false → highest_register i < 4
names_low i g e high =
    ⊎_elim
    (λ low. absurd (both_ways _ low e))
    (λ low. leb-false 4 (highest_register i) low)
    (and_cases g.control.ps.excm (leb 4 (highest_register i)) high)

narrow_write : (i : Insn) (w : Option RegWrite) → highest_register i < 4 → WritesNamed i w → KeepsSp w → IsNarrow w
narrow_write i None low within keeps = tt
narrow_write i (Some w) low within keeps = (omega arith, keeps)

-- ---- what the instruction reads
none_from : (o : Option ℕ) → ((k : ℕ) → o ≡ Some k → ⊥) → o ≡ None
none_from None h = refl
none_from (Some k) h = absurd (h k refl)

module _ {suspended s : State} {f : FrameState} {x : Nested} (h : IsInside suspended s f x) where
  no_mark_at : (t : ℕ) → lacks x.seen (Some t) ≡ false → get_or x.marks t None ≡ None
  no_mark_at t e =
      let v = some_value (get_or x.seen t None) e in
      none_from (get_or x.marks t None) (λ k m. let none = (h.marks t k m).1 in let bad : None ≡ Some v.0 = sym none ∙ v.1 in cc)

  no_saved_at : (n : ℕ) → is_unset f.unset (Some n) ≡ false → get_or x.saved n None ≡ None
  no_saved_at n e = none_from (get_or x.saved n None) (λ k m. both_ways _ e (h.saved n k m).1)

  reads_number : (i : Insn) → lacks x.seen (reads i).0 ≡ false → ReadsNumber (moved_to i) x.marks
  unfolding moved_to reads
  reads_number (insn.System (system.Special SpecialName.Wsr t n)) e = no_mark_at t e
  reads_number (insn.System (system.Special SpecialName.Xsr t n)) e = no_mark_at t e
  reads_number _ e = tt

  reads_saved : (i : Insn) → is_unset f.unset (special_reads i).0 ≡ false → mark_read i x.saved ≡ None
  unfolding mark_read special_reads
  reads_saved (insn.System (system.Special SpecialName.Rsr t n)) e = no_saved_at n e
  reads_saved (insn.System (system.Special SpecialName.Xsr t n)) e = no_saved_at n e
  reads_saved _ e = refl

  pub record Read (i : Insn) : Type 0 where
    pub number : ReadsNumber (moved_to i) x.marks
    pub mark : mark_read i x.saved ≡ None
    pub outcome : (code : ℕ → ℕ) → outcome_at code i (visible s.regs s.base) s.control ≡ outcome_at code i (value_or_zero x.seen) (with_inputs (inputs 0 s) (nested_view x f)).control

  pub read_by : (i : Insn) → reads_unset i (with_inputs (inputs 0 s) (nested_view x f)) ≡ false → reads_epc1 false i ≡ false → Read i
  read_by i unset none =
      let g : FrameState = with_inputs (inputs 0 s) (nested_view x f) in
      let r = what_is_read false i g unset none in
      record {
        number = reads_number i r.first;
        mark = reads_saved i r.special;
        outcome = λ code. outcome_read false s g h.even h.numbers code i r;
      }

-- ---- what kind of instruction it is

kept_elsewhere : (i : Insn) → disturbs_nested i ≡ false → Elsewhere (moved_to i) 181 × Elsewhere (moved_to i) 197
unfolding disturbs_nested moved_to
kept_elsewhere (insn.System (system.Special SpecialName.Wsr t n)) e = let p = or_parts (eqb n 181) (eqb n 197) (or_parts (eqb n 230) _ e).1 in (eqb-false n 181 p.0, eqb-false n 197 p.1)
kept_elsewhere (insn.System (system.Special SpecialName.Xsr t n)) e = let p = or_parts (eqb n 181) (eqb n 197) (or_parts (eqb n 230) _ e).1 in (eqb-false n 181 p.0, eqb-false n 197 p.1)
kept_elsewhere _ e = (tt, tt)

epc1_elsewhere : (i : Insn) → sets_epc1 i ≡ false → Elsewhere (moved_to i) 177
unfolding sets_epc1 moved_to
epc1_elsewhere (insn.System (system.Special SpecialName.Wsr t n)) e = eqb-false n 177 e
epc1_elsewhere (insn.System (system.Special SpecialName.Xsr t n)) e = eqb-false n 177 e
epc1_elsewhere _ e = tt

quiet_mode : (i : Insn) → disturbs_nested i ≡ false → ends_nested i ≡ false → is_windowing i ≡ false → sets_mode i ≡ false
unfolding disturbs_nested ends_nested is_windowing sets_mode
quiet_mode (insn.System (system.Special SpecialName.Wsr t n)) d e w = (or_parts (eqb n 230) _ d).0
quiet_mode (insn.System (system.Special SpecialName.Xsr t n)) d e w = (or_parts (eqb n 230) _ d).0
quiet_mode (insn.System (system.Level name t level)) d e w = absurd (true≢false d)
quiet_mode (insn.System (system.ExceptionReturn ExceptionReturnName.Rfe)) d e w = absurd (true≢false d)
quiet_mode (insn.System (system.ExceptionReturn ExceptionReturnName.Rfde)) d e w = absurd (true≢false d)
quiet_mode (insn.System (system.ExceptionReturn ExceptionReturnName.Rfwo)) d e w = absurd (true≢false w)
quiet_mode (insn.System (system.ExceptionReturn ExceptionReturnName.Rfwu)) d e w = absurd (true≢false w)
quiet_mode (insn.System (system.Rfi level)) d e w = absurd (both_ways _ e (not-false _ d))
quiet_mode _ d e w = refl

-- a row of WSR or XSR is no stop
writes_on : (w : Option WindowRegister) (n x v : ℕ) (e : Effect) → writes_special w n x v e ≢ Stops
writes_on None n x v e q = cc
writes_on (Some w) n x v e q = cc

exchanges_on : (w : Option WindowRegister) (t n x u v : ℕ) (e : Effect) → exchanges_special w t n x u v e ≢ Stops
exchanges_on None t n x u v e q = cc
exchanges_on (Some w) t n x u v e q = cc

pub stops_move_none : (code : ℕ → ℕ) (i : Insn) (pc x y u v : ℕ) (ps : Ps) (threadptr : ℕ) → outcome code i pc x y u v ps threadptr ≡ Stops → moved_to i ≡ None
unfolding outcome system_outcome moved_to
stops_move_none code (insn.System (system.Special SpecialName.Wsr t n)) pc x y u v ps threadptr is = absurd (writes_on (window_register n) n x v (no_change ps threadptr) is)
stops_move_none code (insn.System (system.Special SpecialName.Xsr t n)) pc x y u v ps threadptr is = absurd (exchanges_on (window_register n) t n x u v (no_change ps threadptr) is)
stops_move_none code _ pc x y u v ps threadptr is = refl

-- ---- ENTRY and RETW are illegal in exception mode
entry_raises : (number value len reply : ℕ) (g : FrameState) → g.control.ps.excm ≡ true → is_exception (windowed_in_frame (Enters number value) len reply g).kind ≡ true
entry_raises number value len reply g e = ap (λ (u : FrameTurn). is_exception u.kind) (cond-true g.control.ps.excm (exception_in_frame illegal_instruction None g) (entry_in_frame number value len g) e)

return_raises : (a0 len reply : ℕ) (g : FrameState) → g.control.ps.excm ≡ true → is_exception (windowed_in_frame (Returns a0) len reply g).kind ≡ true
return_raises a0 len reply g e = ap (λ (u : FrameTurn). is_exception u.kind) (cond-true g.control.ps.excm (exception_in_frame illegal_instruction None g) (return_in_frame a0 g) e)

illegal_raises : (code : ℕ → ℕ) (i : Insn) (len reply : ℕ) (s : State) (g : FrameState) → g.control.ps.excm ≡ true → is_illegal i s ≡ true → is_exception (fetched_step (Fetches i len) code reply g).kind ≡ true
unfolding is_illegal outcome control_outcome density_outcome
illegal_raises code (insn.Control (control.Entry number size)) len reply s g e bad = entry_raises _ _ len reply g e
illegal_raises code (insn.Control (control.Return ReturnName.Retw)) len reply s g e bad = return_raises _ len reply g e
illegal_raises code (insn.Density (density.Bare BareName.Retw)) len reply s g e bad = return_raises _ len reply g e
illegal_raises code _ len reply s g e bad = absurd (true≢false (sym bad))

-- ---- a step of one core, where f has the nested interrupt x
module _ (code : ℕ → ℕ) (b : Bounds) (m : MemoryContents) (s : State) (f : FrameState) (suspended : State) (live stale : ℕ → Bool) (x : Nested) (h : IsInside suspended s f x) (shaped : IsShaped s) (wide : length x.marks ≡ 16) (i : Insn) (len : ℕ) where
  framed_epc1 : special_of (with_inputs (inputs 0 s) (nested_view x f)).control 177 ≡ special_of f.control 177
  framed_epc1 = laid_other f.control.special (special_of s.control 234) (special_of s.control 226) 177 (λ e. omega (arith, e)) (λ e. omega (arith, e))

  left_inner : (k : Kind) (write : Option RegWrite) (access : Option Access) (awaited : Option ReplyTarget) (c d : Control)
      → let t : Settled = record { kind = k; write = write; access = access; awaited = awaited; control = c } in
      let v : Settled = record { kind = k; write = write; access = access; awaited = awaited; control = d } in
      planned_turn code s ≡ in_window t s → IsNarrow (write_with_reply write awaited (reply_now code m s)) → Leaves s f x i c d → ReadsNumber (moved_to i) x.marks → Elsewhere (moved_to i) 181 → Elsewhere (moved_to i) 197 → Elsewhere (moved_to i) 177
      → special_of d 231 ≡ b.vecbase
      → Inner code b m s f suspended (left_turn i x f (in_frame v (reply_now code m s) (with_inputs (inputs 0 s) (nested_view x f))))
  left_inner k write access awaited c d is narrow l reads epc eps epc1 vectors =
      let t : Settled = record { kind = k; write = write; access = access; awaited = awaited; control = c } in
      let v : Settled = record { kind = k; write = write; access = access; awaited = awaited; control = d } in
      let reply : ℕ = reply_now code m s in
      let u : FrameTurn = in_frame v reply (with_inputs (inputs 0 s) (nested_view x f)) in
      let w : Option RegWrite = write_with_reply write awaited reply in
      let now : (turn code s reply).1 ≡ after_write w c s = plan_state code s (in_window t s) is reply in
      record {
        x = nested_after i None x u;
        nested = refl;
        inside = subst (λ (z : State). IsInside suspended z (left_turn i x f u).after (nested_after i None x u)) (sym now) (left_inside h shaped.count wide i v reply narrow c l reads epc eps);
        epc1 = ap (λ (z : State). special_of z.control 177) now ∙ (ap (λ (q : Control). special_of q 177) (write_control w (record s { control = c })) ∙ l.spared 177 refl epc1);
        framed_epc1 = l.framed epc1 ∙ framed_epc1;
        vectors = vectors;
        seen = refl;
        frames = refl;
        pc = refl;
        ps = refl;
        kind = plan_kind code s (in_window t s) is reply;
        write = plan_write code s (in_window t s) is reply;
        access = plan_access code s (in_window t s) is reply;
      }

  -- what is known of its row
  module _ (u : FrameTurn) (o : Sound b false live stale i (record_now code m s) (with_inputs (inputs 0 s) (nested_view x f)) u) (q : Quiet i x (with_inputs (inputs 0 s) (nested_view x f)) u) (r : Read h i) (goes_on : ends_nested i ≡ false) where
    does_inner : (e : Effect) → outcome_at code i (visible s.regs s.base) s.control ≡ Does e → Fits i (Does e) → planned_turn code s ≡ outcome_turn (Does e) len s → writes_sp i (record_now code m s).write e.write ≡ false
        → special_of (after_outcome (Does e) len (with_inputs (inputs 0 s) (nested_view x f)).control).control 231 ≡ b.vecbase
        → Inner code b m s f suspended (left_turn i x f (done_in_frame (Does e) len (reply_now code m s) (with_inputs (inputs 0 s) (nested_view x f))))
    does_inner e same fit is sp vectors =
        let mode : KeepsMode (no_change s.control.ps s.control.threadptr) (Does e) = subst (KeepsMode (no_change s.control.ps s.control.threadptr)) same (modes_kept code i s.control.pc _ _ _ _ s.control.ps s.control.threadptr (quiet_mode i q.disturbs goes_on o.windowing)) in
        let other = kept_elsewhere i q.disturbs in
        left_inner Executed e.write None None _ _ is
        (narrow_write i e.write (names_low i (with_inputs (inputs 0 s) (nested_view x f)) (laid_excm h) o.high) fit.0 (keeps_sp i (record_now code m s).write e.write fit.2 o.movsp sp))
        (effect_leaves h i r.number e len fit.1 mode.0 mode.1 mode.2)
        r.number other.0 other.1 (epc1_elsewhere i q.epc1) vectors

    asks_inner : (access : Access) (awaited : Option ReplyTarget) (e : Effect) → outcome_at code i (visible s.regs s.base) s.control ≡ Asks access awaited e → Fits i (Asks access awaited e) → planned_turn code s ≡ outcome_turn (Asks access awaited e) len s → writes_sp i (record_now code m s).write (write_with_reply None awaited (reply_now code m s)) ≡ false
        → special_of (after_outcome (Asks access awaited e) len (with_inputs (inputs 0 s) (nested_view x f)).control).control 231 ≡ b.vecbase
        → Inner code b m s f suspended (left_turn i x f (done_in_frame (Asks access awaited e) len (reply_now code m s) (with_inputs (inputs 0 s) (nested_view x f))))
    asks_inner access awaited e same fit is sp vectors =
        let alone : e ≡ no_change s.control.ps s.control.threadptr = subst (AsksWith (no_change s.control.ps s.control.threadptr)) same (outcome_alone code i s.control.pc _ _ _ _ s.control.ps s.control.threadptr) in
        let other = kept_elsewhere i q.disturbs in
        let sets : (n : ℕ) → is_saved n ≡ true → SetsOne (moved_to i) n e.sets = λ n h. subst (λ (o : Option (ℕ × ℕ)). SetsOne o n e.sets) (sym fit.1) (subst (λ (z : Effect). AllSpare n z.sets) (sym alone) (tt, tt, tt)) in
        left_inner Executed None (Some access) awaited _ _ is
        (narrow_write i (write_with_reply None awaited (reply_now code m s)) (names_low i (with_inputs (inputs 0 s) (nested_view x f)) (laid_excm h) o.high) (awaited_named i awaited (reply_now code m s) fit.0) (keeps_sp i (record_now code m s).write (write_with_reply None awaited (reply_now code m s)) fit.2 o.movsp sp))
        (effect_leaves h i r.number e len sets (ap (λ (z : Effect). z.ps.intlevel) alone) (ap (λ (z : Effect). z.ps.excm) alone) (ap (λ (z : Effect). z.waits) alone))
        r.number other.0 other.1 (epc1_elsewhere i q.epc1) vectors

    stops_inner : outcome_at code i (visible s.regs s.base) s.control ≡ Stops → planned_turn code s ≡ outcome_turn Stops len s
        → special_of (after_tick (with_inputs (inputs 0 s) (nested_view x f)).control) 231 ≡ b.vecbase
        → Inner code b m s f suspended (left_turn i x f (done_in_frame Stops len (reply_now code m s) (with_inputs (inputs 0 s) (nested_view x f))))
    stops_inner same is vectors =
        let other = kept_elsewhere i q.disturbs in
        left_inner Stopped None None None _ _ is tt
        (stops_leaves h i r.number (stops_move_none code i s.control.pc _ _ _ _ s.control.ps s.control.threadptr same))
        r.number other.0 other.1 (epc1_elsewhere i q.epc1) vectors

    row_inner : (y : Outcome) → outcome_at code i (visible s.regs s.base) s.control ≡ y → Fits i y → planned_turn code s ≡ outcome_turn y len s
        → let g : FrameState = with_inputs (inputs 0 s) (nested_view x f) in
        let v : FrameTurn = done_in_frame y len (reply_now code m s) g in
        is_exception v.kind ≡ false → writes_sp i (record_now code m s).write v.write ≡ false → special_of v.after.control 231 ≡ b.vecbase
        → Inner code b m s f suspended (left_turn i x f v)
    row_inner (Does e) same fit is kind sp vectors = does_inner e same fit is sp vectors
    row_inner (Raises cause addr) same fit is kind sp vectors = absurd (true≢false kind)
    row_inner (Asks access awaited e) same fit is kind sp vectors = asks_inner access awaited e same fit is sp vectors
    row_inner Stops same fit is kind sp vectors = stops_inner same is vectors
    row_inner (Windowed (Enters number value)) same fit is kind sp vectors = absurd (both_ways _ kind (entry_raises number value len (reply_now code m s) (with_inputs (inputs 0 s) (nested_view x f)) (laid_excm h)))
    row_inner (Windowed (Returns a0)) same fit is kind sp vectors = absurd (both_ways _ kind (return_raises a0 len (reply_now code m s) (with_inputs (inputs 0 s) (nested_view x f)) (laid_excm h)))
    row_inner (Windowed (EndsOverflow epc1)) same fit is kind sp vectors = absurd (both_ways _ o.windowing fit)
    row_inner (Windowed (EndsUnderflow epc1)) same fit is kind sp vectors = absurd (both_ways _ o.windowing fit)
    row_inner (Windowed (Rotates n)) same fit is kind sp vectors = absurd (both_ways _ o.windowing fit)
    row_inner (Windowed (MovesStack number value)) same fit is kind sp vectors = absurd (both_ways _ o.movsp fit)
    row_inner (Windowed (Reads register number)) same fit is kind sp vectors = absurd (both_ways _ o.window_register fit)
    row_inner (Windowed (Sets register value)) same fit is kind sp vectors = absurd (both_ways _ o.window_register fit)
    row_inner (Windowed (Exchanges register number value)) same fit is kind sp vectors = absurd (both_ways _ o.window_register fit)

  -- an instruction that moves no mark
  pub unmarked_inner : (value : ℕ) → let g : FrameState = with_inputs (inputs 0 s) (nested_view x f) in
      let u : FrameTurn = fetched_step (Fetches i len) code (reply_now code m s) g in
      Sound b false live stale i (record_now code m s) g u → f.nested ≡ Some x → moves_marks i ≡ false → ends_nested i ≡ false
      → planned_turn code s ≡ outcome_turn (outcome_at code i (visible s.regs s.base) s.control) len s
      → Inner code b m s f suspended (nested_insn i value x f u)
  unmarked_inner value o nested unmoved goes_on is =
      let g : FrameState = with_inputs (inputs 0 s) (nested_view x f) in
      let reply : ℕ = reply_now code m s in
      let u : FrameTurn = fetched_step (Fetches i len) code reply g in
      let q = quiet_of b live stale i (record_now code m s) g u x nested o in
      let unset : (not (ends_nested i) && reads_unset i g) ≡ false = sym (cond-false (moves_marks i) false (not (ends_nested i) && reads_unset i g) unmoved) ∙ q.reads in
      let reads : reads_unset i g ≡ false = ⊎_elim (λ bad. absurd (both_ways _ goes_on (not-false _ bad))) (λ e. e) (and_cases (not (ends_nested i)) (reads_unset i g) unset) in
      let r = read_by h i reads q.lost in
      let same = r.outcome code in
      let P : Outcome → Type 0 = λ y. (let v : FrameTurn = done_in_frame y len reply g in is_exception v.kind ≡ false → writes_sp i (record_now code m s).write v.write ≡ false → special_of v.after.control 231 ≡ b.vecbase → Inner code b m s f suspended (left_turn i x f v)) in
      let inner : P (outcome_at code i (value_or_zero x.seen) g.control) = subst P same (row_inner u o q r goes_on (outcome_at code i (visible s.regs s.base) s.control) refl (outcome_fits code i s.control.pc _ _ _ _ s.control.ps s.control.threadptr) is) in
      subst (λ (z : FrameTurn). Inner code b m s f suspended z) (sym (left_is i value x f u goes_on r.mark)) (inner q.kind o.written o.vectors)

-- ---- RFI 5, or another
-- a step that fetches no instruction is a breach
other_breaks : (b : Bounds) (live stale : ℕ → Bool) (rec : StepRecord) (g : FrameState) (u : FrameTurn) (x : Nested) → g.nested ≡ Some x → NoneShown (other_tests b live stale rec g u) → ⊥
other_breaks b live stale rec g u x is (saves, (loads, (woe, (vectors, (vector, (nested, more)))))) = both_ways (is_some g.nested) nested (ap (λ (o : Option Nested). is_some o) is)

module _ (code : ℕ → ℕ) (b : Bounds) (m : MemoryContents) (s : State) (f : FrameState) (suspended : State) (live stale : ℕ → Bool) (x : Nested) (nested : f.nested ≡ Some x) (h : IsInside suspended s f x) (shaped : IsShaped s) (all : length f.unset ≡ 256) (wide : length x.marks ≡ 16) where
  abbrev Next : FrameTurn → Type 0
  Next u = Ends code s x ⊎ Inner code b m s f suspended u

  insn_next : (i : Insn) (len : ℕ) → fetch_at code s.control.pc ≡ Fetches i len
      → let g : FrameState = with_inputs (inputs 0 s) (nested_view x f) in
      let u : FrameTurn = fetched_step (Fetches i len) code (reply_now code m s) g in
      NoneShown (insn_tests b false live stale i (record_now code m s) g u) → Next (nested_insn i (value_in (record_now code m s).write) x f u)
  insn_next i len at none =
      let g : FrameState = with_inputs (inputs 0 s) (nested_view x f) in
      let u : FrameTurn = fetched_step (Fetches i len) code (reply_now code m s) g in
      let o = sound b false live stale i (record_now code m s) g u none in
      let q = quiet_of b live stale i (record_now code m s) g u x nested o in
      let mode : g.control.ps.excm ≡ true = laid_excm h in
      let legal : is_illegal i s ≡ false = false_from_ne_true (is_illegal i s) (λ bad. both_ways _ q.kind (illegal_raises code i len (reply_now code m s) s g mode bad)) in
      let plan = turn_does code s h.mode (quiet_nested s.control h.level) h.running i len at legal in
      ⊎_elim
      (λ ends. inl (record { i = i; len = len; at = at; ends = ends; own = q.own ends }))
      (λ goes_on. ⊎_elim
      (λ moved. inr (marks_moved code b m s f suspended live stale x i len nested h shaped all wide at moved plan o))
      (λ unmoved. inr (unmarked_inner code b m s f suspended live stale x h shaped wide i len (value_in (record_now code m s).write) o nested unmoved goes_on plan))
      (cases_Bool (moves_marks i)))
      (cases_Bool (ends_nested i))

  fetched_next : (at : Fetched) → fetch_at code s.control.pc ≡ at
      → let g : FrameState = with_inputs (inputs 0 s) (nested_view x f) in
      let u : FrameTurn = fetched_step at code (reply_now code m s) g in
      NoneShown (fetched_tests b false live stale at (record_now code m s) g u) → Next (nested_fetched at (value_in (record_now code m s).write) x f u)
  fetched_next (Fails address) at none = absurd (other_breaks b live stale (record_now code m s) (with_inputs (inputs 0 s) (nested_view x f)) (fetched_step (Fails address) code (reply_now code m s) (with_inputs (inputs 0 s) (nested_view x f))) x nested none)
  fetched_next SpellsNothing at none = absurd (other_breaks b live stale (record_now code m s) (with_inputs (inputs 0 s) (nested_view x f)) (fetched_step SpellsNothing code (reply_now code m s) (with_inputs (inputs 0 s) (nested_view x f))) x nested none)
  fetched_next (Fetches i len) at none = insn_next i len at none

  next_step : breach_of b false code live stale true (record_now code m s) f ≡ None → Next (step_on code true (record_now code m s) f)
  next_step none =
      let rec : StepRecord = record_now code m s in
      let reply : ℕ = reply_now code m s in
      let g : FrameState = with_inputs (inputs 0 s) (nested_view x f) in
      let value : ℕ = value_in rec.write in
      let at : Fetched = fetch_at code s.control.pc in
      let same = laid_same h code m shaped in
      let here : step_with_inputs code rec.reply g ≡ fetched_step at code reply g =
      ap (λ y. step_with_inputs code y g) (record_reply code m s) ∙ (step_fetches code reply g (laid_quiet h) (laid_runs h) ∙ ap (λ p. fetched_step (fetch_at code p) code reply g) (sym h.even.pc)) in
      let at_pc : NoneShown (fetched_tests b false live stale at rec g (step_with_inputs code rec.reply g)) =
      subst (λ p. NoneShown (fetched_tests b false live stale (fetch_at code p) rec g (step_with_inputs code rec.reply g))) (sym h.even.pc) (laid_tests h code b m live stale nested shaped none) in
      let tests : NoneShown (fetched_tests b false live stale at rec g (fetched_step at code reply g)) =
      subst (λ (v : FrameTurn). NoneShown (fetched_tests b false live stale at rec g v)) here at_pc in
      let step : step_on code true rec f ≡ nested_fetched at value x f (fetched_step at code reply g) =
      step_inside code true rec f x nested
      ∙ (ap (λ (y : FrameState). nested_fetched (fetch_at code y.control.pc) value x f (step_with_inputs code rec.reply y)) same
      ∙ (ap (λ p. nested_fetched (fetch_at code p) value x f (step_with_inputs code rec.reply g)) (sym h.even.pc)
      ∙ ap (λ (v : FrameTurn). nested_fetched at value x f v) here)) in
      subst Next (sym step) (fetched_next at refl tests)

-- a step of a nested interrupt that shows no breach is RFI 5, or goes on in it
pub inner_step :
    (code : ℕ → ℕ) → AreBytes code
    → (b : Bounds) (m : MemoryContents) (s : State) (f : FrameState) (suspended : State) (live stale : ℕ → Bool) (x : Nested)
    → f.nested ≡ Some x → IsInside suspended s f x → IsShaped s → length f.unset ≡ 256 → length x.marks ≡ 16
    → breach_of b false code live stale true (record_now code m s) f ≡ None
    → let u : FrameTurn = step_on code true (record_now code m s) f in
    Ends code s x ⊎ Inner code b m s f suspended u
inner_step code bytes b m s f suspended live stale x nested h shaped all wide none = next_step code b m s f suspended live stale x nested h shaped all wide none
