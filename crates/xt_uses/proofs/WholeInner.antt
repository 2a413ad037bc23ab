-- A step in a nested interrupt that shows no breach of the stack discipline.
use Rattle.std.proofs.Common.{◌≡◌, ℕ, zero, suc, ℤ, Bool, true, false, not, cond, eqb, ltb, ◌&&◌, ◌||◌, List, [], ◌∷◌, Option, Some, None, get_or, refl, sym, ap, ◌∙◌, ⊎_elim, subst}
use Rattle.std.proofs.Math.ListN.{set}
use Rattle.std.specs.Prelude.{bit_and, is_some, max}
use Rattle.std.proofs.lemmas.Bool.{and_parts, and_right, both_ways, cases_Bool, cond-false, cond-true, cond_both, eq-eqb, not-false, not_from_true, or_parts, or_right}
use Rattle.std.proofs.lemmas.Option.{none-some}
use Rattle.xt_isa.specs.declared.Insn.{Insn}
use Rattle.xt_isa.specs.declared.Insn.TheVariants as insn
use Rattle.xt_isa.specs.declared.system.System.TheVariants as system
use Rattle.xt_isa.specs.declared.system.ExceptionReturnName.TheVariants as ExceptionReturnName
use Rattle.xt_isa.specs.declared.system.SpecialName.{SpecialName}
use Rattle.xt_map.specs.declared.access.Access.{Access}
use Rattle.xt_special.specs.declared.ps.Ps.{Ps}
use Rattle.xt_special.specs.Control.{Control, special_of}
use Rattle.xt_special.specs.Interrupts.{current_level, level_1_bits, level_3_bits, level_5_bits, pending_level, pending_of}
use Rattle.xt_special.specs.Access.{with_sets}
use Rattle.xt_special.specs.Looping.{loops_back}
use Rattle.xt_trace.specs.declared.record.RegWrite.{RegWrite}
use Rattle.xt_trace.specs.declared.record.StepKind.TheVariants as kind
use Rattle.xt_trace.specs.declared.record.StepRecord.{StepRecord}
use Rattle.xt_map.specs.Fetching.{Fetched, Fetches, Fails, SpellsNothing, fetch_at}
use Rattle.xt_rows.specs.declared.outcome.Effect.{Effect}
use Rattle.xt_rows.specs.declared.outcome.Flow.{Flow}
use Rattle.xt_rows.specs.declared.outcome.Flow.TheVariants.{Falls, Goes}
use Rattle.xt_rows.specs.declared.outcome.Outcome.{Outcome}
use Rattle.xt_rows.specs.declared.outcome.Outcome.TheVariants.{Does, Raises, Asks, Stops, Windowed}
use Rattle.xt_rows.specs.declared.outcome.WindowRegister.{WindowRegister}
use Rattle.xt_rows.specs.declared.outcome.WindowStep.TheVariants.{Enters, Returns, EndsOverflow, EndsUnderflow, Rotates, MovesStack, Reads, Sets, Exchanges}
use Rattle.xt_rows.specs.Effects.{illegal_instruction, no_change, window_register, reads_special, writes_special, exchanges_special}
use Rattle.xt_rows.specs.Kinds.{Fits, is_entry, is_return, is_windowing, moved_to}
use Rattle.xt_rows.specs.RowLaws.{AsksWith, KeepsMode, sets_mode}
use Rattle.xt_rows.specs.Numbers.{natural}
use Rattle.xt_rows.specs.Operands.{reads, special_reads}
use Rattle.xt_rows.specs.Outcomes.{outcome, system_outcome, outcome_at}
use Rattle.xt_rows.specs.Settling.{after_effect, after_flow}
use Rattle.xt_rows.proofs.Fitting.{outcome_alone, outcome_fits}
use Rattle.xt_rows.proofs.Modes.{modes_kept}
use Rattle.xt_frames.specs.declared.holes.Nested.{Nested}
use Rattle.xt_frames.specs.Frames.{Frame, FrameState, value_or_zero, seen_after_write}
use Rattle.xt_frames.specs.FrameStep.{FrameTurn, Inputs, done_in_frame, fetched_step, with_inputs, step_with_inputs, return_in_frame, entry_in_frame, exception_in_frame}
use Rattle.xt_frames.specs.Marks.{holds_marks, mark_read, marked_seen, marked_write, marks_after, moves_marks, saved_by, unset_by}
use Rattle.xt_frames.specs.Nesting.{disturbs_nested, ends_nested, nested_view, with_kept_frame, nested_after, nested_fetched}
use Rattle.xt_frames.specs.Breaches.{Bounds, fetched_tests, is_exception, is_unset, lacks, laid_breach, loads_stale, reads_no_mark, reads_unset, touches_save_area}
use Rattle.xt_frames.proofs.Shown.{NoneShown, Sound, sound}
use Rattle.xt_frames.proofs.StackSteps.{step_fetches}
use Rattle.xt_uses.specs.Disciplines.{Lenient}
use Rattle.xt_uses.specs.Words.{Word, all_bits, mask_where}
use Rattle.xt_uses.specs.Used.{counted_bits}
use Rattle.xt_uses.specs.Known.{result_mask, system_mask}
use Rattle.xt_uses.specs.UseState.{ValidityBits, UseState, first_word, second_word, special_mask, special_operand}
use Rattle.xt_uses.specs.UseStep.{bits_after_call, cut_number, cut_seen, cut_state, step_insn, frames_moved, masks_past, pointer_written, bits_after_return, special_written, use_turn, visible_written}
use Rattle.xt_uses.specs.UseLaws.{number_mask}
use Rattle.xt_uses.proofs.WholeLists.{AreWords, InnerAreWords, mask_at, set_again}
use Rattle.xt_uses.proofs.WholePlain.{no_return, tests_shown}
use Rattle.xt_uses.proofs.WholeStates.{IsMovedMark, Whole, inner_place, inner_special, inner_visible, left_mask, whole_ended, whole_pointer}
use Rattle.xt_uses.proofs.WholeSteps.{Steps, mask_all, operands_whole, other_steps, uncut_seen}

-- ---- kinds of rows
first_of : Option (ℕ × ℕ) → Option ℕ
first_of None = None
first_of (Some p) = Some p.0

pub reads_moved : (i : Insn) (p : ℕ × ℕ) → moved_to i ≡ Some p → (reads i).0 ≡ Some p.0
unfolding moved_to reads first_of
reads_moved (insn.System (system.Special SpecialName.Wsr t n)) p e = ap first_of e
reads_moved (insn.System (system.Special SpecialName.Xsr t n)) p e = ap first_of e
reads_moved _ p e = absurd cc

pub record IsMoving (i : Insn) : Type 0 where
  pub name : SpecialName
  pub t : ℕ
  pub n : ℕ
  pub is : i ≡ insn.System (system.Special name t n)
  pub holds : holds_marks n ≡ true

pub is_moving : (i : Insn) → moves_marks i ≡ true → IsMoving i
unfolding moves_marks
is_moving (insn.System (system.Special name t n)) e = record { name = name; t = t; n = n; is = refl; holds = (and_parts (ltb t 4) (holds_marks n) e).1 }
is_moving _ e = absurd cc

pub record IsEnding (i : Insn) : Type 0 where
  pub level : ℤ
  pub is : i ≡ insn.System (system.Rfi level)

pub is_ending : (i : Insn) → ends_nested i ≡ true → IsEnding i
unfolding ends_nested
is_ending (insn.System (system.Rfi level)) e = record { level = level; is = refl }
is_ending _ e = absurd cc

pub keeps_mode : (i : Insn) → disturbs_nested i ≡ false → ends_nested i ≡ false → is_windowing i ≡ false → sets_mode i ≡ false
unfolding disturbs_nested ends_nested is_windowing sets_mode
keeps_mode (insn.System (system.Special SpecialName.Wsr t n)) d e w = (or_parts (eqb n 230) _ d).0
keeps_mode (insn.System (system.Special SpecialName.Xsr t n)) d e w = (or_parts (eqb n 230) _ d).0
keeps_mode (insn.System (system.Level name t level)) d e w = absurd cc
keeps_mode (insn.System (system.ExceptionReturn ExceptionReturnName.Rfe)) d e w = absurd cc
keeps_mode (insn.System (system.ExceptionReturn ExceptionReturnName.Rfde)) d e w = absurd cc
keeps_mode (insn.System (system.ExceptionReturn ExceptionReturnName.Rfwo)) d e w = absurd cc
keeps_mode (insn.System (system.ExceptionReturn ExceptionReturnName.Rfwu)) d e w = absurd cc
keeps_mode (insn.System (system.Rfi level)) d e w = absurd (both_ways (eqb (natural level) 5) e (not-false _ d))
keeps_mode _ d e w = refl

-- BREAK moves no mark
abbrev pub IsStop : Outcome → Type 0
IsStop Stops = Unit {0}
IsStop o = ⊥

reads_on : (o : Option WindowRegister) (t n u : ℕ) (e : Effect) → IsStop (reads_special o t n u e) → ⊥
reads_on None t n u e h = h
reads_on (Some w) t n u e h = h

writes_on : (o : Option WindowRegister) (n x v : ℕ) (e : Effect) → IsStop (writes_special o n x v e) → ⊥
writes_on None n x v e h = h
writes_on (Some w) n x v e h = h

exchanges_on : (o : Option WindowRegister) (t n x u v : ℕ) (e : Effect) → IsStop (exchanges_special o t n x u v e) → ⊥
exchanges_on None t n x u v e h = h
exchanges_on (Some w) t n x u v e h = h

pub record IsAlone (i : Insn) (saved : List (Option ℕ)) : Type 0 where
  pub moved : moved_to i ≡ None
  pub mark : mark_read i saved ≡ None
  pub ends : ends_nested i ≡ false

pub stop_alone : (code : ℕ → ℕ) (i : Insn) (pc x y u v : ℕ) (ps : Ps) (t : ℕ) (saved : List (Option ℕ)) → IsStop (outcome code i pc x y u v ps t) → IsAlone i saved
unfolding outcome system_outcome moved_to mark_read ends_nested
stop_alone code (insn.System (system.Special SpecialName.Rsr r n)) pc x y u v ps t saved h = absurd (reads_on (window_register n) r n u (no_change ps t) h)
stop_alone code (insn.System (system.Special SpecialName.Wsr r n)) pc x y u v ps t saved h = absurd (writes_on (window_register n) n x v (no_change ps t) h)
stop_alone code (insn.System (system.Special SpecialName.Xsr r n)) pc x y u v ps t saved h = absurd (exchanges_on (window_register n) r n x u v (no_change ps t) h)
stop_alone code (insn.System (system.Rfi level)) pc x y u v ps t saved h = absurd h
stop_alone code _ pc x y u v ps t saved h = record { moved = refl; mark = refl; ends = refl }

-- ---- PS and waiting after an effect
flow_mode : (flow : Flow) (len : ℕ) (c : Control) → ((after_flow flow len c).ps ≡ c.ps) × ((after_flow flow len c).waits ≡ c.waits)
flow_mode (Goes target) len c = (refl, refl)
flow_mode Falls len c = cond_both (loops_back (special_of c 1) (special_of c 2) c.ps.excm _) _ _ (λ (d : Control). (d.ps ≡ c.ps) × (d.waits ≡ c.waits)) (λ e. (refl, refl)) (λ e. (refl, refl))

pub effect_mode : (e : Effect) (len : ℕ) (c : Control) → ((after_effect e len c).ps ≡ e.ps) × ((after_effect e len c).waits ≡ e.waits)
unfolding after_effect
effect_mode e len c = flow_mode e.flow len (record { pc = c.pc; special = with_sets e.sets c.special; ps = e.ps; threadptr = e.threadptr; waits = e.waits })

-- ---- no interrupt is pending
none_taken : (a b c : Bool) → cond {A = ℕ} (a && false) 5 (cond (b && false) 3 (cond (c && false) 1 0)) ≡ 0
none_taken true true true = refl
none_taken true true false = refl
none_taken true false true = refl
none_taken true false false = refl
none_taken false true true = refl
none_taken false true false = refl
none_taken false false true = refl
none_taken false false false = refl

pub none_pending : (interrupt enabled : ℕ) (ps : Ps) → ps.excm ≡ true → ps.intlevel ≡ 5 → pending_level interrupt enabled ps ≡ 0
unfolding pending_level
none_pending interrupt enabled ps e l =
    let five : current_level ps ≡ 5 = cond-true ps.excm (max ps.intlevel 3) ps.intlevel e ∙ ap (λ n. max n 3) l in
    let bits = bit_and interrupt enabled in
    let a : Bool = not (eqb (bit_and bits level_5_bits) 0) in
    let b : Bool = not (eqb (bit_and bits level_3_bits) 0) in
    let c : Bool = not (eqb (bit_and bits level_1_bits) 0) in
    ap (λ n. cond {A = ℕ} (a && ltb n 5) 5 (cond (b && ltb n 3) 3 (cond (c && ltb n 1) 1 0))) five ∙ none_taken a b c

-- ---- what is written is not cut, or is a mark
pub none_there : (xs : List (Option ℕ)) (k : ℕ) → get_or (set xs k None) k None ≡ None
none_there [] k = refl
none_there (x ∷ xs) zero = refl
none_there (x ∷ xs) (suc k) = none_there xs k

cut_marked : (mark : Option ℕ) (value : ℕ) (write : Option RegWrite) (old : List (Option ℕ)) → AreWords (marked_seen mark write (seen_after_write write old))
    → cut_seen (left_mask mark) (marked_write mark value write) (marked_seen mark write (seen_after_write write old)) ≡ marked_seen mark write (seen_after_write write old)
cut_marked None value None old words = refl
cut_marked None value (Some w) old words = uncut_seen (Some w) (set old w.reg (Some w.value)) words
cut_marked (Some k) value None old words = refl
cut_marked (Some k) value (Some w) old words =
    ap (λ o. set (set (set old w.reg (Some w.value)) w.reg None) w.reg (cut_number 0 o)) (none_there (set old w.reg (Some w.value)) w.reg)
    ∙ set_again (set old w.reg (Some w.value)) w.reg None None

marked_mask : (mark : Option ℕ) (value : ℕ) (write : Option RegWrite) (mask : ℕ) (k : ValidityBits) → visible_written true (marked_write mark value write) mask k ≡ visible_written true write mask k
marked_mask None value None mask k = refl
marked_mask None value (Some w) mask k = refl
marked_mask (Some j) value None mask k = refl
marked_mask (Some j) value (Some w) mask k = refl

mark_or_all : (mark : Option ℕ) (mask : ℕ) → mask ≡ left_mask mark → (is_some mark || eqb mask all_bits) ≡ true
mark_or_all None mask e = eq-eqb mask all_bits e
mark_or_all (Some k) mask e = refl

module _ (seen : List (Option ℕ)) (frames : List Frame) (control : Control) (unset : List Bool) (x : Nested) (m : ValidityBits) (w : Whole seen frames unset (Some x) control.waits m) (inp : Inputs) (value : ℕ) where
  abbrev f : FrameState
  f = record { seen = seen; frames = frames; control = control; unset = unset; nested = Some x }

  abbrev g : FrameState
  g = with_inputs inp (nested_view x f)

  abbrev s : UseState
  s = record { frame = f; masks = m }

  abbrev Holds : Fetched → ℕ → FrameTurn → Type 0
  Holds at r u = AreWords u.after.seen → InnerAreWords u.after.nested → Steps f at u (use_turn (step_insn u.kind at) r s g u)

  -- ---- marks where there is no number
  pub no_mark : (t : ℕ) → lacks x.seen (Some t) ≡ false → get_or x.marks t None ≡ None
  no_mark t h = by (get_or x.marks t None) refl
    where
      by : (o : Option ℕ) → get_or x.marks t None ≡ o → o ≡ None
      by None e = refl
      by (Some j) e = absurd (both_ways (lacks x.seen (Some t)) h (ap (λ (o : Option ℕ). not (is_some o)) (w.inside.marks t j e)))

  pub no_saved_mark : (n : ℕ) → is_unset unset (Some n) ≡ false → get_or x.saved n None ≡ None
  no_saved_mark n h = by (get_or x.saved n None) refl
    where
      by : (o : Option ℕ) → get_or x.saved n None ≡ o → o ≡ None
      by None e = refl
      by (Some j) e = absurd (both_ways (get_or unset n false) h (w.inside.saved n j e).1)

  mark_none : (i : Insn) → is_unset unset (special_reads i).0 ≡ false → mark_read i x.saved ≡ None
  unfolding mark_read special_reads
  mark_none (insn.System (system.Special SpecialName.Rsr t n)) h = no_saved_mark n h
  mark_none (insn.System (system.Special SpecialName.Xsr t n)) h = no_saved_mark n h
  mark_none _ h = refl

  mark_or_number : (t : ℕ) → (lacks x.seen (Some t) && lacks x.marks (Some t)) ≡ false → number_mask (get_or x.seen t None) ≡ mask_where (not (is_some (get_or x.marks t None)))
  mark_or_number t h = by (get_or x.marks t None) refl (get_or x.seen t None) refl
    where
      by : (a : Option ℕ) → get_or x.marks t None ≡ a → (b : Option ℕ) → get_or x.seen t None ≡ b → number_mask b ≡ mask_where (not (is_some a))
      by None e (Some n) k = refl
      by None e None k = absurd (both_ways (lacks x.seen (Some t) && lacks x.marks (Some t)) h (λ i. not (is_some (k i)) && not (is_some (e i))))
      by (Some j) e b k = ap number_mask (sym k ∙ w.inside.marks t j e)

  saved_or_number : (n : ℕ) → holds_marks n ≡ true → (is_unset unset (Some n) && lacks x.saved (Some n)) ≡ false → special_mask m n ≡ left_mask (get_or x.saved n None)
  saved_or_number n holds h = cond-true (holds_marks n) (get_or m.special n 0) (counted_bits m.discipline n) holds ∙ (w.special n holds ∙ by (get_or x.saved n None) refl (get_or unset n false) refl)
    where
      by : (a : Option ℕ) → get_or x.saved n None ≡ a → (b : Bool) → get_or unset n false ≡ b → mask_where (not b) ≡ left_mask a
      by None e false k = refl
      by None e true k = absurd (both_ways (is_unset unset (Some n) && lacks x.saved (Some n)) h (λ i. k i && not (is_some (e i))))
      by (Some j) e true k = refl
      by (Some j) e false k = absurd (both_ways (get_or unset n false) k (w.inside.saved n j e).1)

  -- ---- what an instruction takes and leaves of marks
  pub record IsMoved (i : Insn) (r : ℕ) : Type 0 where
    pub mask : result_mask m.discipline i (first_word i s g) (second_word i s g) (special_operand i s g) m.threadptr r ≡ left_mask (mark_read i x.saved)
    pub moved : IsMovedMark (moved_to i) (first_word i s g).mask x.marks
    pub pointer : (k : ValidityBits) → pointer_written i (first_word i s g).mask k ≡ pointer_written i all_bits k
    pub stored : (second_word i s g).mask ≡ all_bits

  -- it reads numbers
  numbers_moved : m.discipline ≡ Lenient → (i : Insn) (r : ℕ) → r ≡ all_bits → reads_unset i g ≡ false → IsMoved i r
  numbers_moved lenient i r e h =
      let read = operands_whole s g lenient i w.inner w.special h in
      let a = or_parts (lacks x.seen (reads i).0) (lacks x.seen (reads i).1 || (is_unset unset (special_reads i).0 || is_unset unset (special_reads i).1)) h in
      let b = or_parts (lacks x.seen (reads i).1) (is_unset unset (special_reads i).0 || is_unset unset (special_reads i).1) a.1 in
      let c = or_parts (is_unset unset (special_reads i).0) (is_unset unset (special_reads i).1) b.1 in
      let first : (first_word i s g).mask ≡ all_bits = ap (λ (q : Word). q.mask) read.first in
      record {
        mask = mask_all s g lenient i r read w.threadptr e ∙ ap left_mask (sym (mark_none i c.0));
        moved = by a.0 first (moved_to i) refl;
        pointer = λ k. ap (λ z. pointer_written i z k) first;
        stored = ap (λ (q : Word). q.mask) read.second;
      }
    where
      by : lacks x.seen (reads i).0 ≡ false → (first_word i s g).mask ≡ all_bits → (o : Option (ℕ × ℕ)) → moved_to i ≡ o → IsMovedMark o (first_word i s g).mask x.marks
      by h first None e = tt
      by h first (Some p) e =
          let none = no_mark p.0 (ap (λ o. lacks x.seen o) (sym (reads_moved i p e)) ∙ h) in
          (λ holds. first ∙ ap (λ (o : Option ℕ). mask_where (not (is_some o))) (sym none), λ j at. absurd (none-some j (sym none ∙ at)))

  -- it moves a mark
  mark_moved : (name : SpecialName) (t n r : ℕ) → holds_marks n ≡ true → reads_no_mark (insn.System (system.Special name t n)) x g ≡ false → IsMoved (insn.System (system.Special name t n)) r
  unfolding result_mask system_mask reads special_reads moved_to mark_read pointer_written
  mark_moved SpecialName.Rsr t n r holds h = record { mask = saved_or_number n holds h; moved = tt; pointer = λ k. refl; stored = refl }
  mark_moved SpecialName.Wsr t n r holds h = record {
    mask = refl;
    moved = (λ is. ap (λ ys. get_or ys t 0) w.inner ∙ (mask_at x.seen t ∙ mark_or_number t (or_parts (lacks x.seen (Some t) && lacks x.marks (Some t)) false h).0), λ j at. holds);
    pointer = λ k. refl;
    stored = refl;
  }
  mark_moved SpecialName.Xsr t n r holds h =
      let parts = or_parts (lacks x.seen (Some t) && lacks x.marks (Some t)) (is_unset unset (Some n) && lacks x.saved (Some n)) h in
      record {
        mask = saved_or_number n holds parts.1;
        moved = (λ is. ap (λ ys. get_or ys t 0) w.inner ∙ (mask_at x.seen t ∙ mark_or_number t parts.0), λ j at. holds);
        pointer = λ k. refl;
        stored = refl;
      }

  pub moved_all : m.discipline ≡ Lenient → (i : Insn) (r : ℕ) → r ≡ all_bits → ends_nested i ≡ false → cond (moves_marks i) (reads_no_mark i x g) (not (ends_nested i) && reads_unset i g) ≡ false → IsMoved i r
  moved_all lenient i r e goes h = ⊎_elim
      (λ moves.
      let q = is_moving i moves in
      let reads : reads_no_mark i x g ≡ false = sym (cond-true (moves_marks i) (reads_no_mark i x g) (not (ends_nested i) && reads_unset i g) moves) ∙ h in
      subst (λ j. IsMoved j r) (sym q.is) (mark_moved q.name q.t q.n r q.holds (subst (λ j. reads_no_mark j x g ≡ false) q.is reads)))
      (λ stays.
      let reads : (not (ends_nested i) && reads_unset i g) ≡ false = sym (cond-false (moves_marks i) (reads_no_mark i x g) (not (ends_nested i) && reads_unset i g) stays) ∙ h in
      numbers_moved lenient i r e (ap (λ b. not b && reads_unset i g) (sym goes) ∙ reads))
      (cases_Bool (moves_marks i))

  -- ---- what the step of the state inside leaves
  abbrev wrote : Option RegWrite → Option Access → Control → FrameTurn
  wrote write access c = record {
    kind = kind.Insn;
    write = write;
    access = access;
    after = record { seen = seen_after_write write x.seen; frames = frames; control = c; unset = unset; nested = Some x };
  }

  abbrev left : Insn → FrameTurn → FrameTurn
  left i v = record v {
    write = marked_write (mark_read i x.saved) value v.write;
    after = record (with_kept_frame f v.after) {
      unset = unset_by (moved_to i) x.marks unset;
      nested = Some (nested_after i (mark_read i x.saved) x v);
    };
  }

  abbrev ended : FrameTurn → FrameTurn
  ended v = record v { after = record (with_kept_frame f v.after) { nested = None } }

  module _ (i : Insn) (len r : ℕ) (unmoved : frames_moved i x.ps.callinc m ≡ m) where
    abbrev mark : Option ℕ
    mark = mark_read i x.saved

    abbrev mask : ℕ
    mask = result_mask m.discipline i (first_word i s g) (second_word i s g) (special_operand i s g) m.threadptr r

    abbrev given : ℕ
    given = (first_word i s g).mask

    goes_on : IsMoved i r → (write : Option RegWrite) (access : Option Access) (c : Control) → c.ps.excm ≡ true → c.ps.intlevel ≡ 5 → c.waits ≡ false → Holds (Fetches i len) r (left i (wrote write access c))
    unfolding step_insn
    goes_on h write access c excm level runs words inner = record {
      frame = frame;
      whole = whole;
      kind = refl;
      stored = h.stored;
      written = and_right _ _ (not_from_true _ (mark_or_all mark mask h.mask));
    }
      where
        frame : cut_state mask (marked_write mark value write) (Some (nested_after i mark x (wrote write access c))) (left i (wrote write access c)).after ≡ (left i (wrote write access c)).after
        frame =
            let u : FrameState = (left i (wrote write access c)).after in
            let y : Nested = nested_after i mark x (wrote write access c) in
            ap (λ k. cut_state k (marked_write mark value write) (Some y) u) h.mask
            ∙ (λ j. record u { nested = Some (record y { seen = cut_marked mark value write x.seen inner j }) })

        past : visible_written true write mask (pointer_written i all_bits (special_written (moved_to i) given m)) ≡ masks_past i mask s g (left i (wrote write access c))
        past =
            ap (λ k. visible_written true write mask k) (sym (h.pointer (special_written (moved_to i) given m)))
            ∙ (ap (λ k. visible_written true write mask (pointer_written i given (special_written (moved_to i) given k))) (sym unmoved)
            ∙ sym (marked_mask mark value write mask (pointer_written i given (special_written (moved_to i) given (frames_moved i x.ps.callinc m)))))

        whole : Whole seen frames (unset_by (moved_to i) x.marks unset) (Some (nested_after i mark x (wrote write access c))) c.waits (masks_past i mask s g (left i (wrote write access c)))
        whole =
            let one = inner_special w (moved_to i) given h.moved in
            let two = inner_visible (whole_pointer one i) mark write mask h.mask in
            subst
            (λ k. Whole seen frames (unset_by (moved_to i) x.marks unset) (Some (nested_after i mark x (wrote write access c))) c.waits k)
            past
            (inner_place two c.pc c.ps c.waits excm level runs)

  forgotten : (o : Option RegWrite) (number : ℕ) {k : ValidityBits} {u : List Bool} {awake : Bool} → Whole seen frames u None awake k → Whole seen frames u None awake (visible_written true o number k)
  forgotten None number h = h
  forgotten (Some q) number h = record { seen_masks = h.seen_masks; kept = h.kept; special = h.special; threadptr = h.threadptr; inner = tt; count = h.count; holes = h.holes; wide = h.wide; full = h.full; inside = tt }

  ends : (level : ℤ) (len r : ℕ) (write : Option RegWrite) (access : Option Access) (c : Control) → Holds (Fetches (insn.System (system.Rfi level)) len) r (ended (wrote write access c))
  unfolding step_insn result_mask system_mask reads moved_to pointer_written is_entry is_return
  ends level len r write access c words inner = record {
    frame = λ j. record f { control = record c { pc = control.pc; ps = control.ps }; seen = uncut_seen write seen words j; nested = None };
    whole = forgotten write all_bits (whole_ended w c.waits);
    kind = refl;
    stored = refl;
    written = and_right _ _ (not_from_true _ (or_right (is_some (mark_read (insn.System (system.Rfi level)) x.saved)) true refl));
  }

  abbrev Stopped : Option (ℕ × ℕ) → Option ℕ → Type 0
  Stopped o mark = Whole seen frames (unset_by o x.marks unset)
      (Some (record { pc = x.pc; seen = marked_seen mark None x.seen; ps = g.control.ps; marks = marks_after mark None x.marks; saved = saved_by o x.marks x.saved }))
      control.waits m

  -- BREAK
  stops : (code : ℕ → ℕ) (i : Insn) (len reply r : ℕ) → IsStop (outcome_at code i (value_or_zero x.seen) g.control) → Holds (Fetches i len) r (left i (done_in_frame Stops len reply g))
  unfolding step_insn
  stops code i len reply r h words inner = other_steps f (Fetches i len) (left i (done_in_frame Stops len reply g)) m
      (subst (λ o. Stopped o (mark_read i x.saved)) (sym alone.moved) (subst (λ mark. Stopped None mark) (sym alone.mark) (inner_place w x.pc g.control.ps control.waits w.inside.excm w.inside.level w.inside.runs)))
    where
      alone : IsAlone i x.saved
      alone = stop_alone code i x.pc _ _ _ _ g.control.ps control.threadptr x.saved h

  -- ---- what an outcome leaves
  abbrev Ends : Insn → ℕ → ℕ → FrameTurn → Type 0
  Ends i len r v = (ends_nested i ≡ true → Holds (Fetches i len) r (ended v)) × (ends_nested i ≡ false → IsMoved i r → Holds (Fetches i len) r (left i v))

  in_place : (i : Insn) → is_entry i ≡ false → is_return i ≡ false → frames_moved i x.ps.callinc m ≡ m
  in_place i e n = cond-false (is_entry i) (bits_after_call x.ps.callinc m) (cond (is_return i) (bits_after_return m.kept m) m) e ∙ cond-false (is_return i) (bits_after_return m.kept m) m n

  wrote_holds : (i : Insn) (len r : ℕ) (write : Option RegWrite) (access : Option Access) (c : Control) → is_entry i ≡ false → is_return i ≡ false
      → (ends_nested i ≡ false → (c.ps.excm ≡ true) × (c.ps.intlevel ≡ 5) × (c.waits ≡ false)) → Ends i len r (wrote write access c)
  wrote_holds i len r write access c e n kept = (
    λ ending. let q = is_ending i ending in subst (λ j. Holds (Fetches j len) r (ended (wrote write access c))) (sym q.is) (ends q.level len r write access c),
    λ goes moved. let k = kept goes in goes_on i len r (in_place i e n) moved write access c k.0 k.1 k.2,
  )

  module _ (code : ℕ → ℕ) (b : Bounds) (fresh : Bool) (live stale : ℕ → Bool) (rec : StepRecord) (i : Insn) (len r reply : ℕ) where
    -- it raises no cause
    calm : (u : FrameTurn) → Sound b fresh live stale i rec g u → is_exception u.kind ≡ false
    calm u sound = (or_parts (is_exception u.kind) _ sound.nested).0

    undisturbed : (u : FrameTurn) → Sound b fresh live stale i rec g u → disturbs_nested i ≡ false
    undisturbed u sound = (or_parts (disturbs_nested i) _ (or_parts (is_exception u.kind) _ sound.nested).1).0

    raised_in : (u : FrameTurn) → Sound b fresh live stale i rec g (cond g.control.ps.excm (exception_in_frame illegal_instruction None g) u) → ⊥
    raised_in u sound = both_ways (is_exception (cond g.control.ps.excm (exception_in_frame illegal_instruction None g) u).kind) (calm (cond g.control.ps.excm (exception_in_frame illegal_instruction None g) u) sound)
        (ap (λ (v : FrameTurn). is_exception v.kind) (cond-true g.control.ps.excm (exception_in_frame illegal_instruction None g) u w.inside.excm))

    done : (o : Outcome) → outcome_at code i (value_or_zero x.seen) g.control ≡ o → Fits i o → Sound b fresh live stale i rec g (done_in_frame o len reply g) → Ends i len r (done_in_frame o len reply g)
    done (Does e) q fits sound = wrote_holds i len r e.write None _ fits.2 (no_return code i (value_or_zero x.seen) g.control (Does e) q (λ h. h)) (λ goes.
        let d = undisturbed (done_in_frame (Does e) len reply g) sound in
        let k : KeepsMode (no_change g.control.ps control.threadptr) (Does e) = subst (λ o. KeepsMode (no_change g.control.ps control.threadptr) o) q (modes_kept code i x.pc _ _ _ _ g.control.ps control.threadptr (keeps_mode i d goes sound.windowing)) in
        let c = effect_mode e len g.control in
        (ap (λ (p : Ps). p.excm) c.0 ∙ (k.1 ∙ w.inside.excm), ap (λ (p : Ps). p.intlevel) c.0 ∙ (k.0 ∙ w.inside.level), c.1 ∙ k.2))
    done (Raises cause address) q fits sound = absurd (both_ways true (calm (done_in_frame (Raises cause address) len reply g) sound) refl)
    done (Asks access awaited e) q fits sound = wrote_holds i len r _ _ _ fits.2 (no_return code i (value_or_zero x.seen) g.control (Asks access awaited e) q (λ h. h)) (λ goes.
        let k : e ≡ no_change g.control.ps control.threadptr = subst (λ o. AsksWith (no_change g.control.ps control.threadptr) o) q (outcome_alone code i x.pc _ _ _ _ g.control.ps control.threadptr) in
        let c = effect_mode e len g.control in
        (ap (λ (p : Ps). p.excm) (c.0 ∙ ap (λ (d : Effect). d.ps) k) ∙ w.inside.excm, ap (λ (p : Ps). p.intlevel) (c.0 ∙ ap (λ (d : Effect). d.ps) k) ∙ w.inside.level, c.1 ∙ ap (λ (d : Effect). d.waits) k))
    done Stops q fits sound =
        let h : IsStop (outcome_at code i (value_or_zero x.seen) g.control) = subst IsStop (sym q) tt in
        let alone = stop_alone code i x.pc _ _ _ _ g.control.ps control.threadptr x.saved h in
        (λ ending. absurd (both_ways (ends_nested i) alone.ends ending), λ goes moved. stops code i len reply r h)
    done (Windowed (Enters number value)) q fits sound = absurd (raised_in (entry_in_frame number value len g) sound)
    done (Windowed (Returns a0)) q fits sound = absurd (raised_in (return_in_frame a0 g) sound)
    done (Windowed (EndsOverflow epc1)) q fits sound = absurd (both_ways _ sound.windowing fits)
    done (Windowed (EndsUnderflow epc1)) q fits sound = absurd (both_ways _ sound.windowing fits)
    done (Windowed (Rotates n)) q fits sound = absurd (both_ways _ sound.windowing fits)
    done (Windowed (MovesStack number value)) q fits sound = absurd (both_ways _ sound.movsp fits)
    done (Windowed (Reads register number)) q fits sound = absurd (both_ways _ sound.window_register fits)
    done (Windowed (Sets register value)) q fits sound = absurd (both_ways _ sound.window_register fits)
    done (Windowed (Exchanges register number value)) q fits sound = absurd (both_ways _ sound.window_register fits)

  -- ---- what is fetched
  module _ (code : ℕ → ℕ) (b : Bounds) (fresh : Bool) (live stale : ℕ → Bool) (rec : StepRecord) (r : ℕ) (told : loads_stale live stale rec.access ≡ false → touches_save_area live rec.access ≡ false → r ≡ all_bits) where
    fetches : m.discipline ≡ Lenient → (at : Fetched) (reply : ℕ) → NoneShown (fetched_tests b fresh live stale at rec g (fetched_step at code reply g)) → Holds at r (nested_fetched at value x f (fetched_step at code reply g))
    fetches lenient (Fails address) reply none = absurd (both_ways true none.1.1.1.1.1.0 refl)
    fetches lenient SpellsNothing reply none = absurd (both_ways true none.1.1.1.1.1.0 refl)
    fetches lenient (Fetches i len) reply none =
        let v : FrameTurn = fetched_step (Fetches i len) code reply g in
        let o = sound b fresh live stale i rec g v none in
        let d = done code b fresh live stale rec i len r reply (outcome_at code i (value_or_zero x.seen) g.control) refl (outcome_fits code i x.pc _ _ _ _ g.control.ps control.threadptr) o in
        cond_both (ends_nested i) (ended v) (left i v) (Holds (Fetches i len) r) d.0 (λ goes. d.1 goes (moved_all lenient i r (told o.loads o.saves) goes o.unset))

    pub quiet : ltb 0 (pending_of g.control) ≡ false
    quiet = ap (ltb 0) (none_pending (special_of g.control 226) (special_of g.control 228) g.control.ps w.inside.excm w.inside.level)

    pub inner_holds : m.discipline ≡ Lenient → laid_breach b fresh code live stale rec g ≡ None → Holds (fetch_at code x.pc) r (nested_fetched (fetch_at code x.pc) value x f (step_with_inputs code rec.reply g))
    inner_holds lenient none = subst
        (λ v. Holds (fetch_at code x.pc) r (nested_fetched (fetch_at code x.pc) value x f v))
        (sym (step_fetches code rec.reply g quiet w.inside.runs))
        (fetches lenient (fetch_at code x.pc) rec.reply (tests_shown code b fresh live stale rec g quiet w.inside.runs none))
