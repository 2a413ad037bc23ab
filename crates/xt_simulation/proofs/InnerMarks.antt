-- A nested step that moves a mark: RSR, WSR or XSR between a0 to a3 and a register that can hold one.
-- The frame machine has no value where a mark stands, so the two outcomes differ; both are known by
-- computation.
use Rattle.std.proofs.Common.{◌≡◌, ℕ, ◌+◌, ◌%◌, ◌^◌, ◌<◌, ◌≤◌, ◌≢◌, ◌⊎◌, Bool, true, false, ◌||◌, ◌&&◌, not, eqb, leb, ltb, List, Option, Some, None, is_some, inl, inr, sym, ap, ◌∙◌, refl, arith, ⊎_elim, subst, length, get_or}
use Rattle.std.specs.Prelude.{unwrap_or}
use Rattle.std.proofs.Math.ListN.{set}
use Rattle.std.proofs.lemmas.Bool.{cases_eq, cases_lt, true≢false, and_parts, and_cases, and_left, or_parts, or_cases, or_from, or_right, ne_eqb, eqb-false, leb-true, ltb-true, false_from_ne_true, cond-true, cond-false}
use Rattle.std.proofs.lemmas.Option.{none-some, same_Some}
use Rattle.std.proofs.lemmas.List.{get_or-set_same, get_or-set_other, length-set, get_or_past}
use Rattle.xt_isa.specs.declared.Insn.{Insn}
use Rattle.xt_isa.specs.declared.Insn.TheVariants as insn
use Rattle.xt_isa.specs.declared.system.System.TheVariants as system
use Rattle.xt_isa.specs.declared.system.SpecialName.TheVariants as SpecialName
use Rattle.xt_map.specs.declared.contents.MemoryContents.{MemoryContents}
use Rattle.xt_special.specs.declared.ps.Ps.{Ps}
use Rattle.xt_special.specs.Numbers as number
use Rattle.xt_special.specs.Control.{Control, special_of, ps_word}
use Rattle.xt_special.specs.Access.{SpecialWrites, is_ccompare, is_eps, no_set, no_sets, ps_written, set_to, value_kept, value_read, with_sets, written_by}
use Rattle.xt_special.specs.Timers.{after_tick}
use Rattle.xt_special.proofs.Kept.{ticked_other}
use Rattle.xt_window.specs.Ring.{place, visible}
use Rattle.xt_trace.specs.declared.record.StepKind.TheVariants as kind
use Rattle.xt_trace.specs.declared.record.RegWrite.{RegWrite}
use Rattle.xt_rows.specs.declared.outcome.Effect.{Effect}
use Rattle.xt_rows.specs.declared.outcome.Outcome.{Outcome}
use Rattle.xt_rows.specs.declared.outcome.Outcome.TheVariants.{Does}
use Rattle.xt_rows.specs.declared.outcome.WindowRegister.{WindowRegister}
use Rattle.xt_rows.specs.Effects.{exchanges_special, reads_special, no_change, window_register, write_to, writes_special}
use Rattle.xt_rows.specs.Kinds.{moved_to}
use Rattle.xt_rows.specs.Operands.{changes_interrupt, reads, special_reads}
use Rattle.xt_rows.specs.Outcomes.{outcome, outcome_at, system_outcome, value_of}
use Rattle.xt_rows.specs.Settling.{Executed, after_effect, write_with_reply}
use Rattle.xt_map.specs.Fetching.{Fetches, fetch_at}
use Rattle.xt_exec.specs.State.{State}
use Rattle.xt_exec.specs.TurnLaws.{IsShaped}
use Rattle.xt_exec.specs.Turn.{outcome_turn, planned_turn, with_write}
use Rattle.xt_frames.specs.declared.holes.Nested.{Nested}
use Rattle.xt_frames.specs.Frames.{FrameState, value_or_zero, seen_after_write}
use Rattle.xt_frames.specs.FrameStep.{FrameTurn, done_in_frame, fetched_step, in_frame, with_inputs}
use Rattle.xt_frames.specs.Marks.{holds_marks, mark_read, marked_seen, marked_write, marks_after, moves_marks}
use Rattle.xt_frames.specs.Nesting.{ends_nested, nested_view, nested_insn}
use Rattle.xt_frames.specs.Breaches.{Bounds, is_sp, is_unset, lacks, lost_of, may_write_sp, reads_no_mark, reads_none_in, writes_sp}
use Rattle.xt_frames.specs.Judging.{value_in}
use Rattle.xt_frames.proofs.Shown.{Sound}
use Rattle.xt_simulation.specs.Relation.{Even, Same, can_be_lost, inputs}
use Rattle.xt_simulation.specs.Steps.{record_now, reply_now, state_now}
use Rattle.xt_simulation.specs.Nested.{IsInside, IsSpare, marked_value}
use Rattle.xt_simulation.proofs.Evenly.{even_ticked, lost_in}
use Rattle.xt_simulation.proofs.Inner.{Inner, laid_excm}
use Rattle.xt_simulation.proofs.Laid.{even_laid, laid_other}
use Rattle.xt_simulation.proofs.InnerSteps.{can_saved, spare_place, ticked_saved, written_marks}
use Rattle.xt_simulation.proofs.Kept.{set_here, set_there, written_numbers}
use Rattle.xt_simulation.proofs.Plans.{plan_access, plan_kind, plan_state, plan_write}
use Rattle.xt_simulation.proofs.RingLemmas.{some_within}
use Rattle.xt_simulation.proofs.Turns.{falls_on}
use Rattle.xt_simulation.proofs.Windowed.{some_value}

-- ---- a register that can hold a mark
module _ (n : ℕ) (holds : holds_marks n ≡ true) where
  mark_range : ((209 ≤ n) × (n ≤ 215)) ⊎ ((244 ≤ n) × (n ≤ 247))
  mark_range = ⊎_elim
      (λ a. let p = and_parts (leb 209 n) (leb n 215) a in inl (leb-true 209 n p.0, leb-true n 215 p.1))
      (λ a. let p = and_parts (leb 244 n) (leb n 247) a in inr (leb-true 244 n p.0, leb-true n 247 p.1))
      (or_cases (leb 209 n && leb n 215) (leb 244 n && leb n 247) holds)

  is_other : (k : ℕ) → holds_marks k ≡ false → n ≢ k
  is_other k h e = true≢false (sym holds ∙ (ap (λ j. holds_marks j) e ∙ h))

  not_number : (k : ℕ) → holds_marks k ≡ false → eqb n k ≡ false
  not_number k h = ne_eqb n k (is_other k h)

  mark_below : n < 256
  mark_below = ⊎_elim (λ r. let u = r.1 in omega arith) (λ r. let u = r.1 in omega arith) mark_range

  not_eps : is_eps n ≡ false
  not_eps = false_from_ne_true (is_eps n) (λ e.
      let p = and_parts (leb 194 n) (leb n 199) e in
      let u = leb-true n 199 p.1 in
      ⊎_elim (λ r. let l = r.0 in omega arith) (λ r. let l = r.0 in omega arith) mark_range)

  not_ccompare : is_ccompare n ≡ false
  not_ccompare = false_from_ne_true (is_ccompare n) (λ e.
      let p = and_parts (leb 240 n) (leb n 242) e in
      let l = leb-true 240 n p.0 in
      let u = leb-true n 242 p.1 in
      ⊎_elim (λ r. let h = r.1 in omega arith) (λ r. let h = r.0 in omega arith) mark_range)

  -- it keeps all bits of a value
  kept_whole : (v w : ℕ) → value_kept n v w ≡ v
  unfolding value_kept
  kept_whole v w = rw (not_number 3 refl, not_number 232 refl, not_number 4 refl, not_number 231 refl, not_number 228 refl, not_eps, not_number 226 refl, not_number 227 refl) refl

  written_whole : (v w : ℕ) → written_by n v w ≡ (set_to n v, no_set, no_set)
  written_whole v w = rw (not_number 230 refl, not_ccompare, not_number 227 refl, kept_whole v w) refl

  no_window : window_register n ≡ None
  no_window = rw (not_number 72 refl, not_number 73 refl) refl

  read_whole : (v : ℕ) (ps : Ps) → value_read n v ps ≡ v
  read_whole v ps = cond-false (eqb n 230) (ps_word ps) v (not_number 230 refl)

  ps_whole : (v : ℕ) (ps : Ps) → ps_written n v ps ≡ ps
  ps_whole v ps = cond-false (eqb n 230) _ ps (not_number 230 refl)

  mark_can_be_lost : can_be_lost n ≡ true
  mark_can_be_lost = or_right (eqb n 177) _ (or_right (eqb n 181) _ (or_right (is_eps n) _ holds))

-- ---- the three rows
abbrev pub moving : Option RegWrite → SpecialWrites → Control → Effect
moving w sets c = record (no_change c.ps c.threadptr) { write = w; sets = sets }

abbrev pub sets_one : ℕ → ℕ → SpecialWrites
sets_one n v = (set_to n v, no_set, no_set)

module _ (code : ℕ → ℕ) (t n : ℕ) (holds : holds_marks n ≡ true) (regs : ℕ → ℕ) (c : Control) where
  rsr_is : outcome_at code (insn.System (system.Special SpecialName.Rsr t n)) regs c ≡ Does (moving (write_to t (special_of c n)) no_sets c)
  unfolding outcome system_outcome reads special_reads
  rsr_is =
      ap (λ (w : Option WindowRegister). reads_special w t n (special_of c n) (no_change c.ps c.threadptr)) (no_window n holds)
      ∙ ap (λ v. Does (moving (write_to t v) no_sets c)) (read_whole n holds (special_of c n) c.ps)

  wsr_is : outcome_at code (insn.System (system.Special SpecialName.Wsr t n)) regs c ≡ Does (moving None (sets_one n (regs t)) c)
  unfolding outcome system_outcome reads special_reads
  wsr_is =
      let v : ℕ = value_of (special_of c) (changes_interrupt n) in
      ap (λ (w : Option WindowRegister). writes_special w n (regs t) v (no_change c.ps c.threadptr)) (no_window n holds)
      ∙ (ap (λ z. (let e : Effect = record (no_change c.ps c.threadptr) { sets = z; ps = ps_written n (regs t) c.ps } in Does e)) (written_whole n holds (regs t) v)
      ∙ ap (λ p. (let e : Effect = record (no_change c.ps c.threadptr) { sets = sets_one n (regs t); ps = p } in Does e)) (ps_whole n holds (regs t) c.ps))

  xsr_is : outcome_at code (insn.System (system.Special SpecialName.Xsr t n)) regs c ≡ Does (moving (write_to t (special_of c n)) (sets_one n (regs t)) c)
  unfolding outcome system_outcome reads special_reads
  xsr_is =
      let v : ℕ = value_of (special_of c) (changes_interrupt n) in
      let u : ℕ = special_of c n in
      ap (λ (w : Option WindowRegister). exchanges_special w t n (regs t) u v (no_change c.ps c.threadptr)) (no_window n holds)
      ∙ (ap (λ z. (let e : Effect = record (no_change c.ps c.threadptr) { write = write_to t (value_read n u c.ps); sets = z; ps = ps_written n (regs t) c.ps } in Does e)) (written_whole n holds (regs t) v)
      ∙ (ap (λ p. (let e : Effect = record (no_change c.ps c.threadptr) { write = write_to t (value_read n u c.ps); sets = sets_one n (regs t); ps = p } in Does e)) (ps_whole n holds (regs t) c.ps)
      ∙ ap (λ z. Does (moving (write_to t z) (sets_one n (regs t)) c)) (read_whole n holds u c.ps)))

-- ---- what such a row leaves: in exception mode no loop goes back
abbrev pub moved_on : SpecialWrites → ℕ → Control → Control
moved_on sets len c = record { pc = (c.pc + len) % 2 ^ 32; special = with_sets sets c.special; ps = c.ps; threadptr = c.threadptr; waits = false }

effect_is : (w : Option RegWrite) (sets : SpecialWrites) (len : ℕ) (c : Control) → c.ps.excm ≡ true → after_effect (moving w sets c) len c ≡ moved_on sets len c
unfolding after_effect
effect_is w sets len c e = falls_on (record { pc = c.pc; special = with_sets sets c.special; ps = c.ps; threadptr = c.threadptr; waits = false }) len e

abbrev regs_after : Option RegWrite → State → List ℕ
regs_after None s = s.regs
regs_after (Some w) s = set s.regs (place s.base w.reg) w.value

abbrev moved_state : Option RegWrite → SpecialWrites → ℕ → State → State
moved_state w sets len s = record { regs = regs_after w s; base = s.base; start = s.start; control = after_tick (moved_on sets len s.control) }

with_write_is : (w : Option RegWrite) (s : State) (c : Control) → with_write w (record s { control = c }) ≡ record { regs = regs_after w s; base = s.base; start = s.start; control = c }
with_write_is None s c = refl
with_write_is (Some w) s c = refl

module _ (code : ℕ → ℕ) (m : MemoryContents) (s : State) (len : ℕ) (w : Option RegWrite) (sets : SpecialWrites) (plan : planned_turn code s ≡ outcome_turn (Does (moving w sets s.control)) len s) where
  state_is : s.control.ps.excm ≡ true → state_now code m s ≡ moved_state w sets len s
  state_is e =
      plan_state code s (outcome_turn (Does (moving w sets s.control)) len s) plan (reply_now code m s)
      ∙ (with_write_is w s (after_tick (after_effect (moving w sets s.control) len s.control))
      ∙ ap (λ (c : Control). (let t : State = record { regs = regs_after w s; base = s.base; start = s.start; control = after_tick c } in t)) (effect_is w sets len s.control e))

  write_is : (record_now code m s).write ≡ w
  write_is = plan_write code s (outcome_turn (Does (moving w sets s.control)) len s) plan (reply_now code m s)

abbrev moved_frame : Option RegWrite → SpecialWrites → ℕ → ℕ → FrameState → FrameTurn
moved_frame w sets len reply g = in_frame (record { kind = Executed; write = w; access = None; awaited = None; control = after_tick (moved_on sets len g.control) }) reply g

frame_is : (o : Outcome) (w : Option RegWrite) (sets : SpecialWrites) (len reply : ℕ) (g : FrameState) → o ≡ Does (moving w sets g.control) → g.control.ps.excm ≡ true → done_in_frame o len reply g ≡ moved_frame w sets len reply g
frame_is o w sets len reply g is e =
    ap (λ o. done_in_frame o len reply g) is
    ∙ ap (λ (c : Control). in_frame (record { kind = Executed; write = w; access = None; awaited = None; control = after_tick c }) reply g) (effect_is w sets len g.control e)

-- ---- special registers
-- what holds of them in a nested interrupt
pub record InSpecials (suspended : State) (xs ys : List ℕ) (unset : List Bool) (saved : List (Option ℕ)) : Type 0 where
  pub size : length xs ≡ 256
  pub count : length unset ≡ 256
  pub same : Same (lost_in false unset) xs ys
  pub stored : (n k : ℕ) → get_or saved n None ≡ Some k → (get_or xs n 0 ≡ marked_value suspended k) × (get_or unset n false ≡ true)

set_mark : (saved : List (Option ℕ)) (n k : ℕ) (mark : Option ℕ) → get_or (set saved n mark) n None ≡ Some k → mark ≡ Some k
set_mark saved n k mark e = ⊎_elim
    (λ within. sym (get_or-set_same saved n mark None within) ∙ e)
    (λ past. let none : None ≡ Some k = sym (get_or_past (set saved n mark) n None (let l = length-set saved n mark in omega arith)) ∙ e in cc)
    (cases_lt n (length saved))

-- one is written: with a mark, or with an equal value
module _ {suspended : State} {xs ys : List ℕ} {unset : List Bool} {saved : List (Option ℕ)} (r : InSpecials suspended xs ys unset saved)
    (n : ℕ) (holds : holds_marks n ≡ true) (v w : ℕ) (mark : Option ℕ) (equal : is_some mark ≡ false → v ≡ w) (means : (k : ℕ) → mark ≡ Some k → v ≡ marked_value suspended k) where
  lost_other : (k : ℕ) → k ≢ n → lost_in false (set unset n (is_some mark)) k ≡ lost_in false unset k
  lost_other k other = ap (λ b. lost_of false k || b) (get_or-set_other unset n k (is_some mark) false other)

  unset_at : get_or (set unset n (is_some mark)) n false ≡ is_some mark
  unset_at = get_or-set_same unset n (is_some mark) false (let c = r.count in let b = mark_below n holds in omega arith)

  equal_at : lost_in false (set unset n (is_some mark)) n ≡ false → get_or (set xs n v) n 0 ≡ get_or (set ys n w) n 0
  equal_at value_or_zero =
      let b = mark_below n holds in
      let x = r.size in
      let y = r.same.size in
      let lose : is_some mark ≡ false = sym unset_at ∙ (or_parts (lost_of false n) (get_or (set unset n (is_some mark)) n false) value_or_zero).1 in
      get_or-set_same xs n v 0 (omega arith) ∙ (equal lose ∙ sym (get_or-set_same ys n w 0 (omega arith)))

  same_moved : Same (lost_in false (set unset n (is_some mark))) (set xs n v) (set ys n w)
  same_moved = record {
    size = length-set xs n v ∙ (r.same.size ∙ sym (length-set ys n w));
    only = λ k lost. ⊎_elim
        (λ e. subst (λ j. can_be_lost j ≡ true) (sym e) (mark_can_be_lost n holds))
        (λ other. r.same.only k (sym (lost_other k other) ∙ lost))
        (cases_eq k n);
    at = λ k value_or_zero. ⊎_elim
        (λ e. subst (λ j. get_or (set xs n v) j 0 ≡ get_or (set ys n w) j 0) (sym e) (equal_at (subst (λ j. lost_in false (set unset n (is_some mark)) j ≡ false) e value_or_zero)))
        (λ other. get_or-set_other xs n k v 0 other ∙ (r.same.at k (sym (lost_other k other) ∙ value_or_zero) ∙ sym (get_or-set_other ys n k w 0 other)))
        (cases_eq k n);
  }

  stored_at : (k : ℕ) → mark ≡ Some k → (get_or (set xs n v) n 0 ≡ marked_value suspended k) × (get_or (set unset n (is_some mark)) n false ≡ true)
  stored_at k is =
      let b = mark_below n holds in
      let x = r.size in
      (get_or-set_same xs n v 0 (omega arith) ∙ means k is, unset_at ∙ ap (λ (o : Option ℕ). is_some o) is)

  specials_moved : InSpecials suspended (set xs n v) (set ys n w) (set unset n (is_some mark)) (set saved n mark)
  specials_moved = record {
    size = length-set xs n v ∙ r.size;
    count = length-set unset n (is_some mark) ∙ r.count;
    same = same_moved;
    stored = λ j k at. ⊎_elim
        (λ e.
        let here : mark ≡ Some k = set_mark saved n k mark (subst (λ i. get_or (set saved n mark) i None ≡ Some k) e at) in
        subst (λ i. (get_or (set xs n v) i 0 ≡ marked_value suspended k) × (get_or (set unset n (is_some mark)) i false ≡ true)) (sym e) (stored_at k here))
        (λ other.
        let old = r.stored j k (sym (get_or-set_other saved n j mark None other) ∙ at) in
        (get_or-set_other xs n j v 0 other ∙ old.0, get_or-set_other unset n j (is_some mark) false other ∙ old.1))
        (cases_eq j n);
  }

-- other registers are as they were
abbrev SparesOthers : SpecialWrites → Type 0
SparesOthers sets = (xs : List ℕ) (k : ℕ) → holds_marks k ≡ false → get_or (with_sets sets xs) k 0 ≡ get_or xs k 0

none_spares : SparesOthers no_sets
none_spares xs k h = refl

one_spares : (n v : ℕ) → holds_marks n ≡ true → SparesOthers (sets_one n v)
one_spares n v holds xs k h = get_or-set_other xs n k v 0 (λ e. is_other n holds k h (sym e))

-- ---- visible registers
pub record InRegisters (suspended : State) (base : ℕ) (regs : List ℕ) (seen held : List (Option ℕ)) : Type 0 where
  pub size : length regs ≡ length suspended.regs
  pub wide : length seen ≡ 16
  pub spread : length held ≡ 16
  pub others : (p : ℕ) → (IsSpare base p → ⊥) → get_or regs p 0 ≡ get_or suspended.regs p 0
  pub numbers : (i v : ℕ) → get_or seen i None ≡ Some v → visible regs base i ≡ v
  pub marks : (i k : ℕ) → get_or held i None ≡ Some k → (visible regs base i ≡ marked_value suspended k) × (get_or seen i None ≡ None)

abbrev IsWritable : ℕ → Type 0
IsWritable t = (t < 4) × (t ≢ 1)

-- one is written
module _ {suspended : State} {base : ℕ} {regs : List ℕ} {seen held : List (Option ℕ)} (r : InRegisters suspended base regs seen held)
    (all : length regs ≡ 64) (t : ℕ) (writable : IsWritable t) (v w : ℕ) where
  small : t < 16
  small = let low = writable.0 in omega arith

  spare : IsSpare base (place base t)
  spare = spare_place base t writable.0 writable.1

  here : visible (set regs (place base t) v) base t ≡ v
  here = set_here regs base t v all

  there : (i : ℕ) → i < 16 → i ≢ t → visible (set regs (place base t) v) base i ≡ visible regs base i
  there i low other = set_there regs base t v i small low other

  others_after : (p : ℕ) → (IsSpare base p → ⊥) → get_or (set regs (place base t) v) p 0 ≡ get_or suspended.regs p 0
  others_after p none = get_or-set_other regs (place base t) p v 0 (λ e. none (subst (IsSpare base) (sym e) spare)) ∙ r.others p none

  held_at : (mark : Option ℕ) → get_or (set held t mark) t None ≡ mark
  held_at mark = get_or-set_same held t mark None (let l = r.spread in let s = small in omega arith)

  held_below : (i k : ℕ) → get_or held i None ≡ Some k → i < 16
  held_below i k e = let within = some_within held i k e in let l = r.spread in omega arith

  seen_below : (i u : ℕ) → get_or seen i None ≡ Some u → i < 16
  seen_below i u e = let within = some_within seen i u e in let l = r.wide in omega arith

  -- with a number
  registers_written : v ≡ w → InRegisters suspended base (set regs (place base t) v) (set seen t (Some w)) (set held t None)
  registers_written same = record {
    size = length-set regs (place base t) v ∙ r.size;
    wide = length-set seen t (Some w) ∙ r.wide;
    spread = length-set held t None ∙ r.spread;
    others = others_after;
    numbers = λ i u at. written_numbers regs seen base t v all r.wide small r.numbers i u (subst (λ z. get_or (set seen t (Some z)) i None ≡ Some u) (sym same) at);
    marks = λ i k at. written_marks regs seen held base t v w (marked_value suspended) r.spread small r.marks i k at;
  }

  -- with a mark
  emptied : get_or (set (set seen t (Some w)) t None) t None ≡ None
  emptied = get_or-set_same (set seen t (Some w)) t None None (let l = length-set seen t (Some w) in let n = r.wide in let s = small in omega arith)

  seen_other : (i : ℕ) → i ≢ t → get_or (set (set seen t (Some w)) t None) i None ≡ get_or seen i None
  seen_other i other = get_or-set_other (set seen t (Some w)) t i None None other ∙ get_or-set_other seen t i (Some w) None other

  registers_marked : (mark : ℕ) → v ≡ marked_value suspended mark → InRegisters suspended base (set regs (place base t) v) (set (set seen t (Some w)) t None) (set held t (Some mark))
  registers_marked mark means = record {
    size = length-set regs (place base t) v ∙ r.size;
    wide = length-set (set seen t (Some w)) t None ∙ (length-set seen t (Some w) ∙ r.wide);
    spread = length-set held t (Some mark) ∙ r.spread;
    others = others_after;
    numbers = λ i u at. ⊎_elim
        (λ e. absurd (none-some u (sym emptied ∙ subst (λ j. get_or (set (set seen t (Some w)) t None) j None ≡ Some u) e at)))
        (λ other.
        let old : get_or seen i None ≡ Some u = sym (seen_other i other) ∙ at in
        there i (seen_below i u old) other ∙ r.numbers i u old)
        (cases_eq i t);
    marks = λ i k at. ⊎_elim
        (λ e.
        let same : mark ≡ k = same_Some mark k (sym (held_at (Some mark)) ∙ subst (λ j. get_or (set held t (Some mark)) j None ≡ Some k) e at) in
        subst (λ j. (visible (set regs (place base t) v) base j ≡ marked_value suspended k) × (get_or (set (set seen t (Some w)) t None) j None ≡ None)) (sym e) (here ∙ (means ∙ ap (marked_value suspended) same), emptied))
        (λ other.
        let old : get_or held i None ≡ Some k = sym (get_or-set_other held t i (Some mark) None other) ∙ at in
        let was = r.marks i k old in
        (there i (held_below i k old) other ∙ was.0, seen_other i other ∙ was.1))
        (cases_eq i t);
  }

  -- with what was read: a mark, or an equal value
  registers_moved : (mark : Option ℕ) → (mark ≡ None → v ≡ w) → ((k : ℕ) → mark ≡ Some k → v ≡ marked_value suspended k)
      → InRegisters suspended base (set regs (place base t) v) (marked_seen mark (write_to t w) (set seen t (Some w))) (marks_after mark (write_to t w) held)
  registers_moved None equal means = registers_written (equal refl)
  registers_moved (Some k) equal means = registers_marked k (means k refl)

-- ---- the state after the step
abbrev next_nested : Control → List (Option ℕ) → List (Option ℕ) → List (Option ℕ) → Nested
next_nested c seen held saved = record { pc = c.pc; seen = seen; ps = c.ps; marks = held; saved = saved }

abbrev next_frame : Control → List Bool → Nested → FrameState → FrameState
next_frame c unset x f = record {
  seen = f.seen;
  frames = f.frames;
  control = record c { pc = f.control.pc; ps = f.control.ps };
  unset = unset;
  nested = Some x;
}

-- the frame machine's: it reads this mark, or none
abbrev moved_nested : Option ℕ → Option RegWrite → SpecialWrites → List (Option ℕ) → ℕ → Nested → FrameState → Nested
moved_nested mark w sets saved len x g =
    next_nested (after_tick (moved_on sets len g.control)) (marked_seen mark w (seen_after_write w x.seen)) (marks_after mark w x.marks) saved

abbrev moved_turn : Option ℕ → ℕ → Option RegWrite → SpecialWrites → List Bool → List (Option ℕ) → ℕ → Nested → FrameState → FrameState → FrameTurn
moved_turn mark value w sets unset saved len x f g = record {
  kind = kind.Insn;
  write = marked_write mark value w;
  access = None;
  after = next_frame (after_tick (moved_on sets len g.control)) unset (moved_nested mark w sets saved len x g) f;
}

-- the record's write: where a mark is read, its value is an input
write_alike : (mark : Option ℕ) (t a c : ℕ) (o : Option RegWrite) → o ≡ write_to t a → (mark ≡ None → a ≡ c) → o ≡ marked_write mark (value_in o) (write_to t c)
write_alike None t a c o is equal = is ∙ ap (write_to t) (equal refl)
write_alike (Some k) t a c o is equal = subst (λ p. p ≡ marked_write (Some k) (value_in p) (write_to t c)) (sym is) refl

module _ (code : ℕ → ℕ) (b : Bounds) (m : MemoryContents) (s : State) (f : FrameState) (suspended : State) (x : Nested) (h : IsInside suspended s f x) (shaped : IsShaped s)
    (count : length f.unset ≡ 256) (spread : length x.marks ≡ 16) (len reply : ℕ) where
  abbrev g : FrameState
  g = with_inputs (inputs 0 s) (nested_view x f)

  specials_now : InSpecials suspended s.control.special g.control.special f.unset x.saved
  specials_now = record { size = shaped.control.count; count = count; same = h.even.special; stored = h.saved }

  registers_now : InRegisters suspended s.base s.regs x.seen x.marks
  registers_now = record { size = h.size; wide = h.wide; spread = spread; others = h.others; numbers = h.numbers; marks = h.marks }

  framed_other : (k : ℕ) → k ≢ 226 → k ≢ 234 → get_or g.control.special k 0 ≡ special_of f.control k
  framed_other k a c = laid_other f.control.special (special_of s.control 234) (special_of s.control 226) k a c

  module _ (w v : Option RegWrite) (sets framed : SpecialWrites) (mark : Option ℕ) (unset : List Bool) (saved : List (Option ℕ))
      (plan : planned_turn code s ≡ outcome_turn (Does (moving w sets s.control)) len s)
      (registers : InRegisters suspended s.base (regs_after w s) (marked_seen mark v (seen_after_write v x.seen)) (marks_after mark v x.marks))
      (specials : InSpecials suspended (with_sets sets s.control.special) (with_sets framed g.control.special) unset saved)
      (spares : SparesOthers sets) (spares_framed : SparesOthers framed) where
    abbrev c : Control
    c = after_tick (moved_on sets len s.control)

    abbrev d : Control
    d = after_tick (moved_on framed len g.control)

    abbrev y : Nested
    y = moved_nested mark v framed saved len x g

    abbrev u : FrameState
    u = next_frame d unset y f

    kept : (k : ℕ) → holds_marks k ≡ false → k ≢ 226 → k ≢ 234 → get_or c.special k 0 ≡ special_of s.control k
    kept k none a e = ticked_other (with_sets sets s.control.special) k a e ∙ spares s.control.special k none

    kept_framed : (k : ℕ) → holds_marks k ≡ false → k ≢ 226 → k ≢ 234 → get_or d.special k 0 ≡ special_of f.control k
    kept_framed k none a e = ticked_other (with_sets framed g.control.special) k a e ∙ (spares_framed g.control.special k none ∙ framed_other k a e)

    even_moved : Even (lost_in false unset) c d
    even_moved = even_ticked (moved_on sets len s.control) (moved_on framed len g.control) (record {
      pc = ap (λ p. (p + len) % 2 ^ 32) h.even.pc;
      ps = h.even.ps;
      threadptr = h.even.threadptr;
      waits = refl;
      special = specials.same;
    })

    stored_after : (n k : ℕ) → get_or saved n None ≡ Some k → (get_or c.special n 0 ≡ marked_value suspended k) × (get_or unset n false ≡ true)
    stored_after n k at =
        let now = specials.stored n k at in
        let is = can_saved n (specials.same.only n (or_right (lost_of false n) (get_or unset n false) now.1)) in
        (ticked_saved (moved_on sets len s.control) n is ∙ now.0, now.1)

    inside_moved : IsInside suspended (moved_state w sets len s) u y
    inside_moved = record {
      even = even_laid (moved_state w sets len s) (nested_view y u) even_moved;
      level = h.level;
      mode = h.mode;
      running = refl;
      woe = h.woe;
      epc = kept 181 refl (λ e. omega arith) (λ e. omega arith) ∙ h.epc;
      eps = kept 197 refl (λ e. omega arith) (λ e. omega arith) ∙ h.eps;
      base = h.base;
      start = h.start;
      size = registers.size;
      wide = registers.wide;
      others = registers.others;
      numbers = registers.numbers;
      marks = registers.marks;
      saved = stored_after;
    }

    inner_moved : special_of d number.vecbase ≡ b.vecbase → (record_now code m s).write ≡ marked_write mark (value_in (record_now code m s).write) v
        → Inner code b m s f suspended (moved_turn mark (value_in (record_now code m s).write) v framed unset saved len x f g)
    inner_moved vectors write =
        let state = state_is code m s len w sets plan h.mode in
        record {
          x = y;
          nested = refl;
          inside = subst (λ t. IsInside suspended t u y) (sym state) inside_moved;
          epc1 = ap (λ (t : State). special_of t.control 177) state ∙ kept 177 refl (λ e. omega arith) (λ e. omega arith);
          framed_epc1 = kept_framed 177 refl (λ e. omega arith) (λ e. omega arith);
          vectors = vectors;
          seen = refl;
          frames = refl;
          pc = refl;
          ps = refl;
          kind = plan_kind code s (outcome_turn (Does (moving w sets s.control)) len s) plan (reply_now code m s);
          write = write;
          access = plan_access code s (outcome_turn (Does (moving w sets s.control)) len s) plan (reply_now code m s);
        }

  -- ---- what the row reads: a mark, or the core's value
  read_register : (t : ℕ) → (lacks x.seen (Some t) && lacks x.marks (Some t)) ≡ false → is_some (get_or x.marks t None) ≡ false → visible s.regs s.base t ≡ value_or_zero x.seen t
  read_register t told none = ⊎_elim
      (λ e.
      let v = some_value (get_or x.seen t None) e in
      h.numbers t v.0 v.1 ∙ sym (ap (λ (o : Option ℕ). unwrap_or o 0) v.1))
      (λ e. absurd (true≢false (sym (ap not none) ∙ e)))
      (and_cases (lacks x.seen (Some t)) (lacks x.marks (Some t)) told)

  read_special : (n : ℕ) → holds_marks n ≡ true → (is_unset f.unset (Some n) && lacks x.saved (Some n)) ≡ false → get_or x.saved n None ≡ None → special_of s.control n ≡ special_of g.control n
  read_special n holds told none = ⊎_elim
      (λ e. h.even.special.at n (or_from (lost_of false n) (get_or f.unset n false) (and_left (eqb n 177) _ (not_number n holds 177 refl)) e))
      (λ e. absurd (true≢false (sym (ap (λ (o : Option ℕ). not (is_some o)) none) ∙ e)))
      (and_cases (is_unset f.unset (Some n)) (lacks x.saved (Some n)) told)

  -- ---- the whole step
  abbrev IsPlanned : Insn → Type 0
  IsPlanned i = planned_turn code s ≡ outcome_turn (outcome_at code i (visible s.regs s.base) s.control) len s

  -- the frame machine executes the instruction on the state inside
  abbrev laid_turn : Insn → FrameTurn
  laid_turn i = done_in_frame (outcome_at code i (value_or_zero x.seen) g.control) len reply g

  -- what is left of it, where the record's write is an input
  abbrev IsLeft : Insn → Type 0
  IsLeft i = Inner code b m s f suspended (nested_insn i (value_in (record_now code m s).write) x f (laid_turn i))

  closing : (i : Insn) (w v : Option RegWrite) (sets framed : SpecialWrites) (mark : Option ℕ) (unset : List Bool) (saved : List (Option ℕ))
      → IsPlanned i → special_of (laid_turn i).after.control number.vecbase ≡ b.vecbase
      → outcome_at code i (visible s.regs s.base) s.control ≡ Does (moving w sets s.control)
      → outcome_at code i (value_or_zero x.seen) g.control ≡ Does (moving v framed g.control)
      → ((value : ℕ) → nested_insn i value x f (moved_frame v framed len reply g) ≡ moved_turn mark value v framed unset saved len x f g)
      → InRegisters suspended s.base (regs_after w s) (marked_seen mark v (seen_after_write v x.seen)) (marks_after mark v x.marks)
      → InSpecials suspended (with_sets sets s.control.special) (with_sets framed g.control.special) unset saved
      → SparesOthers sets → SparesOthers framed
      → ((o : Option RegWrite) → o ≡ w → o ≡ marked_write mark (value_in o) v)
      → IsLeft i
  closing i w v sets framed mark unset saved plan vectors does does_framed nested registers specials spares spares_framed write =
      let plan_is : planned_turn code s ≡ outcome_turn (Does (moving w sets s.control)) len s = plan ∙ ap (λ o. outcome_turn o len s) does in
      let turn_is : laid_turn i ≡ moved_frame v framed len reply g = frame_is (outcome_at code i (value_or_zero x.seen) g.control) v framed len reply g does_framed (laid_excm h) in
      let value : ℕ = value_in (record_now code m s).write in
      subst (λ u. Inner code b m s f suspended u) (sym (ap (λ u. nested_insn i value x f u) turn_is ∙ nested value))
      (inner_moved w v sets framed mark unset saved plan_is registers specials spares spares_framed
      (subst (λ (u : FrameTurn). special_of u.after.control 231 ≡ b.vecbase) turn_is vectors)
      (write (record_now code m s).write (write_is code m s len w sets plan_is)))

  module _ (t n : ℕ) (low : t < 4) (holds : holds_marks n ≡ true) where
    abbrev read_mark : Option ℕ
    read_mark = get_or x.saved n None

    abbrev moved_mark : Option ℕ
    moved_mark = get_or x.marks t None

    registers_read : IsWritable t → (is_unset f.unset (Some n) && lacks x.saved (Some n)) ≡ false
        → InRegisters suspended s.base (set s.regs (place s.base t) (special_of s.control n)) (marked_seen read_mark (write_to t (special_of g.control n)) (set x.seen t (Some (special_of g.control n)))) (marks_after read_mark (write_to t (special_of g.control n)) x.marks)
    registers_read writable told =
        registers_moved registers_now shaped.count t writable (special_of s.control n) (special_of g.control n) read_mark (read_special n holds told) (λ k e. (h.saved n k e).0)

    specials_set : (lacks x.seen (Some t) && lacks x.marks (Some t)) ≡ false
        → InSpecials suspended (set s.control.special n (visible s.regs s.base t)) (set g.control.special n (value_or_zero x.seen t)) (set f.unset n (is_some moved_mark)) (set x.saved n moved_mark)
    specials_set told =
        specials_moved specials_now n holds (visible s.regs s.base t) (value_or_zero x.seen t) moved_mark (read_register t told) (λ k e. (h.marks t k e).0)

    rsr_inside : (let i = insn.System (system.Special SpecialName.Rsr t n) in
        IsWritable t → reads_no_mark i x (nested_view x f) ≡ false → IsPlanned i → special_of (laid_turn i).after.control number.vecbase ≡ b.vecbase → IsLeft i)
    unfolding reads special_reads ends_nested mark_read moved_to
    rsr_inside writable told plan vectors =
        let parts = or_parts (lacks x.seen None && lacks x.marks None) (is_unset f.unset (Some n) && lacks x.saved (Some n)) told in
        closing (insn.System (system.Special SpecialName.Rsr t n)) (write_to t (special_of s.control n)) (write_to t (special_of g.control n)) no_sets no_sets read_mark f.unset x.saved
        plan vectors (rsr_is code t n holds (visible s.regs s.base) s.control) (rsr_is code t n holds (value_or_zero x.seen) g.control) (λ value. refl)
        (registers_read writable parts.1) specials_now none_spares none_spares
        (λ o is. write_alike read_mark t (special_of s.control n) (special_of g.control n) o is (read_special n holds parts.1))

    wsr_inside : (let i = insn.System (system.Special SpecialName.Wsr t n) in
        reads_no_mark i x (nested_view x f) ≡ false → IsPlanned i → special_of (laid_turn i).after.control number.vecbase ≡ b.vecbase → IsLeft i)
    unfolding reads special_reads ends_nested mark_read moved_to
    wsr_inside told plan vectors =
        let parts = or_parts (lacks x.seen (Some t) && lacks x.marks (Some t)) (is_unset f.unset None && lacks x.saved None) told in
        closing (insn.System (system.Special SpecialName.Wsr t n)) None None (sets_one n (visible s.regs s.base t)) (sets_one n (value_or_zero x.seen t)) None (set f.unset n (is_some moved_mark)) (set x.saved n moved_mark)
        plan vectors (wsr_is code t n holds (visible s.regs s.base) s.control) (wsr_is code t n holds (value_or_zero x.seen) g.control) (λ value. refl)
        registers_now (specials_set parts.0) (one_spares n (visible s.regs s.base t) holds) (one_spares n (value_or_zero x.seen t) holds)
        (λ o is. is)

    xsr_inside : (let i = insn.System (system.Special SpecialName.Xsr t n) in
        IsWritable t → reads_no_mark i x (nested_view x f) ≡ false → IsPlanned i → special_of (laid_turn i).after.control number.vecbase ≡ b.vecbase → IsLeft i)
    unfolding reads special_reads ends_nested mark_read moved_to
    xsr_inside writable told plan vectors =
        let parts = or_parts (lacks x.seen (Some t) && lacks x.marks (Some t)) (is_unset f.unset (Some n) && lacks x.saved (Some n)) told in
        closing (insn.System (system.Special SpecialName.Xsr t n)) (write_to t (special_of s.control n)) (write_to t (special_of g.control n)) (sets_one n (visible s.regs s.base t)) (sets_one n (value_or_zero x.seen t)) read_mark (set f.unset n (is_some moved_mark)) (set x.saved n moved_mark)
        plan vectors (xsr_is code t n holds (visible s.regs s.base) s.control) (xsr_is code t n holds (value_or_zero x.seen) g.control) (λ value. refl)
        (registers_read writable parts.1) (specials_set parts.0) (one_spares n (visible s.regs s.base t) holds) (one_spares n (value_or_zero x.seen t) holds)
        (λ o is. write_alike read_mark t (special_of s.control n) (special_of g.control n) o is (read_special n holds parts.1))

  -- RSR and XSR write no a1
  writable_by : (t v : ℕ) (i : Insn) → t < 4 → may_write_sp i ≡ false → (shown : Option RegWrite) → writes_sp i (record_now code m s).write shown ≡ false → (record_now code m s).write ≡ write_to t v → IsWritable t
  writable_by t v i low none shown write_with_reply is =
      let one : (is_sp (record_now code m s).write || is_sp shown) ≡ false = ap (λ y. not y && (is_sp (record_now code m s).write || is_sp shown)) (sym none) ∙ write_with_reply in
      let sp : eqb t 1 ≡ false = ap is_sp (sym is) ∙ (or_parts (is_sp (record_now code m s).write) (is_sp shown) one).0 in
      (low, eqb-false t 1 sp)

  marks_inside : (i : Insn) → moves_marks i ≡ true → reads_no_mark i x (nested_view x f) ≡ false → (shown : Option RegWrite) → writes_sp i (record_now code m s).write shown ≡ false
      → IsPlanned i → special_of (laid_turn i).after.control number.vecbase ≡ b.vecbase → IsLeft i
  unfolding moves_marks may_write_sp
  marks_inside (insn.System (system.Special SpecialName.Rsr t n)) moves told shown write_with_reply plan vectors =
      let both = and_parts (ltb t 4) (holds_marks n) moves in
      let low = ltb-true t 4 both.0 in
      let is = write_is code m s len (write_to t (special_of s.control n)) no_sets (plan ∙ ap (λ o. outcome_turn o len s) (rsr_is code t n both.1 (visible s.regs s.base) s.control)) in
      rsr_inside t n low both.1 (writable_by t (special_of s.control n) (insn.System (system.Special SpecialName.Rsr t n)) low refl shown write_with_reply is) told plan vectors
  marks_inside (insn.System (system.Special SpecialName.Wsr t n)) moves told shown write_with_reply plan vectors =
      let both = and_parts (ltb t 4) (holds_marks n) moves in
      wsr_inside t n (ltb-true t 4 both.0) both.1 told plan vectors
  marks_inside (insn.System (system.Special SpecialName.Xsr t n)) moves told shown write_with_reply plan vectors =
      let both = and_parts (ltb t 4) (holds_marks n) moves in
      let low = ltb-true t 4 both.0 in
      let is = write_is code m s len (write_to t (special_of s.control n)) (sets_one n (visible s.regs s.base t)) (plan ∙ ap (λ o. outcome_turn o len s) (xsr_is code t n both.1 (visible s.regs s.base) s.control)) in
      xsr_inside t n low both.1 (writable_by t (special_of s.control n) (insn.System (system.Special SpecialName.Xsr t n)) low refl shown write_with_reply is) told plan vectors
  marks_inside _ moves told shown write_with_reply plan vectors = absurd (true≢false (sym moves))

  -- an instruction that moves a mark and shows no breach
  marked_inner : (live stale : ℕ → Bool) (i : Insn) → let u : FrameTurn = fetched_step (Fetches i len) code reply g in
      Sound b false live stale i (record_now code m s) g u → f.nested ≡ Some x → moves_marks i ≡ true → IsPlanned i
      → Inner code b m s f suspended (nested_insn i (value_in (record_now code m s).write) x f u)
  marked_inner live stale i o nested moves plan =
      let reads : reads_none_in (Some x) i g ≡ false = subst (λ (n : Option Nested). reads_none_in n i g ≡ false) nested o.unset in
      let told : reads_no_mark i x g ≡ false = sym (cond-true (moves_marks i) (reads_no_mark i x g) _ moves) ∙ reads in
      marks_inside i moves told (fetched_step (Fetches i len) code reply g).write o.written plan o.vectors

pub marks_moved :
    (code : ℕ → ℕ) (b : Bounds) (m : MemoryContents) (s : State) (f : FrameState) (suspended : State) (live stale : ℕ → Bool) (x : Nested) (i : Insn) (len : ℕ)
    → f.nested ≡ Some x → IsInside suspended s f x → IsShaped s → length f.unset ≡ 256 → length x.marks ≡ 16
    → fetch_at code s.control.pc ≡ Fetches i len → moves_marks i ≡ true
    → planned_turn code s ≡ outcome_turn (outcome_at code i (visible s.regs s.base) s.control) len s
    → let g : FrameState = with_inputs (inputs 0 s) (nested_view x f) in
    let u : FrameTurn = fetched_step (Fetches i len) code (reply_now code m s) g in
    Sound b false live stale i (record_now code m s) g u
    → Inner code b m s f suspended (nested_insn i (value_in (record_now code m s).write) x f u)
marks_moved code b m s f suspended live stale x i len nested h shaped count spread at moves plan o =
    marked_inner code b m s f suspended x h shaped count spread len (reply_now code m s) live stale i o nested moves plan
