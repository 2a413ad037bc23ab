-- A step of the machine of uses in a nested interrupt keeps its values cut.
use Rattle.std.proofs.Common.{◌≡◌, ℕ, ◌+◌, ℤ, Bool, true, false, not, cond, ltb, ◌&&◌, ◌||◌, List, Option, Some, None, get_or, refl, sym, ap, ◌∙◌, ⊎_elim, subst}
use Rattle.std.proofs.Math.ListN.{set}
use Rattle.std.specs.Prelude.{is_some}
use Rattle.std.proofs.lemmas.Bool.{and_left, and_parts, and_right, both_ways, cases_Bool, cond-false, cond-true, cond_both, false_from_ne_true, not_from_false, not_from_true, or_parts}
use Rattle.std.proofs.lemmas.Option.{none-some}
use Rattle.std.proofs.lemmas.List.{length-set}
use Rattle.xt_isa.specs.declared.Insn.{Insn}
use Rattle.xt_isa.specs.declared.Insn.TheVariants as insn
use Rattle.xt_isa.specs.declared.shift.Shift.TheVariants as shift
use Rattle.xt_isa.specs.declared.system.System.TheVariants as system
use Rattle.xt_isa.specs.declared.system.SpecialName.TheVariants as SpecialName
use Rattle.xt_map.specs.declared.access.Access.{Access}
use Rattle.xt_special.specs.declared.ps.Ps.{Ps}
use Rattle.xt_special.specs.Access.{SpecialWrites, no_set, set_to, with_sets}
use Rattle.xt_special.specs.Control.{Control, ps_of, special_of}
use Rattle.xt_rows.specs.Numbers.{natural}
use Rattle.xt_rows.specs.declared.outcome.Flow.TheVariants.{Goes}
use Rattle.xt_special.specs.Interrupts.{pending_of}
use Rattle.xt_special.specs.Timers.{after_tick}
use Rattle.xt_trace.specs.declared.record.RegWrite.{RegWrite}
use Rattle.xt_trace.specs.declared.record.StepKind.{StepKind}
use Rattle.xt_trace.specs.declared.record.StepKind.TheVariants as kind
use Rattle.xt_trace.specs.declared.record.StepRecord.{StepRecord}
use Rattle.xt_map.specs.Fetching.{Fetched, Fetches, Fails, SpellsNothing, fetch_at}
use Rattle.xt_rows.specs.declared.outcome.Effect.{Effect}
use Rattle.xt_rows.specs.declared.outcome.Outcome.{Outcome}
use Rattle.xt_rows.specs.declared.outcome.Outcome.TheVariants.{Does, Raises, Asks, Stops, Windowed}
use Rattle.xt_rows.specs.declared.outcome.WindowStep.TheVariants.{Enters, Returns, EndsOverflow, EndsUnderflow, Rotates, MovesStack, Reads, Sets, Exchanges}
use Rattle.xt_rows.specs.Effects.{illegal_instruction, no_change}
use Rattle.xt_rows.specs.Kinds.{Fits, SetsOne, is_entry, is_movsp, is_return, moved_to}
use Rattle.xt_rows.specs.RowLaws.{AsksWith, KeepsMode}
use Rattle.xt_rows.specs.Operands.{reads, special_reads}
use Rattle.xt_rows.specs.Outcomes.{outcome, system_outcome, outcome_at, value_of}
use Rattle.xt_rows.specs.Settling.{after_effect}
use Rattle.xt_rows.proofs.Fitting.{outcome_alone, outcome_fits}
use Rattle.xt_rows.proofs.Modes.{modes_kept}
use Rattle.xt_frames.specs.declared.holes.Nested.{Nested}
use Rattle.xt_frames.specs.Frames.{Frame, FrameState, value_or_zero, seen_after_write}
use Rattle.xt_frames.specs.FrameStep.{FrameTurn, Inputs, done_in_frame, fetched_step, with_inputs, step_with_inputs, return_in_frame, entry_in_frame, exception_in_frame}
use Rattle.xt_frames.specs.Marks.{holds_marks, mark_read, marked_seen, marked_write, marks_after, moves_marks, saved_by, unset_by}
use Rattle.xt_frames.specs.Nesting.{disturbs_nested, ends_nested, nested_view, with_kept_frame, nested_after, nested_fetched}
use Rattle.xt_frames.specs.SaveAreas.{Range}
use Rattle.xt_frames.specs.Breaches.{Bounds, is_exception}
use Rattle.xt_frames.proofs.Shown.{NoneShown}
use Rattle.xt_frames.proofs.StackSteps.{step_fetches}
use Rattle.xt_uses.specs.Words.{masked}
use Rattle.xt_uses.specs.Used.{counted_bits}
use Rattle.xt_uses.specs.Known.{result_mask, system_mask}
use Rattle.xt_uses.specs.UseState.{ValidityBits, UseState, first_word, second_word, special_operand, visible_word}
use Rattle.xt_uses.specs.UseStep.{UseTurn, bits_after_call, cut_number, cut_seen, step_insn, frames_moved, pointer_written, bits_after_return, special_written, use_turn, visible_written}
use Rattle.xt_uses.specs.UseBreaches.{breaks_stack, fetched_uses, holds_mark, laid_use, reads_mark, swaps_unknown, uses_unknown}
use Rattle.xt_uses.specs.UseLaws.{AreCut, IsCutAt}
use Rattle.xt_uses.proofs.CutControl.{Spared, keeps_effect, keeps_same, keeps_tick, sets_size, sets_spare, spared_same, spared_set}
use Rattle.xt_uses.proofs.CutLists.{cut_at, cut_marked, cut_put, cut_value}
use Rattle.xt_uses.proofs.CutPlain.{none_moved}
use Rattle.xt_rows.proofs.Pointer.{LeavesPointer, pointer_kept, pointer_left}
use Rattle.xt_uses.proofs.CutRows.{marks_saved, moved_value}
use Rattle.xt_uses.proofs.CutStates.{Cut, IsCut, cut_ended, cut_pointer, cut_spared, moved_cut, moved_lost}
use Rattle.xt_uses.proofs.CutTests.{Unused, unused, uses_shown}
use Rattle.xt_uses.proofs.WholeInner.{IsAlone, IsStop, effect_mode, is_ending, keeps_mode, none_pending, none_there, reads_moved, stop_alone}
use Rattle.xt_uses.proofs.WholeLists.{held_both, set_again}
use Rattle.xt_uses.proofs.WholePlain.{no_return}
use Rattle.xt_uses.proofs.WholeStates.{with_place, with_saved}

-- ---- kinds of rows
second_of : Option (ℕ × ℕ) → ℕ → ℕ
second_of None n = n
second_of (Some p) n = p.1

moving_holds : (i : Insn) (p : ℕ × ℕ) → moved_to i ≡ Some p → moves_marks i ≡ true → holds_marks p.1 ≡ true
unfolding moved_to moves_marks second_of
moving_holds (insn.System (system.Special SpecialName.Wsr t n)) p e h = subst (λ k. holds_marks k ≡ true) (ap (λ o. second_of o n) e) (and_parts (ltb t 4) (holds_marks n) h).1
moving_holds (insn.System (system.Special SpecialName.Xsr t n)) p e h = subst (λ k. holds_marks k ≡ true) (ap (λ o. second_of o n) e) (and_parts (ltb t 4) (holds_marks n) h).1
moving_holds _ p e h = absurd cc

movsp_shown : (range : Range) (i : Insn) (k : StepKind) (g : FrameState) → is_movsp i ≡ true → g.control.ps.excm ≡ true → breaks_stack range i k g ≡ true
unfolding is_movsp breaks_stack
movsp_shown range (insn.Shift (shift.Movsp t s)) k g e excm = not_from_false _ (and_right _ _ (and_right _ _ (and_left _ _ (not_from_true _ excm))))
movsp_shown range _ k g e excm = absurd cc

module _ {seen : List (Option ℕ)} {frames : List Frame} {special : List ℕ} {unset : List Bool} {threadptr : ℕ} {x : Nested} {waits : Bool} {m : ValidityBits} (w : Cut seen frames special unset threadptr (Some x) waits m) where
  -- ---- WSR and XSR
  inner_special : (o : Option (ℕ × ℕ)) (given v : ℕ) (sets : SpecialWrites) → masked given v ≡ v → ((n : ℕ) → holds_marks n ≡ true → SetsOne o n sets) → ((p : ℕ × ℕ) → o ≡ Some p → holds_marks p.1 ≡ true → sets ≡ (set_to p.1 v, no_set, no_set))
      → ((p : ℕ × ℕ) → o ≡ Some p → (j : ℕ) → get_or x.marks p.0 None ≡ Some j → (holds_marks p.1 ≡ true) × (given ≡ 0))
      → Cut seen frames (with_sets sets special) (unset_by o x.marks unset) threadptr (Some (with_saved o x)) waits (special_written o given m)
  inner_special None given v sets c one value marked = cut_spared w (with_sets sets special) (record { at = λ n h. sets_spare sets special n (one n h); size = sets_size sets special }) threadptr refl
  inner_special (Some p) given v sets c one value marked =
      let mark : Option ℕ = get_or x.marks p.0 None in
      let i = w.inside in
      record {
        seen_cut = w.seen_cut;
        kept = w.kept;
        special_cut = moved_cut w p given v sets c one (value p refl);
        lost = moved_lost w p given (is_some mark) (λ h e. of mark refl e);
        pointer = w.pointer;
        inner = w.inner;
        count = length-set m.special p.1 given ∙ w.count;
        values = sets_size sets special ∙ w.values;
        holes = length-set unset p.1 (is_some mark) ∙ w.holes;
        wide = w.wide;
        full = w.full;
        inside = record {
          excm = i.excm;
          level = i.level;
          runs = i.runs;
          wide = i.wide;
          spread = i.spread;
          count = length-set x.saved p.1 mark ∙ i.count;
          marks = i.marks;
          saved = λ n j. held_both x.saved unset p.1 n mark None (is_some mark) false (λ a b. a ≡ Some j → (holds_marks n ≡ true) × (b ≡ true)) (i.count ∙ sym w.holes) (λ e at. (subst (λ k. holds_marks k ≡ true) e (marked p refl j at).0, ap is_some at)) (i.saved n j);
        };
      }
    where
      of : (k : Option ℕ) → get_or x.marks p.0 None ≡ k → is_some k ≡ true → given ≡ 0
      of None at e = absurd cc
      of (Some j) at e = (marked p refl j at).1

  -- ---- a register that is written
  inner_register : (r mask : ℕ) (mark c : Option ℕ) → AreCut (set x.seen r c) (set m.inner r mask) → ((j : ℕ) → mark ≡ Some j → c ≡ None)
      → Cut seen frames special unset threadptr (Some (record x { seen = set x.seen r c; marks = set x.marks r mark })) waits (record m { inner = set m.inner r mask })
  inner_register r mask mark c h none =
      let i = w.inside in
      record {
        seen_cut = w.seen_cut;
        kept = w.kept;
        special_cut = w.special_cut;
        lost = w.lost;
        pointer = w.pointer;
        inner = h;
        count = w.count;
        values = w.values;
        holes = w.holes;
        wide = w.wide;
        full = w.full;
        inside = record {
          excm = i.excm;
          level = i.level;
          runs = i.runs;
          wide = length-set x.seen r c ∙ i.wide;
          spread = length-set x.marks r mark ∙ i.spread;
          count = i.count;
          marks = λ k j. held_both x.marks x.seen r k mark None c None (λ a b. a ≡ Some j → b ≡ None) (i.spread ∙ sym i.wide) (λ same at. none j at) (i.marks k j);
          saved = i.saved;
        };
      }

  abbrev written_seen : Option ℕ → ℕ → Option RegWrite → ℕ → List (Option ℕ)
  written_seen mark value write mask = cut_seen mask (marked_write mark value write) (marked_seen mark write (seen_after_write write x.seen))

  inner_written : (mark : Option ℕ) (value : ℕ) (write : Option RegWrite) (mask : ℕ) → ((j : ℕ) → mark ≡ Some j → mask ≡ 0)
      → Cut seen frames special unset threadptr (Some (record x { seen = written_seen mark value write mask; marks = marks_after mark write x.marks })) waits (visible_written true (marked_write mark value write) mask m)
  inner_written None value None mask zero = w
  inner_written (Some k) value None mask zero = w
  inner_written None value (Some r) mask zero =
      let c : Option ℕ = cut_number mask (get_or (set x.seen r.reg (Some r.value)) r.reg None) in
      let again = set_again x.seen r.reg (Some r.value) c in
      subst
      (λ ys. Cut seen frames special unset threadptr (Some (record x { seen = ys; marks = set x.marks r.reg None })) waits (record m { inner = set m.inner r.reg mask }))
      (sym again)
      (inner_register r.reg mask None c (subst (λ ys. AreCut ys (set m.inner r.reg mask)) again (cut_put x.seen m.inner w.inner r.reg r.value mask)) (λ j e. absurd (none-some j e)))
  inner_written (Some k) value (Some r) mask zero =
      let old : List (Option ℕ) = set (set x.seen r.reg (Some r.value)) r.reg None in
      let c : Option ℕ = cut_number mask (get_or old r.reg None) in
      let again = set_again (set x.seen r.reg (Some r.value)) r.reg None c ∙ set_again x.seen r.reg (Some r.value) c in
      subst
      (λ ys. Cut seen frames special unset threadptr (Some (record x { seen = ys; marks = set x.marks r.reg (Some k) })) waits (record m { inner = set m.inner r.reg mask }))
      (sym again)
      (inner_register r.reg mask (Some k) c (subst (λ ys. AreCut ys (set m.inner r.reg mask)) again (cut_marked x.seen m.inner w.inner r.reg r.value mask (zero k refl))) (λ j e. ap (cut_number mask) (none_there (set x.seen r.reg (Some r.value)) r.reg)))

  inner_place : (pc : ℕ) (ps : Ps) (awake : Bool) → ps.excm ≡ true → ps.intlevel ≡ 5 → awake ≡ false → Cut seen frames special unset threadptr (Some (with_place pc ps x)) awake m
  inner_place pc ps awake excm level runs =
      let i = w.inside in
      record {
        seen_cut = w.seen_cut;
        kept = w.kept;
        special_cut = w.special_cut;
        lost = w.lost;
        pointer = w.pointer;
        inner = w.inner;
        count = w.count;
        values = w.values;
        holes = w.holes;
        wide = w.wide;
        full = w.full;
        inside = record { excm = excm; level = level; runs = runs; wide = i.wide; spread = i.spread; count = i.count; marks = i.marks; saved = i.saved };
      }

module _ (seen : List (Option ℕ)) (frames : List Frame) (control : Control) (unset : List Bool) (x : Nested) (m : ValidityBits) (w : Cut seen frames control.special unset control.threadptr (Some x) control.waits m) (inp : Inputs) (value : ℕ) where
  abbrev f : FrameState
  f = record { seen = seen; frames = frames; control = control; unset = unset; nested = Some x }

  abbrev g : FrameState
  g = with_inputs inp (nested_view x f)

  abbrev s : UseState
  s = record { frame = f; masks = m }

  abbrev Leaves : Fetched → ℕ → FrameTurn → Type 0
  Leaves at r u = (let t : UseTurn = use_turn (step_insn u.kind at) r s g u in IsCut t.after.frame t.after.masks)

  laid_cut : Cut seen frames g.control.special unset control.threadptr (Some x) control.waits m
  laid_cut = cut_spared w g.control.special (spared_set control.special _ 226 inp.interrupt refl (spared_set control.special control.special 234 inp.ccount refl (spared_same control.special))) control.threadptr refl

  abbrev wrote : Option RegWrite → Option Access → Control → FrameTurn
  wrote write access c = record {
    kind = kind.Insn;
    write = write;
    access = access;
    after = record { seen = seen_after_write write x.seen; frames = frames; control = c; unset = unset; nested = Some x };
  }

  abbrev left : Insn → FrameTurn → FrameTurn
  left i v = record v {
    write = marked_write (mark_read i x.saved) value v.write;
    after = record (with_kept_frame f v.after) {
      unset = unset_by (moved_to i) x.marks unset;
      nested = Some (nested_after i (mark_read i x.saved) x v);
    };
  }

  abbrev ended : FrameTurn → FrameTurn
  ended v = record v { after = record (with_kept_frame f v.after) { nested = None } }

  -- RFI 5
  ends : (level : ℤ) (len r reply : ℕ) (code : ℕ → ℕ) → Leaves (Fetches (insn.System (system.Rfi level)) len) r (ended (done_in_frame (outcome_at code (insn.System (system.Rfi level)) (value_or_zero x.seen) g.control) len reply g))
  unfolding step_insn outcome system_outcome reads special_reads moved_to pointer_written is_entry is_return
  ends level len r reply code =
      let e : Effect = record (no_change g.control.ps control.threadptr) { ps = ps_of (special_of g.control (192 + natural level)); flow = Goes (special_of g.control (176 + natural level)) } in
      let k = keeps_effect e len g.control in
      cut_ended (cut_spared laid_cut (after_tick (after_effect e len g.control)).special k.special (after_tick (after_effect e len g.control)).threadptr k.threadptr) (after_tick (after_effect e len g.control)).waits

  -- the mask of a register that receives a mark is 0
  marked_zero : (i : Insn) (a b : ℕ) (j : ℕ) → mark_read i x.saved ≡ Some j → (r : ℕ) → result_mask m.discipline i (first_word i s g) (second_word i s g) (special_operand i s g) m.threadptr r ≡ 0
  unfolding mark_read result_mask system_mask special_reads
  marked_zero (insn.System (system.Special SpecialName.Rsr t n)) a b j e r =
      let h = w.inside.saved n j e in
      cond-true (holds_marks n) (get_or m.special n 0) (counted_bits m.discipline n) h.0 ∙ w.lost n h.0 h.1
  marked_zero (insn.System (system.Special SpecialName.Xsr t n)) a b j e r =
      let h = w.inside.saved n j e in
      cond-true (holds_marks n) (get_or m.special n 0) (counted_bits m.discipline n) h.0 ∙ w.lost n h.0 h.1
  marked_zero _ a b j e r = absurd (none-some j e)

  module _ (i : Insn) (len r : ℕ) where
    abbrev v : ℕ
    v = value_of (value_or_zero x.seen) (reads i).0

    abbrev given : ℕ
    given = (first_word i s g).mask

    abbrev mask : ℕ
    mask = result_mask m.discipline i (first_word i s g) (second_word i s g) (special_operand i s g) m.threadptr r

    abbrev mark : Option ℕ
    mark = mark_read i x.saved

    operand_cut : (o : Option ℕ) → masked (visible_word s g o).mask (value_of (value_or_zero x.seen) o) ≡ value_of (value_or_zero x.seen) o
    operand_cut None = refl
    operand_cut (Some k) = cut_value x.seen m.inner w.inner k

    -- a mark goes to a special register that may hold one
    marked : uses_unknown i s g ≡ false → (p : ℕ × ℕ) → moved_to i ≡ Some p → (j : ℕ) → get_or x.marks p.0 None ≡ Some j → (holds_marks p.1 ≡ true) × (given ≡ 0)
    marked uses p is j e = (holds, zero)
      where
        quiet : reads_mark (Some x) i ≡ false
        quiet = (or_parts (reads_mark (Some x) i) _ uses).0

        reads_it : (reads i).0 ≡ Some p.0
        reads_it = reads_moved i p is

        holds : holds_marks p.1 ≡ true
        holds = ⊎_elim
            (λ moves. moving_holds i p is moves)
            (λ stays.
            let q : (holds_mark x.marks (reads i).0 || (holds_mark x.marks (reads i).1 || (holds_mark x.saved (special_reads i).0 || holds_mark x.saved (special_reads i).1))) ≡ false = ap (λ b. not b && (holds_mark x.marks (reads i).0 || (holds_mark x.marks (reads i).1 || (holds_mark x.saved (special_reads i).0 || holds_mark x.saved (special_reads i).1)))) (sym stays) ∙ quiet in
            let none : holds_mark x.marks (Some p.0) ≡ false = ap (λ o. holds_mark x.marks o) (sym reads_it) ∙ (or_parts (holds_mark x.marks (reads i).0) _ q).0 in
            absurd (both_ways (holds_mark x.marks (Some p.0)) none (ap is_some e)))
            (cases_Bool (moves_marks i))

        zero : given ≡ 0
        zero =
            let here : get_or m.inner p.0 0 ≡ 0 = subst (λ o. IsCutAt o (get_or m.inner p.0 0)) (w.inside.marks p.0 j e) (cut_at x.seen m.inner w.inner p.0) in
            ap (λ o. (visible_word s g o).mask) reads_it ∙ here

    record Gives (sets : SpecialWrites) (c : Control) : Type 0 where
      one : (n : ℕ) → holds_marks n ≡ true → SetsOne (moved_to i) n sets
      value_is : (p : ℕ × ℕ) → moved_to i ≡ Some p → holds_marks p.1 ≡ true → sets ≡ (set_to p.1 v, no_set, no_set)
      special : Spared (with_sets sets g.control.special) c.special
      pointer : c.threadptr ≡ pointer_left i v control.threadptr

    goes_on : uses_unknown i s g ≡ false → frames_moved i x.ps.callinc m ≡ m → (write : Option RegWrite) (access : Option Access) (c : Control) (sets : SpecialWrites) → Gives sets c → c.ps.excm ≡ true → c.ps.intlevel ≡ 5 → c.waits ≡ false
        → Leaves (Fetches i len) r (left i (wrote write access c))
    unfolding step_insn
    goes_on uses still write access c sets k excm level runs =
        let one = inner_special laid_cut (moved_to i) given v sets (operand_cut (reads i).0) k.one k.value_is (marked uses) in
        let two = inner_written (cut_pointer one i given v (operand_cut (reads i).0)) mark value write mask (λ j e. marked_zero i 0 0 j e r) in
        let three = cut_spared (inner_place two c.pc c.ps c.waits excm level runs) c.special k.special c.threadptr k.pointer in
        subst
        (λ q. (let t : UseTurn = use_turn (step_insn kind.Insn (Fetches i len)) r s g (left i (wrote write access c)) in IsCut t.after.frame (visible_written true (marked_write mark value write) mask (pointer_written i given (special_written (moved_to i) given q)))))
        (sym still)
        three

    still : is_entry i ≡ false → is_return i ≡ false → frames_moved i x.ps.callinc m ≡ m
    still e n = cond-false (is_entry i) (bits_after_call x.ps.callinc m) (cond (is_return i) (bits_after_return m.kept m) m) e ∙ cond-false (is_return i) (bits_after_return m.kept m) m n

    abbrev Stopped : Option (ℕ × ℕ) → Option ℕ → Type 0
    Stopped o k = Cut seen frames (after_tick g.control).special (unset_by o x.marks unset) control.threadptr
        (Some (record { pc = x.pc; seen = marked_seen k None x.seen; ps = g.control.ps; marks = marks_after k None x.marks; saved = saved_by o x.marks x.saved }))
        control.waits m

    stops : (code : ℕ → ℕ) (reply : ℕ) → IsStop (outcome_at code i (value_or_zero x.seen) g.control) → Leaves (Fetches i len) r (left i (done_in_frame Stops len reply g))
    unfolding step_insn
    stops code reply h =
        let alone : IsAlone i x.saved = stop_alone code i x.pc _ _ _ _ g.control.ps control.threadptr x.saved h in
        let k = keeps_tick g.control g.control (keeps_same g.control) in
        subst (λ o. Stopped o mark) (sym alone.moved) (subst (λ q. Stopped None q) (sym alone.mark)
        (inner_place (cut_spared laid_cut (after_tick g.control).special k.special control.threadptr refl) x.pc g.control.ps control.waits w.inside.excm w.inside.level w.inside.runs))

    module _ (code : ℕ → ℕ) (reply : ℕ) (unset_is movsp_is : Bool) where
      calm : (u : FrameTurn) → Unused i g u unset_is movsp_is → is_exception u.kind ≡ false
      calm u o = (or_parts (is_exception u.kind) _ o.nested).0

      undisturbed : (u : FrameTurn) → Unused i g u unset_is movsp_is → disturbs_nested i ≡ false
      undisturbed u o = (or_parts (disturbs_nested i) _ (or_parts (is_exception u.kind) _ o.nested).1).0

      raised_in : (u : FrameTurn) → Unused i g (cond g.control.ps.excm (exception_in_frame illegal_instruction None g) u) unset_is movsp_is → ⊥
      raised_in u o = both_ways (is_exception (cond g.control.ps.excm (exception_in_frame illegal_instruction None g) u).kind) (calm (cond g.control.ps.excm (exception_in_frame illegal_instruction None g) u) o)
          (ap (λ (t : FrameTurn). is_exception t.kind) (cond-true g.control.ps.excm (exception_in_frame illegal_instruction None g) u w.inside.excm))

      done : (o : Outcome) → outcome_at code i (value_or_zero x.seen) g.control ≡ o → Fits i o → uses_unknown i s g ≡ false → ends_nested i ≡ false → is_movsp i ≡ false → Unused i g (done_in_frame o len reply g) unset_is movsp_is
          → Leaves (Fetches i len) r (left i (done_in_frame o len reply g))
      done (Does e) q fits uses goes stays o =
          let d = undisturbed (done_in_frame (Does e) len reply g) o in
          let k : KeepsMode (no_change g.control.ps control.threadptr) (Does e) = subst (λ o. KeepsMode (no_change g.control.ps control.threadptr) o) q (modes_kept code i x.pc _ _ _ _ g.control.ps control.threadptr (keeps_mode i d goes o.windowing)) in
          let c = effect_mode e len g.control in
          let p : LeavesPointer (pointer_left i v control.threadptr) (Does e) = subst (λ o. LeavesPointer (pointer_left i v control.threadptr) o) q (pointer_kept code i x.pc v _ _ _ g.control.ps control.threadptr) in
          let t = keeps_effect e len g.control in
          goes_on uses (still fits.2 (no_return code i (value_or_zero x.seen) g.control (Does e) q (λ h. h))) e.write None _ e.sets
          (record { one = λ n h. fits.1 n (marks_saved n h); value_is = λ j is h. moved_value code i j x.pc v _ _ _ g.control.ps control.threadptr e is h q; special = t.special; pointer = t.threadptr ∙ p })
          (ap (λ (b : Ps). b.excm) c.0 ∙ (k.1 ∙ w.inside.excm)) (ap (λ (b : Ps). b.intlevel) c.0 ∙ (k.0 ∙ w.inside.level)) (c.1 ∙ k.2)
      done (Raises cause address) q fits uses goes stays o = absurd (both_ways true (calm (done_in_frame (Raises cause address) len reply g) o) refl)
      done (Asks access awaited e) q fits uses goes stays o =
          let k : e ≡ no_change g.control.ps control.threadptr = subst (λ o. AsksWith (no_change g.control.ps control.threadptr) o) q (outcome_alone code i x.pc _ _ _ _ g.control.ps control.threadptr) in
          let c = effect_mode e len g.control in
          let p : LeavesPointer (pointer_left i v control.threadptr) (Asks access awaited e) = subst (λ o. LeavesPointer (pointer_left i v control.threadptr) o) q (pointer_kept code i x.pc v _ _ _ g.control.ps control.threadptr) in
          let t = keeps_effect e len g.control in
          goes_on uses (still fits.2 (no_return code i (value_or_zero x.seen) g.control (Asks access awaited e) q (λ h. h))) _ _ _ e.sets
          (record { one = λ n h. subst (λ (d : Effect). SetsOne (moved_to i) n d.sets) (sym k) (none_moved (moved_to i) fits.1 n); value_is = λ j is h. absurd (none-some j (sym fits.1 ∙ is)); special = t.special; pointer = t.threadptr ∙ p })
          (ap (λ (b : Ps). b.excm) (c.0 ∙ ap (λ (d : Effect). d.ps) k) ∙ w.inside.excm) (ap (λ (b : Ps). b.intlevel) (c.0 ∙ ap (λ (d : Effect). d.ps) k) ∙ w.inside.level) (c.1 ∙ ap (λ (d : Effect). d.waits) k)
      done Stops q fits uses goes stays o = stops code reply (subst IsStop (sym q) tt)
      done (Windowed (Enters number value)) q fits uses goes stays o = absurd (raised_in (entry_in_frame number value len g) o)
      done (Windowed (Returns a0)) q fits uses goes stays o = absurd (raised_in (return_in_frame a0 g) o)
      done (Windowed (EndsOverflow epc1)) q fits uses goes stays o = absurd (both_ways _ o.windowing fits)
      done (Windowed (EndsUnderflow epc1)) q fits uses goes stays o = absurd (both_ways _ o.windowing fits)
      done (Windowed (Rotates n)) q fits uses goes stays o = absurd (both_ways _ o.windowing fits)
      done (Windowed (MovesStack number value)) q fits uses goes stays o = absurd (both_ways _ stays fits)
      done (Windowed (Reads register number)) q fits uses goes stays o = absurd (both_ways _ o.window_register fits)
      done (Windowed (Sets register value)) q fits uses goes stays o = absurd (both_ways _ o.window_register fits)
      done (Windowed (Exchanges register number value)) q fits uses goes stays o = absurd (both_ways _ o.window_register fits)

  -- ---- what is fetched
  module _ (code : ℕ → ℕ) (b : Bounds) (fresh : Bool) (live : ℕ → Bool) (bytes : ℕ → ℕ) (rec : StepRecord) (r : ℕ) where
    fetches : (at : Fetched) (reply : ℕ) → NoneShown (fetched_uses b fresh live bytes at rec s g (fetched_step at code reply g)) → Leaves at r (nested_fetched at value x f (fetched_step at code reply g))
    fetches (Fails address) reply none = absurd (both_ways true none.1.1.1.1.1.0 refl)
    fetches SpellsNothing reply none = absurd (both_ways true none.1.1.1.1.1.0 refl)
    fetches (Fetches i len) reply none =
        let u : FrameTurn = fetched_step (Fetches i len) code reply g in
        let o = unused b fresh live rec g u i (uses_unknown i s g) (swaps_unknown bytes rec.access) (breaks_stack b.range i rec.kind g) none in
        let stays : is_movsp i ≡ false = false_from_ne_true (is_movsp i) (λ h. both_ways (breaks_stack b.range i rec.kind g) o.movsp_quiet (movsp_shown b.range i rec.kind g h w.inside.excm)) in
        cond_both (ends_nested i) (ended u) (left i u) (Leaves (Fetches i len) r)
        (λ ending. let q = is_ending i ending in subst (λ j. Leaves (Fetches j len) r (ended (done_in_frame (outcome_at code j (value_or_zero x.seen) g.control) len reply g))) (sym q.is) (ends q.level len r reply code))
        (λ goes. done i len r code reply (uses_unknown i s g) (breaks_stack b.range i rec.kind g) (outcome_at code i (value_or_zero x.seen) g.control) refl (outcome_fits code i x.pc _ _ _ _ g.control.ps control.threadptr) o.known goes stays o)

    quiet : ltb 0 (pending_of g.control) ≡ false
    quiet = ap (ltb 0) (none_pending (special_of g.control 226) (special_of g.control 228) g.control.ps w.inside.excm w.inside.level)

    pub inner_cut : laid_use b fresh code live bytes rec s g ≡ None → Leaves (fetch_at code x.pc) r (nested_fetched (fetch_at code x.pc) value x f (step_with_inputs code rec.reply g))
    inner_cut none = subst
        (λ u. Leaves (fetch_at code x.pc) r (nested_fetched (fetch_at code x.pc) value x f u))
        (sym (step_fetches code rec.reply g quiet w.inside.runs))
        (fetches (fetch_at code x.pc) rec.reply (uses_shown code b fresh live bytes rec s g quiet w.inside.runs none))
