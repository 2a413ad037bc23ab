-- What a quick step is to the machine of uses.
use Rattle.std.proofs.Common.{◌≡◌, ℕ, zero, suc, ◌^◌, ◌<◌, ◌||◌, Bool, true, false, cond, ltb, List, [], ◌∷◌, Option, Some, None, get_or, refl, sym, ◌∙◌, ap, subst}
use Rattle.std.specs.Prelude.{IfSome, is_some, unwrap_or}
use Rattle.std.proofs.Math.ListN.{set}
use Rattle.std.proofs.lemmas.Bool.{and_right, cond-false, eq-eqb, not_from_true, or_from, or_right}
use Rattle.std.proofs.lemmas.List.{set-get_or}
use Rattle.xt_isa.specs.declared.Insn.{Insn}
use Rattle.xt_isa.specs.declared.Insn.TheVariants as insn
use Rattle.xt_isa.specs.declared.control.Control.TheVariants as control
use Rattle.xt_map.specs.Regions.{is_mapped}
use Rattle.xt_special.specs.Interrupts.{pending_of}
use Rattle.xt_trace.specs.declared.record.RegWrite.{RegWrite}
use Rattle.xt_trace.specs.declared.record.StepKind.{StepKind}
use Rattle.xt_trace.specs.declared.record.StepKind.TheVariants as kind
use Rattle.xt_trace.specs.declared.record.StepRecord.{StepRecord}
use Rattle.xt_map.specs.Fetching.{Fetched, Fetches, fetch_at}
use Rattle.xt_rows.specs.Kinds.{is_entry, is_return, moved_to}
use Rattle.xt_rows.specs.RowLaws.{IsProperWrite, IsWord}
use Rattle.xt_frames.specs.declared.breach.Limits.{Limits}
use Rattle.xt_frames.specs.declared.holes.UndefinedParts.{UndefinedParts}
use Rattle.xt_frames.specs.declared.holes.Nested.{Nested}
use Rattle.xt_frames.specs.Frames.{Frame, FrameState, seen_after_write}
use Rattle.xt_frames.specs.FrameStep.{FrameTurn, with_inputs, step_with_inputs}
use Rattle.xt_frames.specs.Nesting.{current, current_in, unset_after}
use Rattle.xt_frames.specs.Judging.{value_in}
use Rattle.xt_frames.specs.Breaches.{Test, first_shown, fresh_after, inputs_of, insn_tests, is_movsp, may_write_sp, touches_save_area}
use Rattle.xt_frames.specs.KeptFrameState.{Upper, state_at}
use Rattle.xt_frames.specs.Quick.{IsTurn, is_system}
use Rattle.xt_frames.specs.Walked.{bounds_of}
use Rattle.xt_frames.proofs.Mild.{IsStill, no_entry, tests_shown}
use Rattle.xt_frames.proofs.Quickly.{IsOver}
use Rattle.xt_frames.proofs.Shown.{NoneShown}
use Rattle.xt_uses.specs.declared.discipline.Discipline.{Discipline}
use Rattle.xt_uses.specs.declared.masks.TopMasks.{TopMasks}
use Rattle.xt_uses.specs.Words.{Word, all_bits, whole_word}
use Rattle.xt_uses.specs.Disciplines.{Lenient}
use Rattle.xt_uses.specs.Known.{result_mask}
use Rattle.xt_uses.specs.UseState.{ValidityBits, UseState, first_word, second_word, special_operand}
use Rattle.xt_uses.specs.UseStep.{UseTurn, carries, cut_seen, cut_state, step_insn, fetched_movsp, frames_moved, full_step, insn_turn, left_after, masks_past, movsp_of, pointer_written, receives_mark, reply_mask, special_written, stores_unknown, turn_or, use_step, use_turn, value_step, visible_written}
use Rattle.xt_uses.proofs.Returning.{no_return_left}
use Rattle.xt_uses.specs.UseBreaches.{breaks_stack, fetched_uses, laid_use, nowhere, reads_mark, swaps_unknown, use_breach, use_tests, uses_unknown}
use Rattle.xt_uses.specs.UseParts.{IsTaken, fresh_use, masks_at, use_at}
use Rattle.xt_uses.specs.UseQuick.{AreWhole, IsQuickUse, done_quick}
use Rattle.xt_uses.proofs.LaterTests.{insn_quiet, no_numbers, none_first, stays_on_stack}
use Rattle.xt_uses.proofs.UseBegins.{whole_stored}
use Rattle.xt_uses.proofs.UseChains.{no_movsp}
use Rattle.xt_uses.proofs.UseSteps.{numbered, value_plain}
use Rattle.xt_uses.proofs.UseTests.{insn_spared, spared, spared_loads, spared_saves, use_fetches}
use Rattle.xt_uses.proofs.WholeRows.{result_whole}
use Rattle.xt_uses.proofs.WholeSteps.{IsRead, uncut_number, used_true}

-- ---- words that are written
set_word : (xs : List (Option ℕ)) (k v n : ℕ) → v < 2 ^ 32 → get_or (set xs k (Some v)) k None ≡ Some n → n < 2 ^ 32
set_word [] k v n low e = absurd cc
set_word (x ∷ xs) zero v n low e = subst (λ m. m < 2 ^ 32) (ap (λ o. unwrap_or o 0) e) low
set_word (x ∷ xs) (suc k) v n low e = set_word xs k v n low e

pub uncut_written : (w : Option RegWrite) (seen : List (Option ℕ)) → IsProperWrite IsWord w → cut_seen all_bits w (seen_after_write w seen) ≡ seen_after_write w seen
uncut_written None seen k = refl
uncut_written (Some w) seen k =
    let s = set seen w.reg (Some w.value) in
    ap (λ o. set s w.reg o) (uncut_number (get_or s w.reg None) (λ n e. set_word seen w.reg w.value n k.1 e))
    ∙ set-get_or s w.reg None

-- ---- an instruction that no breach names moves no masks
no_entry_mask : (i : Insn) → may_write_sp i ≡ false → is_entry i ≡ false
unfolding may_write_sp is_entry
no_entry_mask (insn.Control (control.Entry number size)) e = absurd cc
no_entry_mask _ e = refl

no_pointer : (i : Insn) (mask : ℕ) (m : ValidityBits) → is_system i ≡ false → pointer_written i mask m ≡ m
unfolding is_system pointer_written
no_pointer (insn.System i) mask m e = absurd cc
no_pointer _ mask m e = refl

frames_still : (i : Insn) (n : ℕ) (m : ValidityBits) → is_entry i ≡ false → is_return i ≡ false → frames_moved i n m ≡ m
frames_still i n m entry return = cond-false (is_entry i) _ _ entry ∙ cond-false (is_return i) _ _ return

any_pointer : (by : Discipline) (i : Insn) (x y u : Word) (p reply : ℕ) → is_system i ≡ false → result_mask by i x y u p reply ≡ result_mask Lenient i x y u all_bits reply
unfolding is_system result_mask
any_pointer by (insn.System i) x y u p reply e = absurd cc
any_pointer by _ x y u p reply e = refl

whole_as : (w : Word) → w.mask ≡ all_bits → w ≡ whole_word w.value
whole_as w e = λ j. record { value = w.value; mask = e j }

executed_insn : (i : Insn) (len : ℕ) → step_insn kind.Insn (Fetches i len) ≡ Some i
unfolding step_insn
executed_insn i len = refl

either_none : (b : Bool) (o : Option FrameTurn) → o ≡ None → cond b None o ≡ None
either_none true o e = refl
either_none false o e = e

-- the operands of an instruction are known
are_read : (i : Insn) (s : UseState) (f : FrameState) → AreWhole i s f → IsRead i s f
are_read i s f w = record {
  first = whole_as (first_word i s f) w.first;
  second = whole_as (second_word i s f) w.second;
  special = whole_as (special_operand i s f) w.special;
}

module _ (limits : Limits) (fresh : Bool) (code : ℕ → ℕ) (rec : StepRecord) (h : UndefinedParts) (write : Option RegWrite) (v g x : Upper) (k : IsOver limits fresh code rec h write v g x) (frames : List Frame) (kept : List (List ℕ)) (m : TopMasks) (whole : AreWhole k.quick.i (use_at frames kept h v m) (state_at frames h g)) where
  abbrev i : Insn
  i = k.quick.i

  abbrev s : UseState
  s = use_at frames kept h v m

  abbrev f : FrameState
  f = state_at frames h v

  -- the state that the step finds
  abbrev over : FrameState
  over = state_at frames h g

  abbrev found : FrameState
  found = with_inputs (inputs_of rec) (current f)

  found_is : found ≡ over
  found_is = ap (λ (o : Option Nested). with_inputs (inputs_of rec) (current_in o f)) k.plain ∙ sym (k.over frames)

  read : IsRead i s over
  read = are_read i s over whole

  no_move : is_movsp i ≡ false
  no_move = (no_entry (bounds_of limits).range i over k.quick.row.common.stack).movsp

  -- ---- it shows no breach
  nothing_unknown : uses_unknown i s over ≡ false
  nothing_unknown =
      let marked = ap (λ (o : Option Nested). reads_mark o i) k.plain in
      or_from _ _ marked (or_from _ _ (no_numbers i over (k.quick.row.reads frames)) (not_from_true _ (used_true s over i (record { first = read.first; second = read.second }))))

  module _ (live : ℕ → Bool) (bytes : ℕ → ℕ) (saves : touches_save_area live rec.access ≡ false) (swaps : swaps_unknown bytes rec.access ≡ false) where
    abbrev here : FrameTurn
    here = step_with_inputs code rec.reply over

    abbrev tests : (ℕ → Bool) → List Test
    tests a = use_tests (uses_unknown i s over) (swaps_unknown bytes rec.access) (breaks_stack (bounds_of limits).range i rec.kind over) (insn_tests (bounds_of limits) fresh a nowhere i rec over here)

    none_shown : NoneShown (tests live)
    none_shown =
        let b = bounds_of limits in
        let still : IsStill limits code i k.quick.len h g = record { plain = k.plain; rest = k.quick.rest; at = k.quick.at } in
        let shown = tests_shown limits fresh code rec h write g x i k.quick.len still k.quick.row frames here (spared rec.access live) nowhere (k.quick.turn frames) (spared_saves rec.access live ∙ saves) (spared_loads rec.access live) in
        let quiet = insn_quiet b fresh (spared rec.access live) nowhere rec over here (uses_unknown i s over) (swaps_unknown bytes rec.access) (breaks_stack b.range i rec.kind over) i nothing_unknown swaps (stays_on_stack b.range i rec.kind over no_move) shown in
        subst (λ (ts : List Test). NoneShown ts) (insn_spared (uses_unknown i s over) (swaps_unknown bytes rec.access) (breaks_stack b.range i rec.kind over) b fresh live i rec over here) quiet

    quick_none : use_breach (bounds_of limits) fresh code live bytes false rec s ≡ None
    quick_none =
        let b = bounds_of limits in
        ap (laid_use b fresh code live bytes rec s) found_is
        ∙ (use_fetches b fresh code live bytes rec s over (ap (ltb 0) k.quick.rest.quiet) k.quick.rest.goes
        ∙ (ap (λ (at : Fetched). first_shown (fetched_uses b fresh live bytes at rec s over here)) k.quick.at
        ∙ none_first (tests live) none_shown))

  -- ---- the values
  abbrev values : FrameTurn
  values = value_step code false (value_in rec.write) (inputs_of rec) f

  abbrev turn_on : FrameState → FrameTurn
  turn_on r = numbered (fetch_at code r.control.pc) h.unset (turn_or (movsp_of code r) (step_with_inputs code rec.reply r))

  not_moved : movsp_of code over ≡ None
  not_moved =
      either_none (is_some over.nested || (ltb 0 (pending_of over.control) || over.control.waits)) (fetched_movsp (fetch_at code over.control.pc) over)
      (ap (λ (at : Fetched). fetched_movsp at over) k.quick.at ∙ no_movsp i k.quick.len over no_move)

  turn_over : IsTurn (turn_on over) write frames h x
  turn_over =
      let t = step_with_inputs code rec.reply over in
      let turn = k.quick.turn frames in
      let N : FrameTurn → FrameTurn = λ u. numbered (fetch_at code over.control.pc) h.unset u in
      let left : (N t).after ≡ state_at frames h x =
      ap (λ (r : FrameState). record r { unset = unset_after t.kind (fetch_at code over.control.pc) h.unset }) turn.after
      ∙ ap (λ (unset : List Bool). record (state_at frames h x) { unset = unset }) (k.quick.unset frames) in
      let made : IsTurn (N t) write frames h x = record { kind = turn.kind; writes = turn.writes; after = left } in
      subst (λ (o : Option FrameTurn). IsTurn (N (turn_or o t)) write frames h x) (sym not_moved) made

  values_are : IsTurn values write frames h x
  values_are =
      let T : FrameTurn → Type 0 = λ u. IsTurn u write frames h x in
      subst T (value_plain code (value_in rec.write) rec f k.plain) (subst (λ (r : FrameState). T (turn_on r)) (k.over frames) turn_over)

  -- ---- the step
  module _ (bytes : ℕ → ℕ) (reply : reply_mask bytes rec.access ≡ all_bits) where
    abbrev step : UseTurn
    step = use_step code false rec bytes s

    abbrev made : UseTurn
    made = insn_turn i all_bits s over values

    step_is : step ≡ made
    step_is =
        let at : step_insn values.kind (fetch_at code found.control.pc) ≡ Some i =
        ap (λ (n : StepKind). step_insn n (fetch_at code found.control.pc)) values_are.kind
        ∙ (ap (λ (r : FrameState). step_insn kind.Insn (fetch_at code r.control.pc)) found_is
        ∙ (ap (step_insn kind.Insn) k.quick.at ∙ executed_insn i k.quick.len)) in
        let full : full_step code false rec bytes s ≡ made =
        ap (λ (o : Option Insn). use_turn o (reply_mask bytes rec.access) s found values) at
        ∙ (ap (λ (n : ℕ). insn_turn i n s found values) reply
        ∙ ap (λ (r : FrameState). insn_turn i all_bits s r values) found_is) in
        ap (λ (t : UseTurn). record t { after = left_after (step_insn t.turn.kind (fetch_at code found.control.pc)) s t.after }) full
        ∙ (ap (λ (o : Option Insn). record made { after = left_after o s made.after }) at
        ∙ ap (λ (u : UseState). record made { after = u }) (no_return_left i s made.after k.quick.row.common.return))

    mask_is : made.mask ≡ all_bits
    mask_is =
        any_pointer m.discipline i (first_word i s over) (second_word i s over) (special_operand i s over) m.threadptr all_bits k.quick.row.common.user
        ∙ ((λ j. result_mask Lenient i (read.first j) (read.second j) (read.special j) all_bits all_bits)
        ∙ result_whole i (first_word i s over).value (second_word i s over).value (special_operand i s over).value)

    step_frame : IsProperWrite IsWord write → made.after.frame ≡ state_at frames h x
    step_frame word =
        let after = state_at frames h x in
        let u = values in
        let uncut : cut_seen all_bits write x.seen ≡ x.seen =
        subst (λ (ys : List (Option ℕ)). cut_seen all_bits write ys ≡ ys) (sym k.quick.row.seen) (uncut_written write g.seen word) in
        ap (λ (n : ℕ). cut_state n u.write u.after.nested u.after) mask_is
        ∙ (ap (λ (w : Option RegWrite). cut_state all_bits w u.after.nested u.after) values_are.writes
        ∙ (ap (λ (r : FrameState). cut_state all_bits write r.nested r) values_are.after
        ∙ (ap (λ (o : Option Nested). cut_state all_bits write o after) k.plain
        ∙ ap (λ (ys : List (Option ℕ)). record after { seen = ys }) uncut)))

    step_masks : made.after.masks ≡ visible_written false write all_bits (masks_at kept m)
    step_masks =
        let given = (first_word i s over).mask in
        let c = k.quick.row.common in
        let V : ValidityBits → ValidityBits = λ ms. visible_written false write all_bits ms in
        let all = masks_at kept m in
        ap (λ (n : ℕ). masks_past i n s over values) mask_is
        ∙ (ap (λ (o : Option Nested). visible_written (is_some o) values.write all_bits (pointer_written i given (special_written (moved_to i) given (frames_moved i over.control.ps.callinc all)))) k.plain
        ∙ (ap (λ (w : Option RegWrite). visible_written false w all_bits (pointer_written i given (special_written (moved_to i) given (frames_moved i over.control.ps.callinc all)))) values_are.writes
        ∙ (ap V (no_pointer i given (special_written (moved_to i) given (frames_moved i over.control.ps.callinc all)) c.user)
        ∙ (ap (λ (o : Option (ℕ × ℕ)). V (special_written o given (frames_moved i over.control.ps.callinc all))) c.moves
        ∙ ap V (frames_still i over.control.ps.callinc all (no_entry_mask i c.stack) c.return)))))

    step_fresh : IsProperWrite IsWord write → fresh ≡ fresh_use fresh code false rec bytes s
    step_fresh word =
        let A : StepKind → FrameState → FrameState → Bool = λ n p q. fresh_after fresh n (fetch_at code p.control.pc) p.control.ps q.control.ps in
        let after = state_at frames h x in
        sym
        (ap (λ (t : UseTurn). A t.turn.kind found (current t.after.frame)) step_is
        ∙ (ap (λ (r : FrameState). A values.kind found (current r)) (step_frame word)
        ∙ (ap (λ (o : Option Nested). A values.kind found (current_in o after)) k.plain
        ∙ (ap (λ (n : StepKind). A n found after) (values_are.kind ∙ sym (k.quick.turn frames).kind)
        ∙ (ap (λ (r : FrameState). A (step_with_inputs code rec.reply over).kind r after) found_is ∙ k.quick.kept frames)))))

    step_stored : step.stored ≡ all_bits
    step_stored = ap (λ (t : UseTurn). t.stored) step_is ∙ whole.second

    step_carries : IfSome rec.access (λ a. is_mapped a ≡ true) → carries code rec s step ≡ false
    step_carries mapped =
        let mask : step.mask ≡ all_bits = ap (λ (t : UseTurn). t.mask) step_is ∙ mask_is in
        or_from _ _
        (and_right _ _ (not_from_true _ (or_right (receives_mark (step_insn step.turn.kind (fetch_at code found.control.pc)) h.nested) _ (eq-eqb _ all_bits mask))))
        (ap (λ (n : ℕ). stores_unknown n rec.access) step_stored ∙ whole_stored rec.access mapped)

    quick_taken : (n : TopMasks) → IsProperWrite IsWord write → IfSome rec.access (λ a. is_mapped a ≡ true) → masks_at kept n ≡ visible_written false write all_bits (masks_at kept m)
        → IsTaken fresh code false rec bytes s (done_quick fresh) (λ fs ks. use_at fs ks h x n)
    quick_taken n word mapped masks =
        let frame = step_frame word in
        let left : made.after ≡ use_at frames kept h x n = λ j. record { frame = frame j; masks = (step_masks ∙ sym masks) j } in
        record {
          state = sym (ap (λ (t : UseTurn). t.after) step_is ∙ left);
          epc1 = step_fresh word;
          stores = sym step_stored;
          unknown = sym (step_carries mapped);
        }

  pub quick_use : (n : TopMasks) (live : ℕ → Bool) (bytes : ℕ → ℕ) → touches_save_area live rec.access ≡ false → swaps_unknown bytes rec.access ≡ false → reply_mask bytes rec.access ≡ all_bits
      → IsProperWrite IsWord write → IfSome rec.access (λ a. is_mapped a ≡ true) → masks_at kept n ≡ visible_written false write all_bits (masks_at kept m)
      → IsQuickUse limits fresh code live rec bytes s (λ fs ks. use_at fs ks h x n)
  quick_use n live bytes saves swaps reply word mapped masks = record {
    none = quick_none live bytes saves swaps;
    taken = quick_taken bytes reply n word mapped masks;
  }
