-- A whole step of the machine of uses keeps the chain of stack pointers, the cut included.
use Rattle.std.specs.Prelude.{is_some}
use Rattle.std.proofs.Common.{◌≡◌, ◌||◌, ◌&&◌, ◌⊎◌, ℕ, Bool, true, false, not, eqb, ltb, List, Option, Some, None, inl, inr, ⊎_elim, refl, sym, ◌∙◌, ap, subst}
use Rattle.std.proofs.lemmas.Bool.{cases_Bool, cond-true, cond-false, not-false, or_from, or_left, or_parts, or_right, both_ways}
use Rattle.std.proofs.lemmas.Option.{none-some}
use Rattle.xt_isa.specs.declared.Insn.{Insn}
use Rattle.xt_isa.specs.declared.Insn.TheVariants as insn
use Rattle.xt_isa.specs.declared.control.Control.TheVariants as control
use Rattle.xt_isa.specs.declared.shift.Shift.TheVariants as shift
use Rattle.xt_trace.specs.declared.record.RegWrite.{RegWrite}
use Rattle.xt_special.specs.Interrupts.{pending_of}
use Rattle.xt_trace.specs.declared.record.StepKind.{StepKind}
use Rattle.xt_trace.specs.declared.record.StepKind.TheVariants as kind
use Rattle.xt_trace.specs.declared.record.StepRecord.{StepRecord}
use Rattle.xt_map.specs.Fetching.{Fetched, Fetches, Fails, SpellsNothing, fetch_at}
use Rattle.xt_rows.specs.Settling.{settled_interrupt, settled_wait}
use Rattle.xt_frames.specs.declared.holes.Nested.{Nested}
use Rattle.xt_frames.specs.Frames.{Frame, FrameState}
use Rattle.xt_frames.specs.FrameStep.{FrameTurn, fetched_step, in_frame, step_with_inputs}
use Rattle.xt_frames.specs.Breaches.{Bounds, first_shown, insn_tests, is_movsp, is_sp, may_write_sp, writes_sp}
use Rattle.xt_frames.specs.Stacks.{Stack}
use Rattle.xt_frames.proofs.Shown.{NoneShown, none_shown}
use Rattle.xt_frames.proofs.StackSteps.{step_fetches, step_taken, step_waits}
use Rattle.xt_uses.specs.declared.discipline.Discipline.{Discipline}
use Rattle.xt_uses.specs.Words.{Word, all_bits, is_whole}
use Rattle.xt_uses.specs.Used.{used_are_known, shift_used}
use Rattle.xt_uses.specs.Known.{result_mask, shift_mask}
use Rattle.xt_uses.specs.UseState.{UseState, first_word, second_word}
use Rattle.xt_uses.specs.UseStep.{cut_state, step_insn, fetched_movsp, movsp_of, turn_or, use_turn}
use Rattle.xt_uses.specs.UseBreaches.{breaks_stack, fetched_uses, laid_use, nowhere, reads_mark, reads_no_number, swaps_unknown, use_tests, uses_unknown}
use Rattle.xt_uses.specs.UseParts.{register_of}
use Rattle.xt_uses.proofs.UseChains.{movsp_form, no_movsp}
use Rattle.xt_uses.proofs.UseTests.{use_fetches}
use Rattle.xt_uses.proofs.UseStacks.{SameStack, cut_stack}

-- ---- each bit of a1 is known
pub sp_mask : (by : Discipline) (i : Insn) (x y w : Word) (pointer reply : ℕ) → may_write_sp i ≡ true → used_are_known by i x y ≡ true → result_mask by i x y w pointer reply ≡ all_bits
unfolding may_write_sp result_mask shift_mask used_are_known shift_used
sp_mask by (insn.Control (control.Entry number size)) x y w pointer reply e k = refl
sp_mask by (insn.Shift (shift.Movsp t s)) x y w pointer reply e k = cond-true (is_whole x) all_bits 0 k
sp_mask by _ x y w pointer reply e k = absurd cc

-- what the tests say of it
pub used_known : (i : Insn) (s : UseState) (g : FrameState) → uses_unknown i s g ≡ false → used_are_known s.masks.discipline i (first_word i s g) (second_word i s g) ≡ true
used_known i s g e =
    let a = or_parts (reads_mark g.nested i) (reads_no_number i g || not (used_are_known s.masks.discipline i (first_word i s g) (second_word i s g))) e in
    not-false _ (or_parts (reads_no_number i g) (not (used_are_known s.masks.discipline i (first_word i s g) (second_word i s g))) a.1).1

pub may_write : (i : Insn) (shown w : Option RegWrite) → writes_sp i shown w ≡ false → is_sp w ≡ true → may_write_sp i ≡ true
may_write i shown w e one = by_case (may_write_sp i) refl
  where
    by_case : (b : Bool) → may_write_sp i ≡ b → may_write_sp i ≡ true
    by_case true k = k
    by_case false k = absurd (both_ways (is_sp w) (or_parts (is_sp shown) (is_sp w) (sym (ap (λ (b : Bool). not b && (is_sp shown || is_sp w)) k) ∙ e)).1 one)

pub first_two : (unset stale movsp : Bool) (b : Bounds) (fresh : Bool) (live : ℕ → Bool) (i : Insn) (rec : StepRecord) (g : FrameState) (u : FrameTurn)
    → NoneShown (use_tests unset stale movsp (insn_tests b fresh live nowhere i rec g u)) → (unset ≡ false) × (writes_sp i rec.write u.write ≡ false)
first_two unset stale movsp b fresh live i rec g u (a0, (a1, more)) = (a0, a1)

-- ---- the cut
pub cut_keeps : (lo hi mask : ℕ) (w : Option RegWrite) (o : Option Nested) (f : FrameState) → Stack lo hi f.seen f.frames → (is_sp w ≡ true → mask ≡ all_bits) → SameStack lo hi f.seen (cut_state mask w o f).seen f.frames
cut_keeps lo hi mask w None f k whole = cut_stack lo hi f.seen f.frames mask w k whole
cut_keeps lo hi mask w (Some x) f k whole = (k, refl)

cut_frames : (mask : ℕ) (w : Option RegWrite) (o : Option Nested) (f : FrameState) → (cut_state mask w o f).frames ≡ f.frames
cut_frames mask w None f = refl
cut_frames mask w (Some x) f = refl

-- ---- what has been executed
executed_fails : (k : StepKind) (a : ℕ) → step_insn k (Fails a) ≡ None
unfolding step_insn
executed_fails kind.Insn a = refl
executed_fails _ a = refl

executed_nothing : (k : StepKind) → step_insn k SpellsNothing ≡ None
unfolding step_insn
executed_nothing kind.Insn = refl
executed_nothing _ = refl

executed_is : (k : StepKind) (i : Insn) (len : ℕ) (j : Insn) → step_insn k (Fetches i len) ≡ Some j → i ≡ j
unfolding step_insn
executed_is kind.Insn i len j e = cc
executed_is _ i len j e = absurd cc

executed_interrupt : (level : ℕ) (at : Fetched) → step_insn (kind.Interrupt level) at ≡ None
unfolding step_insn
executed_interrupt level at = refl

executed_wait : (at : Fetched) → step_insn kind.Wait at ≡ None
unfolding step_insn
executed_wait at = refl

may_write_movsp : (t s : ℕ) → may_write_sp (insn.Shift (shift.Movsp t s)) ≡ true
unfolding may_write_sp
may_write_movsp t s = refl

pub is_sp_same : (w v : Option RegWrite) → register_of w ≡ register_of v → is_sp w ≡ is_sp v
is_sp_same None None e = refl
is_sp_same None (Some v) e = absurd cc
is_sp_same (Some w) None e = absurd cc
is_sp_same (Some w) (Some v) e = let same : w.reg ≡ v.reg = cc in ap (λ n. eqb n 1) same

-- ---- where a1 is written, each bit of it is known
module _ (b : Bounds) (fresh : Bool) (live : ℕ → Bool) (bytes : ℕ → ℕ) (rec : StepRecord) (code : ℕ → ℕ) (s : UseState) (g : FrameState) where
  abbrev IsWhole : Insn → Type 0
  IsWhole j = (w : Word) (pointer reply : ℕ) → result_mask s.masks.discipline j (first_word j s g) (second_word j s g) w pointer reply ≡ all_bits

  whole_fetched : (at : Fetched) (k : StepKind) → NoneShown (fetched_uses b fresh live bytes at rec s g (fetched_step at code rec.reply g))
      → (o : Option FrameTurn) → (o ≡ None) ⊎ (o ≡ fetched_movsp at g)
      → (j : Insn) → step_insn k at ≡ Some j → is_sp (turn_or o (fetched_step at code rec.reply g)).write ≡ true → IsWhole j
  whole_fetched (Fails a) k none o which j e sp = absurd (none-some j (sym (executed_fails k a) ∙ e))
  whole_fetched SpellsNothing k none o which j e sp = absurd (none-some j (sym (executed_nothing k) ∙ e))
  whole_fetched (Fetches i len) k none o which j e sp = λ w pointer reply.
      let same = executed_is k i len j e in
      let u = fetched_step (Fetches i len) code rec.reply g in
      let two = first_two (uses_unknown i s g) (swaps_unknown bytes rec.access) (breaks_stack b.range i rec.kind g) b fresh live i rec g u none in
      let used = used_known i s g two.0 in
      let by_none : o ≡ None → may_write_sp i ≡ true = λ n. may_write i rec.write u.write two.1 (sym (ap (λ (x : Option FrameTurn). is_sp (turn_or x u).write) n) ∙ sp) in
      let here : may_write_sp i ≡ true = ⊎_elim
      by_none
      (λ is. ⊎_elim
      (λ m. let form = movsp_form i m in ap may_write_sp form.2 ∙ may_write_movsp form.0 form.1)
      (λ m. by_none (is ∙ no_movsp i len g m))
      (cases_Bool (is_movsp i)))
      which in
      subst (λ (x : Insn). result_mask s.masks.discipline x (first_word x s g) (second_word x s g) w pointer reply ≡ all_bits) same (sp_mask s.masks.discipline i (first_word i s g) (second_word i s g) w pointer reply here used)

  abbrev values : FrameTurn
  values = turn_or (movsp_of code g) (step_with_inputs code rec.reply g)

  pub whole_written : laid_use b fresh code live bytes rec s g ≡ None → (j : Insn) → step_insn values.kind (fetch_at code g.control.pc) ≡ Some j → is_sp values.write ≡ true → IsWhole j
  whole_written none j e sp =
      let reply = rec.reply in
      let at = fetch_at code g.control.pc in
      let L = step_with_inputs code reply g in
      let P = ltb 0 (pending_of g.control) in
      let W = g.control.waits in
      let N = is_some g.nested in
      let never : (t : FrameTurn) → values ≡ t → step_insn t.kind at ≡ None → IsWhole j = λ t is off. absurd (none-some j (sym (ap (λ (v : FrameTurn). step_insn v.kind at) is ∙ off) ∙ e)) in
      ⊎_elim
      (λ level.
      let off : movsp_of code g ≡ None = cond-true (N || (P || W)) None (fetched_movsp at g) (or_right N _ (or_left P W level)) in
      never (in_frame (settled_interrupt (pending_of g.control) g.control) reply g) (ap (λ (o : Option FrameTurn). turn_or o L) off ∙ step_taken code reply g level) (executed_interrupt (pending_of g.control) at))
      (λ quiet. ⊎_elim
      (λ w.
      let off : movsp_of code g ≡ None = cond-true (N || (P || W)) None (fetched_movsp at g) (or_right N _ (or_right P W w)) in
      never (in_frame (settled_wait g.control) reply g) (ap (λ (o : Option FrameTurn). turn_or o L) off ∙ step_waits code reply g quiet w) (executed_wait at))
      (λ w.
      let step = step_fetches code reply g quiet w in
      let h0 : first_shown (fetched_uses b fresh live bytes at rec s g L) ≡ None = sym (use_fetches b fresh code live bytes rec s g quiet w) ∙ none in
      let h1 = subst (λ (v : FrameTurn). first_shown (fetched_uses b fresh live bytes at rec s g v) ≡ None) step h0 in
      let which : (movsp_of code g ≡ None) ⊎ (movsp_of code g ≡ fetched_movsp at g) = ⊎_elim
      (λ n. inl (cond-true (N || (P || W)) None (fetched_movsp at g) (or_left N _ n)))
      (λ n. inr (cond-false (N || (P || W)) None (fetched_movsp at g) (or_from N _ n (or_from P W quiet w))))
      (cases_Bool N) in
      whole_fetched at values.kind (none_shown (fetched_uses b fresh live bytes at rec s g (fetched_step at code reply g)) h1) (movsp_of code g) which j e (subst (λ (v : FrameTurn). is_sp (turn_or (movsp_of code g) v).write ≡ true) step sp))
      (cases_Bool W))
      (cases_Bool P)

-- ---- past the cut
pub turn_stack : (lo hi : ℕ) (i : Option Insn) (reply : ℕ) (s : UseState) (g : FrameState) (u : FrameTurn) → Stack lo hi u.after.seen u.after.frames
    → ((j : Insn) → i ≡ Some j → is_sp u.write ≡ true → (use_turn (Some j) reply s g u).mask ≡ all_bits)
    → SameStack lo hi u.after.seen (use_turn i reply s g u).after.frame.seen (use_turn i reply s g u).after.frame.frames × ((use_turn i reply s g u).after.frame.frames ≡ u.after.frames)
turn_stack lo hi None reply s g u k whole = ((k, refl), refl)
turn_stack lo hi (Some j) reply s g u k whole =
    let mask = (use_turn (Some j) reply s g u).mask in
    let fs = cut_frames mask u.write u.after.nested u.after in
    (subst (λ (frames : List Frame). SameStack lo hi u.after.seen (cut_state mask u.write u.after.nested u.after).seen frames) (sym fs) (cut_keeps lo hi mask u.write u.after.nested u.after k (whole j refl)), fs)
