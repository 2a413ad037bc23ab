-- The chain of stack pointers past a whole step of the machine of uses.
use Rattle.std.specs.Prelude.{is_some}
use Rattle.std.proofs.Common.{◌≡◌, ◌||◌, ℕ, ◌<◌, Bool, true, false, ltb, List, ◌∷◌, Option, Some, None, ⊎_elim, refl, sym, ◌∙◌, ap, subst}
use Rattle.std.proofs.Math.ListN.{set}
use Rattle.std.proofs.lemmas.Bool.{cases_Bool, cond-true, cond-false, or_from, or_left, or_right}
use Rattle.xt_isa.specs.declared.Insn.{Insn}
use Rattle.xt_isa.specs.declared.Insn.TheVariants as insn
use Rattle.xt_isa.specs.declared.shift.Shift.TheVariants as shift
use Rattle.xt_isa.specs.Ranges.{in_range}
use Rattle.xt_special.specs.Interrupts.{pending_of}
use Rattle.xt_trace.specs.declared.record.StepRecord.{StepRecord}
use Rattle.xt_map.specs.Fetching.{Fetched, Fetches, Fails, SpellsNothing, fetch_at}
use Rattle.xt_rows.specs.Settling.{settled_interrupt, settled_wait}
use Rattle.xt_frames.specs.Frames.{Frame, FrameState, value_or_zero}
use Rattle.xt_frames.specs.FrameStep.{FrameTurn, fetched_step, in_frame, step_with_inputs}
use Rattle.xt_frames.specs.SaveAreas.{Range}
use Rattle.xt_frames.specs.Breaches.{Bounds, first_shown, insn_tests, is_movsp}
use Rattle.xt_frames.specs.Stacks.{Moves, Stack, Stays, Calls, Leaves}
use Rattle.xt_frames.proofs.Shown.{Keeping, NoneShown, none_shown}
use Rattle.xt_frames.proofs.StackSteps.{KeepsChain, fetched_keeps, stays, step_fetches, step_taken, step_waits}
use Rattle.xt_uses.specs.UseState.{UseState}
use Rattle.xt_uses.specs.UseStep.{fetched_movsp, movsp_of, stack_moved, turn_or}
use Rattle.xt_uses.specs.UseBreaches.{breaks_stack, fetched_uses, laid_use, nowhere, swaps_unknown, use_tests, uses_unknown}
use Rattle.xt_uses.specs.UseParts.{UseMoves}
use Rattle.xt_uses.specs.UseParts as use_moves
use Rattle.xt_uses.proofs.UseStacks.{KeepsStack, keeps_by_movsp, moved_stack, use_keeping, use_movsp}
use Rattle.xt_uses.proofs.UseTests.{use_fetches}

abbrev pub UseChain : Range → FrameState → FrameTurn → Type 0
UseChain r g u = Stack r.lo r.hi u.after.seen u.after.frames × UseMoves g u.after

as_moves : (g u : FrameState) → Moves g u → UseMoves g u
as_moves g u (Stays frames sp) = use_moves.Stands frames
as_moves g u (Calls f frames sp) = use_moves.Calls f frames sp
as_moves g u (Leaves f frames sp) = use_moves.Leaves f frames sp

as_chain : (r : Range) (g : FrameState) (u : FrameTurn) → KeepsChain r g u → UseChain r g u
as_chain r g u (k, m) = (k, as_moves g u.after m)

-- ---- which instruction is MOVSP
pub movsp_form : (i : Insn) → is_movsp i ≡ true → (t : ℕ) × (s : ℕ) × (i ≡ insn.Shift (shift.Movsp t s))
unfolding is_movsp
movsp_form (insn.Shift (shift.Movsp t s)) e = (t, s, refl)
movsp_form _ e = absurd cc

pub no_movsp : (i : Insn) (len : ℕ) (g : FrameState) → is_movsp i ≡ false → fetched_movsp (Fetches i len) g ≡ None
unfolding is_movsp fetched_movsp
no_movsp (insn.Shift (shift.Movsp t s)) len g e = absurd cc
no_movsp _ len g e = refl

pub made_movsp : (t s len : ℕ) (g : FrameState) → fetched_movsp (Fetches (insn.Shift (shift.Movsp t s)) len) g ≡ Some (stack_moved t (value_or_zero g.seen s) len g)
unfolding fetched_movsp
made_movsp t s len g = refl

pub none_fails : (a : ℕ) (g : FrameState) → fetched_movsp (Fails a) g ≡ None
unfolding fetched_movsp
none_fails a g = refl

pub none_nothing : (g : FrameState) → fetched_movsp SpellsNothing g ≡ None
unfolding fetched_movsp
none_nothing g = refl

module _ (b : Bounds) (fresh : Bool) (live : ℕ → Bool) (bytes : ℕ → ℕ) (rec : StepRecord) (code : ℕ → ℕ) (s : UseState) (g : FrameState) (k : Stack b.range.lo b.range.hi g.seen g.frames) (calls : g.control.ps.callinc < 4) where
  -- MOVSP
  shifts : (t from len : ℕ) → KeepsStack b.range t from g → UseChain b.range g (stack_moved t (value_or_zero g.seen from) len g)
  shifts t from len m =
      let on : Stack b.range.lo b.range.hi g.seen (m.frame ∷ m.rest) = subst (λ (fs : List Frame). Stack b.range.lo b.range.hi g.seen fs) m.frames_are k in
      let moved = moved_stack b.range.lo b.range.hi g.seen m.frame m.rest (value_or_zero g.seen from) on m.aligned m.low m.under in
      let here : Stack b.range.lo b.range.hi (set g.seen 1 (Some (value_or_zero g.seen from))) g.frames = subst (λ (fs : List Frame). Stack b.range.lo b.range.hi (set g.seen 1 (Some (value_or_zero g.seen from))) fs) (sym m.frames_are) moved in
      (subst (λ (n : ℕ). Stack b.range.lo b.range.hi (set g.seen n (Some (value_or_zero g.seen from))) g.frames) (sym m.to_sp) here, use_moves.Stands refl)

  insn_chain : (i : Insn) (len reply : ℕ) → in_range i ≡ true
      → NoneShown (use_tests (uses_unknown i s g) (swaps_unknown bytes rec.access) (breaks_stack b.range i rec.kind g) (insn_tests b fresh live nowhere i rec g (fetched_step (Fetches i len) code reply g)))
      → UseChain b.range g (turn_or (fetched_movsp (Fetches i len) g) (fetched_step (Fetches i len) code reply g))
  insn_chain i len reply ok none = by_kind (is_movsp i) refl
    where
      by_kind : (m : Bool) → is_movsp i ≡ m → UseChain b.range g (turn_or (fetched_movsp (Fetches i len) g) (fetched_step (Fetches i len) code reply g))
      by_kind true e =
          let form = movsp_form i e in
          let quiet : breaks_stack b.range i rec.kind g ≡ false = use_movsp (uses_unknown i s g) (swaps_unknown bytes rec.access) (breaks_stack b.range i rec.kind g) b fresh live i rec g (fetched_step (Fetches i len) code reply g) none in
          let m = keeps_by_movsp b.range form.0 form.1 rec.kind g (sym (ap (λ (j : Insn). breaks_stack b.range j rec.kind g) form.2) ∙ quiet) in
          let made : fetched_movsp (Fetches i len) g ≡ Some (stack_moved form.0 (value_or_zero g.seen form.1) len g) = ap (λ (j : Insn). fetched_movsp (Fetches j len) g) form.2 ∙ made_movsp form.0 form.1 len g in
          subst (λ (o : Option FrameTurn). UseChain b.range g (turn_or o (fetched_step (Fetches i len) code reply g))) (sym made) (shifts form.0 form.1 len m)
      by_kind false e =
          let keeping = use_keeping (uses_unknown i s g) (swaps_unknown bytes rec.access) (breaks_stack b.range i rec.kind g) b fresh live i rec g (fetched_step (Fetches i len) code reply g) e none in
          let P : Fetched → Type 0 = λ x. (j : Insn) (n : ℕ) → x ≡ Fetches j n → Keeping b j rec g (fetched_step (Fetches j n) code reply g) in
          let all : P (Fetches i len) = λ j n same. let to : i ≡ j = cc in let len_is : len ≡ n = cc in subst (λ (y : Insn × ℕ). Keeping b y.0 rec g (fetched_step (Fetches y.0 y.1) code reply g)) (let p : (i, len) ≡ (j, n) = cc in p) keeping in
          let in_all : (j : Insn) (n : ℕ) → Fetches i len ≡ Fetches j n → in_range j ≡ true = λ j n same. let to : i ≡ j = cc in subst (λ x. in_range x ≡ true) to ok in
          let chain = fetched_keeps b rec code g k calls (Fetches i len) reply in_all all in
          subst (λ (o : Option FrameTurn). UseChain b.range g (turn_or o (fetched_step (Fetches i len) code reply g))) (sym (no_movsp i len g e)) (as_chain b.range g (fetched_step (Fetches i len) code reply g) chain)

  at_chain : (at : Fetched) (reply : ℕ) → ((i : Insn) (len : ℕ) → at ≡ Fetches i len → in_range i ≡ true) → NoneShown (fetched_uses b fresh live bytes at rec s g (fetched_step at code reply g))
      → UseChain b.range g (turn_or (fetched_movsp at g) (fetched_step at code reply g))
  at_chain (Fetches i len) reply ok none = insn_chain i len reply (ok i len refl) none
  at_chain (Fails a) reply ok none =
      subst (λ (o : Option FrameTurn). UseChain b.range g (turn_or o (fetched_step (Fails a) code reply g))) (sym (none_fails a g)) (as_chain b.range g (fetched_step (Fails a) code reply g) (stays (fetched_step (Fails a) code reply g) k refl refl))
  at_chain SpellsNothing reply ok none =
      subst (λ (o : Option FrameTurn). UseChain b.range g (turn_or o (fetched_step SpellsNothing code reply g))) (sym (none_nothing g)) (as_chain b.range g (fetched_step SpellsNothing code reply g) (stays (fetched_step SpellsNothing code reply g) k refl refl))

-- the values of a step outside nested interrupts
pub plain_chain : (b : Bounds) (fresh : Bool) (code : ℕ → ℕ) (live : ℕ → Bool) (bytes : ℕ → ℕ) (rec : StepRecord) (s : UseState) (g : FrameState)
    → Stack b.range.lo b.range.hi g.seen g.frames → g.control.ps.callinc < 4 → g.nested ≡ None
    → ((i : Insn) (len : ℕ) → ltb 0 (pending_of g.control) ≡ false → g.control.waits ≡ false → fetch_at code g.control.pc ≡ Fetches i len → in_range i ≡ true)
    → laid_use b fresh code live bytes rec s g ≡ None → UseChain b.range g (turn_or (movsp_of code g) (step_with_inputs code rec.reply g))
plain_chain b fresh code live bytes rec s g k calls plain ok none =
    let reply = rec.reply in
    let r = b.range in
    let L = step_with_inputs code reply g in
    let P = ltb 0 (pending_of g.control) in
    let W = g.control.waits in
    let N = is_some g.nested in
    let quiet_nested : N ≡ false = ap (λ o. is_some o) plain in
    ⊎_elim
    (λ level.
    let off : movsp_of code g ≡ None = cond-true (N || (P || W)) None (fetched_movsp (fetch_at code g.control.pc) g) (or_right N _ (or_left P W level)) in
    let step = step_taken code reply g level in
    let t = in_frame (settled_interrupt (pending_of g.control) g.control) reply g in
    subst (λ (o : Option FrameTurn). UseChain r g (turn_or o L)) (sym off) (subst (UseChain r g) (sym step) (as_chain r g t (stays t k refl refl))))
    (λ quiet. ⊎_elim
    (λ w.
    let off : movsp_of code g ≡ None = cond-true (N || (P || W)) None (fetched_movsp (fetch_at code g.control.pc) g) (or_right N _ (or_right P W w)) in
    let step = step_waits code reply g quiet w in
    let t = in_frame (settled_wait g.control) reply g in
    subst (λ (o : Option FrameTurn). UseChain r g (turn_or o L)) (sym off) (subst (UseChain r g) (sym step) (as_chain r g t (stays t k refl refl))))
    (λ w.
    let at = fetch_at code g.control.pc in
    let on : movsp_of code g ≡ fetched_movsp at g = cond-false (N || (P || W)) None (fetched_movsp at g) (or_from N _ quiet_nested (or_from P W quiet w)) in
    let step = step_fetches code reply g quiet w in
    let h0 : first_shown (fetched_uses b fresh live bytes at rec s g L) ≡ None = sym (use_fetches b fresh code live bytes rec s g quiet w) ∙ none in
    let h1 = subst (λ (v : FrameTurn). first_shown (fetched_uses b fresh live bytes at rec s g v) ≡ None) step h0 in
    let chain = at_chain b fresh live bytes rec code s g k calls at reply (λ i len e. ok i len quiet w e) (none_shown (fetched_uses b fresh live bytes at rec s g (fetched_step at code reply g)) h1) in
    subst (λ (o : Option FrameTurn). UseChain r g (turn_or o L)) (sym on) (subst (λ (v : FrameTurn). UseChain r g (turn_or (fetched_movsp at g) v)) (sym step) chain))
    (cases_Bool W))
    (cases_Bool P)
