-- The machine of uses over two records that differ in OWB alone: a step outside nested interrupts, and the one that begins one.
use Rattle.std.specs.Prelude.{is_some}
use Rattle.std.proofs.Common.{◌≡◌, ℕ, ◌%◌, ◌<◌, ◌||◌, ltb, Bool, true, false, List, Option, Some, None, sym, ap, ◌∙◌, refl, arith, subst, cond}
use Rattle.std.proofs.lemmas.Option.{same_Some}
use Rattle.xt_isa.specs.declared.Insn.{Insn}
use Rattle.xt_isa.specs.declared.Insn.TheVariants as insn
use Rattle.xt_isa.specs.declared.shift.Shift.TheVariants as shift
use Rattle.xt_special.specs.declared.ps.Ps.{Ps}
use Rattle.xt_special.specs.Control.{Control}
use Rattle.xt_special.specs.Interrupts.{after_interrupt, pending_level, pending_of}
use Rattle.xt_special.specs.Shape.{IsPs}
use Rattle.xt_trace.specs.declared.record.StepKind.{StepKind}
use Rattle.xt_trace.specs.declared.record.StepKind.TheVariants as step
use Rattle.xt_trace.specs.declared.record.StepRecord.{StepRecord}
use Rattle.xt_map.specs.Fetching.{Fetched, Fetches, Fails, SpellsNothing, fetch_at}
use Rattle.xt_rows.specs.Effects.{puts, no_change}
use Rattle.xt_frames.specs.Frames.{FrameState, value_or_zero}
use Rattle.xt_frames.specs.FrameStep.{FrameTurn, with_inputs, step_with_inputs}
use Rattle.xt_frames.specs.Nesting.{is_nesting, unset_after}
use Rattle.xt_frames.specs.Breaches.{inputs_of}
use Rattle.xt_uses.specs.declared.discipline.Discipline.TheVariants.{Strict}
use Rattle.xt_uses.specs.UseState.{UseState}
use Rattle.xt_uses.specs.UseStep.{UseTurn, step_insn, fetched_movsp, full_step, movsp_of, reply_mask, stack_moved}
use Rattle.xt_simulation.proofs.Beginning.{use_begins}
use Rattle.xt_simulation.proofs.Following.{with_unset}
use Rattle.xt_simulation.proofs.MovspJudged.{use_moves}
use Rattle.xt_simulation.proofs.PlainStep.{use_plain}
use Rattle.xt_simulation.proofs.OwbControl.{ControlNear}
use Rattle.xt_simulation.proofs.OwbSteps.{StepsNear, done_steps, interrupt_near, laid_near, told}
use Rattle.xt_simulation.proofs.OwbUses.{UsesNear, mask_of, shown_mask, turns_near}

unset_near : {m : ℕ} {at : Fetched} {u v : FrameTurn} (old : List Bool) → StepsNear None m at u v → StepsNear None m at (with_unset (unset_after u.kind at old) u) (with_unset (unset_after v.kind at old) v)
unset_near {at = at} old n = record { kind = n.kind; access = n.access; frames = n.frames; unset = ap (λ k. unset_after k at old) n.kind; first = n.first; nested = n.nested; control = n.control; seen = n.seen }

-- in place of PC and PS, which are kept
pub placed_near : {c d : Control} (pc w : ℕ) (p : Ps) → ControlNear c d → ControlNear (record c { pc = pc; ps = p }) (record d { pc = pc; ps = record p { owb = w } })
placed_near pc w p n = record {
  even = λ z. let e = n.even z in record { pc = refl; ps = refl; threadptr = e.threadptr; waits = e.waits; special = e.special };
  saved = n.saved;
}

-- ---- the mask of the instruction that is fetched
abbrev pub mask_for : ℕ → UseState → FrameState → Fetched → ℕ
mask_for k s h (Fetches i len) = mask_of i k s h
mask_for k s h at = 0

pub executed_mask : (k : ℕ) (s : UseState) (h : FrameState) (kind : StepKind) (at : Fetched) (i : Insn) → step_insn kind at ≡ Some i → mask_for k s h at ≡ mask_of i k s h
unfolding step_insn
executed_mask k s h step.Insn (Fetches j len) i e = ap (λ z. mask_of z k s h) (same_Some j i e)
executed_mask k s h step.Insn (Fails a) i e = absurd cc
executed_mask k s h step.Insn SpellsNothing i e = absurd cc
executed_mask k s h _ at i e = absurd cc

abbrev OptNear : ℕ → Fetched → Option FrameTurn → Option FrameTurn → Type 0
OptNear m at None None = Unit {0}
OptNear m at (Some u) (Some v) = StepsNear None m at u v
OptNear m at _ _ = ⊥

module _ (code : ℕ → ℕ) (rec : StepRecord) (w : ℕ) (kb : ℕ → ℕ) (s : UseState) (strict : s.masks.discipline ≡ Strict) (sn : s.frame.nested ≡ None) where
  abbrev rec2 : StepRecord
  rec2 = record rec { owb = w }

  abbrev h : FrameState
  h = with_inputs (inputs_of rec) s.frame

  abbrev k : ℕ
  k = reply_mask kb rec.access

  abbrev at : Fetched
  at = fetch_at code h.control.pc

  abbrev m : ℕ
  m = mask_for k s h at

  -- ---- MOVSP
  opt_if : (b : Bool) (x y : Option FrameTurn) → OptNear m at x y → OptNear m at (cond b None x) (cond b None y)
  opt_if true x y n = tt
  opt_if false x y n = n

  fetched_opt : (here : Fetched) → at ≡ here → OptNear m at (fetched_movsp here h) (fetched_movsp here (told (w % 16) h))
  unfolding fetched_movsp
  fetched_opt (Fetches (insn.Shift (shift.Movsp t q)) len) e =
      let i : Insn = insn.Shift (shift.Movsp t q) in
      let u : FrameTurn = stack_moved t (value_or_zero h.seen q) len h in
      let v : FrameTurn = stack_moved t (value_or_zero h.seen q) len (told (w % 16) h) in
      let n : StepsNear h.nested m (Fetches i len) u v = done_steps m i len (w % 16) h
      (puts t (value_or_zero h.seen q) (no_change h.control.ps h.control.threadptr)) (puts t (value_or_zero h.seen q) (no_change (record h.control.ps { owb = w % 16 }) h.control.threadptr)) 0
      (record { write = (refl, refl); sets = refl; ps = λ z. refl; threadptr = refl; flow = refl; waits = refl }) in
      subst (λ z. StepsNear None m z u v) (sym e) (subst (λ o. StepsNear o m (Fetches i len) u v) sn n)
  fetched_opt _ e = tt

  moves_opt : OptNear m at (movsp_of code h) (movsp_of code (told (w % 16) h))
  unfolding pending_level
  moves_opt = opt_if (is_some h.nested || (ltb 0 (pending_of h.control) || h.control.waits)) _ _ (fetched_opt at refl)

  module _ (is : IsPs h.control.ps) (small : w % 16 < 16) where
    laid_steps : StepsNear None m at (step_with_inputs code rec.reply h) (step_with_inputs code rec.reply (told (w % 16) h))
    laid_steps =
        subst (λ o. StepsNear o m at (step_with_inputs code rec.reply h) (step_with_inputs code rec.reply (told (w % 16) h))) sn
        (laid_near m code rec.reply (w % 16) h is small (λ i len e shows. ap (mask_for k s h) e ∙ shown_mask i k s h strict shows))

    near_of : {x y t u : UseTurn} → x ≡ t → y ≡ u → UsesNear t u → UsesNear x y
    near_of {x = x} {u = u} e f n = subst (UsesNear x) (sym f) (subst (λ z. UsesNear z u) (sym e) n)

    pub plain_near : UsesNear (full_step code false rec kb s) (full_step code false rec2 kb s)
    plain_near = by (movsp_of code h) (movsp_of code (told (w % 16) h)) refl refl moves_opt
      where
        by : (x y : Option FrameTurn) → movsp_of code h ≡ x → movsp_of code (told (w % 16) h) ≡ y → OptNear m at x y → UsesNear (full_step code false rec kb s) (full_step code false rec2 kb s)
        by None None e f n =
            near_of (use_plain code rec kb s sn e) (use_plain code rec2 kb s sn f)
            (turns_near k (w % 16) s h m _ _ at (λ i q. executed_mask k s h _ at i q) (unset_near s.frame.unset laid_steps))
        by (Some u) (Some v) e f n = near_of (use_moves code rec kb s u sn e) (use_moves code rec2 kb s v sn f) (turns_near k (w % 16) s h m u v at (λ i q. executed_mask k s h u.kind at i q) n)
        by None (Some v) e f n = absurd n
        by (Some u) None e f n = absurd n

    -- ---- the beginning of a nested interrupt
    pub begins_near : is_nesting rec.kind ≡ true → UsesNear (full_step code true rec kb s) (full_step code true rec2 kb s)
    unfolding after_interrupt
    begins_near nesting =
        near_of (use_begins code rec kb s nesting sn) (use_begins code rec2 kb s nesting sn)
        (record {
          kind = refl;
          write = refl;
          access = refl;
          mask = refl;
          stored = refl;
          masks = refl;
          frame = record {
            seen = refl;
            frames = refl;
            unset = refl;
            control = placed_near h.control.pc (w % 16) h.control.ps (interrupt_near 5 (w % 16) h.control (omega arith) (omega arith) is small);
            nested = record { seen = refl; pc = refl; ps = refl; marks = refl; saved = refl };
          };
        })
