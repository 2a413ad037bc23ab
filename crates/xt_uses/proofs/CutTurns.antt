-- A judged step that shows no breach of uses keeps the values of the machine cut to their known bits; and a core opens so.
use Rattle.std.proofs.Common.{◌≡◌, ℕ, Bool, true, false, cond, ◌&&◌, List, Option, Some, None, refl, sym, subst, arith}
use Rattle.std.proofs.lemmas.Bool.{and_right}
use Rattle.xt_special.specs.Control.{Control}
use Rattle.xt_special.specs.Interrupts.{after_interrupt}
use Rattle.xt_trace.specs.declared.record.StepRecord.{StepRecord}
use Rattle.xt_map.specs.Fetching.{Fetched, fetch_at}
use Rattle.xt_frames.specs.declared.holes.Nested.{Nested}
use Rattle.xt_frames.specs.declared.kinds.BreachKind.{BreachKind}
use Rattle.xt_frames.specs.Frames.{Frame, FrameState}
use Rattle.xt_frames.specs.FrameStep.{Inputs, with_inputs}
use Rattle.xt_frames.specs.Nesting.{begins, current, is_nesting}
use Rattle.xt_frames.specs.Breaches.{Bounds, inputs_of}
use Rattle.xt_frames.specs.Judging.{value_in}
use Rattle.xt_uses.specs.UseState.{ValidityBits, UseState}
use Rattle.xt_uses.specs.UseStep.{UseTurn, step_insn, full_step, inner_unknown, other_turn, reply_mask, use_step, use_turn, value_step}
use Rattle.xt_uses.specs.UseBreaches.{laid_use, use_breach}
use Rattle.xt_uses.proofs.CutControl.{keeps_interrupt, keeps_tick, spared_same, spared_set}
use Rattle.xt_uses.proofs.CutInner.{inner_cut}
use Rattle.xt_uses.proofs.CutPlain.{plain_cut}
use Rattle.xt_uses.proofs.CutStates.{IsCut, cut_begun, cut_results, cut_spared}
use Rattle.xt_uses.proofs.Returning.{left_holds}

module _ (code : ℕ → ℕ) (b : Bounds) (fresh : Bool) (live : ℕ → Bool) (nested : Bool) (rec : StepRecord) (bytes : ℕ → ℕ) (m : ValidityBits) where
  abbrev inp : Inputs
  inp = inputs_of rec

  abbrev value : ℕ
  value = value_in rec.write

  abbrev at : FrameState → Fetched
  at f = fetch_at code (with_inputs inp (current f)).control.pc

  abbrev used : FrameState → Bool → UseTurn
  used f starts =
      let s : UseState = record { frame = f; masks = m } in
      let u = value_step code false value inp f in
      cond starts
      (other_turn (inner_unknown m) (value_step code true value inp f))
      (use_turn (step_insn u.kind (at f)) (reply_mask bytes rec.access) s (with_inputs inp (current f)) u)

  abbrev shown : FrameState → Bool → Option BreachKind
  shown f starts = cond {A = Option BreachKind} starts None (laid_use b fresh code live bytes rec (record { frame = f; masks = m }) (with_inputs inp (current f)))

  abbrev Keeps_cut : FrameState → Bool → Type 0
  Keeps_cut f starts = shown f starts ≡ None → IsCut (used f starts).after.frame (used f starts).after.masks

  module _ (seen : List (Option ℕ)) (frames : List Frame) (control : Control) (unset : List Bool) where
    abbrev plain : FrameState
    plain = record { seen = seen; frames = frames; control = control; unset = unset; nested = None }

    starts : IsCut plain m → Keeps_cut plain true
    unfolding value_step after_interrupt
    starts w none =
        let g : FrameState = with_inputs inp plain in
        let k = keeps_tick g.control (after_interrupt 5 g.control) (keeps_interrupt 5 g.control (omega arith)) in
        let laid_cut = cut_spared w g.control.special (spared_set control.special _ 226 inp.interrupt refl (spared_set control.special control.special 234 inp.ccount refl (spared_same control.special))) control.threadptr refl in
        cut_begun (cut_spared laid_cut _ k.special _ k.threadptr) _ _ refl refl

    goes_on : IsCut plain m → Keeps_cut plain false
    unfolding value_step
    goes_on w none = plain_cut seen frames control unset m w inp code b fresh live bytes rec (reply_mask bytes rec.access) none

    plain_keeps : IsCut plain m → (starts : Bool) → Keeps_cut plain starts
    plain_keeps w true = starts w
    plain_keeps w false = goes_on w

    module _ (x : Nested) where
      abbrev within : FrameState
      within = record { seen = seen; frames = frames; control = control; unset = unset; nested = Some x }

      inner_keeps : IsCut within m → Keeps_cut within false
      unfolding value_step
      inner_keeps w none = inner_cut seen frames control unset x m w inp value code b fresh live bytes rec (reply_mask bytes rec.access) none

  abbrev Keeps_of : FrameState → Type 0
  Keeps_of f = IsCut f m → Keeps_cut f (begins nested rec.kind f)

  with_nested : (f : FrameState) (n : Option Nested) → f.nested ≡ n → Keeps_of f
  with_nested f None e = subst Keeps_of (λ i. record f { nested = sym e i }) (λ w. plain_keeps f.seen f.frames f.control f.unset w (begins nested rec.kind (record f { nested = None })))
  with_nested f (Some x) e = subst Keeps_of (λ i. record f { nested = sym e i })
      (λ w. subst
      (λ starts. Keeps_cut (record f { nested = Some x }) starts)
      (sym (and_right nested (is_nesting rec.kind && false) (and_right (is_nesting rec.kind) false refl)))
      (inner_keeps f.seen f.frames f.control f.unset x w))

  cut_full : (f : FrameState) → IsCut f m → use_breach b fresh code live bytes nested rec (record { frame = f; masks = m }) ≡ None
      → (let t : UseTurn = full_step code nested rec bytes (record { frame = f; masks = m }) in IsCut t.after.frame t.after.masks)
  cut_full f w none = with_nested f f.nested refl w none

  -- and past a return that forgets registers
  pub cut_kept : (f : FrameState) → IsCut f m → use_breach b fresh code live bytes nested rec (record { frame = f; masks = m }) ≡ None
      → (let t : UseTurn = use_step code nested rec bytes (record { frame = f; masks = m }) in IsCut t.after.frame t.after.masks)
  cut_kept f w none =
      let s : UseState = record { frame = f; masks = m } in
      let u = (full_step code nested rec bytes s).after in
      let c = cut_full f w none in
      left_holds (λ t. IsCut t.frame t.masks) (step_insn (full_step code nested rec bytes s).turn.kind (at f)) s u c (cut_results f.frames u c)
