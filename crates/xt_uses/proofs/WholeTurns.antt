-- A judged step that shows no breach of the stack discipline.
use Rattle.std.proofs.Common.{◌≡◌, ℕ, Bool, true, false, cond, ◌&&◌, List, Option, Some, None, refl, sym, ap, subst}
use Rattle.std.proofs.lemmas.Bool.{and_right}
use Rattle.xt_special.specs.Control.{Control}
use Rattle.xt_special.specs.Interrupts.{after_interrupt}
use Rattle.xt_trace.specs.declared.record.StepRecord.{StepRecord}
use Rattle.xt_map.specs.Fetching.{Fetched, fetch_at}
use Rattle.xt_frames.specs.declared.holes.Nested.{Nested}
use Rattle.xt_frames.specs.declared.kinds.BreachKind.{BreachKind}
use Rattle.xt_frames.specs.Frames.{Frame, FrameState}
use Rattle.xt_frames.specs.FrameStep.{FrameTurn, Inputs, with_inputs}
use Rattle.xt_frames.specs.Nesting.{begins, nested_entry, current, is_nesting, plain_turn, turn_in}
use Rattle.xt_frames.specs.Breaches.{Bounds, breach_of, inputs_of, laid_breach, loads_stale, touches_save_area}
use Rattle.xt_frames.specs.Judging.{step_on, value_in}
use Rattle.xt_uses.specs.Words.{all_bits}
use Rattle.xt_uses.specs.UseState.{ValidityBits, UseState}
use Rattle.xt_uses.specs.UseStep.{UseTurn, step_insn, full_step, inner_unknown, other_turn, reply_mask, turn_or, use_step, use_turn, value_step}
use Rattle.xt_uses.specs.Disciplines.{Lenient}
use Rattle.xt_uses.proofs.Returning.{lenient_left}
use Rattle.xt_uses.proofs.WholeLists.{AreWords, InnerAreWords}
use Rattle.xt_uses.proofs.WholeInner.{inner_holds}
use Rattle.xt_uses.proofs.WholePlain.{plain_holds, plain_movsp}
use Rattle.xt_uses.proofs.WholeStates.{IsWholeState, whole_begun}
use Rattle.xt_uses.proofs.WholeSteps.{Steps, other_steps}

module _ (code : ℕ → ℕ) (b : Bounds) (fresh : Bool) (live stale : ℕ → Bool) (nested : Bool) (rec : StepRecord) (bytes : ℕ → ℕ) (told : loads_stale live stale rec.access ≡ false → touches_save_area live rec.access ≡ false → reply_mask bytes rec.access ≡ all_bits) (m : ValidityBits) where
  abbrev inp : Inputs
  inp = inputs_of rec

  abbrev value : ℕ
  value = value_in rec.write

  abbrev at : FrameState → Fetched
  at f = fetch_at code (with_inputs inp (current f)).control.pc

  -- the step, where `starts` says whether a nested interrupt begins
  abbrev framed : FrameState → Bool → FrameTurn
  framed f starts = cond starts (nested_entry (with_inputs inp f)) (turn_in f.nested code value inp f)

  abbrev used : FrameState → Bool → UseTurn
  used f starts =
      let s : UseState = record { frame = f; masks = m } in
      let u = value_step code false value inp f in
      cond starts
      (other_turn (inner_unknown m) (value_step code true value inp f))
      (use_turn (step_insn u.kind (at f)) (reply_mask bytes rec.access) s (with_inputs inp (current f)) u)

  abbrev shown : FrameState → Bool → Option BreachKind
  shown f starts = cond {A = Option BreachKind} starts None (laid_breach b fresh code live stale rec (with_inputs inp (current f)))

  abbrev Holds : FrameState → Bool → Type 0
  Holds f starts = shown f starts ≡ None → AreWords (framed f starts).after.seen → InnerAreWords (framed f starts).after.nested → Steps f (at f) (framed f starts) (used f starts)

  -- ---- outside nested interrupts
  module _ (seen : List (Option ℕ)) (frames : List Frame) (control : Control) (unset : List Bool) where
    abbrev plain : FrameState
    plain = record { seen = seen; frames = frames; control = control; unset = unset; nested = None }

    starts : IsWholeState plain m → Holds plain true
    unfolding value_step after_interrupt
    starts w none words inner = other_steps plain (at plain) (nested_entry (with_inputs inp plain)) (inner_unknown m) (whole_begun w _ _ refl refl)

    goes_on : m.discipline ≡ Lenient → IsWholeState plain m → Holds plain false
    unfolding value_step
    goes_on lenient w none words inner = subst
        (λ o. (let u : FrameTurn = turn_or o (plain_turn code inp plain) in Steps plain (at plain) (plain_turn code inp plain) (use_turn (step_insn u.kind (at plain)) (reply_mask bytes rec.access) (record { frame = plain; masks = m }) (with_inputs inp plain) u)))
        (sym (plain_movsp seen frames control unset m w inp code b fresh live stale rec (reply_mask bytes rec.access) told none))
        (plain_holds seen frames control unset m w inp code b fresh live stale rec (reply_mask bytes rec.access) told lenient none words)

    plain_steps : m.discipline ≡ Lenient → IsWholeState plain m → (starts : Bool) → Holds plain starts
    plain_steps lenient w true = starts w
    plain_steps lenient w false = goes_on lenient w

    -- ---- in one
    module _ (x : Nested) where
      abbrev within : FrameState
      within = record { seen = seen; frames = frames; control = control; unset = unset; nested = Some x }

      inner_steps : m.discipline ≡ Lenient → IsWholeState within m → Holds within false
      unfolding value_step
      inner_steps lenient w none words inner = inner_holds seen frames control unset x m w inp value code b fresh live stale rec (reply_mask bytes rec.access) told lenient none words inner

  abbrev Steps_of : FrameState → Type 0
  Steps_of f = m.discipline ≡ Lenient → IsWholeState f m → Holds f (begins nested rec.kind f)

  with_nested : (f : FrameState) (n : Option Nested) → f.nested ≡ n → Steps_of f
  with_nested f None e = subst Steps_of (λ i. record f { nested = sym e i }) (λ lenient w. plain_steps f.seen f.frames f.control f.unset lenient w (begins nested rec.kind (record f { nested = None })))
  with_nested f (Some x) e = subst Steps_of (λ i. record f { nested = sym e i })
      (λ lenient w. subst
      (λ starts. Holds (record f { nested = Some x }) starts)
      (sym (and_right nested (is_nesting rec.kind && false) (and_right (is_nesting rec.kind) false refl)))
      (inner_steps f.seen f.frames f.control f.unset x lenient w))

  full_turn : (f : FrameState) → m.discipline ≡ Lenient → IsWholeState f m → breach_of b fresh code live stale nested rec f ≡ None
      → AreWords (step_on code nested rec f).after.seen → InnerAreWords (step_on code nested rec f).after.nested
      → Steps f (at f) (step_on code nested rec f) (full_step code nested rec bytes (record { frame = f; masks = m }))
  full_turn f lenient w none words inner = with_nested f f.nested refl lenient w none words inner

  pub turn_steps : (f : FrameState) → m.discipline ≡ Lenient → IsWholeState f m → breach_of b fresh code live stale nested rec f ≡ None
      → AreWords (step_on code nested rec f).after.seen → InnerAreWords (step_on code nested rec f).after.nested
      → Steps f (at f) (step_on code nested rec f) (use_step code nested rec bytes (record { frame = f; masks = m }))
  turn_steps f lenient w none words inner =
      let s : UseState = record { frame = f; masks = m } in
      let t = full_step code nested rec bytes s in
      subst (λ (u : UseState). Steps f (at f) (step_on code nested rec f) (record t { after = u }))
      (sym (lenient_left (step_insn t.turn.kind (at f)) s t.after lenient))
      (full_turn f lenient w none words inner)

  -- ---- the values of the step are those of the machine of frames
  abbrev Same : FrameState → Bool → Type 0
  Same f starts = shown f starts ≡ None → value_step code starts value inp f ≡ framed f starts

  module _ (seen : List (Option ℕ)) (frames : List Frame) (control : Control) (unset : List Bool) where
    plain_same : IsWholeState (plain seen frames control unset) m → (starts : Bool) → Same (plain seen frames control unset) starts
    unfolding value_step
    plain_same w true none = refl
    plain_same w false none = ap (λ o. turn_or o (plain_turn code inp (plain seen frames control unset))) (plain_movsp seen frames control unset m w inp code b fresh live stale rec (reply_mask bytes rec.access) told none)

    inner_same : (x : Nested) → Same (within seen frames control unset x) false
    unfolding value_step
    inner_same x none = refl

  abbrev Same_of : FrameState → Type 0
  Same_of f = IsWholeState f m → Same f (begins nested rec.kind f)

  same_nested : (f : FrameState) (n : Option Nested) → f.nested ≡ n → Same_of f
  same_nested f None e = subst Same_of (λ i. record f { nested = sym e i }) (λ w. plain_same f.seen f.frames f.control f.unset w (begins nested rec.kind (record f { nested = None })))
  same_nested f (Some x) e = subst Same_of (λ i. record f { nested = sym e i })
      (λ w. subst
      (λ starts. Same (record f { nested = Some x }) starts)
      (sym (and_right nested (is_nesting rec.kind && false) (and_right (is_nesting rec.kind) false refl)))
      (inner_same f.seen f.frames f.control f.unset x))

  pub same_values : (f : FrameState) → IsWholeState f m → breach_of b fresh code live stale nested rec f ≡ None → value_step code (begins nested rec.kind f) value inp f ≡ step_on code nested rec f
  same_values f w none = same_nested f f.nested refl w none
