-- A turn outside window handlers that reads only what was written: what its step leaves, and what it shows.
use Rattle.std.proofs.Common.{◌≡◌, ℕ, Bool, false, ltb, ◌||◌, List, Option, Some, None, sym, subst}
use Rattle.xt_special.specs.Control.{Control}
use Rattle.xt_special.specs.Interrupts.{pending_of}
use Rattle.xt_trace.specs.declared.record.StepRecord.{StepRecord}
use Rattle.xt_map.specs.Fetching.{Fetches, fetch_at}
use Rattle.xt_isa.specs.declared.Insn.{Insn}
use Rattle.xt_frames.specs.declared.kinds.BreachKind.{BreachKind}
use Rattle.xt_frames.specs.Frames.{Frame, FrameState}
use Rattle.xt_frames.specs.FrameStep.{Inputs, with_inputs}
use Rattle.xt_frames.specs.Breaches.{Bounds, inputs_of}
use Rattle.xt_uses.specs.Words.{all_bits}
use Rattle.xt_uses.specs.UseState.{ValidityBits, UseState}
use Rattle.xt_uses.specs.UseStep.{reply_mask, use_step, value_step}
use Rattle.xt_uses.specs.UseBreaches.{swaps_unknown, use_breach, window_use}
use Rattle.xt_simulation.specs.WrittenFirst.{IsOther}
use Rattle.xt_simulation.proofs.WrittenMasks.{Known}
use Rattle.xt_simulation.proofs.WrittenSteps.{Passes, Reading, laid_other, plain_passes, window_other}

module _ (code : ℕ → ℕ) (rec : StepRecord) (bytes : ℕ → ℕ) (m : ValidityBits) (written : ℕ → Bool) where
  abbrev inp : Inputs
  inp = inputs_of rec

  -- what the step finds
  abbrev laid : FrameState → Control
  laid f = (with_inputs inp f).control

  abbrev Fetches_only : FrameState → Type 0
  Fetches_only f = (i : Insn) (len : ℕ) → fetch_at code (laid f).pc ≡ Fetches i len → Reading written f i

  abbrev Awake_only : FrameState → Type 0
  Awake_only f = (i : Insn) (len : ℕ) → fetch_at code (laid f).pc ≡ Fetches i len → (ltb 0 (pending_of (laid f)) || (laid f).waits) ≡ false → Reading written f i

  abbrev state : FrameState → UseState
  state f = record { frame = f; masks = m }

  module _ (b : Bounds) (fresh : Bool) (live : ℕ → Bool) where
    abbrev Step_of : FrameState → Type 0
    Step_of f = Known written f.frames f.unset m → Awake_only f → use_breach b fresh code live bytes false rec (state f) ≡ None
        → Passes written f (use_step code false rec bytes (state f)) (use_step code false rec bytes (state f)).after

    plain_step : (seen : List (Option ℕ)) (frames : List Frame) (control : Control) (unset : List Bool) → reply_mask bytes rec.access ≡ all_bits
        → Step_of (record { seen = seen; frames = frames; control = control; unset = unset; nested = None })
    unfolding value_step
    plain_step seen frames control unset known_reply w reads none =
        let x = plain_passes seen frames control unset m written w inp code b fresh live bytes rec (reply_mask bytes rec.access) known_reply reads none in
        record { known = x.known; stored = x.stored; mask = x.mask }

    pub step_passes : (f : FrameState) → f.nested ≡ None → reply_mask bytes rec.access ≡ all_bits → Step_of f
    step_passes f e known_reply = subst Step_of (λ i. record f { nested = sym e i }) (plain_step f.seen f.frames f.control f.unset known_reply)

    abbrev Shown_of : BreachKind → FrameState → Type 0
    Shown_of found f = Known written f.frames f.unset m → Awake_only f → use_breach b fresh code live bytes false rec (state f) ≡ Some found → IsOther found

    plain_shown : (found : BreachKind) → swaps_unknown bytes rec.access ≡ false → (seen : List (Option ℕ)) (frames : List Frame) (control : Control) (unset : List Bool)
        → Shown_of found (record { seen = seen; frames = frames; control = control; unset = unset; nested = None })
    plain_shown found swaps seen frames control unset w reads e = laid_other seen frames control unset m written w inp code b fresh live bytes rec found swaps reads e

    pub step_shows : (found : BreachKind) → swaps_unknown bytes rec.access ≡ false → (f : FrameState) → f.nested ≡ None → Shown_of found f
    step_shows found swaps f e = subst (Shown_of found) (λ i. record f { nested = sym e i }) (plain_shown found swaps f.seen f.frames f.control f.unset)

  -- the record of a window exception
  abbrev Window_of : BreachKind → FrameState → Type 0
  Window_of found f = Known written f.frames f.unset m → Fetches_only f → window_use code rec (state f) ≡ Some found → IsOther found

  plain_window : (found : BreachKind) (seen : List (Option ℕ)) (frames : List Frame) (control : Control) (unset : List Bool)
      → Window_of found (record { seen = seen; frames = frames; control = control; unset = unset; nested = None })
  unfolding window_use
  plain_window found seen frames control unset w reads e = window_other seen frames control unset m written w inp code rec found reads e

  pub window_shows : (found : BreachKind) (f : FrameState) → f.nested ≡ None → Window_of found f
  window_shows found f e = subst (Window_of found) (λ i. record f { nested = sym e i }) (plain_window found f.seen f.frames f.control f.unset)
