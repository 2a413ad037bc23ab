-- The next turn of one core, in any phase, beside the machine of uses.
use Rattle.std.proofs.Common.{◌≡◌, ℕ, Bool, true, false, not, None, sym, ap, ◌∙◌, refl, ⊎_elim, subst, cond}
use Rattle.std.proofs.lemmas.Bool.{both_ways, cases_Bool, cond-false, cond-true}
use Rattle.xt_map.specs.declared.contents.MemoryContents.{MemoryContents}
use Rattle.xt_map.specs.Memory.{byte_at}
use Rattle.xt_map.specs.Touching.{IsMemory}
use Rattle.xt_trace.specs.declared.record.StepRecord.{StepRecord}
use Rattle.xt_map.specs.Code.{AreBytes}
use Rattle.xt_exec.specs.State.{State}
use Rattle.xt_exec.specs.TurnLaws.{IsShaped}
use Rattle.xt_exec.specs.Turn.{demand, planned_turn}
use Rattle.xt_frames.specs.declared.kinds.HandlerPhase.{HandlerPhase}
use Rattle.xt_frames.specs.declared.kinds.HandlerPhase.TheVariants.{Outside, InHandler, Nested}
use Rattle.xt_frames.specs.HandlerSteps.{closes, is_window, phase_after, returns}
use Rattle.xt_frames.specs.Nesting.{is_nesting}
use Rattle.xt_frames.specs.SaveAreas.{is_live}
use Rattle.xt_frames.specs.Breaches.{Bounds, touches_save_area}
use Rattle.xt_frames.specs.FirstBreach.{is_judged}
use Rattle.xt_frames.specs.Verdict.{is_nested}
use Rattle.xt_frames.specs.Frames.{FrameState}
use Rattle.xt_frames.specs.Stacks.{AreFrames}
use Rattle.xt_simulation.specs.Cores.{Related}
use Rattle.xt_simulation.specs.Handling.{IsGood}
use Rattle.xt_simulation.specs.Relation.{lost_at}
use Rattle.xt_simulation.specs.JudgedSteps.{fresh_turn}
use Rattle.xt_simulation.specs.Steps.{memory_now, record_now, reply_now, state_now}
use Rattle.xt_simulation.specs.Walking.{Entered, entered_by}
use Rattle.xt_simulation.proofs.Judges.{record_access}
use Rattle.xt_simulation.proofs.OneCore.{Idle, InCore, core_stack, handles_idle, kind_now, onward_core, pc_now, plain_idle}
use Rattle.xt_simulation.specs.Knowing.{Knows}
use Rattle.xt_uses.specs.FirstUse.{handler_use, record_use}
use Rattle.xt_uses.specs.UseBreaches.{use_breach}
use Rattle.xt_uses.specs.UseState.{UseState}
use Rattle.xt_uses.specs.UseStep.{UseTurn, full_step, use_step}
use Rattle.xt_uses.specs.UseLaws.{RowsAgree}
use Rattle.xt_simulation.proofs.BeginJudged.{begin_judged, begin_last}
use Rattle.xt_simulation.proofs.Following.{RecordFits}
use Rattle.xt_simulation.proofs.Leaves.{knows_left}
use Rattle.xt_simulation.proofs.NestedJudged.{InnerUse}
use Rattle.xt_simulation.proofs.NestedWhole.{nested_judged}
use Rattle.xt_simulation.proofs.OneTurn.{InCoreUse, nested_some, no_nested}
use Rattle.xt_simulation.proofs.Operands.{AreMasks}
use Rattle.xt_simulation.proofs.PlainJudged.{plain_judged}
use Rattle.xt_simulation.proofs.PlainStep.{JudgedUse}
use Rattle.xt_simulation.proofs.Spared.{live_known, spared}
use Rattle.xt_simulation.proofs.WindowStep.{enters_use}

-- whether EPC1 has what was last written, where the next phase is outside handler steps
abbrev pub fresh_next : HandlerPhase → Bool → Bool → Bool
fresh_next Outside fresh judged = judged
fresh_next InHandler fresh judged = false
fresh_next Nested fresh judged = false

module _ (rows : RowsAgree) (code : ℕ → ℕ) (bytes : AreBytes code) (b : Bounds) (good : IsGood code b) (m : MemoryContents) (real : IsMemory m) (s : State) (shaped : IsShaped s) (us : UseState) (masks : AreMasks us)
    (live : ℕ → Bool) (own : (a : ℕ) → is_live b.range us.frame a ≡ true → live a ≡ true) (kb : ℕ → ℕ) where
  abbrev rec : StepRecord
  rec = record_now code m s

  abbrev step_in : HandlerPhase → UseTurn
  step_in phase = use_step code (is_nested phase) rec kb us

  abbrev use_next : HandlerPhase → UseState
  use_next phase = cond (is_judged phase rec.kind) (step_in phase).after us

  pub record CoreNext (phase : HandlerPhase) (fresh : Bool) : Type 0 where
    pub next : InCoreUse code (phase_after code phase rec) (memory_now code m s) b (fresh_next phase fresh (fresh_turn fresh code (reply_now code m s) s)) (state_now code m s) (use_next phase)
    -- live bytes of the other core stay
    pub other : (a : ℕ) → live a ≡ true → is_live b.range us.frame a ≡ false → byte_at (memory_now code m s) a ≡ byte_at m a
    -- a handler step changes live bytes alone
    pub idle : is_judged phase rec.kind ≡ false → (a : ℕ) → is_live b.range us.frame a ≡ false → byte_at (memory_now code m s) a ≡ byte_at m a
    pub fits : is_judged phase rec.kind ≡ true → RecordFits live kb rec (step_in phase)

  abbrev next_fresh : HandlerPhase → Bool → Bool
  next_fresh phase fresh = fresh_next phase fresh (fresh_turn fresh code (reply_now code m s) s)

  test_of : (phase : HandlerPhase) (lost judged : Bool) → is_judged phase rec.kind ≡ judged → record_use code b phase us lost live kb rec ≡ None → cond judged (use_breach b (not lost) code live kb (is_nested phase) rec us) (handler_use code phase rec us) ≡ None
  test_of phase lost judged e none = ap (λ z. cond z (use_breach b (not lost) code live kb (is_nested phase) rec us) (handler_use code phase rec us)) (sym e) ∙ none

  -- ---- a record that is not judged
  idle_next : (phase : HandlerPhase) (fresh : Bool) → is_judged phase rec.kind ≡ false → (f : FrameState) (e : Entered) → Knows f us → Idle code bytes b good m s shaped f e phase (next_fresh phase fresh) → CoreNext phase fresh
  idle_next phase fresh j f e k i = record {
    next = record {
      frame = f;
      entered = entered_by phase s m e;
      core = i.next;
      knows = subst (λ (u : UseState). Knows f u) (sym (cond-false (is_judged phase rec.kind) (step_in phase).after us j)) k;
    };
    other = λ a is dead. i.only a (live_known k b.range a ∙ dead);
    idle = λ no a dead. i.only a (live_known k b.range a ∙ dead);
    fits = λ judged. absurd (both_ways _ j judged);
  }

  -- ---- a judged step
  -- before a return forgets registers
  abbrev full : Bool → UseTurn
  full nested = full_step code nested rec kb us

  -- `before` is what the machine of uses knew, and f what it knows
  left_known : (nested : Bool) (before : FrameState) → Knows before us → AreFrames before.frames → (f : FrameState) → Knows f (full nested).after → Knows f (use_step code nested rec kb us).after
  left_known nested before k shaped f = knows_left _ before us k shaped f (full nested).after

  judged_next : (phase next : HandlerPhase) (fresh : Bool) → phase_after code phase rec ≡ next → is_judged phase rec.kind ≡ true → RecordFits live kb rec (full (is_nested phase)) → (f : FrameState) (e : Entered)
      → InCore code next (memory_now code m s) b (next_fresh phase fresh) (state_now code m s) f e → Knows f (step_in phase).after → CoreNext phase fresh
  judged_next phase next fresh is j fits f e core k = record {
    next = record {
      frame = f;
      entered = e;
      core = subst (λ (z : HandlerPhase). InCore code z (memory_now code m s) b (next_fresh phase fresh) (state_now code m s) f e) (sym is) core;
      knows = subst (λ (u : UseState). Knows f u) (sym (cond-true (is_judged phase rec.kind) (step_in phase).after us j)) k;
    };
    other = λ a is dead. spared live m (demand code s) (ap (touches_save_area live) (sym (record_access code s (reply_now code m s))) ∙ fits.saves) a is;
    idle = λ no. absurd (both_ways _ no j);
    fits = λ yes. record { saves = fits.saves; swaps = fits.swaps; kind = fits.kind; write = fits.write; access = fits.access; sent = fits.sent };
  }

  -- in a nested interrupt, which goes on or has ended
  inner_next : (phase : HandlerPhase) (fresh : Bool) → phase_after code phase rec ≡ cond (returns code (planned_turn code s).kind s.control.pc) InHandler Nested → is_judged phase rec.kind ≡ true → is_nested phase ≡ true
      → (before : FrameState) → Knows before us → AreFrames before.frames → (e : Entered) → InnerUse code b m s e.opened e.suspended live kb (full true) → CoreNext phase fresh
  inner_next phase fresh is j nested before k shaped e u =
      judged_next phase _ fresh is j (subst (λ z. RecordFits live kb rec (full z)) (sym nested) u.fits) u.frame (record e { before = u.left })
      (onward_core code (memory_now code m s) b (next_fresh phase fresh) (state_now code m s) u.frame (record e { before = u.left }) (returns code (planned_turn code s).kind s.control.pc) u.next)
      (subst (λ z. Knows u.frame (use_step code z rec kb us).after) (sym nested) (left_known true before k shaped u.frame u.knows))

  -- ---- each phase
  plain_turn : (lost : Bool) → InCoreUse code Outside m b (not lost) s us → record_use code b Outside us lost live kb rec ≡ None → CoreNext Outside (not lost)
  plain_turn lost h none = ⊎_elim
      (λ window.
      let j : is_judged Outside rec.kind ≡ false = ap not (ap is_window (kind_now code m s) ∙ window) in
      let w = enters_use code b m (not lost) s us l h.knows h.core.1 (no_nested h.knows h.core.1) shaped (test_of Outside lost false j none) in
      idle_next Outside (not lost) j w.frame h.entered w.knows
      (plain_idle code bytes b good m s shaped w.frame h.entered (not lost) (next_fresh Outside (not lost)) (w.somewhere, w.nested) window w.quiet))
      (λ no.
      let isnt : is_window rec.kind ≡ false = ap is_window (kind_now code m s) ∙ no in
      let u : JudgedUse code b (not lost) m s live kb (full false) = plain_judged rows code bytes b (not lost) s m shaped real no us (no_nested h.knows h.core.1) masks live own kb l h.knows h.core.1 (test_of Outside lost true (ap not isnt) none) in
      judged_next Outside Outside (not lost) (cond-false (is_window rec.kind) InHandler Outside isnt) (ap not isnt) u.fits u.frame h.entered
      (record { ring = u.ring; spilled = u.spilled; related = u.related }, u.nested) (left_known false h.frame h.knows l.stack.shaped u.frame u.knows))
      (cases_Bool (is_window (planned_turn code s).kind))
    where
      l : Related (byte_at m) b (lost_at (not lost) h.frame) s h.frame h.core.0.ring h.core.0.spilled
      l = h.core.0.related

  shaped_frames : (phase : HandlerPhase) (fresh : Bool) (h : InCoreUse code phase m b fresh s us) → AreFrames h.frame.frames
  shaped_frames phase fresh h = let stack = core_stack code phase m b fresh s h.frame h.entered h.core in stack.shaped

  -- within a window handler
  handles_turn : (lost : Bool) → InCoreUse code InHandler m b (not lost) s us → CoreNext InHandler (not lost)
  handles_turn lost h = ⊎_elim
      (λ nesting.
      let j : is_judged InHandler rec.kind ≡ true = ap is_nesting (kind_now code m s) ∙ nesting in
      let e : Entered = record h.entered { suspended = s } in
      let to : phase_after code InHandler rec ≡ cond (returns code (planned_turn code s).kind s.control.pc) InHandler Nested = cond-true (is_nesting rec.kind) Nested (cond (closes code rec.kind rec.pc) Outside InHandler) j ∙ ap (λ z. cond z InHandler Nested) (sym (begin_last code (planned_turn code s).kind s.control.pc nesting)) in
      inner_next InHandler (not lost) to j refl h.frame h.knows (shaped_frames InHandler (not lost) h) e
      (begin_judged code bytes b good m s us live kb (not lost) h.entered h.core h.knows (no_nested h.knows h.core.1) shaped nesting))
      (λ other. idle_next InHandler (not lost) (ap is_nesting (kind_now code m s) ∙ other) h.frame h.entered h.knows (handles_idle code bytes b good m s shaped h.frame h.entered (not lost) h.core real other))
      (cases_Bool (is_nesting (planned_turn code s).kind))

  -- in a nested interrupt
  nests_turn : (lost : Bool) → InCoreUse code Nested m b (not lost) s us → record_use code b Nested us lost live kb rec ≡ None → CoreNext Nested (not lost)
  nests_turn lost h none =
      let y = nested_some us.masks.inner h.frame.nested us.frame.nested h.core.x h.knows.nested h.core.nested in
      let now : returns code rec.kind rec.pc ≡ returns code (planned_turn code s).kind s.control.pc = ap (λ k. returns code k rec.pc) (kind_now code m s) ∙ ap (returns code (planned_turn code s).kind) (pc_now code m s) in
      inner_next Nested (not lost) (ap (λ z. cond z InHandler Nested) now) refl refl h.frame h.knows (shaped_frames Nested (not lost) h) h.entered
      (nested_judged rows code bytes b good (not lost) m s shaped h.entered.opened h.entered.suspended us y.0 y.1 masks live own kb h.core h.knows none)

  pub core_turn : (phase : HandlerPhase) (lost : Bool) → InCoreUse code phase m b (not lost) s us → record_use code b phase us lost live kb rec ≡ None → CoreNext phase (not lost)
  core_turn Outside lost h none = plain_turn lost h none
  core_turn InHandler lost h none = handles_turn lost h
  core_turn Nested lost h none = nests_turn lost h none
