-- One core beside a frame state, in each phase: a change of bytes that are not live for it, its handler steps, and what a nested step leaves.
use Rattle.std.proofs.Common.{◌≡◌, ℕ, Bool, true, false, cond, length, None, sym, ap, ◌∙◌, refl, arith, ⊎_elim, subst}
use Rattle.std.proofs.lemmas.Bool.{cond-true, cond-false, false_from_ne_true}
use Rattle.xt_map.specs.declared.contents.MemoryContents.{MemoryContents}
use Rattle.xt_map.specs.Memory.{byte_at}
use Rattle.xt_map.specs.Touching.{IsMemory}
use Rattle.xt_trace.specs.declared.record.StepRecord.{StepRecord}
use Rattle.xt_map.specs.Code.{AreBytes}
use Rattle.xt_exec.specs.State.{State}
use Rattle.xt_exec.specs.TurnLaws.{IsShaped}
use Rattle.xt_exec.specs.Turn.{planned_turn, turn}
use Rattle.xt_frames.specs.Frames.{FrameState}
use Rattle.xt_frames.specs.FrameStep.{with_inputs}
use Rattle.xt_frames.specs.Nesting.{is_nesting}
use Rattle.xt_frames.specs.SaveAreas.{Range, is_live}
use Rattle.xt_frames.specs.declared.kinds.HandlerPhase.{HandlerPhase}
use Rattle.xt_frames.specs.declared.kinds.HandlerPhase.TheVariants.{Outside, InHandler, Nested}
use Rattle.xt_frames.specs.HandlerSteps.{is_window, closes, phase_after}
use Rattle.xt_frames.specs.Breaches.{Bounds, window_breach}
use Rattle.xt_frames.specs.Stacks.{Stack}
use Rattle.xt_frames.specs.Judging.{step_on}
use Rattle.xt_simulation.specs.Relation.{inputs, lost_at}
use Rattle.xt_simulation.specs.Steps.{memory_after_step, record_now, state_now, memory_now}
use Rattle.xt_simulation.specs.InHandlers.{as_left}
use Rattle.xt_simulation.specs.Handling.{IsGood, Somewhere, Handling, HandlerStep, steps_on, closes_stretch}
use Rattle.xt_simulation.specs.Nested.{Suspends, Onward, StaysIn, GoesBack}
use Rattle.xt_simulation.specs.Walking.{Entered, entered_by, Apart}
use Rattle.xt_simulation.proofs.Begun.{stack_of}
use Rattle.xt_simulation.proofs.Chains.{related_spared, live_in_range}
use Rattle.xt_simulation.proofs.Handled.{stretches_are_entered, handler_steps_are_kept, handlers_are_spared}
use Rattle.xt_simulation.proofs.Suspended.{nested_begin, nested_are_spared}
use Rattle.xt_simulation.proofs.NestedSteps.{no_access}

abbrev pub InCore : (ℕ → ℕ) → HandlerPhase → MemoryContents → Bounds → Bool → State → FrameState → Entered → Type 0
InCore code Outside m b fresh s f e = Somewhere (byte_at m) b (lost_at fresh f) s f × (f.nested ≡ None)
InCore code InHandler m b fresh s f e = Handling code b m s f e.before e.opened × (f.nested ≡ None)
InCore code Nested m b fresh s f e = Suspends code b m s f e.before e.opened e.suspended

-- ---- the chain of stack pointers, and live bytes
handling_stack : {code : ℕ → ℕ} {b : Bounds} {m : MemoryContents} {s : State} {f : FrameState} {before : State} {opened : ℕ → ℕ} → Handling code b m s f before opened → Stack b.range.lo b.range.hi f.seen f.frames
handling_stack {b = b} {f = f} {before = before} {opened = opened} h = stack_of h.side b (lost_at h.fresh f) before f h.front h.g h.rest opened h.begins

pub core_stack : (code : ℕ → ℕ) (phase : HandlerPhase) (m : MemoryContents) (b : Bounds) (fresh : Bool) (s : State) (f : FrameState) (e : Entered) → InCore code phase m b fresh s f e → Stack b.range.lo b.range.hi f.seen f.frames
core_stack code Outside m b fresh s f e h = h.0.related.stack
core_stack code InHandler m b fresh s f e h = handling_stack h.0
core_stack code Nested m b fresh s f e h = handling_stack h.handling

-- those of two cores are apart
pub live_apart : (r q : Range) (f g : FrameState) (a : ℕ) → Apart r q → Stack r.lo r.hi f.seen f.frames → Stack q.lo q.hi g.seen g.frames → is_live q g a ≡ true → is_live r f a ≡ false
live_apart r q f g a apart k j h =
    let x = live_in_range q g a j h in
    false_from_ne_true (is_live r f a) (λ t. let y = live_in_range r f a k t in ⊎_elim (λ p. omega arith) (λ p. omega arith) apart)

-- ---- what a nested step leaves
pub onward_core : (code : ℕ → ℕ) (m : MemoryContents) (b : Bounds) (fresh : Bool) (s : State) (f : FrameState) (e : Entered) (last : Bool) → Onward code b m s f e.before e.opened e.suspended last → InCore code (cond last InHandler Nested) m b fresh s f e
onward_core code m b fresh s f e last (StaysIn is h) = subst (λ z. InCore code (cond z InHandler Nested) m b fresh s f e) (sym is) h
onward_core code m b fresh s f e last (GoesBack is none h) = subst (λ z. InCore code (cond z InHandler Nested) m b fresh s f e) (sym is) (h, none)

pub kind_now : (code : ℕ → ℕ) (m : MemoryContents) (s : State) → (record_now code m s).kind ≡ (planned_turn code s).kind
unfolding turn
kind_now code m s = refl

pub pc_now : (code : ℕ → ℕ) (m : MemoryContents) (s : State) → (record_now code m s).pc ≡ s.control.pc
unfolding turn
pc_now code m s = refl

module _ (code : ℕ → ℕ) (bytes : AreBytes code) (b : Bounds) (good : IsGood code b) where
  -- ---- a change of bytes that are not live for the core
  pub core_spared : (phase : HandlerPhase) (old new : MemoryContents) (fresh : Bool) (s : State) (f : FrameState) (e : Entered) → ((a : ℕ) → is_live b.range f a ≡ true → byte_at new a ≡ byte_at old a) → InCore code phase old b fresh s f e → InCore code phase new b fresh s f e
  core_spared Outside old new fresh s f e same h = (record { ring = h.0.ring; spilled = h.0.spilled; related = related_spared (byte_at old) (byte_at new) b f same h.0.related }, h.1)
  core_spared InHandler old new fresh s f e same h = (handlers_are_spared code bytes b good old new s f e.before e.opened h.0 same, h.1)
  core_spared Nested old new fresh s f e same h = nested_are_spared code bytes b good old new s f e.before e.opened e.suspended h same

  module _ (m : MemoryContents) (s : State) (shaped : IsShaped s) (f : FrameState) (e : Entered) where
    abbrev rec : StepRecord
    rec = record_now code m s

    -- ---- a record that is not judged: the frame machine stands still, and only its live bytes change
    pub record Idle (phase : HandlerPhase) (later : Bool) : Type 0 where
      pub next : InCore code (phase_after code phase rec) (memory_now code m s) b later (state_now code m s) f (entered_by phase s m e)
      pub only : (a : ℕ) → is_live b.range f a ≡ false → byte_at (memory_now code m s) a ≡ byte_at m a

    idle_to : (phase next : HandlerPhase) (later : Bool) → phase_after code phase rec ≡ next → InCore code next (memory_now code m s) b later (state_now code m s) f (entered_by phase s m e)
        → ((a : ℕ) → is_live b.range f a ≡ false → byte_at (memory_now code m s) a ≡ byte_at m a) → Idle phase later
    idle_to phase next later is h only = record { next = subst (λ (z : HandlerPhase). InCore code z (memory_now code m s) b later (state_now code m s) f (entered_by phase s m e)) (sym is) h; only = only }

    -- the record of a window exception
    pub plain_idle : (fresh later : Bool) → InCore code Outside m b fresh s f e → is_window (planned_turn code s).kind ≡ true → window_breach code (planned_turn code s).kind (with_inputs (inputs 0 s) f) ≡ None → Idle Outside later
    plain_idle fresh later h window none =
        let k = stretches_are_entered code bytes b good m fresh s f h.0.ring h.0.spilled 0 h.0.related shaped window none in
        let same : memory_now code m s ≡ m = ap (memory_after_step m) k.0 in
        idle_to Outside InHandler later (cond-true (is_window rec.kind) InHandler Outside (ap is_window (kind_now code m s) ∙ window))
        (subst (λ (y : MemoryContents). Handling code b y (state_now code m s) f s (byte_at m)) (sym same) k.1, h.1) (λ a dead. ap (λ (y : MemoryContents). byte_at y a) same)

    -- a handler step goes on or ends the stretch
    pub handles_idle : (fresh : Bool) → InCore code InHandler m b fresh s f e → IsMemory m → is_nesting (planned_turn code s).kind ≡ false → Idle InHandler false
    handles_idle fresh h real other = by_step (handler_steps_are_kept code bytes b good m s f e.before e.opened h.0 shaped real.sizes other)
      where
        to_phase : (last : Bool) → closes code (planned_turn code s).kind s.control.pc ≡ last → phase_after code InHandler rec ≡ cond last Outside InHandler
        to_phase last is =
            cond-false (is_nesting rec.kind) Nested (cond (closes code rec.kind rec.pc) Outside InHandler) (ap is_nesting (kind_now code m s) ∙ other)
            ∙ ap (λ z. cond z Outside InHandler) (ap (λ k. closes code k rec.pc) (kind_now code m s) ∙ (ap (closes code (planned_turn code s).kind) (pc_now code m s) ∙ is))

        by_step : HandlerStep code b m s f e.before e.opened → Idle InHandler false
        by_step (steps_on open_ inside only alone) = idle_to InHandler InHandler false (to_phase false open_) (inside, h.1) only
        by_step (closes_stretch closed_ moves somewhere same alone) =
            idle_to InHandler Outside false (to_phase true closed_)
            (subst (λ (y : MemoryContents). Somewhere (byte_at y) b (lost_at false f) (state_now code m s) f) (sym same) somewhere, h.1) (λ a dead. ap (λ (y : MemoryContents). byte_at y a) same)

    -- ---- the record that begins a nested interrupt
    pub begin_core : (fresh : Bool) → InCore code InHandler m b fresh s f e → length f.unset ≡ 256 → is_nesting (planned_turn code s).kind ≡ true
        → Suspends code b (memory_now code m s) (state_now code m s) (step_on code true rec f).after (as_left e.before s (state_now code m s)) e.opened s
    begin_core fresh h count nesting =
        let same : memory_now code m s ≡ m = ap (memory_after_step m) (no_access code m s f nesting h.1) in
        subst (λ (y : MemoryContents). Suspends code b y (state_now code m s) (step_on code true rec f).after (as_left e.before s (state_now code m s)) e.opened s) (sym same)
        (nested_begin code bytes b good m s f e.before e.opened h.0 h.1 shaped count nesting)
