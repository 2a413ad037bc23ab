-- Nested interrupts: the step that begins one, those inside, RFI 5, and the other core's accesses.
use Rattle.std.specs.Prelude.{unwrap_or}
use Rattle.std.proofs.Common.{◌≡◌, ℕ, ◌⊎◌, Bool, true, false, length, Option, Some, None, sym, ap, ◌∙◌, refl, arith, ⊎_elim, subst}
use Rattle.std.proofs.lemmas.Bool.{false_from_ne_true, or_left}
use Rattle.xt_map.specs.declared.contents.MemoryContents.{MemoryContents}
use Rattle.xt_map.specs.Memory.{byte_at}
use Rattle.xt_special.specs.declared.ps.Ps.{Ps}
use Rattle.xt_special.specs.Control.{Control}
use Rattle.xt_map.specs.Code.{AreBytes}
use Rattle.xt_map.specs.Fetching.{fetch_at}
use Rattle.xt_exec.specs.State.{State}
use Rattle.xt_exec.specs.TurnLaws.{IsShaped, IsShapedControl}
use Rattle.xt_exec.specs.Turn.{Planned, planned_turn, demand, turn, write_with_reply}
use Rattle.xt_exec.proofs.Shapes.{turn_shaped}
use Rattle.xt_frames.specs.declared.holes.Nested.{Nested}
use Rattle.xt_frames.specs.Frames.{FrameState}
use Rattle.xt_frames.specs.FrameStep.{FrameTurn, with_inputs, step_with_inputs}
use Rattle.xt_frames.specs.HandlerSteps.{fetched_returns, returns}
use Rattle.xt_frames.specs.Nesting.{nested_view}
use Rattle.xt_frames.specs.SaveAreas.{is_live}
use Rattle.xt_frames.specs.Breaches.{Bounds, inputs_of}
use Rattle.xt_frames.specs.Judging.{step_on, live_of, value_in}
use Rattle.xt_frames.proofs.Inside.{ended_fetched, returns_fetched, step_inside}
use Rattle.xt_simulation.specs.InHandlers.{as_left}
use Rattle.xt_simulation.specs.Steps.{reply_at, reply_now, record_now, state_now, memory_now}
use Rattle.xt_simulation.specs.Handling.{IsGood, Handling}
use Rattle.xt_simulation.specs.Nested.{Onward, StaysIn, GoesBack, NestedAreSpared, NestedBegin, NestedStepsAreKept, Suspends, resumed_state}
use Rattle.xt_simulation.proofs.Memories.{live_kept, replies_agree}
use Rattle.xt_simulation.proofs.Judges.{record_access, record_reply}
use Rattle.xt_simulation.proofs.Handled.{handlers_are_spared}
use Rattle.xt_simulation.proofs.Inner.{Ends, Inner}
use Rattle.xt_simulation.proofs.InnerRows.{inner_step}
use Rattle.xt_simulation.proofs.NestedSteps.{nested_areas}
use Rattle.xt_simulation.proofs.Ordinary.{write_control}
use Rattle.xt_simulation.proofs.Carried.{Carries, carried, live_same}
use Rattle.xt_simulation.proofs.Taken.{taken_begin}
use Rattle.xt_simulation.proofs.Resumed.{back_at, ends_access, ends_frames, ends_handling, ends_kind, ends_nothing, ends_seen, ends_write}

-- ---- an access of the other core
pub nested_are_spared : NestedAreSpared
nested_are_spared code bytes b good old new s f before opened suspended h same = record {
  x = h.x;
  nested = h.nested;
  inside = h.inside;
  handling = handlers_are_spared code bytes b good old new (resumed_state suspended s) f before opened h.handling same;
}

-- ---- the beginning
pub nested_begin : NestedBegin
nested_begin = taken_begin

-- ---- a step inside
-- a written register is no part of the control state, so the reply is none
turn_control : (code : ℕ → ℕ) (s : State) (reply : ℕ) → (turn code s reply).1.control ≡ (planned_turn code s).after.control
unfolding turn
turn_control code s reply = write_control (write_with_reply (planned_turn code s).write (planned_turn code s).awaited reply) (planned_turn code s).after

control_now : (code : ℕ → ℕ) (m : MemoryContents) (s : State) → AreBytes code → IsShaped s → IsShapedControl (state_now code m s).control
control_now code m s bytes shaped =
    let same : (turn code s 0).1.control ≡ (state_now code m s).control = turn_control code s 0 ∙ sym (turn_control code s (reply_now code m s)) in
    subst (λ (c : Control). IsShapedControl c) same (turn_shaped code s 0 bytes shaped (omega arith)).control

place : {code : ℕ → ℕ} {b : Bounds} {m : MemoryContents} {s : State} {f : FrameState} {before : State} {opened : ℕ → ℕ} {suspended : State} (h : Suspends code b m s f before opened suspended) → (record_now code m s).pc ≡ h.x.pc
unfolding turn
place h = h.inside.even.pc

module _ {code : ℕ → ℕ} (bytes : AreBytes code) {b : Bounds} (good : IsGood code b) {m : MemoryContents} {s : State} {f : FrameState} {before : State} {opened : ℕ → ℕ} {suspended : State}
    (h : Suspends code b m s f before opened suspended) (shaped : IsShaped s) where
  abbrev u : FrameTurn
  u = step_on code true (record_now code m s) f

  abbrev now : State
  now = state_now code m s

  abbrev last : Bool
  last = returns code (planned_turn code s).kind s.control.pc

  inner_carries : Inner code b m s f suspended u → Carries b (resumed_state suspended s) (resumed_state suspended now) f u.after
  inner_carries i =
      let c = control_now code m s bytes shaped in
      record {
        regs = refl;
        base = i.inside.base ∙ sym h.inside.base;
        start = i.inside.start ∙ sym h.inside.start;
        pc = refl;
        ps = refl;
        epc1 = i.epc1;
        running = i.inside.running;
        special = i.inside.even.special;
        threadptr = i.inside.even.threadptr;
        awake = sym i.inside.even.waits ∙ i.inside.running;
        count = c.count;
        words = c.words;
        shape = c.shape;
        pointer = c.threadptr;
        vectors = i.vectors;
        seen = i.seen;
        frames = i.frames;
        framed_pc = i.pc;
        framed_ps = λ owb. ap (λ (p : Ps). (let q : Ps = record p { owb = owb } in q)) i.ps;
      }

  -- RFI 5 ends the interrupt, and nothing else does
  ends_last : Ends code s h.x → last ≡ true
  ends_last e =
      let at : fetched_returns (fetch_at code s.control.pc) ≡ true = ap fetched_returns e.at ∙ e.ends in
      let plan = (back_at code s h.inside.mode h.inside.level h.inside.running (fetch_at code s.control.pc) refl at).1 in
      ap (λ k. returns code k s.control.pc) (ap (λ (p : Planned). p.kind) plan) ∙ at

  inner_last : Inner code b m s f suspended u → last ≡ false
  inner_last i =
      false_from_ne_true last
      (λ t.
      let at : fetched_returns (fetch_at code h.x.pc) ≡ true = subst (λ pc. fetched_returns (fetch_at code pc) ≡ true) h.inside.even.pc (returns_fetched code (planned_turn code s).kind s.control.pc t) in
      let rec = record_now code m s in
      let none : u.after.nested ≡ None = ap (λ (z : FrameTurn). z.after.nested) (step_inside code true rec f h.x h.nested) ∙ ended_fetched (fetch_at code h.x.pc) (value_in rec.write) h.x f (step_with_inputs code rec.reply (with_inputs (inputs_of rec) (nested_view h.x f))) at in
      let some : Some i.x ≡ None = sym i.nested ∙ none in
      absurd cc)

  -- both machines record the same, and the relation goes on
  pub record InnerTurn : Type 0 where
    pub kind : (record_now code m s).kind ≡ u.kind
    pub write : (record_now code m s).write ≡ u.write
    pub access : (record_now code m s).access ≡ u.access
    pub next : Onward code b (memory_now code m s) now u.after (as_left before s now) opened suspended last

  -- where the access touches no live byte
  pub inner_turn : ((a : ℕ) → is_live b.range f a ≡ true → byte_at (memory_now code m s) a ≡ byte_at m a) → Ends code s h.x ⊎ Inner code b m s f suspended u → InnerTurn
  inner_turn kept next = ⊎_elim
      (λ e. record {
        kind = ends_kind h.nested h.inside h.handling shaped e;
        write = ends_write h.nested h.inside h.handling shaped e;
        access = record_access code s (reply_now code m s) ∙ ends_access h.nested h.inside h.handling shaped e;
        next = GoesBack (ends_last e) (ends_nothing h.nested h.inside h.handling shaped e)
            (past_access (ends_seen h.nested h.inside h.handling shaped e) (ends_frames h.nested h.inside h.handling shaped e) (ends_handling h.nested h.inside h.handling shaped e bytes));
      })
      (λ i. record {
        kind = i.kind;
        write = i.write;
        access = i.access;
        next = StaysIn (inner_last i) (record { x = i.x; nested = i.nested; inside = i.inside; handling = past_access i.seen i.frames (carried (inner_carries i) h.handling) });
      })
      next
    where
      past_access : {t left : State} {g : FrameState} → g.seen ≡ f.seen → g.frames ≡ f.frames → Handling code b m t g left opened → Handling code b (memory_now code m s) t g left opened
      past_access {t = t} {left = left} {g = g} seen frames k =
          handlers_are_spared code bytes b good m (memory_now code m s) t g left opened k (λ a is. kept a (sym (live_same b f g seen frames a) ∙ is))

pub nested_steps_are_kept : NestedStepsAreKept
nested_steps_are_kept code bytes b good m framed s f before opened suspended others stale h shaped sizes agree none x nested count spread =
    let same : h.x ≡ x = ap (λ (o : Option Nested). unwrap_or o x) (sym h.nested ∙ nested) in
    let areas = nested_areas h shaped (live_of b f others) stale none in
    let t = inner_turn bytes good h shaped (λ a is. live_kept (live_of b f others) stale m (demand code s) a areas (or_left (is_live b.range f a) (others a) is))
    (inner_step code bytes b m s f suspended (live_of b f others) stale h.x h.nested h.inside shaped count (ap (λ (y : Nested). length y.marks) same ∙ spread) none) in
    let access : demand code s ≡ (step_on code true (record_now code m s) f).access = sym (record_access code s (reply_now code m s)) ∙ t.access in (
      record {
        place = place h ∙ ap (λ (y : Nested). y.pc) same;
        kind = t.kind;
        write = t.write;
        access = t.access;
        reply = record_reply code m s ∙ (replies_agree (live_of b f others) stale m framed (demand code s) agree areas ∙ ap (reply_at framed) access);
      },
      t.next,
    )
