-- Both cores at each place of the schedule before the first breach: the machines are related, and the judged records are a frame run.
use Rattle.std.proofs.Common.{◌≡◌, ℕ, Bool, true, false, cond, List, [], ◌∷◌, ◌++◌, Option, Some, None, sym, ap, ◌∙◌, refl, inl, inr, ⊎_elim, subst, append_assoc}
use Rattle.std.proofs.Math.Bool.{or_comm}
use Rattle.std.proofs.lemmas.Option.{same_Some}
use Rattle.std.proofs.lemmas.Bool.{cond-true, cond-false, cases_Bool, or_parts, or_left, or_right, false≢true}
use Rattle.std.proofs.lemmas.List.{append-nil}
use Rattle.xt_map.specs.declared.access.Access.{Access}
use Rattle.xt_map.specs.declared.access.Entry.{Entry}
use Rattle.xt_map.specs.declared.contents.MemoryContents.{MemoryContents}
use Rattle.xt_map.specs.Memory.{byte_at}
use Rattle.xt_map.specs.Serving.{reply_to, memory_past}
use Rattle.xt_map.specs.History.{memory_after, IsLegal}
use Rattle.xt_map.proofs.Grown.{memory_after_push, legal_push}
use Rattle.xt_trace.specs.declared.record.StepRecord.{StepRecord}
use Rattle.xt_map.specs.Code.{AreBytes}
use Rattle.xt_exec.specs.State.{State}
use Rattle.xt_exec.specs.TurnLaws.{IsShaped}
use Rattle.xt_exec.specs.Turn.{planned_turn, demand, turn}
use Rattle.xt_special.specs.Numbers as number
use Rattle.xt_special.specs.Control.{special_of}
use Rattle.xt_exec.proofs.Served.{demand_served}
use Rattle.xt_frames.specs.declared.kinds.BreachKind.{BreachKind}
use Rattle.xt_frames.specs.declared.holes.Nested as holes
use Rattle.xt_frames.specs.Frames.{FrameState}
use Rattle.xt_frames.specs.FrameStep.{FrameTurn, with_inputs}
use Rattle.xt_frames.specs.Nesting.{current, current_in, is_nesting}
use Rattle.xt_frames.specs.SaveAreas.{is_live}
use Rattle.xt_frames.specs.declared.kinds.HandlerPhase.{HandlerPhase}
use Rattle.xt_frames.specs.declared.kinds.HandlerPhase.TheVariants.{Outside, InHandler, Nested}
use Rattle.xt_frames.specs.HandlerSteps.{is_window, closes, returns, phase_after}
use Rattle.xt_frames.specs.Breaches.{Bounds, inputs_of, breach_of, window_breach, stale_after}
use Rattle.xt_frames.specs.Judging.{Seen, handled_record, seen_window, seen_step, seen_judged, step_on, place_on, live_of, fresh_on}
use Rattle.xt_frames.specs.Verdict.{entry_of, IsStepOf, IsFrameTrace}
use Rattle.xt_map.specs.Touching.{IsMemory}
use Rattle.xt_simulation.specs.Relation.{inputs}
use Rattle.xt_simulation.specs.Steps.{reply_at, memory_after_step, reply_now, record_now, state_now, memory_now}
use Rattle.xt_simulation.specs.InHandlers.{MovesFrame, StoresAlone, LeavesHandler}
use Rattle.xt_simulation.specs.Handling.{IsGood, HandlerStep, steps_on, closes_stretch}
use Rattle.xt_simulation.specs.Nested.{Onward, StaysIn, GoesBack}
use Rattle.xt_simulation.specs.Memories.{Agree, KeepsAreas}
use Rattle.xt_simulation.specs.Judges.{Matches, After}
use Rattle.xt_simulation.specs.Walking.{Entered, Core, World, Moved, entered_by, entered_past, KeepsStretches, GivesBack, moved_by, move, moved0, moved1, world_after_turn, world_after_turns, frame_after, IsWorldRun, Apart}
use Rattle.xt_simulation.proofs.Handled.{handler_steps_are_kept, stores_alone}
use Rattle.xt_simulation.proofs.OneCore.{Idle, InCore, begin_core, core_spared, core_stack, handles_idle, kind_now, live_apart, onward_core, pc_now, plain_idle}
use Rattle.xt_simulation.proofs.Carried.{live_same}
use Rattle.xt_simulation.proofs.Pending.{pending_in_frames}
use Rattle.xt_simulation.proofs.Suspended.{nested_steps_are_kept}
use Rattle.xt_simulation.proofs.Memories.{live_kept, step_memory, memories_agree}
use Rattle.xt_simulation.proofs.Judges.{judge_keeps, judge_areas, judge_plain, shaped_now, same_laid, record_access}
use Rattle.xt_frames.proofs.Inside.{closes_plain, place_inside, place_plain, still_inside}
use Rattle.xt_frames.proofs.Lengths.{HasHoles, marks_wide, step_holes}
use Rattle.xt_simulation.proofs.NestedSteps.{no_access, begin_matches, begin_fresh, nested_areas, nested_fresh, nested_back, nested_seen}

-- ---- histories that grow
abbrev pub Answers : MemoryContents → List Entry → Type 0
Answers m [] = Unit {0}
Answers m (e ∷ es) = (e.reply ≡ reply_to m e.access) × Answers (memory_past m e.access) es

memory_append : (m : MemoryContents) (es fs : List Entry) → memory_after m (es ++ fs) ≡ memory_after (memory_after m es) fs
memory_append m [] fs = refl
memory_append m (e ∷ es) fs = memory_append (memory_past m e.access) es fs

legal_append : (m : MemoryContents) (es fs : List Entry) → IsLegal m es → Answers (memory_after m es) fs → IsLegal m (es ++ fs)
legal_append m es [] h a = subst (IsLegal m) (sym (append-nil es)) h
legal_append m es (f ∷ fs) h a =
    let more : IsLegal m (es ++ f ∷ []) = legal_push m es f h a.0 in
    let rest : Answers (memory_after m (es ++ f ∷ [])) fs = subst (λ x. Answers x fs) (sym (memory_after_push m es f)) a.1 in
    subst (IsLegal m) (append_assoc es (f ∷ []) fs) (legal_append m (es ++ f ∷ []) fs more rest)

entry_answers : (core : ℕ) (o : Option Access) (reply : ℕ) (m : MemoryContents) → reply ≡ reply_at m o → Answers m (entry_of core o reply)
entry_answers core None reply m e = tt
entry_answers core (Some a) reply m e = (e, tt)

entry_memory : (core : ℕ) (o : Option Access) (reply : ℕ) (m : MemoryContents) → memory_after_step m o ≡ memory_after m (entry_of core o reply)
entry_memory core None reply m = refl
entry_memory core (Some a) reply m = refl

entries_sized : (es : List Entry) (m : MemoryContents) → IsMemory m → IsMemory (memory_after m es)
entries_sized [] m i = i
entries_sized (e ∷ es) m i = entries_sized es (memory_past m e.access) (step_memory m (Some e.access) i)

-- ---- traces that grow
trace_push : (code : ℕ → ℕ) (f : FrameState) (recs : List (Bool × StepRecord)) (r : Bool × StepRecord) → IsFrameTrace code f recs → IsStepOf r.1 (place_on r.0 r.1 (frame_after code f recs)) (step_on code r.0 r.1 (frame_after code f recs)) → IsFrameTrace code f (recs ++ r ∷ [])
trace_push code f [] r h s = (s, tt)
trace_push code f (q ∷ rest) r h s = (h.0, trace_push code (step_on code q.0 q.1 f).after rest r h.1 s)

after_push : (code : ℕ → ℕ) (f : FrameState) (recs : List (Bool × StepRecord)) (r : Bool × StepRecord) → frame_after code f (recs ++ r ∷ []) ≡ (step_on code r.0 r.1 (frame_after code f recs)).after
after_push code f [] r = refl
after_push code f (q ∷ rest) r = after_push code (step_on code q.0 q.1 f).after rest r

-- the judged records lead to the frame state
pub record Leads (code : ℕ → ℕ) (opening : FrameState) (c : Core) : Type 0 where
  pub trace : IsFrameTrace code opening c.judged
  pub to : frame_after code opening c.judged ≡ c.standing.frame

-- ---- one core, as the walk has it
-- in a nested interrupt: the live bytes are those at its beginning, and so is EPC1
pub record Held (m : MemoryContents) (b : Bounds) (f : FrameState) (e : Entered) : Type 0 where
  pub bytes : (a : ℕ) → is_live b.range f a ≡ true → byte_at m a ≡ e.held a
  pub epc1 : special_of e.suspended.control (number.epc 1) ≡ e.before.control.pc

-- EPC1 is lost inside handler steps
abbrev pub Calm : HandlerPhase → MemoryContents → Bounds → Bool → FrameState → Entered → Type 0
Calm Outside m b fresh f e = Unit {0}
Calm InHandler m b fresh f e = fresh ≡ false
Calm Nested m b fresh f e = Held m b f e × (fresh ≡ false)

calm_spared : (phase : HandlerPhase) (old new : MemoryContents) (b : Bounds) (fresh : Bool) (f : FrameState) (e : Entered) → ((a : ℕ) → is_live b.range f a ≡ true → byte_at new a ≡ byte_at old a) → Calm phase old b fresh f e → Calm phase new b fresh f e
calm_spared Outside old new b fresh f e same h = tt
calm_spared InHandler old new b fresh f e same h = h
calm_spared Nested old new b fresh f e same h = (record { bytes = λ a live. same a live ∙ h.0.bytes a live; epc1 = h.0.epc1 }, h.1)

calm_handles : (m : MemoryContents) (b : Bounds) (f : FrameState) (e : Entered) (last : Bool) → Calm (cond last Outside InHandler) m b false f e
calm_handles m b f e true = tt
calm_handles m b f e false = refl

module _ (code : ℕ → ℕ) (bytes : AreBytes code) where
  pub record Inside (b : Bounds) (m : MemoryContents) (c : Core) : Type 0 where
    pub core : InCore code c.standing.phase m b c.standing.fresh c.state c.standing.frame c.entered
    pub calm : Calm c.standing.phase m b c.standing.fresh c.standing.frame c.entered
    pub shaped : IsShaped c.state
    pub holes : HasHoles c.standing.frame

  spared : (b : Bounds) (good : IsGood code b) (c : Core) (old new : MemoryContents) → ((a : ℕ) → is_live b.range c.standing.frame a ≡ true → byte_at new a ≡ byte_at old a) → Inside b old c → Inside b new c
  spared b good c old new same h = record {
    core = core_spared code bytes b good c.standing.phase old new c.standing.fresh c.state c.standing.frame c.entered same h.core;
    calm = calm_spared c.standing.phase old new b c.standing.fresh c.standing.frame c.entered same h.calm;
    shaped = h.shaped;
    holes = h.holes;
  }

  pub record Both (b c : Bounds) (mine theirs : Core) (m framed : MemoryContents) (stale : ℕ → Bool) : Type 0 where
    pub first : Inside b m mine
    pub second : Inside c m theirs
    pub real : IsMemory m
    pub frames : IsMemory framed
    pub agree : Agree (live_of b mine.standing.frame (is_live c.range theirs.standing.frame)) stale m framed

  turned : (b c : Bounds) (mine theirs : Core) (m framed : MemoryContents) (stale : ℕ → Bool) → Both b c mine theirs m framed stale → Both c b theirs mine m framed stale
  turned b c mine theirs m framed stale h = record {
    first = h.second;
    second = h.first;
    real = h.real;
    frames = h.frames;
    agree = λ a live. h.agree a (or_comm (is_live b.range mine.standing.frame a) (is_live c.range theirs.standing.frame a) ∙ live);
  }

  -- ---- one turn of one core
  pub record Keeps (b c : Bounds) (mine theirs : Core) (m framed : MemoryContents) (x : Moved) : Type 0 where
    pub both : Both b c x.mine theirs (memory_now code m mine.state) (memory_after framed x.entries) x.stale
    pub answers : Answers framed x.entries
    pub leads : (opening : FrameState) → Leads code opening mine → Leads code opening x.mine

  module _ (b c : Bounds) (good : IsGood code b) (other : IsGood code c) (apart : Apart b.range c.range) (core : ℕ) (s : State) (at : Entered) (f : FrameState) (fresh : Bool) (recs : List (Bool × StepRecord)) (theirs : Core) (m framed : MemoryContents) (stale : ℕ → Bool) where
    abbrev core_in : HandlerPhase → Core
    core_in phase = record { state = s; entered = at; standing = record { frame = f; fresh = fresh; phase = phase }; judged = recs }

    abbrev rec : StepRecord
    rec = record_now code m s

    abbrev others : ℕ → Bool
    others = is_live c.range theirs.standing.frame

    abbrev now : State
    now = state_now code m s

    abbrev Before : HandlerPhase → Type 0
    Before phase = Both b c (core_in phase) theirs m framed stale

    -- a handler step, or a window exception's record: the frame machine stands still
    stands_still : (phase next : HandlerPhase) → phase_after code phase rec ≡ next → (h : Before phase) → Idle code bytes b good m s h.first.shaped f at phase false
        → Calm next (memory_now code m s) b false f (entered_by phase s m at)
        → Keeps b c (core_in phase) theirs m framed (record { mine = record { state = now; entered = entered_by phase s m at; standing = record { frame = f; fresh = false; phase = next }; judged = recs }; stale = stale; entries = [] })
    stands_still phase next is h idle calm =
        let mine = core_stack code phase m b fresh s f at h.first.core in
        let yours = core_stack code theirs.standing.phase m c theirs.standing.fresh theirs.state theirs.standing.frame theirs.entered h.second.core in
        record {
          both = record {
            first = record {
              core = subst (λ (z : HandlerPhase). InCore code z (memory_now code m s) b false now f (entered_by phase s m at)) is idle.next;
              calm = calm;
              shaped = shaped_now code m s bytes h.first.shaped h.real;
              holes = h.first.holes;
            };
            second = spared c other theirs m (memory_now code m s) (λ a live. idle.only a (live_apart b.range c.range f theirs.standing.frame a apart mine yours live)) h.second;
            real = step_memory m (demand code s) h.real;
            frames = h.frames;
            agree = λ a live st. idle.only a (or_parts (is_live b.range f a) (others a) live).0 ∙ h.agree a live st;
          };
          answers = tt;
          leads = λ opening l. record { trace = l.trace; to = l.to };
        }

    -- ---- a judged step, in any phase
    abbrev judged_to : Bool → HandlerPhase → Bool → Entered → Moved
    judged_to nested next fresh_next entered = record {
      mine = record {
        state = now;
        entered = entered;
        standing = record { frame = (step_on code nested rec f).after; fresh = fresh_next; phase = next };
        judged = recs ++ (nested, rec) ∷ [];
      };
      stale = stale_after (live_of b (step_on code nested rec f).after others) (live_of b f others) stale rec.access;
      entries = entry_of core rec.access rec.reply;
    }

    judged_on : (phase : HandlerPhase) (nested : Bool) (next : HandlerPhase) (fresh_next : Bool) (entered : Entered) → phase_after code phase rec ≡ next → Before phase
        → InCore code next (memory_now code m s) b fresh_next now (step_on code nested rec f).after entered → Calm next (memory_now code m s) b fresh_next (step_on code nested rec f).after entered
        → Matches (place_on nested rec f) rec (step_on code nested rec f) framed → KeepsAreas (live_of b f others) stale (demand code s)
        → Keeps b c (core_in phase) theirs m framed (judged_to nested (phase_after code phase rec) fresh_next entered)
    judged_on phase nested next fresh_next entered is h inside calm same areas =
        let u : FrameTurn = step_on code nested rec f in
        let reply : rec.reply ≡ reply_at framed rec.access = same.reply ∙ ap (reply_at framed) (sym same.access) in
        let asked = record_access code s (reply_now code m s) in
        let alike : Agree (live_of b u.after others) (stale_after (live_of b u.after others) (live_of b f others) stale rec.access) (memory_now code m s) (memory_after_step framed rec.access) =
        subst (λ o. Agree (live_of b u.after others) (stale_after (live_of b u.after others) (live_of b f others) stale o) (memory_now code m s) (memory_after_step framed o)) (sym asked)
        (memories_agree (live_of b f others) (live_of b u.after others) stale m framed (demand code s) h.real.sizes h.frames.sizes (demand_served code s) h.agree areas) in
        let moved : Keeps b c (core_in phase) theirs m framed (judged_to nested next fresh_next entered) = record {
          both = record {
            first = record { core = inside; calm = calm; shaped = shaped_now code m s bytes h.first.shaped h.real; holes = step_holes code nested rec f h.first.holes };
            second = spared c other theirs m (memory_now code m s) (λ a live. live_kept (live_of b f others) stale m (demand code s) a areas (or_right (is_live b.range f a) (others a) live)) h.second;
            real = step_memory m (demand code s) h.real;
            frames = entries_sized (entry_of core rec.access rec.reply) framed h.frames;
            agree = subst (λ y. Agree (live_of b u.after others) (stale_after (live_of b u.after others) (live_of b f others) stale rec.access) (memory_now code m s) y) (entry_memory core rec.access rec.reply framed) alike;
          };
          answers = entry_answers core rec.access rec.reply framed reply;
          leads = λ opening l. record {
            trace = trace_push code opening recs (nested, rec) l.trace (subst (λ g. IsStepOf rec (place_on nested rec g) (step_on code nested rec g)) (sym l.to) (record { place = same.place; kind = same.kind; write = same.write; access = same.access }));
            to = after_push code opening recs (nested, rec) ∙ ap (λ g. (step_on code nested rec g).after) l.to;
          };
        } in
        subst (λ (z : HandlerPhase). Keeps b c (core_in phase) theirs m framed (judged_to nested z fresh_next entered)) (sym is) moved

    -- ---- within handler steps
    nesting_is : (last : Bool) → is_nesting rec.kind ≡ last → is_nesting (planned_turn code s).kind ≡ last
    nesting_is last e = ap is_nesting (sym (kind_now code m s)) ∙ e

    handles_keeps : is_nesting rec.kind ≡ false → Before InHandler → Keeps b c (core_in InHandler) theirs m framed (record { mine = record { state = now; entered = at; standing = record { frame = f; fresh = false; phase = phase_after code InHandler rec }; judged = recs }; stale = stale; entries = [] })
    handles_keeps other_kind h =
        let next : phase_after code InHandler rec ≡ cond (closes code rec.kind rec.pc) Outside InHandler = cond-false (is_nesting rec.kind) Nested (cond (closes code rec.kind rec.pc) Outside InHandler) other_kind in
        stands_still InHandler (phase_after code InHandler rec) refl h (handles_idle code bytes b good m s h.first.shaped f at fresh h.first.core h.real (nesting_is false other_kind))
        (subst (λ (z : HandlerPhase). Calm z (memory_now code m s) b false f at) (sym next) (calm_handles (memory_now code m s) b f at (closes code rec.kind rec.pc)))

    -- ---- a window exception
    window_is : (last : Bool) → is_window rec.kind ≡ last → is_window (planned_turn code s).kind ≡ last
    window_is last e = ap is_window (sym (kind_now code m s)) ∙ e

    same_window : f.nested ≡ None → IsShaped s → window_breach code rec.kind (with_inputs (inputs_of rec) (current f)) ≡ window_breach code (planned_turn code s).kind (with_inputs (inputs 0 s) f)
    unfolding turn
    same_window none shaped =
        ap (λ (o : Option holes.Nested). window_breach code (planned_turn code s).kind (with_inputs (inputs_of rec) (current_in o f))) none
        ∙ ap (λ g. window_breach code (planned_turn code s).kind g) (same_laid code s (reply_now code m s) f shaped.control.ps.owb_fits)

    window_keeps : (o : Option BreachKind) → window_breach code rec.kind (with_inputs (inputs_of rec) (current f)) ≡ o → is_window rec.kind ≡ true → Before Outside → (x : Moved) → moved_by (seen_window o f) core (core_in Outside) m now rec stale ≡ Some x → Keeps b c (core_in Outside) theirs m framed x
    window_keeps (Some kind) e window h x k = absurd cc
    window_keeps None e window h x k =
        subst (Keeps b c (core_in Outside) theirs m framed) (same_Some _ x k)
        (stands_still Outside InHandler (cond-true (is_window rec.kind) InHandler Outside window) h
        (plain_idle code bytes b good m s h.first.shaped f at fresh false h.first.core (window_is true window) (sym (same_window h.first.core.1 h.first.shaped) ∙ e)) refl)

    -- ---- a judged step outside handler steps
    judged_keeps : (o : Option BreachKind) → breach_of b fresh code (live_of b f others) stale false rec f ≡ o → is_window rec.kind ≡ false → Before Outside → (x : Moved)
        → moved_by (seen_step o code b (record { frame = f; fresh = fresh; phase = Outside }) others stale false rec) core (core_in Outside) m now rec stale ≡ Some x → Keeps b c (core_in Outside) theirs m framed x
    judged_keeps (Some kind) e nowindow h x k = absurd cc
    judged_keeps None e nowindow h x k =
        let somewhere = h.first.core.0 in
        let plain = h.first.core.1 in
        let j : After code b fresh s f m framed others stale = judge_keeps code bytes b fresh s f somewhere.ring somewhere.spilled m framed others stale somewhere.related plain h.first.shaped h.real h.frames.sizes h.agree (window_is false nowindow) e in
        let areas : KeepsAreas (live_of b f others) stale (demand code s) = judge_areas code bytes b fresh s f somewhere.ring somewhere.spilled m framed others stale somewhere.related plain h.first.shaped h.real h.frames.sizes h.agree (window_is false nowindow) e in
        let same : Matches (place_on false rec f) rec (step_on code false rec f) framed = subst (λ pc. Matches pc rec (step_on code false rec f) framed) (sym (place_plain rec f plain)) j.same in
        let none : (step_on code false rec f).after.nested ≡ None = judge_plain code bytes b fresh s f somewhere.ring somewhere.spilled m framed others stale somewhere.related plain h.first.shaped h.real h.frames.sizes h.agree (window_is false nowindow) e in
        subst (Keeps b c (core_in Outside) theirs m framed) (same_Some _ x k)
        (judged_on Outside false Outside (fresh_on fresh code false rec f) at (cond-false (is_window rec.kind) InHandler Outside nowindow) h (j.somewhere, none) tt same areas)

    -- ---- a nested interrupt begins
    begin_keeps : (o : Option BreachKind) → is_nesting rec.kind ≡ true → Before InHandler → (x : Moved)
        → moved_by (seen_step o code b (record { frame = f; fresh = fresh; phase = InHandler }) others stale true rec) core (core_in InHandler) m now rec stale ≡ Some x → Keeps b c (core_in InHandler) theirs m framed x
    begin_keeps (Some kind) nesting h x k = absurd cc
    begin_keeps None nesting h x k =
        let here = nesting_is true nesting in
        let outside = h.first.core.1 in
        let u : FrameTurn = step_on code true rec f in
        let entered : Entered = entered_past InHandler s m now at in
        let silent = no_access code m s f here outside in
        let held : Held (memory_now code m s) b u.after entered = record { bytes = λ a live. ap (λ (y : MemoryContents). byte_at y a) (ap (memory_after_step m) silent); epc1 = h.first.core.0.control.epc1 } in
        let lost : fresh_on fresh code true rec f ≡ false = begin_fresh code m s f here outside fresh ∙ h.first.calm in
        let areas : KeepsAreas (live_of b f others) stale (demand code s) = subst (KeepsAreas (live_of b f others) stale) (sym silent) tt in
        subst (Keeps b c (core_in InHandler) theirs m framed) (same_Some _ x k)
        (judged_on InHandler true Nested (fresh_on fresh code true rec f) entered (cond-true (is_nesting rec.kind) Nested (cond (closes code rec.kind rec.pc) Outside InHandler) nesting) h
        (begin_core code bytes b good m s h.first.shaped f at fresh h.first.core h.first.holes.unset here) (held, lost) (begin_matches code m s f here outside framed) areas)

    -- ---- a step of one
    abbrev nested_next : Entered
    nested_next = entered_past Nested s m now at

    abbrev last : Bool
    last = returns code (planned_turn code s).kind s.control.pc

    module _ (h : Before Nested) (none_fresh : breach_of b fresh code (live_of b f others) stale true rec f ≡ None) where
      none : breach_of b false code (live_of b f others) stale true rec f ≡ None
      none = subst (λ z. breach_of b z code (live_of b f others) stale true rec f ≡ None) h.first.calm.1 none_fresh

      areas : KeepsAreas (live_of b f others) stale (demand code s)
      areas = nested_areas h.first.core h.first.shaped (live_of b f others) stale none

      nested_lost : fresh_on fresh code true rec f ≡ false
      nested_lost = ap (λ z. fresh_on z code true rec f) h.first.calm.1 ∙ nested_fresh h.first.core h.first.shaped (live_of b f others) stale none

      nested_held : Held (memory_now code m s) b (step_on code true rec f).after nested_next
      nested_held =
          let inside = h.first.core in
          record {
            bytes = λ a live.
                let still = still_inside code rec f inside.x inside.nested in
                let before = sym (live_same b f (step_on code true rec f).after still.0 still.1 a) ∙ live in
                live_kept (live_of b f others) stale m (demand code s) a areas (or_left (is_live b.range f a) (others a) before) ∙ h.first.calm.0.bytes a before;
            epc1 = h.first.calm.0.epc1;
          }

      nested_step : Matches (place_on true rec f) rec (step_on code true rec f) framed × Onward code b (memory_now code m s) now (step_on code true rec f).after nested_next.before at.opened at.suspended last
      nested_step =
          let inside = h.first.core in
          let step = nested_steps_are_kept code bytes b good m framed s f at.before at.opened at.suspended others stale inside h.first.shaped h.real.sizes h.agree none inside.x inside.nested h.first.holes.unset (marks_wide h.first.holes inside.x inside.nested) in
          (subst (λ pc. Matches pc rec (step_on code true rec f) framed) (sym (place_inside rec f inside.x inside.nested)) step.0, step.1)

    returns_now : returns code rec.kind rec.pc ≡ last
    returns_now = ap (λ k. returns code k rec.pc) (kind_now code m s) ∙ ap (returns code (planned_turn code s).kind) (pc_now code m s)

    nested_keeps : (o : Option BreachKind) → breach_of b fresh code (live_of b f others) stale true rec f ≡ o → Before Nested → (x : Moved)
        → moved_by (seen_step o code b (record { frame = f; fresh = fresh; phase = Nested }) others stale true rec) core (core_in Nested) m now rec stale ≡ Some x → Keeps b c (core_in Nested) theirs m framed x
    nested_keeps (Some kind) e h x k = absurd cc
    nested_keeps None e h x k =
        let step = nested_step h e in
        subst (Keeps b c (core_in Nested) theirs m framed) (same_Some _ x k)
        (judged_on Nested true (cond last InHandler Nested) (fresh_on fresh code true rec f) nested_next (ap (λ z. cond z InHandler Nested) returns_now) h
        (onward_core code (memory_now code m s) b (fresh_on fresh code true rec f) now (step_on code true rec f).after nested_next last step.1) (calm last) step.0 (areas h e))
      where
        calm : (z : Bool) → Calm (cond z InHandler Nested) (memory_now code m s) b (fresh_on fresh code true rec f) (step_on code true rec f).after nested_next
        calm true = nested_lost h e
        calm false = (nested_held h e, nested_lost h e)

    -- RFI 5 goes back to the window handler, and what it had is as it was
    back_epc1 : (z : Bool) {t before : State} {g : FrameState} → z ≡ true → Onward code b (memory_now code m s) t g before at.opened at.suspended z → special_of t.control (number.epc 1) ≡ before.control.pc
    back_epc1 z e (StaysIn is h) = absurd (false≢true (sym is ∙ e))
    back_epc1 z e (GoesBack is ended h) = h.control.epc1

    nested_leaves : (o : Option BreachKind) → breach_of b fresh code (live_of b f others) stale true rec f ≡ o → Before Nested → (x : Moved)
        → moved_by (seen_step o code b (record { frame = f; fresh = fresh; phase = Nested }) others stale true rec) core (core_in Nested) m now rec stale ≡ Some x → last ≡ true → LeavesHandler b f at.suspended x.mine.state at.held (byte_at m)
    nested_leaves (Some kind) e h x k ends = absurd cc
    nested_leaves None e h x k ends =
        let inside = h.first.core in
        let back = nested_back inside h.first.shaped (live_of b f others) stale (none h e) ends in
        subst (λ t. LeavesHandler b f at.suspended t at.held (byte_at m)) (ap (λ (y : Moved). y.mine.state) (same_Some _ x k)) (record {
          seen = λ i within. nested_seen inside h.first.shaped (live_of b f others) stale (none h e) ends i;
          epc1 = back_epc1 last ends (nested_step h e).1 ∙ sym h.first.calm.0.epc1;
          ps = back.ps;
          base = back.base;
          start = back.start;
          areas = h.first.calm.0.bytes;
        })

    -- ---- any turn
    plain_keeps : Before Outside → (x : Moved) → move code b c core (core_in Outside) theirs m stale ≡ Some x → Keeps b c (core_in Outside) theirs m framed x
    plain_keeps h x k =
        let P : Seen → Type 0 = λ o. moved_by o core (core_in Outside) m now rec stale ≡ Some x in
        let W : Seen = seen_window (window_breach code rec.kind (with_inputs (inputs_of rec) (current f))) f in
        let J : Seen = seen_judged code b (core_in Outside).standing others stale false rec in
        ⊎_elim
        (λ window. window_keeps (window_breach code rec.kind (with_inputs (inputs_of rec) (current f))) refl window h x (subst P (cond-true (is_window rec.kind) W J window) k))
        (λ nowindow. judged_keeps (breach_of b fresh code (live_of b f others) stale false rec f) refl nowindow h x (subst P (cond-false (is_window rec.kind) W J nowindow) k))
        (cases_Bool (is_window rec.kind))

    within_keeps : Before InHandler → (x : Moved) → move code b c core (core_in InHandler) theirs m stale ≡ Some x → Keeps b c (core_in InHandler) theirs m framed x
    within_keeps h x k =
        let P : Seen → Type 0 = λ o. moved_by o core (core_in InHandler) m now rec stale ≡ Some x in
        let J : Seen = seen_judged code b (core_in InHandler).standing others stale true rec in
        let H : Seen = handled_record code (core_in InHandler).standing rec in
        ⊎_elim
        (λ nesting. begin_keeps (breach_of b fresh code (live_of b f others) stale true rec f) nesting h x (subst P (cond-true (is_nesting rec.kind) J H nesting) k))
        (λ other_kind. subst (Keeps b c (core_in InHandler) theirs m framed) (same_Some _ x (subst P (cond-false (is_nesting rec.kind) J H other_kind) k)) (handles_keeps other_kind h))
        (cases_Bool (is_nesting rec.kind))

    pub move_keeps : (phase : HandlerPhase) → Before phase → (x : Moved) → move code b c core (core_in phase) theirs m stale ≡ Some x → Keeps b c (core_in phase) theirs m framed x
    move_keeps Outside h x k = plain_keeps h x k
    move_keeps InHandler h x k = within_keeps h x k
    move_keeps Nested h x k = nested_keeps (breach_of b fresh code (live_of b f others) stale true rec f) refl h x k

    pub move_leaves : (phase : HandlerPhase) → Before phase → GivesBack code b c core (core_in phase) theirs m stale
    move_leaves Outside h x k is ends = absurd cc
    move_leaves InHandler h x k is ends = absurd cc
    move_leaves Nested h x k is ends = nested_leaves (breach_of b fresh code (live_of b f others) stale true rec f) refl h x k ends

  -- ---- whole stretches
  step_moves : (b : Bounds) (m : MemoryContents) (s : State) (f : FrameState) (e : Entered) → HandlerStep code b m s f e.before e.opened → closes code (planned_turn code s).kind s.control.pc ≡ true → MovesFrame b f e.before (state_now code m s) e.opened (byte_at m)
  step_moves b m s f e (steps_on open_ inside only alone) closed_ = absurd (false≢true (sym open_ ∙ closed_))
  step_moves b m s f e (closes_stretch closed_ moves somewhere same alone) h = moves

  step_alone : (b : Bounds) (m : MemoryContents) (s : State) (f : FrameState) (e : Entered) → HandlerStep code b m s f e.before e.opened → StoresAlone b f e.before s e.opened (byte_at m) (byte_at (memory_now code m s))
  step_alone b m s f e (steps_on open_ inside only alone) = alone
  step_alone b m s f e (closes_stretch closed_ moves somewhere same alone) = alone

  -- the record that begins a nested interrupt changes no byte, and is taken where the frame state has it pending
  phase_keeps : (b : Bounds) (good : IsGood code b) (m : MemoryContents) (phase : HandlerPhase) (fresh : Bool) (s : State) (f : FrameState) (e : Entered) (recs : List (Bool × StepRecord)) → InCore code phase m b fresh s f e → IsShaped s → IsMemory m
      → KeepsStretches code b m (record { state = s; entered = e; standing = record { frame = f; fresh = fresh; phase = phase }; judged = recs })
  phase_keeps b good m Outside fresh s f e recs h shaped real = ((λ is. absurd cc), (λ is. absurd cc), (λ is. absurd cc))
  phase_keeps b good m Nested fresh s f e recs h shaped real = ((λ is. absurd cc), (λ is. absurd cc), (λ is. absurd cc))
  phase_keeps b good m InHandler fresh s f e recs h shaped real = (
    (λ is closed_. step_moves b m s f e (handler_steps_are_kept code bytes b good m s f e.before e.opened h.0 shaped real.sizes (closes_plain code (planned_turn code s).kind s.control.pc closed_)) closed_),
    (λ is. ⊎_elim
        (λ nesting.
        let same : memory_now code m s ≡ m = ap (memory_after_step m) (no_access code m s f nesting h.1) in
        stores_alone code bytes b good.dram good.aligned good.handlers h.0 (byte_at (memory_now code m s)) (λ a free. ap (λ x. byte_at x a) same))
        (λ other_kind. step_alone b m s f e (handler_steps_are_kept code bytes b good m s f e.before e.opened h.0 shaped real.sizes other_kind))
        (cases_Bool (is_nesting (planned_turn code s).kind))),
    (λ is nesting. pending_in_frames h.0 shaped nesting),
  )

  core_keeps : (b : Bounds) (good : IsGood code b) (m : MemoryContents) (c : Core) → Inside b m c → IsMemory m → KeepsStretches code b m c
  core_keeps b good m c h real = phase_keeps b good m c.standing.phase c.standing.fresh c.state c.standing.frame c.entered c.judged h.core h.shaped real

  pub both_end : (b c : Bounds) (good : IsGood code b) (other : IsGood code c) (mine theirs : Core) (m framed : MemoryContents) (stale : ℕ → Bool) → Both b c mine theirs m framed stale → KeepsStretches code b m mine × KeepsStretches code c m theirs
  both_end b c good other mine theirs m framed stale h = (core_keeps b good m mine h.first h.real, core_keeps c other m theirs h.second h.real)

  -- ---- a whole schedule
  pub record Holds (b0 b1 : Bounds) (opening : MemoryContents) (f0 f1 : FrameState) (w : World) : Type 0 where
    pub both : Both b0 b1 w.core0 w.core1 w.memory (memory_after opening w.entries) w.stale
    pub legal : IsLegal opening w.entries
    pub leads0 : Leads code f0 w.core0
    pub leads1 : Leads code f1 w.core1

  module _ (b0 b1 : Bounds) (good0 : IsGood code b0) (good1 : IsGood code b1) (apart : Apart b0.range b1.range) (opening : MemoryContents) (f0 f1 : FrameState) where
    flipped : Apart b1.range b0.range
    flipped = ⊎_elim (λ x. inr x) (λ x. inl x) apart

    pub moved0_keeps : (w v : World) (o : Option Moved) → Holds b0 b1 opening f0 f1 w → ((x : Moved) → o ≡ Some x → Keeps b0 b1 w.core0 w.core1 w.memory (memory_after opening w.entries) x) → moved0 code w o ≡ Some v → Holds b0 b1 opening f0 f1 v
    moved0_keeps w v None h k e = absurd cc
    moved0_keeps w v (Some x) h k e =
        let y = k x refl in
        subst (Holds b0 b1 opening f0 f1) (same_Some _ v e) (record {
          both = subst (λ z. Both b0 b1 x.mine w.core1 (memory_now code w.memory w.core0.state) z x.stale) (sym (memory_append opening w.entries x.entries)) y.both;
          legal = legal_append opening w.entries x.entries h.legal y.answers;
          leads0 = y.leads f0 h.leads0;
          leads1 = h.leads1;
        })

    pub moved1_keeps : (w v : World) (o : Option Moved) → Holds b0 b1 opening f0 f1 w → ((x : Moved) → o ≡ Some x → Keeps b1 b0 w.core1 w.core0 w.memory (memory_after opening w.entries) x) → moved1 code w o ≡ Some v → Holds b0 b1 opening f0 f1 v
    moved1_keeps w v None h k e = absurd cc
    moved1_keeps w v (Some x) h k e =
        let y = k x refl in
        subst (Holds b0 b1 opening f0 f1) (same_Some _ v e) (record {
          both = subst (λ z. Both b0 b1 w.core0 x.mine (memory_now code w.memory w.core1.state) z x.stale) (sym (memory_append opening w.entries x.entries)) (turned b1 b0 x.mine w.core0 (memory_now code w.memory w.core1.state) (memory_after (memory_after opening w.entries) x.entries) x.stale y.both);
          legal = legal_append opening w.entries x.entries h.legal y.answers;
          leads0 = h.leads0;
          leads1 = y.leads f1 h.leads1;
        })

    pub move0_keeps : (w : World) → Holds b0 b1 opening f0 f1 w → (x : Moved) → move code b0 b1 0 w.core0 w.core1 w.memory w.stale ≡ Some x → Keeps b0 b1 w.core0 w.core1 w.memory (memory_after opening w.entries) x
    move0_keeps w h x k = move_keeps b0 b1 good0 good1 apart 0 w.core0.state w.core0.entered w.core0.standing.frame w.core0.standing.fresh w.core0.judged w.core1 w.memory (memory_after opening w.entries) w.stale w.core0.standing.phase h.both x k

    pub move1_keeps : (w : World) → Holds b0 b1 opening f0 f1 w → (x : Moved) → move code b1 b0 1 w.core1 w.core0 w.memory w.stale ≡ Some x → Keeps b1 b0 w.core1 w.core0 w.memory (memory_after opening w.entries) x
    move1_keeps w h x k = move_keeps b1 b0 good1 good0 flipped 1 w.core1.state w.core1.entered w.core1.standing.frame w.core1.standing.fresh w.core1.judged w.core0 w.memory (memory_after opening w.entries) w.stale w.core1.standing.phase (turned b0 b1 w.core0 w.core1 w.memory (memory_after opening w.entries) w.stale h.both) x k

    pub gives0 : (w : World) → Holds b0 b1 opening f0 f1 w → GivesBack code b0 b1 0 w.core0 w.core1 w.memory w.stale
    gives0 w h = move_leaves b0 b1 good0 good1 apart 0 w.core0.state w.core0.entered w.core0.standing.frame w.core0.standing.fresh w.core0.judged w.core1 w.memory (memory_after opening w.entries) w.stale w.core0.standing.phase h.both

    pub gives1 : (w : World) → Holds b0 b1 opening f0 f1 w → GivesBack code b1 b0 1 w.core1 w.core0 w.memory w.stale
    gives1 w h = move_leaves b1 b0 good1 good0 flipped 1 w.core1.state w.core1.entered w.core1.standing.frame w.core1.standing.fresh w.core1.judged w.core0 w.memory (memory_after opening w.entries) w.stale w.core1.standing.phase (turned b0 b1 w.core0 w.core1 w.memory (memory_after opening w.entries) w.stale h.both)

    pub given_keeps : (c : Bool) (w v : World) → Holds b0 b1 opening f0 f1 w → world_after_turn code b0 b1 c w ≡ Some v → Holds b0 b1 opening f0 f1 v
    given_keeps true w v h e = moved0_keeps w v (move code b0 b1 0 w.core0 w.core1 w.memory w.stale) h (move0_keeps w h) e
    given_keeps false w v h e = moved1_keeps w v (move code b1 b0 1 w.core1 w.core0 w.memory w.stale) h (move1_keeps w h) e

    walked_from : (cores : List Bool) (o : Option World) (v : World) → ((x : World) → o ≡ Some x → Holds b0 b1 opening f0 f1 x) → world_after_turns code b0 b1 cores o ≡ Some v → Holds b0 b1 opening f0 f1 v
    walked_from [] o v h e = h v e
    walked_from (c ∷ cs) None v h e = absurd cc
    walked_from (c ∷ cs) (Some w) v h e = walked_from cs (world_after_turn code b0 b1 c w) v (λ x k. given_keeps c w x (h w refl) k) e

    pub walked_keeps : (cores : List Bool) (w v : World) → Holds b0 b1 opening f0 f1 w → world_after_turns code b0 b1 cores (Some w) ≡ Some v → Holds b0 b1 opening f0 f1 v
    walked_keeps cores w v h e = walked_from cores (Some w) v (λ x k. subst (Holds b0 b1 opening f0 f1) (same_Some w x k) h) e

    pub frame_run : (w : World) → Holds b0 b1 opening f0 f1 w → IsWorldRun code opening f0 f1 w
    frame_run w h = record { first = h.leads0.trace; second = h.leads1.trace; legal = h.legal }
