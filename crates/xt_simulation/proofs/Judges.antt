-- A judged step of one core, over both memories.
use Rattle.std.proofs.Common.{◌≡◌, ℕ, ◌^◌, ◌%◌, ◌<◌, Bool, true, false, Option, Some, None, List, sym, ap, ◌∙◌, refl, arith, subst}
use Rattle.std.proofs.lemmas.Bool.{or_left}
use Rattle.xt_map.specs.declared.access.Access.{Access}
use Rattle.xt_map.specs.declared.contents.MemoryContents.{MemoryContents}
use Rattle.xt_map.specs.Memory.{HasSizes, byte_at}
use Rattle.xt_map.specs.Fetching.{fetch_at}
use Rattle.xt_map.specs.Code.{AreBytes}
use Rattle.xt_exec.specs.State.{State}
use Rattle.xt_exec.specs.TurnLaws.{IsShaped}
use Rattle.xt_exec.specs.Turn.{planned_turn, demand, turn, reply_where}
use Rattle.xt_exec.proofs.Shapes.{turn_shaped}
use Rattle.xt_frames.specs.Frames.{Frame, FrameState, value_or_zero}
use Rattle.xt_frames.specs.FrameStep.{FrameTurn, with_inputs, step_with_inputs}
use Rattle.xt_frames.specs.SaveAreas.{is_live}
use Rattle.xt_frames.specs.HandlerSteps.{is_window}
use Rattle.xt_frames.proofs.Inside.{breach_plain, step_plain, fresh_plain}
use Rattle.xt_frames.proofs.Lengths.{laid_stays}
use Rattle.xt_frames.specs.Breaches.{Bounds, inputs_of, laid_breach, breach_of, fresh_after, stale_after}
use Rattle.xt_frames.specs.Stacks.{Stack}
use Rattle.xt_simulation.specs.Stacks.{Saved, sp_under}
use Rattle.xt_simulation.specs.Relation.{Level, Plain, inputs, lost_at}
use Rattle.xt_simulation.specs.Cores.{word, Related}
use Rattle.xt_simulation.proofs.Laid.{even_laid}
use Rattle.xt_simulation.proofs.Chains.{related_spared}
use Rattle.xt_simulation.proofs.Whole.{keeps_level}
use Rattle.xt_simulation.proofs.StackSteps.{keeps_stack}
use Rattle.xt_simulation.specs.JudgedSteps.{fresh_turn, plain_after, turn_of}
use Rattle.xt_simulation.specs.Steps.{reply_at, memory_after_step, reply_now, record_now, state_now, memory_now}
use Rattle.xt_simulation.specs.Handling.{Somewhere}
use Rattle.xt_simulation.specs.Memories.{Agree, KeepsAreas}
use Rattle.xt_map.specs.Touching.{IsMemory}
use Rattle.xt_simulation.proofs.Memories.{replies_agree, memories_agree, live_kept, keeps_from, reply_small}
use Rattle.xt_frames.specs.Judging.{step_on, live_of, fresh_on}
use Rattle.xt_simulation.specs.Judges.{After}
use Rattle.xt_exec.proofs.Served.{demand_served}
use Rattle.xt_simulation.proofs.Served.{areas_kept}

-- ---- the inputs of the next step, laid over the frame state
pub lay : {vecbase : ℕ} {lost : ℕ → Bool} {s : State} {g : FrameState} {ring spilled : List Frame} → Level vecbase lost s g ring spilled → Plain vecbase lost s g ring spilled
lay {s = s} {g = g} l = record {
  windows = l.windows;
  frames = l.frames;
  older = l.older;
  even = even_laid s g l.even;
  woe = l.woe;
  calls = l.calls;
  vectors = l.vectors;
}

-- the inputs of a record are those of its state
pub same_laid : (code : ℕ → ℕ) (s : State) (reply : ℕ) (f : FrameState) → s.control.ps.owb < 16 → with_inputs (inputs_of (turn code s reply).0) f ≡ with_inputs (inputs 0 s) f
unfolding turn
same_laid code s reply f small = let e : s.control.ps.owb % 16 ≡ s.control.ps.owb = omega arith in rw e refl

where_now : (m : MemoryContents) (o : Option Access) → reply_where o (reply_at m o) ≡ reply_at m o
where_now m None = refl
where_now m (Some a) = refl

pub record_reply : (code : ℕ → ℕ) (m : MemoryContents) (s : State) → (record_now code m s).reply ≡ reply_now code m s
unfolding turn
record_reply code m s = where_now m (demand code s)

pub record_access : (code : ℕ → ℕ) (s : State) (reply : ℕ) → (turn code s reply).0.access ≡ demand code s
unfolding turn
record_access code s reply = refl

pub shaped_now : (code : ℕ → ℕ) (m : MemoryContents) (s : State) → AreBytes code → IsShaped s → IsMemory m → IsShaped (state_now code m s)
shaped_now code m s bytes shaped im = turn_shaped code s (reply_now code m s) bytes shaped (reply_small m (demand code s) im (demand_served code s))

-- a turn that asks nothing
pub shaped_silent : (code : ℕ → ℕ) (m : MemoryContents) (s : State) → AreBytes code → IsShaped s → demand code s ≡ None → IsShaped (state_now code m s)
shaped_silent code m s bytes shaped none =
    let small : reply_now code m s < 2 ^ 32 = subst (λ (o : Option Access). reply_at m o < 2 ^ 32) (sym none) (omega arith) in
    turn_shaped code s (reply_now code m s) bytes shaped small

-- a judged step outside nested interrupts, with the frame step of one record
pub record JudgedStep (code : ℕ → ℕ) (b : Bounds) (fresh : Bool) (s : State) (f : FrameState) (m : MemoryContents) (spilled : List Frame) (u : FrameTurn) : Type 0 where
  pub kind : (record_now code m s).kind ≡ u.kind
  pub write : (record_now code m s).write ≡ u.write
  pub access : (record_now code m s).access ≡ u.access
  pub ps : (turn_of code s (reply_now code m s)).after.control.ps ≡ u.after.control.ps
  pub ring : List Frame
  -- where it changes no live byte
  pub related : ((a : ℕ) → is_live b.range f a ≡ true → byte_at (memory_now code m s) a ≡ byte_at m a)
      → Related (byte_at (memory_now code m s)) b (lost_at (fresh_turn fresh code (reply_now code m s) s) u.after) (state_now code m s) u.after ring spilled

module _ (code : ℕ → ℕ) (bytes : AreBytes code) (b : Bounds) (fresh : Bool) (s : State) (f : FrameState) (ring spilled : List Frame) (m : MemoryContents) (l : Related (byte_at m) b (lost_at fresh f) s f ring spilled) (plain : f.nested ≡ None) (shaped : IsShaped s) (real : IsMemory m)
    (nowindow : is_window (planned_turn code s).kind ≡ false) (live stale : ℕ → Bool) (quiet : laid_breach b fresh code live stale (record_now code m s) (with_inputs (inputs_of (record_now code m s)) f) ≡ None) where
  abbrev laid_f : FrameState
  laid_f = with_inputs (inputs 0 s) f

  quiet_f : laid_breach b fresh code live stale (record_now code m s) laid_f ≡ None
  quiet_f = subst (λ x. laid_breach b fresh code live stale (record_now code m s) x ≡ None) (same_laid code s (reply_now code m s) f shaped.control.ps.owb_fits) quiet

  pub judged_step : JudgedStep code b fresh s f m spilled (plain_after code (reply_now code m s) laid_f)
  unfolding turn demand
  judged_step =
      let p = keeps_level code bytes b fresh live stale s laid_f ring spilled (reply_now code m s) l.plain plain shaped (shaped_now code m s bytes shaped real) (record_reply code m s) nowindow quiet_f in
      let calls : laid_f.control.ps.callinc < 4 = rw (← ap (λ q. q.callinc) l.plain.even.ps) l.plain.calls in
      let stack = keeps_stack code bytes b fresh live stale (record_now code m s) laid_f l.stack calls quiet_f in
      record {
        kind = p.kind;
        write = p.write;
        access = p.access;
        ps = p.level.even.ps;
        ring = p.ring;
        related = λ mine.
            let saved : Saved (word (byte_at (memory_now code m s))) b.range.hi (sp_under (value_or_zero f.seen 1) ring) spilled = (related_spared (byte_at m) (byte_at (memory_now code m s)) b f mine l).saved in
            record {
              plain = lay p.level;
              stack = subst (λ x. Stack b.range.lo b.range.hi (step_with_inputs code x laid_f).after.seen (step_with_inputs code x laid_f).after.frames) (record_reply code m s) stack;
              saved = rw p.same saved;
            };
      }

  pub step_areas : KeepsAreas live stale (demand code s)
  step_areas = let k = areas_kept code b fresh live stale s laid_f ring spilled (reply_now code m s) l.plain quiet_f in keeps_from live stale (demand code s) k.0 k.1

module _ (code : ℕ → ℕ) (bytes : AreBytes code) (b : Bounds) (fresh : Bool) (s : State) (f : FrameState) (ring spilled : List Frame) (m framed : MemoryContents) (others stale : ℕ → Bool)
    (l : Related (byte_at m) b (lost_at fresh f) s f ring spilled) (plain : f.nested ≡ None) (shaped : IsShaped s) (real : IsMemory m) (sizes : HasSizes framed) (agree : Agree (live_of b f others) stale m framed)
    (nowindow : is_window (planned_turn code s).kind ≡ false) (none : breach_of b fresh code (live_of b f others) stale false (record_now code m s) f ≡ None) where
  abbrev g : FrameState
  g = with_inputs (inputs 0 s) f

  same_g : with_inputs (inputs_of (record_now code m s)) f ≡ g
  same_g = same_laid code s (reply_now code m s) f shaped.control.ps.owb_fits

  quiet : laid_breach b fresh code (live_of b f others) stale (record_now code m s) (with_inputs (inputs_of (record_now code m s)) f) ≡ None
  quiet = sym (breach_plain b fresh code (live_of b f others) stale (record_now code m s) f plain) ∙ none

  same_step : step_on code false (record_now code m s) f ≡ plain_after code (reply_now code m s) g
  same_step = step_plain code (record_now code m s) f plain ∙ (ap (λ x. plain_after code (record_now code m s).reply x) same_g ∙ ap (λ x. plain_after code x g) (record_reply code m s))

  -- and a step outside nested interrupts begins none
  pub judge_plain : (step_on code false (record_now code m s) f).after.nested ≡ None
  judge_plain = ap (λ (x : FrameTurn). x.after.nested) same_step ∙ ((laid_stays code (reply_now code m s) g).0 ∙ plain)

  abbrev u : FrameTurn
  u = plain_after code (reply_now code m s) g

  -- no live byte of either core is touched
  pub judge_areas : KeepsAreas (live_of b f others) stale (demand code s)
  judge_areas = step_areas code bytes b fresh s f ring spilled m l plain shaped real nowindow (live_of b f others) stale quiet

  same_fresh : (planned_turn code s).kind ≡ u.kind → (turn_of code s (reply_now code m s)).after.control.ps ≡ u.after.control.ps → fresh_turn fresh code (reply_now code m s) s ≡ fresh_on fresh code false (record_now code m s) f
  same_fresh kind after =
      let rec = record_now code m s in
      let ps : s.control.ps ≡ g.control.ps = l.plain.even.ps in
      let kept : (step_with_inputs code rec.reply (with_inputs (inputs_of rec) f)).after.nested ≡ None = (laid_stays code rec.reply (with_inputs (inputs_of rec) f)).0 ∙ plain in
      let F : FrameState → ℕ → Bool = λ x reply. fresh_after fresh (step_with_inputs code reply x).kind (fetch_at code x.control.pc) x.control.ps (step_with_inputs code reply x).after.control.ps in
      ap (λ pc. fresh_after fresh (planned_turn code s).kind (fetch_at code pc) s.control.ps (turn_of code s (reply_now code m s)).after.control.ps) l.plain.even.pc
      ∙ (ap (λ x. fresh_after fresh (planned_turn code s).kind (fetch_at code g.control.pc) x (turn_of code s (reply_now code m s)).after.control.ps) ps
      ∙ (ap (λ x. fresh_after fresh (planned_turn code s).kind (fetch_at code g.control.pc) g.control.ps x) after
      ∙ (ap (λ x. fresh_after fresh x (fetch_at code g.control.pc) g.control.ps u.after.control.ps) kind
      ∙ (ap (F g) (sym (record_reply code m s))
      ∙ (ap (λ x. F x rec.reply) (sym same_g)
      ∙ sym (fresh_plain fresh code rec f plain kept))))))

  pub judge_keeps : After code b fresh s f m framed others stale
  unfolding turn demand
  judge_keeps =
      let p = judged_step code bytes b fresh s f ring spilled m l plain shaped real nowindow (live_of b f others) stale quiet in
      let e = sym same_step in
      let access : (demand code s) ≡ u.access = p.access in
      record {
        same = record {
          place = l.plain.even.pc;
          kind = p.kind ∙ ap (λ (x : FrameTurn). x.kind) e;
          write = p.write ∙ ap (λ (x : FrameTurn). x.write) e;
          access = access ∙ ap (λ (x : FrameTurn). x.access) e;
          reply = record_reply code m s ∙ (replies_agree (live_of b f others) stale m framed (demand code s) agree judge_areas ∙ (ap (reply_at framed) access ∙ ap (λ (x : FrameTurn). reply_at framed x.access) e));
        };
        somewhere = subst (λ (x : FrameTurn). Somewhere (byte_at (memory_now code m s)) b (lost_at (fresh_on fresh code false (record_now code m s) f) x.after) (state_now code m s) x.after) e
            (subst (λ z. Somewhere (byte_at (memory_now code m s)) b (lost_at z u.after) (state_now code m s) u.after) (same_fresh p.kind p.ps) (record {
              ring = p.ring;
              spilled = spilled;
              related = p.related (λ a live. live_kept (live_of b f others) stale m (demand code s) a judge_areas (or_left (is_live b.range f a) (others a) live));
            }));
        agree = subst (λ (x : FrameTurn). Agree (live_of b x.after others) (stale_after (live_of b x.after others) (live_of b f others) stale (record_now code m s).access) (memory_now code m s) (memory_after_step framed x.access)) e
            (subst (λ o. Agree (live_of b u.after others) (stale_after (live_of b u.after others) (live_of b f others) stale (demand code s)) (memory_now code m s) (memory_after_step framed o)) access
            (memories_agree (live_of b f others) (live_of b u.after others) stale m framed (demand code s) real.sizes sizes (demand_served code s) agree judge_areas));
      }
