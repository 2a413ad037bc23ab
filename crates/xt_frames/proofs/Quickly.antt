-- What a quick step is to the judge.
use Rattle.std.proofs.Common.{◌≡◌, ℕ, ◌+◌, ◌&&◌, eqb, Bool, false, Option, Some, None, List, [], refl, sym, ◌∙◌, ap, subst}
use Rattle.xt_trace.specs.declared.record.RegWrite.{RegWrite}
use Rattle.xt_trace.specs.declared.record.StepRecord.{StepRecord}
use Rattle.xt_map.specs.Fetching.{fetch_at}
use Rattle.xt_frames.specs.declared.breach.Limits.{Limits}
use Rattle.xt_frames.specs.declared.kinds.BreachKind.{BreachKind}
use Rattle.std.specs.Prelude.{is_some}
use Rattle.xt_frames.specs.declared.holes.UndefinedParts.{UndefinedParts}
use Rattle.xt_frames.specs.declared.holes.Nested.{Nested}
use Rattle.xt_frames.specs.declared.view.Caller.{Caller}
use Rattle.xt_frames.specs.Frames.{Frame, FrameState, value_or_zero, seen_after_write}
use Rattle.xt_frames.specs.FrameStep.{FrameTurn, with_inputs, step_with_inputs}
use Rattle.xt_frames.specs.Nesting.{unset_after}
use Rattle.xt_frames.specs.Breaches.{breach_of, inputs_of, laid_breach, touches_save_area, loads_stale, fresh_after}
use Rattle.xt_frames.specs.Judging.{fresh_on, step_on}
use Rattle.xt_frames.specs.KeptFrameState.{AreKept, Upper, frames_of, state_at}
use Rattle.xt_frames.specs.Stacks.{Moves, Stays, Stack}
use Rattle.xt_frames.specs.Quick.{IsQuick}
use Rattle.xt_frames.specs.Walked.{Walked, bounds_of, found_in, fresh_before, walked_past}
use Rattle.xt_frames.proofs.Inside.{breach_plain, fresh_plain, step_plain}
use Rattle.xt_frames.proofs.Shown.{sp_kept, sp_written}
use Rattle.xt_frames.proofs.StackSteps.{write_stack}

pub none_is : (o : Option Nested) → is_some o ≡ false → o ≡ None
none_is None h = refl
none_is (Some x) h = absurd cc

-- the inputs of a record lie over v, which gives g, and x is what the step leaves
pub record IsOver (limits : Limits) (fresh : Bool) (code : ℕ → ℕ) (rec : StepRecord) (h : UndefinedParts) (write : Option RegWrite) (v g x : Upper) : Type 0 where
  pub plain : h.nested ≡ None
  pub over : (frames : List Frame) → state_at frames h g ≡ with_inputs (inputs_of rec) (state_at frames h v)
  pub quick : IsQuick limits fresh code rec h write g x

module _ (limits : Limits) (fresh : Bool) (code : ℕ → ℕ) (rec : StepRecord) (h : UndefinedParts) (write : Option RegWrite) (v g x : Upper) (k : IsOver limits fresh code rec h write v g x) where
  quick_found : (frames : List Frame) (live dead : ℕ → Bool) → touches_save_area live rec.access ≡ false → loads_stale live dead rec.access ≡ false
      → breach_of (bounds_of limits) fresh code live dead false rec (state_at frames h v) ≡ None
  quick_found frames live dead saves loads =
      let B : FrameState → Option BreachKind = λ f. laid_breach (bounds_of limits) fresh code live dead rec f in
      breach_plain (bounds_of limits) fresh code live dead rec (state_at frames h v) k.plain
      ∙ (ap B (sym (k.over frames)) ∙ k.quick.none frames live dead saves loads)

  quick_after : (frames : List Frame) → (step_on code false rec (state_at frames h v)).after ≡ state_at frames h x
  quick_after frames =
      let f = state_at frames h v in
      let u : FrameTurn = step_with_inputs code rec.reply (state_at frames h g) in
      let N : FrameState → FrameState = λ s. record (step_with_inputs code rec.reply s).after { unset = unset_after (step_with_inputs code rec.reply s).kind (fetch_at code s.control.pc) h.unset } in
      let U : FrameState → FrameState = λ s. record s { unset = unset_after u.kind (fetch_at code g.control.pc) h.unset } in
      let X : List Bool → FrameState = λ unset. record (state_at frames h x) { unset = unset } in
      ap (λ (t : FrameTurn). t.after) (step_plain code rec f k.plain)
      ∙ (ap N (sym (k.over frames)) ∙ (ap U (k.quick.turn frames).after ∙ ap X (k.quick.unset frames)))

  quick_fresh : (frames : List Frame) → fresh_on fresh code false rec (state_at frames h v) ≡ fresh
  quick_fresh frames =
      let f = state_at frames h v in
      let u : FrameTurn = step_with_inputs code rec.reply (state_at frames h g) in
      let F : FrameState → Bool = λ s. fresh_after fresh (step_with_inputs code rec.reply s).kind (fetch_at code s.control.pc) s.control.ps (step_with_inputs code rec.reply s).after.control.ps in
      let G : FrameState → Bool = λ s. fresh_after fresh u.kind (fetch_at code g.control.pc) g.control.ps s.control.ps in
      let nested : (step_with_inputs code rec.reply (with_inputs (inputs_of rec) f)).after.nested ≡ None =
      ap (λ (s : FrameState). (step_with_inputs code rec.reply s).after.nested) (sym (k.over frames)) ∙ (ap (λ (s : FrameState). s.nested) (k.quick.turn frames).after ∙ k.plain) in
      fresh_plain fresh code rec f k.plain nested
      ∙ (ap F (sym (k.over frames)) ∙ (ap G (k.quick.turn frames).after ∙ k.quick.kept frames))

  pub seen_is : x.seen ≡ seen_after_write write v.seen
  seen_is =
      let none : List Frame = [] in
      k.quick.row.seen ∙ ap (λ (s : FrameState). seen_after_write write s.seen) (k.over none)

  pub quick_moves : (frames : List Frame) → Moves (state_at frames h v) (state_at frames h x)
  quick_moves frames = Stays refl (ap (λ (s : List (Option ℕ)). value_or_zero s 1) seen_is ∙ sp_written v.seen write (sp_kept write k.quick.row.free))

  pub quick_kept : (lo hi : ℕ) (callers : List Caller) (capacity : ℕ) → AreKept lo hi v callers capacity → AreKept lo hi x callers capacity
  quick_kept lo hi callers capacity a = record {
    stack = subst (λ (s : List (Option ℕ)). Stack lo hi s (frames_of callers)) (sym seen_is) (write_stack a.stack write (sp_kept write k.quick.row.free));
    room = a.room;
  }

  pub quick_judged : (core next index : ℕ) (was : Bool) (frames : List Frame) (live dead : ℕ → Bool) (w : Walked)
      → fresh ≡ fresh_before w index → record { core = core; bounds = bounds_of limits; state = state_at frames h v; fresh = was; next = next } ≡ w
      → touches_save_area live rec.access ≡ false → loads_stale live dead rec.access ≡ false
      → (found_in w code live dead index false rec ≡ None) × (record { core = core; bounds = bounds_of limits; state = state_at frames h x; fresh = fresh; next = index + 1 } ≡ walked_past w code index false rec)
  quick_judged core next index was frames live dead w before view saves loads =
      let is : fresh ≡ (was && eqb next index) = before ∙ sym (ap (λ (y : Walked). fresh_before y index) view) in
      let f = state_at frames h v in
      let a = (step_on code false rec f).after in
      let B : Bool → Option BreachKind = λ b. breach_of (bounds_of limits) b code live dead false rec f in
      let R : FrameState → Bool → Walked = λ s b. record { core = core; bounds = bounds_of limits; state = s; fresh = b; next = index + 1 } in
      let P : Walked → Type 0 = λ y. (found_in y code live dead index false rec ≡ None) × (R (state_at frames h x) fresh ≡ walked_past y code index false rec) in
      let found = ap B (sym is) ∙ quick_found frames live dead saves loads in
      let past = ap (λ (s : FrameState). R s fresh) (sym (quick_after frames))
      ∙ (ap (R a) (sym (quick_fresh frames)) ∙ ap (λ (b : Bool). R a (fresh_on b code false rec f)) is) in
      subst P view (found, past)
