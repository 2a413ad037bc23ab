-- A step in a nested interrupt, and the step that begins one.
use Rattle.std.proofs.Common.{◌≢◌, ◌&&◌, ◌≡◌, ℕ, ◌<◌, Bool, true, false, not, ltb, List, [], ◌∷◌, Option, Some, None, sym, ◌∙◌, refl, ap, arith, cond, subst, ltb-true}
use Rattle.std.specs.Prelude.{Result, Ok, Err, is_some, unwrap_or}
use Rattle.std.proofs.Math.Bool.{and-true}
use Rattle.std.proofs.lemmas.Bool.{and_right, and_parts, cond-true, lt-ltb}
use Rattle.xt_isa.specs.declared.Insn.{Insn}
use Rattle.xt_isa.specs.declared.Insn.TheVariants as insn
use Rattle.xt_isa.specs.declared.system.System.TheVariants as system
use Rattle.xt_isa.specs.declared.system.SpecialName.TheVariants as SpecialName
use Rattle.xt_isa.specs.Ranges.{in_range, one_register}
use Rattle.xt_special.specs.Interrupts.{after_interrupt, pending_of}
use Rattle.xt_trace.specs.declared.record.StepKind.{StepKind}
use Rattle.xt_trace.specs.declared.record.StepKind.TheVariants as kind
use Rattle.xt_rows.specs.declared.outcome.Outcome.{Outcome}
use Rattle.xt_rows.specs.declared.outcome.Outcome.TheVariants.{Windowed}
use Rattle.xt_rows.specs.declared.outcome.WindowStep.{WindowStep}
use Rattle.xt_rows.specs.declared.outcome.WindowStep.TheVariants.{Enters, Returns}
use Rattle.xt_rows.specs.Outcomes.{outcome_at}
use Rattle.xt_trace.specs.declared.record.StepRecord.{StepRecord}
use Rattle.xt_map.specs.Fetching.{Fetched, Fetches, Fails, SpellsNothing, fetch_at}
use Rattle.xt_frames.specs.declared.kinds.BreachKind.{BreachKind}
use Rattle.xt_frames.specs.declared.judged.Done.{Done}
use Rattle.xt_frames.specs.declared.breach.Case.{Case}
use Rattle.xt_frames.specs.declared.holes.Nested.{Nested}
use Rattle.xt_frames.specs.Frames.{Frame, FrameState, value_or_zero}
use Rattle.xt_frames.specs.FrameStep.{FrameTurn, done_in_frame, fetched_step, with_inputs, step_with_inputs, return_in_frame, return_to_frame, entry_in_frame, windowed_in_frame}
use Rattle.xt_frames.specs.Marks.{moved_to}
use Rattle.xt_frames.specs.Nesting.{begins, nested_entry, current, current_in, ends_nested, frame_step, nested_view, is_nesting, nested_fetched, nested_turn, plain_turn, turn_in}
use Rattle.xt_frames.specs.HandlerSteps.{closes, fetched_returns, returns}
use Rattle.xt_frames.specs.Breaches.{Bounds, breach_of, fresh_after, inputs_of, laid_breach, writes_epc1}
use Rattle.xt_frames.specs.Judging.{fresh_on, place_on, step_on, value_in}
use Rattle.xt_frames.specs.KeptFrameState.{IsKindOf, IsPlan}
use Rattle.xt_frames.specs.declared.view.NextEvent.{NextEvent}
use Rattle.xt_frames.specs.declared.view.NextEvent.TheVariants as plan
use Rattle.xt_frames.proofs.StackSteps.{turn_if, step_fetches, step_taken, step_waits}
use Rattle.xt_frames.specs.Stepped.{IsDone, found_by}
use Rattle.xt_frames.specs.Walked.{bounds_of}

-- ---- operands
small : (n : ℕ) → one_register n ≡ true → n < 16
unfolding one_register
small n e = ltb-true n 16 e

-- the visible register that WSR or XSR reads is there
pub moved_range : (i : Insn) (t n : ℕ) → in_range i ≡ true → moved_to i ≡ Some (t, n) → t < 16
unfolding moved_to
moved_range (insn.System (system.Special SpecialName.Wsr s m)) t n ok e = let same : s ≡ t = ap (λ (o : Option (ℕ × ℕ)). (unwrap_or o (0, 0)).0) e in subst (λ x. x < 16) same (small s (and_parts _ _ ok).0)
moved_range (insn.System (system.Special SpecialName.Xsr s m)) t n ok e = let same : s ≡ t = ap (λ (o : Option (ℕ × ℕ)). (unwrap_or o (0, 0)).0) e in subst (λ x. x < 16) same (small s (and_parts _ _ ok).0)
moved_range _ t n ok e = absurd cc

-- ---- where nothing begins, it does not matter whether the record is nested
pub as_plain : (case : Case) (code : ℕ → ℕ) (live stale : ℕ → Bool) (nested : Bool) (rec : StepRecord) (f : FrameState) (result : Result Done BreachKind) (new : List Frame → FrameState)
    → begins nested rec.kind f ≡ false → IsDone (found_by case code live stale false rec f) case.fresh code false rec f result new
    → IsDone (found_by case code live stale nested rec f) case.fresh code nested rec f result new
as_plain case code live stale nested rec f (Ok done) new e h =
    let none : Option BreachKind = None in
    let B : Bool → Option BreachKind = λ b. cond b none (laid_breach (bounds_of case.limits) case.fresh code live stale rec (with_inputs (inputs_of rec) (current f))) in
    let T : Bool → FrameTurn = λ b. frame_step code b (value_in rec.write) (inputs_of rec) f in
    let F : Bool → Bool = λ b. fresh_after case.fresh (T b).kind (fetch_at code (current f).control.pc) (with_inputs (inputs_of rec) (current f)).control.ps (current (T b).after).control.ps in
    (ap B e ∙ h.0, h.1 ∙ sym (ap (λ b. (T b).after) e), h.2 ∙ sym (ap F e))
as_plain case code live stale nested rec f (Err kind) new e h =
    let none : Option BreachKind = None in
    let B : Bool → Option BreachKind = λ b. cond b none (laid_breach (bounds_of case.limits) case.fresh code live stale rec (with_inputs (inputs_of rec) (current f))) in
    (ap B e ∙ h.0, h.1)

-- ---- outside nested interrupts
pub breach_plain : (b : Bounds) (fresh : Bool) (code : ℕ → ℕ) (live stale : ℕ → Bool) (rec : StepRecord) (f : FrameState) → f.nested ≡ None
    → breach_of b fresh code live stale false rec f ≡ laid_breach b fresh code live stale rec (with_inputs (inputs_of rec) f)
breach_plain b fresh code live stale rec f e =
    ap (λ (o : Option Nested). laid_breach b fresh code live stale rec (with_inputs (inputs_of rec) (current_in o f))) e

pub place_plain : (rec : StepRecord) (f : FrameState) → f.nested ≡ None → place_on false rec f ≡ f.control.pc
place_plain rec f e = ap (λ (o : Option Nested). (current_in o f).control.pc) e

pub step_plain : (code : ℕ → ℕ) (rec : StepRecord) (f : FrameState) → f.nested ≡ None
    → step_on code false rec f ≡ plain_turn code (inputs_of rec) f
step_plain code rec f e = ap (λ (o : Option Nested). turn_in o code (value_in rec.write) (inputs_of rec) f) e

-- ---- inside one
no_beginning : (nested : Bool) (kind : StepKind) → (nested && (is_nesting kind && false)) ≡ false
no_beginning nested kind = and_right nested _ (and_right (is_nesting kind) false refl)

pub breach_inside : (b : Bounds) (fresh : Bool) (code : ℕ → ℕ) (live stale : ℕ → Bool) (nested : Bool) (rec : StepRecord) (f : FrameState) (x : Nested) → f.nested ≡ Some x
    → breach_of b fresh code live stale nested rec f ≡ laid_breach b fresh code live stale rec (with_inputs (inputs_of rec) (nested_view x f))
breach_inside b fresh code live stale nested rec f x e =
    let none : Option BreachKind = None in
    let L : Option BreachKind = laid_breach b fresh code live stale rec (with_inputs (inputs_of rec) (nested_view x f)) in
    let B : Option Nested → Option BreachKind = λ o. cond (nested && (is_nesting rec.kind && not (is_some o))) none (laid_breach b fresh code live stale rec (with_inputs (inputs_of rec) (current_in o f))) in
    ap B e ∙ ap (λ (b : Bool). cond b none L) (no_beginning nested rec.kind)

pub place_inside : (rec : StepRecord) (f : FrameState) (x : Nested) → f.nested ≡ Some x → place_on true rec f ≡ x.pc
place_inside rec f x e =
    ap (λ (o : Option Nested). cond (true && (is_nesting rec.kind && not (is_some o))) rec.pc (current_in o f).control.pc) e
    ∙ ap (λ b. cond b rec.pc x.pc) (no_beginning true rec.kind)

pub step_inside : (code : ℕ → ℕ) (nested : Bool) (rec : StepRecord) (f : FrameState) (x : Nested) → f.nested ≡ Some x
    → step_on code nested rec f ≡ nested_turn code (value_in rec.write) (inputs_of rec) x f
step_inside code nested rec f x e =
    let S : Option Nested → FrameTurn = λ o. cond (nested && (is_nesting rec.kind && not (is_some o))) (nested_entry (with_inputs (inputs_of rec) f)) (turn_in o code (value_in rec.write) (inputs_of rec) f) in
    ap S e ∙ ap (λ (b : Bool). cond b (nested_entry (with_inputs (inputs_of rec) f)) (nested_turn code (value_in rec.write) (inputs_of rec) x f)) (no_beginning nested rec.kind)

pub kind_inside : (at : Fetched) (value : ℕ) (x : Nested) (f : FrameState) (u : FrameTurn) → (nested_fetched at value x f u).kind ≡ u.kind
kind_inside (Fetches i len) value x f u = turn_if (λ (v : FrameTurn). v.kind ≡ u.kind) (ends_nested i) _ _ refl refl
kind_inside (Fails address) value x f u = refl
kind_inside SpellsNothing value x f u = refl

pub fresh_inside : (fresh : Bool) (code : ℕ → ℕ) (nested : Bool) (rec : StepRecord) (f : FrameState) (x : Nested) → f.nested ≡ Some x
    → fresh_on fresh code nested rec f ≡ (let g = with_inputs (inputs_of rec) (nested_view x f) in let u = nested_turn code (value_in rec.write) (inputs_of rec) x f in
    fresh_after fresh (step_with_inputs code rec.reply g).kind (fetch_at code g.control.pc) g.control.ps (current u.after).control.ps)
fresh_inside fresh code nested rec f x e =
    let F : FrameTurn → FrameState → StepKind → Bool = λ u s k. fresh_after fresh k (fetch_at code s.control.pc) (with_inputs (inputs_of rec) s).control.ps (current u.after).control.ps in
    let u = nested_turn code (value_in rec.write) (inputs_of rec) x f in
    ap (λ (u : FrameTurn). F u (current f) u.kind) (step_inside code nested rec f x e)
    ∙ (ap (λ (o : Option Nested). F u (current_in o f) u.kind) e
    ∙ ap (F u (nested_view x f)) (kind_inside (fetch_at code x.pc) (value_in rec.write) x f (step_with_inputs code rec.reply (with_inputs (inputs_of rec) (nested_view x f)))))

-- ---- the save areas of the frame state are as they were
abbrev pub Still : FrameState → FrameTurn → Type 0
Still f u = (u.after.seen ≡ f.seen) × (u.after.frames ≡ f.frames)

pub still_fetched : (at : Fetched) (value : ℕ) (x : Nested) (f : FrameState) (u : FrameTurn) → Still f (nested_fetched at value x f u)
still_fetched (Fetches i len) value x f u = turn_if (Still f) (ends_nested i) _ _ (refl, refl) (refl, refl)
still_fetched (Fails address) value x f u = (refl, refl)
still_fetched SpellsNothing value x f u = (refl, refl)

pub still_inside : (code : ℕ → ℕ) (rec : StepRecord) (f : FrameState) (x : Nested) → f.nested ≡ Some x → Still f (step_on code true rec f)
still_inside code rec f x e = subst (Still f) (sym (step_inside code true rec f x e)) (still_fetched (fetch_at code (with_inputs (inputs_of rec) (nested_view x f)).control.pc) (value_in rec.write) x f (step_with_inputs code rec.reply (with_inputs (inputs_of rec) (nested_view x f))))

-- ---- RFI 5 alone ends one
if_ends : (b : Bool) (u v : FrameTurn) → b ≡ true → u.after.nested ≡ None → (cond b u v).after.nested ≡ None
if_ends true u v e n = n
if_ends false u v e n = absurd cc

if_open : (b : Bool) (u v : FrameTurn) (y : Nested) → b ≡ false → v.after.nested ≡ Some y → (cond b u v).after.nested ≡ None → ⊥
if_open true u v y e s n = cc
if_open false u v y e s n = cc

pub ended_fetched : (at : Fetched) (value : ℕ) (x : Nested) (f : FrameState) (u : FrameTurn) → fetched_returns at ≡ true → (nested_fetched at value x f u).after.nested ≡ None
ended_fetched (Fetches i len) value x f u e = if_ends (ends_nested i) _ _ e refl
ended_fetched (Fails address) value x f u e = absurd cc
ended_fetched SpellsNothing value x f u e = absurd cc

pub open_fetched : (at : Fetched) (value : ℕ) (x : Nested) (f : FrameState) (u : FrameTurn) → fetched_returns at ≡ false → (nested_fetched at value x f u).after.nested ≡ None → ⊥
open_fetched (Fetches i len) value x f u e n = if_open (ends_nested i) _ _ _ e refl n
open_fetched (Fails address) value x f u e n = cc
open_fetched SpellsNothing value x f u e n = cc

pub returns_fetched : (code : ℕ → ℕ) (k : StepKind) (pc : ℕ) → returns code k pc ≡ true → fetched_returns (fetch_at code pc) ≡ true
returns_fetched code kind.Insn pc e = e
returns_fetched code _ pc e = absurd cc

pub closes_plain : (code : ℕ → ℕ) (k : StepKind) (pc : ℕ) → closes code k pc ≡ true → is_nesting k ≡ false
closes_plain code kind.Insn pc e = refl
closes_plain code _ pc e = absurd cc

-- ---- the step that begins one
pub fresh_begun : (fresh : Bool) (at : Fetched) (f g : FrameState) → fresh ≡ fresh_after fresh (nested_entry g).kind at f.control.ps (current (nested_entry g).after).control.ps
unfolding after_interrupt writes_epc1
fresh_begun fresh at f g =
    sym (ap (λ (b : Bool). fresh && not b) (and_right f.control.ps.excm false refl) ∙ and-true fresh)

pub begins_now : (rec : StepRecord) (f : FrameState) → is_nesting rec.kind ≡ true → f.nested ≡ None → begins true rec.kind f ≡ true
begins_now rec f e n = ap (λ (o : Option Nested). is_nesting rec.kind && not (is_some o)) n ∙ ap (λ b. b && true) e

pub step_begins : (code : ℕ → ℕ) (rec : StepRecord) (f : FrameState) → is_nesting rec.kind ≡ true → f.nested ≡ None → step_on code true rec f ≡ nested_entry (with_inputs (inputs_of rec) f)
step_begins code rec f e n = cond-true (begins true rec.kind f) _ _ (begins_now rec f e n)

-- ---- what a planned step is
one_not : (b : Bool) (u v : FrameTurn) → ((level : ℕ) → u.kind ≢ kind.Interrupt level) → ((level : ℕ) → v.kind ≢ kind.Interrupt level) → (level : ℕ) → (cond b u v).kind ≢ kind.Interrupt level
one_not true u v p q = p
one_not false u v p q = q

pushed_not : (number value len : ℕ) (f : FrameState) (level : ℕ) → (entry_in_frame number value len f).kind ≢ kind.Interrupt level
unfolding entry_in_frame
pushed_not number value len f level = λ e. cc

popped_from_not : (frames : List Frame) (a0 : ℕ) (f : FrameState) (level : ℕ) → (return_to_frame frames a0 f).kind ≢ kind.Interrupt level
popped_from_not [] a0 f level = λ e. cc
popped_from_not (g ∷ rest) a0 f level = λ e. cc

popped_not : (a0 : ℕ) (f : FrameState) (level : ℕ) → (return_in_frame a0 f).kind ≢ kind.Interrupt level
unfolding return_in_frame
popped_not a0 f = popped_from_not f.frames a0 f

windowed_not : (step : WindowStep) (len reply : ℕ) (f : FrameState) (level : ℕ) → (windowed_in_frame step len reply f).kind ≢ kind.Interrupt level
windowed_not (Enters number value) len reply f = one_not f.control.ps.excm _ _ (λ level e. cc) (pushed_not number value len f)
windowed_not (Returns a0) len reply f = one_not f.control.ps.excm _ _ (λ level e. cc) (popped_not a0 f)
windowed_not _ len reply f = λ level e. cc

done_not : (o : Outcome) (len reply : ℕ) (f : FrameState) (level : ℕ) → (done_in_frame o len reply f).kind ≢ kind.Interrupt level
done_not (Windowed step) len reply f = windowed_not step len reply f
done_not _ len reply f = λ level e. cc

fetched_not : (at : Fetched) (code : ℕ → ℕ) (reply : ℕ) (f : FrameState) (level : ℕ) → (fetched_step at code reply f).kind ≢ kind.Interrupt level
fetched_not (Fetches i len) code reply f = done_not (outcome_at code i (value_or_zero f.seen) f.control) len reply f
fetched_not (Fails address) code reply f = λ level e. cc
fetched_not SpellsNothing code reply f = λ level e. cc

pub kind_planned : (p : NextEvent) (code : ℕ → ℕ) (reply : ℕ) (g : FrameState) → IsPlan p code g.control → IsKindOf p (step_with_inputs code reply g).kind
kind_planned (plan.Interrupt level) code reply g k =
    let is = k.0 in
    let low = k.1 in
    ap (λ (u : FrameTurn). u.kind) (step_taken code reply g (lt-ltb 0 (pending_of g.control) (omega (arith, is, low)))) ∙ ap kind.Interrupt is
kind_planned plan.Waits code reply g k = ap (λ (u : FrameTurn). u.kind) (step_waits code reply g (ap (ltb 0) k.0) k.1)
kind_planned (plan.Fetched f) code reply g k = λ level e.
    fetched_not (fetch_at code g.control.pc) code reply g level (sym (ap (λ (u : FrameTurn). u.kind) (step_fetches code reply g (ap (ltb 0) k.0) k.1)) ∙ e)

pub fresh_plain : (fresh : Bool) (code : ℕ → ℕ) (rec : StepRecord) (f : FrameState) → f.nested ≡ None → (step_with_inputs code rec.reply (with_inputs (inputs_of rec) f)).after.nested ≡ None
    → fresh_on fresh code false rec f ≡ (let g = with_inputs (inputs_of rec) f in let u = step_with_inputs code rec.reply g in
    fresh_after fresh u.kind (fetch_at code g.control.pc) g.control.ps u.after.control.ps)
fresh_plain fresh code rec f e kept =
    let F : FrameTurn → FrameState → FrameState → Bool = λ u s v. fresh_after fresh u.kind (fetch_at code s.control.pc) (with_inputs (inputs_of rec) s).control.ps v.control.ps in
    let u = plain_turn code (inputs_of rec) f in
    ap (λ (u : FrameTurn). F u (current f) (current u.after)) (step_plain code rec f e)
    ∙ (ap (λ (o : Option Nested). F u (current_in o f) (current u.after)) e
    ∙ ap (λ (o : Option Nested). F u f (current_in o u.after)) kept)
