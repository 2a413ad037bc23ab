-- The MOVSP that a planned step executes.
use Rattle.std.specs.Prelude.{is_some}
use Rattle.std.proofs.Common.{◌≡◌, ◌||◌, ℕ, Bool, true, false, ltb, Option, Some, None, ⊎_elim, refl, sym, ◌∙◌, ap, arith, cond}
use Rattle.std.proofs.lemmas.Bool.{cases_Bool, cond-true, cond-false, lt-ltb, or_from, or_left, or_right}
use Rattle.xt_isa.specs.declared.Insn.{Insn}
use Rattle.xt_isa.specs.declared.Insn.TheVariants as insn
use Rattle.xt_isa.specs.declared.shift.Shift.TheVariants as shift
use Rattle.xt_special.specs.Interrupts.{pending_of}
use Rattle.xt_trace.specs.declared.record.StepKind.TheVariants as kind
use Rattle.xt_map.specs.Fetching.{Fetched, Fetches, fetch_at}
use Rattle.xt_codec.specs.Fetches.{IsFetched}
use Rattle.xt_codec.specs.declared.fetch.Fetch.{Fetch}
use Rattle.xt_codec.specs.declared.fetch.Fetch.TheVariants as fetch
use Rattle.xt_frames.specs.declared.view.NextEvent.{NextEvent}
use Rattle.xt_frames.specs.declared.view.NextEvent.TheVariants as plan
use Rattle.xt_frames.specs.Frames.{FrameState, value_or_zero}
use Rattle.xt_frames.specs.FrameStep.{FrameTurn}
use Rattle.xt_frames.specs.Breaches.{is_movsp}
use Rattle.xt_frames.specs.KeptFrameState.{IsKindOf, IsPlan}
use Rattle.xt_uses.specs.UseStep.{fetched_movsp, movsp_of, stack_moved}
use Rattle.xt_uses.specs.UseParts.{plan_movsp}
use Rattle.xt_uses.proofs.UseChains.{made_movsp, movsp_form, no_movsp, none_fails, none_nothing}

abbrev pub as_moved : Option (ℕ × ℕ × ℕ) → FrameState → Option FrameTurn
as_moved None g = None
as_moved (Some m) g = Some (stack_moved m.0 (value_or_zero g.seen m.1) m.2 g)

planned_movsp : (t s len : ℕ) → plan_movsp (plan.Fetched (fetch.Insn (insn.Shift (shift.Movsp t s)) len)) ≡ Some (t, s, len)
unfolding plan_movsp
planned_movsp t s len = refl

planned_other : (i : Insn) (len : ℕ) → is_movsp i ≡ false → plan_movsp (plan.Fetched (fetch.Insn i len)) ≡ None
unfolding plan_movsp is_movsp
planned_other (insn.Shift (shift.Movsp t s)) len e = absurd cc
planned_other _ len e = refl

planned_fails : (a : ℕ) → plan_movsp (plan.Fetched (fetch.Fails a)) ≡ None
unfolding plan_movsp
planned_fails a = refl

planned_nothing : plan_movsp (plan.Fetched fetch.Nothing) ≡ None
unfolding plan_movsp
planned_nothing = refl

planned_interrupt : (level : ℕ) → plan_movsp (plan.Interrupt level) ≡ None
unfolding plan_movsp
planned_interrupt level = refl

planned_waits : plan_movsp plan.Waits ≡ None
unfolding plan_movsp
planned_waits = refl

-- what is fetched
fetched_as : (x : Fetch) (at : Fetched) (g : FrameState) → IsFetched x at → fetched_movsp at g ≡ as_moved (plan_movsp (plan.Fetched x)) g
fetched_as (fetch.Insn i len) at g k =
    ap (λ (y : Fetched). fetched_movsp y g) k.0
    ∙ ⊎_elim
    (λ m.
    let form = movsp_form i m in
    ap (λ (j : Insn). fetched_movsp (Fetches j len) g) form.2
    ∙ (made_movsp form.0 form.1 len g
    ∙ sym (ap (λ (j : Insn). as_moved (plan_movsp (plan.Fetched (fetch.Insn j len))) g) form.2 ∙ ap (λ (o : Option (ℕ × ℕ × ℕ)). as_moved o g) (planned_movsp form.0 form.1 len))))
    (λ m. no_movsp i len g m ∙ sym (ap (λ (o : Option (ℕ × ℕ × ℕ)). as_moved o g) (planned_other i len m)))
    (cases_Bool (is_movsp i))
fetched_as (fetch.Fails a) at g k = ap (λ (y : Fetched). fetched_movsp y g) k ∙ (none_fails a g ∙ sym (ap (λ (o : Option (ℕ × ℕ × ℕ)). as_moved o g) (planned_fails a)))
fetched_as fetch.Nothing at g k = ap (λ (y : Fetched). fetched_movsp y g) k ∙ (none_nothing g ∙ sym (ap (λ (o : Option (ℕ × ℕ × ℕ)). as_moved o g) planned_nothing))

never : (n : Bool) (o : Option (ℕ × ℕ × ℕ)) (g : FrameState) → o ≡ None → None ≡ as_moved (cond n None o) g
never true o g e = refl
never false o g e = sym (ap (λ (x : Option (ℕ × ℕ × ℕ)). as_moved x g) e)

pub planned_moves : (p : NextEvent) (code : ℕ → ℕ) (g : FrameState) → IsPlan p code g.control → movsp_of code g ≡ as_moved (cond (is_some g.nested) None (plan_movsp p)) g
planned_moves (plan.Interrupt level) code g k =
    let is = k.0 in
    let low = k.1 in
    let at = fetched_movsp (fetch_at code g.control.pc) g in
    cond-true (is_some g.nested || (ltb 0 (pending_of g.control) || g.control.waits)) None at (or_right (is_some g.nested) _ (or_left _ _ (lt-ltb 0 (pending_of g.control) (omega (arith, is, low)))))
    ∙ never (is_some g.nested) (plan_movsp (plan.Interrupt level)) g (planned_interrupt level)
planned_moves plan.Waits code g k =
    cond-true (is_some g.nested || (ltb 0 (pending_of g.control) || g.control.waits)) None (fetched_movsp (fetch_at code g.control.pc) g) (or_right (is_some g.nested) _ (or_right _ _ k.1))
    ∙ never (is_some g.nested) (plan_movsp plan.Waits) g planned_waits
planned_moves (plan.Fetched x) code g k =
    let at = fetched_movsp (fetch_at code g.control.pc) g in
    let quiet : ltb 0 (pending_of g.control) ≡ false = ap (ltb 0) k.0 in
    ⊎_elim
    (λ n. cond-true (is_some g.nested || (ltb 0 (pending_of g.control) || g.control.waits)) None at (or_left (is_some g.nested) _ n)
    ∙ sym (ap (λ (b : Bool). as_moved (cond b None (plan_movsp (plan.Fetched x))) g) n))
    (λ n. cond-false (is_some g.nested || (ltb 0 (pending_of g.control) || g.control.waits)) None at (or_from (is_some g.nested) _ n (or_from _ _ quiet k.1))
    ∙ (fetched_as x (fetch_at code g.control.pc) g k.2 ∙ sym (ap (λ (b : Bool). as_moved (cond b None (plan_movsp (plan.Fetched x))) g) n)))
    (cases_Bool (is_some g.nested))

-- it is of kind Insn
pub planned_kind : (p : NextEvent) (n : Bool) (m : ℕ × ℕ × ℕ) → cond n None (plan_movsp p) ≡ Some m → IsKindOf p kind.Insn
planned_kind p true m e = absurd cc
planned_kind (plan.Interrupt level) false m e = absurd (let z = sym (planned_interrupt level) ∙ e in cc)
planned_kind plan.Waits false m e = absurd (let z = sym planned_waits ∙ e in cc)
planned_kind (plan.Fetched x) false m e = λ level same. cc
