-- What a turn asks for is an access that the bus serves, and the tests of save areas and stale bytes look at it.
use Rattle.std.proofs.Common.{◌≡◌, ℕ, Bool, false, ltb, Option, None, sym, ◌∙◌, refl, ⊎_elim, subst, List}
use Rattle.std.proofs.lemmas.Bool.{cases_Bool}
use Rattle.xt_map.specs.declared.access.Access.{Access}
use Rattle.xt_special.specs.Interrupts.{pending_of}
use Rattle.xt_trace.specs.declared.record.StepRecord.{StepRecord}
use Rattle.xt_map.specs.Fetching.{Fetched, Fetches, Fails, SpellsNothing, fetch_at}
use Rattle.xt_exec.specs.State.{State}
use Rattle.xt_exec.specs.Turn.{demand, turn}
use Rattle.xt_frames.specs.Frames.{Frame, FrameState}
use Rattle.xt_frames.specs.FrameStep.{FrameTurn, step_with_inputs}
use Rattle.xt_frames.specs.Breaches.{Bounds, fetched_tests, laid_breach, touches_save_area, loads_stale}
use Rattle.xt_simulation.specs.Relation.{Level, lost_at}
use Rattle.xt_frames.proofs.Shown.{NoneShown, none_shown}
use Rattle.xt_exec.proofs.Finished.{turn_taken, turn_waits}
use Rattle.xt_simulation.proofs.Evenly.{same_pending}
use Rattle.xt_simulation.proofs.Plans.{plan_asks}
use Rattle.xt_frames.proofs.StackSteps.{breach_fetches}

-- ---- a step that shows no breach touches no save area
abbrev pub Keeps : (ℕ → Bool) → (ℕ → Bool) → Option Access → Type 0
Keeps live stale o = (touches_save_area live o ≡ false) × (loads_stale live stale o ≡ false)

pub areas_fetched : (b : Bounds) (fresh : Bool) (live stale : ℕ → Bool) (at : Fetched) (rec : StepRecord) (g : FrameState) (u : FrameTurn) → NoneShown (fetched_tests b fresh live stale at rec g u) → Keeps live stale rec.access
areas_fetched b fresh live stale (Fetches i len) rec g u (unset, (written, (size, (low, (align, (opens, (mismatch, (caller, (saves, (loads, more)))))))))) = (saves, loads)
areas_fetched b fresh live stale (Fails address) rec g u (saves, (loads, more)) = (saves, loads)
areas_fetched b fresh live stale SpellsNothing rec g u (saves, (loads, more)) = (saves, loads)

none_asked : (live stale : ℕ → Bool) (o : Option Access) → o ≡ None → Keeps live stale o
none_asked live stale o e = rw e (refl, refl)

pub areas_kept : (code : ℕ → ℕ) (b : Bounds) (fresh : Bool) (live stale : ℕ → Bool) (s : State) (g : FrameState) (ring spilled : List Frame) (reply : ℕ) → Level b.vecbase (lost_at fresh g) s g ring spilled → laid_breach b fresh code live stale (turn code s reply).0 g ≡ None → Keeps live stale (demand code s)
unfolding turn demand
areas_kept code b fresh live stale s g ring spilled reply l none =
    let p = same_pending s.control g.control l.even in
    ⊎_elim
    (λ yes. none_asked live stale _ (plan_asks code s _ (turn_taken code s yes)))
    (λ no.
    let no_g : ltb 0 (pending_of g.control) ≡ false = subst (λ x. ltb 0 x ≡ false) p no in
    ⊎_elim
    (λ w. none_asked live stale _ (plan_asks code s _ (turn_waits code s no w)))
    (λ w.
    let w_g = sym l.even.waits ∙ w in
    let rec = (turn code s reply).0 in
    let f = breach_fetches b fresh code live stale rec g no_g w_g in
    areas_fetched b fresh live stale (fetch_at code g.control.pc) rec g (step_with_inputs code rec.reply g) (none_shown (fetched_tests b fresh live stale (fetch_at code g.control.pc) rec g (step_with_inputs code rec.reply g)) (sym f ∙ none)))
    (cases_Bool s.control.waits))
    (cases_Bool (ltb 0 (pending_of s.control)))
