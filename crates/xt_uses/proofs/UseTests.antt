-- The tests of the discipline of uses, beside those of the stack discipline.
use Rattle.std.proofs.Common.{◌≡◌, ◌||◌, ◌&&◌, ℕ, Bool, true, false, not, ltb, List, [], ◌∷◌, Option, Some, None, refl, sym, ◌∙◌, ap, cond}
use Rattle.std.proofs.lemmas.Bool.{and_right, cond-true, cond-false, or_from}
use Rattle.xt_isa.specs.declared.Insn.{Insn}
use Rattle.xt_map.specs.declared.access.Access.{Access}
use Rattle.xt_map.specs.Touching.{is_load}
use Rattle.xt_special.specs.Interrupts.{pending_of}
use Rattle.xt_trace.specs.declared.record.StepRecord.{StepRecord}
use Rattle.xt_map.specs.Fetching.{Fetched, Fetches, fetch_at}
use Rattle.xt_rows.specs.Kinds.{is_return}
use Rattle.xt_frames.specs.declared.breach.Case.{Case}
use Rattle.xt_frames.specs.Frames.{Frame, FrameState}
use Rattle.xt_frames.specs.FrameStep.{FrameTurn, step_with_inputs}
use Rattle.xt_frames.specs.Breaches.{Bounds, first_shown, insn_tests, loads_stale, other_tests, return_tests, some_byte, touches_save_area, vector_test}
use Rattle.xt_frames.specs.KeptFrameState.{IsCase}
use Rattle.xt_frames.proofs.TestRows.{no_byte}
use Rattle.xt_uses.specs.declared.testing.Touched.{Touched}
use Rattle.xt_uses.specs.UseState.{UseState}
use Rattle.xt_uses.specs.UseBreaches.{fetched_return_use, fetched_uses, laid_use, nowhere, use_tests, uses_unknown}
use Rattle.xt_uses.specs.UseParts.{IsTouched, IsUseCase}

-- ---- an interrupt or a turn of waiting, and another step
pub use_alone : (b : Bounds) (fresh : Bool) (code : ℕ → ℕ) (live : ℕ → Bool) (bytes : ℕ → ℕ) (rec : StepRecord) (s : UseState) (f : FrameState) → (ltb 0 (pending_of f.control) || f.control.waits) ≡ true
    → laid_use b fresh code live bytes rec s f ≡ first_shown (vector_test b f ∷ [])
unfolding laid_use
use_alone b fresh code live bytes rec s f h = cond-true _ _ _ h

pub use_fetches : (b : Bounds) (fresh : Bool) (code : ℕ → ℕ) (live : ℕ → Bool) (bytes : ℕ → ℕ) (rec : StepRecord) (s : UseState) (f : FrameState) → ltb 0 (pending_of f.control) ≡ false → f.control.waits ≡ false
    → laid_use b fresh code live bytes rec s f ≡ first_shown (fetched_uses b fresh live bytes (fetch_at code f.control.pc) rec s f (step_with_inputs code rec.reply f))
unfolding laid_use
use_fetches b fresh code live bytes rec s f e w = cond-false (ltb 0 (pending_of f.control) || f.control.waits) _ _ (or_from _ _ e w)

-- ---- the test for StaleLoad is not asked for
-- the live bytes that a store can touch
abbrev pub spared : Option Access → (ℕ → Bool) → ℕ → Bool
spared None live a = false
spared (Some x) live a = cond (is_load x.kind) false (live a)

saves_by : (b : Bool) (live : ℕ → Bool) (addr size : ℕ) → (not b && some_byte (λ a. cond b false (live a)) addr size) ≡ (not b && some_byte live addr size)
saves_by true live addr size = refl
saves_by false live addr size = refl

pub spared_saves : (access : Option Access) (live : ℕ → Bool) → touches_save_area (spared access live) access ≡ touches_save_area live access
spared_saves None live = refl
spared_saves (Some x) live = saves_by (is_load x.kind) live x.addr x.size

loads_by : (b : Bool) (live : ℕ → Bool) (addr size : ℕ) → (b && some_byte (λ a. cond b false (live a)) addr size) ≡ false
loads_by true live addr size = no_byte addr size
loads_by false live addr size = refl

pub spared_loads : (access : Option Access) (live : ℕ → Bool) → loads_stale (spared access live) nowhere access ≡ false
spared_loads None live = refl
spared_loads (Some x) live = and_right _ _ (or_from _ _ (no_byte x.addr x.size) (loads_by (is_load x.kind) live x.addr x.size))

pub case_of : (case : Case) (touched : Touched) (rec : StepRecord) (frames : List Frame) (live : ℕ → Bool) (bytes : ℕ → ℕ) → case.stale ≡ false
    → IsUseCase case touched frames → IsTouched touched rec live bytes → IsCase case rec frames (spared rec.access live) nowhere
case_of case touched rec frames live bytes stale k t = record {
  saves = spared_saves rec.access live ∙ (t.saves ∙ sym k.saves);
  stale_load = spared_loads rec.access live ∙ sym stale;
  newest = k.newest;
  under = k.under;
}

insn_same : (unset stale movsp : Bool) (b : Bounds) (fresh : Bool) (one other : ℕ → Bool) (i : Insn) (rec : StepRecord) (f : FrameState) (u : FrameTurn) → touches_save_area one rec.access ≡ touches_save_area other rec.access
    → use_tests unset stale movsp (insn_tests b fresh one nowhere i rec f u) ≡ use_tests unset stale movsp (insn_tests b fresh other nowhere i rec f u)
insn_same unset stale movsp b fresh one other i rec f u e = cc

pub insn_spared : (unset stale movsp : Bool) (b : Bounds) (fresh : Bool) (live : ℕ → Bool) (i : Insn) (rec : StepRecord) (f : FrameState) (u : FrameTurn)
    → use_tests unset stale movsp (insn_tests b fresh (spared rec.access live) nowhere i rec f u) ≡ use_tests unset stale movsp (insn_tests b fresh live nowhere i rec f u)
insn_spared unset stale movsp b fresh live i rec f u = insn_same unset stale movsp b fresh (spared rec.access live) live i rec f u (spared_saves rec.access live)

other_same : (unset stale movsp : Bool) (b : Bounds) (one other : ℕ → Bool) (rec : StepRecord) (f : FrameState) (u : FrameTurn) → touches_save_area one rec.access ≡ touches_save_area other rec.access
    → use_tests unset stale movsp (other_tests b one nowhere rec f u) ≡ use_tests unset stale movsp (other_tests b other nowhere rec f u)
other_same unset stale movsp b one other rec f u e = cc

pub other_spared : (unset stale movsp : Bool) (b : Bounds) (live : ℕ → Bool) (rec : StepRecord) (f : FrameState) (u : FrameTurn)
    → use_tests unset stale movsp (other_tests b (spared rec.access live) nowhere rec f u) ≡ use_tests unset stale movsp (other_tests b live nowhere rec f u)
other_spared unset stale movsp b live rec f u = other_same unset stale movsp b (spared rec.access live) live rec f u (spared_saves rec.access live)

-- ---- the record of an underflow
pub of_return : (at : Fetched) (i : Insn) (len : ℕ) (s : UseState) (f : FrameState) → at ≡ Fetches i len → is_return i ≡ true → fetched_return_use at s f ≡ first_shown (use_tests (uses_unknown i s f) false false (return_tests i f))
of_return at i len s f e r = ap (λ x. fetched_return_use x s f) e ∙ cond-true (is_return i) _ _ r
