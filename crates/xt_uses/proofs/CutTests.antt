-- What a step that shows no breach of uses denies.
use Rattle.std.proofs.Common.{◌≡◌, ℕ, Bool, false, ltb, ◌||◌, None, sym, ◌∙◌, subst}
use Rattle.std.proofs.lemmas.Bool.{cond-false, or_from}
use Rattle.xt_isa.specs.declared.Insn.{Insn}
use Rattle.xt_special.specs.Interrupts.{pending_of}
use Rattle.xt_trace.specs.declared.record.StepRecord.{StepRecord}
use Rattle.xt_map.specs.Fetching.{fetch_at}
use Rattle.xt_rows.specs.Kinds.{is_windowing, names_window_register}
use Rattle.xt_frames.specs.Frames.{FrameState}
use Rattle.xt_frames.specs.FrameStep.{FrameTurn, fetched_step, step_with_inputs}
use Rattle.xt_frames.specs.Breaches.{Bounds, breaks_nested, first_shown, insn_tests}
use Rattle.xt_frames.proofs.Shown.{NoneShown, none_shown}
use Rattle.xt_frames.proofs.StackSteps.{step_fetches}
use Rattle.xt_uses.specs.UseState.{UseState}
use Rattle.xt_uses.specs.UseBreaches.{fetched_uses, laid_use, nowhere, use_tests}

pub record Unused (i : Insn) (g : FrameState) (u : FrameTurn) (unset movsp : Bool) : Type 0 where
  pub known : unset ≡ false
  pub windowing : is_windowing i ≡ false
  pub window_register : names_window_register i ≡ false
  pub movsp_quiet : movsp ≡ false
  pub nested : breaks_nested g.nested i u ≡ false

pub unused : (b : Bounds) (fresh : Bool) (live : ℕ → Bool) (rec : StepRecord) (g : FrameState) (u : FrameTurn) (i : Insn) (unset swap movsp : Bool) → NoneShown (use_tests unset swap movsp (insn_tests b fresh live nowhere i rec g u)) → Unused i g u unset movsp
unused b fresh live rec g u i unset swap movsp (reads, (written, (size, (low, (align, (opens, (mismatch, (caller, (saves, (loads, (high, (windowing, (window_register, (woe, (vectors, (lost, (moves, (vector, (nested, more))))))))))))))))))) =
    record { known = reads; windowing = windowing; window_register = window_register; movsp_quiet = moves; nested = nested }

use_fetches : (code : ℕ → ℕ) (b : Bounds) (fresh : Bool) (live : ℕ → Bool) (bytes : ℕ → ℕ) (rec : StepRecord) (s : UseState) (g : FrameState) → ltb 0 (pending_of g.control) ≡ false → g.control.waits ≡ false
    → laid_use b fresh code live bytes rec s g ≡ first_shown (fetched_uses b fresh live bytes (fetch_at code g.control.pc) rec s g (step_with_inputs code rec.reply g))
unfolding laid_use
use_fetches code b fresh live bytes rec s g quiet runs = cond-false (ltb 0 (pending_of g.control) || g.control.waits) _ _ (or_from (ltb 0 (pending_of g.control)) g.control.waits quiet runs)

pub uses_shown : (code : ℕ → ℕ) (b : Bounds) (fresh : Bool) (live : ℕ → Bool) (bytes : ℕ → ℕ) (rec : StepRecord) (s : UseState) (g : FrameState) → ltb 0 (pending_of g.control) ≡ false → g.control.waits ≡ false → laid_use b fresh code live bytes rec s g ≡ None
    → NoneShown (fetched_uses b fresh live bytes (fetch_at code g.control.pc) rec s g (fetched_step (fetch_at code g.control.pc) code rec.reply g))
uses_shown code b fresh live bytes rec s g quiet runs none =
    let u = step_fetches code rec.reply g quiet runs in
    let h0 : first_shown (fetched_uses b fresh live bytes (fetch_at code g.control.pc) rec s g (step_with_inputs code rec.reply g)) ≡ None = sym (use_fetches code b fresh live bytes rec s g quiet runs) ∙ none in
    none_shown (fetched_uses b fresh live bytes (fetch_at code g.control.pc) rec s g (fetched_step (fetch_at code g.control.pc) code rec.reply g))
    (subst (λ v. first_shown (fetched_uses b fresh live bytes (fetch_at code g.control.pc) rec s g v) ≡ None) u h0)
