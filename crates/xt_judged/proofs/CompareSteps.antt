-- A step of the frame machine on a record whose turn fits a dead SCOMPARE1.
use Rattle.std.proofs.Common.{◌≡◌, ℕ, Bool, true, false, not, ◌&&◌, ◌||◌, ◌⊎◌, inl, inr, Option, None, List, refl, sym, ap, ◌∙◌, subst, ⊎_elim}
use Rattle.std.proofs.lemmas.Bool.{and_parts, true≢false}
use Rattle.xt_map.specs.Fetching.{fetch_at}
use Rattle.xt_trace.specs.declared.record.StepRecord.{StepRecord}
use Rattle.xt_frames.specs.declared.holes.Nested as holes
use Rattle.xt_frames.specs.Frames.{FrameState}
use Rattle.xt_frames.specs.Nesting.{current, current_in}
use Rattle.std.specs.Prelude.{◌==◌}
use Rattle.xt_exec.specs.State.{State}
use Rattle.xt_exec.specs.Turn.{turn}
use Rattle.xt_timeless.specs.Time.{executes, fetches_compare, fetches_write}
use Rattle.xt_outcomes.specs.Dead.{are_fit, dead_at, fits, has_compare, is_compare_fit, reads_of, registers_in}
use Rattle.xt_outcomes.proofs.Fitting.{fit_is}
use Rattle.xt_judged.specs.Forgotten.{IsCompareFit, IsRevived}
use Rattle.xt_judged.proofs.Written.{IsWriting}

-- ---- the turn of a core

pc_is : (code : ℕ → ℕ) (s : State) (reply : ℕ) → (turn code s reply).0.pc ≡ s.control.pc
unfolding turn
pc_is code s reply = refl

-- that fits
pub compare_fits : (code : ℕ → ℕ) (ms : List ℕ) (s : State) (reply : ℕ) (x : StepRecord) (u : State) → (x, u) ≡ turn code s reply → fits code ms s ≡ true → IsCompareFit code ms x u.control.pc
compare_fits code ms s reply x u e fit =
    let before = dead_at ms s.control.pc in
    let after = dead_at ms u.control.pc in
    let at = fetch_at code s.control.pc in
    let parts =
    and_parts (are_fit (registers_in before) (reads_of at) (u.base == s.base) x.write (registers_in after))
    (is_compare_fit before (fetches_compare at) (executes x.kind && fetches_write at) after) (fit_is code ms s reply x u e ∙ fit)
    in
    let pc : x.pc ≡ s.control.pc = ap (λ (t : StepRecord × State). t.0.pc) e ∙ pc_is code s reply in
    subst (λ (n : ℕ). is_compare_fit (dead_at ms n) (fetches_compare (fetch_at code n)) (executes x.kind && fetches_write (fetch_at code n)) after ≡ true) (sym pc) parts.1

-- ---- a step of the frame machine

-- outside nested interrupts
pub place_is : (f : FrameState) → f.nested ≡ None → (current f).control.pc ≡ f.control.pc
place_is f e = ap (λ (n : Option holes.Nested). (current_in n f).control.pc) e

fit_parts : (dead reads writes later : Bool) → (not dead || (not reads && (writes || later))) ≡ true → dead ≡ true → (reads ≡ false) × (later ≡ false → writes ≡ true)
fit_parts true false true later h d = (refl, λ e. refl)
fit_parts true false false later h d = (refl, λ e. absurd (true≢false (sym h ∙ e)))
fit_parts true true writes later h d = absurd (true≢false (sym h))
fit_parts false reads writes later h d = absurd (true≢false (sym d))

kept_parts : (dead writes later : Bool) → (dead && (not writes && not later)) ≡ false → dead ≡ true → (writes ≡ true) ⊎ (later ≡ true)
kept_parts true true later h d = inl refl
kept_parts true false true h d = inr refl
kept_parts true false false h d = absurd (true≢false h)
kept_parts false writes later h d = absurd (true≢false (sym d))

module _ (code : ℕ → ℕ) (ms : List ℕ) (rec : StepRecord) (pc : ℕ) (fit : IsCompareFit code ms rec pc) (v w : FrameState) (from : ℕ) (writes : Bool)
    (at : from ≡ (current v).control.pc) (reads : has_compare (dead_at ms from) ≡ true → (from ≡ rec.pc) ⊎ (fetches_compare (fetch_at code from) ≡ false)) where
  fits_here : has_compare (dead_at ms rec.pc) ≡ true → (fetches_compare (fetch_at code rec.pc) ≡ false) × (has_compare (dead_at ms pc) ≡ false → (executes rec.kind && fetches_write (fetch_at code rec.pc)) ≡ true)
  fits_here =
      let here = fetch_at code rec.pc in
      fit_parts (has_compare (dead_at ms rec.pc)) (fetches_compare here) (executes rec.kind && fetches_write here) (has_compare (dead_at ms pc)) fit

  unread : has_compare (dead_at ms from) ≡ true → fetches_compare (fetch_at code from) ≡ false
  unread d =
      ⊎_elim
      (λ (e : from ≡ rec.pc). ap (λ (n : ℕ). fetches_compare (fetch_at code n)) e ∙ (fits_here (sym (ap (λ (n : ℕ). has_compare (dead_at ms n)) e) ∙ d)).0)
      (λ (e : fetches_compare (fetch_at code from) ≡ false). e)
      (reads d)

  revived : IsRevived ms v rec from pc → from ≡ v.control.pc → has_compare (dead_at ms from) ≡ true → IsWriting code rec v
  revived r e d =
      let written = (fits_here (sym (ap (λ (n : ℕ). has_compare (dead_at ms n)) r.here) ∙ d)).1 r.live in
      record {
        level = r.level;
        awake = r.awake;
        writes = ap (λ (n : ℕ). fetches_write (fetch_at code n)) (sym e ∙ r.here) ∙ (and_parts (executes rec.kind) (fetches_write (fetch_at code rec.pc)) written).1;
      }

  -- SCOMPARE1 that is dead before the step is not read, and written or dead after it
  pub compare_kept : (writes ≡ true → IsRevived ms v rec from pc) → (has_compare (dead_at ms from) && (not writes && not (has_compare (dead_at ms (current w).control.pc)))) ≡ false
      → v.nested ≡ None → w.nested ≡ None → has_compare (dead_at ms v.control.pc) ≡ true
      → (fetches_compare (fetch_at code v.control.pc) ≡ false) × (IsWriting code rec v ⊎ (has_compare (dead_at ms w.control.pc) ≡ true))
  compare_kept revives kept plain later dead =
      let e : from ≡ v.control.pc = at ∙ place_is v plain in
      let d : has_compare (dead_at ms from) ≡ true = ap (λ (n : ℕ). has_compare (dead_at ms n)) e ∙ dead in (
        sym (ap (λ (n : ℕ). fetches_compare (fetch_at code n)) e) ∙ unread d,
        ⊎_elim
            (λ (x : writes ≡ true). let r : IsWriting code rec v ⊎ (has_compare (dead_at ms w.control.pc) ≡ true) = inl (revived (revives x) e d) in r)
            (λ (x : has_compare (dead_at ms (current w).control.pc) ≡ true).
            let r : IsWriting code rec v ⊎ (has_compare (dead_at ms w.control.pc) ≡ true) = inr (sym (ap (λ (n : ℕ). has_compare (dead_at ms n)) (place_is w later)) ∙ x) in r)
            (kept_parts (has_compare (dead_at ms from)) writes (has_compare (dead_at ms (current w).control.pc)) kept d),
      )
