-- A turn that is no judged step of a core leaves its frame state.
use Rattle.std.proofs.Common.{◌≡◌, ℕ, zero, suc, ◌==◌, ⊎_elim, List, [], ◌∷◌, Option, Some, None, take, refl, sym, ap, ◌∙◌}
use Rattle.std.specs.Prelude.{slice_get}
use Rattle.std.proofs.lemmas.Bool.{cases_Bool, eqb-true, false_from_ne_true}
use Rattle.std.proofs.lemmas.Option.{none-some}
use Rattle.xt_trace.specs.declared.record.StepRecord.{StepRecord}
use Rattle.xt_frames.specs.declared.kinds.HandlerPhase.TheVariants.{Outside}
use Rattle.xt_frames.specs.FirstBreach.{Course, IsTurn, Turn, frame_before, frames_past, is_judged, judged_before, judged_of, phase_before, records_before, records_of, turn_of}
use Rattle.xt_frames.proofs.Prefixes.{kept_frame, other_frame, other_judged, own_skipped}
use Rattle.xt_uses.specs.FirstUse.{IsIdle}

take_none : {X : Type 0} (ts : List X) (p : ℕ) → slice_get ts p ≡ None → take (suc p) ts ≡ take p ts
take_none [] zero e = refl
take_none [] (suc p) e = refl
take_none (x ∷ xs) zero e = absurd (none-some x (sym e))
take_none (x ∷ xs) (suc p) e = ap (λ ys. x ∷ ys) (take_none xs p e)

past_end : (r : Course) (p core : ℕ) → slice_get r.turns p ≡ None → frame_before r core (suc p) ≡ frame_before r core p
unfolding frame_before judged_before records_before
past_end r p core e = ap (λ ts. frames_past r.code (r.opening core) (judged_of r.code Outside (records_of core ts))) (take_none r.turns p e)

pub idle_frame : (r : Course) (p core : ℕ) → IsIdle r core p → frame_before r core (suc p) ≡ frame_before r core p
idle_frame r p core idle = by (slice_get r.turns p) refl
  where
    own : (rec : StepRecord) → IsTurn r p core rec → frame_before r core (suc p) ≡ frame_before r core p
    own rec turn = kept_frame r p core rec turn (false_from_ne_true (is_judged (phase_before r core p) rec.kind) (λ j. idle rec (record { turn = turn; judged = j })))

    by : (o : Option Turn) → slice_get r.turns p ≡ o → frame_before r core (suc p) ≡ frame_before r core p
    by None e = past_end r p core e
    by (Some t) e = ⊎_elim
        (λ same. own t.rec (e ∙ ap (λ c. Some (turn_of c t.rec)) (eqb-true t.core core same)))
        (λ apart. other_frame r p t.core t.rec e core apart)
        (cases_Bool (t.core == core))

-- as the run opens
pub opening_at : (r : Course) (core : ℕ) → frame_before r core 0 ≡ r.opening core
unfolding frame_before judged_before records_before
opening_at r core = refl

-- and its judged records
past_judged : (r : Course) (p core : ℕ) → slice_get r.turns p ≡ None → judged_before r core (suc p) ≡ judged_before r core p
unfolding judged_before records_before
past_judged r p core e = ap (λ ts. judged_of r.code Outside (records_of core ts)) (take_none r.turns p e)

pub idle_judged : (r : Course) (p core : ℕ) → IsIdle r core p → judged_before r core (suc p) ≡ judged_before r core p
idle_judged r p core idle = by (slice_get r.turns p) refl
  where
    own : (rec : StepRecord) → IsTurn r p core rec → judged_before r core (suc p) ≡ judged_before r core p
    own rec turn = own_skipped r p core rec turn (false_from_ne_true (is_judged (phase_before r core p) rec.kind) (λ j. idle rec (record { turn = turn; judged = j })))

    by : (o : Option Turn) → slice_get r.turns p ≡ o → judged_before r core (suc p) ≡ judged_before r core p
    by None e = past_judged r p core e
    by (Some t) e = ⊎_elim
        (λ same. own t.rec (e ∙ ap (λ c. Some (turn_of c t.rec)) (eqb-true t.core core same)))
        (λ apart. other_judged r p t.core t.rec e core apart)
        (cases_Bool (t.core == core))
