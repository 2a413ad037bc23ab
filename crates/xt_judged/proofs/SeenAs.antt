-- What the frames answer of a record is what the definition sees in it.
use Rattle.std.proofs.Common.{◌≡◌, ℕ, Bool, true, false, eqb, ◌&&◌, Option, Result, Ok, Err, length, refl, sym, ap, ◌∙◌, subst}
use Rattle.std.specs.Prelude.{IfOk}
use Rattle.xt_trace.specs.declared.record.StepRecord.{StepRecord}
use Rattle.xt_frames.specs.declared.kinds.Breach.{Breach}
use Rattle.xt_frames.specs.declared.kinds.BreachKind.{BreachKind}
use Rattle.xt_frames.specs.declared.kinds.HandlerPhase.{HandlerPhase}
use Rattle.xt_frames.specs.Breaches.{breach_of, stale_after}
use Rattle.xt_frames.specs.HandlerSteps.{phase_after}
use Rattle.xt_frames.specs.Judging.{Seen, fresh_on, seen_judged, seen_step, step_on}
use Rattle.xt_frames.specs.Stacks.{Moves}
use Rattle.xt_frames.specs.Walked.{IsJudged, Walked, found_in, fresh_before}
use Rattle.xt_discipline.specs.declared.roles.Role.{Role}
use Rattle.xt_discipline.specs.Phases.{role_of}
use Rattle.xt_discipline.proofs.ByRole as roles
use Rattle.xt_judged.specs.declared.seeing.Passed.{Passed}
use Rattle.xt_judged.specs.Lives.{is_live_in, others_live}
use Rattle.xt_judged.specs.Seen.{IsSeenAs, seen_by, standing_at}
use Rattle.xt_judged.proofs.Count.{count_kept}

pub and_true : (b : Bool) → (b && true) ≡ b
and_true true = refl
and_true false = refl

pub and_false : (b : Bool) → (b && false) ≡ false
and_false true = refl
and_false false = refl

-- what follows from what holds of a result, holds of it
pub if_ok : {A E : Type 0} (r : Result A E) (P Q : A → Type 0) → ((x : A) → P x → Q x) → IfOk r P → IfOk r Q
if_ok (Ok x) P Q f h = f x h
if_ok (Err e) P Q f h = tt

-- EPC1 is fresh before the first record where it is fresh
pub fresh_at : (w : Walked) → w.next ≡ 0 → fresh_before w 0 ≡ w.fresh
fresh_at w h = ap (λ (n : ℕ). w.fresh && eqb n 0) h ∙ and_true w.fresh

abbrev pub passed : HandlerPhase → Result Unit Breach → Result Passed Breach
passed next (Ok u) = Ok (record { phase = next; judged = true })
passed next (Err b) = Err b

module _ (code : ℕ → ℕ) (old new : Walked) (other : Option Walked) (stale : ℕ → Bool) (rec : StepRecord) where
  abbrev others : ℕ → Bool
  others = others_live other

  module _ (nested : Bool) (p next : HandlerPhase) (first : old.next ≡ 0) (phase : next ≡ phase_after code p rec) where
    abbrev found : Option BreachKind
    found = found_in old code (is_live_in old other) stale 0 nested rec

    abbrev seen : Option BreachKind → Seen
    seen k = seen_step k code old.bounds (standing_at old p) others stale nested rec

    same : found ≡ breach_of old.bounds old.fresh code (is_live_in old other) stale nested rec old.state
    same = ap (λ (z : Bool). breach_of old.bounds z code (is_live_in old other) stale nested rec old.state) (fresh_at old first)

    by_answer : (r : Result Unit Breach) → IsJudged found old code 0 nested rec r new → IfOk r (λ u. Moves old.state new.state) → IsSeenAs old new other stale rec (seen found) (passed next r)
    by_answer (Ok u) h m =
        let e = h.1 in
        let fresh : fresh_on old.fresh code nested rec old.state ≡ new.fresh =
        sym (ap (λ (w : Walked). w.fresh) e ∙ ap (λ (z : Bool). fresh_on z code nested rec old.state) (fresh_at old first)) in
        let frame : (step_on code nested rec old.state).after ≡ new.state = sym (ap (λ (w : Walked). w.state) e) in
        let back : phase_after code p rec ≡ next = sym phase in
        subst (λ (k : Option BreachKind). IsSeenAs old new other stale rec (seen k) (passed next (Ok u))) (sym h.0) (
          refl,
          ap (λ (w : Walked). w.bounds) e,
          ap (λ (w : Walked). w.next) e,
          m,
          ap (λ (w : Walked). length w.state.control.special) e ∙ count_kept code nested rec old.state,
          (λ i. record { frame = frame i; fresh = fresh i; phase = back i }),
          ap (λ (w : Walked). stale_after (is_live_in w other) (is_live_in old other) stale rec.access) (sym e),
        )
    by_answer (Err b) h m = subst (λ (k : Option BreachKind). IsSeenAs old new other stale rec (seen k) (Err b)) (sym h.0.0) (refl, h.1)

    pub seen_as : (r : Result Unit Breach) → IsJudged found old code 0 nested rec r new → IfOk r (λ u. Moves old.state new.state)
        → IsSeenAs old new other stale rec (seen_judged code old.bounds (standing_at old p) others stale nested rec) (passed next r)
    seen_as r h m = subst (λ (k : Option BreachKind). IsSeenAs old new other stale rec (seen k) (passed next r)) same (by_answer r h m)

  -- by what the record is
  pub by_role : (p : HandlerPhase) (role : Role) (r : Result Passed Breach) → role ≡ role_of p rec.kind
      → IsSeenAs old new other stale rec (roles.seen_as code old.bounds (standing_at old p) others stale rec role) r
      → IsSeenAs old new other stale rec (seen_by code old p other stale rec) r
  by_role p role r e h =
      subst (λ (s : Seen). IsSeenAs old new other stale rec s r) (sym (roles.seen_is code old.bounds (standing_at old p) others stale rec role e)) h
