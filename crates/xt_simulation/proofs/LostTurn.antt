-- Whether EPC1 is lost, from one turn to the next.
use Rattle.std.specs.Prelude.{Decides}
use Rattle.std.proofs.Common.{◌≡◌, ℕ, suc, ◌⊎◌, inl, inr, Bool, true, false, ◌&&◌, ◌||◌, not, Some, sym, ap, ◌∙◌, refl, arith, ⊎_elim, subst}
use Rattle.std.proofs.lemmas.Bool.{and_parts, and_right, both_ways, cases_lt, false≢true, not-true}
use Rattle.std.proofs.lemmas.Bool.Decides.{Decides-like}
use Rattle.xt_trace.specs.declared.record.StepRecord.{StepRecord}
use Rattle.xt_frames.specs.Nesting.{current}
use Rattle.xt_frames.specs.FirstBreach.{Course, IsJudgedTurn, IsTurn, Turn, is_judged, phase_before, turn_of}
use Rattle.xt_uses.specs.FirstUse.{EndsMode, History, IsLost, LeavesEpc1, found_at, use_at, writes_at}

-- two answers to one question are equal
pub same_answer : {P : Type 0} (r s : Bool) → Decides r P → Decides s P → r ≡ s
same_answer true s h k = sym (k.1 (h.0 refl))
same_answer false true h k = h.1 (k.0 refl)
same_answer false false h k = refl

module _ (r : Course) (h : History) (core p : ℕ) where
  one_record : (x y : StepRecord) → IsTurn r p core x → IsTurn r p core y → x ≡ y
  one_record x y a b =
      let e : Some (turn_of core x) ≡ Some (turn_of core y) = sym a ∙ b in
      let t : turn_of core x ≡ turn_of core y = cc in
      ap (λ (z : Turn). z.rec) t

  -- no judged step of the core writes EPC1 at turn p
  longer : LeavesEpc1 r h core p → IsLost r h core p → IsLost r h core (suc p)
  longer leaves l = record {
    once = l.once;
    earlier = let e = l.earlier in omega arith;
    rec = l.rec;
    turn = l.turn;
    loses = l.loses;
    since = λ i lo up. ⊎_elim (λ less. l.since i lo less) (λ here. let same : p ≡ i = omega arith in subst (λ j. LeavesEpc1 r h core j) same leaves) (cases_lt i p);
  }

  -- nothing is lost at turn p
  shorter : ((rec : StepRecord) → IsTurn r p core rec → (is_judged (phase_before r core p) rec.kind ≡ false) ⊎ EndsMode r h p core rec → ⊥) → IsLost r h core (suc p) → IsLost r h core p
  shorter keeps l = ⊎_elim
      (λ less. record { once = l.once; earlier = less; rec = l.rec; turn = l.turn; loses = l.loses; since = λ i lo up. l.since i lo (omega arith) })
      (λ here.
      let e = l.earlier in
      let same : l.once ≡ p = omega arith in
      let turn : IsTurn r p core l.rec = subst (λ i. IsTurn r i core l.rec) same l.turn in
      let loses : (is_judged (phase_before r core p) l.rec.kind ≡ false) ⊎ EndsMode r h p core l.rec = subst (λ i. (is_judged (phase_before r core i) l.rec.kind ≡ false) ⊎ EndsMode r h i core l.rec) same l.loses in
      absurd (keeps l.rec turn loses))
      (cases_lt l.once p)

  -- a turn of the other core
  pub lost_elsewhere : (lost : Bool) → ((rec : StepRecord) → IsTurn r p core rec → ⊥) → Decides lost (IsLost r h core p) → Decides lost (IsLost r h core (suc p))
  lost_elsewhere lost none d = Decides-like lost (longer (λ rec judged. absurd (none rec judged.turn))) (shorter (λ rec turn loses. none rec turn)) d

  -- a handler step
  pub lost_idle : (rec : StepRecord) → IsTurn r p core rec → is_judged (phase_before r core p) rec.kind ≡ false → Decides true (IsLost r h core (suc p))
  lost_idle rec turn idle = (
    λ e. record {
      once = p;
      earlier = omega arith;
      rec = rec;
      turn = turn;
      loses = inl idle;
      since = λ i lo up other judged.
          let same : i ≡ p = omega arith in
          let at : IsJudgedTurn r p core other = subst (λ j. IsJudgedTurn r j core other) same judged in
          let one = one_record other rec at.turn turn in
          absurd (both_ways _ (ap (λ (z : StepRecord). is_judged (phase_before r core p) z.kind) one ∙ idle) at.judged);
    },
    λ l. refl,
  )

  -- a judged step
  module _ (rec : StepRecord) (judged : IsJudgedTurn r p core rec) where
    abbrev writes : Bool
    writes = writes_at r h p core rec

    abbrev pub falls_at : Bool
    falls_at = (found_at r h p core rec).control.ps.excm && not (current (use_at r h p core rec).after.frame).control.ps.excm

    leaves : writes ≡ false → LeavesEpc1 r h core p
    leaves e other at = ap (writes_at r h p core) (one_record other rec at.turn judged.turn) ∙ e

    unwritten : IsLost r h core (suc p) → writes ≡ true → ⊥
    unwritten l e = let early = l.earlier in both_ways _ (l.since p (omega arith) (omega arith) rec judged) e

    falls_now : falls_at ≡ true → writes ≡ false → IsLost r h core (suc p)
    falls_now e w =
        let parts = and_parts (found_at r h p core rec).control.ps.excm (not (current (use_at r h p core rec).after.frame).control.ps.excm) e in
        record {
          once = p;
          earlier = omega arith;
          rec = rec;
          turn = judged.turn;
          loses = inr (parts.0, not-true _ parts.1);
          since = λ i lo up. let same : p ≡ i = omega arith in subst (λ j. LeavesEpc1 r h core j) same (leaves w);
        }

    keeps : falls_at ≡ false → (other : StepRecord) → IsTurn r p core other → (is_judged (phase_before r core p) other.kind ≡ false) ⊎ EndsMode r h p core other → ⊥
    keeps none other turn loses =
        let one = one_record other rec turn judged.turn in
        ⊎_elim
        (λ idle. both_ways _ (sym (ap (λ (z : StepRecord). is_judged (phase_before r core p) z.kind) one) ∙ idle) judged.judged)
        (λ ends.
        let here : EndsMode r h p core rec = subst (EndsMode r h p core) one ends in
        let all : falls_at ≡ true = ap (λ z. z && not (current (use_at r h p core rec).after.frame).control.ps.excm) here.0 ∙ ap not here.1 in
        both_ways _ none all)
        loses

    by_parts : (w falls lost : Bool) → writes ≡ w → falls_at ≡ falls → Decides lost (IsLost r h core p) → Decides (not (w || (not lost && not falls))) (IsLost r h core (suc p))
    by_parts true falls lost e f d = (λ b. absurd (false≢true b), λ l. absurd (unwritten l e))
    by_parts false true lost e f d = subst (λ b. Decides (not b) (IsLost r h core (suc p))) (sym (and_right (not lost) false refl)) (λ b. falls_now f e, λ l. refl)
    by_parts false false true e f d = Decides-like true (longer (leaves e)) (shorter (keeps f)) d
    by_parts false false false e f d = Decides-like false (longer (leaves e)) (shorter (keeps f)) d

    pub lost_judged : (lost : Bool) → Decides lost (IsLost r h core p) → Decides (not (writes || (not lost && not falls_at))) (IsLost r h core (suc p))
    lost_judged lost d = by_parts writes falls_at lost refl refl d
