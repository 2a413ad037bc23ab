-- What WSR and XSR give to EXCSAVE and MISC.
use Rattle.std.proofs.Common.{◌≡◌, ℕ, ◌≤◌, true, false, eqb, leb, ◌&&◌, ◌||◌, ◌⊎◌, inl, inr, ⊎_elim, Option, Some, None, refl, sym, ap, ◌∙◌, subst, arith}
use Rattle.std.proofs.lemmas.Bool.{and_from, and_parts, both_ways, cond-false, eqb-true, false_from_ne_true, leb-true, le-leb, or_cases, or_from, or_left, or_right}
use Rattle.xt_isa.specs.declared.Insn.{Insn}
use Rattle.xt_isa.specs.declared.Insn.TheVariants as insn
use Rattle.xt_isa.specs.declared.system.System.TheVariants as system
use Rattle.xt_isa.specs.declared.system.SpecialName.TheVariants as SpecialName
use Rattle.xt_rows.specs.declared.outcome.Effect.{Effect}
use Rattle.xt_rows.specs.declared.outcome.Outcome.{Outcome}
use Rattle.xt_rows.specs.declared.outcome.Outcome.TheVariants.{Does}
use Rattle.xt_rows.specs.Effects.{no_change, window_register, writes_special, exchanges_special}
use Rattle.xt_rows.specs.Outcomes.{system_outcome, outcome}
use Rattle.xt_special.specs.declared.ps.Ps.{Ps}
use Rattle.xt_special.specs.Access.{SpecialWrites, is_ccompare, is_eps, no_set, set_to, value_kept, written_by}
use Rattle.xt_rows.specs.Kinds.{is_saved, moved_to}
use Rattle.xt_frames.specs.Marks.{holds_marks}

-- ---- EXCSAVE1 to EXCSAVE7 and MISC0 to MISC3
pub marks_between : (n : ℕ) → holds_marks n ≡ true → ((209 ≤ n) × (n ≤ 215)) ⊎ ((244 ≤ n) × (n ≤ 247))
marks_between n h = ⊎_elim
    (λ q. let p = and_parts (leb 209 n) (leb n 215) q in inl (leb-true 209 n p.0, leb-true n 215 p.1))
    (λ q. let p = and_parts (leb 244 n) (leb n 247) q in inr (leb-true 244 n p.0, leb-true n 247 p.1))
    (or_cases (leb 209 n && leb n 215) (leb 244 n && leb n 247) h)

pub marks_saved : (n : ℕ) → holds_marks n ≡ true → is_saved n ≡ true
marks_saved n h = ⊎_elim
    (λ q. or_left (leb 177 n && leb n 215) (leb 244 n && leb n 247) (and_from (leb 177 n) (leb n 215) (le-leb 177 n (omega (arith, q))) (le-leb n 215 (q.1))))
    (λ q. or_right (leb 177 n && leb n 215) (leb 244 n && leb n 247) (and_from (leb 244 n) (leb n 247) (le-leb 244 n q.0) (le-leb n 247 q.1)))
    (marks_between n h)

module _ (n : ℕ) (h : holds_marks n ≡ true) where
  no_other : (k : ℕ) → holds_marks k ≡ false → eqb n k ≡ false
  no_other k none = false_from_ne_true (eqb n k) (λ e. both_ways (holds_marks k) none (subst (λ j. holds_marks j ≡ true) (eqb-true n k e) h))

  no_ccompare : is_ccompare n ≡ false
  no_ccompare = false_from_ne_true (is_ccompare n) (λ e.
      let p = and_parts (leb 240 n) (leb n 242) e in
      let low = leb-true 240 n p.0 in
      let high = leb-true n 242 p.1 in
      let between = marks_between n h in
      omega (arith, low, high, between))

  no_eps : is_eps n ≡ false
  no_eps = false_from_ne_true (is_eps n) (λ e.
      let p = and_parts (leb 194 n) (leb n 199) e in
      let high = leb-true n 199 p.1 in
      let between = marks_between n h in
      omega (arith, high, between))

  kept_value : (x v : ℕ) → value_kept n x v ≡ x
  unfolding value_kept
  kept_value x v =
      cond-false (eqb n 3 || eqb n 232) _ _ (or_from (eqb n 3) (eqb n 232) (no_other 3 refl) (no_other 232 refl))
      ∙ (cond-false (eqb n 4) _ _ (no_other 4 refl)
      ∙ (cond-false (eqb n 231) _ _ (no_other 231 refl)
      ∙ (cond-false (eqb n 228) _ _ (no_other 228 refl)
      ∙ (cond-false (is_eps n) _ _ no_eps
      ∙ (cond-false (eqb n 226) _ _ (no_other 226 refl) ∙ cond-false (eqb n 227) _ x (no_other 227 refl))))))

  no_window : window_register n ≡ None
  no_window = cond-false (eqb n 72) _ _ (no_other 72 refl) ∙ cond-false (eqb n 73) _ None (no_other 73 refl)

  one_written : (x v : ℕ) → written_by n x v ≡ (set_to n x, no_set, no_set)
  one_written x v =
      cond-false (eqb n 230) _ _ (no_other 230 refl)
      ∙ (cond-false (is_ccompare n) _ _ no_ccompare
      ∙ (λ i. (set_to (cond-false (eqb n 227) 226 n (no_other 227 refl) i) (kept_value x v i), no_set, no_set)))

second_of : Option (ℕ × ℕ) → ℕ → ℕ
second_of None n = n
second_of (Some p) n = p.1

sets_of : Outcome → SpecialWrites
sets_of (Does e) = e.sets
sets_of o = (no_set, no_set, no_set)

-- WSR and XSR give them the word of their visible register
pub moved_value : (code : ℕ → ℕ) (i : Insn) (p : ℕ × ℕ) (pc x y u v : ℕ) (ps : Ps) (t : ℕ) (e : Effect) → moved_to i ≡ Some p → holds_marks p.1 ≡ true
    → outcome code i pc x y u v ps t ≡ Does e → e.sets ≡ (set_to p.1 x, no_set, no_set)
unfolding outcome system_outcome moved_to sets_of second_of
moved_value code (insn.System (system.Special SpecialName.Wsr r n)) p pc x y u v ps t e m h q =
    let same : n ≡ p.1 = ap (λ (o : Option (ℕ × ℕ)). second_of o n) m in
    let own : holds_marks n ≡ true = subst (λ k. holds_marks k ≡ true) (sym same) h in
    let w : Does e ≡ writes_special None n x v (no_change ps t) = sym q ∙ ap (λ o. writes_special o n x v (no_change ps t)) (no_window n own) in
    ap sets_of w ∙ (one_written n own x v ∙ ap (λ k. (set_to k x, no_set, no_set)) same)
moved_value code (insn.System (system.Special SpecialName.Xsr r n)) p pc x y u v ps t e m h q =
    let same : n ≡ p.1 = ap (λ (o : Option (ℕ × ℕ)). second_of o n) m in
    let own : holds_marks n ≡ true = subst (λ k. holds_marks k ≡ true) (sym same) h in
    let w : Does e ≡ exchanges_special None r n x u v (no_change ps t) = sym q ∙ ap (λ o. exchanges_special o r n x u v (no_change ps t)) (no_window n own) in
    ap sets_of w ∙ (one_written n own x v ∙ ap (λ k. (set_to k x, no_set, no_set)) same)
moved_value code _ p pc x y u v ps t e m h q = absurd cc
