-- The effects of a row that agree, applied to control states that fit.
use Rattle.std.proofs.Common.{◌≡◌, ℕ, ◌^◌, ◌<◌, ◌≢◌, true, false, List, Option, Some, None, sym, ap, ◌∙◌, refl, arith, ⊎_elim, subst, length, get_or}
use Rattle.std.proofs.Math.ListN.{set}
use Rattle.std.proofs.lemmas.Bool.{cases_Bool, cases_eq, both_ways, or_left, or_right}
use Rattle.std.proofs.lemmas.List.{get_or-set_same, get_or-set_other, length-set}
use Rattle.xt_special.specs.Control.{Control, special_of}
use Rattle.xt_special.specs.declared.ps.Ps.{Ps}
use Rattle.xt_special.specs.Access.{SpecialWrites, is_eps, set_to, no_set, with_sets}
use Rattle.xt_rows.specs.declared.outcome.Effect.{Effect}
use Rattle.xt_rows.specs.Kinds.{is_saved, SetsOne}
use Rattle.xt_rows.specs.Settling.{after_flow, after_effect}
use Rattle.xt_frames.specs.Marks.{holds_marks}
use Rattle.xt_simulation.specs.Relation.{Same, Even}
use Rattle.xt_simulation.proofs.Evenly.{even_flow, same_sets}
use Rattle.xt_simulation.proofs.InnerSteps.{Elsewhere, all_spare, effect_spares}
use Rattle.xt_uses.specs.declared.discipline.Discipline.{Discipline}
use Rattle.xt_uses.specs.declared.words.Word.{Word}
use Rattle.xt_uses.specs.Words.{Fits, masked}
use Rattle.xt_uses.specs.Used.{counted_bits}
use Rattle.xt_uses.specs.UseLaws.{AgreeIn, SetsAgree}
use Rattle.xt_simulation.specs.Knowing.{ControlFit, ControlLeft, is_partial, with_owb, with_pointer}
use Rattle.xt_simulation.proofs.Specials.{eps_range, eps_saved, flow_ps, flow_special, flow_threadptr, flow_told, mark_range, mark_saved, saved_as}

-- the masks of the special registers after a WSR or XSR
abbrev pub moved_masks : Option (ℕ × ℕ) → ℕ → List ℕ → List ℕ
moved_masks None mask xs = xs
moved_masks (Some p) mask xs = set xs p.1 mask

-- both machines set a register that may hold what is not known
mark_same : {xs ys : List ℕ} → Same is_partial xs ys → (n x y : ℕ) → is_partial n ≡ true → Same is_partial (set xs n x) (set ys n y)
mark_same {xs = xs} {ys = ys} s n x y h = record {
  size = length-set xs n x ∙ (s.size ∙ sym (length-set ys n y));
  only = s.only;
  at = λ k known.
      let other : k ≢ n = λ e. both_ways (is_partial n) (subst (λ j. is_partial j ≡ false) e known) h in
      get_or-set_other xs n k x 0 other ∙ (s.at k known ∙ sym (get_or-set_other ys n k y 0 other));
}

pub masks_length : (o : Option (ℕ × ℕ)) (mask : ℕ) (xs : List ℕ) → length (moved_masks o mask xs) ≡ length xs
masks_length None mask xs = refl
masks_length (Some p) mask xs = length-set xs p.1 mask

masks_elsewhere : (o : Option (ℕ × ℕ)) (mask : ℕ) (xs : List ℕ) (n : ℕ) → Elsewhere o n → get_or (moved_masks o mask xs) n 0 ≡ get_or xs n 0
masks_elsewhere None mask xs n e = refl
masks_elsewhere (Some p) mask xs n e = get_or-set_other xs p.1 n mask 0 (λ is. e (sym is))

-- which writes of special registers these are: those of a WSR or XSR of a register that may hold what is not known
abbrev pub GivesTo : Option (ℕ × ℕ) → ℕ → SpecialWrites → Type 0
GivesTo o x sets = (p : ℕ × ℕ) → o ≡ Some p → holds_marks p.1 ≡ true → sets ≡ (set_to p.1 x, no_set, no_set)

module _ (o : Option (ℕ × ℕ)) {by : Discipline} {special : List ℕ} {bits : ℕ} {c d : Control} (f : ControlFit by special bits c d) (count : length c.special ≡ 256) (x : ℕ) (a : Word) (word : Fits x a) (m e : Effect) (sets : SetsAgree by o a.mask m.sets e.sets)
    (first : (n : ℕ) → is_saved n ≡ true → SetsOne o n m.sets) (second : (n : ℕ) → is_saved n ≡ true → SetsOne o n e.sets) (gives : GivesTo o x m.sets) (gives_too : GivesTo o a.value e.sets) where
  sets_even : Same is_partial (with_sets m.sets c.special) (with_sets e.sets d.special)
  sets_even = by_row o refl sets
    where
      by_row : (p : Option (ℕ × ℕ)) → o ≡ p → SetsAgree by p a.mask m.sets e.sets → Same is_partial (with_sets m.sets c.special) (with_sets e.sets d.special)
      by_row None is same = subst (λ (w : SpecialWrites). Same is_partial (with_sets m.sets c.special) (with_sets w d.special)) same (same_sets m.sets f.even.special)
      by_row (Some p) is s = ⊎_elim
          (λ h.
          let q = gives p is h in
          let r = gives_too p is h in
          subst (λ (w : SpecialWrites). Same is_partial (with_sets w c.special) (with_sets e.sets d.special)) (sym q)
          (subst (λ (w : SpecialWrites). Same is_partial (set c.special p.1 x) (with_sets w d.special)) (sym r) (mark_same f.even.special p.1 x a.value (or_left (holds_marks p.1) _ h))))
          (λ unmarked. ⊎_elim
          (λ eps.
          let k = s.1 eps in
          let both = k.2 in
          subst (λ (w : SpecialWrites). Same is_partial (with_sets w c.special) (with_sets e.sets d.special)) (sym both.0)
          (subst (λ (w : SpecialWrites). Same is_partial (set c.special p.1 k.0) (with_sets w d.special)) (sym both.1) (mark_same f.even.special p.1 k.0 k.1 (or_right (holds_marks p.1) _ eps))))
          (λ no_eps. subst (λ (w : SpecialWrites). Same is_partial (with_sets m.sets c.special) (with_sets w d.special)) (s.2 unmarked no_eps) (same_sets m.sets f.even.special))
          (cases_Bool (is_eps p.1)))
          (cases_Bool (holds_marks p.1))

  set_value : (w : Effect) (len n y : ℕ) (k : Control) → length k.special ≡ 256 → n < 256 → n ≢ 2 → w.sets ≡ (set_to n y, no_set, no_set) → special_of (after_effect w len k) n ≡ y
  unfolding after_effect
  set_value w len n y k size low other is =
      flow_special w.flow len (record { pc = k.pc; special = with_sets w.sets k.special; ps = w.ps; threadptr = w.threadptr; waits = w.waits }) n other
      ∙ (ap (λ (v : SpecialWrites). get_or (with_sets v k.special) n 0) is ∙ get_or-set_same k.special n y 0 (omega (arith, size, low)))

  marks_fit : (len n : ℕ) → holds_marks n ≡ true → masked (get_or (moved_masks o a.mask special) n 0) (special_of (after_effect m len c) n) ≡ special_of (after_effect e len d) n
  marks_fit len n h = by_row o refl
    where
      apart : Elsewhere o n → masked (get_or (moved_masks o a.mask special) n 0) (special_of (after_effect m len c) n) ≡ special_of (after_effect e len d) n
      apart else =
          let saved = mark_saved n h in
          let p = effect_spares m len c n saved (all_spare o n m.sets (first n saved) else) in
          let q = effect_spares e len d n saved (all_spare o n e.sets (second n saved) else) in
          let r = masks_elsewhere o a.mask special n else in
          ap (λ z. masked z (special_of (after_effect m len c) n)) r ∙ (ap (masked (get_or special n 0)) p ∙ (f.fits n h ∙ sym q))

      by_row : (p : Option (ℕ × ℕ)) → o ≡ p → masked (get_or (moved_masks o a.mask special) n 0) (special_of (after_effect m len c) n) ≡ special_of (after_effect e len d) n
      by_row None is = apart (subst (λ (p : Option (ℕ × ℕ)). Elsewhere p n) (sym is) tt)
      by_row (Some p) is = ⊎_elim
          (λ same.
          let h2 : holds_marks p.1 ≡ true = subst (λ k. holds_marks k ≡ true) (sym same) h in
          let low : n < 256 = ⊎_elim (λ r. let hi = r.1 in omega arith) (λ r. let hi = r.1 in omega arith) (mark_range n h) in
          let spread = f.spread in
          let apart : n ≢ 2 = λ z. ⊎_elim (λ r. let lo = r.0 in omega arith) (λ r. let lo = r.0 in omega arith) (mark_range n h) in
          let q : special_of (after_effect m len c) n ≡ x = set_value m len n x c count low apart (subst (λ k. m.sets ≡ (set_to k x, no_set, no_set)) same (gives p is h2)) in
          let r : special_of (after_effect e len d) n ≡ a.value = set_value e len n a.value d (sym f.even.special.size ∙ count) low apart (subst (λ k. e.sets ≡ (set_to k a.value, no_set, no_set)) same (gives_too p is h2)) in
          let z : get_or (moved_masks o a.mask special) n 0 ≡ a.mask =
          ap (λ (p : Option (ℕ × ℕ)). get_or (moved_masks p a.mask special) n 0) is ∙ (ap (λ k. get_or (set special k a.mask) n 0) same ∙ get_or-set_same special n a.mask 0 (omega arith)) in
          ap (λ k. masked k (special_of (after_effect m len c) n)) z ∙ (ap (masked a.mask) q ∙ (word ∙ sym r)))
          (λ other. apart (subst (λ (p : Option (ℕ × ℕ)). Elsewhere p n) (sym is) other))
          (cases_eq p.1 n)

  words_stay : (len n : ℕ) → x < 2 ^ 32 → holds_marks n ≡ true → special_of (after_effect m len c) n < 2 ^ 32
  words_stay len n small h = by_row o refl
    where
      apart : Elsewhere o n → special_of (after_effect m len c) n < 2 ^ 32
      apart else = subst (λ z. z < 2 ^ 32) (sym (effect_spares m len c n (mark_saved n h) (all_spare o n m.sets (first n (mark_saved n h)) else))) (f.words n h)

      by_row : (p : Option (ℕ × ℕ)) → o ≡ p → special_of (after_effect m len c) n < 2 ^ 32
      by_row None is = apart (subst (λ (p : Option (ℕ × ℕ)). Elsewhere p n) (sym is) tt)
      by_row (Some p) is = ⊎_elim
          (λ same.
          let h2 : holds_marks p.1 ≡ true = subst (λ k. holds_marks k ≡ true) (sym same) h in
          subst (λ z. z < 2 ^ 32) (sym (
          let low : n < 256 = ⊎_elim (λ r. let hi = r.1 in omega arith) (λ r. let hi = r.1 in omega arith) (mark_range n h) in
          let away : n ≢ 2 = λ z. ⊎_elim (λ r. let lo = r.0 in omega arith) (λ r. let lo = r.0 in omega arith) (mark_range n h) in
          set_value m len n x c count low away (subst (λ k. m.sets ≡ (set_to k x, no_set, no_set)) same (gives p is h2)))) small)
          (λ other. apart (subst (λ (p : Option (ℕ × ℕ)). Elsewhere p n) (sym is) other))
          (cases_eq p.1 n)

  -- EPS2 to EPS7
  saved_stay : (len n : ℕ) → is_eps n ≡ true → AgreeIn (counted_bits by n) (special_of (after_effect m len c) n) (special_of (after_effect e len d) n)
  saved_stay len n h = by_row o refl sets
    where
      apart : Elsewhere o n → AgreeIn (counted_bits by n) (special_of (after_effect m len c) n) (special_of (after_effect e len d) n)
      apart else =
          let kept = eps_saved n h in
          saved_as f n (after_effect m len c) (after_effect e len d) h (effect_spares m len c n kept (all_spare o n m.sets (first n kept) else)) (effect_spares e len d n kept (all_spare o n e.sets (second n kept) else))

      by_row : (p : Option (ℕ × ℕ)) → o ≡ p → SetsAgree by p a.mask m.sets e.sets → AgreeIn (counted_bits by n) (special_of (after_effect m len c) n) (special_of (after_effect e len d) n)
      by_row None is s = apart (subst (λ (p : Option (ℕ × ℕ)). Elsewhere p n) (sym is) tt)
      by_row (Some p) is s = ⊎_elim
          (λ same.
          let range = eps_range n h in
          let lo = range.0 in
          let hi = range.1 in
          let k = s.1 (subst (λ j. is_eps j ≡ true) (sym same) h) in
          let both = k.2 in
          let q : special_of (after_effect m len c) n ≡ k.0 = set_value m len n k.0 c count (omega arith) (λ z. omega arith) (subst (λ j. m.sets ≡ (set_to j k.0, no_set, no_set)) same both.0) in
          let r : special_of (after_effect e len d) n ≡ k.1 = set_value e len n k.1 d (sym f.even.special.size ∙ count) (omega arith) (λ z. omega arith) (subst (λ j. e.sets ≡ (set_to j k.1, no_set, no_set)) same both.1) in
          let agree : AgreeIn (counted_bits by n) k.0 k.1 = subst (λ j. AgreeIn (counted_bits by j) k.0 k.1) same both.2 in
          ap (masked (counted_bits by n)) q ∙ (agree ∙ sym (ap (masked (counted_bits by n)) r)))
          (λ other. apart (subst (λ (p : Option (ℕ × ℕ)). Elsewhere p n) (sym is) other))
          (cases_eq p.1 n)

  effect_pointer : (w : Effect) (len : ℕ) (k : Control) → (after_effect w len k).threadptr ≡ w.threadptr
  unfolding after_effect
  effect_pointer w len k = flow_threadptr w.flow len (record { pc = k.pc; special = with_sets w.sets k.special; ps = w.ps; threadptr = w.threadptr; waits = w.waits })

  effect_ps : (w : Effect) (len : ℕ) (k : Control) → (after_effect w len k).ps ≡ w.ps
  unfolding after_effect
  effect_ps w len k = flow_ps w.flow len (record { pc = k.pc; special = with_sets w.sets k.special; ps = w.ps; threadptr = w.threadptr; waits = w.waits })

  effect_even : (len : ℕ) → m.ps ≡ record e.ps { owb = m.ps.owb } → m.flow ≡ e.flow → m.waits ≡ e.waits → Even is_partial (after_effect m len c) (with_pointer m.threadptr (with_owb m.ps.owb (after_effect e len d)))
  unfolding after_effect
  effect_even len ps flow waits =
      let before : Control = record { pc = c.pc; special = with_sets m.sets c.special; ps = m.ps; threadptr = m.threadptr; waits = m.waits } in
      let after : Control = record { pc = d.pc; special = with_sets e.sets d.special; ps = e.ps; threadptr = e.threadptr; waits = e.waits } in
      let even : Even is_partial before (with_pointer m.threadptr (with_owb m.ps.owb after)) = record { pc = f.even.pc; ps = ps; threadptr = refl; waits = waits; special = sets_even } in
      subst (Even is_partial (after_flow m.flow len before)) (ap (λ w. after_flow w len (with_pointer m.threadptr (with_owb m.ps.owb after))) flow ∙ sym (flow_told e.flow len after m.threadptr m.ps.owb)) (even_flow m.flow len before (with_pointer m.threadptr (with_owb m.ps.owb after)) even)

  told_even : (len : ℕ) → m.ps ≡ record e.ps { owb = m.ps.owb } → m.flow ≡ e.flow → m.waits ≡ e.waits → Even is_partial (after_effect m len c) (with_pointer (after_effect m len c).threadptr (with_owb (after_effect m len c).ps.owb (after_effect e len d)))
  told_even len ps flow waits =
      subst (λ n. Even is_partial (after_effect m len c) (with_pointer (after_effect m len c).threadptr (with_owb n (after_effect e len d)))) (sym (ap (λ (q : Ps). q.owb) (effect_ps m len c)))
      (subst (λ t. Even is_partial (after_effect m len c) (with_pointer t (with_owb m.ps.owb (after_effect e len d)))) (sym (effect_pointer m len c)) (effect_even len ps flow waits))

  pub effect_fits : (len pointer : ℕ) → x < 2 ^ 32 → m.ps ≡ record e.ps { owb = m.ps.owb } → m.flow ≡ e.flow → m.waits ≡ e.waits → masked pointer m.threadptr ≡ e.threadptr → ControlLeft by (moved_masks o a.mask special) pointer (after_effect m len c) (after_effect e len d)
  effect_fits len pointer small ps flow waits cuts = record {
    even = told_even len ps flow waits;
    pointer = ap (masked pointer) (effect_pointer m len c) ∙ (cuts ∙ sym (effect_pointer e len d));
    spread = masks_length o a.mask special ∙ f.spread;
    words = λ n h. words_stay len n small h;
    fits = marks_fit len;
    saved = saved_stay len;
  }
