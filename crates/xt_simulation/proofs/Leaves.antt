-- What a return of the strict discipline forgets is known no more, and what the machine of uses knows is so as before.
use Rattle.std.proofs.Common.{◌≡◌, ℕ, ◌+◌, ◌*◌, ◌^◌, ◌<◌, Bool, true, false, List, [], ◌∷◌, Option, None, sym, ap, ◌∙◌, arith, ⊎_elim, subst}
use Rattle.std.specs.Prelude.{unwrap_or}
use Rattle.std.proofs.lemmas.Bool.{cases_Bool}
use Rattle.xt_isa.specs.declared.Insn.{Insn}
use Rattle.xt_frames.specs.Frames.{Frame, FrameState, value_or_zero}
use Rattle.xt_frames.specs.Stacks.{AreFrames}
use Rattle.xt_uses.specs.Words.{masked}
use Rattle.xt_uses.specs.UseState.{UseState}
use Rattle.xt_uses.specs.UseStep.{is_left, leave_results, left_after, left_of}
use Rattle.xt_uses.proofs.Left.{left_get, left_length, left_none, left_own}
use Rattle.xt_uses.proofs.Returning.{left_holds}
use Rattle.xt_simulation.specs.Knowing.{FramesFit, Knows, SeenFit}
use Rattle.xt_simulation.proofs.MaskWords.{AreSmall, MaskWords}
use Rattle.xt_simulation.proofs.Seen.{cut_zero}

module _ (first : ℕ) where
  from_zero : (i : ℕ) (b : Bool) → is_left first i ≡ b → is_left first (0 + i) ≡ b
  from_zero i b e = let at : i ≡ 0 + i = omega arith in subst (λ k. is_left first k ≡ b) at e

  left_fits : {masks : List ℕ} {xs ys : List (Option ℕ)} → SeenFit 16 masks xs ys → SeenFit 16 (left_of 0 first 0 masks) xs (left_of None first 0 ys)
  left_fits {masks = masks} {xs = xs} {ys = ys} s = record {
    size = s.size;
    wide = left_length None first 0 ys ∙ s.wide;
    spread = left_length 0 first 0 masks ∙ s.spread;
    fits = λ i. ⊎_elim
        (λ l.
        let e = from_zero i true l in
        let m = left_get 0 first 0 masks i 0 e in
        let y = ap (λ (o : Option ℕ). unwrap_or o 0) (left_get None first 0 ys i None e) in
        ap (λ k. masked k (value_or_zero xs i)) m ∙ (s.fits i ∙ sym y))
        (λ n.
        let e = from_zero i false n in
        let m = left_none 0 first 0 masks i e in
        let y = ap (λ (o : Option ℕ). unwrap_or o 0) (left_none None first 0 ys i e) in
        ap (λ k. masked k (value_or_zero xs i)) m ∙ (cut_zero (value_or_zero xs i) ∙ sym y))
        (cases_Bool (is_left first i));
    lacks = λ i none. ⊎_elim
        (λ l. left_get 0 first 0 masks i 0 (from_zero i true l) ∙ s.lacks i none)
        (λ n. left_none 0 first 0 masks i (from_zero i false n))
        (cases_Bool (is_left first i));
  }

  left_words : (masks : List ℕ) → AreSmall masks → AreSmall (left_of 0 first 0 masks)
  left_words masks h i = ⊎_elim
      (λ l. subst (λ k. k < 2 ^ 32) (sym (left_get 0 first 0 masks i 0 (from_zero i true l))) (h i))
      (λ n. subst (λ k. k < 2 ^ 32) (sym (left_none 0 first 0 masks i (from_zero i false n))) (omega arith))
      (cases_Bool (is_left first i))

results_known : (ms : List (List ℕ)) (fs gs : List Frame) → FramesFit ms fs gs → AreFrames fs → (f : FrameState) (u : UseState) → Knows f u → Knows f (leave_results gs u)
results_known [] [] [] fit shaped f u k = k
results_known (m ∷ ms) (c ∷ fs) (d ∷ gs) fit shaped f u k =
    let by : c.by ≡ d.by = fit.0 in
    let moves = shaped.0.moves in
    let own = left_get None (4 * d.by) 0 u.frame.seen 1 None (left_own (4 * d.by) 1 (omega (arith, by, moves))) in
    record {
      seen = left_fits (4 * d.by) k.seen;
      sp = k.sp ∙ sym (ap (λ (o : Option ℕ). unwrap_or o 0) own);
      frames = k.frames;
      control = k.control;
      unset = k.unset;
      nested = k.nested;
    }
results_known [] (c ∷ fs) gs fit shaped f u k = absurd fit
results_known [] [] (d ∷ gs) fit shaped f u k = absurd fit
results_known (m ∷ ms) [] gs fit shaped f u k = absurd fit
results_known (m ∷ ms) (c ∷ fs) [] fit shaped f u k = absurd fit

-- `before` is the frame state before the step, of which s is known
pub knows_left : (o : Option Insn) (before : FrameState) (s : UseState) → Knows before s → AreFrames before.frames → (f : FrameState) (u : UseState) → Knows f u → Knows f (left_after o s u)
knows_left o before s b shaped f u k = left_holds (λ t. Knows f t) o s u k (results_known s.masks.kept before.frames s.frame.frames b.frames shaped f u k)

-- ---- masks stay words
results_words : (frames : List Frame) (u : UseState) → MaskWords u.masks → MaskWords (leave_results frames u).masks
results_words [] u w = w
results_words (g ∷ rest) u w = record { seen = left_words (4 * g.by) u.masks.seen w.seen; kept = w.kept; special = w.special; threadptr = w.threadptr; inner = w.inner }

pub words_left : (o : Option Insn) (s u : UseState) → MaskWords u.masks → MaskWords (left_after o s u).masks
words_left o s u w = left_holds (λ t. MaskWords t.masks) o s u w (results_words s.frame.frames u w)
