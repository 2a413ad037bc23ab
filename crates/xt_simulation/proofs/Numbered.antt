-- What a filling gives to registers that the machine of uses knows nothing of.
use Rattle.std.specs.Prelude.{is_some, unwrap_or}
use Rattle.std.proofs.Common.{◌≡◌, ℕ, zero, suc, ◌+◌, ◌*◌, ◌⊎◌, inl, inr, Bool, true, false, cond, List, [], ◌∷◌, Option, Some, None, sym, ap, ◌∙◌, refl, arith, ⊎_elim, subst, length, get_or}
use Rattle.std.proofs.lemmas.Bool.{cases_Bool, true≢false}
use Rattle.std.proofs.lemmas.Nat.{and_mask}
use Rattle.xt_isa.specs.declared.Insn.{Insn}
use Rattle.xt_rows.specs.RowLaws.{IsWord}
use Rattle.xt_frames.specs.declared.holes.Nested.{Nested}
use Rattle.xt_frames.specs.Frames.{Frame, FrameState, value_or_zero}
use Rattle.xt_frames.specs.Stacks.{AreFrames}
use Rattle.xt_uses.specs.Words.{all_bits, masked}
use Rattle.xt_uses.specs.UseState.{UseState}
use Rattle.xt_uses.specs.UseStep.{forgets_registers, is_left, leave_results, left_after, left_of}
use Rattle.xt_uses.proofs.CutWords.{IsShapedFrame, IsShapedNested}
use Rattle.xt_uses.proofs.Left.{left_get, left_length, left_none, left_own}
use Rattle.xt_uses.proofs.WholeLists.{AreWords}
use Rattle.xt_simulation.specs.Knowing.{FramesFit, Knows, NestedFit, SeenFit}
use Rattle.xt_simulation.proofs.Seen.{cut_zero}
use Rattle.xt_simulation.specs.Fillings.{filled_state, number_in, filled_registers, numbered_inside, results_left}

-- ---- registers of which nothing is known may be any
pub refit : {n : ℕ} {masks : List ℕ} {xs ys : List (Option ℕ)} → SeenFit n masks xs ys → (zs : List (Option ℕ)) → length zs ≡ n → ((i : ℕ) → (get_or zs i None ≡ get_or xs i None) ⊎ (get_or masks i 0 ≡ 0)) → SeenFit n masks zs ys
refit {masks = masks} {xs = xs} {ys = ys} s zs size same = record {
  size = size;
  wide = s.wide;
  spread = s.spread;
  fits = λ i. ⊎_elim
      (λ e. ap (λ (o : Option ℕ). masked (get_or masks i 0) (unwrap_or o 0)) e ∙ s.fits i)
      (λ m.
      let before : masked 0 (value_or_zero xs i) ≡ value_or_zero ys i = subst (λ z. masked z (value_or_zero xs i) ≡ value_or_zero ys i) m (s.fits i) in
      ap (λ z. masked z (value_or_zero zs i)) m ∙ (cut_zero (value_or_zero zs i) ∙ (sym (cut_zero (value_or_zero xs i)) ∙ before)))
      (same i);
  lacks = λ i none. ⊎_elim (λ e. s.lacks i (sym e ∙ none)) (λ m. m) (same i);
}

-- ---- a1 has a number
abbrev pub HasPointer : List (Option ℕ) → Type 0
HasPointer seen = is_some (get_or seen 1 None) ≡ true

abbrev pub KeepPointers : List Frame → Type 0
KeepPointers [] = Unit {0}
KeepPointers (g ∷ rest) = HasPointer g.kept × KeepPointers rest

-- ---- the numbers of a filling
module _ (n : ℕ → ℕ) where
  pub numbered_length : (j : ℕ) (xs : List (Option ℕ)) → length (filled_registers n j xs) ≡ length xs
  numbered_length j [] = refl
  numbered_length j (x ∷ xs) = ap suc (numbered_length (suc j) xs)

  numbered_some : (j : ℕ) (xs : List (Option ℕ)) (i v : ℕ) → get_or xs i None ≡ Some v → get_or (filled_registers n j xs) i None ≡ Some v
  numbered_some j [] i v e = e
  numbered_some j (x ∷ xs) zero v e = ap (number_in n j) e
  numbered_some j (x ∷ xs) (suc i) v e = numbered_some (suc j) xs i v e

  numbered_fits : {masks : List ℕ} {xs ys : List (Option ℕ)} → SeenFit 16 masks xs ys → SeenFit 16 masks (filled_registers n 0 xs) ys
  numbered_fits {masks = masks} {xs = xs} s = refit s (filled_registers n 0 xs) (numbered_length 0 xs ∙ s.size) (λ i. by i (get_or xs i None) refl)
    where
      by : (i : ℕ) (o : Option ℕ) → get_or xs i None ≡ o → (get_or (filled_registers n 0 xs) i None ≡ get_or xs i None) ⊎ (get_or masks i 0 ≡ 0)
      by i None e = inr (s.lacks i e)
      by i (Some v) e = inl (numbered_some 0 xs i v e ∙ sym e)

  same_pointer : (xs : List (Option ℕ)) → HasPointer xs → get_or (filled_registers n 0 xs) 1 None ≡ get_or xs 1 None
  same_pointer xs h = by (get_or xs 1 None) refl
    where
      by : (o : Option ℕ) → get_or xs 1 None ≡ o → get_or (filled_registers n 0 xs) 1 None ≡ get_or xs 1 None
      by None e = absurd (true≢false (sym h ∙ ap (λ (o : Option ℕ). is_some o) e))
      by (Some v) e = numbered_some 0 xs 1 v e ∙ sym e

  inside_fits : (inner : List ℕ) (o p : Option Nested) → NestedFit inner o p → NestedFit inner (numbered_inside n o) p
  inside_fits inner None None k = k
  inside_fits inner (Some x) (Some y) k = record { seen = numbered_fits k.seen; pc = k.pc; ps = k.ps; marks = k.marks; spread = k.spread; saved = k.saved }
  inside_fits inner None (Some y) k = absurd k
  inside_fits inner (Some x) None k = absurd k

  pub numbered_knows : {f : FrameState} {u : UseState} → HasPointer f.seen → Knows f u → Knows (filled_state n f) u
  numbered_knows {f = f} {u = u} h k = record {
    seen = numbered_fits k.seen;
    sp = ap (λ (o : Option ℕ). unwrap_or o 0) (same_pointer f.seen h) ∙ k.sp;
    frames = k.frames;
    control = k.control;
    unset = k.unset;
    nested = inside_fits u.masks.inner f.nested u.frame.nested k.nested;
  }

  -- ---- they are words
  word_in : (j : ℕ) (x : Option ℕ) → ((v : ℕ) → x ≡ Some v → IsWord v) → (v : ℕ) → number_in n j x ≡ Some v → IsWord v
  word_in j None w v e =
      let is : masked all_bits (n j) ≡ v = ap (λ (o : Option ℕ). unwrap_or o 0) e in
      let m = and_mask (n j) 32 in
      omega (arith, is, m)
  word_in j (Some x) w v e = w v e

  numbered_words : (j : ℕ) (xs : List (Option ℕ)) → AreWords xs → AreWords (filled_registers n j xs)
  numbered_words j [] w i v e = w i v e
  numbered_words j (x ∷ xs) w zero v e = word_in j x (w 0) v e
  numbered_words j (x ∷ xs) w (suc i) v e = numbered_words (suc j) xs (λ k. w (suc k)) i v e

  inside_words : (o : Option Nested) → IsShapedNested o → IsShapedNested (numbered_inside n o)
  inside_words None k = k
  inside_words (Some x) k = record { pc = k.pc; seen = numbered_words 0 x.seen k.seen; ps = k.ps }

  pub numbered_shaped : (f : FrameState) → IsShapedFrame f → IsShapedFrame (filled_state n f)
  numbered_shaped f k = record { control = k.control; seen = numbered_words 0 f.seen k.seen; kept = k.kept; nested = inside_words f.nested k.nested }

-- ---- a return that forgets registers
module _ (first : ℕ) where
  from_zero : (i : ℕ) (b : Bool) → is_left first i ≡ b → is_left first (0 + i) ≡ b
  from_zero i b e = let at : i ≡ 0 + i = omega arith in subst (λ k. is_left first k ≡ b) at e

  left_refits : (masks : List ℕ) {xs ys : List (Option ℕ)} → SeenFit 16 (left_of 0 first 0 masks) xs ys → SeenFit 16 (left_of 0 first 0 masks) (left_of None first 0 xs) ys
  left_refits masks {xs = xs} s = refit s (left_of None first 0 xs) (left_length None first 0 xs ∙ s.size) (λ i. ⊎_elim
      (λ l. inl (left_get None first 0 xs i None (from_zero i true l)))
      (λ l. inr (left_none 0 first 0 masks i (from_zero i false l)))
      (cases_Bool (is_left first i)))

  left_words : (xs : List (Option ℕ)) → AreWords xs → AreWords (left_of None first 0 xs)
  left_words xs w i v e = ⊎_elim
      (λ l. w i v (sym (left_get None first 0 xs i None (from_zero i true l)) ∙ e))
      (λ l. let z : get_or (left_of None first 0 xs) i None ≡ None = left_none None first 0 xs i (from_zero i false l) in absurd cc)
      (cases_Bool (is_left first i))

results_fit : (ms : List (List ℕ)) (fs gs : List Frame) → FramesFit ms fs gs → AreFrames fs → (f : FrameState) (u : UseState) → Knows f (leave_results gs u) → Knows (results_left fs f) (leave_results gs u)
results_fit [] [] [] fit shaped f u k = k
results_fit (m ∷ ms) (c ∷ fs) (d ∷ gs) fit shaped f u k =
    let by : c.by ≡ d.by = fit.0 in
    let moves = shaped.0.moves in
    let own = left_get None (4 * c.by) 0 f.seen 1 None (left_own (4 * c.by) 1 (omega (arith, moves))) in
    let seen : SeenFit 16 (left_of 0 (4 * d.by) 0 u.masks.seen) (left_of None (4 * c.by) 0 f.seen) (left_of None (4 * d.by) 0 u.frame.seen) =
    subst (λ z. SeenFit 16 (left_of 0 (4 * d.by) 0 u.masks.seen) (left_of None (4 * z) 0 f.seen) (left_of None (4 * d.by) 0 u.frame.seen)) (sym by) (left_refits (4 * d.by) u.masks.seen k.seen) in
    record {
      seen = seen;
      sp = ap (λ (o : Option ℕ). unwrap_or o 0) own ∙ k.sp;
      frames = k.frames;
      control = k.control;
      unset = k.unset;
      nested = k.nested;
    }
results_fit [] (c ∷ fs) gs fit shaped f u k = absurd fit
results_fit [] [] (d ∷ gs) fit shaped f u k = absurd fit
results_fit (m ∷ ms) [] gs fit shaped f u k = absurd fit
results_fit (m ∷ ms) (c ∷ fs) [] fit shaped f u k = absurd fit

abbrev pub left_in : Bool → List Frame → FrameState → FrameState
left_in b frames f = cond b (results_left frames f) f

-- `before` is the frame state before the step, of which s is known
pub results_knows : (o : Option Insn) (before : FrameState) (s : UseState) → Knows before s → AreFrames before.frames → (f : FrameState) (u : UseState) → Knows f (left_after o s u) → Knows (left_in (forgets_registers s.masks.discipline o) before.frames f) (left_after o s u)
results_knows o before s b shaped f u k = by (forgets_registers s.masks.discipline o) k
  where
    by : (z : Bool) → Knows f (cond z (leave_results s.frame.frames u) u) → Knows (left_in z before.frames f) (cond z (leave_results s.frame.frames u) u)
    by true q = results_fit s.masks.kept before.frames s.frame.frames b.frames shaped f u q
    by false q = q

results_shaped : (frames : List Frame) (f : FrameState) → IsShapedFrame f → IsShapedFrame (results_left frames f)
results_shaped [] f k = k
results_shaped (g ∷ rest) f k = record { control = k.control; seen = left_words (4 * g.by) f.seen k.seen; kept = k.kept; nested = k.nested }

pub left_shaped : (z : Bool) (frames : List Frame) (f : FrameState) → IsShapedFrame f → IsShapedFrame (left_in z frames f)
left_shaped true frames f k = results_shaped frames f k
left_shaped false frames f k = k

-- ---- each a1 has a number
pub record IsHeld (seen : List (Option ℕ)) (frames : List Frame) : Type 0 where
  pub framed : AreFrames frames
  pub pointer : HasPointer seen
  pub kept : KeepPointers frames

abbrev pub Held : FrameState → Type 0
Held f = IsHeld f.seen f.frames

pub left_held : (z : Bool) (frames : List Frame) (f : FrameState) → AreFrames frames → Held f → Held (left_in z frames f)
left_held false frames f shaped h = h
left_held true [] f shaped h = h
left_held true (g ∷ rest) f shaped h =
    let moves = shaped.0.moves in
    record { framed = h.framed; pointer = ap (λ (o : Option ℕ). is_some o) (left_get None (4 * g.by) 0 f.seen 1 None (left_own (4 * g.by) 1 (omega (arith, moves)))) ∙ h.pointer; kept = h.kept }

pub filled_held : (n : ℕ → ℕ) (f : FrameState) → Held f → Held (filled_state n f)
filled_held n f h = record { framed = h.framed; pointer = ap (λ (o : Option ℕ). is_some o) (same_pointer n f.seen h.pointer) ∙ h.pointer; kept = h.kept }
