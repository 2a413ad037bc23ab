-- What a return of the strict discipline changes of the state that its step leaves.
use Rattle.std.proofs.Common.{◌≡◌, ℕ, ◌*◌, false, List, [], ◌∷◌, Option, Some, None, refl, ap, ◌∙◌, arith}
use Rattle.std.proofs.lemmas.Bool.{and_right, cond-false, cond_both}
use Rattle.xt_isa.specs.declared.Insn.{Insn}
use Rattle.xt_rows.specs.Kinds.{is_return}
use Rattle.xt_frames.specs.Frames.{Frame, FrameState, value_or_zero}
use Rattle.xt_frames.specs.declared.holes.Nested.{Nested}
use Rattle.xt_frames.specs.Nesting.{current, current_in}
use Rattle.xt_frames.specs.Stacks.{AreFrames, Stack}
use Rattle.xt_frames.proofs.Stacked.{known_is}
use Rattle.xt_uses.specs.Disciplines.{Lenient, is_strict}
use Rattle.xt_uses.specs.UseState.{UseState}
use Rattle.xt_uses.specs.UseStep.{forgets_registers, leave_results, left_after, left_of}
use Rattle.xt_uses.proofs.Left.{left_get, left_length, left_own}

-- it changes nothing but after a return of the strict discipline
pub left_still : (o : Option Insn) (s u : UseState) → forgets_registers s.masks.discipline o ≡ false → left_after o s u ≡ u
left_still o s u e = cond-false (forgets_registers s.masks.discipline o) (leave_results s.frame.frames u) u e

pub no_return_left : (i : Insn) (s u : UseState) → is_return i ≡ false → left_after (Some i) s u ≡ u
no_return_left i s u e = left_still (Some i) s u (and_right (is_strict s.masks.discipline) (is_return i) e)

pub lenient_left : (o : Option Insn) (s u : UseState) → s.masks.discipline ≡ Lenient → left_after o s u ≡ u
lenient_left o s u e = left_still o s u (ap (λ d. forgets_registers d o) e ∙ by o)
  where
    by : (o : Option Insn) → forgets_registers Lenient o ≡ false
    by None = refl
    by (Some i) = refl

-- what holds of both holds of it
pub left_holds : (P : UseState → Type 0) (o : Option Insn) (s u : UseState) → P u → P (leave_results s.frame.frames u) → P (left_after o s u)
left_holds P o s u p q = cond_both (forgets_registers s.masks.discipline o) (leave_results s.frame.frames u) u P (λ e. q) (λ e. p)

results_current : (frames : List Frame) (u : UseState) → (current (leave_results frames u).frame).control ≡ (current u.frame).control
results_current [] u = refl
results_current (g ∷ rest) u = by u.frame.nested
  where
    by : (n : Option Nested) → (current_in n (leave_results (g ∷ rest) u).frame).control ≡ (current_in n u.frame).control
    by None = refl
    by (Some x) = refl

pub left_current : (o : Option Insn) (s u : UseState) → (current (left_after o s u).frame).control ≡ (current u.frame).control
left_current o s u = left_holds (λ t. (current t.frame).control ≡ (current u.frame).control) o s u refl (results_current s.frame.frames u)

-- ---- the chain of stack pointers
abbrev SameChain : ℕ → ℕ → FrameState → FrameState → Type 0
SameChain lo hi f t = Stack lo hi t.seen t.frames × (t.frames ≡ f.frames) × (value_or_zero t.seen 1 ≡ value_or_zero f.seen 1)

results_stack : (lo hi : ℕ) (frames : List Frame) (u : UseState) → AreFrames frames → Stack lo hi u.frame.seen u.frame.frames → SameChain lo hi u.frame (leave_results frames u).frame
results_stack lo hi [] u shaped k = (k, refl, refl)
results_stack lo hi (g ∷ rest) u shaped k =
    let moves = shaped.0.moves in
    let first = 4 * g.by in
    let seen = u.frame.seen in
    let own = left_get None first 0 seen 1 None (left_own first 1 (omega (arith, moves))) in
    let at = known_is (left_of None first 0 seen) 1 (value_or_zero seen 1) (own ∙ k.sp) in (
      record {
        range = k.range;
        wide = left_length None first 0 seen ∙ k.wide;
        shaped = k.shaped;
        sp = rw at (own ∙ k.sp);
        chain = rw at k.chain;
      },
      refl,
      at,
    )

pub left_stack : (lo hi : ℕ) (o : Option Insn) (s u : UseState) → AreFrames s.frame.frames → Stack lo hi u.frame.seen u.frame.frames → SameChain lo hi u.frame (left_after o s u).frame
left_stack lo hi o s u shaped k = left_holds (λ t. SameChain lo hi u.frame t.frame) o s u (k, refl, refl) (results_stack lo hi s.frame.frames u shaped k)
