-- All is known as a core opens; and nothing of the registers of a nested interrupt that begins.
use Rattle.std.specs.Prelude.{unwrap_or}
use Rattle.std.proofs.Common.{◌≡◌, ℕ, zero, suc, ◌+◌, ◌^◌, ◌<◌, false, List, Option, Some, None, sym, ap, ◌∙◌, refl, arith, ⊎_elim, subst, length, get_or, replicate}
use Rattle.std.proofs.lemmas.Bool.{cases_lt, true≢false}
use Rattle.std.proofs.lemmas.List.{get_or_past, get_or-replicate, length-replicate}
use Rattle.xt_special.specs.Control.{special_of}
use Rattle.xt_window.specs.Ring.{place, visible}
use Rattle.xt_exec.specs.State.{State, opening_state}
use Rattle.xt_exec.specs.TurnLaws.{IsShaped}
use Rattle.xt_exec.proofs.Shapes.{opening_shaped}
use Rattle.xt_frames.specs.Frames.{FrameState, all_set, value_or_zero}
use Rattle.xt_simulation.specs.Opening.{frame_of, values_from}
use Rattle.xt_simulation.proofs.Headline.{opens_alike}
use Rattle.xt_uses.specs.Words.{all_bits, masked}
use Rattle.xt_uses.specs.declared.discipline.Discipline.{Discipline}
use Rattle.xt_uses.specs.UseState.{opening_use}
use Rattle.xt_simulation.specs.Knowing.{ControlFit, Knows, SeenFit, UnsetFit}
use Rattle.xt_simulation.specs.UseRunLaws.{ShadowsOpen}
use Rattle.xt_simulation.proofs.Operands.{cut_all}
use Rattle.xt_simulation.proofs.Seen.{cut_zero}
use Rattle.xt_simulation.proofs.Specials.{left_fits, mark_range, partial_lost}

values_size : (f : ℕ → ℕ) (i n : ℕ) → length (values_from f i n) ≡ n
values_size f i zero = refl
values_size f i (suc n) = ap suc (values_size f (suc i) n)

values_at : (f : ℕ → ℕ) (i n k : ℕ) → k < n → get_or (values_from f i n) k None ≡ Some (f (i + k))
values_at f i zero k h = absurd (omega arith)
values_at f i (suc n) zero h = ap (λ j. Some (f j)) (let e : i ≡ i + 0 = omega arith in e)
values_at f i (suc n) (suc k) h = values_at f (suc i) n k (omega arith) ∙ ap (λ j. Some (f j)) (let e : suc i + k ≡ i + suc k = omega arith in e)

-- ---- the opening
module _ (s : State) (shaped : IsShaped s) where
  abbrev seen : List (Option ℕ)
  seen = values_from (visible s.regs s.base) 0 16

  seen_fit : SeenFit 16 (replicate 16 all_bits) seen seen
  seen_fit = record {
    size = values_size (visible s.regs s.base) 0 16;
    wide = values_size (visible s.regs s.base) 0 16;
    spread = length-replicate 16 all_bits;
    fits = λ i. ⊎_elim
        (λ low.
        let m : get_or (replicate 16 all_bits) i 0 ≡ all_bits = get_or-replicate 16 i all_bits 0 low in
        let v : value_or_zero seen i ≡ visible s.regs s.base i = ap (λ (o : Option ℕ). unwrap_or o 0) (values_at (visible s.regs s.base) 0 16 i low) ∙ ap (visible s.regs s.base) (let e : 0 + i ≡ i = omega arith in e) in
        ap (λ z. masked z (value_or_zero seen i)) m ∙ cut_all (value_or_zero seen i) (subst (λ z. z < 2 ^ 32) (sym v) (shaped.words (place s.base i))))
        (λ high.
        let m : get_or (replicate 16 all_bits) i 0 ≡ 0 = get_or_past (replicate 16 all_bits) i 0 (let l = length-replicate 16 all_bits in omega arith) in
        let v : value_or_zero seen i ≡ 0 = ap (λ (o : Option ℕ). unwrap_or o 0) (get_or_past seen i None (let l = values_size (visible s.regs s.base) 0 16 in omega arith)) in
        ap (λ z. masked z (value_or_zero seen i)) m ∙ (cut_zero (value_or_zero seen i) ∙ sym v))
        (cases_lt i 16);
    lacks = λ i e. ⊎_elim
        (λ low. let v = values_at (visible s.regs s.base) 0 16 i low in absurd cc)
        (λ high. get_or_past (replicate 16 all_bits) i 0 (let l = length-replicate 16 all_bits in omega arith))
        (cases_lt i 16);
  }

  opens_control : (d : Discipline) → ControlFit d (replicate 256 all_bits) all_bits s.control s.control
  opens_control d = record {
    even = record { pc = refl; ps = refl; threadptr = refl; waits = refl; special = record { size = refl; only = partial_lost; at = λ k value_or_zero. refl } };
    pointer = cut_all s.control.threadptr shaped.control.threadptr;
    spread = length-replicate 256 all_bits;
    words = λ n h. shaped.control.words n;
    fits = λ n h.
        let low : n < 256 = ⊎_elim (λ r. let hi = r.1 in omega arith) (λ r. let hi = r.1 in omega arith) (mark_range n h) in
        ap (λ z. masked z (special_of s.control n)) (get_or-replicate 256 n all_bits 0 low) ∙ cut_all (special_of s.control n) (shaped.control.words n);
    saved = λ n h. refl;
  }

  opens_unset : UnsetFit (replicate 256 all_bits) all_set all_set
  unfolding all_set
  opens_unset = record {
    size = length-replicate 256 false;
    wide = length-replicate 256 false;
    equal = λ n h. refl;
    lacks = λ n h e. absurd (true≢false (sym e ∙ blank_at n));
  }
    where
      blank_at : (n : ℕ) → get_or (replicate 256 false) n false ≡ false
      blank_at n = ⊎_elim (λ low. get_or-replicate 256 n false false low) (λ high. get_or_past (replicate 256 false) n false (let l = length-replicate 256 false in omega arith)) (cases_lt n 256)

  pub opens_known : (d : Discipline) → Knows (frame_of s) (opening_use d (frame_of s))
  opens_known d = record {
    seen = seen_fit;
    sp = refl;
    frames = tt;
    control = left_fits (opens_control d);
    unset = opens_unset;
    nested = tt;
  }

pub shadows_open : ShadowsOpen
shadows_open d core pc vecbase stack_end p aligned v low high =
    subst (λ (f : FrameState). Knows f (opening_use d f)) (opens_alike core pc vecbase stack_end) (opens_known (opening_state core pc vecbase stack_end) (opening_shaped core pc vecbase stack_end p aligned v low high) d)
