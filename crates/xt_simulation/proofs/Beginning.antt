-- The record that begins a nested interrupt: nothing is known of the interrupt's registers.
use Rattle.std.specs.Prelude.{unwrap_or, is_some}
use Rattle.std.proofs.Common.{◌≡◌, ℕ, ◌≢◌, Bool, true, false, ◌&&◌, not, List, Option, None, sym, ap, ◌∙◌, refl, arith, subst, replicate}
use Rattle.std.proofs.Math.ListN.{set}
use Rattle.std.proofs.lemmas.Bool.{both_ways, cond-true}
use Rattle.std.proofs.lemmas.List.{get_or-set_other, length-set, length-replicate}
use Rattle.xt_trace.specs.declared.record.StepRecord.{StepRecord}
use Rattle.xt_rows.specs.Settling.{settled_interrupt}
use Rattle.xt_frames.specs.declared.holes.Nested.{Nested}
use Rattle.xt_frames.specs.Frames.{FrameState, value_or_zero}
use Rattle.xt_frames.specs.FrameStep.{Inputs, in_frame, with_inputs}
use Rattle.xt_frames.specs.Marks.{holds_marks}
use Rattle.xt_frames.specs.Nesting.{begins, nested_entry, is_nesting}
use Rattle.xt_frames.specs.Breaches.{inputs_of}
use Rattle.xt_uses.specs.Words.{masked}
use Rattle.xt_uses.specs.UseState.{UseState}
use Rattle.xt_uses.specs.UseStep.{full_step, inner_unknown, other_turn, value_step}
use Rattle.xt_simulation.specs.Knowing.{ControlFit, Follows, Knows, SeenFit, UnsetFit}
use Rattle.xt_simulation.proofs.Lists.{laid_fits, set_equal}
use Rattle.xt_simulation.proofs.NestedFollow.{placed_fits}
use Rattle.xt_simulation.proofs.Seen.{blank, cut_zero}
use Rattle.xt_simulation.proofs.Specials.{left_fits, taken_fits, told_ps, ticked_fits}

-- a special register that keeps nothing unknown loses its number in both
plain_unset : {special : List ℕ} {xs ys : List Bool} → UnsetFit special xs ys → (n : ℕ) (b : Bool) → holds_marks n ≡ false → UnsetFit special (set xs n b) (set ys n b)
plain_unset {special = special} {xs = xs} {ys = ys} u n b plain =
    let size = u.size in
    let wide = u.wide in
    record {
      size = length-set xs n b ∙ size;
      wide = length-set ys n b ∙ wide;
      equal = λ k other. set_equal xs ys n b u.size u.wide k (u.equal k other);
      lacks = λ k mark has.
          let apart : k ≢ n = λ is. both_ways (holds_marks n) plain (subst (λ j. holds_marks j ≡ true) is mark) in
          u.lacks k mark (sym (get_or-set_other xs n k b false apart) ∙ has);
    }

abbrev no_number : Option ℕ
no_number = None

blank_fits : SeenFit 16 (replicate 16 0) (replicate 16 no_number) (replicate 16 no_number)
blank_fits = record {
  size = length-replicate 16 no_number;
  wide = length-replicate 16 no_number;
  spread = length-replicate {A = ℕ} 16 0;
  fits = λ i.
      let v : value_or_zero (replicate 16 no_number) i ≡ 0 = ap (λ (o : Option ℕ). unwrap_or o 0) (blank 16 i no_number) in
      ap (λ z. masked z (value_or_zero (replicate 16 no_number) i)) (blank 16 i 0) ∙ (cut_zero (value_or_zero (replicate 16 no_number) i) ∙ sym v);
  lacks = λ i e. blank 16 i 0;
}

pub use_begins : (code : ℕ → ℕ) (rec : StepRecord) (bytes : ℕ → ℕ) (s : UseState) → is_nesting rec.kind ≡ true → s.frame.nested ≡ None → full_step code true rec bytes s ≡ other_turn (inner_unknown s.masks) (nested_entry (with_inputs (inputs_of rec) s.frame))
unfolding value_step
use_begins code rec bytes s nesting sn =
    let start : begins true rec.kind s.frame ≡ true = ap (λ (o : Option Nested). is_nesting rec.kind && not (is_some o)) sn ∙ ap (λ b. b && true) nesting in
    cond-true (begins true rec.kind s.frame) _ _ start

module _ {f : FrameState} {s : UseState} (k : Knows f s) (inp : Inputs) where
  laid_control : ControlFit s.masks.discipline s.masks.special s.masks.threadptr (with_inputs inp f).control (with_inputs inp s.frame).control
  laid_control = laid_fits inp f s.frame k.control

  taken : ControlFit s.masks.discipline s.masks.special s.masks.threadptr (in_frame (settled_interrupt 5 (with_inputs inp f).control) 0 (with_inputs inp f)).after.control (in_frame (settled_interrupt 5 (with_inputs inp s.frame).control) 0 (with_inputs inp s.frame)).after.control
  taken = ticked_fits (taken_fits laid_control 5 (omega arith))

  pub begin_follows : Follows (other_turn (inner_unknown s.masks) (nested_entry (with_inputs inp s.frame))) (nested_entry (with_inputs inp f))
  begin_follows = record {
    kind = refl;
    write = tt;
    access = tt;
    sent = tt;
    knows = record {
      seen = k.seen;
      sp = k.sp;
      frames = k.frames;
      control = left_fits (placed_fits taken (with_inputs inp f).control.pc (with_inputs inp s.frame).control.pc (with_inputs inp f).control.ps (with_inputs inp s.frame).control.ps laid_control.even.pc laid_control.even.ps);
      unset = plain_unset (plain_unset k.unset 181 true refl) 197 true refl;
      nested = record {
        seen = blank_fits;
        pc = taken.even.pc;
        ps = told_ps taken.even.ps;
        marks = refl;
        spread = refl;
        saved = refl;
      };
    };
  }
