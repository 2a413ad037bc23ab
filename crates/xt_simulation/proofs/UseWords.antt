-- What the machine of frames over a filling reads are words.
use Rattle.std.specs.Prelude.{is_some, unwrap_or}
use Rattle.std.proofs.Common.{◌≡◌, ℕ, ◌^◌, ◌<◌, Bool, true, false, ◌||◌, List, Option, Some, None, sym, ap, refl, arith, subst, get_or, cond, ltb}
use Rattle.std.proofs.lemmas.Option.{same_Some}
use Rattle.xt_isa.specs.declared.Insn.{Insn}
use Rattle.xt_isa.specs.declared.Insn.TheVariants as insn
use Rattle.xt_isa.specs.declared.shift.Shift.TheVariants as shift
use Rattle.xt_isa.specs.Ranges.{in_range}
use Rattle.xt_special.specs.Control.{special_of}
use Rattle.xt_special.specs.Interrupts.{pending_of}
use Rattle.xt_trace.specs.declared.record.StepRecord.{StepRecord}
use Rattle.xt_map.specs.Code.{AreBytes}
use Rattle.xt_map.specs.Fetching.{Fetched, Fetches, fetch_at}
use Rattle.xt_rows.specs.Effects.{no_change}
use Rattle.xt_rows.specs.RowLaws.{IsHeld, IsWord}
use Rattle.xt_rows.specs.Operands.{reads, special_reads}
use Rattle.xt_rows.specs.Outcomes.{value_of}
use Rattle.xt_rows.specs.Settling.{after_effect}
use Rattle.xt_rows.specs.declared.outcome.Effect.{Effect}
use Rattle.xt_rows.proofs.Registers.{shift_amount}
use Rattle.xt_exec.specs.TurnLaws.{IsShapedControl}
use Rattle.xt_exec.proofs.Specials.{IsShapedSpecial, effect_shaped, set_shaped, ticked_shaped}
use Rattle.xt_frames.specs.declared.holes.Nested.{Nested}
use Rattle.xt_frames.specs.Frames.{FrameState, value_or_zero}
use Rattle.xt_frames.specs.FrameStep.{FrameTurn, Inputs, with_inputs}
use Rattle.xt_frames.specs.Nesting.{begins, frame_step, nested_view}
use Rattle.xt_frames.specs.Breaches.{inputs_of}
use Rattle.xt_frames.specs.Judging.{value_in}
use Rattle.xt_uses.specs.UseStep.{fetched_movsp, movsp_of, stack_moved, turn_or, value_step}
use Rattle.xt_uses.proofs.CutWords.{AreInputs, IsShapedFrame, IsShapedInner, step_leaves, words_set}
use Rattle.xt_uses.proofs.WholeLists.{AreWords}
use Rattle.xt_simulation.proofs.Operands.{IsGivenAt}

pub known_small : (xs : List (Option ℕ)) (i : ℕ) → AreWords xs → IsWord (value_or_zero xs i)
known_small xs i w = by (get_or xs i None) refl
  where
    by : (o : Option ℕ) → get_or xs i None ≡ o → IsWord (unwrap_or o 0)
    by None e = omega arith
    by (Some n) e = w i n e

-- ---- the inputs of a step, laid over a frame state
pub laid_words : (inp : Inputs) (f : FrameState) → AreInputs inp → IsShapedFrame f → IsShapedFrame (with_inputs inp f)
laid_words inp f a k =
    let c = k.control in
    let s : IsShapedSpecial f.control.special = record { count = c.count; words = c.words; shape = c.shape } in
    let one = set_shaped f.control.special 234 inp.ccount (record { as_sar = λ e. absurd (omega (arith, e)); as_vecbase = λ e. absurd (omega (arith, e)) }) a.ccount s in
    let two = set_shaped _ 226 inp.interrupt (record { as_sar = λ e. absurd (omega (arith, e)); as_vecbase = λ e. absurd (omega (arith, e)) }) a.interrupt one in
    record {
      control = record {
        pc = c.pc;
        count = two.count;
        words = two.words;
        shape = two.shape;
        ps = record { intlevel_fits = c.ps.intlevel_fits; ring_fits = c.ps.ring_fits; owb_fits = a.owb; callinc_fits = c.ps.callinc_fits };
        threadptr = c.threadptr;
      };
      seen = k.seen;
      kept = k.kept;
      nested = k.nested;
    }

pub inside_words : (x : Nested) (f : FrameState) → IsShapedFrame f → IsShapedInner x → IsShapedFrame (nested_view x f)
inside_words x f k i = record {
  control = record { pc = i.pc; count = k.control.count; words = k.control.words; shape = k.control.shape; ps = i.ps; threadptr = k.control.threadptr };
  seen = i.seen;
  kept = k.kept;
  nested = k.nested;
}

-- ---- what a row is given
module _ (g : FrameState) (k : IsShapedFrame g) where
  seen_word : (o : Option ℕ) → IsWord (value_of (value_or_zero g.seen) o)
  seen_word None = omega arith
  seen_word (Some i) = known_small g.seen i k.seen

  special_word : (o : Option ℕ) → IsWord (value_of (special_of g.control) o)
  special_word None = omega arith
  special_word (Some i) = k.control.words i

  held : (o : Option ℕ) → IsHeld o (value_of (special_of g.control) o)
  held None = refl
  held (Some n) = λ is. subst (λ j. special_of g.control j < 2 ^ 6) (sym is) k.control.shape.sar_fits

  pub given_words : (i : Insn) → in_range i ≡ true → IsGivenAt i g
  given_words i ok = record {
    range = ok;
    pc_word = k.control.pc;
    x_word = seen_word (reads i).0;
    y_word = seen_word (reads i).1;
    u_word = special_word (special_reads i).0;
    v_word = special_word (special_reads i).1;
    sar = shift_amount i (value_of (special_of g.control) (special_reads i).0) (held (special_reads i).0);
    fields = k.control.ps;
    threadptr_word = k.control.threadptr;
  }

-- ---- a step leaves words
moved_control : (t v len : ℕ) (f : FrameState) → IsShapedControl f.control → IsShapedControl (stack_moved t v len f).after.control
unfolding after_effect
moved_control t v len f c =
    let e : Effect = no_change f.control.ps f.control.threadptr in
    ticked_shaped _ (effect_shaped e len f.control (record { write = tt; sets = (tt, tt, tt); ps = c.ps; threadptr = c.threadptr; flow = tt }) c)

moved_leaves : (at : Fetched) (f : FrameState) (w : FrameTurn) → fetched_movsp at f ≡ Some w → IsShapedFrame f → IsShapedFrame w.after
unfolding fetched_movsp
moved_leaves (Fetches (insn.Shift (shift.Movsp t s)) len) f w e k =
    subst (λ (z : FrameTurn). IsShapedFrame z.after) (ap (λ (o : Option FrameTurn). unwrap_or o w) e) (record {
      control = moved_control t (value_or_zero f.seen s) len f k.control;
      seen = words_set f.seen t (Some (value_or_zero f.seen s)) k.seen (λ n is. subst (λ z. IsWord z) (same_Some (value_or_zero f.seen s) n is) (known_small f.seen s k.seen));
      kept = k.kept;
      nested = k.nested;
    })
moved_leaves _ f w e k = absurd cc

pub value_leaves : (code : ℕ → ℕ) (nested : Bool) (rec : StepRecord) (f : FrameState) → AreBytes code → AreInputs (inputs_of rec) → IsShapedFrame f → IsShapedFrame (value_step code (begins nested rec.kind f) (value_in rec.write) (inputs_of rec) f).after
unfolding value_step
value_leaves code nested rec f bytes a k = by (begins nested rec.kind f) (step_leaves code nested rec f bytes a k).0
  where
    inp : Inputs
    inp = inputs_of rec

    value : ℕ
    value = value_in rec.write

    or_moved : (o : Option FrameTurn) → movsp_of code (with_inputs inp f) ≡ o → IsShapedFrame (frame_step code false value inp f).after → IsShapedFrame (turn_or o (frame_step code false value inp f)).after
    or_moved None e p = p
    or_moved (Some w) e p = at_move (is_some f.nested || (ltb 0 (pending_of (with_inputs inp f).control) || (with_inputs inp f).control.waits)) e
      where
        at_move : (b : Bool) → cond b None (fetched_movsp (fetch_at code (with_inputs inp f).control.pc) (with_inputs inp f)) ≡ Some w → IsShapedFrame w.after
        at_move true q = absurd cc
        at_move false q = moved_leaves (fetch_at code (with_inputs inp f).control.pc) (with_inputs inp f) w q (laid_words inp f a k)

    by : (b : Bool) → IsShapedFrame (frame_step code b value inp f).after → IsShapedFrame (cond b (frame_step code true value inp f) (turn_or (movsp_of code (with_inputs inp f)) (frame_step code false value inp f))).after
    by true p = p
    by false p = or_moved (movsp_of code (with_inputs inp f)) refl p
