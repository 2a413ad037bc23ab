-- A step of the machine of uses outside nested interrupts begins none, and leaves as many special registers as there were, each with a number.
use Rattle.std.proofs.Common.{◌≡◌, ℕ, ◌||◌, Bool, true, false, cond, ltb, List, [], ◌∷◌, Option, Some, None, refl, sym, ◌∙◌, ap, subst}
use Rattle.std.specs.Prelude.{is_some, unwrap_or}
use Rattle.std.proofs.lemmas.Option.{none-some}
use Rattle.xt_isa.specs.declared.Insn.{Insn}
use Rattle.xt_isa.specs.declared.Insn.TheVariants as insn
use Rattle.xt_isa.specs.declared.shift.Shift.TheVariants as shift
use Rattle.xt_special.specs.Interrupts.{pending_of}
use Rattle.xt_trace.specs.declared.record.RegWrite.{RegWrite}
use Rattle.xt_trace.specs.declared.record.StepRecord.{StepRecord}
use Rattle.xt_map.specs.Fetching.{Fetched, Fetches, fetch_at}
use Rattle.xt_rows.specs.Effects.{puts, no_change}
use Rattle.xt_frames.specs.declared.holes.Nested.{Nested}
use Rattle.xt_frames.specs.Frames.{Frame, FrameState, value_or_zero}
use Rattle.xt_frames.specs.FrameStep.{FrameTurn, step_with_inputs, with_inputs}
use Rattle.xt_frames.specs.Nesting.{current, unset_after}
use Rattle.xt_frames.specs.Breaches.{inputs_of}
use Rattle.xt_frames.specs.Judging.{value_in}
use Rattle.xt_frames.proofs.Lengths.{laid_stays}
use Rattle.xt_shadow.specs.InStep.{IsPlain}
use Rattle.xt_shadow.proofs.Counts.{after_none, count, inputs_count, laid_count, outcome_count}
use Rattle.xt_uses.specs.Known.{result_mask}
use Rattle.xt_uses.specs.UseState.{UseState, first_word, second_word, special_operand}
use Rattle.xt_uses.specs.UseStep.{UseTurn, cut_state, fetched_movsp, forgets_registers, full_step, leave_results, movsp_of, reply_mask, step_insn, turn_or, use_step, use_turn, value_step}
use Rattle.xt_uses.proofs.UseSteps.{value_plain}

-- ---- the values
abbrev Keeps : FrameState → FrameTurn → Type 0
Keeps g u = (u.after.nested ≡ g.nested) × (count u.after.control ≡ count g.control)

moved_keeps : (at : Fetched) (g : FrameState) (t : FrameTurn) → fetched_movsp at g ≡ Some t → Keeps g t
unfolding fetched_movsp
moved_keeps (Fetches (insn.Shift (shift.Movsp n s)) len) g u e =
    subst (λ (v : FrameTurn). Keeps g v) (ap (λ (o : Option FrameTurn). unwrap_or o u) e)
    (refl, outcome_count (puts n (value_or_zero g.seen s) (no_change g.control.ps g.control.threadptr)) len g.control)
moved_keeps _ g u e = absurd cc

if_made : (b : Bool) (o : Option FrameTurn) (t : FrameTurn) → cond b None o ≡ Some t → o ≡ Some t
if_made true o t e = absurd cc
if_made false o t e = e

or_keeps : (o : Option FrameTurn) (l : FrameTurn) (g : FrameState) → ((t : FrameTurn) → o ≡ Some t → Keeps g t) → Keeps g l → Keeps g (turn_or o l)
or_keeps None l g h k = k
or_keeps (Some t) l g h k = h t refl

value_keeps : (code : ℕ → ℕ) (value : ℕ) (rec : StepRecord) (f : FrameState) → IsPlain f → IsPlain (value_step code false value (inputs_of rec) f).after
value_keeps code value rec f p =
    let g = with_inputs (inputs_of rec) f in
    let at = fetch_at code g.control.pc in
    let l = step_with_inputs code rec.reply g in
    let u = turn_or (movsp_of code g) l in
    let b = is_some g.nested || (ltb 0 (pending_of g.control) || g.control.waits) in
    let k : Keeps g u = or_keeps (movsp_of code g) l g (λ t e. moved_keeps at g t (if_made b (fetched_movsp at g) t e)) ((laid_stays code rec.reply g).0, laid_count code rec.reply g) in
    subst (λ (v : FrameTurn). IsPlain v.after) (value_plain code value rec f p.nested) (record {
      nested = k.0 ∙ p.nested;
      numbers = ap (λ (s : List Bool). unset_after u.kind at s) p.numbers ∙ after_none u.kind at;
      count = k.1 ∙ (inputs_count (inputs_of rec) f ∙ p.count);
    })

-- ---- what is cut, and what a return leaves
cut_plain : (mask : ℕ) (w : Option RegWrite) (o : Option Nested) (g : FrameState) → g.nested ≡ o → IsPlain g → IsPlain (cut_state mask w o g)
cut_plain mask w None g e k = record { nested = k.nested; numbers = k.numbers; count = k.count }
cut_plain mask w (Some x) g e k = absurd (none-some x (sym k.nested ∙ e))

turn_plain : (o : Option Insn) (reply : ℕ) (s : UseState) (f : FrameState) (u : FrameTurn) → IsPlain u.after → IsPlain (use_turn o reply s f u).after.frame
turn_plain None reply s f u k = k
turn_plain (Some i) reply s f u k =
    cut_plain (result_mask s.masks.discipline i (first_word i s f) (second_word i s f) (special_operand i s f) s.masks.threadptr reply) u.write u.after.nested u.after refl k

leave_plain : (frames : List Frame) (u : UseState) → IsPlain u.frame → IsPlain (leave_results frames u).frame
leave_plain [] u k = k
leave_plain (g ∷ rest) u k = record { nested = k.nested; numbers = k.numbers; count = k.count }

if_plain : (b : Bool) (x y : UseState) → IsPlain x.frame → IsPlain y.frame → IsPlain (cond b x y).frame
if_plain true x y p q = p
if_plain false x y p q = q

-- ---- the step
pub use_plain : (code : ℕ → ℕ) (rec : StepRecord) (bytes : ℕ → ℕ) (s : UseState) → IsPlain s.frame → IsPlain (use_step code false rec bytes s).after.frame
use_plain code rec bytes s k =
    let f = with_inputs (inputs_of rec) (current s.frame) in
    let u = value_step code false (value_in rec.write) (inputs_of rec) s.frame in
    let t : UseTurn = full_step code false rec bytes s in
    let made : IsPlain t.after.frame = turn_plain (step_insn u.kind (fetch_at code f.control.pc)) (reply_mask bytes rec.access) s f u (value_keeps code (value_in rec.write) rec s.frame k) in
    if_plain (forgets_registers s.masks.discipline (step_insn t.turn.kind (fetch_at code f.control.pc))) (leave_results s.frame.frames t.after) t.after
    (leave_plain s.frame.frames t.after made) made
