-- The lists of a frame state that say where it has no number are as long as there are registers:
-- so they open, and so each step leaves them.
use Rattle.std.proofs.Common.{◌≡◌, ℕ, ◌+◌, Bool, true, false, ltb, List, [], ◌∷◌, Option, Some, None, sym, ap, ◌∙◌, refl, subst, length}
use Rattle.std.proofs.Math.ListN.{set}
use Rattle.std.proofs.lemmas.List.{length-set, length-replicate}
use Rattle.xt_isa.specs.declared.Insn.{Insn}
use Rattle.xt_special.specs.Interrupts.{pending_of}
use Rattle.xt_trace.specs.declared.record.StepKind.{StepKind}
use Rattle.xt_trace.specs.declared.record.StepKind.TheVariants as kind
use Rattle.xt_trace.specs.declared.record.StepRecord.{StepRecord}
use Rattle.xt_trace.specs.declared.record.RegWrite.{RegWrite}
use Rattle.xt_map.specs.Fetching.{Fetched, Fetches, Fails, SpellsNothing, fetch_at}
use Rattle.xt_rows.specs.declared.outcome.Outcome.{Outcome}
use Rattle.xt_rows.specs.declared.outcome.Outcome.TheVariants.{Windowed}
use Rattle.xt_rows.specs.declared.outcome.WindowStep.{WindowStep}
use Rattle.xt_rows.specs.declared.outcome.WindowStep.TheVariants.{Enters, Returns}
use Rattle.xt_rows.specs.Kinds.{moved_to}
use Rattle.xt_rows.specs.Outcomes.{outcome_at}
use Rattle.xt_frames.specs.declared.holes.Nested.{Nested}
use Rattle.xt_frames.specs.Frames.{Frame, FrameState, all_set, value_or_zero, opening_frame}
use Rattle.xt_frames.specs.FrameStep.{FrameTurn, Inputs, done_in_frame, fetched_step, with_inputs, step_with_inputs, return_in_frame, return_to_frame, entry_in_frame, windowed_in_frame}
use Rattle.xt_frames.specs.Marks.{mark_read, marks_after, unset_by}
use Rattle.xt_frames.specs.Nesting.{begins, nested_entry, ends_nested, nested_view, nested_fetched, nested_insn, turn_in, unset_after}
use Rattle.xt_frames.specs.Breaches.{inputs_of}
use Rattle.xt_frames.specs.Judging.{step_on, value_in}
use Rattle.xt_frames.proofs.StackSteps.{turn_if}

abbrev pub HasMarks : Option Nested → Type 0
HasMarks None = Unit {0}
HasMarks (Some x) = length x.marks ≡ 16

pub record HasHoles (f : FrameState) : Type 0 where
  pub unset : length f.unset ≡ 256
  pub marks : HasMarks f.nested

pub marks_wide : {f : FrameState} → HasHoles f → (x : Nested) → f.nested ≡ Some x → length x.marks ≡ 16
marks_wide k x e = subst (λ (o : Option Nested). HasMarks o) e k.marks

pub opening_holes : (core pc vecbase stack_end : ℕ) → HasHoles (opening_frame core pc vecbase stack_end)
unfolding all_set
opening_holes core pc vecbase stack_end = record { unset = length-replicate 256 false; marks = tt }

-- ---- lengths
by_length : (o : Option (ℕ × ℕ)) (marks : List (Option ℕ)) (unset : List Bool) → length (unset_by o marks unset) ≡ length unset
by_length None marks unset = refl
by_length (Some p) marks unset = length-set unset p.1 _

after_length : (k : StepKind) (at : Fetched) (unset : List Bool) → length (unset_after k at unset) ≡ length unset
after_length (kind.Interrupt level) at unset = length-set (set unset (176 + level) false) (192 + level) false ∙ length-set unset (176 + level) false
after_length kind.Insn (Fetches i len) unset = by_length (moved_to i) [] unset
after_length kind.Insn (Fails address) unset = refl
after_length kind.Insn SpellsNothing unset = refl
after_length _ at unset = refl

marks_length : (mark : Option ℕ) (write : Option RegWrite) (marks : List (Option ℕ)) → length (marks_after mark write marks) ≡ length marks
marks_length mark None marks = refl
marks_length mark (Some w) marks = length-set marks w.reg mark

-- ---- a step of a state over which the inputs are laid changes neither
abbrev pub Stays : FrameState → FrameTurn → Type 0
Stays g u = (u.after.nested ≡ g.nested) × (u.after.unset ≡ g.unset)

pushed_stays : (number value len : ℕ) (g : FrameState) → Stays g (entry_in_frame number value len g)
unfolding entry_in_frame
pushed_stays number value len g = (refl, refl)

from_stays : (frames : List Frame) (a0 : ℕ) (g : FrameState) → Stays g (return_to_frame frames a0 g)
from_stays [] a0 g = (refl, refl)
from_stays (f ∷ rest) a0 g = (refl, refl)

popped_stays : (a0 : ℕ) (g : FrameState) → Stays g (return_in_frame a0 g)
unfolding return_in_frame
popped_stays a0 g = from_stays g.frames a0 g

windowed_stays : (step : WindowStep) (len reply : ℕ) (g : FrameState) → Stays g (windowed_in_frame step len reply g)
windowed_stays (Enters number value) len reply g = turn_if (Stays g) g.control.ps.excm _ _ (refl, refl) (pushed_stays number value len g)
windowed_stays (Returns a0) len reply g = turn_if (Stays g) g.control.ps.excm _ _ (refl, refl) (popped_stays a0 g)
windowed_stays _ len reply g = (refl, refl)

done_stays : (o : Outcome) (len reply : ℕ) (g : FrameState) → Stays g (done_in_frame o len reply g)
done_stays (Windowed step) len reply g = windowed_stays step len reply g
done_stays _ len reply g = (refl, refl)

fetched_stays : (at : Fetched) (code : ℕ → ℕ) (reply : ℕ) (g : FrameState) → Stays g (fetched_step at code reply g)
fetched_stays (Fetches i len) code reply g = done_stays (outcome_at code i (value_or_zero g.seen) g.control) len reply g
fetched_stays (Fails address) code reply g = (refl, refl)
fetched_stays SpellsNothing code reply g = (refl, refl)

pub laid_stays : (code : ℕ → ℕ) (reply : ℕ) (g : FrameState) → Stays g (step_with_inputs code reply g)
unfolding step_with_inputs
laid_stays code reply g = turn_if (Stays g) (ltb 0 (pending_of g.control)) _ _ (refl, refl) (turn_if (Stays g) g.control.waits _ _ (refl, refl) (fetched_stays (fetch_at code g.control.pc) code reply g))

-- ---- each step
abbrev LeavesHoles : FrameTurn → Type 0
LeavesHoles u = HasHoles u.after

begun_holes : (g : FrameState) → length g.unset ≡ 256 → HasHoles (nested_entry g).after
begun_holes g all = record { unset = length-set (set g.unset 181 true) 197 true ∙ (length-set g.unset 181 true ∙ all); marks = refl }

insn_holes : (i : Insn) (value : ℕ) (x : Nested) (f : FrameState) (u : FrameTurn) → length f.unset ≡ 256 → length x.marks ≡ 16 → length u.after.unset ≡ 256 → HasHoles (nested_insn i value x f u).after
insn_holes i value x f u all wide left =
    turn_if LeavesHoles (ends_nested i) _ _
    (record { unset = left; marks = tt })
    (record { unset = by_length (moved_to i) x.marks f.unset ∙ all; marks = marks_length (mark_read i x.saved) u.write x.marks ∙ wide })

nested_holes : (at : Fetched) (value : ℕ) (x : Nested) (f : FrameState) (u : FrameTurn) → length f.unset ≡ 256 → length x.marks ≡ 16 → length u.after.unset ≡ 256 → HasHoles (nested_fetched at value x f u).after
nested_holes (Fetches i len) value x f u all wide left = insn_holes i value x f u all wide left
nested_holes (Fails address) value x f u all wide left = record { unset = left; marks = wide }
nested_holes SpellsNothing value x f u all wide left = record { unset = left; marks = wide }

turn_holes : (n : Option Nested) (code : ℕ → ℕ) (value : ℕ) (inp : Inputs) (f : FrameState) → f.nested ≡ n → length f.unset ≡ 256 → HasMarks n → HasHoles (turn_in n code value inp f).after
turn_holes None code value inp f e all wide =
    let g : FrameState = with_inputs inp f in
    let u : FrameTurn = step_with_inputs code inp.reply g in
    let none : u.after.nested ≡ None = (laid_stays code inp.reply g).0 ∙ e in
    record {
      unset = after_length u.kind (fetch_at code g.control.pc) f.unset ∙ all;
      marks = subst (λ (o : Option Nested). HasMarks o) (sym none) tt;
    }
turn_holes (Some x) code value inp f e all wide =
    let g : FrameState = with_inputs inp (nested_view x f) in
    let left = (laid_stays code inp.reply g).1 in
    nested_holes (fetch_at code g.control.pc) value x f (step_with_inputs code inp.reply g) all wide (ap (λ (u : List Bool). length u) left ∙ all)

pub step_holes : (code : ℕ → ℕ) (nested : Bool) (rec : StepRecord) (f : FrameState) → HasHoles f → HasHoles (step_on code nested rec f).after
step_holes code nested rec f k =
    turn_if LeavesHoles (begins nested rec.kind f) _ _
    (begun_holes (with_inputs (inputs_of rec) f) k.unset)
    (turn_holes f.nested code (value_in rec.write) (inputs_of rec) f refl k.unset k.marks)
