-- The machine over a filling has a number in each register.
use Rattle.std.proofs.Common.{ℕ, zero, suc, Bool, true, false, ◌==◌, ◌&&◌, cond, List, [], ◌∷◌, Option, Some, None, sym, subst, slice_get}
use Rattle.xt_trace.specs.declared.record.StepRecord.{StepRecord}
use Rattle.xt_map.specs.Fetching.{fetch_at}
use Rattle.xt_frames.specs.declared.holes.Nested.{Nested}
use Rattle.xt_frames.specs.Frames.{FrameState, opening_seen}
use Rattle.xt_frames.specs.Nesting.{begins, current}
use Rattle.xt_frames.specs.Breaches.{inputs_of}
use Rattle.xt_frames.specs.Judging.{value_in}
use Rattle.xt_frames.specs.Verdict.{is_nested}
use Rattle.xt_frames.specs.FirstBreach.{Course, Turn, is_judged, phase_before}
use Rattle.xt_uses.specs.declared.discipline.Discipline.{Discipline}
use Rattle.xt_uses.specs.UseStep.{step_insn, forgets_registers, reply_mask, value_step}
use Rattle.xt_uses.specs.FirstUse.{History}
use Rattle.xt_simulation.specs.Fillings.{Filling, Numbers, filled_before, filled_past, filled_record, filled_state, filled_step, filled_registers, numbered_inside, results_left, step_with}
use Rattle.xt_simulation.specs.FillingLaws.{HaveNumbers, InnerHaveNumbers, RegistersHaveNumbers}

abbrev Whole : FrameState → Type 0
Whole f = HaveNumbers f.seen × InnerHaveNumbers f.nested

numbered_whole : (n : ℕ → ℕ) (i : ℕ) (xs : List (Option ℕ)) → HaveNumbers (filled_registers n i xs)
numbered_whole n i [] = tt
numbered_whole n i (None ∷ xs) = numbered_whole n (suc i) xs
numbered_whole n i (Some v ∷ xs) = numbered_whole n (suc i) xs

inner_whole : (n : ℕ → ℕ) (o : Option Nested) → InnerHaveNumbers (numbered_inside n o)
inner_whole n None = tt
inner_whole n (Some x) = numbered_whole n 0 x.seen

opening_whole : (stack_end : ℕ) → HaveNumbers (opening_seen stack_end)
unfolding opening_seen
opening_whole stack_end = tt

filled_whole : (n : ℕ → ℕ) (f : FrameState) → Whole (filled_state n f)
filled_whole n f = (numbered_whole n 0 f.seen, inner_whole n f.nested)

step_whole : (d : Discipline) (code : ℕ → ℕ) (nested : Bool) (rec : StepRecord) (bytes : ℕ → ℕ) (n : Numbers) (f : FrameState) → Whole (filled_step d code nested rec bytes n f).after
step_whole d code nested rec bytes n f =
    let r = filled_record d (reply_mask bytes rec.access) n rec in
    let u = value_step code (begins nested r.kind f) (value_in r.write) (inputs_of r) f in
    filled_whole n.register (cond (forgets_registers d (step_insn u.kind (fetch_at code (current f).control.pc))) (results_left f.frames u.after) u.after)

either : (b : Bool) (f g : FrameState) → Whole f → Whole g → Whole (cond b f g)
either true f g k l = k
either false f g k l = l

past_whole : (d : Discipline) (r : Course) (h : History) (n : Filling) (p core : ℕ) (o : Option Turn) (f : FrameState) → Whole f → Whole (filled_past d r h n p core o f)
past_whole d r h n p core None f k = k
past_whole d r h n p core (Some t) f k =
    either ((t.core == core) && is_judged (phase_before r core p) t.rec.kind) (step_with d r h n p core t.rec f).after f
    (step_whole d r.code (is_nested (phase_before r core p)) t.rec (h.mask p) (n p) f)
    k

pub have_numbers : RegistersHaveNumbers
have_numbers d r h n core zero o = subst (λ f. Whole f) (sym o.opens) (opening_whole o.stack_end, tt)
have_numbers d r h n core (suc p) o = past_whole d r h n p core (slice_get r.turns p) (filled_before d r h n core p) (have_numbers d r h n core p o)
