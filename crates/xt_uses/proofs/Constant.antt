-- The discipline never changes.
use Rattle.std.proofs.Common.{◌≡◌, ℕ, zero, suc, Bool, true, false, cond, List, [], ◌∷◌, Option, Some, None, refl, ap, ◌∙◌, ⊎_elim}
use Rattle.std.proofs.lemmas.Bool.{cond_both}
use Rattle.xt_isa.specs.declared.Insn.{Insn}
use Rattle.xt_isa.specs.declared.Insn.TheVariants as insn
use Rattle.xt_isa.specs.declared.system.System.TheVariants as system
use Rattle.xt_isa.specs.declared.system.UserName.TheVariants as UserName
use Rattle.xt_trace.specs.declared.record.RegWrite.{RegWrite}
use Rattle.xt_trace.specs.declared.record.StepRecord.{StepRecord}
use Rattle.xt_rows.specs.Kinds.{is_entry, is_return, moved_to}
use Rattle.xt_frames.specs.Frames.{Frame, FrameState}
use Rattle.xt_map.specs.Fetching.{fetch_at}
use Rattle.xt_frames.specs.FrameStep.{FrameTurn, with_inputs}
use Rattle.xt_frames.specs.Nesting.{begins, current}
use Rattle.xt_frames.specs.Breaches.{inputs_of}
use Rattle.xt_frames.specs.Judging.{value_in}
use Rattle.xt_frames.specs.FirstBreach.{Course}
use Rattle.xt_uses.specs.Disciplines.{Discipline}
use Rattle.xt_uses.specs.UseState.{ValidityBits, UseState}
use Rattle.xt_uses.specs.UseStep.{UseTurn, bits_after_call, step_insn, frames_moved, full_step, leave_results, masks_past, pointer_written, reply_mask, bits_after_return, special_written, use_step, use_turn, value_step, visible_written}
use Rattle.xt_uses.specs.FirstUse.{History, IsHistory}
use Rattle.xt_uses.proofs.LaterHistories.{judged_or_idle}
use Rattle.xt_uses.proofs.Returning.{left_holds}

abbrev Same : ValidityBits → ValidityBits → Type 0
Same m k = k.discipline ≡ m.discipline

returned_same : (kept : List (List ℕ)) (m : ValidityBits) → Same m (bits_after_return kept m)
returned_same [] m = refl
returned_same (k ∷ rest) m = refl

moved_same : (i : Insn) (n : ℕ) (m : ValidityBits) → Same m (frames_moved i n m)
moved_same i n m = cond_both (is_entry i) (bits_after_call n m) (cond (is_return i) (bits_after_return m.kept m) m) (Same m) (λ e. refl) (λ e. cond_both (is_return i) (bits_after_return m.kept m) m (Same m) (λ r. returned_same m.kept m) (λ r. refl))

special_same : (o : Option (ℕ × ℕ)) (mask : ℕ) (m : ValidityBits) → Same m (special_written o mask m)
special_same None mask m = refl
special_same (Some p) mask m = refl

pointer_same : (i : Insn) (mask : ℕ) (m : ValidityBits) → Same m (pointer_written i mask m)
unfolding pointer_written
pointer_same (insn.System (system.User UserName.Wur t n)) mask m = refl
pointer_same _ mask m = refl

visible_same : (nested : Bool) (w : Option RegWrite) (mask : ℕ) (m : ValidityBits) → Same m (visible_written nested w mask m)
visible_same nested None mask m = refl
visible_same true (Some w) mask m = refl
visible_same false (Some w) mask m = refl

past_same : (i : Insn) (mask : ℕ) (s : UseState) (f : FrameState) (u : FrameTurn) → Same s.masks (masks_past i mask s f u)
past_same i mask s f u =
    visible_same _ u.write mask _ ∙ (pointer_same i _ _ ∙ (special_same (moved_to i) _ _ ∙ moved_same i f.control.ps.callinc s.masks))

turn_same : (o : Option Insn) (reply : ℕ) (s : UseState) (f : FrameState) (u : FrameTurn) → Same s.masks (use_turn o reply s f u).after.masks
turn_same None reply s f u = refl
turn_same (Some i) reply s f u = past_same i (use_turn (Some i) reply s f u).mask s f u

full_same : (code : ℕ → ℕ) (nested : Bool) (rec : StepRecord) (bytes : ℕ → ℕ) (s : UseState) → Same s.masks (full_step code nested rec bytes s).after.masks
full_same code nested rec bytes s =
    let f = with_inputs (inputs_of rec) (current s.frame) in
    let u = value_step code false (value_in rec.write) (inputs_of rec) s.frame in
    cond_both (begins nested rec.kind s.frame) _ _ (λ (t : UseTurn). Same s.masks t.after.masks) (λ e. refl) (λ e. turn_same (step_insn u.kind (fetch_at code f.control.pc)) (reply_mask bytes rec.access) s f u)

results_same : (frames : List Frame) (u : UseState) → Same u.masks (leave_results frames u).masks
results_same [] u = refl
results_same (g ∷ rest) u = refl

pub step_same : (code : ℕ → ℕ) (nested : Bool) (rec : StepRecord) (bytes : ℕ → ℕ) (s : UseState) → (use_step code nested rec bytes s).after.masks.discipline ≡ s.masks.discipline
step_same code nested rec bytes s =
    let t = full_step code nested rec bytes s in
    let f = with_inputs (inputs_of rec) (current s.frame) in
    left_holds (λ u. Same t.after.masks u.masks) (step_insn t.turn.kind (fetch_at code f.control.pc)) s t.after refl (results_same s.frame.frames t.after) ∙ full_same code nested rec bytes s

-- along a history
pub discipline_is : (d : Discipline) (r : Course) (h : History) → IsHistory d r h → (p core : ℕ) → (h.state core p).masks.discipline ≡ d
discipline_is d r h is zero core = ap (λ (s : UseState). s.masks.discipline) (is.opens core)
discipline_is d r h is (suc p) core = ⊎_elim
    (λ j. ap (λ (s : UseState). s.masks.discipline) (is.steps p core j.0 j.1) ∙ (step_same r.code _ j.0 (h.mask p) (h.state core p) ∙ discipline_is d r h is p core))
    (λ idle. ap (λ (s : UseState). s.masks.discipline) (is.stays p core idle) ∙ discipline_is d r h is p core)
    (judged_or_idle r p core)
