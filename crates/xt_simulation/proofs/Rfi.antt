-- RFI 5 reads EPC5, which is one in both machines, and EPS5, which agrees in the bits that count: its outcomes agree.
use Rattle.std.proofs.Common.{◌≡◌, ℕ, ◌+◌, ◌^◌, ◌<◌, true, false, length, Some, None, sym, ap, ◌∙◌, refl, arith, subst}
use Rattle.std.proofs.lemmas.Bool.{false≢true}
use Rattle.xt_isa.specs.declared.Insn.{Insn}
use Rattle.xt_isa.specs.declared.Insn.TheVariants as insn
use Rattle.xt_isa.specs.declared.system.System.TheVariants as system
use Rattle.xt_isa.specs.Ranges.{in_range}
use Rattle.xt_special.specs.Control.{Control, special_of}
use Rattle.xt_rows.specs.declared.outcome.Flow.TheVariants.{Goes}
use Rattle.xt_map.specs.Fetching.{Fetches}
use Rattle.xt_rows.specs.Kinds.{moved_to}
use Rattle.xt_rows.specs.Numbers.{natural}
use Rattle.xt_rows.specs.Operands.{reads, special_reads}
use Rattle.xt_rows.specs.Outcomes.{outcome, outcome_at, system_outcome, value_of}
use Rattle.xt_frames.specs.Frames.{FrameState, value_or_zero}
use Rattle.xt_frames.specs.FrameStep.{done_in_frame, fetched_step}
use Rattle.xt_frames.specs.Marks.{moves_marks}
use Rattle.xt_rows.specs.declared.outcome.Effect.{Effect}
use Rattle.xt_rows.specs.declared.outcome.Outcome.TheVariants.{Does}
use Rattle.xt_simulation.proofs.Rows.{Ordinary, does_ordinary}
use Rattle.xt_frames.specs.Nesting.{ends_nested}
use Rattle.xt_uses.specs.Words.{masked}
use Rattle.xt_uses.specs.UseState.{UseState}
use Rattle.xt_uses.specs.UseLaws.{EffectsAgree, OutcomesAgree, pointer_mask}
use Rattle.xt_uses.proofs.Owb.{words_of_ps}
use Rattle.xt_simulation.specs.Knowing.{NowFit}
use Rattle.xt_simulation.proofs.Operands.{low_mark, low_number, others_agree, row_masks, small_level}
use Rattle.xt_simulation.proofs.Specials.{whole_number}
use Rattle.xt_simulation.proofs.Seen.{cut_twice}

pub ends_moves : (i : Insn) → ends_nested i ≡ true → moved_to i ≡ None
unfolding ends_nested moved_to
ends_moves (insn.System (system.Rfi level)) e = refl
ends_moves _ e = absurd (false≢true e)

pub ends_silent : (code : ℕ → ℕ) (i : Insn) (len reply : ℕ) (g : FrameState) → ends_nested i ≡ true → (fetched_step (Fetches i len) code reply g).write ≡ None
unfolding ends_nested outcome system_outcome
ends_silent code (insn.System (system.Rfi level)) len reply g e = refl
ends_silent code _ len reply g e = absurd (false≢true e)

pub ends_agree : {s : UseState} {g h : FrameState} → NowFit s g h → (code : ℕ → ℕ) (i : Insn) → in_range i ≡ true → ends_nested i ≡ true → OutcomesAgree s.masks.discipline i (row_masks i s h) (outcome_at code i (value_or_zero g.seen) g.control) (outcome_at code i (value_or_zero h.seen) h.control)
unfolding ends_nested outcome system_outcome moved_to special_reads reads pointer_mask
ends_agree {s = s} {g = g} {h = h} f code (insn.System (system.Rfi level)) ok e =
    let small = small_level level ok in
    let u : special_of g.control (176 + natural level) ≡ special_of h.control (176 + natural level) = f.control.even.special.at (176 + natural level) (whole_number (176 + natural level) (low_mark (176 + natural level) (omega arith)) (low_number (176 + natural level) (omega arith))) in
    let v = others_agree f (Some (192 + natural level)) (low_mark (192 + natural level) (omega arith)) in
    record {
      write = tt;
      sets = refl;
      ps = words_of_ps s.masks.discipline (192 + natural level) (special_of g.control (192 + natural level)) (special_of h.control (192 + natural level)) v.1;
      threadptr = sym (cut_twice s.masks.threadptr g.control.threadptr) ∙ ap (masked s.masks.threadptr) f.control.pointer;
      flow = ap (λ n. Goes n) u;
      waits = refl;
    }
ends_agree f code _ ok e = absurd (false≢true e)

ends_reads : (i : Insn) (ar : ℕ → ℕ) → ends_nested i ≡ true → value_of ar (reads i).0 < 2 ^ 32
unfolding ends_nested reads
ends_reads (insn.System (system.Rfi level)) ar e = omega arith
ends_reads _ ar e = absurd (false≢true e)

ends_does : (code : ℕ → ℕ) (i : Insn) (ar : ℕ → ℕ) (c : Control) → ends_nested i ≡ true → (m : Effect) × (outcome_at code i ar c ≡ Does m)
unfolding ends_nested outcome system_outcome
ends_does code (insn.System (system.Rfi level)) ar c e = (_, refl)
ends_does code _ ar c e = absurd (false≢true e)

-- both machines execute it
pub ends_ordinary : {s : UseState} {g h : FrameState} → NowFit s g h → (code : ℕ → ℕ) (i : Insn) (len reply : ℕ) → length g.control.special ≡ 256 → in_range i ≡ true → ends_nested i ≡ true → Ordinary i s g h (row_masks i s h).result (fetched_step (Fetches i len) code reply g) (fetched_step (Fetches i len) code reply h)
ends_ordinary {s = s} {g = g} {h = h} f code i len reply count ok e =
    let m = ends_does code i (value_or_zero g.seen) g.control e in
    let k = ends_does code i (value_or_zero h.seen) h.control e in
    let agree : EffectsAgree s.masks.discipline i (row_masks i s h) m.0 k.0 = subst (λ y. OutcomesAgree s.masks.discipline i (row_masks i s h) (Does m.0) y) k.1 (subst (λ y. OutcomesAgree s.masks.discipline i (row_masks i s h) y (outcome_at code i (value_or_zero h.seen) h.control)) m.1 (ends_agree f code i ok e)) in
    let here = does_ordinary f code i count (ends_reads i (value_or_zero g.seen) e) len reply m.0 k.0 m.1 k.1 agree in
    subst (λ y. Ordinary i s g h (row_masks i s h).result (done_in_frame y len reply g) (fetched_step (Fetches i len) code reply h)) (sym m.1)
    (subst (λ y. Ordinary i s g h (row_masks i s h).result (done_in_frame (Does m.0) len reply g) (done_in_frame y len reply h)) (sym k.1) here)

pub ends_no_marks : (i : Insn) → ends_nested i ≡ true → moves_marks i ≡ false
unfolding ends_nested moves_marks
ends_no_marks (insn.System (system.Rfi level)) e = refl
ends_no_marks _ e = absurd (false≢true e)
