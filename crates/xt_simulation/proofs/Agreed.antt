-- A row that both machines make alike shows the same to the tests.
use Rattle.std.proofs.Common.{◌≡◌, ℕ, ◌^◌, ◌<◌, true, false, ◌||◌, ◌&&◌, not, eqb, List, [], ◌∷◌, Option, Some, None, sym, ap, ◌∙◌, refl}
use Rattle.std.proofs.lemmas.Bool.{or_parts, not-false}
use Rattle.xt_isa.specs.declared.Insn.{Insn}
use Rattle.xt_isa.specs.declared.Insn.TheVariants as insn
use Rattle.xt_isa.specs.declared.control.Control.TheVariants as control
use Rattle.xt_isa.specs.declared.control.ReturnName.TheVariants as ReturnName
use Rattle.xt_isa.specs.declared.density.Density.TheVariants as density
use Rattle.xt_isa.specs.declared.density.BareName.TheVariants as BareName
use Rattle.xt_special.specs.Numbers as number
use Rattle.xt_special.specs.Control.{Control, special_of}
use Rattle.xt_special.specs.declared.ps.Ps.{Ps}
use Rattle.xt_special.specs.Timers.{after_tick}
use Rattle.xt_trace.specs.declared.record.RegWrite.{RegWrite}
use Rattle.xt_rows.specs.Kinds.{is_return}
use Rattle.xt_rows.specs.declared.outcome.Flow.TheVariants.{Falls}
use Rattle.xt_rows.specs.Settling.{after_flow}
use Rattle.xt_rows.specs.Effects.{illegal_instruction}
use Rattle.xt_rows.specs.Operands.{reads}
use Rattle.xt_rows.specs.Outcomes.{value_of}
use Rattle.xt_frames.specs.Frames.{Frame, FrameState, value_or_zero}
use Rattle.xt_frames.specs.FrameStep.{FrameTurn, return_in_frame, return_to_frame, entry_in_frame, exception_in_frame}
use Rattle.xt_frames.specs.Breaches.{is_sp, may_write_sp, writes_sp}
use Rattle.xt_uses.specs.declared.discipline.Discipline.{Discipline}
use Rattle.xt_uses.specs.Used.{control_used, density_used, used_are_known}
use Rattle.xt_uses.specs.UseBreaches.{uses_unknown, reads_no_number}
use Rattle.xt_uses.specs.UseLaws.{WritesAgree}
use Rattle.xt_uses.specs.UseState.{UseState, first_word, second_word}
use Rattle.xt_uses.proofs.Wholes.{whole_value}
use Rattle.xt_simulation.specs.Knowing.{ControlLeft, FramesFit, NowFit}
use Rattle.xt_simulation.proofs.Calling.{falls_fits}
use Rattle.xt_simulation.proofs.Operands.{word_fits}
use Rattle.xt_simulation.proofs.Rows.{Executes, Pops, Pushes, Rests, RowStep, raise_quiet}
use Rattle.xt_simulation.proofs.Specials.{left_fits, ticked_fits}

-- ---- what is used
pub record Uses (i : Insn) (s : UseState) (h : FrameState) : Type 0 where
  pub number : reads_no_number i h ≡ false
  pub used : used_are_known s.masks.discipline i (first_word i s h) (second_word i s h) ≡ true

pub uses_known : (i : Insn) (s : UseState) (h : FrameState) → uses_unknown i s h ≡ false → Uses i s h
uses_known i s h e =
    let a = or_parts _ (reads_no_number i h || not (used_are_known s.masks.discipline i (first_word i s h) (second_word i s h))) e in
    let b = or_parts (reads_no_number i h) (not (used_are_known s.masks.discipline i (first_word i s h) (second_word i s h))) a.1 in
    record { number = b.0; used = not-false _ b.1 }

-- RETW uses all of a0
pub return_whole : {s : UseState} {g h : FrameState} → NowFit s g h → (i : Insn) → used_are_known s.masks.discipline i (first_word i s h) (second_word i s h) ≡ true → value_of (value_or_zero g.seen) (reads i).0 < 2 ^ 32 → is_return i ≡ true → value_or_zero g.seen 0 ≡ value_or_zero h.seen 0
unfolding is_return reads used_are_known control_used density_used
return_whole {s = s} {g = g} {h = h} f (insn.Control (control.Return ReturnName.Retw)) used small is = sym (whole_value (value_or_zero g.seen 0) (first_word (insn.Control (control.Return ReturnName.Retw)) s h) (word_fits f (Some 0)) small used)
return_whole {s = s} {g = g} {h = h} f (insn.Density (density.Bare BareName.Retw)) used small is = sym (whole_value (value_or_zero g.seen 0) (first_word (insn.Density (density.Bare BareName.Retw)) s h) (word_fits f (Some 0)) small used)
return_whole f _ used small is = absurd cc

-- ---- a1
sp_alike : (i : Insn) (mask : ℕ) (v w o : Option RegWrite) → WritesAgree mask v w → writes_sp i o w ≡ false → writes_sp i o v ≡ false
sp_alike i mask v w o h e = ap (λ z. not (may_write_sp i) && (is_sp o || z)) (same v w h) ∙ e
  where
    same : (x y : Option RegWrite) → WritesAgree mask x y → is_sp x ≡ is_sp y
    same None None h = refl
    same (Some x) (Some y) h = ap (λ r. eqb r 1) h.0
    same None (Some y) h = absurd h
    same (Some x) None h = absurd h

pub sp_tested : {i : Insn} {s : UseState} {g h : FrameState} {mask : ℕ} {u v : FrameTurn} → FramesFit s.masks.kept g.frames h.frames → RowStep i s g h mask u v → (o : Option RegWrite) → writes_sp i o v.write ≡ false → writes_sp i o u.write ≡ false
unfolding entry_in_frame return_in_frame
sp_tested {i = i} {mask = mask} {u = u} {v = v} frames (Executes x) o e = sp_alike i mask u.write v.write o x.write e
sp_tested {i = i} {u = u} {v = v} frames (Rests x why) o e = ap (writes_sp i o) x.write ∙ (ap (writes_sp i o) (sym x.write_too) ∙ e)
sp_tested {i = i} {u = u} {v = v} frames (Pushes number value len low entry size_ is_ word_ eu ev) o e = ap (λ (z : FrameTurn). writes_sp i o z.write) eu ∙ (sym (ap (λ (z : FrameTurn). writes_sp i o z.write) ev) ∙ e)
sp_tested {i = i} {s = s} {g = g} {h = h} {u = u} {v = v} frames (Pops a0 low return_ eu ev) o e =
    ap (λ (z : FrameTurn). writes_sp i o z.write) eu ∙ (by_frames s.masks.kept g.frames h.frames frames ∙ (sym (ap (λ (z : FrameTurn). writes_sp i o z.write) ev) ∙ e))
  where
    by_frames : (ms : List (List ℕ)) (fs gs : List Frame) → FramesFit ms fs gs → writes_sp i o (return_to_frame fs a0 g).write ≡ writes_sp i o (return_to_frame gs a0 h).write
    by_frames [] [] [] k = refl
    by_frames (m ∷ ms) (c ∷ fs) (d ∷ gs) k = refl
    by_frames [] [] (d ∷ gs) k = absurd k
    by_frames [] (c ∷ fs) gs k = absurd k
    by_frames (m ∷ ms) [] gs k = absurd k
    by_frames (m ∷ ms) (c ∷ fs) [] k = absurd k

-- ---- PS.WOE and VECBASE
abbrev pub AlikeAfter : FrameTurn → FrameTurn → Type 0
AlikeAfter u v = (u.after.control.ps.woe ≡ v.after.control.ps.woe) × (special_of u.after.control number.vecbase ≡ special_of v.after.control number.vecbase)

fit_after : {by : Discipline} {special : List ℕ} {bits : ℕ} {c : Control} (d : Control) → ControlLeft by special bits c d → (c.ps.woe ≡ d.ps.woe) × (special_of c number.vecbase ≡ special_of d number.vecbase)
fit_after d f = (ap (λ (p : Ps). p.woe) f.even.ps, f.even.special.at 231 refl)

pub alike_after : {i : Insn} {s : UseState} {g h : FrameState} {mask : ℕ} {u v : FrameTurn} → NowFit s g h → RowStep i s g h mask u v → AlikeAfter u v
unfolding entry_in_frame return_in_frame
alike_after {v = v} f (Executes x) = fit_after v.after.control x.control
alike_after {v = v} f (Rests x why) = fit_after v.after.control x.control
alike_after {g = g} {h = h} {u = u} {v = v} f (Pushes number value len low entry size_ is_ word_ eu ev) =
    let k = fit_after (after_tick (after_flow Falls len h.control)) (left_fits (ticked_fits (falls_fits f.control len))) in (
      ap (λ (z : FrameTurn). z.after.control.ps.woe) eu ∙ (k.0 ∙ sym (ap (λ (z : FrameTurn). z.after.control.ps.woe) ev)),
      ap (λ (z : FrameTurn). special_of z.after.control 231) eu ∙ (k.1 ∙ sym (ap (λ (z : FrameTurn). special_of z.after.control 231) ev)),
    )
alike_after {s = s} {g = g} {h = h} {u = u} {v = v} f (Pops a0 low return_ eu ev) =
    let k = by_frames s.masks.kept g.frames h.frames f.frames in (
      ap (λ (z : FrameTurn). z.after.control.ps.woe) eu ∙ (k.0 ∙ sym (ap (λ (z : FrameTurn). z.after.control.ps.woe) ev)),
      ap (λ (z : FrameTurn). special_of z.after.control 231) eu ∙ (k.1 ∙ sym (ap (λ (z : FrameTurn). special_of z.after.control 231) ev)),
    )
  where
    by_frames : (ms : List (List ℕ)) (fs gs : List Frame) → FramesFit ms fs gs → AlikeAfter (return_to_frame fs a0 g) (return_to_frame gs a0 h)
    by_frames [] [] [] k = fit_after (exception_in_frame illegal_instruction None h).after.control (raise_quiet f illegal_instruction None).control
    by_frames (m ∷ ms) (c ∷ fs) (d ∷ gs) k = let q = fit_after (after_tick h.control) (left_fits (ticked_fits f.control)) in (q.0, q.1)
    by_frames [] [] (d ∷ gs) k = absurd k
    by_frames [] (c ∷ fs) gs k = absurd k
    by_frames (m ∷ ms) [] gs k = absurd k
    by_frames (m ∷ ms) (c ∷ fs) [] k = absurd k
