-- In a nested interrupt: a step that shows no breach of uses shows none of the stack discipline, where all that it reads has a number or a mark.
use Rattle.std.proofs.Common.{◌≡◌, ℕ, inl, inr, Bool, true, false, ◌||◌, ◌&&◌, not, eqb, leb, Option, Some, sym, ap, ◌∙◌, refl, subst}
use Rattle.std.proofs.lemmas.Bool.{and_left, both_ways, false_from_ne_true, false≢true, or_parts}
use Rattle.xt_isa.specs.declared.Insn.{Insn}
use Rattle.xt_isa.specs.declared.Insn.TheVariants as insn
use Rattle.xt_isa.specs.declared.control.Control.TheVariants as control
use Rattle.xt_isa.specs.declared.control.ReturnName.TheVariants as ReturnName
use Rattle.xt_isa.specs.declared.density.Density.TheVariants as density
use Rattle.xt_isa.specs.declared.density.BareName.TheVariants as BareName
use Rattle.xt_special.specs.declared.ps.Ps.{Ps}
use Rattle.xt_trace.specs.declared.record.StepRecord.{StepRecord}
use Rattle.xt_map.specs.Fetching.{Fetches}
use Rattle.xt_rows.specs.Kinds.{is_entry, is_movsp, is_return}
use Rattle.xt_rows.specs.Operands.{highest_register, reads}
use Rattle.xt_frames.specs.declared.holes.Nested.{Nested}
use Rattle.xt_frames.specs.Frames.{FrameState}
use Rattle.xt_frames.specs.FrameStep.{FrameTurn, fetched_step}
use Rattle.xt_frames.specs.Marks.{are_own_marks}
use Rattle.xt_frames.specs.Nesting.{disturbs_nested, ends_nested}
use Rattle.xt_frames.specs.SaveAreas.{Range}
use Rattle.xt_frames.specs.Breaches.{Bounds, breaks_nested, insn_tests, is_exception, leaves_range, loses_epc1, misaligns_sp, opens_nothing, other_frame_size, reads_none, vector_test}
use Rattle.xt_frames.proofs.Shown.{NoneShown}
use Rattle.xt_simulation.proofs.Judged.{Calls, excm_step}
use Rattle.xt_uses.specs.UseState.{UseState}
use Rattle.xt_simulation.specs.Knowing.{NowFit}
use Rattle.xt_simulation.proofs.FetchedUses.{movsp_form}
use Rattle.xt_simulation.proofs.Agreed.{alike_after, sp_tested}
use Rattle.xt_simulation.proofs.MovspStep.{movsp}
use Rattle.xt_simulation.proofs.MovspTurn.{keeps}
use Rattle.xt_simulation.proofs.Rows.{RowStep}
use Rattle.xt_simulation.proofs.Tests.{Denied, nowhere_loads, nowhere_saves}
use Rattle.xt_uses.specs.UseBreaches.{nowhere}

-- ---- ENTRY, RETW and MOVSP are breaches there
calls_form : (i : Insn) → is_entry i ≡ true → Calls i
unfolding is_entry
calls_form (insn.Control (control.Entry number size)) e = inr (number, size, refl)
calls_form _ e = absurd (false≢true e)

return_form : (i : Insn) → is_return i ≡ true → Calls i
unfolding is_return
return_form (insn.Control (control.Return ReturnName.Retw)) e = inl (inl refl)
return_form (insn.Density (density.Bare BareName.Retw)) e = inl (inr refl)
return_form _ e = absurd (false≢true e)

no_size : (r : Range) (i : Insn) (g : FrameState) → is_entry i ≡ false → other_frame_size r i g ≡ false
unfolding other_frame_size is_entry
no_size r (insn.Control (control.Entry number size)) g e = absurd (false≢true (sym e))
no_size r _ g e = refl

no_low : (r : Range) (i : Insn) (g : FrameState) → is_entry i ≡ false → leaves_range r i g ≡ false
unfolding leaves_range is_entry
no_low r (insn.Control (control.Entry number size)) g e = absurd (false≢true (sym e))
no_low r _ g e = refl

no_align : (i : Insn) (g : FrameState) → is_entry i ≡ false → misaligns_sp i g ≡ false
unfolding misaligns_sp is_entry
no_align (insn.Control (control.Entry number size)) g e = absurd (false≢true (sym e))
no_align _ g e = refl

no_opens : (i : Insn) (g : FrameState) → is_entry i ≡ false → opens_nothing i g ≡ false
unfolding opens_nothing is_entry
no_opens (insn.Control (control.Entry number size)) g e = absurd (false≢true (sym e))
no_opens _ g e = refl

module _ {b : Bounds} {fresh : Bool} {live : ℕ → Bool} {kb : ℕ → ℕ} {i : Insn} {rec : StepRecord} {s : UseState} {h : FrameState} (code : ℕ → ℕ) (len : ℕ) (y : Nested) (d : Denied b fresh live kb i rec s h (fetched_step (Fetches i len) code rec.reply h))
    (hy : h.nested ≡ Some y) (mode : h.control.ps.excm ≡ true) where
  abbrev v : FrameTurn
  v = fetched_step (Fetches i len) code rec.reply h

  breaks : breaks_nested (Some y) i v ≡ false
  breaks = subst (λ (o : Option Nested). breaks_nested o i v ≡ false) hy d.nested

  pub no_exception : is_exception v.kind ≡ false
  no_exception = (or_parts (is_exception v.kind) _ breaks).0

  no_calls : Calls i → ⊥
  no_calls c = both_ways (is_exception v.kind) no_exception (ap (λ (z : FrameTurn). is_exception z.kind) (excm_step code i len rec.reply h c mode))

  pub no_entry : is_entry i ≡ false
  no_entry = false_from_ne_true (is_entry i) (λ e. no_calls (calls_form i e))

  pub no_return : is_return i ≡ false
  no_return = false_from_ne_true (is_return i) (λ e. no_calls (return_form i e))

  pub no_movsp : is_movsp i ≡ false
  no_movsp = false_from_ne_true (is_movsp i)
      (λ e.
      let f = movsp_form i e in
      let d2 : Denied b fresh live kb (movsp f.0 f.1) rec s h v = subst (λ j. Denied b fresh live kb j rec s h v) f.2 d in
      both_ways h.control.ps.excm (keeps b.range f.0 f.1 rec.kind h d2.stack).low mode)

  -- so the tests of the frame state show nothing
  pub inner_tests : {g : FrameState} {u : FrameTurn} {mask : ℕ} (x : Nested) → g.nested ≡ Some x → x.marks ≡ y.marks → NowFit s g h → RowStep i s g h mask u v → u.kind ≡ v.kind → reads_none i g ≡ false → NoneShown (insn_tests b false nowhere nowhere i rec g u)
  inner_tests {g = g} {u = u} x gx marks now row kinds reads =
      let after = alike_after now row in
      let lost : loses_epc1 (Some y) fresh i ≡ false = subst (λ (o : Option Nested). loses_epc1 o fresh i ≡ false) hy d.lost in
      let nested : breaks_nested (Some x) i u ≡ false = ap (λ k. is_exception k || (disturbs_nested i || (ends_nested i && not (are_own_marks x.marks)))) kinds ∙ (ap (λ m. is_exception v.kind || (disturbs_nested i || (ends_nested i && not (are_own_marks m)))) marks ∙ breaks) in (
        reads,
        (
          sp_tested now.frames row rec.write d.written,
          (
            no_size b.range i g no_entry,
            (
              no_low b.range i g no_entry,
              (
                no_align i g no_entry,
                (
                  no_opens i g no_entry,
                  (
                    and_left _ _ no_return,
                    (
                      and_left _ _ no_return,
                      (
                        nowhere_saves rec.access,
                        (
                          nowhere_loads rec.access,
                          (
                            ap (λ (p : Ps). p.excm && leb 4 (highest_register i)) now.control.even.ps ∙ d.high,
                            (
                              d.windowing,
                              (
                                d.window_register,
                                (
                                  ap not after.0 ∙ d.woe,
                                  (
                                    ap (λ n. not (eqb n b.vecbase)) after.1 ∙ d.vectors,
                                    (
                                      ap (λ (o : Option Nested). loses_epc1 o false i) gx ∙ lost,
                                      (
                                        no_movsp,
                                        (
                                          ap (λ pc. (vector_test b (record g { control = record g.control { pc = pc } })).shown) now.control.even.pc ∙ d.vector,
                                          (ap (λ (o : Option Nested). breaks_nested o i u) gx ∙ nested, tt),
                                        ),
                                      ),
                                    ),
                                  ),
                                ),
                              ),
                            ),
                          ),
                        ),
                      ),
                    ),
                  ),
                ),
              ),
            ),
          ),
        ),
      )
