-- ENTRY and RETW outside nested interrupts: the machine of uses follows the frame state.
use Rattle.std.specs.Prelude.{unwrap_or, is_some}
use Rattle.std.proofs.Common.{◌≡◌, ℕ, ◌-◌, ◌*◌, ◌^◌, ◌<◌, ◌≤◌, ◌≢◌, Bool, true, false, List, [], ◌∷◌, ◌++◌, Option, Some, None, sym, ap, ◌∙◌, refl, arith, ⊎_elim, subst, length, get_or, drop, take, replicate, cond}
use Rattle.std.proofs.Math.ListN.{set}
use Rattle.std.proofs.lemmas.Bool.{cond-false, cond-true}
use Rattle.std.proofs.lemmas.List.{get_or-take, get_or_append_left, get_or-set_same, length-set}
use Rattle.xt_isa.specs.declared.Insn.{Insn}
use Rattle.xt_isa.specs.declared.Insn.TheVariants as insn
use Rattle.xt_isa.specs.declared.control.Control.TheVariants as control
use Rattle.xt_isa.specs.declared.control.ReturnName.TheVariants as ReturnName
use Rattle.xt_isa.specs.declared.density.Density.TheVariants as density
use Rattle.xt_isa.specs.declared.density.BareName.TheVariants as BareName
use Rattle.xt_special.specs.Access.{is_eps}
use Rattle.xt_special.specs.declared.ps.Ps.{Ps}
use Rattle.xt_special.specs.Control.{Control}
use Rattle.xt_special.specs.Timers.{after_tick}
use Rattle.xt_trace.specs.declared.record.RegWrite.{RegWrite}
use Rattle.xt_trace.specs.declared.record.StepKind.TheVariants as step
use Rattle.xt_map.specs.Fetching.{Fetches}
use Rattle.xt_rows.specs.declared.outcome.Flow.TheVariants.{Falls}
use Rattle.xt_rows.specs.Kinds.{is_entry, is_return, moved_to}
use Rattle.xt_rows.specs.Settling.{after_flow, return_pc}
use Rattle.xt_rows.specs.Effects.{write_to}
use Rattle.xt_frames.specs.Frames.{Frame, FrameState, value_or_zero, seen_after_call, seen_after_return, seen_after_write}
use Rattle.xt_frames.specs.FrameStep.{FrameTurn, Inputs, with_inputs, return_in_frame, return_to_frame, entry_in_frame}
use Rattle.xt_frames.specs.Marks.{holds_marks, unset_by}
use Rattle.xt_frames.specs.Nesting.{unset_after}
use Rattle.xt_frames.specs.SaveAreas.{sp_of}
use Rattle.xt_frames.specs.Stacks.{AreFrames}
use Rattle.xt_frames.specs.declared.holes.Nested.{Nested}
use Rattle.xt_simulation.proofs.Evenly.{even_flow}
use Rattle.xt_simulation.specs.Relation.{Even}
use Rattle.xt_uses.specs.declared.discipline.Discipline.{Discipline}
use Rattle.xt_uses.specs.Words.{all_bits}
use Rattle.xt_uses.specs.declared.words.Word.{Word}
use Rattle.xt_uses.specs.Known.{result_mask}
use Rattle.xt_uses.specs.UseState.{ValidityBits, UseState, first_word}
use Rattle.xt_uses.specs.UseStep.{bits_after_call, cut_number, cut_seen, cut_state, step_insn, frames_moved, insn_turn, masks_past, pointer_written, bits_after_return, special_written, use_turn, visible_written}
use Rattle.xt_uses.specs.UseLaws.{pointer_mask}
use Rattle.xt_simulation.specs.Knowing.{ControlFit, Follows, FramesFit, Knows, SeenFit, is_partial, with_pointer}
use Rattle.xt_simulation.proofs.Following.{with_unset}
use Rattle.xt_simulation.proofs.Lists.{pointer_is, write_fits}
use Rattle.xt_simulation.proofs.Operands.{cut_all}
use Rattle.xt_simulation.proofs.Seen.{called_fits, kept_fits, known_same, returned_fits}
use Rattle.xt_simulation.proofs.Specials.{eps_range, flow_pointer, flow_special, flow_threadptr, left_fits, ticked_fits, mark_range}
use Rattle.xt_simulation.proofs.Specials as specials

-- ---- what ENTRY and RETW leave alone
entry_moves : (i : Insn) → is_entry i ≡ true → moved_to i ≡ None
unfolding is_entry moved_to
entry_moves (insn.Control (control.Entry s n)) e = refl
entry_moves _ e = absurd cc

entry_result : (by : Discipline) (i : Insn) (a b c : Word) (pointer r : ℕ) → is_entry i ≡ true → result_mask by i a b c pointer r ≡ all_bits
unfolding is_entry result_mask
entry_result by (insn.Control (control.Entry s n)) a b c pointer r e = refl
entry_result by _ a b c pointer r e = absurd cc

entry_pointer : (i : Insn) (mask bits : ℕ) → is_entry i ≡ true → pointer_mask i mask bits ≡ bits
unfolding is_entry pointer_mask
entry_pointer (insn.Control (control.Entry s n)) mask bits e = refl
entry_pointer _ mask bits e = absurd cc

return_moves : (i : Insn) → is_return i ≡ true → moved_to i ≡ None
unfolding is_return moved_to
return_moves (insn.Control (control.Return ReturnName.Retw)) e = refl
return_moves (insn.Density (density.Bare BareName.Retw)) e = refl
return_moves _ e = absurd cc

return_enters : (i : Insn) → is_return i ≡ true → is_entry i ≡ false
unfolding is_return is_entry
return_enters (insn.Control (control.Return ReturnName.Retw)) e = refl
return_enters (insn.Density (density.Bare BareName.Retw)) e = refl
return_enters _ e = absurd cc

return_pointer : (i : Insn) (mask bits : ℕ) → is_return i ≡ true → pointer_mask i mask bits ≡ bits
unfolding is_return pointer_mask
return_pointer (insn.Control (control.Return ReturnName.Retw)) mask bits e = refl
return_pointer (insn.Density (density.Bare BareName.Retw)) mask bits e = refl
return_pointer _ mask bits e = absurd cc

-- to the next instruction, or back in a loop
pub falls_fits : {by : Discipline} {special : List ℕ} {bits : ℕ} {c d : Control} → ControlFit by special bits c d → (len : ℕ) → ControlFit by special bits (after_flow Falls len c) (after_flow Falls len d)
falls_fits {c = c} {d = d} f len =
    let apart : (n : ℕ) → holds_marks n ≡ true → n ≢ 2 = λ n h e. ⊎_elim (λ r. let lo = r.0 in omega arith) (λ r. let lo = r.0 in omega arith) (mark_range n h) in
    let far : (n : ℕ) → is_eps n ≡ true → n ≢ 2 = λ n h e. let r = eps_range n h in let lo = r.0 in omega arith in
    specials.kept_fits f (after_flow Falls len c) (after_flow Falls len d)
    (λ n h. flow_special Falls len c n (apart n h))
    (λ n h. flow_special Falls len d n (apart n h))
    (flow_threadptr Falls len c)
    (flow_threadptr Falls len d)
    (subst (Even is_partial (after_flow Falls len c)) (sym (flow_pointer Falls len d c.threadptr)) (even_flow Falls len c (with_pointer c.threadptr d) f.even))
    (λ n h. specials.saved_as f n (after_flow Falls len c) (after_flow Falls len d) h (flow_special Falls len c n (far n h)) (flow_special Falls len d n (far n h)))

goes_fits : {by : Discipline} {special : List ℕ} {bits : ℕ} {c d : Control} → ControlFit by special bits c d → (pc pc2 : ℕ) → pc ≡ pc2 → ControlFit by special bits (record c { pc = pc }) (record d { pc = pc2 })
goes_fits f pc pc2 e = record {
  even = record { pc = e; ps = f.even.ps; threadptr = refl; waits = f.even.waits; special = f.even.special };
  pointer = f.pointer;
  spread = f.spread;
  words = f.words;
  fits = f.fits;
  saved = f.saved;
}

module _ {f : FrameState} {s : UseState} (k : Knows f s) (sn : s.frame.nested ≡ None) (inp : Inputs) (laid_control : ControlFit s.masks.discipline s.masks.special s.masks.threadptr (with_inputs inp f).control (with_inputs inp s.frame).control) where
  abbrev g : FrameState
  g = with_inputs inp f

  abbrev h : FrameState
  h = with_inputs inp s.frame

  -- ---- ENTRY
  module _ (i : Insn) (entry : is_entry i ≡ true) (number value len : ℕ) (one : number ≡ 1) (word : value < 2 ^ 32) (some : 0 < g.control.ps.callinc) (three : g.control.ps.callinc ≤ 3) where
    abbrev n : ℕ
    n = g.control.ps.callinc

    calls_same : n ≡ h.control.ps.callinc
    calls_same = ap (λ (p : Ps). p.callinc) laid_control.even.ps

    entry_masks : (mask : ℕ) (u : FrameTurn) → u.write ≡ write_to number value
        → masks_past i mask s h u ≡ record s.masks { seen = set (drop (4 * n) s.masks.seen ++ replicate (4 * n) 0) number mask; kept = take (4 * n) s.masks.seen ∷ s.masks.kept }
    entry_masks mask u w =
        let x = (first_word i s h).mask in
        let c : ValidityBits = bits_after_call h.control.ps.callinc s.masks in
        let a : frames_moved i h.control.ps.callinc s.masks ≡ c = cond-true (is_entry i) c (cond (is_return i) (bits_after_return s.masks.kept s.masks) s.masks) entry in
        ap (λ (o : Option Nested). visible_written (is_some o) u.write mask (pointer_written i x (special_written (moved_to i) x (frames_moved i h.control.ps.callinc s.masks)))) sn
        ∙ (ap (λ (o : Option RegWrite). visible_written false o mask (pointer_written i x (special_written (moved_to i) x (frames_moved i h.control.ps.callinc s.masks)))) w
        ∙ (ap (λ z. visible_written false (write_to number value) mask (pointer_written i x (special_written (moved_to i) x z))) a
        ∙ (ap (λ z. visible_written false (write_to number value) mask (pointer_written i x (special_written z x c))) (entry_moves i entry)
        ∙ (ap (visible_written false (write_to number value) mask) (pointer_is i x c)
        ∙ (ap (λ z. visible_written false (write_to number value) mask (record c { threadptr = z })) (entry_pointer i x s.masks.threadptr entry)
        ∙ ap (λ z. (let m : ValidityBits = record s.masks { seen = set (drop (4 * z) s.masks.seen ++ replicate (4 * z) 0) number mask; kept = take (4 * z) s.masks.seen ∷ s.masks.kept } in m)) (sym calls_same))))))

    abbrev seen_u : List (Option ℕ)
    seen_u = seen_after_write (write_to number value) (seen_after_call f.seen n)

    abbrev seen_v : List (Option ℕ)
    seen_v = cut_seen all_bits (write_to number value) (seen_after_write (write_to number value) (seen_after_call s.frame.seen n))

    abbrev masks_v : ValidityBits
    masks_v = record s.masks { seen = set (drop (4 * n) s.masks.seen ++ replicate (4 * n) 0) number all_bits; kept = take (4 * n) s.masks.seen ∷ s.masks.kept }

    seen_fit : SeenFit 16 masks_v.seen seen_u seen_v
    seen_fit = write_fits (called_fits k.seen n three) all_bits (write_to number value) (write_to number value) (refl, refl) (omega arith)

    -- its stack pointer is known
    sp_u : value_or_zero seen_u 1 ≡ value
    sp_u =
        let l = (called_fits k.seen n three).size in
        ap (λ r. value_or_zero (set (seen_after_call f.seen n) r (Some value)) 1) one ∙ known_same (seen_after_call f.seen n) 1 (Some value) (omega arith)

    sp_v : value_or_zero seen_v 1 ≡ value
    sp_v =
        let l = (called_fits k.seen n three).wide in
        let z = length-set (seen_after_call s.frame.seen n) 1 (Some value) in
        let at : get_or (set (seen_after_call s.frame.seen n) 1 (Some value)) 1 None ≡ Some value = get_or-set_same (seen_after_call s.frame.seen n) 1 (Some value) None (omega arith) in
        ap (λ r. value_or_zero (cut_seen all_bits (write_to r value) (set (seen_after_call s.frame.seen n) r (Some value))) 1) one
        ∙ (known_same (set (seen_after_call s.frame.seen n) 1 (Some value)) 1 (cut_number all_bits (get_or (set (seen_after_call s.frame.seen n) 1 (Some value)) 1 None)) (omega arith)
        ∙ (ap (λ (o : Option ℕ). unwrap_or (cut_number all_bits o) 0) at ∙ cut_all value word))

    frames_fit : FramesFit masks_v.kept (record { by = n; kept = take (4 * n) f.seen } ∷ f.frames) (record { by = n; kept = take (4 * n) s.frame.seen } ∷ s.frame.frames)
    frames_fit =
        let a : value_or_zero (take (4 * n) f.seen) 1 ≡ value_or_zero f.seen 1 = ap (λ (o : Option ℕ). unwrap_or o 0) (get_or-take (4 * n) f.seen 1 None (omega arith)) in
        let b : value_or_zero (take (4 * n) s.frame.seen) 1 ≡ value_or_zero s.frame.seen 1 = ap (λ (o : Option ℕ). unwrap_or o 0) (get_or-take (4 * n) s.frame.seen 1 None (omega arith)) in
        (refl, (a ∙ (k.sp ∙ sym b), (kept_fits k.seen n three, k.frames)))

    entry_knows : Knows
        (record g { seen = seen_u; frames = record { by = n; kept = take (4 * n) f.seen } ∷ f.frames; control = after_tick (after_flow Falls len g.control) })
        (record { frame = record h { seen = seen_v; frames = record { by = n; kept = take (4 * n) s.frame.seen } ∷ s.frame.frames; control = after_tick (after_flow Falls len h.control) }; masks = masks_v })
    entry_knows = record {
      seen = seen_fit;
      sp = sp_u ∙ sym sp_v;
      frames = frames_fit;
      control = left_fits (ticked_fits (falls_fits laid_control len));
      unset = k.unset;
      nested = k.nested;
    }

    -- the step, and that of the machine of uses
    abbrev turn_u : FrameTurn
    turn_u = record { kind = step.Insn; write = write_to number value; access = None; after = record g { seen = seen_u; frames = record { by = n; kept = take (4 * n) f.seen } ∷ f.frames; control = after_tick (after_flow Falls len g.control) } }

    abbrev turn_v : ℕ → FrameTurn
    turn_v m = record { kind = step.Insn; write = write_to number value; access = None; after = record h { seen = seen_after_write (write_to number value) (seen_after_call s.frame.seen m); frames = record { by = m; kept = take (4 * m) s.frame.seen } ∷ s.frame.frames; control = after_tick (after_flow Falls len h.control) } }

    pushed_u : entry_in_frame number value len g ≡ turn_u
    unfolding entry_in_frame
    pushed_u = refl

    pushed_v : entry_in_frame number value len h ≡ turn_v n
    unfolding entry_in_frame
    pushed_v = ap turn_v (sym calls_same)

    entry_insn : (r : ℕ) → Follows (insn_turn i r s h (turn_v n)) turn_u
    entry_insn r =
        let mask = (insn_turn i r s h (turn_v n)).mask in
        let full : mask ≡ all_bits = entry_result s.masks.discipline i _ _ _ s.masks.threadptr r entry in
        let m : masks_past i mask s h (turn_v n) ≡ record s.masks { seen = set (drop (4 * n) s.masks.seen ++ replicate (4 * n) 0) number mask; kept = take (4 * n) s.masks.seen ∷ s.masks.kept } = entry_masks mask (turn_v n) refl in
        record {
          kind = refl;
          write = (refl, refl);
          access = tt;
          sent = tt;
          knows =
              subst (λ (z : ValidityBits). Knows turn_u.after (record { frame = cut_state mask (write_to number value) (turn_v n).after.nested (turn_v n).after; masks = z })) (sym m)
              (subst (λ z. Knows turn_u.after (record { frame = cut_state z (write_to number value) (turn_v n).after.nested (turn_v n).after; masks = record s.masks { seen = set (drop (4 * n) s.masks.seen ++ replicate (4 * n) 0) number z; kept = take (4 * n) s.masks.seen ∷ s.masks.kept } })) (sym full)
              (subst (λ (o : Option Nested). Knows turn_u.after (record { frame = cut_state all_bits (write_to number value) o (turn_v n).after; masks = masks_v })) (sym sn) entry_knows));
        }

    entry_unset : (z : ℕ) (xs : List Bool) → unset_after step.Insn (Fetches i z) xs ≡ xs
    entry_unset z xs = ap (λ (o : Option (ℕ × ℕ)). unset_by o [] xs) (entry_moves i entry)

    pub pushes_follows : (z r : ℕ) (u v : FrameTurn) → u ≡ entry_in_frame number value len g → v ≡ entry_in_frame number value len h
        → Follows (use_turn (step_insn v.kind (Fetches i z)) r s h (with_unset (unset_after v.kind (Fetches i z) s.frame.unset) v)) (with_unset (unset_after u.kind (Fetches i z) f.unset) u)
    unfolding step_insn
    pushes_follows z r u v e d =
        subst (λ (w : FrameTurn). Follows (use_turn (step_insn v.kind (Fetches i z)) r s h (with_unset (unset_after v.kind (Fetches i z) s.frame.unset) v)) (with_unset (unset_after w.kind (Fetches i z) f.unset) w)) (sym (e ∙ pushed_u))
        (subst (λ (w : FrameTurn). Follows (use_turn (step_insn w.kind (Fetches i z)) r s h (with_unset (unset_after w.kind (Fetches i z) s.frame.unset) w)) (with_unset (unset_after step.Insn (Fetches i z) f.unset) turn_u)) (sym (d ∙ pushed_v))
        (subst (λ w. Follows (insn_turn i r s h (with_unset w (turn_v n))) (with_unset (unset_after step.Insn (Fetches i z) f.unset) turn_u)) (sym (entry_unset z s.frame.unset))
        (subst (λ w. Follows (insn_turn i r s h (turn_v n)) (with_unset w turn_u)) (sym (entry_unset z f.unset)) (entry_insn r))))

  -- ---- RETW
  module _ (i : Insn) (return_ : is_return i ≡ true) (a0 len : ℕ) where
    abbrev back_u : Frame → List Frame → FrameTurn
    back_u c rest = record { kind = step.Insn; write = None; access = None; after = record g { seen = seen_after_return c.kept f.seen c.by; frames = rest; control = after_tick (record g.control { pc = return_pc g.control.pc a0 }) } }

    abbrev back_v : Frame → List Frame → FrameTurn
    back_v c rest = record { kind = step.Insn; write = None; access = None; after = record h { seen = seen_after_return c.kept s.frame.seen c.by; frames = rest; control = after_tick (record h.control { pc = return_pc h.control.pc a0 }) } }

    back_masks : (mask : ℕ) (u : FrameTurn) (m : List ℕ) (ms : List (List ℕ)) → u.write ≡ None → s.masks.kept ≡ m ∷ ms
        → masks_past i mask s h u ≡ record s.masks { seen = m ++ take (16 - length m) s.masks.seen; kept = ms }
    back_masks mask u m ms w kept =
        let x = (first_word i s h).mask in
        let n = h.control.ps.callinc in
        let c : ValidityBits = record s.masks { seen = m ++ take (16 - length m) s.masks.seen; kept = ms } in
        let a : frames_moved i n s.masks ≡ c =
        cond-false (is_entry i) (bits_after_call n s.masks) (cond (is_return i) (bits_after_return s.masks.kept s.masks) s.masks) (return_enters i return_)
        ∙ (cond-true (is_return i) (bits_after_return s.masks.kept s.masks) s.masks return_ ∙ ap (λ z. bits_after_return z s.masks) kept) in
        ap (λ (o : Option Nested). visible_written (is_some o) u.write mask (pointer_written i x (special_written (moved_to i) x (frames_moved i n s.masks)))) sn
        ∙ (ap (λ (o : Option RegWrite). visible_written false o mask (pointer_written i x (special_written (moved_to i) x (frames_moved i n s.masks)))) w
        ∙ (ap (λ z. visible_written false None mask (pointer_written i x (special_written (moved_to i) x z))) a
        ∙ (ap (λ z. visible_written false None mask (pointer_written i x (special_written z x c))) (return_moves i return_)
        ∙ (ap (visible_written false None mask) (pointer_is i x c)
        ∙ ap (λ z. (let q : ValidityBits = record c { threadptr = z } in q)) (return_pointer i x s.masks.threadptr return_)))))

    back_knows : (c d : Frame) (fs gs : List Frame) (m : List ℕ) (ms : List (List ℕ)) → 0 < c.by → c.by ≤ 3 → FramesFit (m ∷ ms) (c ∷ fs) (d ∷ gs)
        → Knows (back_u c fs).after (record { frame = (back_v d gs).after; masks = record s.masks { seen = m ++ take (16 - length m) s.masks.seen; kept = ms } })
    back_knows c d fs gs m ms some three fit =
        let by : c.by ≡ d.by = fit.0 in
        let sp : sp_of c ≡ sp_of d = fit.1.0 in
        let own : SeenFit (4 * c.by) m c.kept d.kept = fit.1.1.0 in
        let spread : length m ≡ 4 * c.by = own.spread in
        let a0_ = own.size in
        let b0_ = own.wide in
        let back : SeenFit 16 (m ++ take (16 - 4 * c.by) s.masks.seen) (seen_after_return c.kept f.seen c.by) (d.kept ++ take (16 - 4 * c.by) s.frame.seen) = returned_fits own k.seen three in
        let here : SeenFit 16 (m ++ take (16 - length m) s.masks.seen) (seen_after_return c.kept f.seen c.by) (seen_after_return d.kept s.frame.seen d.by) =
        subst (λ z. SeenFit 16 (m ++ take (16 - z) s.masks.seen) (seen_after_return c.kept f.seen c.by) (seen_after_return d.kept s.frame.seen d.by)) (sym spread)
        (subst (λ z. SeenFit 16 (m ++ take (16 - 4 * c.by) s.masks.seen) (seen_after_return c.kept f.seen c.by) (d.kept ++ take (16 - 4 * z) s.frame.seen)) by back) in
        let p : value_or_zero (seen_after_return c.kept f.seen c.by) 1 ≡ sp_of c = ap (λ (o : Option ℕ). unwrap_or o 0) (get_or_append_left c.kept (take (16 - 4 * c.by) f.seen) None 1 (omega arith)) in
        let q : value_or_zero (seen_after_return d.kept s.frame.seen d.by) 1 ≡ sp_of d = ap (λ (o : Option ℕ). unwrap_or o 0) (get_or_append_left d.kept (take (16 - 4 * d.by) s.frame.seen) None 1 (omega arith)) in
        record {
          seen = here;
          sp = p ∙ (sp ∙ sym q);
          frames = fit.1.1.1;
          control = left_fits (ticked_fits (goes_fits laid_control (return_pc g.control.pc a0) (return_pc h.control.pc a0) (ap (λ z. return_pc z a0) laid_control.even.pc)));
          unset = k.unset;
          nested = k.nested;
        }

    back_insn : (c d : Frame) (fs gs : List Frame) (m : List ℕ) (ms : List (List ℕ)) (r : ℕ) → s.masks.kept ≡ m ∷ ms → 0 < c.by → c.by ≤ 3 → FramesFit (m ∷ ms) (c ∷ fs) (d ∷ gs) → Follows (insn_turn i r s h (back_v d gs)) (back_u c fs)
    back_insn c d fs gs m ms r kept some three fit =
        let mask = (insn_turn i r s h (back_v d gs)).mask in
        let e = back_masks mask (back_v d gs) m ms refl kept in
        record {
          kind = refl;
          write = tt;
          access = tt;
          sent = tt;
          knows =
              subst (λ (z : ValidityBits). Knows (back_u c fs).after (record { frame = cut_state mask None (back_v d gs).after.nested (back_v d gs).after; masks = z })) (sym e)
              (subst (λ (o : Option Nested). Knows (back_u c fs).after (record { frame = cut_state mask None o (back_v d gs).after; masks = record s.masks { seen = m ++ take (16 - length m) s.masks.seen; kept = ms } })) (sym sn) (back_knows c d fs gs m ms some three fit));
        }

    return_unset : (xs : List Bool) → unset_after step.Insn (Fetches i len) xs ≡ xs
    return_unset xs = ap (λ (o : Option (ℕ × ℕ)). unset_by o [] xs) (return_moves i return_)

    by_frames : (ms : List (List ℕ)) (fs gs : List Frame) → s.masks.kept ≡ ms → f.frames ≡ fs → s.frame.frames ≡ gs → FramesFit ms fs gs → AreFrames fs → (fs ≡ [] → ⊥) → (r : ℕ) (u v : FrameTurn) → u ≡ return_to_frame fs a0 g → v ≡ return_to_frame gs a0 h
        → Follows (use_turn (step_insn v.kind (Fetches i len)) r s h (with_unset (unset_after v.kind (Fetches i len) s.frame.unset) v)) (with_unset (unset_after u.kind (Fetches i len) f.unset) u)
    unfolding step_insn
    by_frames (m ∷ ms) (c ∷ fs) (d ∷ gs) kept ef eg fit shaped some r u v e q =
        subst (λ (z : FrameTurn). Follows (use_turn (step_insn v.kind (Fetches i len)) r s h (with_unset (unset_after v.kind (Fetches i len) s.frame.unset) v)) (with_unset (unset_after z.kind (Fetches i len) f.unset) z)) (sym e)
        (subst (λ (z : FrameTurn). Follows (use_turn (step_insn z.kind (Fetches i len)) r s h (with_unset (unset_after z.kind (Fetches i len) s.frame.unset) z)) (with_unset (unset_after step.Insn (Fetches i len) f.unset) (back_u c fs))) (sym q)
        (subst (λ z. Follows (insn_turn i r s h (with_unset z (back_v d gs))) (with_unset (unset_after step.Insn (Fetches i len) f.unset) (back_u c fs))) (sym (return_unset s.frame.unset))
        (subst (λ z. Follows (insn_turn i r s h (back_v d gs)) (with_unset z (back_u c fs))) (sym (return_unset f.unset)) (back_insn c d fs gs m ms r kept shaped.0.moves shaped.0.within fit))))
    by_frames [] [] [] kept ef eg fit shaped some r u v e q = absurd (some refl)
    by_frames [] (c ∷ fs) gs kept ef eg fit shaped some r u v e q = absurd fit
    by_frames (m ∷ ms) [] gs kept ef eg fit shaped some r u v e q = absurd (some refl)
    by_frames (m ∷ ms) (c ∷ fs) [] kept ef eg fit shaped some r u v e q = absurd fit
    by_frames [] [] (d ∷ gs) kept ef eg fit shaped some r u v e q = absurd (some refl)

    pub pops_follows : AreFrames f.frames → (f.frames ≡ [] → ⊥) → (r : ℕ) (u v : FrameTurn) → u ≡ return_in_frame a0 g → v ≡ return_in_frame a0 h
        → Follows (use_turn (step_insn v.kind (Fetches i len)) r s h (with_unset (unset_after v.kind (Fetches i len) s.frame.unset) v)) (with_unset (unset_after u.kind (Fetches i len) f.unset) u)
    unfolding return_in_frame
    pops_follows shaped some r u v e q = by_frames s.masks.kept f.frames s.frame.frames refl refl refl k.frames shaped some r u v e q
