-- A judged MOVSP that shows no breach of uses: it moves a1 and the newest frame's own save area.
use Rattle.std.specs.Prelude.{unwrap_or, is_some}
use Rattle.std.proofs.Common.{◌≡◌, ℕ, ◌^◌, ◌<◌, true, false, Option, Some, None, sym, ap, ◌∙◌, refl, arith, subst, length, get_or}
use Rattle.std.proofs.Math.ListN.{set}
use Rattle.std.proofs.lemmas.List.{get_or-set_same, length-set}
use Rattle.xt_isa.specs.declared.Insn.{Insn}
use Rattle.xt_isa.specs.declared.Insn.TheVariants as insn
use Rattle.xt_isa.specs.declared.shift.Shift.TheVariants as shift
use Rattle.xt_trace.specs.declared.record.RegWrite.{RegWrite}
use Rattle.xt_rows.specs.declared.outcome.Effect.{Effect}
use Rattle.xt_rows.specs.Effects.{no_change, write_to}
use Rattle.xt_rows.specs.Kinds.{is_entry, is_return, moved_to}
use Rattle.xt_frames.specs.declared.holes.Nested.{Nested}
use Rattle.xt_frames.specs.Frames.{FrameState, value_or_zero, seen_after_write}
use Rattle.xt_frames.specs.FrameStep.{FrameTurn, Inputs, with_inputs}
use Rattle.xt_uses.specs.declared.discipline.Discipline.{Discipline}
use Rattle.xt_uses.specs.declared.words.Word.{Word}
use Rattle.xt_uses.specs.Words.{all_bits, is_whole, mask_where}
use Rattle.xt_uses.specs.Known.{result_mask, shift_mask}
use Rattle.xt_uses.specs.UseState.{ValidityBits, UseState, first_word}
use Rattle.xt_uses.specs.UseStep.{cut_number, cut_seen, cut_state, frames_moved, insn_turn, masks_past, pointer_written, special_written, stack_moved, visible_written}
use Rattle.xt_simulation.specs.Knowing.{ControlLeft, Follows, Knows, NowFit}
use Rattle.xt_simulation.proofs.Effects.{effect_fits}
use Rattle.xt_simulation.proofs.Following.{now_plain}
use Rattle.xt_simulation.proofs.Lists.{visible_is, write_fits, written_list}
use Rattle.xt_simulation.proofs.Operands.{cut_all}
use Rattle.xt_simulation.proofs.Seen.{known_same}
use Rattle.xt_simulation.proofs.Specials.{ticked_fits, told_ps}

abbrev pub movsp : ℕ → ℕ → Insn
movsp t q = insn.Shift (shift.Movsp t q)

move_masks : (t q : ℕ) (mask : ℕ) (m : ValidityBits) (v : Option RegWrite) (n x : ℕ) → visible_written false v mask (pointer_written (movsp t q) x (special_written (moved_to (movsp t q)) x (frames_moved (movsp t q) n m))) ≡ record m { seen = written_list v mask m.seen }
unfolding moved_to is_entry is_return pointer_written
move_masks t q mask m v n x = visible_is v mask m

move_result : (by : Discipline) (t q : ℕ) (a b c : Word) (pointer r : ℕ) → is_whole a ≡ true → result_mask by (movsp t q) a b c pointer r ≡ all_bits
unfolding result_mask shift_mask
move_result by t q a b c pointer r h = ap mask_where h

-- ---- both machines move the stack pointer to one value
module _ {f : FrameState} {s : UseState} (k : Knows f s) (fn : f.nested ≡ None) (sn : s.frame.nested ≡ None) (inp : Inputs) (q len x : ℕ)
    (same : value_or_zero s.frame.seen q ≡ x) (word : x < 2 ^ 32) (whole : is_whole (first_word (movsp 1 q) s (with_inputs inp s.frame)) ≡ true) (count : length f.control.special ≡ 256) where
  abbrev g : FrameState
  g = with_inputs inp f

  abbrev h : FrameState
  h = with_inputs inp s.frame

  now : NowFit s g h
  now = now_plain k fn sn inp

  abbrev effect_f : Effect
  effect_f = record (no_change g.control.ps g.control.threadptr) { write = write_to 1 x }

  abbrev effect_s : Effect
  effect_s = record (no_change h.control.ps h.control.threadptr) { write = write_to 1 x }

  pub move_control : ControlLeft s.masks.discipline s.masks.special s.masks.threadptr (stack_moved 1 x len g).after.control (stack_moved 1 x len h).after.control
  move_control =
      let size : length g.control.special ≡ 256 = length-set (set f.control.special 234 inp.ccount) 226 inp.interrupt ∙ (length-set f.control.special 234 inp.ccount ∙ count) in
      ticked_fits (effect_fits None now.control size 0 (record { value = 0; mask = 0 }) refl effect_f effect_s refl (λ n h. (tt, tt, tt)) (λ n h. (tt, tt, tt)) (λ p e m. absurd cc) (λ p e m. absurd cc) len s.masks.threadptr (omega arith) (told_ps now.control.even.ps) refl refl now.control.pointer)

  move_knows : Knows (stack_moved 1 x len g).after
      (record { frame = record (stack_moved 1 x len h).after { seen = cut_seen all_bits (write_to 1 x) (seen_after_write (write_to 1 x) s.frame.seen) }; masks = record s.masks { seen = written_list (write_to 1 x) all_bits s.masks.seen } })
  move_knows =
      let size = k.seen.size in
      let wide = k.seen.wide in
      let l = length-set s.frame.seen 1 (Some x) in
      let at : get_or (set s.frame.seen 1 (Some x)) 1 None ≡ Some x = get_or-set_same s.frame.seen 1 (Some x) None (omega arith) in
      let sp_s : value_or_zero (cut_seen all_bits (write_to 1 x) (set s.frame.seen 1 (Some x))) 1 ≡ x =
      known_same (set s.frame.seen 1 (Some x)) 1 (cut_number all_bits (get_or (set s.frame.seen 1 (Some x)) 1 None)) (omega arith) ∙ (ap (λ (o : Option ℕ). unwrap_or (cut_number all_bits o) 0) at ∙ cut_all x word) in
      record {
        seen = write_fits k.seen all_bits (write_to 1 x) (write_to 1 x) (refl, refl) (omega arith);
        sp = known_same f.seen 1 (Some x) (omega arith) ∙ sym sp_s;
        frames = k.frames;
        control = move_control;
        unset = k.unset;
        nested = k.nested;
      }

  pub move_follows : (r : ℕ) → Follows (insn_turn (movsp 1 q) r s h (stack_moved 1 (value_or_zero h.seen q) len h)) (stack_moved 1 x len g)
  move_follows r = subst (λ z. Follows (insn_turn (movsp 1 q) r s h (stack_moved 1 z len h)) (stack_moved 1 x len g)) (sym same) here
    where
      mask_is : (insn_turn (movsp 1 q) r s h (stack_moved 1 x len h)).mask ≡ all_bits
      mask_is = move_result s.masks.discipline 1 q (first_word (movsp 1 q) s h) _ _ s.masks.threadptr r whole

      masks_are : (mask : ℕ) → masks_past (movsp 1 q) mask s h (stack_moved 1 x len h) ≡ record s.masks { seen = written_list (write_to 1 x) mask s.masks.seen }
      masks_are mask =
          ap (λ (o : Option Nested). visible_written (is_some o) (write_to 1 x) mask (pointer_written (movsp 1 q) (first_word (movsp 1 q) s h).mask (special_written (moved_to (movsp 1 q)) (first_word (movsp 1 q) s h).mask (frames_moved (movsp 1 q) h.control.ps.callinc s.masks)))) sn
          ∙ move_masks 1 q mask s.masks (write_to 1 x) h.control.ps.callinc (first_word (movsp 1 q) s h).mask

      here : Follows (insn_turn (movsp 1 q) r s h (stack_moved 1 x len h)) (stack_moved 1 x len g)
      here =
          let mask = (insn_turn (movsp 1 q) r s h (stack_moved 1 x len h)).mask in
          let v : FrameTurn = stack_moved 1 x len h in
          record {
            kind = refl;
            write = (refl, refl);
            access = tt;
            sent = tt;
            knows =
                subst (λ (z : ValidityBits). Knows (stack_moved 1 x len g).after (record { frame = cut_state mask (write_to 1 x) v.after.nested v.after; masks = z })) (sym (masks_are mask))
                (subst (λ z. Knows (stack_moved 1 x len g).after (record { frame = cut_state z (write_to 1 x) v.after.nested v.after; masks = record s.masks { seen = written_list (write_to 1 x) z s.masks.seen } })) (sym mask_is)
                (subst (λ (o : Option Nested). Knows (stack_moved 1 x len g).after (record { frame = cut_state all_bits (write_to 1 x) o v.after; masks = record s.masks { seen = written_list (write_to 1 x) all_bits s.masks.seen } })) (sym sn) move_knows));
          }
