-- A step outside nested interrupts: the machine of uses follows the frame state.
use Rattle.std.specs.Prelude.{unwrap_or, is_some}
use Rattle.std.proofs.Common.{◌≡◌, ℕ, ◌≢◌, Bool, true, false, List, [], Option, Some, None, sym, ap, ◌∙◌, refl, subst, cond}
use Rattle.std.proofs.lemmas.Bool.{cond-false, false≢true}
use Rattle.xt_isa.specs.declared.Insn.{Insn}
use Rattle.xt_map.specs.declared.access.Access.{Access}
use Rattle.xt_map.specs.Touching.{is_store}
use Rattle.xt_map.specs.declared.access.Kind.{Kind}
use Rattle.xt_map.specs.declared.access.Kind.TheVariants.{Load, Store, Cas}
use Rattle.xt_special.specs.Control.{Control}
use Rattle.xt_trace.specs.declared.record.RegWrite.{RegWrite}
use Rattle.xt_trace.specs.declared.record.StepKind.{StepKind}
use Rattle.xt_trace.specs.declared.record.StepKind.TheVariants as step
use Rattle.xt_trace.specs.declared.record.StepRecord.{StepRecord}
use Rattle.xt_map.specs.Fetching.{Fetched, Fetches}
use Rattle.xt_rows.specs.Kinds.{is_entry, is_return, moved_to}
use Rattle.xt_frames.specs.Frames.{FrameState, seen_after_write}
use Rattle.xt_frames.specs.FrameStep.{FrameTurn, Inputs, with_inputs}
use Rattle.xt_frames.specs.Marks.{unset_written}
use Rattle.xt_frames.specs.Nesting.{unset_after}
use Rattle.xt_frames.specs.Breaches.{touches_save_area}
use Rattle.xt_frames.specs.declared.holes.Nested.{Nested}
use Rattle.xt_frames.proofs.Shown.{KeepsSp, sp_written}
use Rattle.xt_uses.specs.Words.{all_bits}
use Rattle.xt_uses.specs.UseState.{ValidityBits, UseState, current_masks, first_word, second_word}
use Rattle.xt_uses.specs.UseBreaches.{swaps_unknown}
use Rattle.xt_uses.specs.UseStep.{UseTurn, bits_after_call, cut_seen, cut_state, cut_write, step_insn, frames_moved, insn_turn, masks_past, pointer_written, bits_after_return, special_written, use_turn, visible_written}
use Rattle.xt_uses.specs.UseLaws.{AccessFits, IsSent, KindFits, KindsAgree, WriteFits, WritesAgree, pointer_mask}
use Rattle.xt_simulation.specs.Knowing.{ControlLeft, Follows, Knows, NowFit, SeenFit, UnsetFit}
use Rattle.xt_simulation.proofs.Effects.{moved_masks}
use Rattle.xt_simulation.proofs.Lists.{IsVisible, laid_fits, moved_unset, pointer_is, rest_unset, special_is, visible_is, write_fits, write_other, written_list}
use Rattle.xt_simulation.proofs.Rows.{AskedAlike, KindIn, Ordinary, Quiet, StoredIn}

-- ---- what is written and asked
pub write_cut : (mask : ℕ) (v w : Option RegWrite) → WritesAgree mask v w → WriteFits mask v (cut_write mask w)
write_cut mask None None h = tt
write_cut mask (Some v) (Some w) h = h
write_cut mask None (Some w) h = absurd h
write_cut mask (Some v) None h = absurd h

kind_cut : (mask : ℕ) (k l : Kind) → KindsAgree mask k l → KindIn mask l → KindFits mask k l
kind_cut mask (Store v) (Store w) h s = h ∙ s
kind_cut mask Load l h s = h
kind_cut mask (Cas e n) l h s = h
kind_cut mask (Store v) Load h s = h
kind_cut mask (Store v) (Cas e n) h s = h

pub access_cut : (mask : ℕ) (a b : Option Access) → AskedAlike mask a b → StoredIn mask b → AccessFits mask a b
access_cut mask None None h s = tt
access_cut mask (Some a) (Some b) h s = (h.0, h.1, kind_cut mask a.kind b.kind h.2 s)
access_cut mask None (Some b) h s = absurd h
access_cut mask (Some a) None h s = absurd h

-- a1 is left as it is in both
agree_sp : (mask : ℕ) (v w : Option RegWrite) → WritesAgree mask v w → KeepsSp v → (z : RegWrite) → w ≡ Some z → 1 ≢ z.reg
agree_sp mask None None h keeps z is = absurd cc
agree_sp mask (Some v) (Some w) h keeps z is = λ e. keeps (h.0 ∙ (ap (λ (o : Option RegWrite). (unwrap_or o w).reg) is ∙ sym e))
agree_sp mask None (Some w) h keeps z is = absurd h
agree_sp mask (Some v) None h keeps z is = absurd h

abbrev pub with_unset : List Bool → FrameTurn → FrameTurn
with_unset unset u = record u { after = record u.after { unset = unset } }

module _ {f : FrameState} {s : UseState} (k : Knows f s) (fn : f.nested ≡ None) (sn : s.frame.nested ≡ None) (inp : Inputs) where
  abbrev g : FrameState
  g = with_inputs inp f

  abbrev h : FrameState
  h = with_inputs inp s.frame

  pub plain_masks : current_masks s ≡ s.masks.seen
  plain_masks = ap (λ (o : Option Nested). cond (is_some o) s.masks.inner s.masks.seen) sn

  pub now_plain : NowFit s g h
  now_plain = record {
    seen = subst (λ m. SeenFit 16 m f.seen s.frame.seen) (sym plain_masks) k.seen;
    frames = k.frames;
    control = laid_fits inp f s.frame k.control;
    unset = k.unset;
  }

  -- ---- an executed row that moves no window
  masks_is : (i : Insn) (mask : ℕ) (u : FrameTurn) → is_entry i ≡ false → is_return i ≡ false
      → masks_past i mask s h u ≡ record s.masks { seen = written_list u.write mask s.masks.seen; special = moved_masks (moved_to i) (first_word i s h).mask s.masks.special; threadptr = pointer_mask i (first_word i s h).mask s.masks.threadptr }
  masks_is i mask u no_entry no_return =
      let x = (first_word i s h).mask in
      let n = h.control.ps.callinc in
      let m = s.masks in
      let a : frames_moved i n m ≡ m = cond-false (is_entry i) (bits_after_call n m) (cond (is_return i) (bits_after_return m.kept m) m) no_entry ∙ cond-false (is_return i) (bits_after_return m.kept m) m no_return in
      ap (λ (o : Option Nested). visible_written (is_some o) u.write mask (pointer_written i x (special_written (moved_to i) x (frames_moved i n m)))) sn
      ∙ (ap (λ z. visible_written false u.write mask (pointer_written i x (special_written (moved_to i) x z))) a
      ∙ (ap (λ z. visible_written false u.write mask (pointer_written i x z)) (special_is (moved_to i) x m)
      ∙ (ap (visible_written false u.write mask) (pointer_is i x (record m { special = moved_masks (moved_to i) x m.special }))
      ∙ visible_is u.write mask (record m { special = moved_masks (moved_to i) x m.special; threadptr = pointer_mask i x m.threadptr }))))

  -- the states after it
  module _ (i : Insn) (mask : ℕ) (v w : Option RegWrite) (c d : Control) (us vs : List Bool) (agree : WritesAgree mask v w) (low : IsVisible v) (keeps : KeepsSp v)
      (special : List ℕ) (bits : ℕ) (control : ControlLeft s.masks.discipline special bits c d) (unset : UnsetFit special us vs) where
    past : Knows (record g { seen = seen_after_write v g.seen; control = c; unset = us })
        (record { frame = record h { seen = cut_seen mask w (seen_after_write w h.seen); control = d; unset = vs }; masks = record s.masks { seen = written_list w mask s.masks.seen; special = special; threadptr = bits } })
    past = record {
      seen = write_fits k.seen mask v w agree low;
      sp = sp_written f.seen v keeps ∙ (k.sp ∙ sym (write_other mask 1 w s.frame.seen (agree_sp mask v w agree keeps)));
      frames = k.frames;
      control = control;
      unset = unset;
      nested = k.nested;
    }

  ordinary_after : (i : Insn) (mask : ℕ) (u v : FrameTurn) (us vs : List Bool) → Ordinary i s g h mask u v → IsVisible u.write → KeepsSp u.write → UnsetFit (moved_masks (moved_to i) (first_word i s h).mask s.masks.special) us vs
      → Knows (record u.after { unset = us }) (record { frame = cut_state mask v.write v.after.nested (record v.after { unset = vs }); masks = masks_past i mask s h (with_unset vs v) })
  ordinary_after i mask u v us vs o low keeps unset =
      let m : ValidityBits = record s.masks { seen = written_list v.write mask s.masks.seen; special = moved_masks (moved_to i) (first_word i s h).mask s.masks.special; threadptr = pointer_mask i (first_word i s h).mask s.masks.threadptr } in
      let before : Knows (record g { seen = seen_after_write u.write g.seen; control = u.after.control; unset = us }) (record { frame = record h { seen = cut_seen mask v.write (seen_after_write v.write h.seen); control = v.after.control; unset = vs }; masks = m }) =
      past i mask u.write v.write u.after.control v.after.control us vs o.write low keeps m.special m.threadptr o.control unset in
      let at : FrameState = record h { seen = seen_after_write v.write h.seen; control = v.after.control } in
      let open_ : Knows (record g { seen = seen_after_write u.write g.seen; control = u.after.control; unset = us }) (record { frame = cut_state mask v.write at.nested (record at { unset = vs }); masks = m }) =
      subst (λ (q : Option Nested). Knows (record g { seen = seen_after_write u.write g.seen; control = u.after.control; unset = us }) (record { frame = cut_state mask v.write q (record at { unset = vs }); masks = m })) (sym sn) before in
      let first : Knows (record u.after { unset = us }) (record { frame = cut_state mask v.write at.nested (record at { unset = vs }); masks = m }) =
      subst (λ (z : FrameState). Knows (record z { unset = us }) (record { frame = cut_state mask v.write at.nested (record at { unset = vs }); masks = m })) (sym o.is) open_ in
      let second : Knows (record u.after { unset = us }) (record { frame = cut_state mask v.write v.after.nested (record v.after { unset = vs }); masks = m }) =
      subst (λ (z : FrameState). Knows (record u.after { unset = us }) (record { frame = cut_state mask v.write z.nested (record z { unset = vs }); masks = m })) (sym o.is_too) first in
      subst (λ (z : ValidityBits). Knows (record u.after { unset = us }) (record { frame = cut_state mask v.write v.after.nested (record v.after { unset = vs }); masks = z })) (sym (masks_is i mask (with_unset vs v) o.no_entry o.no_return)) second

  abbrev result : Insn → ℕ → ℕ
  result i r = (insn_turn i r s h (record { kind = step.Insn; write = None; access = None; after = h })).mask

  unset_now : (i : Insn) → UnsetFit (moved_masks (moved_to i) (first_word i s h).mask s.masks.special) (unset_written i [] f.unset) (unset_written i [] s.frame.unset)
  unset_now i = moved_unset k.unset (moved_to i) (first_word i s h).mask [] k.control.spread (λ p is has. absurd cc)

  insn_follows : (i : Insn) (r : ℕ) (u v : FrameTurn) → Ordinary i s g h (result i r) u v → IsVisible u.write → KeepsSp u.write
      → Follows (insn_turn i r s h (with_unset (unset_written i [] s.frame.unset) v)) (with_unset (unset_written i [] f.unset) u)
  insn_follows i r u v o low keeps = record {
    kind = o.kind ∙ sym o.kind_too;
    write = write_cut (result i r) u.write v.write o.write;
    access = access_cut (second_word i s h).mask u.access v.access o.access o.stored;
    sent = o.sent;
    knows = ordinary_after i (result i r) u v (unset_written i [] f.unset) (unset_written i [] s.frame.unset) o low keeps (unset_now i);
  }

  pub ordinary_follows : (i : Insn) (len r : ℕ) (u v : FrameTurn) → Ordinary i s g h (result i r) u v → IsVisible u.write → KeepsSp u.write
      → Follows (use_turn (step_insn v.kind (Fetches i len)) r s h (with_unset (unset_after v.kind (Fetches i len) s.frame.unset) v)) (with_unset (unset_after u.kind (Fetches i len) f.unset) u)
  unfolding step_insn
  ordinary_follows i len r u v o low keeps =
      let at : Fetched = Fetches i len in
      let a : step_insn v.kind at ≡ Some i = ap (λ (z : StepKind). step_insn z at) o.kind_too in
      let b : unset_after v.kind at s.frame.unset ≡ unset_written i [] s.frame.unset = ap (λ (z : StepKind). unset_after z at s.frame.unset) o.kind_too in
      let c : unset_after u.kind at f.unset ≡ unset_written i [] f.unset = ap (λ (z : StepKind). unset_after z at f.unset) o.kind in
      subst (λ (z : Option Insn). Follows (use_turn z r s h (with_unset (unset_after v.kind at s.frame.unset) v)) (with_unset (unset_after u.kind at f.unset) u)) (sym a)
      (subst (λ z. Follows (insn_turn i r s h (with_unset z v)) (with_unset (unset_after u.kind at f.unset) u)) (sym b)
      (subst (λ z. Follows (insn_turn i r s h (with_unset (unset_written i [] s.frame.unset) v)) (with_unset z u)) (sym c) (insn_follows i r u v o low keeps)))

  -- ---- no instruction is executed
  pub quiet_follows : (at : Fetched) (r : ℕ) (u v : FrameTurn) → Quiet s g h u v
      → Follows (use_turn (step_insn v.kind at) r s h (with_unset (unset_after v.kind at s.frame.unset) v)) (with_unset (unset_after u.kind at f.unset) u)
  quiet_follows at r u v q =
      let us = unset_after u.kind at f.unset in
      let vs = unset_after v.kind at s.frame.unset in
      let unset : UnsetFit s.masks.special us vs = subst (λ (z : StepKind). UnsetFit s.masks.special (unset_after z at f.unset) vs) (sym q.kind) (rest_unset k.unset v.kind at (q.idle at)) in
      let before : Knows (record g { control = u.after.control; unset = us }) (record { frame = record h { control = v.after.control; unset = vs }; masks = s.masks }) =
      record { seen = k.seen; sp = k.sp; frames = k.frames; control = q.control; unset = unset; nested = k.nested } in
      let first : Knows (record u.after { unset = us }) (record { frame = record h { control = v.after.control; unset = vs }; masks = s.masks }) =
      subst (λ (z : FrameState). Knows (record z { unset = us }) (record { frame = record h { control = v.after.control; unset = vs }; masks = s.masks })) (sym q.is) before in
      let second : Knows (record u.after { unset = us }) (record { frame = record v.after { unset = vs }; masks = s.masks }) =
      subst (λ (z : FrameState). Knows (record u.after { unset = us }) (record { frame = record z { unset = vs }; masks = s.masks })) (sym q.is_too) first in
      subst (λ (z : Option Insn). Follows (use_turn z r s h (with_unset vs v)) (with_unset us u)) (sym (q.idle at)) (record {
        kind = q.kind;
        write = none_written u.write v.write q.write q.write_too;
        access = none_asked u.access v.access q.access q.access_too;
        sent = subst (λ (p : Option Access). IsSent all_bits p) (sym q.access_too) tt;
        knows = second;
      })
    where
      none_written : (y z : Option RegWrite) → y ≡ None → z ≡ None → WriteFits all_bits y z
      none_written y z e n = subst (λ (p : Option RegWrite). WriteFits all_bits p z) (sym e) (subst (λ (p : Option RegWrite). WriteFits all_bits None p) (sym n) tt)

      none_asked : (y z : Option Access) → y ≡ None → z ≡ None → AccessFits all_bits y z
      none_asked y z e n = subst (λ (p : Option Access). AccessFits all_bits p z) (sym e) (subst (λ (p : Option Access). AccessFits all_bits None p) (sym n) tt)

-- ---- what is sent
store_same : (mask : ℕ) (k l : Kind) → KindFits mask k l → is_store k ≡ true → is_store l ≡ true
store_same mask (Store v) (Store w) h e = refl
store_same mask Load l h e = absurd (false≢true e)
store_same mask (Cas a n) l h e = absurd (false≢true e)
store_same mask (Store v) Load h e = absurd cc
store_same mask (Store v) (Cas a n) h e = absurd cc

pub sent_back : (stored : ℕ) (a b : Option Access) → AccessFits stored a b → IsSent stored b → IsSent stored a
sent_back stored None None h s = tt
sent_back stored (Some a) (Some b) h s = λ store at. s (store_same stored a.kind b.kind h.2 store) (sym h.0 ∙ at)
sent_back stored None (Some b) h s = absurd h
sent_back stored (Some a) None h s = absurd h

-- ---- what holds of the record of a judged step
-- where `live` are the live bytes before it, and `kb` the masks with which bytes are read
pub record RecordFits (live : ℕ → Bool) (kb : ℕ → ℕ) (rec : StepRecord) (t : UseTurn) : Type 0 where
  pub saves : touches_save_area live rec.access ≡ false
  pub swaps : swaps_unknown kb rec.access ≡ false
  pub kind : rec.kind ≡ t.turn.kind
  pub write : WriteFits t.mask rec.write t.turn.write
  pub access : AccessFits t.stored rec.access t.turn.access
  pub sent : IsSent t.stored rec.access

-- the step of the frame state records it, and the machine of uses follows that step
pub record_fits : {live : ℕ → Bool} {kb : ℕ → ℕ} {rec : StepRecord} {t : UseTurn} {u : FrameTurn} → touches_save_area live rec.access ≡ false → swaps_unknown kb rec.access ≡ false
    → rec.kind ≡ u.kind → rec.write ≡ u.write → rec.access ≡ u.access → Follows t u → RecordFits live kb rec t
record_fits {rec = rec} {t = t} saves swaps kind write access follows =
    let fits : AccessFits t.stored rec.access t.turn.access = subst (λ (a : Option Access). AccessFits t.stored a t.turn.access) (sym access) follows.access in
    record {
      saves = saves;
      swaps = swaps;
      kind = kind ∙ follows.kind;
      write = subst (λ (w : Option RegWrite). WriteFits t.mask w t.turn.write) (sym write) follows.write;
      access = fits;
      sent = sent_back t.stored rec.access t.turn.access fits follows.sent;
    }
