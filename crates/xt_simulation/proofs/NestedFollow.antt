-- A step of a nested interrupt: the machine of uses follows the frame state, with its marks.
use Rattle.std.specs.Prelude.{unwrap_or, is_some}
use Rattle.std.proofs.Common.{◌≡◌, ℕ, ◌<◌, true, false, List, Option, Some, None, sym, ap, ◌∙◌, refl, arith, ⊎_elim, subst, length, get_or, cond}
use Rattle.std.proofs.Math.ListN.{set}
use Rattle.std.proofs.lemmas.Bool.{cases_eq, cond-false}
use Rattle.std.proofs.lemmas.List.{get_or-set_same, get_or-set_other, length-set}
use Rattle.xt_isa.specs.declared.Insn.{Insn}
use Rattle.xt_isa.specs.declared.Insn.TheVariants as insn
use Rattle.xt_isa.specs.declared.system.System.TheVariants as system
use Rattle.xt_isa.specs.declared.system.SpecialName.TheVariants as SpecialName
use Rattle.xt_map.specs.declared.access.Access.{Access}
use Rattle.xt_special.specs.declared.ps.Ps.{Ps}
use Rattle.xt_special.specs.Control.{Control}
use Rattle.xt_trace.specs.declared.record.RegWrite.{RegWrite}
use Rattle.xt_trace.specs.declared.record.StepKind.TheVariants as step
use Rattle.xt_rows.specs.Kinds.{is_entry, is_return, moved_to}
use Rattle.xt_rows.specs.Operands.{reads}
use Rattle.xt_frames.specs.declared.holes.Nested.{Nested}
use Rattle.xt_frames.specs.Frames.{FrameState, value_or_zero, seen_after_write}
use Rattle.xt_frames.specs.FrameStep.{FrameTurn, Inputs, with_inputs}
use Rattle.xt_frames.specs.Marks.{marked_seen, marked_write, marks_after, saved_by, unset_by, unset_written}
use Rattle.xt_frames.specs.Nesting.{nested_view, with_kept_frame, nested_after}
use Rattle.xt_uses.specs.declared.discipline.Discipline.{Discipline}
use Rattle.xt_uses.specs.Words.{all_bits, masked}
use Rattle.xt_uses.specs.UseState.{ValidityBits, UseState, current_masks, first_word, second_word, visible_word}
use Rattle.xt_uses.specs.UseStep.{bits_after_call, cut_number, cut_seen, cut_state, cut_write, frames_moved, insn_turn, masks_past, other_turn, pointer_written, bits_after_return, special_written, visible_written}
use Rattle.xt_uses.specs.UseLaws.{AccessFits, IsSent, WriteFits, WritesAgree, pointer_mask}
use Rattle.xt_simulation.specs.Knowing.{ControlFit, Follows, InnerFit, Knows, NowFit, SeenFit, UnsetFit}
use Rattle.xt_simulation.proofs.Effects.{moved_masks}
use Rattle.xt_simulation.proofs.Following.{access_cut, write_cut}
use Rattle.xt_simulation.proofs.Lists.{IsVisible, inner_is, laid_fits, moved_unset, pointer_is, special_is, write_fits, written_list}
use Rattle.xt_simulation.proofs.Rows.{Ordinary, Quiet}
use Rattle.xt_simulation.proofs.Seen.{cut_zero, known_other, known_same, set_fits}

-- ---- PC and PS of two control states that fit
pub placed_fits : {by : Discipline} {special : List ℕ} {bits : ℕ} {c d : Control} → ControlFit by special bits c d → (pc pc2 : ℕ) (ps ps2 : Ps) → pc ≡ pc2 → ps ≡ ps2 → ControlFit by special bits (record c { pc = pc; ps = ps }) (record d { pc = pc2; ps = ps2 })
placed_fits f pc pc2 ps ps2 e p = record {
  even = record { pc = e; ps = p; threadptr = refl; waits = f.even.waits; special = f.even.special };
  pointer = f.pointer;
  spread = f.spread;
  words = f.words;
  fits = f.fits;
  saved = f.saved;
}

-- ---- a write that may be of a mark
marked_cut : (mask value : ℕ) (o : Option ℕ) (v w : Option RegWrite) → WritesAgree mask v w → WriteFits mask (marked_write o value v) (cut_write mask (marked_write o value w))
marked_cut mask value None v w h = write_cut mask v w h
marked_cut mask value (Some k) None None h = tt
marked_cut mask value (Some k) (Some v) (Some w) h = (h.0, refl)
marked_cut mask value (Some k) None (Some w) h = absurd h
marked_cut mask value (Some k) (Some v) None h = absurd h

marked_list : (mask value : ℕ) (o : Option ℕ) (w : Option RegWrite) (xs : List ℕ) → written_list (marked_write o value w) mask xs ≡ written_list w mask xs
marked_list mask value None w xs = refl
marked_list mask value (Some k) None xs = refl
marked_list mask value (Some k) (Some w) xs = refl

marks_same : (mask : ℕ) (o : Option ℕ) (v w : Option RegWrite) (marks : List (Option ℕ)) → WritesAgree mask v w → marks_after o v marks ≡ marks_after o w marks
marks_same mask o None None marks h = refl
marks_same mask o (Some v) (Some w) marks h = ap (λ r. set marks r o) h.0
marks_same mask o None (Some w) marks h = absurd h
marks_same mask o (Some v) None marks h = absurd h

marks_wide : (o : Option ℕ) (w : Option RegWrite) (marks : List (Option ℕ)) → length (marks_after o w marks) ≡ length marks
marks_wide o None marks = refl
marks_wide o (Some w) marks = length-set marks w.reg o

-- a mark stands without a number, and nothing is known of it
mark_fits : {masks : List ℕ} {xs ys : List (Option ℕ)} → SeenFit 16 masks xs ys → (mask value : ℕ) (o : Option ℕ) (v w : Option RegWrite) → WritesAgree mask v w → IsVisible v → ((k : ℕ) → o ≡ Some k → mask ≡ 0)
    → SeenFit 16 (written_list w mask masks) (marked_seen o v (seen_after_write v xs)) (cut_seen mask (marked_write o value w) (marked_seen o w (seen_after_write w ys)))
mark_fits s mask value None v w h low gone = write_fits s mask v w h low
mark_fits s mask value (Some k) None None h low gone = s
mark_fits {masks = masks} {xs = xs} {ys = ys} s mask value (Some k) (Some v) (Some w) h low gone =
    let zero : mask ≡ 0 = gone k refl in
    let reg : v.reg ≡ w.reg = h.0 in
    let narrow : w.reg < 16 = subst (λ r. r < 16) reg low in
    let none : Option ℕ = None in
    let base : SeenFit 16 (set masks w.reg mask) (set xs w.reg (Some v.value)) (set ys w.reg (Some (masked mask w.value))) = set_fits s w.reg mask (Some v.value) (Some (masked mask w.value)) narrow h.1 (λ e. absurd cc) in
    let wide_x = length-set xs w.reg (Some v.value) in
    let wide_y = length-set ys w.reg (Some w.value) in
    let size = s.size in
    let wide = s.wide in
    let spread = s.spread in
    let m_at : get_or (set masks w.reg mask) w.reg 0 ≡ 0 = get_or-set_same masks w.reg mask 0 (omega arith) ∙ zero in
    let q : get_or (set (set ys w.reg (Some w.value)) w.reg none) w.reg None ≡ None = get_or-set_same (set ys w.reg (Some w.value)) w.reg none None (omega arith) in
    let list : List (Option ℕ) = set (set (set ys w.reg (Some w.value)) w.reg none) w.reg (cut_number mask (get_or (set (set ys w.reg (Some w.value)) w.reg none) w.reg None)) in
    let wide_z = length-set (set ys w.reg (Some w.value)) w.reg none in
    let at_list : value_or_zero list w.reg ≡ 0 = known_same (set (set ys w.reg (Some w.value)) w.reg none) w.reg (cut_number mask (get_or (set (set ys w.reg (Some w.value)) w.reg none) w.reg None)) (omega arith) ∙ ap (λ (o : Option ℕ). unwrap_or (cut_number mask o) 0) q in
    let here : SeenFit 16 (set masks w.reg mask) (set (set xs w.reg (Some v.value)) w.reg none) list = record {
      size = length-set (set xs w.reg (Some v.value)) w.reg none ∙ (wide_x ∙ size);
      wide = length-set (set (set ys w.reg (Some w.value)) w.reg none) w.reg (cut_number mask (get_or (set (set ys w.reg (Some w.value)) w.reg none) w.reg None)) ∙ (wide_z ∙ (wide_y ∙ wide));
      spread = base.spread;
      fits = λ i. ⊎_elim
          (λ is. subst (λ j. masked (get_or (set masks w.reg mask) j 0) (value_or_zero (set (set xs w.reg (Some v.value)) w.reg none) j) ≡ value_or_zero list j) (sym is)
          (ap (λ z. masked z (value_or_zero (set (set xs w.reg (Some v.value)) w.reg none) w.reg)) m_at ∙ (cut_zero _ ∙ sym at_list)))
          (λ other.
          let a = known_other (set xs w.reg (Some v.value)) w.reg i none other in
          let c : value_or_zero list i ≡ value_or_zero (set ys w.reg (Some (masked mask w.value))) i =
          known_other (set (set ys w.reg (Some w.value)) w.reg none) w.reg i (cut_number mask (get_or (set (set ys w.reg (Some w.value)) w.reg none) w.reg None)) other
          ∙ (known_other (set ys w.reg (Some w.value)) w.reg i none other ∙ (known_other ys w.reg i (Some w.value) other ∙ sym (known_other ys w.reg i (Some (masked mask w.value)) other))) in
          ap (masked (get_or (set masks w.reg mask) i 0)) a ∙ (base.fits i ∙ sym c))
          (cases_eq i w.reg);
      lacks = λ i e. ⊎_elim
          (λ is. subst (λ j. get_or (set masks w.reg mask) j 0 ≡ 0) (sym is) m_at)
          (λ other. base.lacks i (sym (get_or-set_other (set xs w.reg (Some v.value)) w.reg i none None other) ∙ e))
          (cases_eq i w.reg);
    } in
    subst (λ r. SeenFit 16 (set masks w.reg mask) (set (set xs r (Some v.value)) r none) list) (sym reg) here
mark_fits s mask value (Some k) None (Some w) h low gone = absurd h
mark_fits s mask value (Some k) (Some v) None h low gone = absurd h

-- ---- the states inside
module _ {f : FrameState} {s : UseState} (k : Knows f s) (x y : Nested) (fx : f.nested ≡ Some x) (sy : s.frame.nested ≡ Some y) (inner : InnerFit s.masks.inner x y) (inp : Inputs) where
  abbrev g : FrameState
  g = with_inputs inp (nested_view x f)

  abbrev h : FrameState
  h = with_inputs inp (nested_view y s.frame)

  inner_masks : current_masks s ≡ s.masks.inner
  inner_masks = ap (λ (o : Option Nested). cond (is_some o) s.masks.inner s.masks.seen) sy

  pub now_inside : NowFit s g h
  now_inside = record {
    seen = subst (λ m. SeenFit 16 m x.seen y.seen) (sym inner_masks) inner.seen;
    frames = k.frames;
    control = laid_fits inp (nested_view x f) (nested_view y s.frame) (placed_fits k.control x.pc y.pc x.ps (record y.ps { owb = x.ps.owb }) inner.pc inner.ps);
    unset = k.unset;
  }

  -- nothing is known of a mark
  module _ (bare : (i j : ℕ) → get_or x.marks i None ≡ Some j → get_or s.masks.inner i 0 ≡ 0) where
    reads_moved : (i : Insn) (p : ℕ × ℕ) → moved_to i ≡ Some p → (reads i).0 ≡ Some p.0
    unfolding moved_to reads
    reads_moved (insn.System (system.Special SpecialName.Wsr t n)) p e = ap (λ (o : Option (ℕ × ℕ)). Some (unwrap_or o (0, 0)).0) e
    reads_moved (insn.System (system.Special SpecialName.Xsr t n)) p e = ap (λ (o : Option (ℕ × ℕ)). Some (unwrap_or o (0, 0)).0) e
    reads_moved _ p e = absurd cc

    mark_mask : (o : Option ℕ) (t : ℕ) → o ≡ Some t → is_some (get_or x.marks t None) ≡ true → (visible_word s h o).mask ≡ 0
    mark_mask o t e has =
        let there : (j : ℕ) × (get_or x.marks t None ≡ Some j) = some_there (get_or x.marks t None) has in
        let z : get_or s.masks.inner t 0 ≡ 0 = bare t there.0 there.1 in
        ap (λ (o : Option ℕ). (visible_word s h o).mask) e ∙ (ap (λ (m : List ℕ). get_or m t 0) inner_masks ∙ z)
      where
        some_there : (o : Option ℕ) → is_some o ≡ true → (j : ℕ) × (o ≡ Some j)
        some_there None e = absurd cc
        some_there (Some j) e = (j, refl)

    moved_now : (i : Insn) → UnsetFit (moved_masks (moved_to i) (first_word i s h).mask s.masks.special) (unset_written i x.marks f.unset) (unset_written i y.marks s.frame.unset)
    moved_now i =
        subst (λ m. UnsetFit (moved_masks (moved_to i) (first_word i s h).mask s.masks.special) (unset_written i x.marks f.unset) (unset_written i m s.frame.unset)) inner.marks
        (moved_unset k.unset (moved_to i) (first_word i s h).mask x.marks k.control.spread (λ p is has. mark_mask (reads i).0 p.0 (reads_moved i p is) has))

    -- ---- an executed row
    inner_past : (i : Insn) (mask : ℕ) (u : FrameTurn) → is_entry i ≡ false → is_return i ≡ false
        → masks_past i mask s h u ≡ record s.masks { inner = written_list u.write mask s.masks.inner; special = moved_masks (moved_to i) (first_word i s h).mask s.masks.special; threadptr = pointer_mask i (first_word i s h).mask s.masks.threadptr }
    inner_past i mask u no_entry no_return =
        let z = (first_word i s h).mask in
        let n = h.control.ps.callinc in
        let m = s.masks in
        let a : frames_moved i n m ≡ m = cond-false (is_entry i) (bits_after_call n m) (cond (is_return i) (bits_after_return m.kept m) m) no_entry ∙ cond-false (is_return i) (bits_after_return m.kept m) m no_return in
        ap (λ (o : Option Nested). visible_written (is_some o) u.write mask (pointer_written i z (special_written (moved_to i) z (frames_moved i n m)))) sy
        ∙ (ap (λ w. visible_written true u.write mask (pointer_written i z (special_written (moved_to i) z w))) a
        ∙ (ap (λ w. visible_written true u.write mask (pointer_written i z w)) (special_is (moved_to i) z m)
        ∙ (ap (visible_written true u.write mask) (pointer_is i z (record m { special = moved_masks (moved_to i) z m.special }))
        ∙ inner_is u.write mask (record m { special = moved_masks (moved_to i) z m.special; threadptr = pointer_mask i z m.threadptr }))))

    abbrev goes_on : Insn → ℕ → Option ℕ → Nested → FrameState → FrameTurn → FrameTurn
    goes_on i value mark z q u = record u {
      write = marked_write mark value u.write;
      after = record (with_kept_frame q u.after) { unset = unset_written i z.marks q.unset; nested = Some (nested_after i mark z u) };
    }

    abbrev result : Insn → ℕ → ℕ
    result i r = (insn_turn i r s h (record { kind = step.Insn; write = None; access = None; after = h })).mask

    -- but RFI 5
    module _ (i : Insn) (r value : ℕ) (mark : Option ℕ) (gone : (j : ℕ) → mark ≡ Some j → result i r ≡ 0) (u v : FrameTurn) (o : Ordinary i s g h (result i r) u v) (low : IsVisible u.write) where
      abbrev m : ℕ
      m = result i r

      inner_after : InnerFit (written_list (marked_write mark value v.write) m s.masks.inner) (nested_after i mark x u) (record (nested_after i mark y v) { seen = cut_seen m (marked_write mark value v.write) (nested_after i mark y v).seen })
      inner_after = record {
        seen =
            subst (λ (z : FrameState). SeenFit 16 (written_list (marked_write mark value v.write) m s.masks.inner) (marked_seen mark u.write z.seen) (cut_seen m (marked_write mark value v.write) (marked_seen mark v.write v.after.seen))) (sym o.is)
            (subst (λ (z : FrameState). SeenFit 16 (written_list (marked_write mark value v.write) m s.masks.inner) (marked_seen mark u.write (seen_after_write u.write x.seen)) (cut_seen m (marked_write mark value v.write) (marked_seen mark v.write z.seen))) (sym o.is_too)
            (subst (λ (z : List ℕ). SeenFit 16 z (marked_seen mark u.write (seen_after_write u.write x.seen)) (cut_seen m (marked_write mark value v.write) (marked_seen mark v.write (seen_after_write v.write y.seen)))) (sym (marked_list m value mark v.write s.masks.inner))
            (mark_fits inner.seen m value mark u.write v.write o.write low gone)));
        pc = o.control.even.pc;
        ps = o.control.even.ps;
        marks = ap (marks_after mark u.write) inner.marks ∙ marks_same m mark u.write v.write y.marks o.write;
        spread = marks_wide mark u.write x.marks ∙ inner.spread;
        saved = ap (λ z. saved_by (moved_to i) z x.saved) inner.marks ∙ ap (saved_by (moved_to i) y.marks) inner.saved;
      }

      pub goes_follows : Follows (insn_turn i r s h (goes_on i value mark y s.frame v)) (goes_on i value mark x f u)
      goes_follows = record {
        kind = o.kind ∙ sym o.kind_too;
        write = marked_cut m value mark u.write v.write o.write;
        access = access_cut (second_word i s h).mask u.access v.access o.access o.stored;
        sent = o.sent;
        knows =
            subst (λ (z : ValidityBits). Knows (goes_on i value mark x f u).after (record { frame = cut_state m (marked_write mark value v.write) (goes_on i value mark y s.frame v).after.nested (goes_on i value mark y s.frame v).after; masks = z })) (sym (inner_past i m (goes_on i value mark y s.frame v) o.no_entry o.no_return)) (record {
              seen = k.seen;
              sp = k.sp;
              frames = k.frames;
              control = placed_fits o.control f.control.pc s.frame.control.pc f.control.ps (record s.frame.control.ps { owb = f.control.ps.owb }) k.control.even.pc k.control.even.ps;
              unset = moved_now i;
              nested = inner_after;
            });
      }

    -- ---- RFI 5
    abbrev ended : FrameState → FrameTurn → FrameTurn
    ended q u = record u { after = record (with_kept_frame q u.after) { nested = None } }

    module _ (i : Insn) (r : ℕ) (u v : FrameTurn) (o : Ordinary i s g h (result i r) u v) (still : moved_to i ≡ None) (silent : v.write ≡ None) where
      abbrev ending_mask : ℕ
      ending_mask = result i r

      ended_unset : UnsetFit (moved_masks (moved_to i) (first_word i s h).mask s.masks.special) u.after.unset v.after.unset
      ended_unset =
          let a : u.after.unset ≡ f.unset = ap (λ (z : FrameState). z.unset) o.is in
          let b : v.after.unset ≡ s.frame.unset = ap (λ (z : FrameState). z.unset) o.is_too in
          subst (λ (p : Option (ℕ × ℕ)). UnsetFit (moved_masks p (first_word i s h).mask s.masks.special) u.after.unset v.after.unset) (sym still)
          (subst (λ z. UnsetFit s.masks.special z v.after.unset) (sym a) (subst (λ z. UnsetFit s.masks.special f.unset z) (sym b) k.unset))

      pub ends_follows : Follows (insn_turn i r s h (ended s.frame v)) (ended f u)
      ends_follows = record {
        kind = o.kind ∙ sym o.kind_too;
        write = write_cut ending_mask u.write v.write o.write;
        access = access_cut (second_word i s h).mask u.access v.access o.access o.stored;
        sent = o.sent;
        knows =
            subst (λ (z : ValidityBits). Knows (ended f u).after (record { frame = cut_state ending_mask v.write None (ended s.frame v).after; masks = z })) (sym (inner_past i ending_mask (ended s.frame v) o.no_entry o.no_return))
            (subst (λ (w : Option RegWrite). Knows (ended f u).after (record { frame = cut_state ending_mask w None (ended s.frame v).after; masks = record s.masks { inner = written_list w ending_mask s.masks.inner; special = moved_masks (moved_to i) (first_word i s h).mask s.masks.special; threadptr = pointer_mask i (first_word i s h).mask s.masks.threadptr } })) (sym silent) (record {
              seen = k.seen;
              sp = k.sp;
              frames = k.frames;
              control = placed_fits o.control f.control.pc s.frame.control.pc f.control.ps (record s.frame.control.ps { owb = f.control.ps.owb }) k.control.even.pc k.control.even.ps;
              unset = ended_unset;
              nested = tt;
            }));
      }

    -- ---- BREAK
    module _ (i : Insn) (value : ℕ) (mark : Option ℕ) (u v : FrameTurn) (q : Quiet s g h u v) (still : moved_to i ≡ None) where
      stopped_unset : UnsetFit s.masks.special (unset_written i x.marks f.unset) (unset_written i y.marks s.frame.unset)
      stopped_unset =
          subst (λ (p : Option (ℕ × ℕ)). UnsetFit s.masks.special (unset_by p x.marks f.unset) (unset_by p y.marks s.frame.unset)) (sym still) k.unset

      stopped_inner : InnerFit s.masks.inner (nested_after i mark x u) (nested_after i mark y v)
      stopped_inner = record {
        seen =
            subst (λ (z : FrameState). SeenFit 16 s.masks.inner (marked_seen mark u.write z.seen) (marked_seen mark v.write v.after.seen)) (sym q.is)
            (subst (λ (z : FrameState). SeenFit 16 s.masks.inner (marked_seen mark u.write x.seen) (marked_seen mark v.write z.seen)) (sym q.is_too)
            (subst (λ (w : Option RegWrite). SeenFit 16 s.masks.inner (marked_seen mark w x.seen) (marked_seen mark v.write y.seen)) (sym q.write)
            (subst (λ (w : Option RegWrite). SeenFit 16 s.masks.inner (marked_seen mark None x.seen) (marked_seen mark w y.seen)) (sym q.write_too) (no_mark mark))));
        pc = q.control.even.pc;
        ps = q.control.even.ps;
        marks =
            ap (λ (w : Option RegWrite). marks_after mark w x.marks) q.write ∙ (inner.marks ∙ sym (ap (λ (w : Option RegWrite). marks_after mark w y.marks) q.write_too));
        spread = marks_wide mark u.write x.marks ∙ inner.spread;
        saved = ap (λ (p : Option (ℕ × ℕ)). saved_by p x.marks x.saved) still ∙ (inner.saved ∙ sym (ap (λ (p : Option (ℕ × ℕ)). saved_by p y.marks y.saved) still));
      }
        where
          no_mark : (p : Option ℕ) → SeenFit 16 s.masks.inner (marked_seen p None x.seen) (marked_seen p None y.seen)
          no_mark None = inner.seen
          no_mark (Some j) = inner.seen

      pub stops_follows : Follows (other_turn s.masks (goes_on i value mark y s.frame v)) (goes_on i value mark x f u)
      stops_follows = record {
        kind = q.kind;
        write = none_written mark u.write v.write q.write q.write_too;
        access = none_asked u.access v.access q.access q.access_too;
        sent = subst (λ (p : Option Access). IsSent all_bits p) (sym q.access_too) tt;
        knows = record {
          seen = k.seen;
          sp = k.sp;
          frames = k.frames;
          control = placed_fits q.control f.control.pc s.frame.control.pc f.control.ps (record s.frame.control.ps { owb = f.control.ps.owb }) k.control.even.pc k.control.even.ps;
          unset = stopped_unset;
          nested = stopped_inner;
        };
      }
        where
          none_written : (p : Option ℕ) (a b : Option RegWrite) → a ≡ None → b ≡ None → WriteFits all_bits (marked_write p value a) (marked_write p value b)
          none_written p a b e n = subst (λ (w : Option RegWrite). WriteFits all_bits (marked_write p value w) (marked_write p value b)) (sym e) (subst (λ (w : Option RegWrite). WriteFits all_bits (marked_write p value None) (marked_write p value w)) (sym n) (both p))
            where
              both : (p : Option ℕ) → WriteFits all_bits (marked_write p value None) (marked_write p value None)
              both None = tt
              both (Some j) = tt

          none_asked : (a b : Option Access) → a ≡ None → b ≡ None → AccessFits all_bits a b
          none_asked a b e n = subst (λ (p : Option Access). AccessFits all_bits p b) (sym e) (subst (λ (p : Option Access). AccessFits all_bits None p) (sym n) tt)
