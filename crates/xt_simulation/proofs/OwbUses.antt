-- Two steps of the machine of uses that are equal but for OWB: who follows the one follows the other.
use Rattle.std.specs.Prelude.{is_some}
use Rattle.std.proofs.Common.{◌≡◌, ℕ, Bool, true, false, List, Option, Some, None, sym, ap, ◌∙◌, refl, arith, ⊎_elim, subst, get_or, length}
use Rattle.std.proofs.Math.ListN.{set}
use Rattle.std.proofs.lemmas.Bool.{cases_lt}
use Rattle.std.proofs.lemmas.List.{get_or-set_same, get_or_past, length-set, set-set}
use Rattle.xt_isa.specs.declared.Insn.{Insn}
use Rattle.xt_special.specs.declared.ps.Ps.{Ps}
use Rattle.xt_trace.specs.declared.record.RegWrite.{RegWrite}
use Rattle.xt_map.specs.Fetching.{Fetched}
use Rattle.xt_rows.specs.Kinds.{moved_to}
use Rattle.xt_rows.specs.Operands.{reads, special_reads}
use Rattle.xt_frames.specs.declared.holes.Nested.{Nested}
use Rattle.xt_frames.specs.Frames.{FrameState, value_or_zero}
use Rattle.xt_frames.specs.FrameStep.{FrameTurn}
use Rattle.xt_uses.specs.declared.discipline.Discipline.TheVariants.{Strict}
use Rattle.std.proofs.lemmas.Bool.{eqb-true, false≢true}
use Rattle.xt_isa.specs.declared.Insn.TheVariants as insn
use Rattle.xt_isa.specs.declared.system.System.TheVariants as system
use Rattle.xt_isa.specs.declared.system.LevelName.TheVariants as LevelName
use Rattle.xt_isa.specs.declared.system.SpecialName.TheVariants as SpecialName
use Rattle.xt_uses.specs.Used.{counted_bits}
use Rattle.xt_uses.specs.Known.{system_mask}
use Rattle.xt_uses.specs.UseState.{special_mask}
use Rattle.xt_simulation.proofs.OwbRows.{shows_owb, shows_owb_in}
use Rattle.xt_uses.specs.Known.{result_mask}
use Rattle.xt_uses.specs.UseState.{ValidityBits, UseState, first_word, second_word, special_operand, special_word, visible_word}
use Rattle.xt_uses.specs.UseStep.{UseTurn, cut_number, cut_seen, cut_state, cut_write, step_insn, frames_moved, insn_turn, masks_past, other_turn, pointer_written, special_written, use_turn, visible_written}
use Rattle.xt_uses.specs.UseLaws.{AccessFits, AgreeIn, IsSent, WriteFits}
use Rattle.xt_simulation.specs.Knowing.{ControlLeft, Follows, FramesFit, Knows, NestedFit, SeenFit, UnsetFit}
use Rattle.xt_simulation.proofs.OwbControl.{ControlNear, known_near}
use Rattle.xt_simulation.proofs.OwbSteps.{Alike, SeenNear, Shown, StepsNear, told}

-- ---- states
pub record InnerNear (x y : Nested) : Type 0 where
  pub seen : x.seen ≡ y.seen
  pub pc : x.pc ≡ y.pc
  pub ps : x.ps ≡ record y.ps { owb = x.ps.owb }
  pub marks : x.marks ≡ y.marks
  pub saved : x.saved ≡ y.saved

abbrev pub NestedNear : Option Nested → Option Nested → Type 0
NestedNear None None = Unit {0}
NestedNear (Some x) (Some y) = InnerNear x y
NestedNear _ _ = ⊥

pub record FramesNear (a b : FrameState) : Type 0 where
  pub seen : a.seen ≡ b.seen
  pub frames : a.frames ≡ b.frames
  pub unset : a.unset ≡ b.unset
  pub control : ControlNear a.control b.control
  pub nested : NestedNear a.nested b.nested

nested_known : (inner : List ℕ) (o p q : Option Nested) → NestedNear p q → NestedFit inner o p → NestedFit inner o q
nested_known inner None None None n k = tt
nested_known inner (Some x) (Some y) (Some z) n k = record {
  seen = subst (SeenFit 16 inner x.seen) n.seen k.seen;
  pc = k.pc ∙ n.pc;
  ps = k.ps ∙ ap (λ (p : Ps). record p { owb = x.ps.owb }) n.ps;
  marks = k.marks ∙ n.marks;
  spread = k.spread;
  saved = k.saved ∙ n.saved;
}
nested_known inner None (Some y) q n k = absurd k
nested_known inner (Some x) None q n k = absurd k
nested_known inner None None (Some z) n k = absurd n
nested_known inner (Some x) (Some y) None n k = absurd n

pub knows_near : {f a b : FrameState} (m : ValidityBits) → m.discipline ≡ Strict → FramesNear a b → Knows f (record { frame = a; masks = m }) → Knows f (record { frame = b; masks = m })
knows_near {f = f} {a = a} {b = b} m strict n k = record {
  seen = subst (SeenFit 16 m.seen f.seen) n.seen k.seen;
  sp = k.sp ∙ ap (λ s. value_or_zero s 1) n.seen;
  frames = subst (FramesFit m.kept f.frames) n.frames k.frames;
  control = subst (λ d. ControlLeft d m.special m.threadptr f.control a.control → ControlLeft d m.special m.threadptr f.control b.control) (sym strict) (λ h. known_near h n.control) k.control;
  unset = subst (UnsetFit m.special f.unset) n.unset k.unset;
  nested = nested_known m.inner f.nested a.nested b.nested n.nested k.nested;
}

-- ---- steps
pub record UsesNear (t s : UseTurn) : Type 0 where
  pub kind : t.turn.kind ≡ s.turn.kind
  pub write : t.turn.write ≡ s.turn.write
  pub access : t.turn.access ≡ s.turn.access
  pub mask : t.mask ≡ s.mask
  pub stored : t.stored ≡ s.stored
  pub masks : t.after.masks ≡ s.after.masks
  pub frame : FramesNear t.after.frame s.after.frame

pub follows_near : {t s : UseTurn} {u : FrameTurn} → t.after.masks.discipline ≡ Strict → UsesNear t s → Follows t u → Follows s u
follows_near {t = t} {s = s} {u = u} strict n f = record {
  kind = f.kind ∙ n.kind;
  write = subst (λ m. WriteFits m u.write s.turn.write) n.mask (subst (WriteFits t.mask u.write) n.write f.write);
  access = subst (λ m. AccessFits m u.access s.turn.access) n.stored (subst (AccessFits t.stored u.access) n.access f.access);
  sent = subst (λ m. IsSent m s.turn.access) n.stored (subst (IsSent t.stored) n.access f.sent);
  knows = subst (λ m. Knows u.after (record { frame = s.after.frame; masks = m })) n.masks (knows_near t.after.masks strict n.frame f.knows);
}

-- ---- the words that an instruction reads
pub visible_same : (s : UseState) (w : ℕ) (h : FrameState) (o : Option ℕ) → visible_word s h o ≡ visible_word s (told w h) o
visible_same s w h None = refl
visible_same s w h (Some n) = refl

special_same : (s : UseState) (w : ℕ) (h : FrameState) (o : Option ℕ) → special_word s h o ≡ special_word s (told w h) o
special_same s w h None = refl
special_same s w h (Some n) = refl

abbrev pub mask_of : Insn → ℕ → UseState → FrameState → ℕ
mask_of i k s h = result_mask s.masks.discipline i (first_word i s h) (second_word i s h) (special_operand i s h) s.masks.threadptr k

pub mask_same : (i : Insn) (k w : ℕ) (s : UseState) (h : FrameState) → mask_of i k s h ≡ mask_of i k s (told w h)
mask_same i k w s h =
    ap (λ x. result_mask s.masks.discipline i x (second_word i s h) (special_operand i s h) s.masks.threadptr k) (visible_same s w h (reads i).0)
    ∙ (ap (λ y. result_mask s.masks.discipline i (first_word i s (told w h)) y (special_operand i s h) s.masks.threadptr k) (visible_same s w h (reads i).1)
    ∙ ap (λ z. result_mask s.masks.discipline i (first_word i s (told w h)) (second_word i s (told w h)) z s.masks.threadptr k) (special_same s w h (special_reads i).0))

-- ---- what is cut
cut_got : (m n v w : ℕ) (old : List (Option ℕ)) → AgreeIn m v w → cut_number m (get_or (set old n (Some v)) n None) ≡ cut_number m (get_or (set old n (Some w)) n None)
cut_got m n v w old h = ⊎_elim
    (λ within. ap (cut_number m) (get_or-set_same old n (Some v) None within) ∙ (ap (λ k. Some k) h ∙ sym (ap (cut_number m) (get_or-set_same old n (Some w) None within))))
    (λ past. ap (cut_number m) (get_or_past (set old n (Some v)) n None (let l = length-set old n (Some v) in omega (arith, l, past)) ∙ sym (get_or_past (set old n (Some w)) n None (let l = length-set old n (Some w) in omega (arith, l, past)))))
    (cases_lt n (length old))

abbrev pub At : ℕ → ℕ → Option RegWrite
At n v = Some (record { reg = n; value = v })

pub seen_cut : (m : ℕ) (i : Insn) (a b : Option RegWrite) (xs ys : List (Option ℕ)) → SeenNear m (Some i) a b xs ys → cut_seen m a xs ≡ cut_seen m b ys
seen_cut m i a b xs ys (Alike e f) = ap (λ z. cut_seen m z xs) e ∙ ap (cut_seen m b) f
seen_cut m i a b xs ys (Shown j n v w old o e f g h k) =
    ap (λ z. cut_seen m z xs) e
    ∙ (ap (cut_seen m (At n v)) g
    ∙ (set-set old n (Some v) (cut_number m (get_or (set old n (Some v)) n None))
    ∙ (ap (set old n) (cut_got m n v w old k)
    ∙ (sym (set-set old n (Some w) (cut_number m (get_or (set old n (Some w)) n None)))
    ∙ (sym (ap (cut_seen m (At n w)) h) ∙ sym (ap (λ z. cut_seen m z ys) f))))))

pub write_cut : (m : ℕ) (i : Insn) (a b : Option RegWrite) (xs ys : List (Option ℕ)) → SeenNear m (Some i) a b xs ys → cut_write m a ≡ cut_write m b
write_cut m i a b xs ys (Alike e f) = ap (cut_write m) e
write_cut m i a b xs ys (Shown j n v w old o e f g h k) = ap (cut_write m) e ∙ (ap (λ z. At n z) k ∙ sym (ap (cut_write m) f))

pub masks_cut : (nested : Bool) (m k : ℕ) (i : Insn) (a b : Option RegWrite) (xs ys : List (Option ℕ)) (s : ValidityBits) → SeenNear m (Some i) a b xs ys → visible_written nested a k s ≡ visible_written nested b k s
masks_cut nested m k i a b xs ys s (Alike e f) = ap (λ z. visible_written nested z k s) e
masks_cut true m k i a b xs ys s (Shown j n v w old o e f g h l) = ap (λ z. visible_written true z k s) e ∙ sym (ap (λ z. visible_written true z k s) f)
masks_cut false m k i a b xs ys s (Shown j n v w old o e f g h l) = ap (λ z. visible_written false z k s) e ∙ sym (ap (λ z. visible_written false z k s) f)

-- ---- a step outside nested interrupts
both_none : (o p : Option Nested) → o ≡ None → p ≡ None → NestedNear o p
both_none None None e f = tt
both_none (Some x) p e f = absurd cc
both_none None (Some y) e f = absurd cc

cut_plain : (m : ℕ) (a : Option RegWrite) (f : FrameState) → f.nested ≡ None → cut_state m a f.nested f ≡ record f { seen = cut_seen m a f.seen }
cut_plain m a f none = ap (λ o. cut_state m a o f) none

module _ (k w : ℕ) (s : UseState) (h : FrameState) where
  pub masks_near : (i : Insn) (a b : Option RegWrite) (xs ys : List (Option ℕ)) → SeenNear (mask_of i k s h) (Some i) a b xs ys → (u v : FrameTurn) → u.write ≡ a → v.write ≡ b → masks_past i (mask_of i k s h) s h u ≡ masks_past i (mask_of i k s (told w h)) s (told w h) v
  masks_near i a b xs ys n u v ea eb =
      let rest : ℕ → ValidityBits = λ x. pointer_written i x (special_written (moved_to i) x (frames_moved i h.control.ps.callinc s.masks)) in
      let x : ℕ = (first_word i s h).mask in
      let y : ℕ = (first_word i s (told w h)).mask in
      let m : ℕ = mask_of i k s h in
      let l : ℕ = mask_of i k s (told w h) in
      ap (λ z. visible_written (is_some s.frame.nested) z m (rest x)) ea
      ∙ (masks_cut (is_some s.frame.nested) m m i a b xs ys (rest x) n
      ∙ (sym (ap (λ z. visible_written (is_some s.frame.nested) z m (rest x)) eb)
      ∙ (ap (λ z. visible_written (is_some s.frame.nested) v.write m (rest z.mask)) (visible_same s w h (reads i).0)
      ∙ ap (λ z. visible_written (is_some s.frame.nested) v.write z (rest y)) (mask_same i k w s h))))

  insn_near : (i : Insn) (u v : FrameTurn) (at : Fetched) → step_insn u.kind at ≡ Some i → StepsNear None (mask_of i k s h) at u v → UsesNear (insn_turn i k s h u) (insn_turn i k s (told w h) v)
  insn_near i u v at is n =
      let m : ℕ = mask_of i k s h in
      let seen : SeenNear m (Some i) u.write v.write u.after.seen v.after.seen = subst (λ o. SeenNear m o u.write v.write u.after.seen v.after.seen) is n.seen in
      let same = mask_same i k w s h in
      record {
        kind = n.kind;
        write = write_cut m i u.write v.write u.after.seen v.after.seen seen ∙ ap (λ z. cut_write z v.write) same;
        access = n.access;
        mask = same;
        stored = ap (λ z. z.mask) (visible_same s w h (reads i).1);
        masks = masks_near i u.write v.write u.after.seen v.after.seen seen u v refl refl;
        frame =
            subst (λ x. FramesNear x (cut_state (mask_of i k s (told w h)) v.write v.after.nested v.after)) (sym (cut_plain m u.write u.after n.first))
            (subst (λ x. FramesNear (record u.after { seen = cut_seen m u.write u.after.seen }) x) (sym (cut_plain (mask_of i k s (told w h)) v.write v.after n.nested))
            (record {
              seen = seen_cut m i u.write v.write u.after.seen v.after.seen seen ∙ ap (λ z. cut_seen z v.write v.after.seen) same;
              frames = n.frames;
              unset = n.unset;
              control = n.control;
              nested = both_none u.after.nested v.after.nested n.first n.nested;
            }));
      }

  other_near : (m : ℕ) (u v : FrameTurn) (at : Fetched) → step_insn u.kind at ≡ None → StepsNear None m at u v → UsesNear (other_turn s.masks u) (other_turn s.masks v)
  other_near m u v at is n = by (subst (λ o. SeenNear m o u.write v.write u.after.seen v.after.seen) is n.seen)
    where
      by : SeenNear m None u.write v.write u.after.seen v.after.seen → UsesNear (other_turn s.masks u) (other_turn s.masks v)
      by (Alike e f) = record {
        kind = n.kind;
        write = e;
        access = n.access;
        mask = refl;
        stored = refl;
        masks = refl;
        frame = record { seen = f; frames = n.frames; unset = n.unset; control = n.control; nested = both_none u.after.nested v.after.nested n.first n.nested };
      }
      by (Shown i a b c old e f g l x y) = absurd cc

  pub turns_near : (m : ℕ) (u v : FrameTurn) (at : Fetched) → ((i : Insn) → step_insn u.kind at ≡ Some i → m ≡ mask_of i k s h) → StepsNear None m at u v → UsesNear (use_turn (step_insn u.kind at) k s h u) (use_turn (step_insn v.kind at) k s (told w h) v)
  turns_near m u v at mask n = subst (λ z. UsesNear (use_turn (step_insn u.kind at) k s h u) (use_turn (step_insn z at) k s (told w h) v)) n.kind (by (step_insn u.kind at) refl)
    where
      by : (o : Option Insn) → step_insn u.kind at ≡ o → UsesNear (use_turn o k s h u) (use_turn o k s (told w h) v)
      by None e = other_near m u v at e n
      by (Some i) e = insn_near i u v at e (subst (λ z. StepsNear None z at u v) (mask i e) n)

-- ---- the rows that show OWB write it in bits that are not known
pub shown_mask : (i : Insn) (k : ℕ) (s : UseState) (h : FrameState) → s.masks.discipline ≡ Strict → shows_owb_in i ≡ true → mask_of i k s h ≡ counted_bits Strict 230
unfolding result_mask system_mask shows_owb_in shows_owb special_reads
shown_mask (insn.System (system.Special SpecialName.Rsr t n)) k s h strict e = ap (special_mask s.masks) (eqb-true n 230 e) ∙ ap (λ d. counted_bits d 230) strict
shown_mask (insn.System (system.Special SpecialName.Xsr t n)) k s h strict e = ap (special_mask s.masks) (eqb-true n 230 e) ∙ ap (λ d. counted_bits d 230) strict
shown_mask (insn.System (system.Level LevelName.Rsil t level)) k s h strict e = ap (λ d. counted_bits d 230) strict
shown_mask _ k s h strict e = absurd (false≢true e)
