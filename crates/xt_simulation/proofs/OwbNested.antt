-- The machine of uses over two records that differ in OWB alone: a step in a nested interrupt.
use Rattle.std.proofs.Common.{◌≡◌, ℕ, ◌%◌, ◌<◌, Bool, true, false, List, Option, Some, None, sym, ap, ◌∙◌, refl, subst, cond}
use Rattle.std.proofs.lemmas.List.{set-set}
use Rattle.xt_isa.specs.declared.Insn.{Insn}
use Rattle.xt_special.specs.declared.ps.Ps.{Ps}
use Rattle.xt_special.specs.Control.{Control}
use Rattle.xt_special.specs.Shape.{IsPs}
use Rattle.xt_trace.specs.declared.record.RegWrite.{RegWrite}
use Rattle.xt_trace.specs.declared.record.StepKind.{StepKind}
use Rattle.xt_trace.specs.declared.record.StepKind.TheVariants as step
use Rattle.xt_trace.specs.declared.record.StepRecord.{StepRecord}
use Rattle.xt_map.specs.Fetching.{Fetched, Fetches, Fails, SpellsNothing, fetch_at}
use Rattle.xt_rows.specs.Operands.{reads}
use Rattle.xt_frames.specs.declared.holes.Nested.{Nested}
use Rattle.xt_frames.specs.Frames.{FrameState}
use Rattle.xt_frames.specs.FrameStep.{FrameTurn, with_inputs, step_with_inputs}
use Rattle.xt_frames.specs.Marks.{mark_read, marked_seen, marked_write, marks_after, unset_written}
use Rattle.xt_frames.specs.Nesting.{ends_nested, nested_view, with_kept_frame, nested_after, nested_fetched, nested_other}
use Rattle.xt_frames.specs.Breaches.{inputs_of}
use Rattle.xt_frames.specs.Judging.{value_in}
use Rattle.xt_frames.proofs.Inside.{kind_inside}
use Rattle.xt_uses.specs.declared.discipline.Discipline.TheVariants.{Strict}
use Rattle.xt_uses.specs.UseState.{UseState}
use Rattle.xt_uses.specs.UseStep.{cut_seen, cut_state, cut_write, step_insn, full_step, insn_turn, other_turn, reply_mask, use_turn}
use Rattle.xt_simulation.proofs.NestedJudged.{use_inside}
use Rattle.xt_simulation.proofs.OwbControl.{ControlNear}
use Rattle.xt_simulation.proofs.OwbSteps.{Alike, SeenNear, Shown, StepsNear, laid_near, told}
use Rattle.xt_simulation.proofs.OwbUses.{At, FramesNear, UsesNear, mask_of, mask_same, masks_near, seen_cut, shown_mask, visible_same, write_cut}
use Rattle.xt_simulation.proofs.OwbPlain.{executed_mask, mask_for, placed_near}

marked_near : (m : ℕ) (o : Option Insn) (a b : Option RegWrite) (xs ys : List (Option ℕ)) (mark : Option ℕ) (value : ℕ) → SeenNear m o a b xs ys → SeenNear m o (marked_write mark value a) (marked_write mark value b) (marked_seen mark a xs) (marked_seen mark b ys)
marked_near m o a b xs ys None value n = n
marked_near m o a b xs ys (Some j) value (Alike e f) = Alike (ap (marked_write (Some j) value) e) (ap (λ z. marked_seen (Some j) z xs) e ∙ ap (marked_seen (Some j) b) f)
marked_near m o a b xs ys (Some j) value (Shown i n v w old is e f g h l) =
    Alike (ap (marked_write (Some j) value) e ∙ sym (ap (marked_write (Some j) value) f))
    (ap (λ z. marked_seen (Some j) z xs) e
    ∙ (ap (marked_seen (Some j) (At n v)) g
    ∙ (set-set old n (Some v) None
    ∙ (sym (set-set old n (Some w) None)
    ∙ (sym (ap (marked_seen (Some j) (At n w)) h) ∙ sym (ap (λ z. marked_seen (Some j) z ys) f))))))

marks_near : (m : ℕ) (o : Option Insn) (a b : Option RegWrite) (xs ys : List (Option ℕ)) (mark : Option ℕ) (marks : List (Option ℕ)) → SeenNear m o a b xs ys → marks_after mark a marks ≡ marks_after mark b marks
marks_near m o a b xs ys mark marks (Alike e f) = ap (λ z. marks_after mark z marks) e
marks_near m o a b xs ys mark marks (Shown i n v w old is e f g h l) = ap (λ z. marks_after mark z marks) e ∙ sym (ap (λ z. marks_after mark z marks) f)

-- where the registers are kept, they are cut alike
kept_cut : (m : ℕ) (o : Option Insn) (a b : Option RegWrite) (xs ys zs : List (Option ℕ)) → SeenNear m o a b xs ys → cut_seen m a zs ≡ cut_seen m b zs
kept_cut m o a b xs ys zs (Alike e f) = ap (λ z. cut_seen m z zs) e
kept_cut m o a b xs ys zs (Shown i n v w old is e f g h l) = ap (λ z. cut_seen m z zs) e ∙ sym (ap (λ z. cut_seen m z zs) f)

placed_same : {c d : Control} (pc : ℕ) (p : Ps) → ControlNear c d → ControlNear (record c { pc = pc; ps = p }) (record d { pc = pc; ps = p })
placed_same pc p n = placed_near pc p.owb p n

executed_fails : (kind : StepKind) (a : ℕ) → step_insn kind (Fails a) ≡ None
unfolding step_insn
executed_fails step.Insn a = refl
executed_fails _ a = refl

executed_nothing : (kind : StepKind) → step_insn kind SpellsNothing ≡ None
unfolding step_insn
executed_nothing step.Insn = refl
executed_nothing _ = refl

module _ (k w : ℕ) (s : UseState) (h : FrameState) (y : Nested) (value : ℕ) where
  -- an instruction is executed
  insn_in : (i : Insn) (u v : FrameTurn) (xs ys : List (Option ℕ)) → u.kind ≡ v.kind → u.access ≡ v.access → SeenNear (mask_of i k s h) (Some i) u.write v.write xs ys
      → FramesNear (cut_state (mask_of i k s h) u.write u.after.nested u.after) (cut_state (mask_of i k s h) v.write v.after.nested v.after) → UsesNear (insn_turn i k s h u) (insn_turn i k s (told w h) v)
  insn_in i u v xs ys kind access n frame =
      let m : ℕ = mask_of i k s h in
      let same = mask_same i k w s h in
      record {
        kind = kind;
        write = write_cut m i u.write v.write xs ys n ∙ ap (λ z. cut_write z v.write) same;
        access = access;
        mask = same;
        stored = ap (λ z. z.mask) (visible_same s w h (reads i).1);
        masks = masks_near k w s h i u.write v.write xs ys n u v refl refl;
        frame = subst (λ z. FramesNear (cut_state m u.write u.after.nested u.after) (cut_state z v.write v.after.nested v.after)) same frame;
      }

  module _ (u v : FrameTurn) (m : ℕ) (at : Fetched) (n : StepsNear s.frame.nested m at u v) where
    pcs : u.after.control.pc ≡ v.after.control.pc
    pcs = (n.control.even 0).pc

    pss : u.after.control.ps ≡ record v.after.control.ps { owb = u.after.control.ps.owb }
    pss = (n.control.even u.after.control.ps.owb).ps

    control : ControlNear (record u.after.control { pc = s.frame.control.pc; ps = s.frame.control.ps }) (record v.after.control { pc = s.frame.control.pc; ps = s.frame.control.ps })
    control = placed_same s.frame.control.pc s.frame.control.ps n.control

    alike : SeenNear m None u.write v.write u.after.seen v.after.seen → (u.write ≡ v.write) × (u.after.seen ≡ v.after.seen)
    alike (Alike e f) = (e, f)
    alike (Shown i a b c old e f g l x z) = absurd cc

    -- nothing is fetched
    others : step_insn u.kind at ≡ None → UsesNear (other_turn s.masks (nested_other y s.frame u)) (other_turn s.masks (nested_other y s.frame v))
    others none =
        let p = alike (subst (λ o. SeenNear m o u.write v.write u.after.seen v.after.seen) none n.seen) in
        record {
          kind = n.kind;
          write = p.0;
          access = n.access;
          mask = refl;
          stored = refl;
          masks = refl;
          frame = record { seen = refl; frames = refl; unset = n.unset; control = control; nested = record { seen = p.1; pc = pcs; ps = pss; marks = refl; saved = refl } };
        }

    abbrev goes : Insn → FrameTurn → FrameTurn
    goes i z = record z {
      write = marked_write (mark_read i y.saved) value z.write;
      after = record (with_kept_frame s.frame z.after) { unset = unset_written i y.marks s.frame.unset; nested = Some (nested_after i (mark_read i y.saved) y z) };
    }

    abbrev ends : FrameTurn → FrameTurn
    ends z = record z { after = record (with_kept_frame s.frame z.after) { nested = None } }

    goes_none : (i : Insn) → step_insn u.kind at ≡ None → UsesNear (other_turn s.masks (goes i u)) (other_turn s.masks (goes i v))
    goes_none i none =
        let mark = mark_read i y.saved in
        let p = alike (subst (λ o. SeenNear m o u.write v.write u.after.seen v.after.seen) none n.seen) in
        record {
          kind = n.kind;
          write = ap (marked_write mark value) p.0;
          access = n.access;
          mask = refl;
          stored = refl;
          masks = refl;
          frame = record { seen = refl; frames = refl; unset = refl; control = control; nested = record { seen = ap (λ z. marked_seen mark z u.after.seen) p.0 ∙ ap (marked_seen mark v.write) p.1; pc = pcs; ps = pss; marks = ap (λ z. marks_after mark z y.marks) p.0; saved = refl } };
        }

    ends_none : step_insn u.kind at ≡ None → UsesNear (other_turn s.masks (ends u)) (other_turn s.masks (ends v))
    ends_none none =
        let p = alike (subst (λ o. SeenNear m o u.write v.write u.after.seen v.after.seen) none n.seen) in
        record { kind = n.kind; write = p.0; access = n.access; mask = refl; stored = refl; masks = refl; frame = record { seen = refl; frames = refl; unset = n.unset; control = control; nested = tt } }

    module _ (i : Insn) (is : step_insn u.kind at ≡ Some i) (mask : m ≡ mask_of i k s h) where
      seen : SeenNear (mask_of i k s h) (Some i) u.write v.write u.after.seen v.after.seen
      seen = subst (λ z. SeenNear z (Some i) u.write v.write u.after.seen v.after.seen) mask (subst (λ o. SeenNear m o u.write v.write u.after.seen v.after.seen) is n.seen)

      goes_some : (j : Insn) → UsesNear (insn_turn i k s h (goes j u)) (insn_turn i k s (told w h) (goes j v))
      goes_some j =
          let mark = mark_read j y.saved in
          let l : ℕ = mask_of i k s h in
          let x = marked_near l (Some i) u.write v.write u.after.seen v.after.seen mark value seen in
          insn_in i (goes j u) (goes j v) (marked_seen mark u.write u.after.seen) (marked_seen mark v.write v.after.seen) n.kind n.access x
          (record {
            seen = refl;
            frames = refl;
            unset = refl;
            control = control;
            nested = record {
              seen = seen_cut l i (marked_write mark value u.write) (marked_write mark value v.write) (marked_seen mark u.write u.after.seen) (marked_seen mark v.write v.after.seen) x;
              pc = pcs;
              ps = pss;
              marks = marks_near l (Some i) u.write v.write u.after.seen v.after.seen mark y.marks seen;
              saved = refl;
            };
          })

      ends_some : UsesNear (insn_turn i k s h (ends u)) (insn_turn i k s (told w h) (ends v))
      ends_some =
          insn_in i (ends u) (ends v) u.after.seen v.after.seen n.kind n.access seen
          (record { seen = kept_cut (mask_of i k s h) (Some i) u.write v.write u.after.seen v.after.seen s.frame.seen seen; frames = refl; unset = n.unset; control = control; nested = tt })

-- ---- the step as a whole
module _ (code : ℕ → ℕ) (rec : StepRecord) (w : ℕ) (kb : ℕ → ℕ) (s : UseState) (strict : s.masks.discipline ≡ Strict) (y : Nested) (sy : s.frame.nested ≡ Some y) where
  abbrev rec2 : StepRecord
  rec2 = record rec { owb = w }

  abbrev h : FrameState
  h = with_inputs (inputs_of rec) (nested_view y s.frame)

  abbrev k : ℕ
  k = reply_mask kb rec.access

  abbrev at : Fetched
  at = fetch_at code h.control.pc

  abbrev u : FrameTurn
  u = step_with_inputs code rec.reply h

  abbrev v : FrameTurn
  v = step_with_inputs code rec.reply (told (w % 16) h)

  abbrev value : ℕ
  value = value_in rec.write

  module _ (is : IsPs h.control.ps) (small : w % 16 < 16) where
    steps : StepsNear s.frame.nested (mask_for k s h at) at u v
    steps = laid_near (mask_for k s h at) code rec.reply (w % 16) h is small (λ i len e shows. ap (mask_for k s h) e ∙ shown_mask i k s h strict shows)

    turns_in : (o : Option Insn) → step_insn u.kind at ≡ o → (here : Fetched) → at ≡ here → UsesNear (use_turn o k s h (nested_fetched here value y s.frame u)) (use_turn o k s (told (w % 16) h) (nested_fetched here value y s.frame v))
    turns_in None q (Fails a) e = others k (w % 16) s h y value u v (mask_for k s h at) at steps q
    turns_in None q SpellsNothing e = others k (w % 16) s h y value u v (mask_for k s h at) at steps q
    turns_in (Some i) q (Fails a) e = let z = sym q ∙ (ap (step_insn u.kind) e ∙ executed_fails u.kind a) in absurd cc
    turns_in (Some i) q SpellsNothing e = let z = sym q ∙ (ap (step_insn u.kind) e ∙ executed_nothing u.kind) in absurd cc
    turns_in None q (Fetches j len) e = by (ends_nested j)
      where
        by : (b : Bool) → UsesNear (other_turn s.masks (cond b (ends k (w % 16) s h y value u v (mask_for k s h at) at steps u) (goes k (w % 16) s h y value u v (mask_for k s h at) at steps j u))) (other_turn s.masks (cond b (ends k (w % 16) s h y value u v (mask_for k s h at) at steps v) (goes k (w % 16) s h y value u v (mask_for k s h at) at steps j v)))
        by true = ends_none k (w % 16) s h y value u v (mask_for k s h at) at steps q
        by false = goes_none k (w % 16) s h y value u v (mask_for k s h at) at steps j q
    turns_in (Some i) q (Fetches j len) e = by (ends_nested j)
      where
        by : (b : Bool)
            → UsesNear (insn_turn i k s h (cond b (ends k (w % 16) s h y value u v (mask_for k s h at) at steps u) (goes k (w % 16) s h y value u v (mask_for k s h at) at steps j u)))
            (insn_turn i k s (told (w % 16) h) (cond b (ends k (w % 16) s h y value u v (mask_for k s h at) at steps v) (goes k (w % 16) s h y value u v (mask_for k s h at) at steps j v)))
        by true = ends_some k (w % 16) s h y value u v (mask_for k s h at) at steps i q (executed_mask k s h u.kind at i q)
        by false = goes_some k (w % 16) s h y value u v (mask_for k s h at) at steps i q (executed_mask k s h u.kind at i q) j

    pub inside_near : UsesNear (full_step code true rec kb s) (full_step code true rec2 kb s)
    inside_near =
        let n : UsesNear (use_turn (step_insn u.kind at) k s h (nested_fetched at value y s.frame u)) (use_turn (step_insn u.kind at) k s (told (w % 16) h) (nested_fetched at value y s.frame v)) = turns_in (step_insn u.kind at) refl at refl in
        let a : full_step code true rec kb s ≡ use_turn (step_insn u.kind at) k s h (nested_fetched at value y s.frame u) = use_inside code rec kb s y sy ∙ ap (λ z. use_turn (step_insn z at) k s h (nested_fetched at value y s.frame u)) (kind_inside at value y s.frame u) in
        let b : full_step code true rec2 kb s ≡ use_turn (step_insn u.kind at) k s (told (w % 16) h) (nested_fetched at value y s.frame v) =
        use_inside code rec2 kb s y sy ∙ ap (λ z. use_turn (step_insn z at) k s (told (w % 16) h) (nested_fetched at value y s.frame v)) (kind_inside at value y s.frame v ∙ sym steps.kind) in
        subst (λ z. UsesNear z (full_step code true rec2 kb s)) (sym a) (subst (UsesNear (use_turn (step_insn u.kind at) k s h (nested_fetched at value y s.frame u))) (sym b) n)
