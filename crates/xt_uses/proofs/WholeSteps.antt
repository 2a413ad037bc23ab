-- A step of the machine of uses whose operands are known in each bit: it leaves what the step of the machine of frames leaves.
use Rattle.std.proofs.Common.{◌≡◌, ℕ, ◌^◌, ◌<◌, true, false, not, ◌||◌, List, Option, Some, None, get_or, refl, sym, ap, ◌∙◌, ⊎_elim, subst}
use Rattle.std.proofs.Math.ListN.{set}
use Rattle.std.specs.Prelude.{is_some}
use Rattle.std.proofs.lemmas.Bool.{and_right, cases_Bool, cond-false, cond-true, eq-eqb, not_from_true, or_parts, or_right}
use Rattle.std.proofs.lemmas.List.{set-get_or}
use Rattle.xt_isa.specs.declared.Insn.{Insn}
use Rattle.xt_special.specs.Control.{special_of}
use Rattle.xt_trace.specs.declared.record.RegWrite.{RegWrite}
use Rattle.xt_map.specs.Fetching.{Fetched}
use Rattle.xt_rows.specs.Operands.{reads, special_reads}
use Rattle.xt_frames.specs.declared.holes.Nested.{Nested}
use Rattle.xt_frames.specs.Frames.{FrameState, value_or_zero}
use Rattle.xt_frames.specs.FrameStep.{FrameTurn}
use Rattle.xt_frames.specs.Marks.{holds_marks}
use Rattle.xt_frames.specs.Breaches.{is_unset, lacks, reads_unset}
use Rattle.xt_uses.specs.Words.{Word, all_bits, mask_where, whole_word}
use Rattle.xt_uses.specs.Disciplines.{Lenient}
use Rattle.xt_uses.specs.Used.{counted_bits, used_are_known}
use Rattle.xt_uses.specs.Known.{result_mask}
use Rattle.xt_uses.specs.UseState.{ValidityBits, UseState, current_masks, first_word, second_word, special_mask, special_operand, special_word, visible_word}
use Rattle.xt_uses.specs.UseStep.{UseTurn, cut_number, cut_seen, cut_state, step_insn, insn_turn, masks_past, other_turn, receives_mark, writes_unknown}
use Rattle.xt_uses.specs.UseLaws.{number_mask}
use Rattle.xt_uses.proofs.WholeLists.{AreWords, InnerAreWords, mask_at, masks_of}
use Rattle.xt_uses.proofs.Owb.{lenient_counts}
use Rattle.xt_uses.proofs.WholeRows.{and_all, result_whole, used_whole}
use Rattle.xt_uses.proofs.WholeStates.{IsWholeState, SpecialIsWhole}

-- ---- operands
some_mask : (o : Option ℕ) → not (is_some o) ≡ false → number_mask o ≡ all_bits
some_mask (Some n) e = refl
some_mask None e = absurd cc

-- those of visible registers
pub record IsSeen (i : Insn) (s : UseState) (g : FrameState) : Type 0 where
  pub first : first_word i s g ≡ whole_word (first_word i s g).value
  pub second : second_word i s g ≡ whole_word (second_word i s g).value

pub record IsRead (i : Insn) (s : UseState) (g : FrameState) : Type 0 where
  pub first : first_word i s g ≡ whole_word (first_word i s g).value
  pub second : second_word i s g ≡ whole_word (second_word i s g).value
  pub special : special_operand i s g ≡ whole_word (special_operand i s g).value

module _ (s : UseState) (g : FrameState) where
  pub visible_whole : current_masks s ≡ masks_of g.seen → (o : Option ℕ) → lacks g.seen o ≡ false → visible_word s g o ≡ whole_word (visible_word s g o).value
  visible_whole same None e = refl
  visible_whole same (Some i) e = λ j. record {
    value = value_or_zero g.seen i;
    mask = (ap (λ ys. get_or ys i 0) same ∙ (mask_at g.seen i ∙ some_mask (get_or g.seen i None) e)) j;
  }

  pub special_whole : s.masks.discipline ≡ Lenient → SpecialIsWhole s.masks.special g.unset → (o : Option ℕ) → is_unset g.unset o ≡ false → special_word s g o ≡ whole_word (special_word s g o).value
  special_whole lenient rel None e = refl
  special_whole lenient rel (Some n) e = λ j. record { value = special_of g.control n; mask = all j }
    where
      all : special_mask s.masks n ≡ all_bits
      all = ⊎_elim
          (λ h. cond-true (holds_marks n) (get_or s.masks.special n 0) (counted_bits s.masks.discipline n) h ∙ (rel n h ∙ ap (λ b. mask_where (not b)) e))
          (λ h. cond-false (holds_marks n) (get_or s.masks.special n 0) (counted_bits s.masks.discipline n) h ∙ (ap (λ d. counted_bits d n) lenient ∙ lenient_counts n))
          (cases_Bool (holds_marks n))

  pub operands_seen : (i : Insn) → current_masks s ≡ masks_of g.seen → reads_unset i g ≡ false → IsSeen i s g
  operands_seen i same e =
      let a = or_parts (lacks g.seen (reads i).0) (lacks g.seen (reads i).1 || (is_unset g.unset (special_reads i).0 || is_unset g.unset (special_reads i).1)) e in
      let b = or_parts (lacks g.seen (reads i).1) (is_unset g.unset (special_reads i).0 || is_unset g.unset (special_reads i).1) a.1 in
      record { first = visible_whole same (reads i).0 a.0; second = visible_whole same (reads i).1 b.0 }

  pub operands_whole : s.masks.discipline ≡ Lenient → (i : Insn) → current_masks s ≡ masks_of g.seen → SpecialIsWhole s.masks.special g.unset → reads_unset i g ≡ false → IsRead i s g
  operands_whole lenient i same rel e =
      let a = or_parts (lacks g.seen (reads i).0) (lacks g.seen (reads i).1 || (is_unset g.unset (special_reads i).0 || is_unset g.unset (special_reads i).1)) e in
      let b = or_parts (lacks g.seen (reads i).1) (is_unset g.unset (special_reads i).0 || is_unset g.unset (special_reads i).1) a.1 in
      let c = or_parts (is_unset g.unset (special_reads i).0) (is_unset g.unset (special_reads i).1) b.1 in
      record {
        first = visible_whole same (reads i).0 a.0;
        second = visible_whole same (reads i).1 b.0;
        special = special_whole lenient rel (special_reads i).0 c.0;
      }

  pub mask_all : s.masks.discipline ≡ Lenient → (i : Insn) (reply : ℕ) → IsRead i s g → s.masks.threadptr ≡ all_bits → reply ≡ all_bits
      → result_mask s.masks.discipline i (first_word i s g) (second_word i s g) (special_operand i s g) s.masks.threadptr reply ≡ all_bits
  mask_all lenient i reply r p e =
      (λ j. result_mask (lenient j) i (r.first j) (r.second j) (r.special j) (p j) (e j))
      ∙ result_whole i (first_word i s g).value (second_word i s g).value (special_operand i s g).value

  pub used_true : (i : Insn) → IsSeen i s g → used_are_known s.masks.discipline i (first_word i s g) (second_word i s g) ≡ true
  used_true i r = (λ j. used_are_known s.masks.discipline i (r.first j) (r.second j)) ∙ used_whole s.masks.discipline i (first_word i s g).value (second_word i s g).value

-- ---- words of which each bit is known are not cut
pub uncut_number : (o : Option ℕ) → ((n : ℕ) → o ≡ Some n → n < 2 ^ 32) → cut_number all_bits o ≡ o
uncut_number None h = refl
uncut_number (Some n) h = ap (λ k. Some k) (and_all n (h n refl))

pub uncut_seen : (w : Option RegWrite) (seen : List (Option ℕ)) → AreWords seen → cut_seen all_bits w seen ≡ seen
uncut_seen None seen words = refl
uncut_seen (Some w) seen words =
    ap (λ o. set seen w.reg o) (uncut_number (get_or seen w.reg None) (words w.reg))
    ∙ set-get_or seen w.reg None

uncut_in : (w : Option RegWrite) (f : FrameState) (n : Option Nested) → f.nested ≡ n → AreWords f.seen → InnerAreWords n → cut_state all_bits w n f ≡ f
uncut_in w f None e words inner = λ j. record f { seen = uncut_seen w f.seen words j }
uncut_in w f (Some x) e words inner =
    (λ j. record f { nested = Some (record x { seen = uncut_seen w x.seen inner j }) })
    ∙ ap (λ (o : Option Nested). (let k : FrameState = record f { nested = o } in k)) (sym e)

pub uncut : (w : Option RegWrite) (f : FrameState) → AreWords f.seen → InnerAreWords f.nested → cut_state all_bits w f.nested f ≡ f
uncut w f words inner = uncut_in w f f.nested refl words inner

-- ---- what a step of a state leaves, where `at` is what it fetches
pub record Steps (f : FrameState) (at : Fetched) (u : FrameTurn) (t : UseTurn) : Type 0 where
  pub frame : t.after.frame ≡ u.after
  pub whole : IsWholeState u.after t.after.masks
  pub kind : t.turn.kind ≡ u.kind
  pub stored : t.stored ≡ all_bits
  pub written : writes_unknown (receives_mark (step_insn t.turn.kind at) f.nested) t ≡ false

-- nothing is executed
pub other_steps : (f : FrameState) (at : Fetched) (u : FrameTurn) (m : ValidityBits) → IsWholeState u.after m → Steps f at u (other_turn m u)
other_steps f at u m w = record {
  frame = refl;
  whole = w;
  kind = refl;
  stored = refl;
  written = and_right (is_some u.write) _ (not_from_true _ (or_right (receives_mark (step_insn u.kind at) f.nested) true refl));
}

-- an instruction of which all operands are known
pub insn_steps : (f : FrameState) (at : Fetched) (m : ValidityBits) → m.discipline ≡ Lenient → (g : FrameState) (i : Insn) (reply : ℕ) (u : FrameTurn)
    → IsRead i (record { frame = f; masks = m }) g → m.threadptr ≡ all_bits → reply ≡ all_bits → AreWords u.after.seen → InnerAreWords u.after.nested
    → IsWholeState u.after (masks_past i all_bits (record { frame = f; masks = m }) g u) → Steps f at u (insn_turn i reply (record { frame = f; masks = m }) g u)
insn_steps f at m lenient g i reply u r p e words inner w =
    let s : UseState = record { frame = f; masks = m } in
    let mask = mask_all s g lenient i reply r p e in
    record {
      frame = ap (λ k. cut_state k u.write u.after.nested u.after) mask ∙ uncut u.write u.after words inner;
      whole = subst (λ k. IsWholeState u.after (masks_past i k s g u)) (sym mask) w;
      kind = refl;
      stored = ap (λ (a : Word). a.mask) r.second;
      written = and_right _ _ (not_from_true _ (or_right (receives_mark (step_insn u.kind at) f.nested) _ (eq-eqb _ all_bits mask)));
    }
