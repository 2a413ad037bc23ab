-- Before a judged step of a nested interrupt each register that its row reads has a number or a mark.
use Rattle.std.specs.Prelude.{unwrap_or, is_some}
use Rattle.std.proofs.Common.{◌≡◌, ℕ, ◌<◌, ◌⊎◌, inl, inr, Bool, true, false, ◌||◌, ◌&&◌, not, List, Option, Some, None, sym, ap, ◌∙◌, refl, arith, ⊎_elim, subst, length, get_or}
use Rattle.std.proofs.Math.ListN.{set}
use Rattle.std.proofs.lemmas.Bool.{and_left, and_right, cases_Bool, cond-false, cond-true, or_from, or_parts}
use Rattle.xt_isa.specs.declared.Insn.{Insn}
use Rattle.xt_map.specs.declared.contents.MemoryContents.{MemoryContents}
use Rattle.xt_window.specs.Ring.{visible}
use Rattle.xt_rows.specs.RowLaws.{IsRegister}
use Rattle.xt_rows.specs.Operands.{reads, special_reads}
use Rattle.xt_exec.specs.State.{State}
use Rattle.xt_exec.specs.TurnLaws.{IsShaped}
use Rattle.xt_frames.specs.declared.holes.Nested.{Nested}
use Rattle.xt_frames.specs.Frames.{FrameState}
use Rattle.xt_frames.specs.Marks.{holds_marks, moves_marks}
use Rattle.xt_frames.specs.Breaches.{Bounds, is_unset, lacks, reads_none_in}
use Rattle.xt_simulation.specs.Nested.{Suspends}
use Rattle.xt_uses.specs.UseBreaches.{has_no_number, holds_mark, reads_mark}
use Rattle.xt_uses.specs.UseState.{UseState}
use Rattle.xt_simulation.proofs.Evenly.{cleared}
use Rattle.xt_simulation.specs.Knowing.{Knows}
use Rattle.xt_simulation.proofs.NestedFill.{inner_filled, inner_knows, inner_x, special_filled, special_x, special_known}
use Rattle.xt_simulation.proofs.Reading.{lacks_here, lacks_set, numbered}

-- a register has a number or a mark
abbrev pub Has : List (Option ℕ) → List (Option ℕ) → Option ℕ → Type 0
Has seen marks o = (lacks seen o && lacks marks o) ≡ false

abbrev pub HasSpecial : List Bool → List (Option ℕ) → Option ℕ → Type 0
HasSpecial unset saved o = (is_unset unset o && lacks saved o) ≡ false

-- the frame state with more registers filled, and where the handler is then said to have begun
pub record More (code : ℕ → ℕ) (b : Bounds) (m : MemoryContents) (s : State) (opened : ℕ → ℕ) (suspended : State) (us : UseState) (marks saved : List (Option ℕ)) : Type 0 where
  pub frame : FrameState
  pub left : State
  pub holds : Suspends code b m s frame left opened suspended
  pub knows : Knows frame us
  pub marks_same : holds.x.marks ≡ marks
  pub saved_same : holds.x.saved ≡ saved

has_set : (seen marks : List (Option ℕ)) (r v : ℕ) (o : Option ℕ) → r < length seen → Has seen marks o → Has (set seen r (Some v)) marks o
has_set seen marks r v o low h = ⊎_elim
    (λ there. and_left _ _ (lacks_set seen r v o low there))
    (λ lacking. and_right _ _ (ap (λ z. z && lacks marks o) (sym lacking) ∙ h))
    (cases_not (lacks seen o))
  where
    cases_not : (z : Bool) → (z ≡ false) ⊎ (z ≡ true)
    cases_not true = inr refl
    cases_not false = inl refl

module _ {code : ℕ → ℕ} {b : Bounds} {m : MemoryContents} {s : State} {opened : ℕ → ℕ} {suspended : State} {us : UseState} {marks saved : List (Option ℕ)} where
  pub record Filled (f : More code b m s opened suspended us marks saved) (o : Option ℕ) : Type 0 where
    pub more : More code b m s opened suspended us marks saved
    pub has : Has more.holds.x.seen marks o
    pub keeps : (p : Option ℕ) → lacks f.holds.x.seen p ≡ false → lacks more.holds.x.seen p ≡ false
    pub keeps_has : (p : Option ℕ) → Has f.holds.x.seen marks p → Has more.holds.x.seen marks p
    pub unset : more.frame.unset ≡ f.frame.unset

  pub record FilledSpecial (f : More code b m s opened suspended us marks saved) (o : Option ℕ) : Type 0 where
    pub more : More code b m s opened suspended us marks saved
    pub has : HasSpecial more.frame.unset saved o
    pub seen : more.holds.x.seen ≡ f.holds.x.seen

module _ {code : ℕ → ℕ} {b : Bounds} {m : MemoryContents} {s : State} {opened : ℕ → ℕ} {suspended : State} {us : UseState} {marks saved : List (Option ℕ)} (shaped : IsShaped s) where
  -- ---- a visible register
  pub fill : (f : More code b m s opened suspended us marks saved) (o : Option ℕ) → IsRegister o → Filled f o
  fill f None low = record { more = f; has = refl; keeps = λ p e. e; keeps_has = λ p e. e; unset = refl }
  fill f (Some r) low = by_mark (get_or marks r None) refl
    where
      by_mark : (o : Option ℕ) → get_or marks r None ≡ o → Filled f (Some r)
      by_mark (Some j) e = record { more = f; has = and_right _ _ (ap (λ (o : Option ℕ). not (is_some o)) e); keeps = λ p e. e; keeps_has = λ p e. e; unset = refl }
      by_mark None e =
          let bare : get_or f.holds.x.marks r None ≡ None = ap (λ (z : List (Option ℕ)). get_or z r None) f.marks_same ∙ e in
          let wide = f.holds.inside.wide in
          let at = inner_x f.holds shaped r low bare in
          record {
            more = record {
              frame = _;
              left = _;
              holds = inner_filled f.holds shaped r low bare;
              knows = inner_knows f.holds shaped r low bare f.knows;
              marks_same = ap (λ (z : Nested). z.marks) at ∙ f.marks_same;
              saved_same = ap (λ (z : Nested). z.saved) at ∙ f.saved_same;
            };
            has = and_left _ _ (ap (λ (z : Nested). lacks z.seen (Some r)) at ∙ lacks_here f.holds.x.seen r (visible s.regs s.base r) (omega arith));
            keeps = λ p e. ap (λ (z : Nested). lacks z.seen p) at ∙ lacks_set f.holds.x.seen r (visible s.regs s.base r) p (omega arith) e;
            keeps_has = λ p e. ap (λ (z : Nested). lacks z.seen p && lacks marks p) at ∙ has_set f.holds.x.seen marks r (visible s.regs s.base r) p (omega arith) e;
            unset = refl;
          }

  -- ---- a special register
  pub fill_special : (f : More code b m s opened suspended us marks saved) (o : Option ℕ) → length f.frame.control.special ≡ 256 → has_no_number us.frame.unset o ≡ false → FilledSpecial f o
  fill_special f None count h = record { more = f; has = refl; seen = refl }
  fill_special f (Some n) count h = by_mark (get_or saved n None) refl
    where
      by_mark : (o : Option ℕ) → get_or saved n None ≡ o → FilledSpecial f (Some n)
      by_mark (Some j) e = record { more = f; has = and_right _ _ (ap (λ (o : Option ℕ). not (is_some o)) e); seen = refl }
      by_mark None e = ⊎_elim
          (λ mark.
          let bare : get_or f.holds.x.saved n None ≡ None = ap (λ (z : List (Option ℕ)). get_or z n None) f.saved_same ∙ e in
          let wide = f.knows.unset.size in
          let at = special_x f.holds shaped n mark bare count wide in
          record {
            more = record {
              frame = _;
              left = _;
              holds = special_filled f.holds shaped n mark bare count wide;
              knows = special_known f.holds shaped n mark bare count wide f.knows;
              marks_same = ap (λ (z : Nested). z.marks) at ∙ f.marks_same;
              saved_same = ap (λ (z : Nested). z.saved) at ∙ f.saved_same;
            };
            has = and_left _ _ (cleared f.frame.unset n false);
            seen = ap (λ (z : Nested). z.seen) at;
          })
          (λ other. record {
            more = f;
            has = and_left _ _ (numbered f.knows (Some n) h (λ j is. subst (λ z. holds_marks z ≡ false) (ap (λ (o : Option ℕ). unwrap_or o 0) is) other));
            seen = refl;
          })
          (cases_Bool (holds_marks n))

-- ---- all that a row reads
bare_lacks : (marks : List (Option ℕ)) (o : Option ℕ) → holds_mark marks o ≡ false → (seen : List (Option ℕ)) → Has seen marks o → lacks seen o ≡ false
bare_lacks marks None e seen h = refl
bare_lacks marks (Some n) e seen h =
    let a : lacks marks (Some n) ≡ true = ap not e in
    let c : (lacks seen (Some n) && true) ≡ false = ap (λ z. lacks seen (Some n) && z) (sym a) ∙ h in
    true_right (lacks seen (Some n)) ∙ c
  where
    true_right : (z : Bool) → z ≡ (z && true)
    true_right true = refl
    true_right false = refl

bare_special : (unset : List Bool) (saved : List (Option ℕ)) (o : Option ℕ) → holds_mark saved o ≡ false → HasSpecial unset saved o → is_unset unset o ≡ false
bare_special unset saved None e h = refl
bare_special unset saved (Some n) e h =
    let a : lacks saved (Some n) ≡ true = ap not e in
    let c : (is_unset unset (Some n) && true) ≡ false = ap (λ z. is_unset unset (Some n) && z) (sym a) ∙ h in
    true_right (is_unset unset (Some n)) ∙ c
  where
    true_right : (z : Bool) → z ≡ (z && true)
    true_right true = refl
    true_right false = refl

-- what the step reads is no mark, but where it moves marks
pub row_reads : (i : Insn) (x : Nested) (g : FrameState) → reads_mark (Some x) i ≡ false → Has g.seen x.marks (reads i).0 → Has g.seen x.marks (reads i).1 → HasSpecial g.unset x.saved (special_reads i).0 → is_unset g.unset (special_reads i).1 ≡ false → reads_none_in (Some x) i g ≡ false
row_reads i x g mark a c d e = ⊎_elim
    (λ moves. cond-true (moves_marks i) _ _ moves ∙ or_from _ _ a d)
    (λ stays.
    let q : (holds_mark x.marks (reads i).0 || (holds_mark x.marks (reads i).1 || (holds_mark x.saved (special_reads i).0 || holds_mark x.saved (special_reads i).1))) ≡ false =
    ap (λ z. not z && (holds_mark x.marks (reads i).0 || (holds_mark x.marks (reads i).1 || (holds_mark x.saved (special_reads i).0 || holds_mark x.saved (special_reads i).1)))) (sym stays) ∙ mark in
    let p0 = or_parts (holds_mark x.marks (reads i).0) _ q in
    let p1 = or_parts (holds_mark x.marks (reads i).1) _ p0.1 in
    let p2 = or_parts (holds_mark x.saved (special_reads i).0) _ p1.1 in
    cond-false (moves_marks i) _ _ stays ∙ and_right _ _ (or_from _ _ (bare_lacks x.marks (reads i).0 p0.0 g.seen a) (or_from _ _ (bare_lacks x.marks (reads i).1 p1.0 g.seen c) (or_from _ _ (bare_special g.unset x.saved (special_reads i).0 p2.0 d) e))))
    (cases_Bool (moves_marks i))
