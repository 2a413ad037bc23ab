-- A turn that shows no breach of the stack discipline shows no use of what is not known.
use Rattle.std.proofs.Common.{◌≡◌, ℕ, ◌+◌, ◌≤◌, ℤ, Bool, true, false, not, cond, eqb, leb, ltb, ◌&&◌, ◌||◌, ◌⊎◌, inl, inr, List, [], ◌∷◌, Option, Some, None, get_or, refl, sym, ap, ◌∙◌, ⊎_elim, subst, arith}
use Rattle.std.specs.Prelude.{is_some}
use Rattle.std.proofs.lemmas.Bool.{and_left, and_right, both_ways, cases_Bool, cond-false, eqb-true, false_from_ne_true, leb-true, not_from_true, or_cases, or_from, or_left, or_parts, and_parts}
use Rattle.xt_isa.specs.declared.Insn.{Insn}
use Rattle.xt_isa.specs.declared.Insn.TheVariants as insn
use Rattle.xt_isa.specs.declared.shift.Shift.TheVariants as shift
use Rattle.xt_isa.specs.declared.system.System.TheVariants as system
use Rattle.xt_isa.specs.declared.system.SpecialName.{SpecialName}
use Rattle.xt_special.specs.Access.{is_ccompare}
use Rattle.xt_special.specs.Control.{Control}
use Rattle.xt_special.specs.Interrupts.{pending_of}
use Rattle.xt_trace.specs.declared.record.StepKind.{StepKind}
use Rattle.xt_trace.specs.declared.record.StepKind.TheVariants as kind
use Rattle.xt_trace.specs.declared.record.StepRecord.{StepRecord}
use Rattle.xt_map.specs.Fetching.{Fetched, Fetches, Fails, SpellsNothing, fetch_at}
use Rattle.xt_rows.specs.Kinds.{is_movsp, is_return}
use Rattle.xt_rows.specs.Numbers.{natural}
use Rattle.xt_rows.specs.Operands.{changes_interrupt, reads, special_reads}
use Rattle.xt_frames.specs.declared.holes.Nested as holes
use Rattle.xt_frames.specs.Frames.{Frame, FrameState}
use Rattle.xt_frames.specs.FrameStep.{FrameTurn, Inputs, with_inputs, step_with_inputs}
use Rattle.xt_frames.specs.Marks.{holds_marks, moves_marks}
use Rattle.xt_frames.specs.Nesting.{begins, current, ends_nested, nested_view}
use Rattle.xt_frames.specs.SaveAreas.{Range}
use Rattle.xt_frames.specs.Breaches.{Bounds, Test, breach_of, fetched_return_breach, fetched_tests, first_shown, inputs_of, insn_tests, is_underflow, is_unset, lacks, laid_breach, loads_stale, other_tests, reads_no_mark, reads_none, reads_unset, return_tests, touches_save_area, window_breach}
use Rattle.xt_frames.specs.declared.kinds.HandlerPhase.{HandlerPhase}
use Rattle.xt_frames.specs.declared.kinds.HandlerPhase.TheVariants.{Outside, InHandler, Nested}
use Rattle.xt_frames.specs.Verdict.{is_nested}
use Rattle.xt_frames.specs.FirstBreach.{handler_shows, is_judged, record_shows}
use Rattle.xt_frames.proofs.Shown.{NoneShown, none_shown, sound}
use Rattle.xt_uses.specs.Used.{system_used, used_are_known}
use Rattle.xt_uses.specs.UseState.{ValidityBits, UseState}
use Rattle.xt_uses.specs.UseBreaches.{breaks_stack, fetched_return_use, fetched_uses, has_no_number, holds_mark, laid_use, nowhere, reads_mark, reads_no_number, swaps_unknown, underflows, use_breach, use_tests, uses_unknown, window_use}
use Rattle.xt_uses.specs.FirstUse.{handler_use, record_use}
use Rattle.xt_uses.proofs.WholeInner.{is_ending, is_moving, no_mark, no_saved_mark}
use Rattle.xt_uses.proofs.WholeStates.{IsWholeState, Whole}
use Rattle.xt_uses.proofs.WholeSteps.{operands_seen, used_true}

-- ---- tests that are not shown
pub none_first : (ts : List Test) → NoneShown ts → first_shown ts ≡ None
none_first [] h = refl
none_first (t ∷ ts) h = cond-false t.shown (Some t.kind) (first_shown ts) h.0 ∙ none_first ts h.1

module _ (b : Bounds) (fresh : Bool) (live stale : ℕ → Bool) (rec : StepRecord) (g : FrameState) (u : FrameTurn) (unset swap movsp : Bool) where
  pub insn_quiet : (i : Insn) → unset ≡ false → swap ≡ false → movsp ≡ false → NoneShown (insn_tests b fresh live stale i rec g u) → NoneShown (use_tests unset swap movsp (insn_tests b fresh live nowhere i rec g u))
  insn_quiet i k s m (reads, (written, (size, (low, (align, (opens, (mismatch, (caller, (saves, (loads, (high, (windowing, (window_register, (woe, (vectors, (lost, (moves, (vector, (nested, more))))))))))))))))))) =
      (k, (written, (size, (low, (align, (opens, (mismatch, (caller, (saves, (s, (high, (windowing, (window_register, (woe, (vectors, (lost, (m, (vector, (nested, tt)))))))))))))))))))

  other_quiet : swap ≡ false → NoneShown (other_tests b live stale rec g u) → NoneShown (use_tests false swap false (other_tests b live nowhere rec g u))
  other_quiet s (saves, (loads, (woe, (vectors, (vector, (nested, more)))))) = (saves, (s, (woe, (vectors, (vector, (nested, tt))))))

  return_quiet : (i : Insn) → unset ≡ false → NoneShown (return_tests i g) → NoneShown (use_tests unset false false (return_tests i g))
  return_quiet i k (reads, (mismatch, (caller, more))) = (k, (mismatch, (caller, tt)))

-- ---- MOVSP
pub stays_on_stack : (range : Range) (i : Insn) (k : StepKind) (g : FrameState) → is_movsp i ≡ false → breaks_stack range i k g ≡ false
unfolding is_movsp breaks_stack
stays_on_stack range (insn.Shift (shift.Movsp t s)) k g e = absurd cc
stays_on_stack range _ k g e = refl

-- ---- operands
unmarked : (o : Option ℕ) → o ≡ None → is_some o ≡ false
unmarked o e = ap is_some e

has_number : (unset : List Bool) (o : Option ℕ) → is_unset unset o ≡ false → has_no_number unset o ≡ false
has_number unset None h = refl
has_number unset (Some n) h = and_right (not (holds_marks n)) (get_or unset n false) h

moved_number : (unset : List Bool) (n : ℕ) → holds_marks n ≡ true → has_no_number unset (Some n) ≡ false
moved_number unset n h = and_left (not (holds_marks n)) (get_or unset n false) (not_from_true (holds_marks n) h)

not_changed : (n : ℕ) → holds_marks n ≡ true → changes_interrupt n ≡ None
not_changed n h = cond-false (eqb n 226 || (eqb n 227 || is_ccompare n)) (Some 226) None (false_from_ne_true (eqb n 226 || (eqb n 227 || is_ccompare n)) (λ changes.
    let held : (n ≤ 215) ⊎ (244 ≤ n) = ⊎_elim
    (λ q. inl (leb-true n 215 (and_parts (leb 209 n) (leb n 215) q).1))
    (λ q. inr (leb-true 244 n (and_parts (leb 244 n) (leb n 247) q).0))
    (or_cases (leb 209 n && leb n 215) (leb 244 n && leb n 247) h) in
    ⊎_elim
    (λ q. let e = eqb-true n 226 q in omega (arith, e, held))
    (λ q. ⊎_elim
    (λ s. let e = eqb-true n 227 s in omega (arith, e, held))
    (λ s. let l = leb-true 240 n (and_parts (leb 240 n) (leb n 242) s).0 in let m = leb-true n 242 (and_parts (leb 240 n) (leb n 242) s).1 in omega (arith, l, m, held))
    (or_cases (eqb n 227) (is_ccompare n) q))
    (or_cases (eqb n 226) (eqb n 227 || is_ccompare n) changes)))

pub no_numbers : (i : Insn) (g : FrameState) → reads_unset i g ≡ false → reads_no_number i g ≡ false
no_numbers i g h =
    let a = or_parts (lacks g.seen (reads i).0) _ h in
    let b = or_parts (lacks g.seen (reads i).1) _ a.1 in
    let c = or_parts (is_unset g.unset (special_reads i).0) (is_unset g.unset (special_reads i).1) b.1 in
    and_right _ _ (or_from (has_no_number g.unset (special_reads i).0) (has_no_number g.unset (special_reads i).1) (has_number g.unset (special_reads i).0 c.0) (has_number g.unset (special_reads i).1 c.1))

-- ---- outside nested interrupts
module _ (seen : List (Option ℕ)) (frames : List Frame) (control : Control) (unset : List Bool) (m : ValidityBits) (w : Whole seen frames unset None control.waits m) (inp : Inputs) where
  abbrev plain : FrameState
  plain = record { seen = seen; frames = frames; control = control; unset = unset; nested = None }

  plain_known : (i : Insn) → reads_none i (with_inputs inp plain) ≡ false → uses_unknown i (record { frame = plain; masks = m }) (with_inputs inp plain) ≡ false
  plain_known i h =
      let s : UseState = record { frame = plain; masks = m } in
      or_from (reads_no_number i (with_inputs inp plain)) _ (no_numbers i (with_inputs inp plain) h) (not_from_true _ (used_true s (with_inputs inp plain) i (operands_seen s (with_inputs inp plain) i w.seen_masks h)))

-- ---- in one
module _ (seen : List (Option ℕ)) (frames : List Frame) (control : Control) (unset : List Bool) (x : holes.Nested) (m : ValidityBits) (w : Whole seen frames unset (Some x) control.waits m) (inp : Inputs) where
  abbrev within : FrameState
  within = record { seen = seen; frames = frames; control = control; unset = unset; nested = Some x }

  abbrev g : FrameState
  g = with_inputs inp (nested_view x within)

  abbrev s : UseState
  s = record { frame = within; masks = m }

  free_mark : (o : Option ℕ) → lacks x.seen o ≡ false → holds_mark x.marks o ≡ false
  free_mark None h = refl
  free_mark (Some t) h = ap is_some (no_mark seen frames control unset x m w inp 0 t h)

  free_saved : (o : Option ℕ) → is_unset unset o ≡ false → holds_mark x.saved o ≡ false
  free_saved None h = refl
  free_saved (Some n) h = ap is_some (no_saved_mark seen frames control unset x m w inp 0 n h)

  -- an instruction that reads numbers
  reads_numbers : (i : Insn) → reads_unset i g ≡ false → uses_unknown i s g ≡ false
  reads_numbers i h =
      let a = or_parts (lacks g.seen (reads i).0) _ h in
      let b = or_parts (lacks g.seen (reads i).1) _ a.1 in
      let c = or_parts (is_unset g.unset (special_reads i).0) (is_unset g.unset (special_reads i).1) b.1 in
      let marks : reads_mark (Some x) i ≡ false = and_right _ _ (or_from (holds_mark x.marks (reads i).0) _ (free_mark (reads i).0 a.0) (or_from (holds_mark x.marks (reads i).1) _ (free_mark (reads i).1 b.0) (or_from (holds_mark x.saved (special_reads i).0) (holds_mark x.saved (special_reads i).1) (free_saved (special_reads i).0 c.0) (free_saved (special_reads i).1 c.1)))) in
      or_from (reads_mark (Some x) i) _ marks
      (or_from (reads_no_number i g) _ (no_numbers i g h) (not_from_true _ (used_true s g i (operands_seen s g i w.inner h))))

  -- one that moves a mark
  moves_mark : (name : SpecialName) (t n : ℕ) → holds_marks n ≡ true → moves_marks (insn.System (system.Special name t n)) ≡ true → uses_unknown (insn.System (system.Special name t n)) s g ≡ false
  unfolding special_reads used_are_known system_used
  moves_mark SpecialName.Rsr t n h e = or_from _ _ (and_left _ _ (not_from_true _ e)) (or_from _ _ (and_right _ _ (or_from (has_no_number unset (Some n)) false (moved_number unset n h) refl)) refl)
  moves_mark SpecialName.Wsr t n h e = or_from _ _ (and_left _ _ (not_from_true _ e)) (or_from _ _ (and_right _ _ (ap (has_no_number unset) (not_changed n h))) (not_from_true _ (or_left (holds_marks n) _ h)))
  moves_mark SpecialName.Xsr t n h e = or_from _ _ (and_left _ _ (not_from_true _ e)) (or_from _ _ (and_right _ _ (or_from (has_no_number unset (Some n)) _ (moved_number unset n h) (ap (has_no_number unset) (not_changed n h)))) (not_from_true _ (or_left (holds_marks n) _ h)))

  -- RFI 5
  no_save : (n : ℕ) → holds_marks n ≡ false → get_or x.saved n None ≡ None
  no_save n h = by (get_or x.saved n None) refl
    where
      by : (o : Option ℕ) → get_or x.saved n None ≡ o → o ≡ None
      by None e = refl
      by (Some j) e = absurd (both_ways (holds_marks n) h (w.inside.saved n j e).0)

  ends_known : (level : ℤ) → ends_nested (insn.System (system.Rfi level)) ≡ true → natural level ≡ 5 → uses_unknown (insn.System (system.Rfi level)) s g ≡ false
  unfolding special_reads reads used_are_known system_used
  ends_known level e five = or_from _ _
      (and_right _ _ (or_from (holds_mark x.saved (Some (176 + natural level))) (holds_mark x.saved (Some (192 + natural level)))
      (ap is_some (no_save (176 + natural level) (ap (λ n. holds_marks (176 + n)) five)))
      (ap is_some (no_save (192 + natural level) (ap (λ n. holds_marks (192 + n)) five)))))
      (or_from _ _ (and_left _ _ (not_from_true _ e)) refl)

  ends_five : (level : ℤ) → ends_nested (insn.System (system.Rfi level)) ≡ true → natural level ≡ 5
  unfolding ends_nested
  ends_five level e = eqb-true (natural level) 5 e

  inner_known : (i : Insn) → reads_none i g ≡ false → uses_unknown i s g ≡ false
  inner_known i h = ⊎_elim
      (λ moves.
      let q = is_moving i moves in
      subst (λ j. uses_unknown j s g ≡ false) (sym q.is) (moves_mark q.name q.t q.n q.holds (subst (λ j. moves_marks j ≡ true) q.is moves)))
      (λ stays.
      let reads : (not (ends_nested i) && reads_unset i g) ≡ false = sym (cond-false (moves_marks i) (reads_no_mark i x g) (not (ends_nested i) && reads_unset i g) stays) ∙ h in
      ⊎_elim
      (λ ends.
      let q = is_ending i ends in
      let e : ends_nested (insn.System (system.Rfi q.level)) ≡ true = subst (λ j. ends_nested j ≡ true) q.is ends in
      subst (λ j. uses_unknown j s g ≡ false) (sym q.is) (ends_known q.level e (ends_five q.level e)))
      (λ goes. reads_numbers i (ap (λ b. not b && reads_unset i g) (sym goes) ∙ reads))
      (cases_Bool (ends_nested i)))
      (cases_Bool (moves_marks i))

-- ---- of any state: `known` says that its operands are
either_none : {X : Type 0} (b : Bool) (v x y : Option X) → cond b v x ≡ None → (x ≡ None → y ≡ None) → cond b v y ≡ None
either_none true v x y e h = e
either_none false v x y e h = h e

only_none : {X : Type 0} (b : Bool) (x y : Option X) → cond b x None ≡ None → (x ≡ None → y ≡ None) → cond b y None ≡ None
only_none true x y e h = h e
only_none false x y e h = refl

module _ (code : ℕ → ℕ) (b : Bounds) (fresh : Bool) (live stale : ℕ → Bool) (rec : StepRecord) (bytes : ℕ → ℕ) (swaps : loads_stale live stale rec.access ≡ false → touches_save_area live rec.access ≡ false → swaps_unknown bytes rec.access ≡ false) where
  module _ (s : UseState) (g : FrameState) (known : (i : Insn) → reads_none i g ≡ false → uses_unknown i s g ≡ false) where
    fetched_quiet : (at : Fetched) (u : FrameTurn) → first_shown (fetched_tests b fresh live stale at rec g u) ≡ None → first_shown (fetched_uses b fresh live bytes at rec s g u) ≡ None
    fetched_quiet (Fetches i len) u e =
        let n = none_shown (insn_tests b fresh live stale i rec g u) e in
        let o = sound b fresh live stale i rec g u n in
        none_first (use_tests (uses_unknown i s g) (swaps_unknown bytes rec.access) (breaks_stack b.range i rec.kind g) (insn_tests b fresh live nowhere i rec g u))
        (insn_quiet b fresh live stale rec g u (uses_unknown i s g) (swaps_unknown bytes rec.access) (breaks_stack b.range i rec.kind g) i (known i o.unset) (swaps o.loads o.saves) (stays_on_stack b.range i rec.kind g o.movsp) n)
    fetched_quiet (Fails address) u e =
        let n = none_shown (other_tests b live stale rec g u) e in
        none_first (use_tests false (swaps_unknown bytes rec.access) false (other_tests b live nowhere rec g u)) (other_quiet b fresh live stale rec g u false (swaps_unknown bytes rec.access) false (swaps n.1.0 n.0) n)
    fetched_quiet SpellsNothing u e =
        let n = none_shown (other_tests b live stale rec g u) e in
        none_first (use_tests false (swaps_unknown bytes rec.access) false (other_tests b live nowhere rec g u)) (other_quiet b fresh live stale rec g u false (swaps_unknown bytes rec.access) false (swaps n.1.0 n.0) n)

    laid_quiet : laid_breach b fresh code live stale rec g ≡ None → laid_use b fresh code live bytes rec s g ≡ None
    unfolding laid_breach laid_use
    laid_quiet e = either_none (ltb 0 (pending_of g.control) || g.control.waits) _ _ _ e (fetched_quiet (fetch_at code g.control.pc) (step_with_inputs code rec.reply g))

    fetched_return : (at : Fetched) → fetched_return_breach at g ≡ None → fetched_return_use at s g ≡ None
    fetched_return (Fetches i len) e = only_none (is_return i) (first_shown (return_tests i g)) _ e (λ none.
        let n = none_shown (return_tests i g) none in
        none_first (use_tests (uses_unknown i s g) false false (return_tests i g)) (return_quiet b fresh live stale rec g (step_with_inputs code rec.reply g) (uses_unknown i s g) false false i (known i n.0) n))
    fetched_return (Fails address) e = refl
    fetched_return SpellsNothing e = refl

    window_quiet : (k : StepKind) → window_breach code k g ≡ None → cond (underflows k) (fetched_return_use (fetch_at code g.control.pc) s g) None ≡ None
    unfolding window_breach
    window_quiet (kind.Window vector) e = only_none (is_underflow vector) (fetched_return_breach (fetch_at code g.control.pc) g) _ e (fetched_return (fetch_at code g.control.pc))
    window_quiet _ e = refl

  module _ (m : ValidityBits) where
    abbrev found : FrameState → FrameState
    found f = with_inputs (inputs_of rec) (current f)

    abbrev Knows : FrameState → Type 0
    Knows f = IsWholeState f m → (i : Insn) → reads_none i (found f) ≡ false → uses_unknown i (record { frame = f; masks = m }) (found f) ≡ false

    knows : (f : FrameState) (n : Option holes.Nested) → f.nested ≡ n → Knows f
    knows f None e = subst Knows (λ i. record f { nested = sym e i }) (λ w. plain_known f.seen f.frames f.control f.unset m w (inputs_of rec))
    knows f (Some x) e = subst Knows (λ i. record f { nested = sym e i }) (λ w. inner_known f.seen f.frames f.control f.unset x m w (inputs_of rec))

    use_quiet : (nested : Bool) (f : FrameState) → IsWholeState f m → breach_of b fresh code live stale nested rec f ≡ None → use_breach b fresh code live bytes nested rec (record { frame = f; masks = m }) ≡ None
    use_quiet nested f w e = either_none (begins nested rec.kind f) None _ _ e (laid_quiet (record { frame = f; masks = m }) (found f) (knows f f.nested refl w))

    handler_quiet : (phase : HandlerPhase) (f : FrameState) → IsWholeState f m → handler_shows code phase rec f ≡ None → handler_use code phase rec (record { frame = f; masks = m }) ≡ None
    unfolding window_use
    handler_quiet Outside f w e = window_quiet (record { frame = f; masks = m }) (found f) (knows f f.nested refl w) rec.kind e
    handler_quiet InHandler f w e = refl
    handler_quiet Nested f w e = refl

pub record_quiet : (code : ℕ → ℕ) (b : Bounds) (lost : Bool) (live stale : ℕ → Bool) (rec : StepRecord) (bytes : ℕ → ℕ) (m : ValidityBits) (phase : HandlerPhase) (f : FrameState)
    → (loads_stale live stale rec.access ≡ false → touches_save_area live rec.access ≡ false → swaps_unknown bytes rec.access ≡ false)
    → IsWholeState f m → record_shows code b phase f lost live stale rec ≡ None → record_use code b phase (record { frame = f; masks = m }) lost live bytes rec ≡ None
record_quiet code b lost live stale rec bytes m phase f swaps w e = by (is_judged phase rec.kind) e
  where
    by : (j : Bool) → cond j (breach_of b (not lost) code live stale (is_nested phase) rec f) (handler_shows code phase rec f) ≡ None
        → cond j (use_breach b (not lost) code live bytes (is_nested phase) rec (record { frame = f; masks = m })) (handler_use code phase rec (record { frame = f; masks = m })) ≡ None
    by true e = use_quiet code b (not lost) live stale rec bytes swaps m (is_nested phase) f w e
    by false e = handler_quiet code b (not lost) live stale rec bytes swaps m phase f w e
