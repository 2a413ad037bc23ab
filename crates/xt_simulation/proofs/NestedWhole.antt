-- Each judged step of a nested interrupt that shows no breach of uses.
use Rattle.std.specs.Prelude.{is_some}
use Rattle.std.proofs.Common.{◌≡◌, ℕ, Bool, true, false, ◌||◌, ◌&&◌, not, ltb, List, Option, Some, None, sym, ap, ◌∙◌, refl, ⊎_elim, subst}
use Rattle.std.proofs.lemmas.Bool.{and_left, and_right, both_ways, cases_Bool, cond-false, or_parts}
use Rattle.xt_isa.specs.declared.Insn.{Insn}
use Rattle.xt_isa.specs.Ranges.{in_range}
use Rattle.xt_map.specs.declared.contents.MemoryContents.{MemoryContents}
use Rattle.xt_special.specs.Interrupts.{pending_of}
use Rattle.xt_trace.specs.declared.record.StepRecord.{StepRecord}
use Rattle.xt_map.specs.Fetching.{Fetched, Fetches, Fails, SpellsNothing, fetch_at}
use Rattle.xt_map.specs.Code.{AreBytes}
use Rattle.xt_map.proofs.Fetches.{fetched_range}
use Rattle.xt_rows.specs.Operands.{reads, special_reads}
use Rattle.xt_rows.proofs.Registers.{reads_registers}
use Rattle.xt_exec.specs.State.{State}
use Rattle.xt_exec.specs.TurnLaws.{IsShaped}
use Rattle.xt_frames.specs.declared.holes.Nested.{Nested}
use Rattle.xt_frames.specs.Frames.{FrameState}
use Rattle.xt_frames.specs.FrameStep.{FrameTurn, fetched_step, with_inputs, step_with_inputs}
use Rattle.xt_frames.specs.Marks.{moves_marks}
use Rattle.xt_frames.specs.Nesting.{ends_nested, nested_view}
use Rattle.xt_frames.specs.Breaches.{Bounds, inputs_of, is_unset, lacks, other_tests, reads_none_in}
use Rattle.xt_frames.specs.SaveAreas.{is_live}
use Rattle.xt_frames.proofs.Shown.{NoneShown}
use Rattle.xt_simulation.specs.Handling.{IsGood}
use Rattle.xt_simulation.specs.Nested.{Suspends}
use Rattle.xt_simulation.specs.Steps.{record_now}
use Rattle.xt_uses.specs.Used.{used_are_known}
use Rattle.xt_uses.specs.UseBreaches.{laid_use, has_no_number, holds_mark, nowhere, reads_mark, reads_no_number, swaps_unknown, use_breach, use_tests, uses_unknown}
use Rattle.xt_uses.specs.UseState.{UseState, first_word, second_word}
use Rattle.xt_uses.specs.UseStep.{full_step}
use Rattle.xt_uses.specs.UseLaws.{RowsAgree}
use Rattle.xt_simulation.specs.Knowing.{InnerFit, Knows, NestedFit}
use Rattle.xt_simulation.proofs.Agreed.{uses_known}
use Rattle.xt_simulation.proofs.NestedJudged.{InnerUse, breach_use_inside}
use Rattle.xt_simulation.proofs.NestedReady.{More, fill, fill_special, row_reads}
use Rattle.xt_simulation.proofs.Operands.{AreMasks, second_special}
use Rattle.xt_simulation.proofs.Rfi.{ends_no_marks}
use Rattle.xt_simulation.proofs.Tests.{Denied}
use Rattle.xt_simulation.proofs.NestedRow.{inner_of}
use Rattle.xt_simulation.proofs.FetchedUses.{fails_shown, row_denied, spells_shown}
use Rattle.xt_simulation.proofs.PlainRow.{no_mark}
use Rattle.xt_simulation.proofs.Reading.{numbered}
use Rattle.xt_simulation.proofs.NestedTop.{count_inside, ends_target, goes_target, pc_h, runs_h, still_h}
use Rattle.xt_simulation.proofs.NestedReady.{Has, HasSpecial}

-- a step that fetches no instruction is a breach
pub other_breaks : (b : Bounds) (live : ℕ → Bool) (kb : ℕ → ℕ) (rec : StepRecord) (h : FrameState) (v : FrameTurn) (y : Nested) → h.nested ≡ Some y → NoneShown (use_tests false (swaps_unknown kb rec.access) false (other_tests b live nowhere rec h v)) → ⊥
other_breaks b live kb rec h v y is (saves, (loads, (woe, (vectors, (vector, (nested, more)))))) = both_ways (is_some h.nested) nested (ap (λ (o : Option Nested). is_some o) is)

numbers_inside : (i : Insn) (h : FrameState) → ends_nested i ≡ false → reads_no_number i h ≡ false → (has_no_number h.unset (special_reads i).0 ≡ false) × (has_no_number h.unset (special_reads i).1 ≡ false)
numbers_inside i h goes e =
    let a : (is_some h.nested && ends_nested i) ≡ false = and_right _ _ goes in
    let c : (has_no_number h.unset (special_reads i).0 || has_no_number h.unset (special_reads i).1) ≡ false = ap (λ z. not z && (has_no_number h.unset (special_reads i).0 || has_no_number h.unset (special_reads i).1)) (sym a) ∙ e in
    let p = or_parts (has_no_number h.unset (special_reads i).0) (has_no_number h.unset (special_reads i).1) c in
    (p.0, p.1)

marks_none : {masks : List ℕ} (i : Insn) (us : UseState) (h : FrameState) (x y : Nested) → InnerFit masks x y → h.nested ≡ Some y → uses_unknown i us h ≡ false → reads_mark (Some x) i ≡ false
marks_none i us h x y inner sy unset =
    let a : reads_mark (Some y) i ≡ false = (or_parts (reads_mark (Some y) i) _ (subst (λ (o : Option Nested). (reads_mark o i || (reads_no_number i h || not (used_are_known us.masks.discipline i (first_word i us h) (second_word i us h)))) ≡ false) sy unset)).0 in
    let R : List (Option ℕ) → List (Option ℕ) → Bool = λ ms ss. not (moves_marks i) && (holds_mark ms (reads i).0 || (holds_mark ms (reads i).1 || (holds_mark ss (special_reads i).0 || holds_mark ss (special_reads i).1))) in
    ap (λ z. R z x.saved) inner.marks ∙ (ap (R y.marks) inner.saved ∙ a)

module _ (rows : RowsAgree) (code : ℕ → ℕ) (bytes : AreBytes code) (b : Bounds) (good : IsGood code b) (fresh : Bool) (m : MemoryContents) (s : State) (shaped : IsShaped s) (opened : ℕ → ℕ) (suspended : State)
    (us : UseState) (y : Nested) (sy : us.frame.nested ≡ Some y) (masks : AreMasks us) (live : ℕ → Bool) (own : (a : ℕ) → is_live b.range us.frame a ≡ true → live a ≡ true) (kb : ℕ → ℕ)
    {f : FrameState} {before : State} (q : Suspends code b m s f before opened suspended) (kn : Knows f us) where
  abbrev rec : StepRecord
  rec = record_now code m s

  abbrev h : FrameState
  h = with_inputs (inputs_of rec) (nested_view y us.frame)

  abbrev target : Type 0
  target = InnerUse code b m s opened suspended live kb (full_step code true rec kb us)

  still : ltb 0 (pending_of h.control) ≡ false
  still = still_h rows code bytes b good fresh m s shaped opened suspended us y sy masks live own kb q kn

  runs : h.control.waits ≡ false
  runs = runs_h rows code bytes b good fresh m s shaped opened suspended us y sy masks live own kb q kn

  same_pc : s.control.pc ≡ h.control.pc
  same_pc = pc_h rows code bytes b good fresh m s shaped opened suspended us y sy masks live own kb q kn

  at_h : (at : Fetched) → fetch_at code s.control.pc ≡ at → fetch_at code h.control.pc ≡ at
  at_h at e = ap (fetch_at code) (sym same_pc) ∙ e

  module _ (i : Insn) (len : ℕ) (at : fetch_at code s.control.pc ≡ Fetches i len) (d : Denied b fresh live kb i rec us h (fetched_step (Fetches i len) code rec.reply h)) where
    ok : in_range i ≡ true
    ok = fetched_range code s.control.pc i len bytes at

    ends : ends_nested i ≡ true → target
    ends e =
        let reads_none_ : reads_none_in (Some q.x) i (with_inputs (inputs_of rec) (nested_view q.x f)) ≡ false = cond-false (moves_marks i) _ _ (ends_no_marks i e) ∙ and_left _ _ (ap not e) in
        ends_target rows code bytes b good fresh m s shaped opened suspended us y sy masks live own kb q kn i len at d reads_none_ e

    goes : ends_nested i ≡ false → target
    goes e =
        let n = numbers_inside i h e (uses_known i us h d.unset).number in
        let regs = reads_registers i ok in
        let start : More code b m s opened suspended us q.x.marks q.x.saved = record { frame = f; left = before; holds = q; knows = kn; marks_same = refl; saved_same = refl } in
        let one = fill shaped start (reads i).0 regs.0 in
        let two = fill shaped one.more (reads i).1 regs.1 in
        let last = fill_special shaped two.more (special_reads i).0 (count_inside two.more.holds shaped) n.0 in
        let all = last.more in
        let x : Nested = all.holds.x in
        let inner : InnerFit us.masks.inner x y = inner_of (subst (λ (o : Option Nested). NestedFit us.masks.inner all.frame.nested o) sy all.knows.nested) all.holds.nested in
        let to_end : (o : Option ℕ) → Has two.more.holds.x.seen q.x.marks o → Has x.seen x.marks o = λ o k. ap (λ z. lacks z o && lacks x.marks o) last.seen ∙ (ap (λ z. lacks two.more.holds.x.seen o && lacks z o) all.marks_same ∙ k) in
        let first : Has x.seen x.marks (reads i).0 = to_end (reads i).0 (two.keeps_has (reads i).0 one.has) in
        let second : Has x.seen x.marks (reads i).1 = to_end (reads i).1 two.has in
        let special : HasSpecial all.frame.unset x.saved (special_reads i).0 = ap (λ z. is_unset all.frame.unset (special_reads i).0 && lacks z (special_reads i).0) all.saved_same ∙ last.has in
        let other : is_unset all.frame.unset (special_reads i).1 ≡ false = numbered all.knows (special_reads i).1 n.1 (no_mark (special_reads i).1 (second_special i ok)) in
        let g : FrameState = with_inputs (inputs_of rec) (nested_view x all.frame) in
        let read : reads_none_in (Some x) i g ≡ false = row_reads i x g (marks_none i us h x y inner sy d.unset) first second special other in
        goes_target rows code bytes b good fresh m s shaped opened suspended us y sy masks live own kb all.holds all.knows i len at d read e

  by_fetch : (at : Fetched) → fetch_at code s.control.pc ≡ at → laid_use b fresh code live kb rec us h ≡ None → target
  by_fetch (Fails a) e none = absurd (other_breaks b live kb rec h (step_with_inputs code rec.reply h) y sy (fails_shown b fresh code live kb rec us h still runs none a (at_h (Fails a) e)))
  by_fetch SpellsNothing e none = absurd (other_breaks b live kb rec h (step_with_inputs code rec.reply h) y sy (spells_shown b fresh code live kb rec us h still runs none (at_h SpellsNothing e)))
  by_fetch (Fetches i len) e none =
      let d = row_denied b fresh code live kb rec us h still runs none i len (at_h (Fetches i len) e) in
      ⊎_elim (λ z. ends i len e d z) (λ z. goes i len e d z) (cases_Bool (ends_nested i))

  pub nested_judged : use_breach b fresh code live kb true rec us ≡ None → target
  nested_judged none = by_fetch (fetch_at code s.control.pc) refl (sym (breach_use_inside b fresh code live kb rec us y sy) ∙ none)
