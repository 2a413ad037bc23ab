-- No breach of uses comes before one of the stack discipline; and where that is whole, nothing is carried.
use Rattle.std.proofs.Common.{◌≡◌, ℕ, zero, suc, ◌<◌, ◌≤◌, false, ◌==◌, ◌&&◌, inl, inr, ⊎_elim, length, Option, Some, None, refl, sym, ap, ◌∙◌, arith}
use Rattle.std.specs.Prelude.{slice_get}
use Rattle.std.proofs.lemmas.Bool.{and_parts, both_ways, cases_Bool, cases_lt, cond-false, eqb-true, or_from}
use Rattle.std.proofs.lemmas.Bool.Decides.{same_from_decides}
use Rattle.std.proofs.lemmas.Option.{none-some, slice_get_within}
use Rattle.xt_trace.specs.declared.record.StepRecord.{StepRecord}
use Rattle.xt_map.specs.Fetching.{fetch_at}
use Rattle.xt_frames.specs.declared.kinds.Breach.{Breach}
use Rattle.xt_frames.specs.declared.kinds.BreachKind.{BreachKind}
use Rattle.xt_frames.specs.Frames.{FrameState}
use Rattle.xt_frames.specs.FrameStep.{with_inputs}
use Rattle.xt_frames.specs.Nesting.{current}
use Rattle.xt_frames.specs.Breaches.{inputs_of, writes_epc1}
use Rattle.xt_frames.specs.FirstBreach as frames
use Rattle.xt_frames.specs.FirstBreach.{Course, IsFirstBreach, IsJudgedTurn, IsTurn, Turn, frame_before, is_judged, live_before, phase_before, step_at, turn_of}
use Rattle.xt_uses.specs.Disciplines.{Lenient}
use Rattle.xt_uses.specs.UseStep.{UseTurn, carries, step_insn, receives_mark, stores_unknown, writes_unknown}
use Rattle.xt_uses.specs.FirstUse.{EndsMode, History, IsFirstUse, IsHistory, IsLost, Shows, carried_count, carries_at, live_at, record_use, use_at, writes_at}
use Rattle.xt_uses.specs.UseLaws.{IsOrdinary, IsUnbroken, UsesAreLater}
use Rattle.xt_uses.proofs.LaterTests.{record_quiet}
use Rattle.xt_uses.proofs.LaterVerdicts.{is_there}
use Rattle.xt_uses.proofs.WholeBytes.{stores_known, swaps_known}
use Rattle.xt_uses.proofs.WholeRuns.{Agrees, agrees_to, byte_known, live_same}

module _ (r : Course) (h : History) (p : ℕ) (ordinary : IsOrdinary r) (is : IsHistory Lenient r h) (agrees : Agrees r h p) where
  -- ---- EPC1
  writes_same : (i core : ℕ) (rec : StepRecord) → i < p → IsJudgedTurn r i core rec → writes_at r h i core rec ≡ frames.writes_at r i core rec
  writes_same i core rec l j =
      let kind = (agrees.steps i core rec l j).kind in
      let frame = agrees.frame i core (omega (arith, l)) in
      λ k. writes_epc1 (kind k) (fetch_at r.code (with_inputs (inputs_of rec) (current (frame k))).control.pc) (with_inputs (inputs_of rec) (current (frame k))).control.ps

  mode_there : (i core : ℕ) (rec : StepRecord) → i < p → IsJudgedTurn r i core rec → EndsMode r h i core rec → frames.EndsMode r i core rec
  mode_there i core rec l j e = (
    sym (ap (λ (f : FrameState). (with_inputs (inputs_of rec) (current f)).control.ps.excm) (agrees.frame i core (omega (arith, l)))) ∙ e.0,
    sym (ap (λ (f : FrameState). (current f).control.ps.excm) (agrees.steps i core rec l j).frame) ∙ e.1,
  )

  mode_back : (i core : ℕ) (rec : StepRecord) → i < p → IsJudgedTurn r i core rec → frames.EndsMode r i core rec → EndsMode r h i core rec
  mode_back i core rec l j e = (
    ap (λ (f : FrameState). (with_inputs (inputs_of rec) (current f)).control.ps.excm) (agrees.frame i core (omega (arith, l))) ∙ e.0,
    ap (λ (f : FrameState). (current f).control.ps.excm) (agrees.steps i core rec l j).frame ∙ e.1,
  )

  lost_there : (core : ℕ) → IsLost r h core p → frames.IsLost r core p
  lost_there core x = record {
    once = x.once;
    earlier = x.earlier;
    rec = x.rec;
    turn = x.turn;
    loses = ⊎_elim
        (λ n. inl n)
        (λ e. ⊎_elim
        (λ j. inr (mode_there x.once core x.rec x.earlier (record { turn = x.turn; judged = j }) e))
        (λ n. inl n)
        (cases_Bool (is_judged (phase_before r core x.once) x.rec.kind)))
        x.loses;
    since = λ i b l rec j. sym (writes_same i core rec l j) ∙ x.since i b l rec j;
  }

  lost_back : (core : ℕ) → frames.IsLost r core p → IsLost r h core p
  lost_back core x = record {
    once = x.once;
    earlier = x.earlier;
    rec = x.rec;
    turn = x.turn;
    loses = ⊎_elim
        (λ n. inl n)
        (λ e. ⊎_elim
        (λ j. inr (mode_back x.once core x.rec x.earlier (record { turn = x.turn; judged = j }) e))
        (λ n. inl n)
        (cases_Bool (is_judged (phase_before r core x.once) x.rec.kind)))
        x.loses;
    since = λ i b l rec j. writes_same i core rec l j ∙ x.since i b l rec j;
  }

  -- ---- a turn that shows no breach of the stack discipline
  pub quiet_here : (core : ℕ) (rec : StepRecord) (found : Option BreachKind) → frames.Shows r p core rec None → Shows r h p core rec found → None ≡ found
  quiet_here core rec found x y =
      let lost : x.lost ≡ y.lost = same_from_decides {P = IsLost r h core p} x.lost y.lost (λ t. lost_back core (x.is_lost.0 t), λ l. x.is_lost.1 (lost_there core l)) y.is_lost in
      let live : live_before r p ≡ live_at r h p = λ i a. sym (live_same r h p ordinary is agrees p a (omega arith)) i in
      let frame : frame_before r core p ≡ (h.state core p).frame = sym (agrees.frame p core (omega arith)) in
      let none = record_quiet r.code (r.bounds core) x.lost (live_before r p) x.stale rec (h.mask p) (h.state core p).masks (phase_before r core p) (frame_before r core p)
      (swaps_known (live_before r p) x.stale (h.mask p) (byte_known r h p ordinary is agrees x.stale x.is_stale) rec.access)
      (agrees.whole p core (omega arith)) x.shown in
      sym none ∙ ((λ i. record_use r.code (r.bounds core) (phase_before r core p) (record { frame = frame i; masks = (h.state core p).masks }) (lost i) (live i) (h.mask p) rec) ∙ y.shown)

  -- ---- and carries nothing
  carries_none : (i core : ℕ) (rec : StepRecord) → i < p → IsJudgedTurn r i core rec → carries r.code rec (h.state core i) (use_at r h i core rec) ≡ false
  carries_none i core rec l j =
      let t = agrees.steps i core rec l j in
      let u : UseTurn = use_at r h i core rec in
      let frame = agrees.frame i core (omega (arith, l)) in
      or_from
      (writes_unknown (receives_mark (step_insn u.turn.kind (fetch_at r.code (with_inputs (inputs_of rec) (current (h.state core i).frame)).control.pc)) (h.state core i).frame.nested) u)
      (stores_unknown u.stored rec.access)
      (ap (λ (f : FrameState). writes_unknown (receives_mark (step_insn u.turn.kind (fetch_at r.code (with_inputs (inputs_of rec) (current f)).control.pc)) f.nested) u) frame ∙ t.written)
      (ap (λ n. stores_unknown n rec.access) t.stored ∙ stores_known rec.access (λ a e. ordinary.sizes i core rec a j.turn e))

  turn_none : (i core : ℕ) → i < p → (o : Option Turn) → slice_get r.turns i ≡ o → carries_at r h core i o ≡ 0
  turn_none i core l None e = refl
  turn_none i core l (Some t) e = ⊎_elim
      (λ counts.
      let parts = and_parts (t.core == core && is_judged (phase_before r core i) t.rec.kind) (carries r.code t.rec (h.state core i) (use_at r h i core t.rec)) counts in
      let own = and_parts (t.core == core) (is_judged (phase_before r core i) t.rec.kind) parts.0 in
      let turn : IsTurn r i core t.rec = e ∙ ap (λ c. Some (turn_of c t.rec)) (eqb-true t.core core own.0) in
      absurd (both_ways (carries r.code t.rec (h.state core i) (use_at r h i core t.rec)) (carries_none i core t.rec l (record { turn = turn; judged = own.1 })) parts.1))
      (λ none. cond-false ((t.core == core && is_judged (phase_before r core i) t.rec.kind) && carries r.code t.rec (h.state core i) (use_at r h i core t.rec)) 1 0 none)
      (cases_Bool ((t.core == core && is_judged (phase_before r core i) t.rec.kind) && carries r.code t.rec (h.state core i) (use_at r h i core t.rec)))

  pub carried_none : (core i : ℕ) → i ≤ p → carried_count r h core i ≡ 0
  carried_none core zero l = refl
  carried_none core (suc i) l =
      let before = carried_none core i (omega (arith, l)) in
      let here = turn_none i core (omega (arith, l)) (slice_get r.turns i) refl in
      omega (arith, before, here)

-- ---- the first breaches
turns_end : (r : Course) (p : ℕ) (breach : Option Breach) → IsFirstBreach r p breach → p ≤ length r.turns
turns_end r p None x = let end = x.here in omega (arith, end)
turns_end r p (Some b) x = let there = slice_get_within r.turns p (turn_of b.core x.here.rec) x.here.turn in omega (arith, there)

never_before : (r : Course) (h : History) (p q : ℕ) (breach found : Option Breach) → IsOrdinary r → IsHistory Lenient r h → IsFirstBreach r p breach → IsFirstUse r h q found → q < p → ⊥
never_before r h p q breach None ordinary is x y l = let end = y.here in let last = turns_end r p breach x in omega (arith, end, last, l)
never_before r h p q breach (Some c) ordinary is x y l =
    let unbroken : IsUnbroken r q = λ i core rec b turn. x.before i core rec (omega (arith, b, l)) turn in
    let here = y.here in
    none-some c.kind (quiet_here r h q ordinary is (agrees_to r h q ordinary is unbroken) c.core here.rec (Some c.kind) (x.before q c.core here.rec l here.turn) here.shows)

none_at_end : (r : Course) (h : History) (q : ℕ) (found : Option Breach) → IsFirstUse r h q found → length r.turns ≤ q → found ≡ None
none_at_end r h q None y l = refl
none_at_end r h q (Some c) y l = let there = is_there r h q c y.here in absurd (omega (arith, there, l))

last_place : (r : Course) (h : History) (q : ℕ) (found : Option Breach) → IsFirstUse r h q found → found ≡ None → q ≡ length r.turns
last_place r h q None y e = y.here
last_place r h q (Some c) y e = absurd (none-some c (sym e))

whole_end : (r : Course) (p : ℕ) (breach : Option Breach) → IsFirstBreach r p breach → breach ≡ None → p ≡ length r.turns
whole_end r p None x e = x.here
whole_end r p (Some b) x e = absurd (none-some b (sym e))

pub uses_later : UsesAreLater
uses_later r h p q breach found ordinary is x y =
    let order : p ≤ q = ⊎_elim (λ l. absurd (never_before r h p q breach found ordinary is x y l)) (λ le. le) (cases_lt q p) in (
      order,
      λ none.
          let end = whole_end r p breach x none in
          let no_use = none_at_end r h q found y (omega (arith, end, order)) in
          let last = last_place r h q found y no_use in
          let unbroken : IsUnbroken r q = λ i core rec l turn. x.before i core rec (omega (arith, l, last, end)) turn in
          let agrees = agrees_to r h q ordinary is unbroken in
          (no_use, carried_none r h q ordinary is agrees 0 q (omega arith), carried_none r h q ordinary is agrees 1 q (omega arith)),
    )
