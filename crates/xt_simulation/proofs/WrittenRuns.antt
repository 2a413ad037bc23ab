-- Up to its first breach of uses a run that reads only what was written keeps all bits known of that; so the breach is neither Unset nor StaleLoad.
use Rattle.std.proofs.Common.{◌≡◌, ℕ, zero, suc, ◌<◌, ◌≤◌, Bool, true, false, not, ltb, ◌==◌, ◌&&◌, ◌||◌, ⊎_elim, Option, Some, None, refl, sym, ap, ◌∙◌, arith, subst, length}
use Rattle.std.specs.Prelude.{is_some, slice_get}
use Rattle.std.proofs.lemmas.Bool.{and_from, and_parts, and_right, both_ways, cases_Bool, cond-false, cond-true, cond_both, eq-eqb, eqb-true, false_from_ne_true, not-false, not_from_false, not_from_true, or_from, or_left, or_right}
use Rattle.std.proofs.lemmas.List.{get_or-replicate}
use Rattle.std.proofs.lemmas.Option.{none-some}
use Rattle.xt_isa.specs.declared.Insn.{Insn}
use Rattle.xt_special.specs.Interrupts.{pending_of}
use Rattle.xt_trace.specs.declared.record.StepRecord.{StepRecord}
use Rattle.xt_map.specs.Fetching.{Fetches, fetch_at}
use Rattle.xt_map.proofs.Fetches.{fetched_range}
use Rattle.xt_rows.specs.Operands.{reads}
use Rattle.xt_rows.proofs.Registers.{reads_registers}
use Rattle.xt_frames.specs.declared.kinds.Breach.{Breach}
use Rattle.xt_frames.specs.declared.kinds.BreachKind.{BreachKind}
use Rattle.xt_frames.specs.declared.kinds.HandlerPhase.{HandlerPhase}
use Rattle.xt_frames.specs.declared.kinds.HandlerPhase.TheVariants.{Outside, InHandler, Nested}
use Rattle.xt_frames.specs.HandlerSteps.{is_window}
use Rattle.xt_frames.specs.Frames.{FrameState, all_set, opening_frame}
use Rattle.xt_frames.specs.FrameStep.{with_inputs}
use Rattle.xt_frames.specs.Breaches.{inputs_of}
use Rattle.xt_frames.specs.Marks.{holds_marks}
use Rattle.xt_frames.specs.Verdict.{is_nested}
use Rattle.xt_frames.specs.FirstBreach.{Course, IsJudgedTurn, IsTurn, Turn, is_judged, phase_before, turn_of}
use Rattle.xt_frames.proofs.Prefixes.{before_or_at}
use Rattle.xt_uses.specs.declared.discipline.Discipline.{Discipline}
use Rattle.xt_uses.specs.Words.{all_bits}
use Rattle.xt_uses.specs.UseState.{UseState, whole_masks}
use Rattle.xt_uses.specs.UseStep.{UseTurn, carries, receives_mark, reply_mask, step_insn, stores_unknown, use_step, writes_unknown}
use Rattle.xt_uses.specs.UseBreaches.{use_breach}
use Rattle.xt_uses.specs.FirstUse.{History, IsFirstUse, IsHistory, IsUse, Shows, carried_count, carries_at, found_at, handler_use, live_at, use_at}
use Rattle.xt_uses.specs.UseLaws.{IsOrdinary}
use Rattle.xt_uses.proofs.CutRows.{marks_between}
use Rattle.xt_uses.proofs.CutWords.{inputs_words}
use Rattle.xt_uses.proofs.LaterHistories.{judged_or_idle}
use Rattle.xt_uses.proofs.LaterVerdicts.{is_there}
use Rattle.xt_uses.proofs.WholeBytes.{stores_known}
use Rattle.xt_uses.proofs.WholeLists.{replicated}
use Rattle.xt_simulation.specs.WrittenFirst.{IsNoUse, IsOther, ReadsWritten, RunsWrittenFirstPass, WritesFirst, WrittenFirstPasses, frame_along, frame_by, frame_turn, is_fetched, stored_before, written_before, written_by, written_past}
use Rattle.xt_simulation.specs.UseRunLaws.{course_of}
use Rattle.xt_simulation.proofs.FilledRuns.{sized_small}
use Rattle.xt_simulation.proofs.ImageRuns.{runs_are_ordinary}
use Rattle.xt_simulation.proofs.WrittenFrames.{Alongside, next_along, next_written, opens_along, same_busy, same_frames, same_place, written_same}
use Rattle.xt_simulation.proofs.WrittenBytes.{byte_known, reply_known, swaps_known}
use Rattle.xt_simulation.proofs.WrittenMasks.{Known, known_fewer}
use Rattle.xt_simulation.proofs.WrittenSteps.{IsKnown, Passes, Reading}
use Rattle.xt_simulation.proofs.WrittenTurns.{step_passes, step_shows, window_shows}

-- ---- the opening
special_small : (n : ℕ) → holds_marks n ≡ true → n < 256
special_small n h = let between = marks_between n h in ⊎_elim (λ q. omega (arith, q)) (λ q. omega (arith, q)) between

opening_known : (core pc vecbase stack_end : ℕ) (d : Discipline) → Known (λ c. ltb c 16) (opening_frame core pc vecbase stack_end).frames (opening_frame core pc vecbase stack_end).unset (whole_masks d)
unfolding all_set
opening_known core pc vecbase stack_end d = record {
  seen = λ i l v. get_or-replicate 16 i all_bits 0 l;
  wide = omega arith;
  kept = tt;
  special = λ n h. get_or-replicate 256 n all_bits 0 (special_small n h);
  pointer = refl;
  numbers = λ n. replicated 256 n false;
}

all_known : (marked : Bool) (t : UseTurn) → t.mask ≡ all_bits → writes_unknown marked t ≡ false
all_known marked t e = and_right (is_some t.turn.write) _ (not_from_true _ (or_right marked (t.mask == all_bits) (eq-eqb t.mask all_bits e)))

-- what a judged step t leaves, beside the machine of frames
record PassesBy (r : Course) (h : History) (core p : ℕ) (rec : StepRecord) (t : UseTurn) : Type 0 where
  known : IsKnown (written_past (frame_along r core p) (frame_turn r rec (frame_along r core p)) (written_before r core p)) t.after
  along : Alongside (frame_turn r rec (frame_along r core p)).after t.after
  stored : t.stored ≡ all_bits
  mask : t.mask ≡ all_bits

abbrev PassesHere : Course → History → ℕ → ℕ → StepRecord → Type 0
PassesHere r h core p rec = PassesBy r h core p rec (use_at r h p core rec)

module _ (r : Course) (h : History) (d : Discipline) (ordinary : IsOrdinary r) (is : IsHistory d r h) where
  abbrev written : ℕ → ℕ → ℕ → Bool
  written core p c = written_before r core p c

  opens : (core : ℕ) → IsKnown (written core 0) (h.state core 0)
  opens core =
      let o = ordinary.opens core in
      subst (λ (s : UseState). IsKnown (λ c. ltb c 16) s) (sym (is.opens core))
      (subst (λ (f : FrameState). IsKnown (λ c. ltb c 16) (record { frame = f; masks = whole_masks d })) (sym o.opens) (opening_known o.core o.pc o.vecbase o.stack_end d, refl))

  -- ---- what holds before turn p
  record Agrees (p : ℕ) : Type 0 where
    known : (core : ℕ) → IsKnown (written core p) (h.state core p)
    along : (i core : ℕ) → i ≤ p → Alongside (frame_along r core i) (h.state core i)
    stored : (i core : ℕ) (rec : StepRecord) → i < p → IsJudgedTurn r i core rec → (use_at r h i core rec).stored ≡ all_bits
    mask : (i core : ℕ) (rec : StepRecord) → i < p → IsJudgedTurn r i core rec → (use_at r h i core rec).mask ≡ all_bits

  module _ (p : ℕ) (agrees : Agrees p) where
    beside : (core : ℕ) → Alongside (frame_along r core p) (h.state core p)
    beside core = agrees.along p core (omega arith)

    bytes_known : (a : ℕ) → stored_before r p a ≡ true → h.mask p a ≡ 255
    bytes_known a e = byte_known r h a d p ordinary is (λ i l core. (agrees.along i core l).knows) agrees.stored e

    -- ---- what is read at turn p
    module _ (core : ℕ) (rec : StepRecord) (x : ReadsWritten r p core rec) where
      abbrev finds : FrameState
      finds = with_inputs (inputs_of rec) (h.state core p).frame

      reads_of : (i : Insn) (len : ℕ) → fetch_at r.code finds.control.pc ≡ Fetches i len → is_fetched r p core rec ≡ true → Reading (written core p) (h.state core p).frame i
      reads_of i len e fetched =
          let f : FrameState = frame_along r core p in
          let s : FrameState = (h.state core p).frame in
          let each = x.registers i len (ap (fetch_at r.code) (same_place (beside core) (agrees.known core).1 rec) ∙ e) fetched in
          let there = reads_registers i (fetched_range r.code finds.control.pc i len ordinary.code e) in
          let same = (same_frames (beside core).knows).windows in
          record {
            first = written_same (written core p) f s same (reads i).0 each.0;
            second = written_same (written core p) f s same (reads i).1 each.1;
            first_there = there.0;
            second_there = there.1;
            owb = each.2;
          }

      awake_of : (i : Insn) (len : ℕ) → fetch_at r.code finds.control.pc ≡ Fetches i len → (ltb 0 (pending_of finds.control) || finds.control.waits) ≡ false → Reading (written core p) (h.state core p).frame i
      awake_of i len e free = reads_of i len e (or_right (is_window rec.kind) _ (not_from_false _ (same_busy (beside core) (agrees.known core).1 rec ∙ free)))

      -- ---- a judged turn
      module _ (j : IsJudgedTurn r p core rec) (outside : phase_before r core p ≡ Outside) where
        abbrev breach_in : Bool → HandlerPhase → Option BreachKind
        breach_in lost phase = use_breach (r.bounds core) (not lost) r.code (live_at r h p) (h.mask p) (is_nested phase) rec (h.state core p)

        shown_by : (found : Option BreachKind) → (shows : Shows r h p core rec found) → breach_in shows.lost Outside ≡ found
        shown_by found shows =
            ap (breach_in shows.lost) (sym outside)
            ∙ (sym (cond-true (is_judged (phase_before r core p) rec.kind) (breach_in shows.lost (phase_before r core p)) (handler_use r.code (phase_before r core p) rec (h.state core p)) j.judged) ∙ shows.shown)

        reply_whole : reply_mask (h.mask p) rec.access ≡ all_bits
        reply_whole = reply_known (stored_before r p) (h.mask p) bytes_known rec.access x.bytes

        other_here : (kind : BreachKind) → Shows r h p core rec (Some kind) → IsOther kind
        other_here kind shows =
            step_shows r.code rec (h.mask p) (h.state core p).masks (written core p) (r.bounds core) (not shows.lost) (live_at r h p) kind
            (swaps_known (stored_before r p) (h.mask p) bytes_known rec.access x.bytes)
            (h.state core p).frame (agrees.known core).1 (agrees.known core).0 awake_of (shown_by (Some kind) shows)

        passes_here : Shows r h p core rec None → PassesHere r h core p rec
        passes_here shows =
            let us : UseState = h.state core p in
            let t : UseTurn = use_step r.code false rec (h.mask p) us in
            let none = shown_by None shows in
            let same : t ≡ use_at r h p core rec = ap (λ (phase : HandlerPhase). use_step r.code (is_nested phase) rec (h.mask p) us) (sym outside) in
            let x1 : Passes (written core p) us.frame t t.after =
            step_passes r.code rec (h.mask p) us.masks (written core p) (r.bounds core) (not shows.lost) (live_at r h p) us.frame (agrees.known core).1 reply_whole (agrees.known core).0 awake_of none in
            let words = inputs_words rec (ordinary.inputs p core rec j.turn) in
            let small = sized_small (h.mask p) rec.access (λ a e. ordinary.sizes p core rec a j.turn e) in
            subst (λ (v : UseTurn). PassesBy r h core p rec v) same (record {
              known = (
                known_fewer x1.known.0 (written_past (frame_along r core p) (frame_turn r rec (frame_along r core p)) (written core p))
                    (λ c e. sym (next_written r ordinary (r.bounds core) (not shows.lost) (live_at r h p) (h.mask p) rec words small (beside core) (agrees.known core).1 none (written core p) c) ∙ e),
                x1.known.1,
              );
              along = next_along r ordinary (r.bounds core) (not shows.lost) (live_at r h p) (h.mask p) rec words small (beside core) (agrees.known core).1 none x1.known.1;
              stored = x1.stored;
              mask = x1.mask;
            })

    -- ---- the sets and the frames after a judged turn of the core, and after another
    abbrev is_own : ℕ → Turn → Bool
    is_own core t = (t.core == core) && is_judged (phase_before r core p) t.rec.kind

    own : (core : ℕ) (rec : StepRecord) → IsJudgedTurn r p core rec → is_own core (turn_of core rec) ≡ true
    own core rec j = and_from (core == core) (is_judged (phase_before r core p) rec.kind) (eq-eqb core core refl) j.judged

    not_own : (core : ℕ) → ((rec : StepRecord) → IsJudgedTurn r p core rec → ⊥) → (t : Turn) → slice_get r.turns p ≡ Some t → is_own core t ≡ false
    not_own core idle t q = false_from_ne_true _ (λ both.
        let parts = and_parts (t.core == core) (is_judged (phase_before r core p) t.rec.kind) both in
        idle t.rec (record { turn = q ∙ ap (λ n. Some (turn_of n t.rec)) (eqb-true t.core core parts.0); judged = parts.1 }))

    own_written : (core : ℕ) (rec : StepRecord) → IsJudgedTurn r p core rec → (c : ℕ) → written core (suc p) c ≡ written_past (frame_along r core p) (frame_turn r rec (frame_along r core p)) (written core p) c
    own_written core rec j c =
        ap (λ o. written_by r core p o (written core p) c) j.turn ∙ cond-true (is_own core (turn_of core rec)) (written_past (frame_along r core p) (frame_turn r rec (frame_along r core p)) (written core p) c) (written core p c) (own core rec j)

    own_frame : (core : ℕ) (rec : StepRecord) → IsJudgedTurn r p core rec → frame_along r core (suc p) ≡ (frame_turn r rec (frame_along r core p)).after
    own_frame core rec j =
        ap (λ o. frame_by r core p o (frame_along r core p)) j.turn ∙ cond-true (is_own core (turn_of core rec)) (frame_turn r rec (frame_along r core p)).after (frame_along r core p) (own core rec j)

    idle_written : (core : ℕ) → ((rec : StepRecord) → IsJudgedTurn r p core rec → ⊥) → (c : ℕ) → written core (suc p) c ≡ written core p c
    idle_written core idle c = by (slice_get r.turns p) refl
      where
        by : (o : Option Turn) → slice_get r.turns p ≡ o → written_by r core p o (written core p) c ≡ written core p c
        by None q = refl
        by (Some t) q = cond-false (is_own core t) (written_past (frame_along r core p) (frame_turn r t.rec (frame_along r core p)) (written core p) c) (written core p c) (not_own core idle t q)

    idle_frame : (core : ℕ) → ((rec : StepRecord) → IsJudgedTurn r p core rec → ⊥) → frame_along r core (suc p) ≡ frame_along r core p
    idle_frame core idle = by (slice_get r.turns p) refl
      where
        by : (o : Option Turn) → slice_get r.turns p ≡ o → frame_by r core p o (frame_along r core p) ≡ frame_along r core p
        by None q = refl
        by (Some t) q = cond-false (is_own core t) (frame_turn r t.rec (frame_along r core p)).after (frame_along r core p) (not_own core idle t q)

    -- ---- one turn more
    module _ (each : (core : ℕ) (rec : StepRecord) → IsJudgedTurn r p core rec → PassesHere r h core p rec) where
      known_next : (core : ℕ) → IsKnown (written core (suc p)) (h.state core (suc p))
      known_next core = ⊎_elim
          (λ j.
          let t = each core j.0 j.1 in
          subst (λ s. IsKnown (written core (suc p)) s) (sym (is.steps p core j.0 j.1))
          (known_fewer t.known.0 (written core (suc p)) (λ c e. sym (own_written core j.0 j.1 c) ∙ e), t.known.1))
          (λ idle.
          let k = agrees.known core in
          subst (λ s. IsKnown (written core (suc p)) s) (sym (is.stays p core idle))
          (known_fewer k.0 (written core (suc p)) (λ c e. sym (idle_written core idle c) ∙ e), k.1))
          (judged_or_idle r p core)

      along_next : (core : ℕ) → Alongside (frame_along r core (suc p)) (h.state core (suc p))
      along_next core = ⊎_elim
          (λ j. subst (λ f. Alongside f (h.state core (suc p))) (sym (own_frame core j.0 j.1)) (subst (λ s. Alongside (frame_turn r j.0 (frame_along r core p)).after s) (sym (is.steps p core j.0 j.1)) (each core j.0 j.1).along))
          (λ idle. subst (λ f. Alongside f (h.state core (suc p))) (sym (idle_frame core idle)) (subst (λ s. Alongside (frame_along r core p) s) (sym (is.stays p core idle)) (beside core)))
          (judged_or_idle r p core)

      agrees_next : Agrees (suc p)
      agrees_next = record {
        known = known_next;
        along = λ i core l. ⊎_elim
            (λ b. agrees.along i core (omega (arith, b)))
            (λ e. subst (λ n. Alongside (frame_along r core n) (h.state core n)) (sym e) (along_next core))
            (before_or_at i (suc p) (omega (arith, l)));
        stored = λ i core rec l j. ⊎_elim
            (λ b. agrees.stored i core rec b j)
            (λ e. subst (λ n. (use_at r h n core rec).stored ≡ all_bits) (sym e) (each core rec (subst (λ n. IsJudgedTurn r n core rec) e j)).stored)
            (before_or_at i p l);
        mask = λ i core rec l j. ⊎_elim
            (λ b. agrees.mask i core rec b j)
            (λ e. subst (λ n. (use_at r h n core rec).mask ≡ all_bits) (sym e) (each core rec (subst (λ n. IsJudgedTurn r n core rec) e j)).mask)
            (before_or_at i p l);
      }

    -- ---- nothing is carried before turn p
    carries_none : (i core : ℕ) (rec : StepRecord) → i < p → IsJudgedTurn r i core rec → carries r.code rec (h.state core i) (use_at r h i core rec) ≡ false
    carries_none i core rec l j =
        let u : UseTurn = use_at r h i core rec in
        or_from
        (writes_unknown (receives_mark (step_insn u.turn.kind (fetch_at r.code (found_at r h i core rec).control.pc)) (h.state core i).frame.nested) u)
        (stores_unknown u.stored rec.access)
        (all_known (receives_mark (step_insn u.turn.kind (fetch_at r.code (found_at r h i core rec).control.pc)) (h.state core i).frame.nested) u (agrees.mask i core rec l j))
        (ap (λ n. stores_unknown n rec.access) (agrees.stored i core rec l j) ∙ stores_known rec.access (λ a e. ordinary.sizes i core rec a j.turn e))

    turn_none : (i core : ℕ) → i < p → (o : Option Turn) → slice_get r.turns i ≡ o → carries_at r h core i o ≡ 0
    turn_none i core l None e = refl
    turn_none i core l (Some t) e = cond_both
        ((t.core == core && is_judged (phase_before r core i) t.rec.kind) && carries r.code t.rec (h.state core i) (use_at r h i core t.rec)) 1 0 (λ n. n ≡ 0)
        (λ counts.
        let parts = and_parts (t.core == core && is_judged (phase_before r core i) t.rec.kind) (carries r.code t.rec (h.state core i) (use_at r h i core t.rec)) counts in
        let own = and_parts (t.core == core) (is_judged (phase_before r core i) t.rec.kind) parts.0 in
        let turn : IsTurn r i core t.rec = e ∙ ap (λ c. Some (turn_of c t.rec)) (eqb-true t.core core own.0) in
        absurd (both_ways (carries r.code t.rec (h.state core i) (use_at r h i core t.rec)) (carries_none i core t.rec l (record { turn = turn; judged = own.1 })) parts.1))
        (λ none. refl)

    carried_none : (core i : ℕ) → i ≤ p → carried_count r h core i ≡ 0
    carried_none core zero l = refl
    carried_none core (suc i) l =
        let before = carried_none core i (omega (arith, l)) in
        let here = turn_none i core (omega (arith, l)) (slice_get r.turns i) refl in
        omega (arith, before, here)

    -- ---- the record of a window exception at turn p
    handler_other : (core : ℕ) (rec : StepRecord) (kind : BreachKind) (phase : HandlerPhase) → is_judged phase rec.kind ≡ false → (phase ≡ Outside → ReadsWritten r p core rec) → handler_use r.code phase rec (h.state core p) ≡ Some kind → IsOther kind
    handler_other core rec kind Outside n x e =
        let k = agrees.known core in
        window_shows r.code rec (h.mask p) (h.state core p).masks (written core p) kind (h.state core p).frame k.1 k.0
        (λ i len at. reads_of core rec (x refl) i len at (or_left (is_window rec.kind) _ (not-false (is_window rec.kind) n))) e
    handler_other core rec kind InHandler n x e = absurd (none-some kind e)
    handler_other core rec kind Nested n x e = absurd (none-some kind e)

  -- ---- up to the first breach
  module _ (q : ℕ) (found : Option Breach) (first : IsFirstUse r h q found) (writes : WritesFirst r q) where
    agrees_to : (p : ℕ) → p ≤ q → Agrees p
    agrees_to zero l = record {
      known = opens;
      along = λ i core b. subst (λ n. Alongside (frame_along r core n) (h.state core n)) {x = 0} (omega (arith, b)) (opens_along d r h ordinary is core);
      stored = λ i core rec b j. absurd (omega (arith, b));
      mask = λ i core rec b j. absurd (omega (arith, b));
    }
    agrees_to (suc p) l =
        let before = agrees_to p (omega (arith, l)) in
        agrees_next p before
        (λ core rec j.
        let outside = writes.outside p core rec (omega (arith, l)) j in
        passes_here p before core rec (writes.reads p core rec (omega (arith, l)) j.turn outside) j outside (first.before p core rec (omega (arith, l)) j.turn))

    breach_other : (b : Breach) → IsUse r h q b → IsOther b.kind
    breach_other b x =
        let agrees = agrees_to q (omega arith) in
        ⊎_elim
        (λ judged.
        let j : IsJudgedTurn r q b.core x.rec = record { turn = x.turn; judged = judged } in
        let outside = writes.outside q b.core x.rec (omega arith) j in
        other_here q agrees b.core x.rec (writes.reads q b.core x.rec (omega arith) x.turn outside) j outside b.kind x.shows)
        (λ n. handler_other q agrees b.core x.rec b.kind (phase_before r b.core q) n (λ outside. writes.reads q b.core x.rec (omega arith) x.turn outside)
        (sym (cond-false (is_judged (phase_before r b.core q) x.rec.kind)
        (use_breach (r.bounds b.core) (not x.shows.lost) r.code (live_at r h q) (h.mask q) (is_nested (phase_before r b.core q)) x.rec (h.state b.core q))
        (handler_use r.code (phase_before r b.core q) x.rec (h.state b.core q)) n) ∙ x.shows.shown))
        (cases_Bool (is_judged (phase_before r b.core q) x.rec.kind))

    no_use : (o : Option Breach) → found ≡ o → IsNoUse o
    no_use None e = tt
    no_use (Some b) e = breach_other b (subst (λ o. IsFirstUse r h q o) e first).here

    pub passed : IsNoUse found × (carried_count r h 0 q ≡ 0) × (carried_count r h 1 q ≡ 0)
    passed =
        let agrees = agrees_to q (omega arith) in
        (no_use found refl, carried_none q agrees 0 q (omega arith), carried_none q agrees 1 q (omega arith))

pub written_first : WrittenFirstPasses
written_first d r h q found ordinary is first writes = passed r h d ordinary is q found first writes

-- ---- the verdict on a run of an image
writes_before : (r : Course) (q n : ℕ) → q ≤ n → WritesFirst r n → WritesFirst r q
writes_before r q n l w = record {
  outside = λ p core rec b j. w.outside p core rec (omega (arith, b, l)) j;
  reads = λ p core rec b turn phase. w.reads p core rec (omega (arith, b, l)) turn phase;
}

place_within : (r : Course) (h : History) (q : ℕ) (found : Option Breach) → IsFirstUse r h q found → q ≤ length r.turns
place_within r h q None x = let end = x.here in omega (arith, end)
place_within r h q (Some b) x = let there = is_there r h q b x.here in omega (arith, there)

pub runs_written_first : RunsWrittenFirstPass
runs_written_first segments entry o r runnable run d found n m v writes =
    let c = course_of segments entry o r in
    let before = writes_before c v.place (length c.turns) (place_within c v.history v.place found v.first) writes in
    let p = written_first d c v.history v.place found (runs_are_ordinary segments entry o r runnable run).0 v.is_history v.first before in
    (p.0, v.counts0 ∙ p.1, v.counts1 ∙ p.2)
