-- A run that fits the machine of uses is a frame run up to the first breach of the stack discipline.
use Rattle.std.proofs.Common.{◌≡◌, ℕ, zero, suc, ◌<◌, ◌≤◌, Bool, true, false, not, eqb, ◌||◌, ◌⊎◌, inl, inr, ⊎_elim, List, [], ◌∷◌, ◌++◌, Option, Some, None, append-nil, refl, sym, ap, ◌∙◌, subst, arith}
use Rattle.std.specs.Prelude.{is_some, slice_get}
use Rattle.std.proofs.lemmas.Bool.{and_cases, both_ways, cases_Bool, cond-false, cond-true, eqb-true, not-false, or_cases}
use Rattle.std.proofs.lemmas.Option.{none-some}
use Rattle.xt_map.specs.declared.access.Access.{Access}
use Rattle.xt_map.specs.declared.access.Entry.{Entry}
use Rattle.xt_map.specs.declared.contents.MemoryContents.{MemoryContents}
use Rattle.xt_map.specs.History.{IsLegal, memory_after}
use Rattle.xt_map.specs.Serving.{memory_past, reply_to}
use Rattle.xt_map.specs.Touching.{IsMemory}
use Rattle.xt_map.proofs.Grown.{legal_push}
use Rattle.xt_map.proofs.Small.{past_memory, to_small}
use Rattle.xt_trace.specs.declared.record.RegWrite.{RegWrite}
use Rattle.xt_trace.specs.declared.record.StepRecord.{StepRecord}
use Rattle.xt_rows.specs.RowLaws.{IsWord}
use Rattle.xt_frames.specs.declared.kinds.Breach.{Breach}
use Rattle.xt_frames.specs.Frames.{FrameState}
use Rattle.xt_frames.specs.FrameStep.{FrameTurn}
use Rattle.xt_frames.specs.Nesting.{begins}
use Rattle.xt_frames.specs.Breaches.{breach_of, inputs_of, loads_stale, touches_save_area}
use Rattle.xt_frames.specs.FirstBreach.{Course, IsJudgedTurn, Turn, entries_before, entries_in, frame_before, frames_past, handler_shows, is_judged, judged_before, live_before, phase_before, records_before, step_at}
use Rattle.xt_frames.specs.Judging.{place_on, step_on, value_in}
use Rattle.xt_frames.specs.Verdict.{IsFrameTrace, IsStepOf, entry_of, is_nested}
use Rattle.xt_frames.proofs.Prefixes.{own_judged}
use Rattle.xt_uses.specs.Words.{all_bits, masked}
use Rattle.xt_uses.specs.Disciplines.{Lenient}
use Rattle.xt_uses.specs.UseStep.{UseTurn, step_insn, receives_mark, reply_mask, value_step}
use Rattle.xt_uses.specs.FirstUse.{History, IsFirstUse, IsHistory, use_at}
use Rattle.xt_uses.specs.UseLaws.{AccessFits, AgreeIn, FitsStep, IsOrdinary, IsUnbroken, IsUseRun, ReplyFits, TellsWords, UseRunIsFrameRun}
use Rattle.xt_uses.proofs.CutWords.{IsWordWrite, frame_shaped, inputs_words, step_leaves}
use Rattle.xt_uses.proofs.LaterFrames.{FromValues, access_same, from_values, step_mark, step_told, write_same}
use Rattle.xt_uses.proofs.LaterHistories.{judged_or_idle}
use Rattle.xt_uses.proofs.LaterUses.{uses_later}
use Rattle.xt_uses.proofs.WholeBytes.{reply_known}
use Rattle.xt_uses.proofs.WholeIdle.{idle_judged}
use Rattle.xt_uses.proofs.WholeRows.{and_all}
use Rattle.xt_uses.proofs.WholeRuns.{Agrees, agrees_to, byte_known, fetched_at}
use Rattle.xt_uses.proofs.WholeSteps.{Steps}
use Rattle.xt_uses.proofs.WholeTurns.{same_values}

memory_kept : (m : MemoryContents) (es : List Entry) → IsMemory m → IsMemory (memory_after m es)
memory_kept m [] h = h
memory_kept m (e ∷ es) h = memory_kept (memory_past m e.access) es (past_memory m e.access h)

write_word : (o : Option RegWrite) → ((w : RegWrite) → o ≡ Some w → IsWord w.value) → IsWordWrite o × IsWord (value_in o)
write_word None h = (tt, omega arith)
write_word (Some w) h = (h w refl, h w refl)

module _ (r : Course) (h : History) (opening : MemoryContents) (p q : ℕ) (found : Option Breach) (ordinary : IsOrdinary r) (tells : TellsWords r) (memory : IsMemory opening) (is : IsHistory Lenient r h) (unbroken : IsUnbroken r p) (order : p ≤ q) (y : IsFirstUse r h q found) (runs : IsUseRun r opening) where
  module _ (i core : ℕ) (rec : StepRecord) (l : i < p) (j : IsJudgedTurn r i core rec) where
    before : Agrees r h i
    before = agrees_to r h i ordinary is (λ k c o b t. unbroken k c o (omega (arith, b, l)) t)

    behind : Agrees r h (suc i)
    behind = agrees_to r h (suc i) ordinary is (λ k c o b t. unbroken k c o (omega (arith, b, l)) t)

    abbrev nested : Bool
    nested = is_nested (phase_before r core i)

    abbrev f : FrameState
    f = frame_before r core i

    abbrev u : FrameTurn
    u = step_at r i core rec

    abbrev t : UseTurn
    t = use_at r h i core rec

    fits : FitsStep r h opening i core rec
    fits = runs Lenient h q found is y i core rec (omega (arith, l, order)) j

    frame : (h.state core i).frame ≡ f
    frame = before.frame i core (omega arith)

    steps : Steps f (fetched_at r i core rec) u t
    steps = behind.steps i core rec (omega arith) j

    abbrev stale : ℕ → Bool
    stale = (unbroken i core rec l j.turn).stale

    abbrev fresh : Bool
    fresh = not (unbroken i core rec l j.turn).lost

    none : breach_of (r.bounds core) fresh r.code (live_before r i) stale nested rec f ≡ None
    none =
        let shows = unbroken i core rec l j.turn in
        sym (cond-true (is_judged (phase_before r core i) rec.kind) (breach_of (r.bounds core) fresh r.code (live_before r i) stale nested rec f) (handler_shows r.code (phase_before r core i) rec f) j.judged) ∙ shows.shown

    told : loads_stale (live_before r i) stale rec.access ≡ false → touches_save_area (live_before r i) rec.access ≡ false → reply_mask (h.mask i) rec.access ≡ all_bits
    told = reply_known (live_before r i) stale (h.mask i) (byte_known r h i ordinary is before stale (unbroken i core rec l j.turn).is_stale) rec.access

    values : FromValues t u
    values = subst (λ v. FromValues t v)
        (ap (λ g. value_step r.code (begins nested rec.kind g) (value_in rec.write) (inputs_of rec) g) frame
        ∙ same_values r.code (r.bounds core) fresh (live_before r i) stale nested rec (h.mask i) told (h.state core i).masks f (before.whole i core (omega arith)) none)
        (from_values r.code nested rec (h.mask i) (h.state core i))

    marked : receives_mark (step_insn t.turn.kind (fetched_at r i core rec)) f.nested ≡ true → (w : RegWrite) → u.write ≡ Some w → w.value ≡ value_in rec.write
    marked m w e = step_mark r.code nested rec f w (ap (λ k. receives_mark (step_insn k (fetched_at r i core rec)) f.nested) (sym steps.kind) ∙ m) e

    left : is_some t.turn.write ≡ true → (t.mask ≡ all_bits) ⊎ ((w : RegWrite) → u.write ≡ Some w → w.value ≡ value_in rec.write)
    left some = ⊎_elim
        (λ n. absurd (both_ways (is_some t.turn.write) n some))
        (λ n. ⊎_elim
        (λ m. inr (marked m))
        (λ e. inl (eqb-true t.mask all_bits e))
        (or_cases (receives_mark (step_insn t.turn.kind (fetched_at r i core rec)) f.nested) (eqb t.mask all_bits) (not-false _ n)))
        (and_cases (is_some t.turn.write) (not (receives_mark (step_insn t.turn.kind (fetched_at r i core rec)) f.nested || eqb t.mask all_bits)) steps.written)

    access : rec.access ≡ u.access
    access = access_same rec.access t.turn.access (subst (λ n. AccessFits n rec.access t.turn.access) steps.stored fits.access) (λ a v at k. tells.stores i core rec a v j.turn at k) ∙ values.0

    pub step_is : IsStepOf rec (place_on nested rec f) u
    step_is =
        let own = write_word rec.write (λ w e. tells.writes i core rec w j.turn e) in
        record {
          place = fits.place ∙ ap (place_on nested rec) frame;
          kind = fits.kind ∙ steps.kind;
          write = write_same t.mask rec.write t.turn.write u.write fits.write values.1 left own.0 ((step_leaves r.code nested rec f ordinary.code (inputs_words rec (ordinary.inputs i core rec j.turn)) (frame_shaped r ordinary core i)).1 own.1);
          access = access;
        }

    pub reply_is : (a : Access) → rec.access ≡ Some a → rec.reply ≡ reply_to (memory_after opening (entries_before r i)) a
    reply_is a at =
        let m : MemoryContents = memory_after opening (entries_before r i) in
        let tested = step_told r.code nested rec (r.bounds core) fresh (live_before r i) stale f a none (sym access ∙ at) in
        let all = told tested.0 tested.1 in
        let agree : AgreeIn (reply_mask (h.mask i) rec.access) rec.reply (reply_to m a) = subst (λ o. ReplyFits (reply_mask (h.mask i) rec.access) m o rec.reply) at fits.reply in
        sym (ap (λ k. masked k rec.reply) all ∙ and_all rec.reply (ordinary.inputs i core rec j.turn).2)
        ∙ (agree ∙ (ap (λ k. masked k (reply_to m a)) all ∙ and_all (reply_to m a) (to_small m a (memory_kept opening (entries_before r i) memory) (tells.served i core rec a j.turn at))))

  -- ---- the accesses
  legal_more : (n : ℕ) → n < p → IsLegal opening (entries_before r n) → (o : Option Turn) → slice_get r.turns n ≡ o → IsLegal opening (entries_before r n ++ entries_in r n o)
  legal_more n l h None e = subst (λ es. IsLegal opening es) (sym (append-nil (entries_before r n))) h
  legal_more n l h (Some t) e = ⊎_elim
      (λ judged.
      subst (λ es. IsLegal opening (entries_before r n ++ es)) (sym (cond-true (is_judged (phase_before r t.core n) t.rec.kind) (entry_of t.core t.rec.access t.rec.reply) [] judged))
      (by t.rec.access refl (record { turn = e; judged = judged })))
      (λ skipped.
      subst (λ es. IsLegal opening (entries_before r n ++ es)) (sym (cond-false (is_judged (phase_before r t.core n) t.rec.kind) (entry_of t.core t.rec.access t.rec.reply) [] skipped))
      (subst (λ es. IsLegal opening es) (sym (append-nil (entries_before r n))) h))
      (cases_Bool (is_judged (phase_before r t.core n) t.rec.kind))
    where
      by : (a : Option Access) → t.rec.access ≡ a → IsJudgedTurn r n t.core t.rec → IsLegal opening (entries_before r n ++ entry_of t.core a t.rec.reply)
      by None at j = subst (λ es. IsLegal opening es) (sym (append-nil (entries_before r n))) h
      by (Some a) at j = legal_push opening (entries_before r n) (record { core = t.core; access = a; reply = t.rec.reply }) h (reply_is n t.core t.rec l j a at)

  legal_to : (n : ℕ) → n ≤ p → IsLegal opening (entries_before r n)
  legal_to zero l = λ k e at. absurd (none-some e at)
  legal_to (suc n) l = legal_more n (omega (arith, l)) (legal_to n (omega (arith, l))) (slice_get r.turns n) refl

  -- ---- the records of a core
  trace_push : (f : FrameState) (js : List (Bool × StepRecord)) (j : Bool × StepRecord) → IsFrameTrace r.code f js → IsStepOf j.1 (place_on j.0 j.1 (frames_past r.code f js)) (step_on r.code j.0 j.1 (frames_past r.code f js)) → IsFrameTrace r.code f (js ++ j ∷ [])
  trace_push f [] j h k = (k, tt)
  trace_push f (x ∷ xs) j h k = (h.0, trace_push (step_on r.code x.0 x.1 f).after xs j h.1 k)

  none_judged : (core : ℕ) → IsFrameTrace r.code (r.opening core) (judged_before r core 0)
  unfolding judged_before records_before
  none_judged core = tt

  frame_is : (core n : ℕ) → frame_before r core n ≡ frames_past r.code (r.opening core) (judged_before r core n)
  unfolding frame_before
  frame_is core n = refl

  trace_to : (core n : ℕ) → n ≤ p → IsFrameTrace r.code (r.opening core) (judged_before r core n)
  trace_to core zero l = none_judged core
  trace_to core (suc n) l = ⊎_elim
      (λ j.
      let nested : Bool = is_nested (phase_before r core n) in
      let step : IsStepOf j.0 (place_on nested j.0 (frames_past r.code (r.opening core) (judged_before r core n))) (step_on r.code nested j.0 (frames_past r.code (r.opening core) (judged_before r core n))) =
      subst (λ g. IsStepOf j.0 (place_on nested j.0 g) (step_on r.code nested j.0 g)) (frame_is core n) (step_is n core j.0 (omega (arith, l)) j.1) in
      subst (λ js. IsFrameTrace r.code (r.opening core) js) (sym (own_judged r n core j.0 j.1.turn j.1.judged))
      (trace_push (r.opening core) (judged_before r core n) (nested, j.0) (trace_to core n (omega (arith, l))) step))
      (λ idle. subst (λ js. IsFrameTrace r.code (r.opening core) js) (sym (idle_judged r n core idle)) (trace_to core n (omega (arith, l))))
      (judged_or_idle r n core)

pub use_run_frames : UseRunIsFrameRun
use_run_frames r h opening p q breach found ordinary tells memory is x y runs =
    let order = (uses_later r h p q breach found ordinary is x y).0 in (
      trace_to r h opening p q found ordinary tells memory is x.before order y runs 0 p (omega arith),
      trace_to r h opening p q found ordinary tells memory is x.before order y runs 1 p (omega arith),
      legal_to r h opening p q found ordinary tells memory is x.before order y runs p (omega arith),
    )
