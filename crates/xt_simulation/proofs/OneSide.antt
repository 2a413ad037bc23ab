-- The relation from one turn to the next, for either core: `core` has the turn, `other` has not.
use Rattle.std.proofs.Common.{◌≡◌, ℕ, suc, Bool, true, false, ◌==◌, ◌&&◌, ◌||◌, not, List, ◌++◌, Option, Some, None, sym, ap, ◌∙◌, refl, ⊎_elim, subst, cond, Decides, append-nil}
use Rattle.std.proofs.lemmas.Bool.{both_ways, cases_Bool, cond-false, cond-true, eq-eqb, false_from_ne_true}
use Rattle.xt_map.specs.declared.access.Access.{Access}
use Rattle.xt_map.specs.declared.access.Entry.{Entry}
use Rattle.xt_map.specs.declared.contents.MemoryContents.{MemoryContents}
use Rattle.xt_map.specs.History.{memory_after}
use Rattle.xt_map.specs.Touching.{IsMemory}
use Rattle.xt_map.proofs.Grown.{memory_after_push}
use Rattle.xt_trace.specs.declared.record.StepRecord.{StepRecord}
use Rattle.xt_map.specs.Code.{AreBytes}
use Rattle.xt_exec.specs.State.{State}
use Rattle.xt_exec.specs.TurnLaws.{IsServed}
use Rattle.xt_exec.proofs.Served.{demand_served}
use Rattle.xt_frames.specs.declared.kinds.HandlerPhase.{HandlerPhase}
use Rattle.xt_frames.specs.declared.kinds.HandlerPhase.TheVariants.{Outside}
use Rattle.xt_frames.specs.HandlerSteps.{phase_after}
use Rattle.xt_frames.specs.SaveAreas.{is_live}
use Rattle.xt_frames.specs.FirstBreach.{Course, IsJudgedTurn, IsTurn, Turn, entries_before, is_judged, phase_before}
use Rattle.xt_frames.specs.Verdict.{entry_of}
use Rattle.xt_frames.proofs.Prefixes.{kept_entries, other_phase, own_entries, own_phase, same_turn}
use Rattle.xt_simulation.specs.Handling.{IsGood}
use Rattle.xt_simulation.specs.JudgedSteps.{fresh_turn}
use Rattle.xt_simulation.specs.Steps.{memory_after_step, memory_now, record_now, reply_at, reply_now, state_now}
use Rattle.xt_simulation.specs.Walking.{Apart}
use Rattle.xt_simulation.proofs.Judges.{record_access, record_reply}
use Rattle.xt_simulation.proofs.Memories.{step_memory}
use Rattle.xt_uses.specs.declared.discipline.Discipline.{Discipline}
use Rattle.xt_uses.specs.FirstUse.{History, IsHistory, IsLost, Shows, live_at, record_use, use_at, writes_at}
use Rattle.xt_uses.specs.UseState.{UseState}
use Rattle.xt_uses.specs.UseStep.{reply_mask}
use Rattle.xt_uses.specs.UseLaws.{FitsStep, ReplyFits}
use Rattle.xt_uses.proofs.RowsAll.{all_agree}
use Rattle.xt_simulation.proofs.Bytes.{KnownEqual, reply_fits, swap_answered}
use Rattle.xt_simulation.proofs.CoreTurn.{CoreNext, fresh_next}
use Rattle.xt_simulation.proofs.Following.{RecordFits}
use Rattle.xt_simulation.proofs.JudgedPlace.{fresh_is, fresh_moved, idle_fresh, place_is}
use Rattle.xt_simulation.proofs.LostTurn.{falls_at, lost_elsewhere, lost_idle, lost_judged, same_answer}
use Rattle.xt_simulation.proofs.MaskWords.{now_small}
use Rattle.xt_simulation.proofs.OneTurn.{InCoreUse}
use Rattle.xt_simulation.proofs.TwoCores.{TwoUse, two_turn}
use Rattle.xt_simulation.proofs.TwoMemories.{MemoriesAlike, idle_alike, judged_alike, known_equal}

-- before turn p, where s is the state of `core` and t that of `other`
pub record Beside (r : Course) (h : History) (p core other : ℕ) (m framed : MemoryContents) (s t : State) : Type 0 where
  pub lost : Bool
  pub later : Bool
  pub is_lost : Decides lost (IsLost r h core p)
  pub is_later : Decides later (IsLost r h other p)
  pub both : TwoUse r.code (phase_before r core p) (phase_before r other p) m (r.bounds core) (r.bounds other) (not lost) (not later) s t (h.state core p) (h.state other p)
  pub alike : MemoriesAlike r h p m framed
  pub frames : IsMemory framed

-- ---- memory of which judged accesses alone have written
entries_past : (opening : MemoryContents) (es : List Entry) (core : ℕ) (o : Option Access) (reply : ℕ) → memory_after opening (es ++ entry_of core o reply) ≡ memory_after_step (memory_after opening es) o
entries_past opening es core None reply = ap (memory_after opening) (append-nil es)
entries_past opening es core (Some access) reply = memory_after_push opening es (record { core = core; access = access; reply = reply })

-- ---- what memory answers
reply_known : (kb : ℕ → ℕ) (real framed : MemoryContents) → IsMemory real → IsMemory framed → KnownEqual kb real framed → (o : Option Access) → IsServed o → ReplyFits (reply_mask kb o) framed o (reply_at real o)
reply_known kb real framed m n same None served = tt
reply_known kb real framed m n same (Some access) served = reply_fits kb real framed m n same access served

module _ (r : Course) (h : History) (bytes : AreBytes r.code) {d : Discipline} (history : IsHistory d r h) (p core other : ℕ) (apart : (core == other) ≡ false) (good : IsGood r.code (r.bounds core)) (good2 : IsGood r.code (r.bounds other))
    (ranges : Apart (r.bounds core).range (r.bounds other).range) (own : (a : ℕ) → is_live (r.bounds core).range (h.state core p).frame a ≡ true → live_at r h p a ≡ true)
    (theirs : (a : ℕ) → is_live (r.bounds other).range (h.state other p).frame a ≡ true → live_at r h p a ≡ true) (opening : MemoryContents) (m : MemoryContents) (s t : State)
    (before : Beside r h p core other m (memory_after opening (entries_before r p)) s t) (turn : IsTurn r p core (record_now r.code m s)) (shows : Shows r h p core (record_now r.code m s) None) where
  abbrev rec : StepRecord
  rec = record_now r.code m s

  abbrev phase : HandlerPhase
  phase = phase_before r core p

  abbrev us : UseState
  us = h.state core p

  abbrev framed : MemoryContents
  framed = memory_after opening (entries_before r p)

  abbrev lost : Bool
  lost = before.lost

  -- ---- the turn
  none : record_use r.code (r.bounds core) phase us lost (live_at r h p) (h.mask p) rec ≡ None
  none = subst (λ z. record_use r.code (r.bounds core) phase us z (live_at r h p) (h.mask p) rec ≡ None) (same_answer shows.lost lost shows.is_lost before.is_lost) shows.shown

  abbrev Next : Type 0
  Next = CoreNext all_agree r.code bytes (r.bounds core) good m before.both.real s before.both.shaped_first us (now_small us before.both.words_first) (live_at r h p) own (h.mask p) phase (not lost)

  abbrev use_next : UseState
  use_next = cond (is_judged phase rec.kind) (use_at r h p core rec).after us

  abbrev fresh : Bool
  fresh = fresh_next phase (not lost) (fresh_turn (not lost) r.code (reply_now r.code m s) s)

  abbrev memory : MemoryContents
  memory = memory_now r.code m s

  turned : Next × TwoUse r.code (phase_after r.code phase rec) (phase_before r other p) memory (r.bounds core) (r.bounds other) fresh (not before.later) (state_now r.code m s) t use_next (h.state other p)
  turned = two_turn all_agree r.code bytes (r.bounds core) (r.bounds other) good good2 ranges phase (phase_before r other p) m lost (not before.later) s t us (h.state other p) (live_at r h p) own theirs (h.mask p) before.both none

  served : IsServed rec.access
  served = subst IsServed (sym (record_access r.code s (reply_now r.code m s))) (demand_served r.code s)

  memory_is : memory ≡ memory_after_step m rec.access
  memory_is = ap (memory_after_step m) (sym (record_access r.code s (reply_now r.code m s)))

  -- ---- the other core
  no_turn : (q : StepRecord) → IsTurn r p other q → ⊥
  no_turn q at = both_ways (core == other) apart (eq-eqb core other (ap (λ (x : Turn). x.core) (same_turn r p core rec turn other q at)))

  other_state : h.state other (suc p) ≡ h.state other p
  other_state = history.stays p other (λ q judged. no_turn q judged.turn)

  -- ---- the relation after it
  module _ (then : Bool) (is_then : Decides then (IsLost r h core (suc p))) (same : phase_after r.code phase rec ≡ Outside → fresh ≡ not then) (state : h.state core (suc p) ≡ use_next)
      (alike : MemoriesAlike r h (suc p) memory (memory_after opening (entries_before r (suc p)))) (frames : IsMemory (memory_after opening (entries_before r (suc p)))) where
    abbrev Pair : HandlerPhase → HandlerPhase → UseState → UseState → Type 0
    Pair one two u v = TwoUse r.code one two memory (r.bounds core) (r.bounds other) (not then) (not before.later) (state_now r.code m s) t u v

    plain_pair : Pair (phase_after r.code phase rec) (phase_before r other p) use_next (h.state other p)
    plain_pair =
        let k = turned.1 in
        record {
          first = fresh_moved r.code (phase_after r.code phase rec) memory (r.bounds core) fresh (not then) (state_now r.code m s) use_next same k.first;
          second = k.second;
          shaped_first = k.shaped_first;
          shaped_second = k.shaped_second;
          real = k.real;
          words_first = k.words_first;
          words_second = k.words_second;
        }

    pair : Pair (phase_before r core (suc p)) (phase_before r other (suc p)) (h.state core (suc p)) (h.state other (suc p))
    pair =
        subst (λ (x : HandlerPhase). Pair x (phase_before r other (suc p)) (h.state core (suc p)) (h.state other (suc p))) (sym (own_phase r p core rec turn))
        (subst (λ (x : HandlerPhase). Pair (phase_after r.code phase rec) x (h.state core (suc p)) (h.state other (suc p))) (sym (other_phase r p core rec turn other apart))
        (subst (λ (u : UseState). Pair (phase_after r.code phase rec) (phase_before r other p) u (h.state other (suc p))) (sym state)
        (subst (λ (v : UseState). Pair (phase_after r.code phase rec) (phase_before r other p) use_next v) (sym other_state) plain_pair)))

    next_side : Beside r h (suc p) core other memory (memory_after opening (entries_before r (suc p))) (state_now r.code m s) t
    next_side = record {
      lost = then;
      later = before.later;
      is_lost = is_then;
      is_later = lost_elsewhere r h other p before.later no_turn before.is_later;
      both = pair;
      alike = alike;
      frames = frames;
    }

  -- ---- a judged turn
  module _ (j : is_judged phase rec.kind ≡ true) where
    judged : IsJudgedTurn r p core rec
    judged = record { turn = turn; judged = j }

    fits : RecordFits (live_at r h p) (h.mask p) rec (use_at r h p core rec)
    fits = turned.0.fits j

    judged_state : use_next ≡ (use_at r h p core rec).after
    judged_state = cond-true (is_judged phase rec.kind) (use_at r h p core rec).after us j

    abbrev then_lost : Bool
    then_lost = not (writes_at r h p core rec || (not lost && not (falls_at r h core p rec judged)))

    framed_is : memory_after opening (entries_before r (suc p)) ≡ memory_after_step framed rec.access
    framed_is = ap (memory_after opening) (own_entries r p core rec turn j) ∙ entries_past opening (entries_before r p) core rec.access rec.reply

    judged_fresh : phase_after r.code phase rec ≡ Outside → fresh ≡ not then_lost
    judged_fresh plain =
        let next : InCoreUse r.code (phase_after r.code phase rec) memory (r.bounds core) fresh (state_now r.code m s) (use_at r h p core rec).after =
        subst (λ (u : UseState). InCoreUse r.code (phase_after r.code phase rec) memory (r.bounds core) fresh (state_now r.code m s) u) judged_state turned.1.first in
        fresh_is r.code m (r.bounds core) s before.both.shaped_first us phase lost fresh (use_at r h p core rec) before.both.first j fits.kind next plain
        ∙ sym (twice (writes_at r h p core rec || (not lost && not (falls_at r h core p rec judged))))
      where
        twice : (b : Bool) → not (not b) ≡ b
        twice true = refl
        twice false = refl

    judged_memories : MemoriesAlike r h (suc p) memory (memory_after opening (entries_before r (suc p)))
    judged_memories =
        let one : (c : ℕ) (q : StepRecord) → IsJudgedTurn r p c q → q ≡ rec = λ c q at. sym (ap (λ (x : Turn). x.rec) (same_turn r p core rec turn c q at.turn)) in
        subst (λ (z : MemoryContents). MemoriesAlike r h (suc p) z (memory_after opening (entries_before r (suc p)))) (sym memory_is)
        (subst (λ (z : MemoryContents). MemoriesAlike r h (suc p) (memory_after_step m rec.access) z) (sym framed_is)
        (judged_alike r h p core rec m framed judged one before.both.real.sizes before.frames.sizes served fits.swaps (history.masks p) before.alike))

    judged_side : Beside r h (suc p) core other memory (memory_after opening (entries_before r (suc p))) (state_now r.code m s) t
    judged_side =
        next_side then_lost (lost_judged r h core p rec judged lost before.is_lost) judged_fresh (history.steps p core rec judged ∙ sym judged_state) judged_memories
        (subst IsMemory (sym framed_is) (step_memory framed rec.access before.frames))

    pub side_fits : FitsStep r h opening p core rec
    side_fits =
        let known = known_equal r h p m framed (history.masks p) before.alike in
        let replies : ReplyFits (reply_mask (h.mask p) rec.access) framed rec.access (reply_at m rec.access) = reply_known (h.mask p) m framed before.both.real before.frames known rec.access served in
        let reply : reply_at m rec.access ≡ rec.reply = ap (reply_at m) (record_access r.code s (reply_now r.code m s)) ∙ sym (record_reply r.code m s) in
        record {
          place = place_is r.code m (r.bounds core) s before.both.shaped_first us phase (not lost) before.both.first j;
          kind = fits.kind;
          write = fits.write;
          access = fits.access;
          reply = subst (λ n. ReplyFits (reply_mask (h.mask p) rec.access) framed rec.access n) reply replies;
          answered = swap_answered (h.mask p) rec.access fits.swaps;
          sent = fits.sent;
        }

  -- ---- a handler step
  module _ (j : is_judged phase rec.kind ≡ false) where
    idle : (c : ℕ) (q : StepRecord) → IsJudgedTurn r p c q → ⊥
    idle c q at =
        let one = same_turn r p core rec turn c q at.turn in
        both_ways (is_judged phase rec.kind) j (subst (λ (x : Turn). is_judged (phase_before r x.core p) x.rec.kind ≡ true) (sym one) at.judged)

    framed_stays : memory_after opening (entries_before r (suc p)) ≡ framed
    framed_stays = ap (memory_after opening) (kept_entries r p core rec turn j)

    idle_memories : MemoriesAlike r h (suc p) memory (memory_after opening (entries_before r (suc p)))
    idle_memories =
        subst (λ (z : MemoryContents). MemoriesAlike r h (suc p) memory z) (sym framed_stays)
        (idle_alike r h p m memory framed idle (λ a dead. turned.0.idle j a (false_from_ne_true _ (λ live. both_ways _ dead (own a live)))) before.alike)

    idle_side : Beside r h (suc p) core other memory (memory_after opening (entries_before r (suc p))) (state_now r.code m s) t
    idle_side =
        next_side true (lost_idle r h core p rec turn j) (idle_fresh r.code rec phase (not lost) (fresh_turn (not lost) r.code (reply_now r.code m s) s) j) (history.stays p core (idle core) ∙ sym (cond-false (is_judged phase rec.kind) (use_at r h p core rec).after us j)) idle_memories
        (subst IsMemory (sym framed_stays) before.frames)

  pub side_turn : Beside r h (suc p) core other memory (memory_after opening (entries_before r (suc p))) (state_now r.code m s) t
  side_turn = ⊎_elim judged_side idle_side (cases_Bool (is_judged phase rec.kind))
