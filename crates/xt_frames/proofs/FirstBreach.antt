-- The walk of the judge finds the first breach of a run: what it keeps at each turn is what is said by the turns before it.
use Rattle.std.proofs.Common.{◌≡◌, ℕ, zero, suc, ◌<◌, ◌≤◌, Bool, true, false, ◌==◌, not, List, [], ◌∷◌, Option, Some, None, sym, ap, ◌∙◌, refl, arith, ⊎_elim, subst, length, drop, Decides}
use Rattle.std.proofs.Math.Bool.{or_comm}
use Rattle.std.proofs.lemmas.Bool.{cond-true, cond-false, cases_Bool, both_ways, not-true, not-false, false≢true}
use Rattle.std.proofs.lemmas.Option.{slice_get_within}
use Rattle.xt_map.specs.declared.access.Entry.{Entry}
use Rattle.xt_trace.specs.declared.record.StepRecord.{StepRecord}
use Rattle.xt_frames.specs.declared.kinds.BreachKind.{BreachKind}
use Rattle.xt_frames.specs.Frames.{FrameState}
use Rattle.xt_frames.specs.FrameStep.{with_inputs}
use Rattle.xt_frames.specs.Nesting.{current, is_nesting}
use Rattle.xt_frames.specs.SaveAreas.{is_live}
use Rattle.xt_frames.specs.declared.kinds.HandlerPhase.{HandlerPhase}
use Rattle.xt_frames.specs.declared.kinds.HandlerPhase.TheVariants.{Outside, InHandler, Nested}
use Rattle.xt_frames.specs.HandlerSteps.{is_window, phase_after}
use Rattle.xt_frames.specs.Breaches.{Bounds, breach_of, inputs_of, stale_after, window_breach}
use Rattle.xt_frames.specs.Judging.{Breaks, Handled, Judges, Seen, Standing, fresh_on, handled_record, live_of, seen_record, seen_in, seen_judged, seen_step, seen_window}
use Rattle.xt_frames.specs.Verdict.{Judgement, Known, is_nested, judgement, opening_known, passed_0, passed_1, past_handled_0, past_handled_1, past_judged_0, past_judged_1, seen_0, seen_1}
use Rattle.xt_frames.specs.FirstBreach.{Course, IsJudgement, IsLost, IsStale, IsTurn, Shows, Turn, WalkFindsFirstBreach, by_core, entries_before, frame_before, handler_shows, is_judged, judged_before, live_before, phase_before, records_before, step_at, turn_of, turns}
use Rattle.xt_frames.proofs.Prefixes.{before_or_at, drop_get, drop_none, drop_rest, kept_entries, kept_frame, other_frame, other_judged, other_phase, other_records, own_count, own_entries, own_frame, own_judged, own_phase, own_skipped, same_turn}
use Rattle.xt_frames.proofs.Earlier.{lost_handled, lost_judged, lost_other, stale_handled, stale_judged}

double_not : (b : Bool) → not (not b) ≡ b
double_not true = refl
double_not false = refl

-- ---- what the walk sees of a record

-- of a handler step
abbrev seen_handler : Option BreachKind → FrameState → HandlerPhase → Seen
seen_handler None f after = Handled (record { frame = f; fresh = false; phase = after })
seen_handler (Some kind) f after = Breaks kind

handler_window : (o : Option BreachKind) (f : FrameState) (after : HandlerPhase) → after ≡ InHandler → seen_window o f ≡ seen_handler o f after
handler_window None f after e = ap (λ m. Handled (record { frame = f; fresh = false; phase = m })) (sym e)
handler_window (Some kind) f after e = refl

seen_as_judged : (phase : HandlerPhase) (code : ℕ → ℕ) (b : Bounds) (s : Standing) (others stale : ℕ → Bool) (rec : StepRecord) → is_judged phase rec.kind ≡ true → seen_in phase code b s others stale rec ≡ seen_judged code b s others stale (is_nested phase) rec
seen_as_judged Outside code b s others stale rec j = cond-false (is_window rec.kind) (seen_window (window_breach code rec.kind (with_inputs (inputs_of rec) (current s.frame))) s.frame) (seen_judged code b s others stale false rec) (not-true (is_window rec.kind) j)
seen_as_judged InHandler code b s others stale rec j = cond-true (is_nesting rec.kind) (seen_judged code b s others stale true rec) (handled_record code s rec) j
seen_as_judged Nested code b s others stale rec j = refl

seen_as_handler : (phase : HandlerPhase) (code : ℕ → ℕ) (b : Bounds) (f : FrameState) (fresh : Bool) (others stale : ℕ → Bool) (rec : StepRecord) → is_judged phase rec.kind ≡ false → seen_record code b (record { frame = f; fresh = fresh; phase = phase }) others stale rec ≡ seen_handler (handler_shows code phase rec f) f (phase_after code phase rec)
seen_as_handler Outside code b f fresh others stale rec j =
    let w = not-false (is_window rec.kind) j in
    let s : Standing = record { frame = f; fresh = fresh; phase = Outside } in
    let o = window_breach code rec.kind (with_inputs (inputs_of rec) (current f)) in
    cond-true (is_window rec.kind) (seen_window o f) (seen_judged code b s others stale false rec) w
    ∙ handler_window o f (phase_after code Outside rec) (cond-true (is_window rec.kind) InHandler Outside w)
seen_as_handler InHandler code b f fresh others stale rec j =
    let s : Standing = record { frame = f; fresh = fresh; phase = InHandler } in
    cond-false (is_nesting rec.kind) (seen_judged code b s others stale true rec) (handled_record code s rec) j
seen_as_handler Nested code b f fresh others stale rec j = absurd (both_ways true j refl)

-- ---- what it keeps before a turn
abbrev standing_at : Course → ℕ → ℕ → Bool → Standing
standing_at r core p lost = record { frame = frame_before r core p; fresh = not lost; phase = phase_before r core p }

standing_same : (f g : FrameState) (x y : Bool) (m n : HandlerPhase) → f ≡ g → x ≡ y → m ≡ n → ◌≡◌ {A = Standing} (record { frame = f; fresh = x; phase = m }) (record { frame = g; fresh = y; phase = n })
standing_same f g x y m n a b c = λ i. record { frame = a i; fresh = b i; phase = c i }

-- what the walk sees of turn p, and what it keeps before the next
data Outcome (r : Course) (p core : ℕ) (rec : StepRecord) (stale : ℕ → Bool) (out : Seen) : Type 0 where
  breaks : (kind : BreachKind) → out ≡ Breaks kind → Shows r p core rec (Some kind) → Outcome r p core rec stale out
  judges : (lost : Bool) (after : ℕ → Bool) → out ≡ Judges (standing_at r core (suc p) lost) after → Decides lost (IsLost r core (suc p)) → ((a : ℕ) → Decides (after a) (IsStale r (suc p) a)) → is_judged (phase_before r core p) rec.kind ≡ true → Shows r p core rec None → Outcome r p core rec stale out
  handles : out ≡ Handled (standing_at r core (suc p) true) → ((a : ℕ) → Decides (stale a) (IsStale r (suc p) a)) → is_judged (phase_before r core p) rec.kind ≡ false → Shows r p core rec None → Outcome r p core rec stale out

module _ (r : Course) (core other : ℕ) (apart : (core == other) ≡ false) (live_is : (q : ℕ) → live_of (r.bounds core) (frame_before r core q) (is_live (r.bounds other).range (frame_before r other q)) ≡ live_before r q) (p : ℕ) (rec : StepRecord) (turn : IsTurn r p core rec) (lost : Bool) (is_lost : Decides lost (IsLost r core p)) (stale : ℕ → Bool) (is_stale : (a : ℕ) → Decides (stale a) (IsStale r p a)) where
  abbrev others : ℕ → Bool
  others = is_live (r.bounds other).range (frame_before r other p)

  abbrev out : Seen
  out = seen_record r.code (r.bounds core) (standing_at r core p lost) others stale rec

  abbrev found : Option BreachKind
  found = breach_of (r.bounds core) (not lost) r.code (live_before r p) stale (is_nested (phase_before r core p)) rec (frame_before r core p)

  abbrev told : Option BreachKind
  told = handler_shows r.code (phase_before r core p) rec (frame_before r core p)

  shows_found : (o : Option BreachKind) → is_judged (phase_before r core p) rec.kind ≡ true → found ≡ o → Shows r p core rec o
  shows_found o j e = record { lost = lost; is_lost = is_lost; stale = stale; is_stale = is_stale; shown = cond-true (is_judged (phase_before r core p) rec.kind) found told j ∙ e }

  shows_told : (o : Option BreachKind) → is_judged (phase_before r core p) rec.kind ≡ false → told ≡ o → Shows r p core rec o
  shows_told o j e = record { lost = lost; is_lost = is_lost; stale = stale; is_stale = is_stale; shown = cond-false (is_judged (phase_before r core p) rec.kind) found told j ∙ e }

  -- a judged step
  abbrev after_found : Option BreachKind → Seen
  after_found o = seen_step o r.code (r.bounds core) (standing_at r core p lost) others stale (is_nested (phase_before r core p)) rec

  out_judged : is_judged (phase_before r core p) rec.kind ≡ true → out ≡ after_found found
  out_judged j =
      seen_as_judged (phase_before r core p) r.code (r.bounds core) (standing_at r core p lost) others stale rec j
      ∙ ap (λ (live : ℕ → Bool). after_found (breach_of (r.bounds core) (not lost) r.code live stale (is_nested (phase_before r core p)) rec (frame_before r core p))) (live_is p)

  abbrev fresh_next : Bool
  fresh_next = fresh_on (not lost) r.code (is_nested (phase_before r core p)) rec (frame_before r core p)

  abbrev stale_next : ℕ → Bool
  stale_next = stale_after (live_before r (suc p)) (live_before r p) stale rec.access

  live_next : is_judged (phase_before r core p) rec.kind ≡ true → live_of (r.bounds core) (step_at r p core rec).after others ≡ live_before r (suc p)
  live_next j =
      ap (λ f. live_of (r.bounds core) f others) (sym (own_frame r p core rec turn j))
      ∙ (ap (λ g. live_of (r.bounds core) (frame_before r core (suc p)) (is_live (r.bounds other).range g)) (sym (other_frame r p core rec turn other apart)) ∙ live_is (suc p))

  standing_next : is_judged (phase_before r core p) rec.kind ≡ true → ◌≡◌ {A = Standing} (record { frame = (step_at r p core rec).after; fresh = fresh_next; phase = phase_after r.code (phase_before r core p) rec }) (standing_at r core (suc p) (not fresh_next))
  standing_next j = standing_same (step_at r p core rec).after (frame_before r core (suc p)) fresh_next (not (not fresh_next)) (phase_after r.code (phase_before r core p) rec) (phase_before r core (suc p)) (sym (own_frame r p core rec turn j)) (sym (double_not fresh_next)) (sym (own_phase r p core rec turn))

  judges_next : is_judged (phase_before r core p) rec.kind ≡ true → after_found None ≡ Judges (standing_at r core (suc p) (not fresh_next)) stale_next
  judges_next j =
      ap (λ (s : Standing). Judges s (stale_after (live_of (r.bounds core) (step_at r p core rec).after others) (live_of (r.bounds core) (frame_before r core p) others) stale rec.access)) (standing_next j)
      ∙ (ap (λ live. Judges (standing_at r core (suc p) (not fresh_next)) (stale_after live (live_of (r.bounds core) (frame_before r core p) others) stale rec.access)) (live_next j)
      ∙ ap (λ live. Judges (standing_at r core (suc p) (not fresh_next)) (stale_after (live_before r (suc p)) live stale rec.access)) (live_is p))

  outcome_judged : is_judged (phase_before r core p) rec.kind ≡ true → (o : Option BreachKind) → found ≡ o → Outcome r p core rec stale out
  outcome_judged j (Some kind) e = breaks kind (out_judged j ∙ ap after_found e) (shows_found (Some kind) j e)
  outcome_judged j None e = judges
      (not fresh_next)
      stale_next
      (out_judged j ∙ (ap after_found e ∙ judges_next j))
      (lost_judged r p core rec turn (not lost) j (subst (λ x. Decides x (IsLost r core p)) (sym (double_not lost)) is_lost))
      (λ a. stale_judged r p core rec turn stale a j (is_stale a))
      j
      (shows_found None j e)

  -- a handler step
  abbrev after_told : Option BreachKind → Seen
  after_told o = seen_handler o (frame_before r core p) (phase_after r.code (phase_before r core p) rec)

  out_told : is_judged (phase_before r core p) rec.kind ≡ false → out ≡ after_told told
  out_told j = seen_as_handler (phase_before r core p) r.code (r.bounds core) (frame_before r core p) (not lost) others stale rec j

  handles_next : is_judged (phase_before r core p) rec.kind ≡ false → after_told None ≡ Handled (standing_at r core (suc p) true)
  handles_next j = ap (λ (s : Standing). Handled s) (standing_same (frame_before r core p) (frame_before r core (suc p)) false false (phase_after r.code (phase_before r core p) rec) (phase_before r core (suc p)) (sym (kept_frame r p core rec turn j)) refl (sym (own_phase r p core rec turn)))

  live_kept : is_judged (phase_before r core p) rec.kind ≡ false → (a : ℕ) → live_before r (suc p) a ≡ live_before r p a
  live_kept j a =
      ap (λ live. live a) (sym (live_is (suc p)))
      ∙ (ap (λ f. live_of (r.bounds core) f (is_live (r.bounds other).range (frame_before r other (suc p))) a) (kept_frame r p core rec turn j)
      ∙ (ap (λ g. live_of (r.bounds core) (frame_before r core p) (is_live (r.bounds other).range g) a) (other_frame r p core rec turn other apart)
      ∙ ap (λ live. live a) (live_is p)))

  outcome_handled : is_judged (phase_before r core p) rec.kind ≡ false → (o : Option BreachKind) → told ≡ o → Outcome r p core rec stale out
  outcome_handled j (Some kind) e = breaks kind (out_told j ∙ ap after_told e) (shows_told (Some kind) j e)
  outcome_handled j None e = handles
      (out_told j ∙ (ap after_told e ∙ handles_next j))
      (λ a. stale_handled r p core rec turn (stale a) a j (live_kept j a) (is_stale a))
      j
      (shows_told None j e)

  outcome : Outcome r p core rec stale out
  outcome = ⊎_elim (λ j. outcome_judged j found refl) (λ j. outcome_handled j told refl) (cases_Bool (is_judged (phase_before r core p) rec.kind))

-- ---- the walk
abbrev made : Standing → Standing → (ℕ → Bool) → ℕ → ℕ → List (Bool × StepRecord) → List (Bool × StepRecord) → List Entry → Known
made s t stale m n xs ys es = record { standing0 = s; standing1 = t; stale = stale; steps0 = m; steps1 = n; judged0 = xs; judged1 = ys; entries = es }

made_same : (s s' t t' : Standing) (stale : ℕ → Bool) (m m' n n' : ℕ) (xs xs' ys ys' : List (Bool × StepRecord)) (es es' : List Entry) → s ≡ s' → t ≡ t' → m ≡ m' → n ≡ n' → xs ≡ xs' → ys ≡ ys' → es ≡ es' → made s t stale m n xs ys es ≡ made s' t' stale m' n' xs' ys' es'
made_same s s' t t' stale m m' n n' xs xs' ys ys' es es' a b c d e f g = λ i. made (a i) (b i) stale (c i) (d i) (e i) (f i) (g i)

abbrev known_at : Course → ℕ → Bool → Bool → (ℕ → Bool) → Known
known_at r p lost0 lost1 stale = made (standing_at r 0 p lost0) (standing_at r 1 p lost1) stale (length (records_before r 0 p)) (length (records_before r 1 p)) (judged_before r 0 p) (judged_before r 1 p) (entries_before r p)

abbrev IsQuiet : Course → ℕ → Type 0
IsQuiet r p = (i core : ℕ) (rec : StepRecord) → i < p → IsTurn r i core rec → Shows r i core rec None

record Reached (r : Course) (p : ℕ) (lost0 lost1 : Bool) (stale : ℕ → Bool) : Type 0 where
  quiet : IsQuiet r p
  within : p ≤ length r.turns
  is_lost0 : Decides lost0 (IsLost r 0 p)
  is_lost1 : Decides lost1 (IsLost r 1 p)
  is_stale : (a : ℕ) → Decides (stale a) (IsStale r p a)

quiet_more : (r : Course) (p core : ℕ) (rec : StepRecord) → IsTurn r p core rec → IsQuiet r p → Shows r p core rec None → IsQuiet r (suc p)
quiet_more r p core rec turn h now i c q l t = ⊎_elim
    (λ b. h i c q b t)
    (λ e.
    let at : IsTurn r p c q = subst (λ x. IsTurn r x c q) e t in
    let here : Shows r p c q None = subst (λ (x : Turn). Shows r p x.core x.rec None) (same_turn r p core rec turn c q at) now in
    subst (λ x. Shows r x c q None) (sym e) here)
    (before_or_at i p l)

within_more : (r : Course) (p core : ℕ) (rec : StepRecord) → IsTurn r p core rec → suc p ≤ length r.turns
within_more r p core rec turn = slice_get_within r.turns p (turn_of core rec) turn

other_standing : (r : Course) (p core : ℕ) (rec : StepRecord) → IsTurn r p core rec → (other : ℕ) (lost : Bool) → (core == other) ≡ false → standing_at r other p lost ≡ standing_at r other (suc p) lost
other_standing r p core rec turn other lost apart = standing_same (frame_before r other p) (frame_before r other (suc p)) (not lost) (not lost) (phase_before r other p) (phase_before r other (suc p)) (sym (other_frame r p core rec turn other apart)) refl (sym (other_phase r p core rec turn other apart))

module _ (r : Course) (p : ℕ) (rec : StepRecord) (lost0 lost1 : Bool) (stale : ℕ → Bool) (s : Reached r p lost0 lost1 stale) (rest : Known → Judgement) where
  abbrev here : Known
  here = known_at r p lost0 lost1 stale

  broken : (core : ℕ) (kind : BreachKind) → IsTurn r p core rec → Shows r p core rec (Some kind) → IsJudgement r (record { known = here; breach = Some (record { core = core; step = length (records_before r core p); kind = kind }) })
  broken core kind turn shows = record {
    place = p;
    first = record { before = s.quiet; here = record { rec = rec; turn = turn; number = refl; shows = shows } };
    judged0 = refl;
    judged1 = refl;
    entries = refl;
  }

  module _ (turn : IsTurn r p 0 rec) (more : (lost : Bool) (after : ℕ → Bool) → Reached r (suc p) lost lost1 after → IsJudgement r (rest (known_at r (suc p) lost lost1 after))) where
    judged_0 : (lost : Bool) (after : ℕ → Bool) → is_judged (phase_before r 0 p) rec.kind ≡ true → past_judged_0 (standing_at r 0 (suc p) lost) after rec here ≡ known_at r (suc p) lost lost1 after
    judged_0 lost after j = made_same _ _ _ _ after _ _ _ _ _ _ _ _ _ _ refl (other_standing r p 0 rec turn 1 lost1 refl) (own_count r p 0 rec turn) (ap length (sym (other_records r p 0 rec turn 1 refl))) (sym (own_judged r p 0 rec turn j)) (sym (other_judged r p 0 rec turn 1 refl)) (sym (own_entries r p 0 rec turn j))

    handled_0 : is_judged (phase_before r 0 p) rec.kind ≡ false → past_handled_0 (standing_at r 0 (suc p) true) here ≡ known_at r (suc p) true lost1 stale
    handled_0 j = made_same _ _ _ _ stale _ _ _ _ _ _ _ _ _ _ refl (other_standing r p 0 rec turn 1 lost1 refl) (own_count r p 0 rec turn) (ap length (sym (other_records r p 0 rec turn 1 refl))) (sym (own_skipped r p 0 rec turn j)) (sym (other_judged r p 0 rec turn 1 refl)) (sym (kept_entries r p 0 rec turn j))

    reached_0 : (lost : Bool) (after : ℕ → Bool) → Decides lost (IsLost r 0 (suc p)) → ((a : ℕ) → Decides (after a) (IsStale r (suc p) a)) → Shows r p 0 rec None → Reached r (suc p) lost lost1 after
    reached_0 lost after d e shows = record {
      quiet = quiet_more r p 0 rec turn s.quiet shows;
      within = within_more r p 0 rec turn;
      is_lost0 = d;
      is_lost1 = lost_other r p 0 rec turn 1 lost1 refl s.is_lost1;
      is_stale = e;
    }

    goes_on_0 : (sight : Seen) → Outcome r p 0 rec stale sight → IsJudgement r (passed_0 sight here rec rest)
    goes_on_0 sight (breaks kind e shows) = subst (λ x. IsJudgement r (passed_0 x here rec rest)) (sym e) (broken 0 kind turn shows)
    goes_on_0 sight (judges lost after e d f j shows) = subst (λ x. IsJudgement r (passed_0 x here rec rest)) (sym e) (subst (λ x. IsJudgement r (rest x)) (sym (judged_0 lost after j)) (more lost after (reached_0 lost after d f shows)))
    goes_on_0 sight (handles e f j shows) = subst (λ x. IsJudgement r (passed_0 x here rec rest)) (sym e) (subst (λ x. IsJudgement r (rest x)) (sym (handled_0 j)) (more true stale (reached_0 true stale (lost_handled r p 0 rec turn j) f shows)))

  module _ (turn : IsTurn r p 1 rec) (more : (lost : Bool) (after : ℕ → Bool) → Reached r (suc p) lost0 lost after → IsJudgement r (rest (known_at r (suc p) lost0 lost after))) where
    judged_1 : (lost : Bool) (after : ℕ → Bool) → is_judged (phase_before r 1 p) rec.kind ≡ true → past_judged_1 (standing_at r 1 (suc p) lost) after rec here ≡ known_at r (suc p) lost0 lost after
    judged_1 lost after j = made_same _ _ _ _ after _ _ _ _ _ _ _ _ _ _ (other_standing r p 1 rec turn 0 lost0 refl) refl (ap length (sym (other_records r p 1 rec turn 0 refl))) (own_count r p 1 rec turn) (sym (other_judged r p 1 rec turn 0 refl)) (sym (own_judged r p 1 rec turn j)) (sym (own_entries r p 1 rec turn j))

    handled_1 : is_judged (phase_before r 1 p) rec.kind ≡ false → past_handled_1 (standing_at r 1 (suc p) true) here ≡ known_at r (suc p) lost0 true stale
    handled_1 j = made_same _ _ _ _ stale _ _ _ _ _ _ _ _ _ _ (other_standing r p 1 rec turn 0 lost0 refl) refl (ap length (sym (other_records r p 1 rec turn 0 refl))) (own_count r p 1 rec turn) (sym (other_judged r p 1 rec turn 0 refl)) (sym (own_skipped r p 1 rec turn j)) (sym (kept_entries r p 1 rec turn j))

    reached_1 : (lost : Bool) (after : ℕ → Bool) → Decides lost (IsLost r 1 (suc p)) → ((a : ℕ) → Decides (after a) (IsStale r (suc p) a)) → Shows r p 1 rec None → Reached r (suc p) lost0 lost after
    reached_1 lost after d e shows = record {
      quiet = quiet_more r p 1 rec turn s.quiet shows;
      within = within_more r p 1 rec turn;
      is_lost0 = lost_other r p 1 rec turn 0 lost0 refl s.is_lost0;
      is_lost1 = d;
      is_stale = e;
    }

    goes_on_1 : (sight : Seen) → Outcome r p 1 rec stale sight → IsJudgement r (passed_1 sight here rec rest)
    goes_on_1 sight (breaks kind e shows) = subst (λ x. IsJudgement r (passed_1 x here rec rest)) (sym e) (broken 1 kind turn shows)
    goes_on_1 sight (judges lost after e d f j shows) = subst (λ x. IsJudgement r (passed_1 x here rec rest)) (sym e) (subst (λ x. IsJudgement r (rest x)) (sym (judged_1 lost after j)) (more lost after (reached_1 lost after d f shows)))
    goes_on_1 sight (handles e f j shows) = subst (λ x. IsJudgement r (passed_1 x here rec rest)) (sym e) (subst (λ x. IsJudgement r (rest x)) (sym (handled_1 j)) (more true stale (reached_1 true stale (lost_handled r p 1 rec turn j) f shows)))

-- the live bytes do not depend on which core is looked at first
live_0 : (r : Course) (q : ℕ) → live_of (r.bounds 0) (frame_before r 0 q) (is_live (r.bounds 1).range (frame_before r 1 q)) ≡ live_before r q
live_0 r q = refl

live_1 : (r : Course) (q : ℕ) → live_of (r.bounds 1) (frame_before r 1 q) (is_live (r.bounds 0).range (frame_before r 0 q)) ≡ live_before r q
live_1 r q = λ i a. or_comm (is_live (r.bounds 1).range (frame_before r 1 q) a) (is_live (r.bounds 0).range (frame_before r 0 q) a) i

module _ (r : Course) where
  ended : (p : ℕ) (lost0 lost1 : Bool) (stale : ℕ → Bool) → Reached r p lost0 lost1 stale → drop p r.turns ≡ [] → IsJudgement r (record { known = known_at r p lost0 lost1 stale; breach = None })
  ended p lost0 lost1 stale s e =
      let all = drop_none p r.turns e in
      let within = s.within in
      record {
        place = p;
        first = record { before = s.quiet; here = omega (arith, all, within) };
        judged0 = refl;
        judged1 = refl;
        entries = refl;
      }

  walk : (cores : List ℕ) (xs ys : List StepRecord) (p : ℕ) (lost0 lost1 : Bool) (stale : ℕ → Bool) → Reached r p lost0 lost1 stale → drop p r.turns ≡ turns cores xs ys → IsJudgement r (judgement r.code (r.bounds 0) (r.bounds 1) cores xs ys (known_at r p lost0 lost1 stale))
  walk [] xs ys p lost0 lost1 stale s e = ended p lost0 lost1 stale s e
  walk (zero ∷ cores) [] ys p lost0 lost1 stale s e = ended p lost0 lost1 stale s e
  walk (zero ∷ cores) (x ∷ xs) ys p lost0 lost1 stale s e =
      let turn = drop_get p r.turns (turn_of 0 x) (turns cores xs ys) e in
      goes_on_0
      r
      p
      x
      lost0
      lost1
      stale
      s
      (λ k. judgement r.code (r.bounds 0) (r.bounds 1) cores xs ys k)
      turn
      (λ lost after t. walk cores xs ys (suc p) lost lost1 after t (drop_rest p r.turns (turn_of 0 x) (turns cores xs ys) e))
      (seen_0 r.code (r.bounds 0) (r.bounds 1) (known_at r p lost0 lost1 stale) x)
      (outcome r 0 1 refl (live_0 r) p x turn lost0 s.is_lost0 stale s.is_stale)
  walk (suc core ∷ cores) xs [] p lost0 lost1 stale s e = ended p lost0 lost1 stale s e
  walk (suc core ∷ cores) xs (y ∷ ys) p lost0 lost1 stale s e =
      let turn = drop_get p r.turns (turn_of 1 y) (turns cores xs ys) e in
      goes_on_1
      r
      p
      y
      lost0
      lost1
      stale
      s
      (λ k. judgement r.code (r.bounds 0) (r.bounds 1) cores xs ys k)
      turn
      (λ lost after t. walk cores xs ys (suc p) lost0 lost after t (drop_rest p r.turns (turn_of 1 y) (turns cores xs ys) e))
      (seen_1 r.code (r.bounds 0) (r.bounds 1) (known_at r p lost0 lost1 stale) y)
      (outcome r 1 0 refl (live_1 r) p y turn lost1 s.is_lost1 stale s.is_stale)

-- ---- before the first turn
nothing_lost : (r : Course) (core : ℕ) → Decides false (IsLost r core 0)
nothing_lost r core = (λ e. absurd (false≢true e), λ h. let earlier = h.earlier in absurd (omega (arith, earlier)))

nothing_stale : (r : Course) (a : ℕ) → Decides false (IsStale r 0 a)
nothing_stale r a = (λ e. absurd (false≢true e), λ h. let earlier = h.earlier in absurd (omega (arith, earlier)))

reached_none : (r : Course) → Reached r 0 false false (λ a. false)
reached_none r = record {
  quiet = λ i core rec l t. absurd (omega (arith, l));
  within = omega arith;
  is_lost0 = nothing_lost r 0;
  is_lost1 = nothing_lost r 1;
  is_stale = nothing_stale r;
}

opening_at : (r : Course) → opening_known (r.opening 0) (r.opening 1) ≡ known_at r 0 false false (λ a. false)
unfolding frame_before judged_before phase_before records_before
opening_at r = refl

pub walk_finds : WalkFindsFirstBreach
walk_finds code b0 b1 cores xs ys f0 f1 =
    let r : Course = record { code = code; bounds = by_core b0 b1; opening = by_core f0 f1; turns = turns cores xs ys } in
    subst
    (λ k. IsJudgement r (judgement code b0 b1 cores xs ys k))
    (sym (opening_at r))
    (walk r cores xs ys 0 false false (λ a. false) (reached_none r) refl)
