-- The walk finds the first use of a run: what it keeps at each turn is what is said by the turns before it.
use Rattle.std.proofs.Common.{◌≡◌, ℕ, zero, suc, ◌+◌, ◌<◌, ◌≤◌, Bool, true, false, ◌==◌, ◌&&◌, ◌||◌, not, List, [], ◌∷◌, Option, Some, None, sym, ap, ◌∙◌, refl, arith, ⊎_elim, subst, length, drop, cond, Decides}
use Rattle.std.proofs.Math.Bool.{or_comm}
use Rattle.std.proofs.lemmas.Bool.{and_from, and_left, and_right, cond-true, cond-false, cases_Bool, both_ways, eq-eqb, not-true, not-false, false≢true}
use Rattle.std.proofs.lemmas.Option.{slice_get_within}
use Rattle.xt_trace.specs.declared.record.StepRecord.{StepRecord}
use Rattle.xt_frames.specs.declared.kinds.BreachKind.{BreachKind}
use Rattle.xt_frames.specs.Nesting.{is_nesting}
use Rattle.xt_frames.specs.SaveAreas.{is_live}
use Rattle.xt_frames.specs.declared.kinds.HandlerPhase.{HandlerPhase}
use Rattle.xt_frames.specs.declared.kinds.HandlerPhase.TheVariants.{Outside, InHandler, Nested}
use Rattle.xt_frames.specs.HandlerSteps.{is_window, phase_after}
use Rattle.xt_frames.specs.Breaches.{Bounds}
use Rattle.xt_frames.specs.Verdict.{is_nested}
use Rattle.xt_frames.specs.FirstBreach.{Course, IsTurn, Turn, by_core, is_judged, phase_before, records_before, turn_of, turns}
use Rattle.xt_frames.proofs.Prefixes.{before_or_at, drop_get, drop_none, drop_rest, other_phase, other_records, own_count, own_phase, same_turn}
use Rattle.xt_uses.specs.Disciplines.{Discipline}
use Rattle.xt_uses.specs.UseState.{UseState, forgets}
use Rattle.xt_uses.specs.UseStep.{UseTurn, carries}
use Rattle.xt_uses.specs.UseBreaches.{use_breach, window_use}
use Rattle.xt_uses.specs.UseParts.{fresh_use}
use Rattle.xt_uses.specs.FirstUse.{History, IsLost, Shows, carried_count, carries_at, handler_use, live_at, use_at}
use Rattle.xt_uses.specs.UseWalk.{IsUseJudgement, UseBroken, UseHandled, UseJudged, UseJudgement, UseKnown, UseSeen, UseStanding, WalkFindsFirstUse, count_of, handled_past, live_with, lost_with, masks_after, opening_use_known, use_judgement, use_passed_0, use_passed_1, use_seen, use_seen_in, use_seen_judged, use_seen_step, use_seen_window}
use Rattle.xt_uses.specs.Snapshots.{Snapshot, gone_in, history_of, live_in, lost_in, snapshot, states_past}
use Rattle.xt_uses.proofs.UseHistories.{forgets_none, is_history, next_handled, next_judged, other_state, own_state}
use Rattle.xt_uses.proofs.UseEpc.{lost_handled, lost_judged, lost_other}

or_false : (b c : Bool) → c ≡ false → (b || c) ≡ b
or_false true c e = refl
or_false false c e = e

double_not : (b : Bool) → not (not b) ≡ b
double_not true = refl
double_not false = refl

-- ---- what the walk sees of a record
-- of a handler step
abbrev seen_handler : Option BreachKind → (ℕ → ℕ) → UseStanding → StepRecord → UseSeen
seen_handler None code st rec = UseHandled (handled_past code st rec)
seen_handler (Some kind) code st rec = UseBroken kind

handler_window : (o : Option BreachKind) (code : ℕ → ℕ) (st : UseStanding) (rec : StepRecord) → use_seen_window o code st rec ≡ seen_handler o code st rec
handler_window None code st rec = refl
handler_window (Some kind) code st rec = refl

seen_as_judged : (phase : HandlerPhase) (code : ℕ → ℕ) (b : Bounds) (st : UseStanding) (others : ℕ → Bool) (masks : ℕ → ℕ) (rec : StepRecord) → is_judged phase rec.kind ≡ true → use_seen_in phase code b st others masks rec ≡ use_seen_judged code b st others masks (is_nested phase) rec
seen_as_judged Outside code b st others masks rec j = cond-false (is_window rec.kind) (use_seen_window (window_use code rec st.state) code st rec) (use_seen_judged code b st others masks false rec) (not-true (is_window rec.kind) j)
seen_as_judged InHandler code b st others masks rec j = cond-true (is_nesting rec.kind) (use_seen_judged code b st others masks true rec) (UseHandled (handled_past code st rec)) j
seen_as_judged Nested code b st others masks rec j = refl

seen_as_handler : (phase : HandlerPhase) (code : ℕ → ℕ) (b : Bounds) (st : UseStanding) (others : ℕ → Bool) (masks : ℕ → ℕ) (rec : StepRecord) → is_judged phase rec.kind ≡ false → use_seen_in phase code b st others masks rec ≡ seen_handler (handler_use code phase rec st.state) code st rec
seen_as_handler Outside code b st others masks rec j =
    cond-true (is_window rec.kind) (use_seen_window (window_use code rec st.state) code st rec) (use_seen_judged code b st others masks false rec) (not-false (is_window rec.kind) j)
    ∙ handler_window (window_use code rec st.state) code st rec
seen_as_handler InHandler code b st others masks rec j = cond-false (is_nesting rec.kind) (use_seen_judged code b st others masks true rec) (UseHandled (handled_past code st rec)) j
seen_as_handler Nested code b st others masks rec j = absurd (both_ways true j refl)

-- ---- what it keeps before a turn
abbrev standing : UseState → Bool → HandlerPhase → ℕ → ℕ → UseStanding
standing s fresh phase n k = record { state = s; fresh = fresh; phase = phase; steps = n; carried = k }

standing_same : (s t : UseState) (x y : Bool) (m n : HandlerPhase) (a b k l : ℕ) → s ≡ t → x ≡ y → m ≡ n → a ≡ b → k ≡ l → standing s x m a k ≡ standing t y n b l
standing_same s t x y m n a b k l p q e f g = λ i. standing (p i) (q i) (e i) (f i) (g i)

abbrev standing_at : Discipline → Course → ℕ → ℕ → Bool → UseStanding
standing_at d r core p lost = standing ((history_of d r).state core p) (not lost) (phase_before r core p) (length (records_before r core p)) (carried_count r (history_of d r) core p)

-- what the walk sees of turn p, and what it keeps before the next
data Outcome (d : Discipline) (r : Course) (p core : ℕ) (rec : StepRecord) (out : UseSeen) : Type 0 where
  breaks : (kind : BreachKind) → out ≡ UseBroken kind → Shows r (history_of d r) p core rec (Some kind) → Outcome d r p core rec out
  judges : (lost : Bool) → out ≡ UseJudged (standing_at d r core (suc p) lost) ((history_of d r).mask (suc p)) → Decides lost (IsLost r (history_of d r) core (suc p)) → Shows r (history_of d r) p core rec None → Outcome d r p core rec out
  handles : out ≡ UseHandled (standing_at d r core (suc p) true) → (history_of d r).mask (suc p) ≡ (history_of d r).mask p → Decides true (IsLost r (history_of d r) core (suc p)) → Shows r (history_of d r) p core rec None → Outcome d r p core rec out

abbrev made : UseStanding → UseStanding → (ℕ → ℕ) → UseKnown
made s t masks = record { first = s; second = t; masks = masks }

made_same : (s s' t t' : UseStanding) (m m' : ℕ → ℕ) → s ≡ s' → t ≡ t' → m ≡ m' → made s t m ≡ made s' t' m'
made_same s s' t t' m m' a b c = λ i. made (a i) (b i) (c i)

abbrev known_at : Discipline → Course → ℕ → Bool → Bool → UseKnown
known_at d r p lost0 lost1 = made (standing_at d r 0 p lost0) (standing_at d r 1 p lost1) ((history_of d r).mask p)

abbrev IsQuiet : Discipline → Course → ℕ → Type 0
IsQuiet d r p = (i core : ℕ) (rec : StepRecord) → i < p → IsTurn r i core rec → Shows r (history_of d r) i core rec None

record Reached (d : Discipline) (r : Course) (p : ℕ) (lost0 lost1 : Bool) : Type 0 where
  quiet : IsQuiet d r p
  within : p ≤ length r.turns
  is_lost0 : Decides lost0 (IsLost r (history_of d r) 0 p)
  is_lost1 : Decides lost1 (IsLost r (history_of d r) 1 p)

module _ (d : Discipline) (r : Course) where
  abbrev h : History
  h = history_of d r

  -- ---- what is carried past a turn
  module _ (p core : ℕ) (rec : StepRecord) (turn : IsTurn r p core rec) where
    abbrev does : Bool
    does = carries r.code rec (h.state core p) (use_at r h p core rec)

    counted : (b : Bool) → cond b 1 0 ≡ count_of b
    counted true = refl
    counted false = refl

    own_carried : is_judged (phase_before r core p) rec.kind ≡ true → carried_count r h core p + count_of does ≡ carried_count r h core (suc p)
    own_carried j =
        let here : ((core == core) && is_judged (phase_before r core p) rec.kind) ≡ true = and_from (core == core) (is_judged (phase_before r core p) rec.kind) (eq-eqb core core refl) j in
        sym (ap (λ (o : Option Turn). carried_count r h core p + carries_at r h core p o) turn
        ∙ (ap (λ (b : Bool). carried_count r h core p + cond (b && does) 1 0) here
        ∙ ap (λ n. carried_count r h core p + n) (counted does)))

    kept_carried : is_judged (phase_before r core p) rec.kind ≡ false → carried_count r h core p ≡ carried_count r h core (suc p)
    kept_carried j =
        let off : ((core == core) && is_judged (phase_before r core p) rec.kind) ≡ false = and_right (core == core) _ j in
        let e : carried_count r h core (suc p) ≡ carried_count r h core p + 0 = ap (λ (o : Option Turn). carried_count r h core p + carries_at r h core p o) turn
        ∙ ap (λ (b : Bool). carried_count r h core p + cond (b && does) 1 0) off in
        omega (arith, e)

    other_carried : (other : ℕ) → (core == other) ≡ false → carried_count r h other p ≡ carried_count r h other (suc p)
    other_carried other apart =
        let off : ((core == other) && is_judged (phase_before r other p) rec.kind) ≡ false = and_left (core == other) _ apart in
        let e : carried_count r h other (suc p) ≡ carried_count r h other p + 0 = ap (λ (o : Option Turn). carried_count r h other p + carries_at r h other p o) turn
        ∙ ap (λ (b : Bool). carried_count r h other p + cond (b && carries r.code rec (h.state other p) (use_at r h p other rec)) 1 0) off in
        omega (arith, e)

  module _ (core other : ℕ) (apart : (core == other) ≡ false) (live_all : (s : ℕ → UseState) → live_with (r.bounds core) (s core).frame (is_live (r.bounds other).range (s other).frame) ≡ live_in r s) (gone_all : (s t : ℕ → UseState) → s other ≡ t other → (a : ℕ) → forgets (s core) (t core) a ≡ gone_in s t a) (p : ℕ) (rec : StepRecord) (turn : IsTurn r p core rec) (lost : Bool) (is_lost : Decides lost (IsLost r h core p)) where
    abbrev others : ℕ → Bool
    others = is_live (r.bounds other).range (h.state other p).frame

    abbrev phase : HandlerPhase
    phase = phase_before r core p

    abbrev st : UseStanding
    st = standing_at d r core p lost

    abbrev out : UseSeen
    out = use_seen r.code (r.bounds core) st others (h.mask p) rec

    abbrev found : Option BreachKind
    found = use_breach (r.bounds core) (not lost) r.code (live_at r h p) (h.mask p) (is_nested phase) rec (h.state core p)

    abbrev told : Option BreachKind
    told = handler_use r.code phase rec (h.state core p)

    shows_found : (o : Option BreachKind) → is_judged phase rec.kind ≡ true → found ≡ o → Shows r h p core rec o
    shows_found o j e = record { lost = lost; is_lost = is_lost; shown = cond-true (is_judged phase rec.kind) found told j ∙ e }

    shows_told : (o : Option BreachKind) → is_judged phase rec.kind ≡ false → told ≡ o → Shows r h p core rec o
    shows_told o j e = record { lost = lost; is_lost = is_lost; shown = cond-false (is_judged phase rec.kind) found told j ∙ e }

    live_now : live_with (r.bounds core) (h.state core p).frame others ≡ live_at r h p
    live_now = live_all (snapshot d r p).states

    -- a judged step
    abbrev after_found : Option BreachKind → UseSeen
    after_found o = use_seen_step o r.code (r.bounds core) st others (h.mask p) (is_nested phase) rec

    out_judged : is_judged phase rec.kind ≡ true → out ≡ after_found found
    out_judged j =
        seen_as_judged phase r.code (r.bounds core) st others (h.mask p) rec j
        ∙ ap (λ (live : ℕ → Bool). after_found (use_breach (r.bounds core) (not lost) r.code live (h.mask p) (is_nested phase) rec (h.state core p))) live_now

    abbrev u : UseTurn
    u = use_at r h p core rec

    abbrev fresh_next : Bool
    fresh_next = fresh_use (not lost) r.code (is_nested phase) rec (h.mask p) (h.state core p)

    standing_next : is_judged phase rec.kind ≡ true → standing u.after fresh_next (phase_after r.code phase rec) (suc (length (records_before r core p))) (carried_count r h core p + count_of (carries r.code rec (h.state core p) u)) ≡ standing_at d r core (suc p) (not fresh_next)
    standing_next j = standing_same u.after (h.state core (suc p)) fresh_next (not (not fresh_next)) (phase_after r.code phase rec) (phase_before r core (suc p)) (suc (length (records_before r core p))) (length (records_before r core (suc p))) (carried_count r h core p + count_of (carries r.code rec (h.state core p) u)) (carried_count r h core (suc p))
        (sym (own_state d r p core rec turn j)) (sym (double_not fresh_next)) (sym (own_phase r p core rec turn)) (own_count r p core rec turn) (own_carried p core rec turn j)

    abbrev next_states : ℕ → UseState
    next_states = states_past r p (turn_of core rec) (snapshot d r p)

    live_next : live_with (r.bounds core) u.after.frame others ≡ live_in r next_states
    live_next =
        sym (ap (λ (s : UseState). live_with (r.bounds core) s.frame (is_live (r.bounds other).range (next_states other).frame)) (cond-true (core == core) u.after ((snapshot d r p).states core) (eq-eqb core core refl))
        ∙ ap (λ (s : UseState). live_with (r.bounds core) u.after.frame (is_live (r.bounds other).range s.frame)) (cond-false (core == other) u.after ((snapshot d r p).states other) apart))
        ∙ live_all next_states

    gone_now : (a : ℕ) → forgets (h.state core p) u.after a ≡ gone_in (snapshot d r p).states next_states a
    gone_now a =
        ap (λ (x : UseState). forgets (h.state core p) x a) (sym (cond-true (core == core) u.after ((snapshot d r p).states core) (eq-eqb core core refl)))
        ∙ gone_all (snapshot d r p).states next_states (sym (cond-false (core == other) u.after ((snapshot d r p).states other) apart)) a

    lost_now : lost_with (r.bounds core) (h.state core p) u.after others ≡ lost_in r (snapshot d r p).states next_states
    lost_now = λ i a. live_now i a || gone_now a i

    masks_next : is_judged phase rec.kind ≡ true → masks_after (live_with (r.bounds core) u.after.frame others) (lost_with (r.bounds core) (h.state core p) u.after others) u.stored rec.access (h.mask p) ≡ h.mask (suc p)
    masks_next j =
        ap (λ live. masks_after live (lost_with (r.bounds core) (h.state core p) u.after others) u.stored rec.access (h.mask p)) live_next
        ∙ (ap (λ lost. masks_after (live_in r next_states) lost u.stored rec.access (h.mask p)) lost_now
        ∙ sym (ap (λ (x : Snapshot). x.mask) (next_judged d r p core rec turn j)))

    judges_next : is_judged phase rec.kind ≡ true → after_found None ≡ UseJudged (standing_at d r core (suc p) (not fresh_next)) (h.mask (suc p))
    judges_next j =
        ap (λ (s : UseStanding). UseJudged s (masks_after (live_with (r.bounds core) u.after.frame others) (lost_with (r.bounds core) (h.state core p) u.after others) u.stored rec.access (h.mask p))) (standing_next j)
        ∙ ap (UseJudged (standing_at d r core (suc p) (not fresh_next))) (masks_next j)

    outcome_judged : is_judged phase rec.kind ≡ true → (o : Option BreachKind) → found ≡ o → Outcome d r p core rec out
    outcome_judged j (Some kind) e = breaks kind (out_judged j ∙ ap after_found e) (shows_found (Some kind) j e)
    outcome_judged j None e = judges
        (not fresh_next)
        (out_judged j ∙ (ap after_found e ∙ judges_next j))
        (lost_judged r h p core rec turn (not lost) j (subst (λ x. Decides x (IsLost r h core p)) (sym (double_not lost)) is_lost))
        (shows_found None j e)

    -- a handler step
    abbrev after_told : Option BreachKind → UseSeen
    after_told o = seen_handler o r.code st rec

    out_told : is_judged phase rec.kind ≡ false → out ≡ after_told told
    out_told j = seen_as_handler phase r.code (r.bounds core) st others (h.mask p) rec j

    handles_next : is_judged phase rec.kind ≡ false → after_told None ≡ UseHandled (standing_at d r core (suc p) true)
    handles_next j = ap UseHandled (standing_same (h.state core p) (h.state core (suc p)) false false (phase_after r.code phase rec) (phase_before r core (suc p)) (suc (length (records_before r core p))) (length (records_before r core (suc p))) (carried_count r h core p) (carried_count r h core (suc p))
        (sym (ap (λ (x : Snapshot). x.states core) (next_handled d r p core rec turn j))) refl (sym (own_phase r p core rec turn)) (own_count r p core rec turn) (kept_carried p core rec turn j))

    outcome_handled : is_judged phase rec.kind ≡ false → (o : Option BreachKind) → told ≡ o → Outcome d r p core rec out
    outcome_handled j (Some kind) e = breaks kind (out_told j ∙ ap after_told e) (shows_told (Some kind) j e)
    outcome_handled j None e = handles
        (out_told j ∙ (ap after_told e ∙ handles_next j))
        (ap (λ (x : Snapshot). x.mask) (next_handled d r p core rec turn j))
        (lost_handled r h p core rec turn j)
        (shows_told None j e)

    outcome : Outcome d r p core rec out
    outcome = ⊎_elim (λ j. outcome_judged j found refl) (λ j. outcome_handled j told refl) (cases_Bool (is_judged phase rec.kind))

  -- ---- the walk
  quiet_more : (p core : ℕ) (rec : StepRecord) → IsTurn r p core rec → IsQuiet d r p → Shows r h p core rec None → IsQuiet d r (suc p)
  quiet_more p core rec turn before now i c q l t = ⊎_elim
      (λ b. before i c q b t)
      (λ e.
      let at : IsTurn r p c q = subst (λ x. IsTurn r x c q) e t in
      let here : Shows r h p c q None = subst (λ (x : Turn). Shows r h p x.core x.rec None) (same_turn r p core rec turn c q at) now in
      subst (λ x. Shows r h x c q None) (sym e) here)
      (before_or_at i p l)

  within_more : (p core : ℕ) (rec : StepRecord) → IsTurn r p core rec → suc p ≤ length r.turns
  within_more p core rec turn = slice_get_within r.turns p (turn_of core rec) turn

  other_standing : (p core : ℕ) (rec : StepRecord) → IsTurn r p core rec → (other : ℕ) (lost : Bool) → (core == other) ≡ false → standing_at d r other p lost ≡ standing_at d r other (suc p) lost
  other_standing p core rec turn other lost apart = standing_same (h.state other p) (h.state other (suc p)) (not lost) (not lost) (phase_before r other p) (phase_before r other (suc p)) (length (records_before r other p)) (length (records_before r other (suc p))) (carried_count r h other p) (carried_count r h other (suc p))
      (sym (other_state d r p core rec turn other apart)) refl (sym (other_phase r p core rec turn other apart)) (ap length (sym (other_records r p core rec turn other apart))) (other_carried p core rec turn other apart)

  module _ (p : ℕ) (rec : StepRecord) (lost0 lost1 : Bool) (s : Reached d r p lost0 lost1) (rest : UseKnown → UseJudgement) where
    abbrev here : UseKnown
    here = known_at d r p lost0 lost1

    broken : (core : ℕ) (kind : BreachKind) → IsTurn r p core rec → Shows r h p core rec (Some kind) → IsUseJudgement d r (record { known = here; breach = Some (record { core = core; step = length (records_before r core p); kind = kind }) })
    broken core kind turn shows = record {
      history = h;
      is_history = is_history d r;
      place = p;
      finds = record { before = s.quiet; here = record { rec = rec; turn = turn; number = refl; shows = shows } };
      state0 = refl;
      state1 = refl;
      carried0 = refl;
      carried1 = refl;
    }

    module _ (turn : IsTurn r p 0 rec) (more : (lost : Bool) → Reached d r (suc p) lost lost1 → IsUseJudgement d r (rest (known_at d r (suc p) lost lost1))) where
      reached_0 : (lost : Bool) → Decides lost (IsLost r h 0 (suc p)) → Shows r h p 0 rec None → Reached d r (suc p) lost lost1
      reached_0 lost w shows = record {
        quiet = quiet_more p 0 rec turn s.quiet shows;
        within = within_more p 0 rec turn;
        is_lost0 = w;
        is_lost1 = lost_other r h p 0 rec turn 1 lost1 refl s.is_lost1;
      }

      known_0 : (lost : Bool) (masks : ℕ → ℕ) → masks ≡ h.mask (suc p) → made (standing_at d r 0 (suc p) lost) (standing_at d r 1 p lost1) masks ≡ known_at d r (suc p) lost lost1
      known_0 lost masks e = made_same _ _ _ _ _ _ refl (other_standing p 0 rec turn 1 lost1 refl) e

      goes_on_0 : (sight : UseSeen) → Outcome d r p 0 rec sight → IsUseJudgement d r (use_passed_0 sight here rest)
      goes_on_0 sight (breaks kind e shows) = subst (λ x. IsUseJudgement d r (use_passed_0 x here rest)) (sym e) (broken 0 kind turn shows)
      goes_on_0 sight (judges lost e w shows) = subst (λ x. IsUseJudgement d r (use_passed_0 x here rest)) (sym e) (subst (λ x. IsUseJudgement d r (rest x)) (sym (known_0 lost (h.mask (suc p)) refl)) (more lost (reached_0 lost w shows)))
      goes_on_0 sight (handles e same w shows) = subst (λ x. IsUseJudgement d r (use_passed_0 x here rest)) (sym e) (subst (λ x. IsUseJudgement d r (rest x)) (sym (known_0 true (h.mask p) (sym same))) (more true (reached_0 true w shows)))

    module _ (turn : IsTurn r p 1 rec) (more : (lost : Bool) → Reached d r (suc p) lost0 lost → IsUseJudgement d r (rest (known_at d r (suc p) lost0 lost))) where
      reached_1 : (lost : Bool) → Decides lost (IsLost r h 1 (suc p)) → Shows r h p 1 rec None → Reached d r (suc p) lost0 lost
      reached_1 lost w shows = record {
        quiet = quiet_more p 1 rec turn s.quiet shows;
        within = within_more p 1 rec turn;
        is_lost0 = lost_other r h p 1 rec turn 0 lost0 refl s.is_lost0;
        is_lost1 = w;
      }

      known_1 : (lost : Bool) (masks : ℕ → ℕ) → masks ≡ h.mask (suc p) → made (standing_at d r 0 p lost0) (standing_at d r 1 (suc p) lost) masks ≡ known_at d r (suc p) lost0 lost
      known_1 lost masks e = made_same _ _ _ _ _ _ (other_standing p 1 rec turn 0 lost0 refl) refl e

      goes_on_1 : (sight : UseSeen) → Outcome d r p 1 rec sight → IsUseJudgement d r (use_passed_1 sight here rest)
      goes_on_1 sight (breaks kind e shows) = subst (λ x. IsUseJudgement d r (use_passed_1 x here rest)) (sym e) (broken 1 kind turn shows)
      goes_on_1 sight (judges lost e w shows) = subst (λ x. IsUseJudgement d r (use_passed_1 x here rest)) (sym e) (subst (λ x. IsUseJudgement d r (rest x)) (sym (known_1 lost (h.mask (suc p)) refl)) (more lost (reached_1 lost w shows)))
      goes_on_1 sight (handles e same w shows) = subst (λ x. IsUseJudgement d r (use_passed_1 x here rest)) (sym e) (subst (λ x. IsUseJudgement d r (rest x)) (sym (known_1 true (h.mask p) (sym same))) (more true (reached_1 true w shows)))

  -- the live bytes do not depend on which core is looked at first
  live_0 : (s : ℕ → UseState) → live_with (r.bounds 0) (s 0).frame (is_live (r.bounds 1).range (s 1).frame) ≡ live_in r s
  live_0 s = refl

  live_1 : (s : ℕ → UseState) → live_with (r.bounds 1) (s 1).frame (is_live (r.bounds 0).range (s 0).frame) ≡ live_in r s
  live_1 s = λ i a. or_comm (is_live (r.bounds 1).range (s 1).frame a) (is_live (r.bounds 0).range (s 0).frame a) i

  -- nor does the other core forget a byte
  gone_0 : (s t : ℕ → UseState) → s 1 ≡ t 1 → (a : ℕ) → forgets (s 0) (t 0) a ≡ gone_in s t a
  gone_0 s t e a = sym (or_false (forgets (s 0) (t 0) a) (forgets (s 1) (t 1) a) (ap (λ x. forgets (s 1) x a) (sym e) ∙ forgets_none (s 1) a))

  gone_1 : (s t : ℕ → UseState) → s 0 ≡ t 0 → (a : ℕ) → forgets (s 1) (t 1) a ≡ gone_in s t a
  gone_1 s t e a = sym (ap (λ b. b || forgets (s 1) (t 1) a) (ap (λ x. forgets (s 0) x a) (sym e) ∙ forgets_none (s 0) a))

  ended : (p : ℕ) (lost0 lost1 : Bool) → Reached d r p lost0 lost1 → drop p r.turns ≡ [] → IsUseJudgement d r (record { known = known_at d r p lost0 lost1; breach = None })
  ended p lost0 lost1 s e =
      let all = drop_none p r.turns e in
      let within = s.within in
      record {
        history = h;
        is_history = is_history d r;
        place = p;
        finds = record { before = s.quiet; here = omega (arith, all, within) };
        state0 = refl;
        state1 = refl;
        carried0 = refl;
        carried1 = refl;
      }

  walk : (cores : List ℕ) (xs ys : List StepRecord) (p : ℕ) (lost0 lost1 : Bool) → Reached d r p lost0 lost1 → drop p r.turns ≡ turns cores xs ys → IsUseJudgement d r (use_judgement r.code (r.bounds 0) (r.bounds 1) cores xs ys (known_at d r p lost0 lost1))
  walk [] xs ys p lost0 lost1 s e = ended p lost0 lost1 s e
  walk (zero ∷ cores) [] ys p lost0 lost1 s e = ended p lost0 lost1 s e
  walk (zero ∷ cores) (x ∷ xs) ys p lost0 lost1 s e =
      let turn = drop_get p r.turns (turn_of 0 x) (turns cores xs ys) e in
      goes_on_0
      p
      x
      lost0
      lost1
      s
      (λ k. use_judgement r.code (r.bounds 0) (r.bounds 1) cores xs ys k)
      turn
      (λ lost t. walk cores xs ys (suc p) lost lost1 t (drop_rest p r.turns (turn_of 0 x) (turns cores xs ys) e))
      (use_seen r.code (r.bounds 0) (standing_at d r 0 p lost0) (is_live (r.bounds 1).range (h.state 1 p).frame) (h.mask p) x)
      (outcome 0 1 refl live_0 gone_0 p x turn lost0 s.is_lost0)
  walk (suc core ∷ cores) xs [] p lost0 lost1 s e = ended p lost0 lost1 s e
  walk (suc core ∷ cores) xs (y ∷ ys) p lost0 lost1 s e =
      let turn = drop_get p r.turns (turn_of 1 y) (turns cores xs ys) e in
      goes_on_1
      p
      y
      lost0
      lost1
      s
      (λ k. use_judgement r.code (r.bounds 0) (r.bounds 1) cores xs ys k)
      turn
      (λ lost t. walk cores xs ys (suc p) lost0 lost t (drop_rest p r.turns (turn_of 1 y) (turns cores xs ys) e))
      (use_seen r.code (r.bounds 1) (standing_at d r 1 p lost1) (is_live (r.bounds 0).range (h.state 0 p).frame) (h.mask p) y)
      (outcome 1 0 refl live_1 gone_1 p y turn lost1 s.is_lost1)

  -- ---- before the first turn
  nothing_lost : (core : ℕ) → Decides false (IsLost r h core 0)
  nothing_lost core = (λ e. absurd (false≢true e), λ l. let earlier = l.earlier in absurd (omega (arith, earlier)))

  reached_none : Reached d r 0 false false
  reached_none = record {
    quiet = λ i core rec l t. absurd (omega (arith, l));
    within = omega arith;
    is_lost0 = nothing_lost 0;
    is_lost1 = nothing_lost 1;
  }

  opening_at : opening_use_known d (r.bounds 0) (r.bounds 1) (r.opening 0) (r.opening 1) ≡ known_at d r 0 false false
  unfolding phase_before records_before
  opening_at = refl

pub walk_finds : WalkFindsFirstUse
walk_finds d code b0 b1 cores xs ys f0 f1 =
    let r : Course = record { code = code; bounds = by_core b0 b1; opening = by_core f0 f1; turns = turns cores xs ys } in
    subst
    (λ k. IsUseJudgement d r (use_judgement code b0 b1 cores xs ys k))
    (sym (opening_at d r))
    (walk d r cores xs ys 0 false false (reached_none d r) refl)
