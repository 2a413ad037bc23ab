-- A judge that knows fewer registers of its core, and goes on, goes on as one that knows more.
use Rattle.std.proofs.Common.{◌≡◌, ℕ, Bool, true, false, cond, ◌||◌, Option, Some, None, refl, sym, ap, ◌∙◌, subst}
use Rattle.xt_special.specs.Control.{Control}
use Rattle.xt_trace.specs.declared.record.StepRecord.{StepRecord}
use Rattle.xt_map.specs.Fetching.{fetch_at}
use Rattle.xt_frames.specs.declared.kinds.BreachKind.{BreachKind}
use Rattle.xt_frames.specs.declared.kinds.HandlerPhase.{HandlerPhase}
use Rattle.xt_frames.specs.declared.kinds.HandlerPhase.TheVariants.{InHandler, Nested, Outside}
use Rattle.xt_frames.specs.declared.holes.Nested as holes
use Rattle.xt_frames.specs.Frames.{FrameState}
use Rattle.xt_frames.specs.FrameStep.{FrameTurn, with_inputs}
use Rattle.xt_frames.specs.Nesting.{current, current_in}
use Rattle.xt_frames.specs.SaveAreas.{is_live, live_areas}
use Rattle.xt_frames.specs.Breaches.{Bounds, breach_of, fresh_after, inputs_of, stale_after, window_breach}
use Rattle.xt_frames.specs.HandlerSteps.{is_window, phase_after}
use Rattle.xt_frames.specs.Judging.{Standing, Seen, Handled, Judges, Breaks, fresh_on, handled_record, live_of, seen_in, seen_judged, seen_record, seen_step, seen_window, step_on}
use Rattle.xt_frames.specs.Stacks.{Stack}
use Rattle.xt_judged.specs.Forgotten.{IsFewer, IsFewerStanding, IsOuter}
use Rattle.xt_judged.proofs.Fewer.{IsLike, fewer_judged, live_same, places_same, window_like}

-- nothing is said if the judge that knows fewer sees a breach
abbrev pub IsFewerSeen : Seen → Seen → Type 0
IsFewerSeen (Handled s) (Handled t) = IsFewerStanding s t
IsFewerSeen (Judges s x) (Judges t y) = IsFewerStanding s t × (x ≡ y)
IsFewerSeen (Breaks kind) y = Unit {0}
IsFewerSeen _ _ = ⊥

abbrev pub IsOnStack : Bounds → FrameState → Type 0
IsOnStack b f = Stack b.range.lo b.range.hi f.seen f.frames

module _ (f g : FrameState) (h : IsFewer f g) where
  -- the same, but that no interrupt is nested
  abbrev poorer : FrameState
  poorer = record { seen = f.seen; frames = f.frames; control = f.control; unset = f.unset; nested = None }

  abbrev richer : FrameState
  richer = record { seen = g.seen; frames = g.frames; control = f.control; unset = f.unset; nested = None }

  is_poorer : f ≡ poorer
  is_poorer = λ i. record { seen = f.seen; frames = f.frames; control = f.control; unset = f.unset; nested = h.plain i }

  is_richer : g ≡ richer
  is_richer = λ i. record { seen = g.seen; frames = g.frames; control = sym h.control i; unset = sym h.unset i; nested = h.other i }

  module _ (b : Bounds) (on : IsOnStack b f) where
    pub lives : is_live b.range f ≡ is_live b.range g
    lives =
        ap (is_live b.range) is_poorer
        ∙ live_same f.seen g.seen h.seen f.control f.unset b f.frames g.frames h.frames on
        ∙ sym (ap (is_live b.range) is_richer)

    pub places : live_areas b.range f ≡ live_areas b.range g
    places =
        ap (live_areas b.range) is_poorer
        ∙ places_same f.seen g.seen h.seen f.control f.unset b f.frames g.frames h.frames on
        ∙ sym (ap (live_areas b.range) is_richer)

    -- the state over which the inputs of a record are laid
    abbrev laid : StepRecord → FrameState → FrameState
    laid rec x = with_inputs (inputs_of rec) (current x)

    pub windows : (code : ℕ → ℕ) (rec : StepRecord) → window_breach code rec.kind (laid rec f) ≡ None → window_breach code rec.kind (laid rec g) ≡ None
    windows code rec none =
        let d : Control = (with_inputs (inputs_of rec) poorer).control in
        let here : window_breach code rec.kind (laid rec poorer) ≡ None = sym (ap (λ (x : FrameState). window_breach code rec.kind (laid rec x)) is_poorer) ∙ none in
        ap (λ (x : FrameState). window_breach code rec.kind (laid rec x)) is_richer
        ∙ window_like f.seen g.seen h.seen d f.unset b f.frames g.frames h.frames on false (λ a. false) (λ a. false) rec code rec.kind here

    pub all_lives : (others : ℕ → Bool) → live_of b f others ≡ live_of b g others
    all_lives others = λ i a. lives i a || others a

    module _ (code : ℕ → ℕ) (rec : StepRecord) where
      abbrev t : FrameTurn
      t = step_on code false rec f

      abbrev v : FrameTurn
      v = step_on code false rec g

      pub steps : (fresh : Bool) (live stale : ℕ → Bool) → breach_of b fresh code live stale false rec f ≡ None → IsLike t v × (breach_of b fresh code live stale false rec g ≡ None)
      steps fresh live stale none =
          let here : breach_of b fresh code live stale false rec poorer ≡ None = sym (ap (breach_of b fresh code live stale false rec) is_poorer) ∙ none in
          let r = fewer_judged f.seen g.seen h.seen f.control f.unset f.frames g.frames h.frames b on fresh code live stale rec here in (
            subst (λ (x : FrameState). IsLike (step_on code false rec x) v) (sym is_poorer) (subst (λ (x : FrameState). IsLike (step_on code false rec poorer) (step_on code false rec x)) (sym is_richer) r.0),
            ap (breach_of b fresh code live stale false rec) is_richer ∙ r.1,
          )

      fewer_after : IsLike t v → IsFewer t.after v.after
      fewer_after l = record { seen = l.seen; frames = l.frames; control = l.control; unset = l.unset; plain = l.plain; other = l.other }

      current_plain : (x : FrameState) → x.nested ≡ None → (current x).control ≡ x.control
      current_plain x e = ap (λ (o : Option holes.Nested). (current_in o x).control) e

      fresh_same : (fresh : Bool) → IsLike t v → fresh_on fresh code false rec f ≡ fresh_on fresh code false rec g
      fresh_same fresh l =
          let before : (current f).control ≡ (current g).control = current_plain f h.plain ∙ h.control ∙ sym (current_plain g h.other) in
          let after : (current t.after).control ≡ (current v.after).control = current_plain t.after l.plain ∙ l.control ∙ sym (current_plain v.after l.other) in
          λ i. fresh_after fresh (l.kind i) (fetch_at code (before i).pc) (record (before i).ps { owb = (inputs_of rec).owb }) (after i).ps

-- ---- one judged record

module _ (code : ℕ → ℕ) (b : Bounds) (s t : Standing) (h : IsFewerStanding s t) (others stale : ℕ → Bool) (rec : StepRecord) (on : IsOnStack b s.frame) where
  abbrev after : FrameState
  after = (step_on code false rec s.frame).after

  abbrev found : Standing → Option BreachKind
  found x = breach_of b x.fresh code (live_of b x.frame others) stale false rec x.frame

  abbrev seen_by : Standing → Option BreachKind → Seen
  seen_by x o = seen_step o code b x others stale false rec

  none_seen : IsOnStack b after → found s ≡ None → IsFewerSeen (seen_by s None) (seen_by t None) × (found t ≡ None)
  none_seen later none =
      let f = s.frame in
      let g = t.frame in
      let r = steps f g h.frame b on code rec s.fresh (live_of b f others) stale none in
      let l = r.0 in
      let here = all_lives f g h.frame b on others in
      let there = all_lives (step_on code false rec f).after (step_on code false rec g).after (fewer_after f g h.frame b on code rec l) b later others in
      let bytes : stale_after (live_of b (step_on code false rec f).after others) (live_of b f others) stale rec.access ≡ stale_after (live_of b (step_on code false rec g).after others) (live_of b g others) stale rec.access =
      λ i. stale_after (there i) (here i) stale rec.access in
      let fresh : fresh_on s.fresh code false rec f ≡ fresh_on t.fresh code false rec g = fresh_same f g h.frame b on code rec s.fresh l ∙ ap (λ (x : Bool). fresh_on x code false rec g) h.fresh in (
        (record { frame = fewer_after f g h.frame b on code rec l; fresh = fresh; phase = ap (λ (p : HandlerPhase). phase_after code p rec) h.phase }, bytes),
        sym (λ i. breach_of b (h.fresh i) code (here i) stale false rec g) ∙ r.1,
      )

  pub judged_fewer : IsOnStack b after → IsFewerSeen (seen_judged code b s others stale false rec) (seen_judged code b t others stale false rec)
  judged_fewer later = by (found s) refl
    where
      by : (o : Option BreachKind) → found s ≡ o → IsFewerSeen (seen_by s (found s)) (seen_by t (found t))
      by None e =
          let r = none_seen later e in
          subst (λ (x : Option BreachKind). IsFewerSeen (seen_by s x) (seen_by t (found t))) (sym e) (subst (λ (y : Option BreachKind). IsFewerSeen (seen_by s None) (seen_by t y)) (sym r.1) r.0)
      by (Some kind) e = subst (λ (x : Option BreachKind). IsFewerSeen (seen_by s x) (seen_by t (found t))) (sym e) tt

-- ---- any record but one of a nested interrupt

-- the stack pointers of what is known after the record are known
abbrev pub IsSeenOnStack : Bounds → Seen → Type 0
IsSeenOnStack b (Handled s) = IsOnStack b s.frame
IsSeenOnStack b (Judges s x) = IsOnStack b s.frame
IsSeenOnStack b (Breaks kind) = Unit {0}

module _ (code : ℕ → ℕ) (b : Bounds) (s t : Standing) (h : IsFewerStanding s t) (others stale : ℕ → Bool) (rec : StepRecord) (on : IsOnStack b s.frame) where
  abbrev breach : FrameState → Option BreachKind
  breach x = window_breach code rec.kind (with_inputs (inputs_of rec) (current x))

  window_seen : IsFewerSeen (seen_window (breach s.frame) s.frame) (seen_window (breach t.frame) t.frame)
  window_seen = by (breach s.frame) refl
    where
      by : (o : Option BreachKind) → breach s.frame ≡ o → IsFewerSeen (seen_window (breach s.frame) s.frame) (seen_window (breach t.frame) t.frame)
      by None e =
          let there : breach t.frame ≡ None = windows s.frame t.frame h.frame b on code rec e in
          let both : IsFewerSeen (seen_window None s.frame) (seen_window None t.frame) = record { frame = h.frame; fresh = refl; phase = refl } in
          subst (λ (x : Option BreachKind). IsFewerSeen (seen_window x s.frame) (seen_window (breach t.frame) t.frame)) (sym e) (subst (λ (y : Option BreachKind). IsFewerSeen (seen_window None s.frame) (seen_window y t.frame)) (sym there) both)
      by (Some kind) e = subst (λ (x : Option BreachKind). IsFewerSeen (seen_window x s.frame) (seen_window (breach t.frame) t.frame)) (sym e) tt

  handled_seen : IsFewerSeen (handled_record code s rec) (handled_record code t rec)
  handled_seen = record { frame = h.frame; fresh = refl; phase = ap (λ (p : HandlerPhase). phase_after code p rec) h.phase }

  seen_if : (q : Bool) (w x y z : Seen) → (q ≡ true → IsFewerSeen w y) → (q ≡ false → IsFewerSeen x z) → IsFewerSeen (cond q w x) (cond q y z)
  seen_if true w x y z a d = a refl
  seen_if false w x y z a d = d refl

  abbrev seen_of : HandlerPhase → Standing → Seen
  seen_of p x = seen_in p code b x others stale rec

  judged_on : (q : Bool) → IsSeenOnStack b (seen_judged code b s others stale false rec) → IsFewerSeen (seen_judged code b s others stale false rec) (seen_judged code b t others stale false rec)
  judged_on q later = by (breach_of b s.fresh code (live_of b s.frame others) stale false rec s.frame) refl
    where
      found : Option BreachKind
      found = breach_of b s.fresh code (live_of b s.frame others) stale false rec s.frame

      by : (o : Option BreachKind) → found ≡ o → IsFewerSeen (seen_judged code b s others stale false rec) (seen_judged code b t others stale false rec)
      by None e = judged_fewer code b s t h others stale rec on (subst (λ (x : Option BreachKind). IsSeenOnStack b (seen_step x code b s others stale false rec)) e later)
      by (Some kind) e = subst (λ (x : Option BreachKind). IsFewerSeen (seen_step x code b s others stale false rec) (seen_judged code b t others stale false rec)) (sym e) tt

  in_phase : (p : HandlerPhase) → IsOuter p rec → IsSeenOnStack b (seen_of p s) → IsFewerSeen (seen_of p s) (seen_of p t)
  in_phase Outside outer later =
      seen_if (is_window rec.kind) (seen_window (breach s.frame) s.frame) (seen_judged code b s others stale false rec) (seen_window (breach t.frame) t.frame) (seen_judged code b t others stale false rec)
      (λ e. window_seen)
      (λ e. judged_on false (subst (λ (q : Bool). IsSeenOnStack b (cond q (seen_window (breach s.frame) s.frame) (seen_judged code b s others stale false rec))) e later))
  in_phase InHandler outer later =
      subst (λ (q : Bool). IsFewerSeen (cond q (seen_judged code b s others stale true rec) (handled_record code s rec)) (cond q (seen_judged code b t others stale true rec) (handled_record code t rec))) (sym outer) handled_seen
  in_phase Nested outer later = absurd outer

  pub seen_fewer : IsOuter s.phase rec → IsSeenOnStack b (seen_record code b s others stale rec) → IsFewerSeen (seen_record code b s others stale rec) (seen_record code b t others stale rec)
  seen_fewer outer later = subst (λ (p : HandlerPhase). IsFewerSeen (seen_of s.phase s) (seen_of p t)) h.phase (in_phase s.phase outer later)
