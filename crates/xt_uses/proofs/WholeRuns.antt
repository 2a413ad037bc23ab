-- Up to the first breach of the stack discipline the machine of uses is that of frames.
use Rattle.std.proofs.Common.{◌≡◌, ℕ, zero, suc, ◌<◌, ◌≤◌, Bool, true, false, not, ◌||◌, ◌&&◌, leb, ltb, inl, inr, ⊎_elim, Option, None, refl, sym, ap, ◌∙◌, subst, arith, Decides}
use Rattle.std.proofs.lemmas.Bool.{both_ways, cases_lt, cond-false, cond-true, or_from}
use Rattle.xt_map.specs.Touching.{touches}
use Rattle.xt_trace.specs.declared.record.StepRecord.{StepRecord}
use Rattle.xt_map.specs.Fetching.{Fetched, fetch_at}
use Rattle.xt_frames.specs.declared.kinds.BreachKind.{BreachKind}
use Rattle.xt_frames.specs.Frames.{FrameState}
use Rattle.xt_frames.specs.FrameStep.{with_inputs}
use Rattle.xt_frames.specs.Nesting.{current}
use Rattle.xt_frames.specs.SaveAreas.{is_live}
use Rattle.xt_frames.specs.Breaches.{breach_of, inputs_of}
use Rattle.xt_frames.specs.Verdict.{is_nested}
use Rattle.xt_frames.specs.FirstBreach.{Course, IsJudgedTurn, IsStale, IsTurn, Shows, frame_before, handler_shows, is_judged, live_before, phase_before, step_at}
use Rattle.xt_frames.proofs.Prefixes.{before_or_at, own_frame}
use Rattle.xt_uses.specs.Disciplines.{Lenient, is_strict}
use Rattle.xt_uses.specs.UseState.{UseState, opens_unknown, rises_over, stack_pointer, whole_masks}
use Rattle.xt_uses.proofs.Constant.{discipline_is}
use Rattle.xt_uses.specs.UseStep.{use_step}
use Rattle.xt_uses.specs.FirstUse.{HasLeft, History, IsHistory, IsLive, IsMask, IsStored, Opens, StoresByte, gone_at, live_at, opening_mask, stored_byte, use_at}
use Rattle.xt_uses.specs.UseLaws.{IsHidden, IsOrdinary, IsUnbroken, IsWholeAt, WholeIsFrames}
use Rattle.xt_uses.proofs.WholeLists.{AreWords, InnerAreWords}
use Rattle.xt_uses.proofs.CutWords.{frame_shaped, inner_words}
use Rattle.xt_uses.proofs.LaterHistories.{judged_or_idle}
use Rattle.xt_uses.proofs.WholeBytes.{reply_known, stored_whole}
use Rattle.xt_uses.proofs.WholeIdle.{idle_frame, opening_at}
use Rattle.xt_uses.proofs.WholeStates.{IsWholeState, masks_whole, whole_opens}
use Rattle.xt_uses.proofs.WholeSteps.{Steps}
use Rattle.xt_uses.proofs.WholeTurns.{turn_steps}

or_false : (b c : Bool) → c ≡ false → (b || c) ≡ b
or_false true c e = refl
or_false false c e = e

-- ---- what holds up to turn p
abbrev pub fetched_at : Course → ℕ → ℕ → StepRecord → Fetched
fetched_at r i core rec = fetch_at r.code (with_inputs (inputs_of rec) (current (frame_before r core i))).control.pc

pub record Agrees (r : Course) (h : History) (p : ℕ) : Type 0 where
  pub frame : (i core : ℕ) → i ≤ p → (h.state core i).frame ≡ frame_before r core i
  pub whole : (i core : ℕ) → i ≤ p → IsWholeState (frame_before r core i) (h.state core i).masks
  pub steps : (i core : ℕ) (rec : StepRecord) → i < p → IsJudgedTurn r i core rec → Steps (frame_before r core i) (fetched_at r i core rec) (step_at r i core rec) (use_at r h i core rec)

module _ (r : Course) (h : History) (p : ℕ) (ordinary : IsOrdinary r) (is : IsHistory Lenient r h) (agrees : Agrees r h p) where
  pub live_same : (i a : ℕ) → i ≤ p → live_at r h i a ≡ live_before r i a
  live_same i a l = λ j. is_live (r.bounds 0).range (agrees.frame i 0 l j) a || is_live (r.bounds 1).range (agrees.frame i 1 l j) a

  -- ---- bytes
  stored_there : (i a mask : ℕ) → i < p → StoresByte r h i a mask → mask ≡ 255
  stored_there i a mask l s =
      s.bits
      ∙ (ap (λ n. stored_byte n s.access.addr a) (agrees.steps i s.core s.rec l s.turn).stored
      ∙ stored_whole s.access.addr s.access.size a (ordinary.sizes i s.core s.rec s.access s.turn.turn s.made) s.touched)

  abbrev Told : ℕ → ℕ → Type 0
  Told a mask = (IsHidden r p a → mask ≡ 0) × ((IsHidden r p a → ⊥) → mask ≡ 255)

  free_of : (from i a : ℕ) → ((j : ℕ) → from ≤ j → j ≤ p → live_at r h j a ≡ false) → from ≤ i → i ≤ p → live_before r i a ≡ true → ⊥
  free_of from i a free l u live = both_ways (live_before r i a) (sym (live_same i a u) ∙ free i l u) live

  -- nothing is forgotten
  never_gone : (i a : ℕ) → gone_at h i a ≡ false
  never_gone i a =
      or_from _ _
      (ap (λ d. is_strict d && rises_over (stack_pointer (h.state 0 i)) (stack_pointer (h.state 0 (suc i))) a) (discipline_is Lenient r h is i 0))
      (ap (λ d. is_strict d && rises_over (stack_pointer (h.state 1 i)) (stack_pointer (h.state 1 (suc i))) a) (discipline_is Lenient r h is i 1))

  opens_known : (a : ℕ) → opening_mask r h a ≡ 255
  opens_known a =
      let s0 = h.state 0 0 in
      let s1 = h.state 1 0 in
      cond-false (opens_unknown (r.bounds 0).range s0 a || opens_unknown (r.bounds 1).range s1 a) 0 255
      (or_from _ _
      (ap (λ d. is_strict d && (leb (r.bounds 0).range.lo a && ltb a (stack_pointer s0))) (discipline_is Lenient r h is 0 0))
      (ap (λ d. is_strict d && (leb (r.bounds 1).range.lo a && ltb a (stack_pointer s1))) (discipline_is Lenient r h is 0 1)))

  told : (a mask : ℕ) → IsMask r h p a mask → Told a mask
  told a mask (IsLive live none) = (λ hidden. none, λ n. absurd (n (inl (sym (live_same p a (omega arith)) ∙ live))))
  told a mask (HasLeft i l was free none e) = (
    λ hidden. e,
    λ n. absurd (n (inr (record {
      gone = sym (live_same p a (omega arith)) ∙ free p l (omega arith);
      once = i;
      earlier = l;
      live = sym (live_same i a (omega (arith, l))) ∙ (sym (or_false (live_at r h i a) (gone_at h i a) (never_gone i a)) ∙ was);
      since = λ j b u. none j b u;
    }))),
  )
  told a mask (IsStored i l s free kept none) = (
    λ hidden. ⊎_elim
        (λ live. absurd (free_of i p a free (omega (arith, l)) (omega arith) live))
        (λ stale. ⊎_elim
        (λ before. absurd (both_ways (touches s.access.addr s.access.size a) (stale.since i before l s.core s.rec s.access s.turn s.made s.store) s.touched))
        (λ behind. let earlier = stale.earlier in absurd (free_of i stale.once a free behind (omega (arith, earlier)) stale.live))
        (cases_lt stale.once i))
        hidden,
    λ n. stored_there i a mask l s,
  )
  told a mask (Opens free kept none e) = (
    λ hidden. ⊎_elim
        (λ live. absurd (free_of 0 p a free (omega arith) (omega arith) live))
        (λ stale. let earlier = stale.earlier in absurd (free_of 0 stale.once a free (omega arith) (omega (arith, earlier)) stale.live))
        hidden,
    λ n. e ∙ opens_known a,
  )

  pub byte_told : (a : ℕ) → Told a (h.mask p a)
  byte_told a = told a (h.mask p a) (is.masks p a)

  -- of bytes that are neither live nor stale each bit is known
  pub byte_known : (stale : ℕ → Bool) → ((a : ℕ) → Decides (stale a) (IsStale r p a)) → (a : ℕ) → live_before r p a ≡ false → stale a ≡ false → h.mask p a ≡ 255
  byte_known stale decides a l n = (byte_told a).1 (λ hidden. ⊎_elim (λ live. both_ways (live_before r p a) l live) (λ s. both_ways (stale a) n ((decides a).1 s)) hidden)

  pub is_whole_at : IsWholeAt r h p
  is_whole_at = record {
    frames = λ core. agrees.frame p core (omega arith);
    masks = λ core. masks_whole (frame_before r core p) (h.state core p).masks (agrees.whole p core (omega arith));
    hidden = λ a. (byte_told a).0;
    others = λ a. (byte_told a).1;
  }

  -- ---- one turn more
  module _ (unbroken : (core : ℕ) (rec : StepRecord) → IsTurn r p core rec → Shows r p core rec None) where
    step_here : (core : ℕ) (rec : StepRecord) → IsJudgedTurn r p core rec → Steps (frame_before r core p) (fetched_at r p core rec) (step_at r p core rec) (use_at r h p core rec)
    step_here core rec j =
        let shows = unbroken core rec j.turn in
        let next = own_frame r p core rec j.turn j.judged in
        let found : Option BreachKind = breach_of (r.bounds core) (not shows.lost) r.code (live_before r p) shows.stale (is_nested (phase_before r core p)) rec (frame_before r core p) in
        let none : found ≡ None = sym (cond-true (is_judged (phase_before r core p) rec.kind) found (handler_shows r.code (phase_before r core p) rec (frame_before r core p)) j.judged) ∙ shows.shown in
        subst
        (λ (s : UseState). Steps (frame_before r core p) (fetched_at r p core rec) (step_at r p core rec) (use_step r.code (is_nested (phase_before r core p)) rec (h.mask p) s))
        (λ i. record { frame = sym (agrees.frame p core (omega arith)) i; masks = (h.state core p).masks })
        (turn_steps r.code (r.bounds core) (not shows.lost) (live_before r p) shows.stale (is_nested (phase_before r core p)) rec (h.mask p)
        (reply_known (live_before r p) shows.stale (h.mask p) (byte_known shows.stale shows.is_stale) rec.access)
        (h.state core p).masks (frame_before r core p) (discipline_is Lenient r h is p core) (agrees.whole p core (omega arith)) none
        (subst (λ (f : FrameState). AreWords f.seen) next (frame_shaped r ordinary core (suc p)).seen)
        (subst (λ (f : FrameState). InnerAreWords f.nested) next (inner_words (frame_before r core (suc p)).nested (frame_shaped r ordinary core (suc p)).nested)))

    abbrev Stands : ℕ → UseState → FrameState → Type 0
    Stands core s f = (s.frame ≡ f) × IsWholeState f s.masks

    stands_next : (core : ℕ) → Stands core (h.state core (suc p)) (frame_before r core (suc p))
    stands_next core = ⊎_elim
        (λ j.
        let t = step_here core j.0 j.1 in
        let now : Stands core (use_at r h p core j.0).after (step_at r p core j.0).after = (t.frame, t.whole) in
        subst (λ s. Stands core s (frame_before r core (suc p))) (sym (is.steps p core j.0 j.1))
        (subst (λ f. Stands core (use_at r h p core j.0).after f) (sym (own_frame r p core j.0 j.1.turn j.1.judged)) now))
        (λ idle.
        let now : Stands core (h.state core p) (frame_before r core p) = (agrees.frame p core (omega arith), agrees.whole p core (omega arith)) in
        subst (λ s. Stands core s (frame_before r core (suc p))) (sym (is.stays p core idle))
        (subst (λ f. Stands core (h.state core p) f) (sym (idle_frame r p core idle)) now))
        (judged_or_idle r p core)

    pub agrees_next : Agrees r h (suc p)
    agrees_next = record {
      frame = λ i core l. ⊎_elim
          (λ b. agrees.frame i core (omega (arith, b)))
          (λ e. subst (λ n. (h.state core n).frame ≡ frame_before r core n) (sym e) (stands_next core).0)
          (before_or_at i (suc p) (omega (arith, l)));
      whole = λ i core l. ⊎_elim
          (λ b. agrees.whole i core (omega (arith, b)))
          (λ e. subst (λ n. IsWholeState (frame_before r core n) (h.state core n).masks) (sym e) (stands_next core).1)
          (before_or_at i (suc p) (omega (arith, l)));
      steps = λ i core rec l j. ⊎_elim
          (λ b. agrees.steps i core rec b j)
          (λ e. subst (λ n. Steps (frame_before r core n) (fetched_at r n core rec) (step_at r n core rec) (use_at r h n core rec)) (sym e) (step_here core rec (subst (λ n. IsJudgedTurn r n core rec) e j)))
          (before_or_at i p l);
    }

-- ---- the opening
opening_stands : (r : Course) (h : History) (core : ℕ) → IsOrdinary r → IsHistory Lenient r h → ((h.state core 0).frame ≡ frame_before r core 0) × IsWholeState (frame_before r core 0) (h.state core 0).masks
opening_stands r h core ordinary is =
    let o = ordinary.opens core in
    subst (λ (s : UseState). (s.frame ≡ frame_before r core 0) × IsWholeState (frame_before r core 0) s.masks) (sym (is.opens core))
    (sym (opening_at r core), subst (λ f. IsWholeState f (whole_masks Lenient)) (sym (opening_at r core ∙ o.opens)) (whole_opens o.core o.pc o.vecbase o.stack_end))

pub agrees_to : (r : Course) (h : History) (p : ℕ) → IsOrdinary r → IsHistory Lenient r h → IsUnbroken r p → Agrees r h p
agrees_to r h zero ordinary is none = record {
  frame = λ i core l. subst (λ n. (h.state core n).frame ≡ frame_before r core n) {x = 0} (omega (arith, l)) (opening_stands r h core ordinary is).0;
  whole = λ i core l. subst (λ n. IsWholeState (frame_before r core n) (h.state core n).masks) {x = 0} (omega (arith, l)) (opening_stands r h core ordinary is).1;
  steps = λ i core rec l j. absurd (omega (arith, l));
}
agrees_to r h (suc p) ordinary is none =
    agrees_next r h p ordinary is (agrees_to r h p ordinary is (λ i core rec l. none i core rec (omega (arith, l)))) (λ core rec. none p core rec (omega arith))

pub whole_frames : WholeIsFrames
whole_frames r h p ordinary is none = is_whole_at r h p ordinary is (agrees_to r h p ordinary is none)
