-- Stale bytes and EPC1 before a turn, and before the next: what the judge keeps of them decides what is said by all earlier turns.
use Rattle.std.proofs.Common.{◌≡◌, ℕ, suc, ◌<◌, ◌≤◌, Bool, true, false, ◌==◌, ◌&&◌, ◌||◌, not, sym, ap, ◌∙◌, refl, arith, inl, inr, ⊎_elim, subst, Decides, Option, Some, None, ◌⊎◌}
use Rattle.std.proofs.lemmas.Bool.{cases_Bool, both_ways, not-true, and_parts, and_from, and_cases, and_left, and_right, or_cases, or_parts, or_from, or_left, or_right, not_from_true, not_from_false, not-false, eq-eqb}
use Rattle.std.proofs.lemmas.Option.{none-some}
use Rattle.std.proofs.lemmas.Bool.Decides.{Decides-like}
use Rattle.xt_map.specs.declared.access.Access.{Access}
use Rattle.xt_map.specs.Touching.{is_store, touches}
use Rattle.xt_trace.specs.declared.record.StepRecord.{StepRecord}
use Rattle.xt_frames.specs.Breaches.{ends_exception_mode, stale_after, stores_at}
use Rattle.xt_frames.specs.Nesting.{current}
use Rattle.xt_frames.specs.FirstBreach.{Course, EndsMode, IsJudgedTurn, IsLost, IsStale, IsTurn, LeavesByte, LeavesEpc1, Turn, frame_with_inputs, is_judged, step_at, live_before, phase_before, writes_at}
use Rattle.xt_frames.proofs.Prefixes.{before_or_at, same_turn}

-- ---- a store that touches a byte
pub untouched : (o : Option Access) (x : Access) (a : ℕ) → stores_at o a ≡ false → o ≡ Some x → is_store x.kind ≡ true → touches x.addr x.size a ≡ false
untouched None x a e at s = absurd (none-some x at)
untouched (Some y) x a e at s =
    let same : stores_at (Some x) a ≡ false = subst (λ o. stores_at o a ≡ false) at e in
    ⊎_elim (λ n. absurd (both_ways (is_store x.kind) n s)) (λ t. t) (and_cases (is_store x.kind) (touches x.addr x.size a) same)

unstored : (o : Option Access) (a : ℕ) → ((x : Access) → o ≡ Some x → is_store x.kind ≡ true → touches x.addr x.size a ≡ false) → stores_at o a ≡ false
unstored None a h = refl
unstored (Some y) a h = ⊎_elim (λ s. and_right (is_store y.kind) (touches y.addr y.size a) (h y refl s)) (λ n. and_left (is_store y.kind) (touches y.addr y.size a) n) (cases_Bool (is_store y.kind))

module _ (r : Course) (p core : ℕ) (rec : StepRecord) (turn : IsTurn r p core rec) where
  -- the turn is not judged, so no turn of its number is
  not_judged : is_judged (phase_before r core p) rec.kind ≡ false → (c : ℕ) (q : StepRecord) → IsJudgedTurn r p c q → ⊥
  not_judged j c q t =
      let same = same_turn r p core rec turn c q t.turn in
      let now : is_judged (phase_before r core p) rec.kind ≡ true = subst (λ (x : Turn). is_judged (phase_before r x.core p) x.rec.kind ≡ true) (sym same) t.judged in
      both_ways (is_judged (phase_before r core p) rec.kind) j now

  same_rec : (c : ℕ) (q : StepRecord) → IsTurn r p c q → rec ≡ q
  same_rec c q t = ap (λ (x : Turn). x.rec) (same_turn r p core rec turn c q t)

  -- ---- stale bytes
  no_store : (a : ℕ) → stores_at rec.access a ≡ false → LeavesByte r p a
  no_store a e c q x t at s = untouched q.access x a (subst (λ (y : StepRecord). stores_at y.access a ≡ false) (same_rec c q t.turn) e) at s

  no_touch : (a : ℕ) → is_judged (phase_before r core p) rec.kind ≡ true → LeavesByte r p a → stores_at rec.access a ≡ false
  no_touch a j h = unstored rec.access a (λ x at s. h core rec x (record { turn = turn; judged = j }) at s)

  bytes_more : (once a : ℕ) → ((i : ℕ) → once < i → i < p → LeavesByte r i a) → LeavesByte r p a → (i : ℕ) → once < i → i < suc p → LeavesByte r i a
  bytes_more once a h now i l u = ⊎_elim (λ b. h i l b) (λ e. subst (λ x. LeavesByte r x a) (sym e) now) (before_or_at i p u)

  stale_later : (a : ℕ) → live_before r (suc p) a ≡ false → LeavesByte r p a → IsStale r p a → IsStale r (suc p) a
  stale_later a gone now h =
      let earlier = h.earlier in
      record { gone = gone; once = h.once; earlier = omega (arith, earlier); live = h.live; since = bytes_more h.once a h.since now }

  stale_now : (a : ℕ) → live_before r (suc p) a ≡ false → live_before r p a ≡ true → IsStale r (suc p) a
  stale_now a gone live = record { gone = gone; once = p; earlier = omega arith; live = live; since = λ i l u. absurd (omega (arith, l, u)) }

  stale_earlier : (a : ℕ) → live_before r p a ≡ false → IsStale r (suc p) a → IsStale r p a
  stale_earlier a gone h = ⊎_elim
      (λ l. record { gone = gone; once = h.once; earlier = l; live = h.live; since = λ i x y. h.since i x (omega (arith, y)) })
      (λ e. absurd (both_ways (live_before r p a) gone (subst (λ x. live_before r x a ≡ true) e h.live)))
      (before_or_at h.once p h.earlier)

  -- a stale byte that was not live before this turn was so at an earlier one
  spared : (a : ℕ) → is_judged (phase_before r core p) rec.kind ≡ true → live_before r p a ≡ false → IsStale r (suc p) a → stores_at rec.access a ≡ false
  spared a j gone h = ⊎_elim
      (λ l. no_touch a j (h.since p l (omega arith)))
      (λ e. absurd (both_ways (live_before r p a) gone (subst (λ x. live_before r x a ≡ true) e h.live)))
      (before_or_at h.once p h.earlier)

  pub stale_judged : (stale : ℕ → Bool) (a : ℕ) → is_judged (phase_before r core p) rec.kind ≡ true → Decides (stale a) (IsStale r p a) → Decides (stale_after (live_before r (suc p)) (live_before r p) stale rec.access a) (IsStale r (suc p) a)
  stale_judged stale a j d = (there, back)
    where
      there : (not (live_before r (suc p) a) && (live_before r p a || (stale a && not (stores_at rec.access a)))) ≡ true → IsStale r (suc p) a
      there t =
          let parts = and_parts (not (live_before r (suc p) a)) (live_before r p a || (stale a && not (stores_at rec.access a))) t in
          let gone = not-true (live_before r (suc p) a) parts.0 in
          ⊎_elim
          (λ live. stale_now a gone live)
          (λ q. let qs = and_parts (stale a) (not (stores_at rec.access a)) q in stale_later a gone (no_store a (not-true (stores_at rec.access a) qs.1)) (d.0 qs.0))
          (or_cases (live_before r p a) (stale a && not (stores_at rec.access a)) parts.1)

      back : IsStale r (suc p) a → (not (live_before r (suc p) a) && (live_before r p a || (stale a && not (stores_at rec.access a)))) ≡ true
      back h = and_from (not (live_before r (suc p) a)) (live_before r p a || (stale a && not (stores_at rec.access a))) (not_from_false (live_before r (suc p) a) h.gone) (⊎_elim
          (λ live. or_left (live_before r p a) (stale a && not (stores_at rec.access a)) live)
          (λ gone. or_right (live_before r p a) (stale a && not (stores_at rec.access a)) (and_from (stale a) (not (stores_at rec.access a)) (d.1 (stale_earlier a gone h)) (not_from_false (stores_at rec.access a) (spared a j gone h))))
          (cases_Bool (live_before r p a)))

  pub stale_handled : (stale : Bool) (a : ℕ) → is_judged (phase_before r core p) rec.kind ≡ false → live_before r (suc p) a ≡ live_before r p a → Decides stale (IsStale r p a) → Decides stale (IsStale r (suc p) a)
  stale_handled stale a j same d = Decides-like
      stale
      (λ h. stale_later a (same ∙ h.gone) (λ c q x t at s. absurd (not_judged j c q t)) h)
      (λ h. stale_earlier a (sym same ∙ h.gone) h)
      d

  -- ---- EPC1
  no_write : writes_at r p core rec ≡ false → LeavesEpc1 r core p
  no_write e q t = subst (λ (x : StepRecord). writes_at r p core x ≡ false) (same_rec core q t.turn) e

  epc_more : (c once : ℕ) → ((i : ℕ) → once ≤ i → i < p → LeavesEpc1 r c i) → LeavesEpc1 r c p → (i : ℕ) → once ≤ i → i < suc p → LeavesEpc1 r c i
  epc_more c once h now i l u = ⊎_elim (λ b. h i l b) (λ e. subst (λ x. LeavesEpc1 r c x) (sym e) now) (before_or_at i p u)

  lost_later : (c : ℕ) → LeavesEpc1 r c p → IsLost r c p → IsLost r c (suc p)
  lost_later c now h =
      let earlier = h.earlier in
      record { once = h.once; earlier = omega (arith, earlier); rec = h.rec; turn = h.turn; loses = h.loses; since = epc_more c h.once h.since now }

  lost_now : (is_judged (phase_before r core p) rec.kind ≡ false) ⊎ EndsMode r p core rec → LeavesEpc1 r core p → IsLost r core (suc p)
  lost_now loses now = record {
    once = p;
    earlier = omega arith;
    rec = rec;
    turn = turn;
    loses = loses;
    since = epc_more core p (λ i l u. absurd (omega (arith, l, u))) now;
  }

  lost_earlier : (c : ℕ) → (h : IsLost r c (suc p)) → h.once < p → IsLost r c p
  lost_earlier c h l = record { once = h.once; earlier = l; rec = h.rec; turn = h.turn; loses = h.loses; since = λ i x y. h.since i x (omega (arith, y)) }

  abbrev writes : Bool
  writes = writes_at r p core rec

  abbrev falling : Bool
  falling = ends_exception_mode (frame_with_inputs r p core rec).control.ps (current (step_at r p core rec).after).control.ps

  fell : (h : IsLost r core (suc p)) → is_judged (phase_before r core p) rec.kind ≡ true → h.once ≡ p → falling ≡ true
  fell h j e =
      let at : IsTurn r p core h.rec = subst (λ x. IsTurn r x core h.rec) e h.turn in
      let loses : (is_judged (phase_before r core p) h.rec.kind ≡ false) ⊎ EndsMode r p core h.rec = subst (λ x. (is_judged (phase_before r core x) h.rec.kind ≡ false) ⊎ EndsMode r x core h.rec) e h.loses in
      let own : (is_judged (phase_before r core p) rec.kind ≡ false) ⊎ EndsMode r p core rec = subst (λ (x : StepRecord). (is_judged (phase_before r core p) x.kind ≡ false) ⊎ EndsMode r p core x) (sym (same_rec core h.rec at)) loses in
      ⊎_elim
      (λ n. absurd (both_ways (is_judged (phase_before r core p) rec.kind) n j))
      (λ m. and_from (frame_with_inputs r p core rec).control.ps.excm (not (current (step_at r p core rec).after).control.ps.excm) m.0 (not_from_false (current (step_at r p core rec).after).control.ps.excm m.1))
      own

  ends_mode : falling ≡ true → EndsMode r p core rec
  ends_mode e =
      let parts = and_parts (frame_with_inputs r p core rec).control.ps.excm (not (current (step_at r p core rec).after).control.ps.excm) e in
      (parts.0, not-true (current (step_at r p core rec).after).control.ps.excm parts.1)

  pub lost_judged : (fresh : Bool) → is_judged (phase_before r core p) rec.kind ≡ true → Decides (not fresh) (IsLost r core p) → Decides (not (writes || (fresh && not falling))) (IsLost r core (suc p))
  lost_judged fresh j d = (there, back)
    where
      there : not (writes || (fresh && not falling)) ≡ true → IsLost r core (suc p)
      there t =
          let parts = or_parts writes (fresh && not falling) (not-true (writes || (fresh && not falling)) t) in
          let now = no_write parts.0 in
          ⊎_elim
          (λ stale. lost_later core now (d.0 (not_from_false fresh stale)))
          (λ kept. lost_now (inr (ends_mode (not-false falling kept))) now)
          (and_cases fresh (not falling) parts.1)

      unwritten : (h : IsLost r core (suc p)) → writes ≡ false
      unwritten h = let earlier = h.earlier in h.since p (omega (arith, earlier)) (omega arith) rec (record { turn = turn; judged = j })

      unfresh : (h : IsLost r core (suc p)) → (fresh && not falling) ≡ false
      unfresh h = ⊎_elim
          (λ l. and_left fresh (not falling) (not-true fresh (d.1 (lost_earlier core h l))))
          (λ e. and_right fresh (not falling) (not_from_true falling (fell h j e)))
          (before_or_at h.once p h.earlier)

      back : IsLost r core (suc p) → not (writes || (fresh && not falling)) ≡ true
      back h = not_from_false (writes || (fresh && not falling)) (or_from writes (fresh && not falling) (unwritten h) (unfresh h))

  pub lost_handled : is_judged (phase_before r core p) rec.kind ≡ false → Decides true (IsLost r core (suc p))
  lost_handled j = (λ t. lost_now (inl j) (λ q t. absurd (not_judged j core q t)), λ h. refl)

  -- the other core's stays as it was
  not_of : (other : ℕ) → (core == other) ≡ false → (q : StepRecord) → IsTurn r p other q → ⊥
  not_of other e q t =
      let same : core ≡ other = ap (λ (x : Turn). x.core) (same_turn r p core rec turn other q t) in
      both_ways (core == other) e (eq-eqb core other same)

  pub lost_other : (other : ℕ) (lost : Bool) → (core == other) ≡ false → Decides lost (IsLost r other p) → Decides lost (IsLost r other (suc p))
  lost_other other lost apart d = Decides-like
      lost
      (λ h. lost_later other (λ q t. absurd (not_of other apart q t.turn)) h)
      (λ h. ⊎_elim
      (λ l. lost_earlier other h l)
      (λ e. absurd (not_of other apart h.rec (subst (λ x. IsTurn r x other h.rec) e h.turn)))
      (before_or_at h.once p h.earlier))
      d
