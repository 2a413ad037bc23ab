-- EPC1 before a turn, and before the next, as the machine of uses has it: what the walk keeps of it decides what is said by all earlier
-- turns.
use Rattle.std.proofs.Common.{◌≡◌, ℕ, suc, ◌<◌, ◌≤◌, Bool, true, false, ◌==◌, ◌&&◌, ◌||◌, not, sym, ap, refl, arith, inl, inr, ⊎_elim, subst, Decides, ◌⊎◌}
use Rattle.std.proofs.lemmas.Bool.{both_ways, not-true, and_parts, and_from, and_cases, and_left, and_right, or_parts, or_from, not_from_true, not_from_false, not-false, eq-eqb}
use Rattle.std.proofs.lemmas.Bool.Decides.{Decides-like}
use Rattle.xt_trace.specs.declared.record.StepRecord.{StepRecord}
use Rattle.xt_frames.specs.Breaches.{ends_exception_mode}
use Rattle.xt_frames.specs.Nesting.{current}
use Rattle.xt_frames.specs.FirstBreach.{Course, IsJudgedTurn, IsTurn, Turn, is_judged, phase_before}
use Rattle.xt_frames.proofs.Prefixes.{before_or_at, same_turn}
use Rattle.xt_uses.specs.FirstUse.{EndsMode, History, IsLost, LeavesEpc1, found_at, use_at, writes_at}

module _ (r : Course) (h : History) (p core : ℕ) (rec : StepRecord) (turn : IsTurn r p core rec) where
  -- the turn is not judged, so no turn of its number is
  not_judged : is_judged (phase_before r core p) rec.kind ≡ false → (c : ℕ) (q : StepRecord) → IsJudgedTurn r p c q → ⊥
  not_judged j c q t =
      let same = same_turn r p core rec turn c q t.turn in
      let now : is_judged (phase_before r core p) rec.kind ≡ true = subst (λ (x : Turn). is_judged (phase_before r x.core p) x.rec.kind ≡ true) (sym same) t.judged in
      both_ways (is_judged (phase_before r core p) rec.kind) j now

  same_rec : (c : ℕ) (q : StepRecord) → IsTurn r p c q → rec ≡ q
  same_rec c q t = ap (λ (x : Turn). x.rec) (same_turn r p core rec turn c q t)

  no_write : writes_at r h p core rec ≡ false → LeavesEpc1 r h core p
  no_write e q t = subst (λ (x : StepRecord). writes_at r h p core x ≡ false) (same_rec core q t.turn) e

  epc_more : (c once : ℕ) → ((i : ℕ) → once ≤ i → i < p → LeavesEpc1 r h c i) → LeavesEpc1 r h c p → (i : ℕ) → once ≤ i → i < suc p → LeavesEpc1 r h c i
  epc_more c once since now i l u = ⊎_elim (λ b. since i l b) (λ e. subst (λ x. LeavesEpc1 r h c x) (sym e) now) (before_or_at i p u)

  lost_later : (c : ℕ) → LeavesEpc1 r h c p → IsLost r h c p → IsLost r h c (suc p)
  lost_later c now l =
      let earlier = l.earlier in
      record { once = l.once; earlier = omega (arith, earlier); rec = l.rec; turn = l.turn; loses = l.loses; since = epc_more c l.once l.since now }

  lost_now : (is_judged (phase_before r core p) rec.kind ≡ false) ⊎ EndsMode r h p core rec → LeavesEpc1 r h core p → IsLost r h core (suc p)
  lost_now loses now = record {
    once = p;
    earlier = omega arith;
    rec = rec;
    turn = turn;
    loses = loses;
    since = epc_more core p (λ i l u. absurd (omega (arith, l, u))) now;
  }

  lost_earlier : (c : ℕ) → (l : IsLost r h c (suc p)) → l.once < p → IsLost r h c p
  lost_earlier c l b = record { once = l.once; earlier = b; rec = l.rec; turn = l.turn; loses = l.loses; since = λ i x y. l.since i x (omega (arith, y)) }

  abbrev writes : Bool
  writes = writes_at r h p core rec

  abbrev falling : Bool
  falling = ends_exception_mode (found_at r h p core rec).control.ps (current (use_at r h p core rec).after.frame).control.ps

  fell : (l : IsLost r h core (suc p)) → is_judged (phase_before r core p) rec.kind ≡ true → l.once ≡ p → falling ≡ true
  fell l j e =
      let at : IsTurn r p core l.rec = subst (λ x. IsTurn r x core l.rec) e l.turn in
      let loses : (is_judged (phase_before r core p) l.rec.kind ≡ false) ⊎ EndsMode r h p core l.rec = subst (λ x. (is_judged (phase_before r core x) l.rec.kind ≡ false) ⊎ EndsMode r h x core l.rec) e l.loses in
      let own : (is_judged (phase_before r core p) rec.kind ≡ false) ⊎ EndsMode r h p core rec = subst (λ (x : StepRecord). (is_judged (phase_before r core p) x.kind ≡ false) ⊎ EndsMode r h p core x) (sym (same_rec core l.rec at)) loses in
      ⊎_elim
      (λ n. absurd (both_ways (is_judged (phase_before r core p) rec.kind) n j))
      (λ m. and_from (found_at r h p core rec).control.ps.excm (not (current (use_at r h p core rec).after.frame).control.ps.excm) m.0 (not_from_false (current (use_at r h p core rec).after.frame).control.ps.excm m.1))
      own

  ends_mode : falling ≡ true → EndsMode r h p core rec
  ends_mode e =
      let parts = and_parts (found_at r h p core rec).control.ps.excm (not (current (use_at r h p core rec).after.frame).control.ps.excm) e in
      (parts.0, not-true (current (use_at r h p core rec).after.frame).control.ps.excm parts.1)

  pub lost_judged : (fresh : Bool) → is_judged (phase_before r core p) rec.kind ≡ true → Decides (not fresh) (IsLost r h core p) → Decides (not (writes || (fresh && not falling))) (IsLost r h core (suc p))
  lost_judged fresh j d = (there, back)
    where
      there : not (writes || (fresh && not falling)) ≡ true → IsLost r h core (suc p)
      there t =
          let parts = or_parts writes (fresh && not falling) (not-true (writes || (fresh && not falling)) t) in
          let now = no_write parts.0 in
          ⊎_elim
          (λ stale. lost_later core now (d.0 (not_from_false fresh stale)))
          (λ kept. lost_now (inr (ends_mode (not-false falling kept))) now)
          (and_cases fresh (not falling) parts.1)

      unwritten : (l : IsLost r h core (suc p)) → writes ≡ false
      unwritten l = let earlier = l.earlier in l.since p (omega (arith, earlier)) (omega arith) rec (record { turn = turn; judged = j })

      unfresh : (l : IsLost r h core (suc p)) → (fresh && not falling) ≡ false
      unfresh l = ⊎_elim
          (λ b. and_left fresh (not falling) (not-true fresh (d.1 (lost_earlier core l b))))
          (λ e. and_right fresh (not falling) (not_from_true falling (fell l j e)))
          (before_or_at l.once p l.earlier)

      back : IsLost r h core (suc p) → not (writes || (fresh && not falling)) ≡ true
      back l = not_from_false (writes || (fresh && not falling)) (or_from writes (fresh && not falling) (unwritten l) (unfresh l))

  pub lost_handled : is_judged (phase_before r core p) rec.kind ≡ false → Decides true (IsLost r h core (suc p))
  lost_handled j = (λ t. lost_now (inl j) (λ q t. absurd (not_judged j core q t)), λ l. refl)

  -- the other core's stays as it was
  not_of : (other : ℕ) → (core == other) ≡ false → (q : StepRecord) → IsTurn r p other q → ⊥
  not_of other e q t =
      let same : core ≡ other = ap (λ (x : Turn). x.core) (same_turn r p core rec turn other q t) in
      both_ways (core == other) e (eq-eqb core other same)

  pub lost_other : (other : ℕ) (lost : Bool) → (core == other) ≡ false → Decides lost (IsLost r h other p) → Decides lost (IsLost r h other (suc p))
  lost_other other lost apart d = Decides-like
      lost
      (λ l. lost_later other (λ q t. absurd (not_of other apart q t.turn)) l)
      (λ l. ⊎_elim
      (λ b. lost_earlier other l b)
      (λ e. absurd (not_of other apart l.rec (subst (λ x. IsTurn r x other l.rec) e l.turn)))
      (before_or_at l.once p l.earlier))
      d
