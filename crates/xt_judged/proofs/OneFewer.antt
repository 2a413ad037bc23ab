-- The judge of a core past a record, and one that knows fewer registers.
use Rattle.std.proofs.Common.{◌≡◌, ℕ, Bool, true, false, cond, refl, sym, ap, ◌∙◌, subst}
use Rattle.std.proofs.lemmas.Bool.{true≢false}
use Rattle.xt_trace.specs.declared.record.StepRecord.{StepRecord}
use Rattle.xt_frames.specs.SaveAreas.{Range}
use Rattle.xt_frames.specs.Breaches.{Bounds}
use Rattle.xt_frames.specs.Judging.{Standing, Seen, Handled, Judges, Breaks, seen_record}
use Rattle.xt_judged.specs.Forgotten.{IsFewerJudge, IsFewerStanding, IsOuter}
use Rattle.xt_judged.specs.OwnJudges.{Judge, are_within, comes_to, goes, is_within, judge_past, judge_seen, with_known}
use Rattle.xt_judged.specs.declared.watched.Fate.TheVariants as fate
use Rattle.xt_judged.proofs.FewerJudges.{IsFewerSeen, IsOnStack, IsSeenOnStack, places, seen_fewer}

-- ---- judges

within_same : (b : Bounds) (s t : Standing) → IsFewerStanding s t → IsOnStack b s.frame → is_within b.range s.frame ≡ is_within b.range t.frame
within_same b s t h on = ap (are_within b.range) (places s.frame t.frame h.frame b on)

module _ (j k : Judge) (h : IsFewerJudge j k) where
  known_fewer : (s t : Standing) (x y : ℕ → Bool) → IsFewerStanding s t → x ≡ y → IsOnStack j.bounds s.frame → goes (with_known s x j).fate ≡ true → IsFewerJudge (with_known s x j) (with_known t y k)
  known_fewer s t x y f e on go = by (is_within j.bounds.range s.frame) refl
    where
      new : Judge
      new = record { standing = s; bounds = j.bounds; stale = x; fate = j.fate }

      newer : Judge
      newer = record { standing = t; bounds = k.bounds; stale = y; fate = k.fate }

      lost : Judge
      lost = record j { fate = fate.Crossed }

      gone : Judge
      gone = record k { fate = fate.Crossed }

      there : is_within k.bounds.range t.frame ≡ is_within j.bounds.range s.frame
      there = ap (λ (b : Bounds). is_within b.range t.frame) (sym h.bounds) ∙ sym (within_same j.bounds s t f on)

      by : (b : Bool) → is_within j.bounds.range s.frame ≡ b → IsFewerJudge (with_known s x j) (with_known t y k)
      by true i =
          let both : IsFewerJudge new newer = record { standing = f; bounds = h.bounds; stale = e; fate = h.fate } in
          subst (λ (z : Bool). IsFewerJudge (cond z new lost) (with_known t y k)) (sym i) (subst (λ (z : Bool). IsFewerJudge new (cond z newer gone)) (sym (there ∙ i)) both)
      by false i = absurd (true≢false (sym (ap (λ (z : Bool). goes (cond z new lost).fate) (sym i) ∙ go)))

  seen_judge : (c : ℕ) (rec : StepRecord) (s t : Seen) → IsFewerSeen s t → IsSeenOnStack j.bounds s → goes (judge_seen c rec j s).fate ≡ true → IsFewerJudge (judge_seen c rec j s) (judge_seen c rec k t)
  seen_judge c rec (Handled s) (Handled t) f on go = known_fewer s t j.stale k.stale f h.stale on go
  seen_judge c rec (Judges s x) (Judges t y) f on go = known_fewer s t x y f.0 f.1 on go
  seen_judge c rec (Breaks kind) t f on go = absurd (true≢false (sym go))
  seen_judge c rec (Handled s) (Judges t y) f on go = absurd f
  seen_judge c rec (Handled s) (Breaks kind) f on go = absurd f
  seen_judge c rec (Judges s x) (Handled t) f on go = absurd f
  seen_judge c rec (Judges s x) (Breaks kind) f on go = absurd f

  module _ (code : ℕ → ℕ) (other : Range) (c : ℕ) (rec : StepRecord) where
    abbrev alone : Judge → Seen
    alone x = seen_record code x.bounds x.standing (λ a. false) x.stale rec

    seen_both : IsOuter j.standing.phase rec → IsOnStack j.bounds j.standing.frame → IsSeenOnStack j.bounds (alone j) → IsFewerSeen (alone j) (alone k)
    seen_both outer on later =
        subst (IsFewerSeen (alone j)) (λ i. seen_record code (h.bounds i) k.standing (λ a. false) (h.stale i) rec)
        (seen_fewer code j.bounds j.standing k.standing h.standing (λ a. false) j.stale rec on outer later)

    -- a judge that knows fewer registers, and goes on, goes on as one that knows more
    pub judge_fewer : IsOuter j.standing.phase rec → IsOnStack j.bounds j.standing.frame → IsSeenOnStack j.bounds (alone j) → goes (judge_past code other c j rec).fate ≡ true
        → IsFewerJudge (judge_past code other c j rec) (judge_past code other c k rec)
    judge_fewer outer on later go = by (comes_to other rec.access) refl
      where
        past : Bool → Judge → Judge
        past b x = cond b (record x { fate = fate.Crossed }) (judge_seen c rec x (alone x))

        by : (b : Bool) → comes_to other rec.access ≡ b → IsFewerJudge (judge_past code other c j rec) (judge_past code other c k rec)
        by true e = absurd (true≢false (sym (ap (λ (b : Bool). goes (past b j).fate) (sym e) ∙ go)))
        by false e =
            let seen = seen_judge c rec (alone j) (alone k) (seen_both outer on later) later (ap (λ (b : Bool). goes (past b j).fate) (sym e) ∙ go) in
            subst (λ (b : Bool). IsFewerJudge (past b j) (past b k)) (sym e) seen
