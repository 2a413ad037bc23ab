-- A judge that knows fewer registers stands for one that has another SCOMPARE1, where it is dead, too.
use Rattle.std.proofs.Common.{◌≡◌, ℕ, true, false, ◌⊎◌, inl, inr, List, slice_set, sym, ap, ◌∙◌, subst, ⊎_elim}
use Rattle.xt_special.specs.Control.{Control}
use Rattle.xt_special.specs.Interrupts.{pending_of}
use Rattle.xt_map.specs.Fetching.{fetch_at}
use Rattle.xt_trace.specs.declared.record.StepRecord.{StepRecord}
use Rattle.xt_frames.specs.declared.kinds.HandlerPhase.{HandlerPhase}
use Rattle.xt_frames.specs.Frames.{FrameState}
use Rattle.xt_frames.specs.FrameStep.{with_inputs}
use Rattle.xt_frames.specs.Breaches.{inputs_of}
use Rattle.xt_frames.specs.Judging.{seen_record}
use Rattle.xt_frames.specs.SaveAreas.{Range}
use Rattle.xt_timeless.specs.Time.{fetches_compare, fetches_write}
use Rattle.xt_timeless.proofs.Keeping.{with_special}
use Rattle.xt_outcomes.specs.Dead.{dead_at, has_compare}
use Rattle.xt_judged.specs.Forgotten.{IsFewerJudge, IsOtherJudge, IsOuter}
use Rattle.xt_judged.specs.OwnJudges.{Judge, goes, judge_past}
use Rattle.xt_judged.proofs.FewerJudges.{IsOnStack, IsSeenOnStack}
use Rattle.xt_judged.proofs.OneFewer.{judge_fewer}
use Rattle.xt_judged.proofs.Written.{IsWriting}
use Rattle.xt_judged.proofs.Compared.{judge_other, without_compare}

writing_same : (code : ℕ → ℕ) (rec : StepRecord) (f g : FrameState) → f.control ≡ g.control → IsWriting code rec f → IsWriting code rec g
writing_same code rec f g e w = record {
  level = sym (ap (λ (d : Control). let x : FrameState = record f { control = d } in pending_of (with_inputs (inputs_of rec) x).control) e) ∙ w.level;
  awake = sym (ap (λ (d : Control). d.waits) e) ∙ w.awake;
  writes = sym (ap (λ (d : Control). fetches_write (fetch_at code d.pc)) e) ∙ w.writes;
}

pub fewer_without : (j k : Judge) → IsFewerJudge j k → IsFewerJudge (without_compare j) (without_compare k)
fewer_without j k h =
    let f = h.standing.frame in
    record {
      standing = record {
        frame = record {
          seen = f.seen;
          frames = f.frames;
          control = ap (λ (d : Control). with_special d (slice_set d.special 12 0)) f.control;
          unset = f.unset;
          plain = f.plain;
          other = f.other;
        };
        fresh = h.standing.fresh;
        phase = h.standing.phase;
      };
      bounds = h.bounds;
      stale = h.stale;
      fate = h.fate;
    }

module _ (code : ℕ → ℕ) (ms : List ℕ) (range : Range) (c : ℕ) (rec : StepRecord) (j mid k : Judge) (h : IsFewerJudge j mid) (o : IsOtherJudge ms mid k) where
  abbrev past : Judge → Judge
  past x = judge_past code range c x rec

  abbrev place : Judge → ℕ
  place x = x.standing.frame.control.pc

  -- past a record that the first judge goes on from, it stands for the last one
  pub both_past : IsOuter j.standing.phase rec → IsOnStack j.bounds j.standing.frame → IsSeenOnStack j.bounds (seen_record code j.bounds j.standing (λ a. false) j.stale rec)
      → goes (past j).fate ≡ true → (has_compare (dead_at ms (place j)) ≡ true → fetches_compare (fetch_at code (place j)) ≡ false)
      → (has_compare (dead_at ms (place j)) ≡ true → IsWriting code rec j.standing.frame ⊎ (has_compare (dead_at ms (place (past j))) ≡ true))
      → IsFewerJudge (past j) (past mid) × IsOtherJudge ms (past mid) (past k)
  both_past outer on later go unread then = (
    less,
    judge_other code ms range c rec mid k o h.standing.frame.other
        (λ d. sym (ap (λ (n : ℕ). fetches_compare (fetch_at code n)) here) ∙ unread (dead_here d))
        (subst (λ (p : HandlerPhase). IsOuter p rec) h.standing.phase outer)
        (ap goes (sym less.fate) ∙ go)
        (λ d.
        ⊎_elim (λ (w : IsWriting code rec j.standing.frame). inl (writing_same code rec j.standing.frame mid.standing.frame h.standing.frame.control w))
        (λ (x : has_compare (dead_at ms (place (past j))) ≡ true). inr (sym (ap (λ (n : ℕ). has_compare (dead_at ms n)) there) ∙ x))
        (then (dead_here d))),
  )
    where
      less : IsFewerJudge (past j) (past mid)
      less = judge_fewer j mid h code range c rec outer on later go

      here : place j ≡ place mid
      here = ap (λ (d : Control). d.pc) h.standing.frame.control

      there : place (past j) ≡ place (past mid)
      there = ap (λ (d : Control). d.pc) less.standing.frame.control

      dead_here : has_compare (dead_at ms (place mid)) ≡ true → has_compare (dead_at ms (place j)) ≡ true
      dead_here d = ap (λ (n : ℕ). has_compare (dead_at ms n)) here ∙ d
