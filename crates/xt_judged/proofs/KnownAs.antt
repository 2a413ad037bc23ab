-- What is known past a record is what the definition sees in it.
use Rattle.std.proofs.Common.{◌≡◌, ℕ, Bool, true, false, not, eqb, ◌&&◌, ◌||◌, Option, None, Result, Ok, Err, List, length, refl, sym, ap, ◌∙◌, subst}
use Rattle.std.proofs.lemmas.Bool.{true≢false}
use Rattle.xt_trace.specs.declared.record.StepRecord.{StepRecord}
use Rattle.xt_frames.specs.declared.kinds.Breach.{Breach}
use Rattle.xt_frames.specs.declared.kinds.HandlerPhase.{HandlerPhase}
use Rattle.xt_frames.specs.Breaches.{stale_after, stores_at}
use Rattle.xt_frames.specs.Judging.{Seen, Handled, Judges, Breaks}
use Rattle.xt_frames.specs.Stacks.{Moves}
use Rattle.xt_frames.specs.Walked.{Walked, fresh_before}
use Rattle.xt_judged.specs.declared.record.Beside.{Beside}
use Rattle.xt_judged.specs.declared.record.Known.{Known}
use Rattle.xt_judged.specs.declared.seeing.Passed.{Passed}
use Rattle.xt_judged.specs.Lives.{AreApart, is_live_in}
use Rattle.xt_judged.specs.Seen.{IsApartAfter, IsApartPast, IsKnownAfter, IsKnownPast, IsSeenAs, seen_by}
use Rattle.xt_judged.specs.Stales.{among, renewed}
use Rattle.xt_judged.proofs.SeenAs.{and_false, and_true}

-- what is live after a judged step is not stale
not_stale : (l x : Bool) → (not l && x) ≡ true → l ≡ false
not_stale true x h = absurd (true≢false (sym h))
not_stale false x h = refl

-- the core has as many special registers as before
pub as_many : (old new : Walked) (other : Option Walked) (stale : ℕ → Bool) (rec : StepRecord) (seen : Seen) (p : Passed)
    → IsSeenAs old new other stale rec seen (Ok p) → length new.state.control.special ≡ length old.state.control.special
as_many old new other stale rec (Handled st) p h = ap (λ (w : Walked). length w.state.control.special) h.1
as_many old new other stale rec (Judges st after) p h = h.4
as_many old new other stale rec (Breaks kind) p h = absurd h

module _ (own : Walked) (other : Option Walked) (new : Walked) (stale : List ℕ) (rec : StepRecord) (p : Passed) (k : Known)
    (frames : k.standing.frames ≡ record new { fresh = fresh_before new 1; next = 0 })
    (phase : k.standing.phase ≡ p.phase)
    (same : p.judged ≡ false → k.stale ≡ None)
    (after_is : p.judged ≡ true → new.bounds ≡ own.bounds → Moves own.state new.state → (a : ℕ)
    → among (renewed stale k.stale) a ≡ stale_after (is_live_in new other) (is_live_in own other) (among stale) rec.access a) where
  state_is : k.standing.frames.state ≡ new.state
  state_is = ap (λ (w : Walked). w.state) frames

  bounds_is : k.standing.frames.bounds ≡ new.bounds
  bounds_is = ap (λ (w : Walked). w.bounds) frames

  fresh_is : k.standing.frames.fresh ≡ fresh_before new 1
  fresh_is = ap (λ (w : Walked). w.fresh) frames

  live_is : (a : ℕ) → is_live_in k.standing.frames other a ≡ is_live_in new other a
  live_is a = ap (λ (w : Walked). is_live_in w other a) frames

  same_bytes : p.judged ≡ false → among (renewed stale k.stale) ≡ among stale
  same_bytes e = ap (λ (s : Option (List ℕ)). among (renewed stale s)) (same e)

  pub known_as : own.next ≡ 0 → (seen : Seen) → IsSeenAs own new other (among stale) rec seen (Ok p) → IsKnownPast own.bounds stale seen (Ok k)
  known_as first (Handled st) h =
      let not_fresh : k.standing.frames.fresh ≡ false =
      fresh_is ∙ (ap (λ (w : Walked). fresh_before w 1) h.1 ∙ (ap (λ (n : ℕ). own.fresh && eqb n 1) first ∙ and_false own.fresh)) in
      let state = state_is ∙ ap (λ (w : Walked). w.state) h.1 in (
        (λ i. record { frame = state i; fresh = not_fresh i; phase = phase i }) ∙ sym h.2,
        bounds_is ∙ ap (λ (w : Walked). w.bounds) h.1,
        same_bytes h.0,
      )
  known_as first (Judges st after) h =
      let fresh : k.standing.frames.fresh ≡ new.fresh = fresh_is ∙ (ap (λ (n : ℕ). new.fresh && eqb n 1) h.2 ∙ and_true new.fresh) in
      let bytes = after_is h.0 h.1 h.3 in (
        (λ i. record { frame = state_is i; fresh = fresh i; phase = phase i }) ∙ sym h.5,
        bounds_is ∙ h.1,
        (λ i a. bytes a i) ∙ sym h.6,
      )
  known_as first (Breaks kind) h = absurd h

  pub apart_as : AreApart own other stale → (seen : Seen) → IsSeenAs own new other (among stale) rec seen (Ok p) → IsApartPast other stale (Ok k)
  apart_as apart (Handled st) h = λ a t.
      live_is a ∙ (ap (λ (w : Walked). is_live_in w other a) h.1 ∙ apart a (sym (ap (λ (f : ℕ → Bool). f a) (same_bytes h.0)) ∙ t))
  apart_as apart (Judges st after) h = λ a t.
      live_is a ∙ not_stale (is_live_in new other a) (is_live_in own other a || (among stale a && not (stores_at rec.access a)))
      (sym (after_is h.0 h.1 h.3 a) ∙ t)
  apart_as apart (Breaks kind) h = absurd h

-- the same of each copy of the frames past the record
module _ (own : Walked) (other : Option Walked) (new : Walked) (stale : List ℕ) (rec : StepRecord) (p : Passed) (b : Beside)
    (phase : b.phase ≡ p.phase)
    (same : p.judged ≡ false → b.stale ≡ None)
    (after_is : p.judged ≡ true → new.bounds ≡ own.bounds → Moves own.state new.state → (a : ℕ)
    → among (renewed stale b.stale) a ≡ stale_after (is_live_in new other) (is_live_in own other) (among stale) rec.access a) where
  pub known_after : own.next ≡ 0 → (seen : Seen) → IsSeenAs own new other (among stale) rec seen (Ok p) → IsKnownAfter own.bounds stale new seen (Ok b)
  known_after first seen h = λ k copied.
      known_as own other new stale rec p k copied.frames (copied.phase ∙ phase) (λ e. copied.stale ∙ same e)
      (λ judged bounds m a. ap (λ (s : Option (List ℕ)). among (renewed stale s) a) copied.stale ∙ after_is judged bounds m a) first seen h

  pub apart_after : AreApart own other stale → (seen : Seen) → IsSeenAs own new other (among stale) rec seen (Ok p) → IsApartAfter other stale new (Ok b)
  apart_after apart seen h = λ k copied.
      apart_as own other new stale rec p k copied.frames (copied.phase ∙ phase) (λ e. copied.stale ∙ same e)
      (λ judged bounds m a. ap (λ (s : Option (List ℕ)). among (renewed stale s) a) copied.stale ∙ after_is judged bounds m a) apart seen h

-- what is seen, by the answer
pub seen_of : (code : ℕ → ℕ) (own new : Walked) (p : HandlerPhase) (other : Option Walked) (stale : List ℕ) (rec : StepRecord) (r s : Result Passed Breach) → r ≡ s
    → IsSeenAs own new other (among stale) rec (seen_by code own p other (among stale) rec) r → IsSeenAs own new other (among stale) rec (seen_by code own p other (among stale) rec) s
seen_of code own new p other stale rec r s e h = subst (λ (x : Result Passed Breach). IsSeenAs own new other (among stale) rec (seen_by code own p other (among stale) rec) x) e h

-- a breach
pub breach_as : (own new : Walked) (other : Option Walked) (stale : List ℕ) (rec : StepRecord) (seen : Seen) (b : Breach)
    → IsSeenAs own new other (among stale) rec seen (Err b) → IsKnownPast own.bounds stale seen (Err b.kind) × (new ≡ own)
breach_as own new other stale rec (Handled st) b h = absurd h
breach_as own new other stale rec (Judges st after) b h = absurd h
breach_as own new other stale rec (Breaks kind) b h = h
