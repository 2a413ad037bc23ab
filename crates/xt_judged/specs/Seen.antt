-- Carries a proof; nothing that a reader must believe.
-- What the program's judge answers of one record, in the words of the definition.
use Rattle.std.specs.Prelude.{◌≡◌, ℕ, Bool, true, false, Option, Result, Ok, Err, List, length}
use Rattle.xt_trace.specs.declared.record.StepRecord.{StepRecord}
use Rattle.xt_frames.specs.declared.kinds.Breach.{Breach}
use Rattle.xt_frames.specs.declared.kinds.BreachKind.{BreachKind}
use Rattle.xt_frames.specs.Breaches.{Bounds, stale_after}
use Rattle.xt_frames.specs.declared.kinds.HandlerPhase.{HandlerPhase}
use Rattle.xt_frames.specs.Judging.{Standing, Seen, Handled, Judges, Breaks, seen_record}
use Rattle.xt_frames.specs.Stacks.{Moves}
use Rattle.xt_frames.specs.Walked.{Walked, fresh_before}
use Rattle.xt_judged.specs.declared.record.Beside.{Beside}
use Rattle.xt_judged.specs.declared.record.Known.{Known}
use Rattle.xt_judged.specs.declared.seeing.Passed.{Passed}
use Rattle.xt_judged.specs.Kept.{standing_of}
use Rattle.xt_judged.specs.Lives.{AreApart, is_live_in, others_live}
use Rattle.xt_judged.specs.Stales.{among, renewed}

-- what is known of a core with these frames in this phase
abbrev pub standing_at : Walked → HandlerPhase → Standing
standing_at w p = record { frame = w.state; fresh = w.fresh; phase = p }

-- what the definition sees in a record, beside the other core and these stale bytes
abbrev pub seen_by :
    (ℕ → ℕ) → Walked → HandlerPhase → Option Walked → (ℕ → Bool) → StepRecord → Seen
seen_by code own p other stale rec =
    seen_record code own.bounds (standing_at own p) (others_live other) stale rec

-- the answer is what the definition sees, and the frames `new` are those after the record
abbrev pub IsSeenAs :
    Walked → Walked → Option Walked → (ℕ → Bool) → StepRecord → Seen → Result Passed Breach
    → Type 0
IsSeenAs old new other stale rec (Handled st) (Ok p) =
    (p.judged ≡ false) × (new ≡ old)
    × (st ≡ record { frame = old.state; fresh = false; phase = p.phase })
IsSeenAs old new other stale rec (Judges st after) (Ok p) =
    (p.judged ≡ true) × (new.bounds ≡ old.bounds) × (new.next ≡ 1) × Moves old.state new.state
    × (length new.state.control.special ≡ length old.state.control.special)
    × (st ≡ standing_at new p.phase)
    × (after ≡ stale_after (is_live_in new other) (is_live_in old other) stale rec.access)
IsSeenAs old new other stale rec (Breaks kind) (Err b) = (b.kind ≡ kind) × (new ≡ old)
IsSeenAs old new other stale rec _ _ = ⊥

-- what is known of the core and of the stale bytes past the record, or the breach
abbrev pub IsKnownPast : Bounds → List ℕ → Seen → Result Known BreachKind → Type 0
IsKnownPast b stale (Handled st) (Ok k) =
    (standing_of k.standing ≡ st) × (k.standing.frames.bounds ≡ b)
    × (among (renewed stale k.stale) ≡ among stale)
IsKnownPast b stale (Judges st after) (Ok k) =
    (standing_of k.standing ≡ st) × (k.standing.frames.bounds ≡ b)
    × (among (renewed stale k.stale) ≡ after)
IsKnownPast b stale (Breaks kind) (Err k) = k ≡ kind
IsKnownPast b stale _ _ = ⊥

-- then still no stale byte lies in a live save area
abbrev pub IsApartPast : Option Walked → List ℕ → Result Known BreachKind → Type 0
IsApartPast other stale (Ok k) =
    AreApart k.standing.frames other (renewed stale k.stale)
IsApartPast other stale (Err kind) = Unit {0}

-- what is known of the core is a copy of these frames, and this beside them
pub record IsCopied (new : Walked) (b : Beside) (k : Known) : Type 0 where
  pub frames : k.standing.frames ≡ record new { fresh = fresh_before new 1; next = 0 }
  pub phase : k.standing.phase ≡ b.phase
  pub stale : k.stale ≡ b.stale

-- the same, where the core has the frames `new` past the record, of which a copy is known then
abbrev pub IsKnownAfter :
    Bounds → List ℕ → Walked → Seen → Result Beside BreachKind → Type 0
IsKnownAfter bounds stale new seen (Ok b) =
    (k : Known) → IsCopied new b k → IsKnownPast bounds stale seen (Ok k)
IsKnownAfter bounds stale new seen (Err kind) = IsKnownPast bounds stale seen (Err kind)

-- after a breach the frames are as before
abbrev pub StaysAfter : Walked → Walked → Result Beside BreachKind → Type 0
StaysAfter old new (Ok b) = Unit {0}
StaysAfter old new (Err kind) = new ≡ old

abbrev pub IsApartAfter : Option Walked → List ℕ → Walked → Result Beside BreachKind → Type 0
IsApartAfter other stale new (Ok b) =
    (k : Known) → IsCopied new b k → IsApartPast other stale (Ok k)
IsApartAfter other stale new (Err kind) = Unit {0}
