-- A core after a record that was judged as a whole.
use Rattle.std.proofs.Common.{◌≡◌, ℕ, Bool, false, Result, Ok, Err, List, refl, sym, ◌∙◌, ap, subst}
use Rattle.std.proofs.lemmas.Bool.{true≢false}
use Rattle.xt_trace.specs.declared.record.StepRecord.{StepRecord}
use Rattle.xt_frames.specs.declared.kinds.Breach.{Breach}
use Rattle.xt_frames.specs.declared.kinds.HandlerPhase.{HandlerPhase}
use Rattle.xt_frames.specs.declared.kinds.HandlerPhase.TheVariants.{Outside, InHandler, Nested}
use Rattle.xt_frames.specs.declared.kinds.Judged.TheVariants.{Broken}
use Rattle.xt_frames.specs.Breaches.{Bounds}
use Rattle.xt_frames.specs.Judging.{Seen, Handled, Judges, Breaks, seen_record}
use Rattle.xt_discipline.specs.declared.bytes.Held.{Held}
use Rattle.xt_discipline.specs.declared.side.Side.{Side}
use Rattle.xt_discipline.specs.Sides.{IsSeen, IsSide, standing_of}
use Rattle.xt_shadow.specs.declared.cores.ShadowCore.{ShadowCore}
use Rattle.xt_shadow.specs.declared.cores.End.TheVariants.{Is}
use Rattle.xt_shadow.specs.Shadows.{IsCore, IsSeenBy, shown}
use Rattle.xt_shadow.proofs.Turning.{shown_whole}
use Rattle.xt_shadow.proofs.Whole.{plain_kept}

abbrev pub is_nested : HandlerPhase → Type 0
is_nested Nested = Unit {0}
is_nested _ = ⊥

pub other_phase : (p q : HandlerPhase) → p ≡ q → (is_nested q → ⊥) → p ≡ Nested → ⊥
other_phase p q e off nested = off (subst is_nested (sym nested ∙ e) tt)

-- what is left of a core past a record
pub record IsLeft (old new : Side) : Type 0 where
  pub side : IsSide new
  pub bounds : new.frames.bounds ≡ old.frames.bounds

left_by : (old new : Side) (n : List Held) (others stale : ℕ → Bool) (u : Unit {0}) (x : Seen) → IsSeen old new n others stale x (Ok u) → IsLeft old new
left_by old new n others stale u (Handled st) p = record { side = p.side; bounds = p.bounds_are }
left_by old new n others stale u (Judges st after) p = record { side = p.side; bounds = p.bounds_are }
left_by old new n others stale u (Breaks kind) p = absurd p

module _ (old : ShadowCore) (new : Side) (n : List Held) (others stale : ℕ → Bool) (code : ℕ → ℕ) (rec : StepRecord) (u : Unit {0}) (inside : IsCore old) (whole : old.level ≡ false)
    (saw : IsSeen old.side new n others stale (seen_record code old.side.frames.bounds (standing_of old.side) others stale rec) (Ok u))
  where
    left : IsLeft old.side new
    left = left_by old.side new n others stale u (seen_record code old.side.frames.bounds (standing_of old.side) others stale rec) saw

    vectors : old.vecbase ≡ new.frames.bounds.vecbase
    vectors = inside.vectors ∙ ap (λ (b : Bounds). b.vecbase) (sym left.bounds)

    pub core_on : (q : HandlerPhase) → new.phase ≡ q → (is_nested q → ⊥) → IsCore (record old { side = new })
    core_on q e off =
        let on : new.phase ≡ Nested → ⊥ = other_phase new.phase q e off in
        record {
          side = left.side;
          vectors = vectors;
          count = inside.count;
          plain = λ p. plain_kept old.side new n others stale code rec u (inside.plain p) on (λ nested. true≢false (sym p ∙ inside.nested nested)) saw;
          nested = λ nested. absurd (on nested);
          level = λ p. absurd (true≢false (sym p ∙ whole));
        }

    pub core_outside : new.phase ≡ Outside → IsCore (record old { side = new })
    core_outside e = core_on Outside e (λ x. x)

    pub core_handles : new.phase ≡ InHandler → IsCore (record old { side = new })
    core_handles e = core_on InHandler e (λ x. x)

    pub core_nested : IsCore (record old { side = new; plain = false })
    core_nested = record {
      side = left.side;
      vectors = vectors;
      count = inside.count;
      plain = λ p. absurd (true≢false (sym p));
      nested = λ nested. refl;
      level = λ p. absurd (true≢false (sym p ∙ whole));
    }

    pub seen_ok : (core : ShadowCore) → shown core ≡ new → IsCore core → IsSeenBy old core n others stale (seen_record code old.side.frames.bounds (standing_of old.side) others stale rec) (Ok u)
    seen_ok core is k =
        let S : Side → Side → Type 0 = λ a b. IsSeen a b n others stale (seen_record code old.side.frames.bounds (standing_of old.side) others stale rec) (Ok u) in
        (subst (λ (a : Side). S a (shown core)) (sym (shown_whole old whole)) (subst (λ (b : Side). S old.side b) (sym is) saw), k)

pub seen_err : (old core : ShadowCore) (new : Side) (n : List Held) (others stale : ℕ → Bool) (code : ℕ → ℕ) (rec : StepRecord) (b : Breach) → old.level ≡ false → shown core ≡ new
    → IsSeen old.side new n others stale (seen_record code old.side.frames.bounds (standing_of old.side) others stale rec) (Err b)
    → IsSeenBy old core n others stale (seen_record code old.side.frames.bounds (standing_of old.side) others stale rec) (Err (Is (Broken b)))
seen_err old core new n others stale code rec b whole is saw =
    let bad : Result Unit Breach = Err b in
    let S : Side → Side → Type 0 = λ a d. IsSeen a d n others stale (seen_record code old.side.frames.bounds (standing_of old.side) others stale rec) bad in
    subst (λ (a : Side). S a (shown core)) (sym (shown_whole old whole)) (subst (λ (d : Side). S old.side d) (sym is) saw)
