-- A core after a record that was judged as a whole.
use Rattle.std.proofs.Common.{◌≡◌, ℕ, Bool, false, Option, Some, Result, Ok, Err, refl, sym, ◌∙◌, ap, subst}
use Rattle.std.proofs.lemmas.Bool.{true≢false}
use Rattle.xt_trace.specs.declared.record.StepRecord.{StepRecord}
use Rattle.xt_frames.specs.declared.kinds.HandlerPhase.{HandlerPhase}
use Rattle.xt_frames.specs.declared.kinds.HandlerPhase.TheVariants.{Outside, InHandler, Nested}
use Rattle.xt_frames.specs.Breaches.{Bounds}
use Rattle.xt_shadow.proofs.Saw.{is_nested, other_phase}
use Rattle.xt_uses.specs.declared.told.JudgeError.{JudgeError}
use Rattle.xt_uses.specs.declared.told.JudgeError.TheVariants as stopped
use Rattle.xt_uses.specs.Lacks.{lacks_before}
use Rattle.xt_uses.specs.UseWalk.{UseBroken, UseHandled, UseJudged, UseSeen, use_seen}
use Rattle.xt_use_walk.specs.declared.side.Bytes.{Bytes}
use Rattle.xt_use_walk.specs.declared.side.Side.{Side}
use Rattle.xt_use_walk.specs.declared.walk.FirstUse.{FirstUse}
use Rattle.xt_use_walk.specs.Sides.{IsUseSeen, IsUseSide, standing_of}
use Rattle.xt_use_shadow.specs.declared.cores.UseShadow.{UseShadow}
use Rattle.xt_use_shadow.specs.declared.seeing.End.{End}
use Rattle.xt_use_shadow.specs.declared.seeing.End.TheVariants.{NoTurn, Breaks, NoMemory, Lost}
use Rattle.xt_use_shadow.specs.Shadows.{IsCore, IsFirstIn, IsSawn, IsSeenBy, shown}
use Rattle.xt_use_shadow.proofs.Turning.{shown_whole}
use Rattle.xt_use_shadow.proofs.Whole.{plain_kept}

-- ---- what one side shows
stands : (old new : Side) (bytes : Bytes) (others : ℕ → Bool) (masks : ℕ → ℕ) (seen : UseSeen) (first : FirstUse) → IsUseSeen old new bytes others masks seen (Err (stopped.Breaks first.breach)) → new ≡ old
stands old new bytes others masks (UseHandled st) first h = absurd h
stands old new bytes others masks (UseJudged st after) first h = absurd h
stands old new bytes others masks (UseBroken kind) first h = h.1

pub sawn_breaks : (code : ℕ → ℕ) (old new : Side) (bytes : Bytes) (others : ℕ → Bool) (masks : ℕ → ℕ) (rec : StepRecord) (out : Result Unit JudgeError) (first : FirstUse) → out ≡ Err (stopped.Breaks first.breach)
    → IsUseSeen old new bytes others masks (use_seen code old.uses.bounds (standing_of old) others masks rec) out → first.rec ≡ rec → first.lacks ≡ lacks_before code rec new.uses.state → IsFirstIn code old new bytes others masks rec (Some first)
sawn_breaks code old new bytes others masks rec out first is seen shows lacks =
    let R : Result Unit JudgeError → Type 0 = λ r. IsUseSeen old new bytes others masks (use_seen code old.uses.bounds (standing_of old) others masks rec) r in
    let broken : Result Unit JudgeError = Err (stopped.Breaks first.breach) in
    let there : R broken = subst R is seen in
    let stays : new ≡ old = stands old new bytes others masks (use_seen code old.uses.bounds (standing_of old) others masks rec) first there in
    (shows, lacks ∙ ap (λ (n : Side). lacks_before code rec n.uses.state) stays, there)

-- ---- what is left of a core past a record
record IsLeft (old new : Side) : Type 0 where
  pub side : IsUseSide new
  pub bounds : new.uses.bounds ≡ old.uses.bounds

left_by : (old new : Side) (bytes : Bytes) (others : ℕ → Bool) (masks : ℕ → ℕ) (u : Unit {0}) (x : UseSeen) → IsUseSeen old new bytes others masks x (Ok u) → IsLeft old new
left_by old new bytes others masks u (UseHandled st) p = record { side = p.side; bounds = p.bounds_are }
left_by old new bytes others masks u (UseJudged st after) p = record { side = p.side; bounds = p.bounds_are }
left_by old new bytes others masks u (UseBroken kind) p = absurd p

module _ (old : UseShadow) (new : Side) (bytes : Bytes) (others : ℕ → Bool) (masks : ℕ → ℕ) (code : ℕ → ℕ) (rec : StepRecord) (u : Unit {0}) (inside : IsCore old) (whole : old.level ≡ false)
    (saw : IsUseSeen old.side new bytes others masks (use_seen code old.side.uses.bounds (standing_of old.side) others masks rec) (Ok u))
  where
    left : IsLeft old.side new
    left = left_by old.side new bytes others masks u (use_seen code old.side.uses.bounds (standing_of old.side) others masks rec) saw

    vectors : old.vecbase ≡ new.uses.bounds.vecbase
    vectors = inside.vectors ∙ ap (λ (b : Bounds). b.vecbase) (sym left.bounds)

    core_on : (q : HandlerPhase) → new.phase ≡ q → (is_nested q → ⊥) → IsCore (record old { side = new })
    core_on q e off =
        let on : new.phase ≡ Nested → ⊥ = other_phase new.phase q e off in
        record {
          side = left.side;
          vectors = vectors;
          count = inside.count;
          plain = λ p. plain_kept old.side new bytes others masks code rec u (inside.plain p) on (λ nested. true≢false (sym p ∙ inside.nested nested)) saw;
          nested = λ nested. absurd (on nested);
          level = λ p. absurd (true≢false (sym p ∙ whole));
        }

    pub core_outside : new.phase ≡ Outside → IsCore (record old { side = new })
    core_outside e = core_on Outside e (λ x. x)

    pub core_handles : new.phase ≡ InHandler → IsCore (record old { side = new })
    core_handles e = core_on InHandler e (λ x. x)

    pub core_nested : IsCore (record old { side = new; may_step = false })
    core_nested = record {
      side = left.side;
      vectors = vectors;
      count = inside.count;
      plain = λ p. absurd (true≢false (sym p));
      nested = λ nested. refl;
      level = λ p. absurd (true≢false (sym p ∙ whole));
    }

    pub seen_ok : (core : UseShadow) (first : Option FirstUse) → shown core ≡ new → IsCore core → IsSeenBy code old core bytes others masks rec first (Ok u)
    seen_ok core first is k =
        let S : Side → Side → Type 0 = λ a b. IsSawn code a b bytes others masks rec first (Ok u) in
        (subst (λ (a : Side). S a (shown core)) (sym (shown_whole old whole)) (subst (λ (b : Side). S old.side b) (sym is) saw), k)

pub seen_err : (old core : UseShadow) (new : Side) (bytes : Bytes) (others : ℕ → Bool) (masks : ℕ → ℕ) (code : ℕ → ℕ) (rec : StepRecord) (first : Option FirstUse) (end : End) → old.level ≡ false → shown core ≡ new
    → IsSawn code old.side new bytes others masks rec first (Err end) → IsSeenBy code old core bytes others masks rec first (Err end)
seen_err old core new bytes others masks code rec first Breaks whole is saw =
    let bad : Result Unit End = Err Breaks in
    let S : Side → Side → Type 0 = λ a d. IsSawn code a d bytes others masks rec first bad in
    subst (λ (a : Side). S a (shown core)) (sym (shown_whole old whole)) (subst (λ (d : Side). S old.side d) (sym is) saw)
seen_err old core new bytes others masks code rec first (NoMemory error) whole is saw = tt
seen_err old core new bytes others masks code rec first NoTurn whole is saw = absurd saw
seen_err old core new bytes others masks code rec first Lost whole is saw = absurd saw
