-- A record that is judged as a whole.
use Rattle.std.proofs.Common.{◌≡◌, ℕ, Bool, true, false, Option, Some, None, Ok, List, refl, sym, ◌∙◌, ap, subst}
use Rattle.xt_trace.specs.declared.record.StepRecord.{StepRecord}
use Rattle.xt_frames.specs.declared.kinds.BreachKind.{BreachKind}
use Rattle.xt_frames.specs.declared.kinds.HandlerPhase.TheVariants.{InHandler, Nested}
use Rattle.xt_frames.specs.Frames.{FrameState}
use Rattle.xt_frames.specs.FrameStep.{with_inputs}
use Rattle.xt_frames.specs.HandlerSteps.{phase_after}
use Rattle.xt_frames.specs.Nesting.{current}
use Rattle.xt_frames.specs.Breaches.{breach_of, inputs_of, window_breach}
use Rattle.xt_frames.specs.Judging.{Seen, Standing, live_of, seen_record, seen_step, seen_window, step_on}
use Rattle.xt_discipline.specs.declared.bytes.Held.{Held}
use Rattle.xt_discipline.specs.declared.roles.Role.{Role}
use Rattle.xt_discipline.specs.declared.roles.Role.TheVariants.{Own, Entry, HandlerStep, NestedStep}
use Rattle.xt_discipline.specs.declared.side.Side.{Side}
use Rattle.xt_discipline.specs.Phases.{role_of}
use Rattle.xt_discipline.specs.Sides.{IsPast, IsSeen, standing_of}
use Rattle.xt_discipline.proofs.ByRole.{nests, seen_as, seen_is}
use Rattle.xt_shadow.specs.InStep.{IsPlain}
use Rattle.xt_shadow.proofs.Counts.{count_same, nested_none, numbers_all}

plain_step : (code : ℕ → ℕ) (rec : StepRecord) (f : FrameState) → IsPlain f → IsPlain (step_on code false rec f).after
plain_step code rec f k = record {
  nested = nested_none code rec f k.nested;
  numbers = numbers_all code rec f k.nested k.numbers;
  count = count_same code rec f k.nested ∙ k.count;
}

module _ (old new : Side) (marks : List Held) (others stale : ℕ → Bool) (code : ℕ → ℕ) (rec : StepRecord) (u : Unit {0}) (k : IsPlain old.frames.state) (on : new.phase ≡ Nested → ⊥) where
  abbrev Saw : Seen → Type 0
  Saw x = IsSeen old new marks others stale x (Ok u)

  from_past : (after : ℕ → Bool) (st : Standing) → IsPast old new marks others after st → IsPlain st.frame → IsPlain new.frames.state
  from_past after st p h = subst IsPlain (sym (ap (λ (x : Standing). x.frame) p.standing_is)) h

  by_window : (o : Option BreachKind) → Saw (seen_window o old.frames.state) → IsPlain new.frames.state
  by_window None p = from_past stale (record { frame = old.frames.state; fresh = false; phase = InHandler }) p k
  by_window (Some kind) p = absurd p

  by_judged : (o : Option BreachKind) → Saw (seen_step o code old.frames.bounds (standing_of old) others stale false rec) → IsPlain new.frames.state
  by_judged None p = subst IsPlain (sym (ap (λ (x : Standing). x.frame) p.standing_is)) (plain_step code rec old.frames.state k)
  by_judged (Some kind) p = absurd p

  by_nested : (o : Option BreachKind) → phase_after code old.phase rec ≡ Nested → Saw (seen_step o code old.frames.bounds (standing_of old) others stale true rec) → IsPlain new.frames.state
  by_nested None e p = absurd (on (ap (λ (x : Standing). x.phase) p.standing_is ∙ e))
  by_nested (Some kind) e p = absurd p

  abbrev found : Bool → Option BreachKind
  found nested = breach_of old.frames.bounds (standing_of old).fresh code (live_of old.frames.bounds old.frames.state others) stale nested rec old.frames.state

  by_role : (role : Role) → role ≡ role_of old.phase rec.kind → (old.phase ≡ Nested → ⊥) → Saw (seen_as code old.frames.bounds (standing_of old) others stale rec role) → IsPlain new.frames.state
  by_role Own e off p = by_judged (found false) p
  by_role Entry e off p = by_window (window_breach code rec.kind (with_inputs (inputs_of rec) (current old.frames.state))) p
  by_role HandlerStep e off p = from_past stale (record { frame = old.frames.state; fresh = false; phase = phase_after code old.phase rec }) p k
  by_role NestedStep e off p = by_nested (found true) (nests code old.phase rec off e) p

  pub plain_kept : (old.phase ≡ Nested → ⊥) → Saw (seen_record code old.frames.bounds (standing_of old) others stale rec) → IsPlain new.frames.state
  plain_kept off p = by_role (role_of old.phase rec.kind) refl off (subst Saw (seen_is code old.frames.bounds (standing_of old) others stale rec (role_of old.phase rec.kind) refl) p)
