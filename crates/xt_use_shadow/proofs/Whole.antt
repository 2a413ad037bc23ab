-- A record that is judged as a whole.
use Rattle.std.proofs.Common.{◌≡◌, ℕ, Bool, true, false, Option, Some, None, Ok, refl, sym, ◌∙◌, ap, subst}
use Rattle.xt_trace.specs.declared.record.StepRecord.{StepRecord}
use Rattle.xt_frames.specs.declared.kinds.BreachKind.{BreachKind}
use Rattle.xt_frames.specs.declared.kinds.HandlerPhase.TheVariants.{Nested}
use Rattle.xt_frames.specs.HandlerSteps.{phase_after}
use Rattle.xt_discipline.specs.declared.roles.Role.{Role}
use Rattle.xt_discipline.specs.declared.roles.Role.TheVariants.{Own, Entry, HandlerStep, NestedStep}
use Rattle.xt_discipline.specs.Phases.{role_of}
use Rattle.xt_discipline.proofs.ByRole.{nests}
use Rattle.xt_shadow.specs.InStep.{IsPlain}
use Rattle.xt_uses.specs.UseBreaches.{use_breach, window_use}
use Rattle.xt_uses.specs.UseWalk.{UseSeen, UseStanding, handled_past, live_with, use_seen, use_seen_step, use_seen_window}
use Rattle.xt_use_walk.specs.declared.side.Bytes.{Bytes}
use Rattle.xt_use_walk.specs.declared.side.Side.{Side}
use Rattle.xt_use_walk.specs.Sides.{IsUsePast, IsUseSeen, standing_of}
use Rattle.xt_use_walk.proofs.Seen.{seen_as, seen_is}
use Rattle.xt_use_shadow.proofs.Counts.{use_plain}

module _ (old new : Side) (bytes : Bytes) (others : ℕ → Bool) (masks : ℕ → ℕ) (code : ℕ → ℕ) (rec : StepRecord) (u : Unit {0}) (k : IsPlain old.uses.state.frame) (on : new.phase ≡ Nested → ⊥) where
  abbrev Saw : UseSeen → Type 0
  Saw x = IsUseSeen old new bytes others masks x (Ok u)

  from_past : (after : ℕ → ℕ) (st : UseStanding) → IsUsePast old new bytes others after st → IsPlain st.state.frame → IsPlain new.uses.state.frame
  from_past after st p h = subst IsPlain (sym (ap (λ (x : UseStanding). x.state.frame) p.standing_is)) h

  by_window : (o : Option BreachKind) → Saw (use_seen_window o code (standing_of old) rec) → IsPlain new.uses.state.frame
  by_window None p = from_past masks (handled_past code (standing_of old) rec) p k
  by_window (Some kind) p = absurd p

  by_judged : (o : Option BreachKind) → Saw (use_seen_step o code old.uses.bounds (standing_of old) others masks false rec) → IsPlain new.uses.state.frame
  by_judged None p = subst IsPlain (sym (ap (λ (x : UseStanding). x.state.frame) p.standing_is)) (use_plain code rec masks old.uses.state k)
  by_judged (Some kind) p = absurd p

  by_nested : (o : Option BreachKind) → phase_after code old.phase rec ≡ Nested → Saw (use_seen_step o code old.uses.bounds (standing_of old) others masks true rec) → IsPlain new.uses.state.frame
  by_nested None e p = absurd (on (ap (λ (x : UseStanding). x.phase) p.standing_is ∙ e))
  by_nested (Some kind) e p = absurd p

  abbrev found : Bool → Option BreachKind
  found nested = use_breach old.uses.bounds (standing_of old).fresh code (live_with old.uses.bounds old.uses.state.frame others) masks nested rec old.uses.state

  by_role : (role : Role) → role ≡ role_of old.phase rec.kind → (old.phase ≡ Nested → ⊥) → Saw (seen_as code old.uses.bounds (standing_of old) others masks rec role) → IsPlain new.uses.state.frame
  by_role Own e off p = by_judged (found false) p
  by_role Entry e off p = by_window (window_use code rec old.uses.state) p
  by_role HandlerStep e off p = from_past masks (handled_past code (standing_of old) rec) p k
  by_role NestedStep e off p = by_nested (found true) (nests code old.phase rec off e) p

  pub plain_kept : (old.phase ≡ Nested → ⊥) → Saw (use_seen code old.uses.bounds (standing_of old) others masks rec) → IsPlain new.uses.state.frame
  plain_kept off p = by_role (role_of old.phase rec.kind) refl off (subst Saw (seen_is code old.uses.bounds (standing_of old) others masks rec (role_of old.phase rec.kind) refl) p)
