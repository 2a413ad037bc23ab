use Rattle.std.proofs.Common.{sym, ◌∙◌}
use Rattle.xt_outcomes.proofs.world.World.is_same.Goals as goal

pub returns-clause-same : goal.returns-clause-same
returns-clause-same c = λ t. (
  sym c.as_ref.ensures ∙ c.is_same.ensures.same c.if-not-is_same.false ∙ c.as_ref-2.ensures,
  sym c.as_ref-3.ensures ∙ c.is_same-2.ensures.same c.if-not-is_same-2.false ∙ c.as_ref-4.ensures,
  sym c.as_ref-5.ensures ∙ c.is_same-3.ensures.same t ∙ c.as_ref-6.ensures,
)

pub returns-clause-equal : goal.returns-clause-equal
returns-clause-equal c = λ h. c.is_same-3.ensures.equal (c.as_ref-5.ensures ∙ h.2 ∙ sym c.as_ref-6.ensures)

pub returns-then-not-is_same-clause-equal : goal.returns-then-not-is_same-clause-equal
returns-then-not-is_same-clause-equal c = λ h. sym c.if-not-is_same.true ∙ c.is_same.ensures.equal (c.as_ref.ensures ∙ h.0 ∙ sym c.as_ref-2.ensures)

pub returns-then-not-is_same-2-clause-equal : goal.returns-then-not-is_same-2-clause-equal
returns-then-not-is_same-2-clause-equal c = λ h. sym c.if-not-is_same-2.true ∙ c.is_same-2.ensures.equal (c.as_ref-3.ensures ∙ h.1 ∙ sym c.as_ref-4.ensures)
