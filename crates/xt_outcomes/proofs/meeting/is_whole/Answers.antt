use Rattle.std.proofs.Common.{sym, ◌∙◌}
use Rattle.std.proofs.lemmas.Bool.{true≢false}
use Rattle.xt_outcomes.specs.Searched.{IsComplete}
use Rattle.xt_outcomes.proofs.Finding.{graph_of_machine, meets_orders}
use Rattle.xt_outcomes.proofs.meeting.is_whole.Goals as goal

pub has_all-requires : goal.has_all-requires
has_all-requires c = graph_of_machine c.args.image.now c.args.options.now c.args.search.now c.requires.search

pub returns-then-not-has_all-clause-complete : goal.returns-then-not-has_all-clause-complete
returns-then-not-has_all-clause-complete c = (
  λ t. absurd (true≢false (sym t)),
  λ complete. absurd (true≢false (sym (c.has_all.ensures.whole.1 complete.whole) ∙ c.if-not-has_all.true)),
)

pub returns-clause-complete : goal.returns-clause-complete
returns-clause-complete c = (
  λ t. record { whole = c.has_all.ensures.whole.0 c.if-not-has_all.false; allowed = c.are_allowed.ensures.0 t },
  λ complete. c.are_allowed.ensures.1 complete.allowed,
)

pub returns-clause-orders : goal.returns-clause-orders
returns-clause-orders c = λ t.
    let complete : IsComplete c.args.search.now = record { whole = c.has_all.ensures.whole.0 c.if-not-has_all.false; allowed = c.are_allowed.ensures.0 t } in
    meets_orders c.args.image.now c.args.options.now c.args.search.now c.requires.search complete
