use Rattle.std.proofs.Common.{sym, ap, ◌∙◌}
use Rattle.xt_map.specs.Memory.{opening_memory}
use Rattle.xt_bus.specs.States.{MemoryState}
use Rattle.xt_moments.specs.Outcomes.{have_stopped, outcome_in}
use Rattle.xt_moments.proofs.Orders.{after_is}
use Rattle.xt_moments.proofs.outcome.outcome_after.Goals as goal

pub returns-then-not-have_stopped-clause-going : goal.returns-then-not-have_stopped-clause-going
returns-then-not-have_stopped-clause-going c =
    let m = c.in_ok-opening.opening.contents in
    let is = ap (λ (s : MemoryState). s.contents) c.in_ok-opening.ensures
    ∙ (λ i. opening_memory (c.as_slice-2.ensures i) (c.stack_links-links.ensures i)) in
    let all = after_is c.args.image.now c.args.options.now c.args.order.now c.in_ok-code.code m
    c.open-first.result c.in_ok-world.world (c.in_ok-code.ensures ∙ c.as_slice.ensures) is
    c.open-first.ensures c.in_ok-world.ensures in
    sym (c.if-not-have_stopped.ensures m ∙ ap have_stopped all)

pub returns-clause-ends : goal.returns-clause-ends
returns-clause-ends c =
    let m = c.in_ok-opening.opening.contents in
    let is = ap (λ (s : MemoryState). s.contents) c.in_ok-opening.ensures
    ∙ (λ i. opening_memory (c.as_slice-2.ensures i) (c.stack_links-links.ensures i)) in
    let all = after_is c.args.image.now c.args.options.now c.args.order.now c.in_ok-code.code m
    c.open-first.result c.in_ok-world.world (c.in_ok-code.ensures ∙ c.as_slice.ensures) is
    c.open-first.ensures c.in_ok-world.ensures in
    record {
      ended = sym (c.if-not-have_stopped.ensures m ∙ ap have_stopped all);
      outcome = c.in_ok-outcome.ensures ∙ ap (outcome_in c.args.words.now) all;
    }
