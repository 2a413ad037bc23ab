use Rattle.std.proofs.Common.{◌≡◌, ℕ, Some, sym, subst, true}
use Rattle.xt_trace.specs.Runs.{world_at_start}
use Rattle.xt_trace.specs.Worlds.{advance}
use Rattle.xt_exec.specs.Chips.{processor}
use Rattle.xt_core.specs.Runs.{code_of, opening_of}
use Rattle.xt_outcomes.specs.NextRaces.{next_access}
use Rattle.xt_outcomes.specs.NextTurns.{AreNextTurns}
use Rattle.xt_outcomes.specs.Orders.{with_turns}
use Rattle.xt_outcomes.proofs.Looking.{asks0, asks1, same_turns}
use Rattle.xt_outcomes.proofs.nexts.untimed_turns.Goals as goal

pub turns_from-requires-clause-access0 : goal.turns_from-requires-clause-access0
turns_from-requires-clause-access0 c =
    let code = code_of c.args.image.now in
    let o = opening_of c.args.image.now c.args.options.now in
    let order = c.args.order.now in
    let a = c.args.accesses.0 in
    let many = c.in_ok-more.ensures in
    subst (λ (n : ℕ). next_access code true (advance (processor code) order (world_at_start (with_turns o n))).core0 ≡ Some a) (sym many)
    (asks0 code o order a c.args.accesses.1 c.requires.race)

pub turns_from-requires-clause-access1 : goal.turns_from-requires-clause-access1
turns_from-requires-clause-access1 c =
    let code = code_of c.args.image.now in
    let o = opening_of c.args.image.now c.args.options.now in
    let order = c.args.order.now in
    let b = c.args.accesses.1 in
    let many = c.in_ok-more.ensures in
    subst (λ (n : ℕ). next_access code true (advance (processor code) order (world_at_start (with_turns o n))).core1 ≡ Some b) (sym many)
    (asks1 code o order c.args.accesses.0 b c.requires.race)

pub returns : goal.returns
returns c =
    let code = code_of c.args.image.now in
    let o = opening_of c.args.image.now c.args.options.now in
    let order = c.args.order.now in
    let t = c.in_ok-turns.turns in
    let many = c.in_ok-more.ensures in
    same_turns code o order t.0 t.1
    (subst (λ (n : ℕ). AreNextTurns code (advance (processor code) order (world_at_start (with_turns o n))) t.0 t.1) many c.in_ok-turns.ensures)
