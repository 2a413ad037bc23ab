use Rattle.std.proofs.Common.{◌≡◌, List, Some, sym, ap, ◌∙◌, subst}
use Rattle.xt_map.specs.declared.segment.Segment.{Segment}
use Rattle.xt_map.specs.Memory.{constant_byte}
use Rattle.xt_map.specs.Serving.{reply_to}
use Rattle.xt_trace.specs.Runs.{world_at_start}
use Rattle.xt_trace.specs.Worlds.{advance}
use Rattle.xt_exec.specs.Chips.{processor}
use Rattle.xt_exec.specs.State.{State}
use Rattle.xt_exec.specs.Turn.{turn}
use Rattle.xt_core.specs.Runs.{code_of, opening_of}
use Rattle.xt_search.specs.Changed.{contents_of}
use Rattle.xt_outcomes.specs.Orders.{with_both}
use Rattle.xt_outcomes.specs.SpotRaces.{next_of}
use Rattle.xt_outcomes.specs.Spots.{Spot}
use Rattle.xt_outcomes.proofs.Counted.{counts_opened}
use Rattle.xt_outcomes.proofs.Looking.{arrives, left_within, turn_is}
use Rattle.xt_outcomes.proofs.nexts.turns_from.Goals as goal

pub next_turn-turn0-requires-clause-access : goal.next_turn-turn0-requires-clause-access
next_turn-turn0-requires-clause-access c =
    let image = c.args.image.now in
    let o = c.args.options.now in
    let t = c.args.machine.now in
    let w = c.in_ok-world.world in
    let oo = with_both (opening_of image o) c.args.turns.0 c.args.turns.1 in
    let is = arrives image o t.code t.opening.contents t.timed c.args.order.now c.args.opening w oo c.requires.code c.requires.memory c.requires.timed c.requires.opens c.in_ok-world.ensures in
    subst (λ (l : List Segment). next_of (constant_byte l) c.side.result.now ≡ Some c.args.accesses.0) (sym c.requires.code)
    (ap (next_of (code_of image)) (c.side.ensures t.opening.contents) ∙ ap (λ (p : Spot State). next_of (code_of image) p.side0) is ∙ c.requires.access0)

pub next_turn-turn0-requires-clause-turns : goal.next_turn-turn0-requires-clause-turns
next_turn-turn0-requires-clause-turns c =
    let image = c.args.image.now in
    let o = c.args.options.now in
    let t = c.args.machine.now in
    let w = c.in_ok-world.world in
    let oo = with_both (opening_of image o) c.args.turns.0 c.args.turns.1 in
    let last = advance (processor (code_of image)) c.args.order.now (world_at_start oo) in
    let is = arrives image o t.code t.opening.contents t.timed c.args.order.now c.args.opening w oo c.requires.code c.requires.memory c.requires.timed c.requires.opens c.in_ok-world.ensures in
    left_within (code_of image) c.args.turns.0 last.core0 c.args.accesses.0 c.side.result.now c.requires.access0 (counts_opened (processor (code_of image)) oo c.args.order.now).0 (c.side.ensures t.opening.contents ∙ ap (λ (p : Spot State). p.side0) is)

pub next_turn-turn1-requires-clause-access : goal.next_turn-turn1-requires-clause-access
next_turn-turn1-requires-clause-access c =
    let image = c.args.image.now in
    let o = c.args.options.now in
    let t = c.args.machine.now in
    let w = c.in_ok-world.world in
    let oo = with_both (opening_of image o) c.args.turns.0 c.args.turns.1 in
    let is = arrives image o t.code t.opening.contents t.timed c.args.order.now c.args.opening w oo c.requires.code c.requires.memory c.requires.timed c.requires.opens c.in_ok-world.ensures in
    subst (λ (l : List Segment). next_of (constant_byte l) c.side-2.result.now ≡ Some c.args.accesses.1) (sym c.requires.code)
    (ap (next_of (code_of image)) (c.side-2.ensures t.opening.contents) ∙ ap (λ (p : Spot State). next_of (code_of image) p.side1) is ∙ c.requires.access1)

pub next_turn-turn1-requires-clause-turns : goal.next_turn-turn1-requires-clause-turns
next_turn-turn1-requires-clause-turns c =
    let image = c.args.image.now in
    let o = c.args.options.now in
    let t = c.args.machine.now in
    let w = c.in_ok-world.world in
    let oo = with_both (opening_of image o) c.args.turns.0 c.args.turns.1 in
    let last = advance (processor (code_of image)) c.args.order.now (world_at_start oo) in
    let is = arrives image o t.code t.opening.contents t.timed c.args.order.now c.args.opening w oo c.requires.code c.requires.memory c.requires.timed c.requires.opens c.in_ok-world.ensures in
    left_within (code_of image) c.args.turns.1 last.core1 c.args.accesses.1 c.side-2.result.now c.requires.access1 (counts_opened (processor (code_of image)) oo c.args.order.now).1 (c.side-2.ensures t.opening.contents ∙ ap (λ (p : Spot State). p.side1) is)

pub returns : goal.returns
returns c =
    let image = c.args.image.now in
    let o = c.args.options.now in
    let code = code_of image in
    let t = c.args.machine.now in
    let w = c.in_ok-world.world in
    let m0 = contents_of t.opening.contents c.as_ref.result.now in
    let m1 = contents_of t.opening.contents c.as_ref-2.result.now in
    let oo = with_both (opening_of image o) c.args.turns.0 c.args.turns.1 in
    let last = advance (processor code) c.args.order.now (world_at_start oo) in
    let is = arrives image o t.code t.opening.contents t.timed c.args.order.now c.args.opening w oo c.requires.code c.requires.memory c.requires.timed c.requires.opens c.in_ok-world.ensures in
    let counts = counts_opened (processor code) oo c.args.order.now in
    let memory0 = ap (contents_of t.opening.contents) c.as_ref.ensures ∙ ap (λ (p : Spot State). p.memory) is in
    let memory1 = ap (contents_of t.opening.contents) c.as_ref-2.ensures ∙ ap (λ (p : Spot State). p.memory) is in
    record {
      turn0 =
          turn_is code c.args.turns.0 last.core0 last.line c.args.accesses.0 c.side.result.now m0 c.next_turn-turn0.result c.requires.access0 counts.0 (c.side.ensures t.opening.contents ∙ ap (λ (p : Spot State). p.side0) is) memory0 c.next_turn-turn0.ensures.turn
          (c.next_turn-turn0.ensures.step ∙ ap (λ (l : List Segment). (turn (constant_byte l) c.side.result.now.state (reply_to m0 c.args.accesses.0)).0) c.requires.code);
      turn1 =
          turn_is code c.args.turns.1 last.core1 last.line c.args.accesses.1 c.side-2.result.now m1 c.next_turn-turn1.result c.requires.access1 counts.1 (c.side-2.ensures t.opening.contents ∙ ap (λ (p : Spot State). p.side1) is) memory1 c.next_turn-turn1.ensures.turn
          (c.next_turn-turn1.ensures.step ∙ ap (λ (l : List Segment). (turn (constant_byte l) c.side-2.result.now.state (reply_to m1 c.args.accesses.1)).0) c.requires.code);
    }
