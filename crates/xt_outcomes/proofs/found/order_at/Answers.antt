use Rattle.std.proofs.Common.{◌≡◌, ℕ, ◌<◌, ◌≤◌, List, length, refl, sym, ap, ◌∙◌, subst, arith}
use Rattle.std.proofs.lemmas.Option.{slice_get_read}
use Rattle.xt_map.specs.declared.contents.MemoryContents.{MemoryContents}
use Rattle.xt_map.specs.Memory.{constant_byte}
use Rattle.xt_trace.specs.Runs.{world_at_start}
use Rattle.xt_exec.specs.Chips.{processor}
use Rattle.xt_exec.specs.State.{State}
use Rattle.xt_core.specs.Runs.{opening_of}
use Rattle.xt_search.specs.Meetings.{after}
use Rattle.xt_search.specs.Worlds.{IsOrder}
use Rattle.xt_outcomes.specs.Dead.{spot_forgotten}
use Rattle.xt_outcomes.specs.KeptWorlds.{spot_of}
use Rattle.xt_outcomes.specs.Nexts.{TurnsFit, spot_next}
use Rattle.xt_outcomes.specs.Places.{spot_run, turns_of}
use Rattle.xt_outcomes.specs.Spots.{Spot, spot_in}
use Rattle.xt_outcomes.proofs.Continuing.{there}
use Rattle.xt_outcomes.proofs.Covering.{RunsAreFree, are_turns, order_more, runs_are_free}
use Rattle.xt_outcomes.proofs.Finding.{found_by, graph_of_machine}
use Rattle.xt_outcomes.proofs.Spreading.{drop_all, first_free, free_more, order_at, rest_free, run_more, turns_more}
use Rattle.xt_outcomes.proofs.found.order_at.Goals as goal

pub order_to-requires-clause-graph : goal.order_to-requires-clause-graph
order_to-requires-clause-graph c = graph_of_machine c.args.image.now c.args.options.now c.args.search.now c.requires.search

pub open_for-requires-clause-memory : goal.open_for-requires-clause-memory
open_for-requires-clause-memory c = c.requires.search.opening

pub made-requires-clause-core : goal.made-requires-clause-core
made-requires-clause-core c =
    let runs = c.in_ok-runs.runs.items in
    let core = c.index-core.result.now in
    let many : c.len-at-end.result ≡ length runs = c.len-at-end.ensures ∙ c.in_ok-runs.runs.ok.0 in
    let less : c.loop-at.at < c.len-at-end.result = c.loop-at-test.true in
    order_at runs c.loop-at.at core c.in_ok-runs.ensures.order (slice_get_read runs (length runs) c.loop-at.at core refl (omega arith) c.index-core.ensures)

pub made-requires-clause-free : goal.made-requires-clause-free
made-requires-clause-free c =
    let t = c.args.search.now.machine in
    let runs = c.in_ok-runs.runs.items in
    let core = c.index-core.result.now in
    let many : c.len-at-end.result ≡ length runs = c.len-at-end.ensures ∙ c.in_ok-runs.runs.ok.0 in
    let less : c.loop-at.at < c.len-at-end.result = c.loop-at-test.true in
    let here = slice_get_read runs (length runs) c.loop-at.at core refl (omega arith) c.index-core.ensures in
    first_free (constant_byte t.code) t.timed t.dead.masks.items t.places.list.items t.most_local runs c.loop-at.at core (spot_of t.opening.contents c.loop-at.world) here c.loop-at.invariant.left

pub loop-at-init : goal.loop-at-init
loop-at-init c =
    let s = c.args.search.now in
    let t = s.machine in
    let code = constant_byte t.code in
    let m = t.opening.contents in
    let first = c.requires.search.first in
    let p = spot_forgotten t.dead.masks.items (spot_in t.timed (world_at_start (opening_of c.args.image.now c.args.options.now))) in
    let R = spot_run code t.timed t.dead.masks.items t.places.list.items t.most_local in
    let runs = c.in_ok-runs.runs.items in
    let none = sym c.new-order.ensures.items in
    let e = ap (λ (k : MemoryContents). spot_of k c.in_ok-world.world) c.requires.search.opening ∙ c.in_ok-world.ensures.spot in
    let f : spot_of m first.0 ≡ p = ap (λ (k : MemoryContents). spot_of k first.0) c.requires.search.opening ∙ first.2 in
    let w = there s.graph.kept.items c.args.number c.requires.number in
    let left = runs_are_free code t.timed t.dead.masks.items t.places.list.items t.most_local m runs first.0 w.0 (c.in_ok-runs.ensures.leads first.0 w.0 first.1 w.1) in
    record {
      order = subst IsOrder none tt;
      turns = e ∙ ap (λ (l : List ℕ). after (spot_next (processor code) t.timed t.dead.masks.items) l p) none;
      free = subst (λ (l : List ℕ). TurnsFit code t.timed t.dead.masks.items l p) none tt;
      runs = ap (after R runs) e;
      left = subst (λ (q : Spot State). RunsAreFree code t.timed t.dead.masks.items t.places.list.items t.most_local runs q) (f ∙ sym e) left;
    }

pub loop-at-preserved : goal.loop-at-preserved
loop-at-preserved c =
    let t = c.args.search.now.machine in
    let code = constant_byte t.code in
    let step = spot_next (processor code) t.timed t.dead.masks.items in
    let m = t.opening.contents in
    let p = spot_forgotten t.dead.masks.items (spot_in t.timed (world_at_start (opening_of c.args.image.now c.args.options.now))) in
    let R = spot_run code t.timed t.dead.masks.items t.places.list.items t.most_local in
    let runs = c.in_ok-runs.runs.items in
    let at = c.loop-at.at in
    let core = c.index-core.result.now in
    let r = c.in_ok-run.run' in
    let u = spot_of m c.loop-at.world in
    let old = c.loop-at.order.items in
    let new = c.push_turns.new.order.items in
    let many : c.len-at-end.result ≡ length runs = c.len-at-end.ensures ∙ c.in_ok-runs.runs.ok.0 in
    let less : at < c.len-at-end.result = c.loop-at-test.true in
    let here = slice_get_read runs (length runs) at core refl (omega arith) c.index-core.ensures in
    let small : core < 2 = order_at runs at core c.in_ok-runs.ensures.order here in
    record {
      order = subst IsOrder (sym c.in_ok-push_turns.ensures) (order_more old (turns_of core r.turns) c.loop-at.invariant.order (are_turns core r.turns small));
      turns = turns_more step old (turns_of core r.turns) new u (spot_of m r.world) p c.in_ok-push_turns.ensures c.loop-at.invariant.turns c.in_ok-run.ensures.turns;
      free = free_more code t.timed t.dead.masks.items old (turns_of core r.turns) new u p c.in_ok-push_turns.ensures c.loop-at.invariant.turns c.loop-at.invariant.free c.in_ok-run.ensures.free;
      runs = run_more R runs at core u (spot_of m r.world) (after R runs p) here c.in_ok-run.ensures.run c.loop-at.invariant.runs;
      left = rest_free code t.timed t.dead.masks.items t.places.list.items t.most_local runs at core u (spot_of m r.world) here c.in_ok-run.ensures.run c.loop-at.invariant.left;
    }

pub returns-clause-found : goal.returns-clause-found
returns-clause-found c =
    let s = c.args.search.now in
    let t = s.machine in
    let R = spot_run (constant_byte t.code) t.timed t.dead.masks.items t.places.list.items t.most_local in
    let runs = c.in_ok-runs.runs.items in
    let many : c.len-at-end.result ≡ length runs = c.len-at-end.ensures ∙ c.in_ok-runs.runs.ok.0 in
    let past : c.len-at-end.result ≤ c.loop-at.at = c.loop-at-test.false in
    let none = drop_all runs c.loop-at.at (omega arith) in
    found_by c.args.image.now c.args.options.now s c.requires.search runs c.loop-at.order.items c.args.number c.loop-at.world c.in_ok-runs.ensures.leads
    (ap (λ (l : List ℕ). after R l (spot_of t.opening.contents c.loop-at.world)) (sym none) ∙ c.loop-at.invariant.runs) c.loop-at.invariant.turns c.loop-at.invariant.free
