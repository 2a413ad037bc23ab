use Rattle.std.proofs.Common.{◌≡◌, ◌+◌, ◌-◌, ap, sym, ◌∙◌, subst, true, arith}
use Rattle.xt_map.specs.Memory.{constant_byte}
use Rattle.xt_search.specs.Changed.{IsLean, contents_of}
use Rattle.xt_exec.specs.Chips.{processor}
use Rattle.xt_exec.specs.State.{State}
use Rattle.xt_outcomes.specs.KeptWorlds.{moved_spot, spot_of}
use Rattle.xt_outcomes.specs.Nexts.{next_bars, side_next, spot_next}
use Rattle.xt_outcomes.specs.Places.{is_local, spot_run}
use Rattle.xt_outcomes.specs.Spots.{Side, Spot, memory_given, side_of}
use Rattle.xt_outcomes.proofs.Fitting.{not_false, not_true}
use Rattle.xt_outcomes.proofs.Commuted.{local_bars_none}
use Rattle.xt_outcomes.proofs.Moving.{moved_side, next_first, next_on, not_moved}
use Rattle.xt_outcomes.proofs.Resting.{free_rests, run_rests}
use Rattle.xt_outcomes.proofs.Spreading.{free_last, onward_end, onward_off, onward_on, onward_start, turn_last}
use Rattle.xt_outcomes.proofs.timed.Timed.run.Goals as goal

pub returns-then-left-eq0-clause-run : goal.returns-then-left-eq0-clause-run
returns-then-left-eq0-clause-run c =
    let t = c.args.self.now in
    let m = t.opening.contents in
    let core = c.args.core in
    let w = spot_of m c.args.world.now in
    let first = c.side-first.ensures m in
    let side = c.copy-then-left-eq0.ensures ∙ first in
    let memory = ap (contents_of m) (c.in_ok-changes.ensures ∙ c.deref.ensures) in
    let none : (side_of core w).left ≡ 0 = ap (λ (s : Side State). s.left) (sym first) ∙ sym c.left.ensures ∙ c.if-left-eq0.true in
    c.in_ok-run.ensures.spot m
    ∙ (λ i. moved_spot core (side i) (memory i) w)
    ∙ not_moved core w
    ∙ sym (run_rests (constant_byte t.code) t.timed t.dead.masks.items t.places.list.items t.most_local core w none)

pub loop-made-init : goal.loop-made-init
loop-made-init c =
    let t = c.args.self.now in
    let code = constant_byte t.code in
    let ms = t.dead.masks.items in
    let m = t.opening.contents in
    let core = c.args.core in
    let w = spot_of m c.args.world.now in
    let k = contents_of m c.in_ok-changes.changes in
    let first = c.side-first.result.now in
    let copied : c.copy-side.result ≡ first = c.copy-side.ensures in
    let u = moved_spot core c.go_on.new.side (contents_of m c.go_on.new.changes) w in
    let is : u ≡ spot_next (processor code) t.timed ms core w =
    next_first (processor code) t.timed ms core w first c.go_on.new.side k (contents_of m c.go_on.new.changes)
    (c.side-first.ensures m) (ap (contents_of m) (c.in_ok-changes.ensures ∙ c.deref.ensures))
    (c.in_ok-go_on.ensures.side ∙ ap (λ (s : Side State). side_next (processor code) t.timed ms s.left s k) copied)
    (c.in_ok-go_on.ensures.memory ∙ ap (λ (s : Side State). memory_given (processor code) s.left s.state k) copied)
    in
    let nothing = not_true (next_bars code t.timed ms first) (sym (c.in_ok-is_free.ensures k c.ahead-ahead.ensures) ∙ c.if-not-branch.false) in
    let free = ap (λ (s : Side State). next_bars code t.timed ms s) (sym (c.side-first.ensures m)) ∙ nothing in
    record {
      run = onward_start (λ (q : Spot State). is_local code t.timed ms t.places.list.items core (side_of core q)) (spot_next (processor code) t.timed ms core) t.most_local w u is;
      turns = is;
      free = (free, tt);
      lean = λ l. c.in_ok-go_on.ensures.lean (subst (IsLean m) (sym (c.in_ok-changes.ensures ∙ c.deref.ensures)) l);
      ready = c.in_ok-go_on.ensures.ready;
      count = omega arith;
    }

pub loop-made-preserved : goal.loop-made-preserved
loop-made-preserved c =
    let t = c.args.self.now in
    let code = constant_byte t.code in
    let ms = t.dead.masks.items in
    let P = processor code in
    let ps = t.places.list.items in
    let m = t.opening.contents in
    let core = c.args.core in
    let w = spot_of m c.args.world.now in
    let u = moved_spot core c.loop-made.side (contents_of m c.loop-made.changes) w in
    let v = moved_spot core c.go_on-in-loop-made.new.side (contents_of m c.go_on-in-loop-made.new.changes) w in
    let here : is_local code t.timed ms ps core (side_of core u) ≡ true =
    ap (λ (s : Side State). is_local code t.timed ms ps core s) (moved_side core c.loop-made.side (contents_of m c.loop-made.changes) w) ∙ sym c.in_ok-local.ensures.local ∙ c.if-not-branch-2.false
    in
    let next : v ≡ spot_next P t.timed ms core u = next_on P t.timed ms core w c.loop-made.side c.go_on-in-loop-made.new.side (contents_of m c.loop-made.changes) (contents_of m c.go_on-in-loop-made.new.changes) c.in_ok-go_on-2.ensures.side c.in_ok-go_on-2.ensures.memory in
    let e : c.loop-made.turns ≡ c.loop-made.made + 1 = c.loop-made.invariant.count in
    record {
      run = onward_on (λ (q : Spot State). is_local code t.timed ms ps core (side_of core q)) (spot_next P t.timed ms core) t.most_local c.loop-made.made u v (spot_run code t.timed ms ps t.most_local core w)
          c.loop-made-test.true here next c.loop-made.invariant.run;
      turns = turn_last (spot_next P t.timed ms) core c.loop-made.turns u v w c.loop-made.invariant.turns next;
      free = free_last code t.timed ms core c.loop-made.turns u w c.loop-made.invariant.turns c.loop-made.invariant.free (local_bars_none code t.timed ms ps core (side_of core u) here);
      lean = λ l. c.in_ok-go_on-2.ensures.lean (c.loop-made.invariant.lean l);
      ready = c.in_ok-go_on-2.ensures.ready;
      count = omega arith;
    }

pub returns-then-not-branch-2-clause-run : goal.returns-then-not-branch-2-clause-run
returns-then-not-branch-2-clause-run c =
    let t = c.args.self.now in
    let code = constant_byte t.code in
    let ms = t.dead.masks.items in
    let m = t.opening.contents in
    let core = c.args.core in
    let w = spot_of m c.args.world.now in
    let u = moved_spot core c.loop-made.side (contents_of m c.loop-made.changes) w in
    c.in_ok-run-2.ensures.spot m
    ∙ onward_off (λ (q : Spot State). is_local code t.timed ms t.places.list.items core (side_of core q)) (spot_next (processor code) t.timed ms core) (t.most_local - c.loop-made.made) u
    (spot_run code t.timed ms t.places.list.items t.most_local core w)
    (ap (λ (s : Side State). is_local code t.timed ms t.places.list.items core s) (moved_side core c.loop-made.side (contents_of m c.loop-made.changes) w) ∙ sym c.in_ok-local.ensures.local ∙ c.if-not-branch-2.true) c.loop-made.invariant.run

pub returns-clause-run : goal.returns-clause-run
returns-clause-run c =
    let t = c.args.self.now in
    let code = constant_byte t.code in
    let ms = t.dead.masks.items in
    let m = t.opening.contents in
    let core = c.args.core in
    let w = spot_of m c.args.world.now in
    c.in_ok-run-3.ensures.spot m
    ∙ onward_end (λ (q : Spot State). is_local code t.timed ms t.places.list.items core (side_of core q)) (spot_next (processor code) t.timed ms core) t.most_local c.loop-made.made
    (moved_spot core c.loop-made.side (contents_of m c.loop-made.changes) w) (spot_run code t.timed ms t.places.list.items t.most_local core w)
    c.loop-made-test.false c.loop-made.invariant.run

-- ---- the search need not end before it

pub returns-then-left-eq0-clause-begins : goal.returns-then-left-eq0-clause-begins
returns-then-left-eq0-clause-begins c =
    let t = c.args.self.now in
    let m = t.opening.contents in
    let core = c.args.core in
    let w = spot_of m c.args.world.now in
    let none : (side_of core w).left ≡ 0 = ap (λ (s : Side State). s.left) (sym (c.side-first.ensures m)) ∙ sym c.left.ensures ∙ c.if-left-eq0.true in
    free_rests (constant_byte t.code) t.timed t.dead.masks.items core w none

pub returns-then-not-branch-2-clause-begins : goal.returns-then-not-branch-2-clause-begins
returns-then-not-branch-2-clause-begins c =
    let t = c.args.self.now in
    let code = constant_byte t.code in
    let ms = t.dead.masks.items in
    let m = t.opening.contents in
    ap (λ (s : Side State). next_bars code t.timed ms s) (sym (c.side-first.ensures m))
    ∙ not_true (next_bars code t.timed ms c.side-first.result.now) (sym (c.in_ok-is_free.ensures (contents_of m c.in_ok-changes.changes) c.ahead-ahead.ensures) ∙ c.if-not-branch.false)

pub returns-clause-begins : goal.returns-clause-begins
returns-clause-begins c =
    let t = c.args.self.now in
    let code = constant_byte t.code in
    let ms = t.dead.masks.items in
    let m = t.opening.contents in
    ap (λ (s : Side State). next_bars code t.timed ms s) (sym (c.side-first.ensures m))
    ∙ not_true (next_bars code t.timed ms c.side-first.result.now) (sym (c.in_ok-is_free.ensures (contents_of m c.in_ok-changes.changes) c.ahead-ahead.ensures) ∙ c.if-not-branch.false)

pub returns-then-not-branch-clause-barred : goal.returns-then-not-branch-clause-barred
returns-then-not-branch-clause-barred c =
    let t = c.args.self.now in
    let code = constant_byte t.code in
    let ms = t.dead.masks.items in
    let m = t.opening.contents in
    ap (λ (s : Side State). next_bars code t.timed ms s) (sym (c.side-first.ensures m))
    ∙ not_false (next_bars code t.timed ms c.side-first.result.now) (sym (c.in_ok-is_free.ensures (contents_of m c.in_ok-changes.changes) c.ahead-ahead.ensures) ∙ c.if-not-branch.true)
