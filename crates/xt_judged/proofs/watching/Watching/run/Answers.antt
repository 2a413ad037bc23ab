use Rattle.std.proofs.Common.{◌≡◌, ◌+◌, ap, sym, ◌∙◌, subst, arith}
use Rattle.xt_map.specs.Memory.{constant_byte}
use Rattle.xt_search.specs.Changed.{contents_of}
use Rattle.xt_outcomes.specs.Dead.{fits}
use Rattle.xt_judged.specs.Forgotten.{IsLed}
use Rattle.xt_judged.specs.OwnJudges.{is_over, range_of, uses_time}
use Rattle.xt_judged.specs.WatchedKept.{own_at, watched_of}
use Rattle.xt_judged.proofs.FewerTurns.{alone_parts, barred, fit_is, free_parts, led_next, led_one, own_copied}
use Rattle.xt_judged.proofs.WatchedMade.{bars_are}
use Rattle.xt_judged.proofs.watching.Watching.run.Goals as goal

pub returns-then-not-is_free-clause-barred : goal.returns-then-not-is_free-clause-barred
returns-then-not-is_free-clause-barred c =
    let t = c.args.self.now.timed in
    let m = t.opening.contents in
    let own = own_copied m c.args.watched.now c.args.core c.copy-side.result c.judge.result.now c.begin.new.frames c.in_ok-judge.judge (c.copy-side.ensures ∙ c.side.ensures m) c.judge.ensures c.in_ok-judge.ensures.judge in
    let o = own_at c.copy-side.result c.begin.new.frames c.in_ok-judge.judge in
    barred (constant_byte t.code) t.dead.masks.items (range_of c.args.self.now.stack0) (range_of c.args.self.now.stack1) t.timed c.args.self.now.places.list.items m c.args.watched.now c.args.core
    o own (ap is_over (sym own) ∙ c.requires.on) (sym (c.is_free.ensures (contents_of m c.in_ok-changes.changes) c.ahead-ahead.ensures) ∙ c.if-not-is_free.true)

pub turn-requires-clause-on : goal.turn-requires-clause-on
turn-requires-clause-on c =
    let m = c.args.self.now.timed.opening.contents in
    let own = own_copied m c.args.watched.now c.args.core c.copy-side.result c.judge.result.now c.begin.new.frames c.in_ok-judge.judge (c.copy-side.ensures ∙ c.side.ensures m) c.judge.ensures c.in_ok-judge.ensures.judge in
    ap is_over (sym own) ∙ c.requires.on

pub turn-requires-clause-free : goal.turn-requires-clause-free
turn-requires-clause-free c =
    let t = c.args.self.now.timed in
    let m = t.opening.contents in
    let code = constant_byte t.code in
    let own = own_copied m c.args.watched.now c.args.core c.copy-side.result c.judge.result.now c.begin.new.frames c.in_ok-judge.judge (c.copy-side.ensures ∙ c.side.ensures m) c.judge.ensures c.in_ok-judge.ensures.judge in
    let o = own_at c.copy-side.result c.begin.new.frames c.in_ok-judge.judge in
    let free = free_parts (uses_time code t.timed o.side o.judge.standing.frame) (fits code t.dead.masks.items o.side.state) (sym (c.is_free.ensures (contents_of m c.in_ok-changes.changes) c.ahead-ahead.ensures) ∙ c.if-not-is_free.false) in
    bars_are code t.timed o (ap is_over (sym own) ∙ c.requires.on) ∙ free.0

pub turn-requires-clause-fit : goal.turn-requires-clause-fit
turn-requires-clause-fit c =
    let t = c.args.self.now.timed in
    let m = t.opening.contents in
    let code = constant_byte t.code in
    let o = own_at c.copy-side.result c.begin.new.frames c.in_ok-judge.judge in
    let free = free_parts (uses_time code t.timed o.side o.judge.standing.frame) (fits code t.dead.masks.items o.side.state) (sym (c.is_free.ensures (contents_of m c.in_ok-changes.changes) c.ahead-ahead.ensures) ∙ c.if-not-is_free.false) in
    fit_is code t.dead.masks.items (range_of c.args.self.now.stack0) (range_of c.args.self.now.stack1) t.timed c.args.self.now.places.list.items c.args.core o.side free.1

pub loop-made-init : goal.loop-made-init
loop-made-init c =
    let t = c.args.self.now.timed in
    let code = constant_byte t.code in
    let ms = t.dead.masks.items in
    let m = t.opening.contents in
    let v = c.args.watched.now in
    let core = c.args.core in
    let own = own_copied m v core c.copy-side.result c.judge.result.now c.begin.new.frames c.in_ok-judge.judge (c.copy-side.ensures ∙ c.side.ensures m) c.judge.ensures c.in_ok-judge.ensures.judge in
    let o = own_at c.copy-side.result c.begin.new.frames c.in_ok-judge.judge in
    let memory = sym (ap (contents_of m) (c.in_ok-changes.ensures ∙ c.deref.ensures)) in
    let free = free_parts (uses_time code t.timed o.side o.judge.standing.frame) (fits code ms o.side.state) (sym (c.is_free.ensures (contents_of m c.in_ok-changes.changes) c.ahead-ahead.ensures) ∙ c.if-not-is_free.false) in
    record {
      led = led_one code ms (range_of c.args.self.now.stack0) (range_of c.args.self.now.stack1) t.timed c.args.self.now.places.list.items core (watched_of m v)
          o (own_at c.turn.new.side c.turn.new.frames c.turn.new.judge) (contents_of m c.in_ok-changes.changes) (contents_of m c.turn.new.changes) own memory
          (bars_are code t.timed o (ap is_over (sym own) ∙ c.requires.on) ∙ free.0)
          (fit_is code ms (range_of c.args.self.now.stack0) (range_of c.args.self.now.stack1) t.timed c.args.self.now.places.list.items core o.side free.1) c.in_ok-turn.ensures.turn;
      running = c.in_ok-turn.ensures.running;
      ready = c.in_ok-turn.ensures.ready;
      count = omega arith;
    }

pub turn-requires-in-loop-made-clause-on : goal.turn-requires-in-loop-made-clause-on
turn-requires-in-loop-made-clause-on c =
    let t = c.args.self.now.timed in
    (alone_parts (constant_byte t.code) t.dead.masks.items (range_of c.args.self.now.stack0) (range_of c.args.self.now.stack1) t.timed c.args.self.now.places.list.items c.args.core
    (own_at c.loop-made.side c.loop-made.frames c.loop-made.judge) (c.local.ensures.alone c.if-not-local.false)).0

pub turn-requires-in-loop-made-clause-free : goal.turn-requires-in-loop-made-clause-free
turn-requires-in-loop-made-clause-free c =
    let t = c.args.self.now.timed in
    (alone_parts (constant_byte t.code) t.dead.masks.items (range_of c.args.self.now.stack0) (range_of c.args.self.now.stack1) t.timed c.args.self.now.places.list.items c.args.core
    (own_at c.loop-made.side c.loop-made.frames c.loop-made.judge) (c.local.ensures.alone c.if-not-local.false)).1

pub loop-made-preserved : goal.loop-made-preserved
loop-made-preserved c =
    let t = c.args.self.now.timed in
    let m = t.opening.contents in
    let e : c.loop-made.turns ≡ c.loop-made.made + 1 = c.loop-made.invariant.count in
    let new = c.turn-in-loop-made.new in
    record {
      led = led_next (constant_byte t.code) t.dead.masks.items (range_of c.args.self.now.stack0) (range_of c.args.self.now.stack1) t.timed c.args.self.now.places.list.items c.args.core
          (watched_of m c.args.watched.now) (own_at c.loop-made.side c.loop-made.frames c.loop-made.judge) (own_at new.side new.frames new.judge) (contents_of m c.loop-made.changes) (contents_of m new.changes)
          (c.local.ensures.alone c.if-not-local.false) (c.local.ensures.fit c.if-not-local.false) c.in_ok-turn-2.ensures.turn c.loop-made.invariant.led;
      running = c.in_ok-turn-2.ensures.running;
      ready = c.in_ok-turn-2.ensures.ready;
      count = omega (arith, e);
    }

pub returns-then-not-local-clause-led : goal.returns-then-not-local-clause-led
returns-then-not-local-clause-led c =
    let t = c.args.self.now.timed in
    let m = t.opening.contents in
    subst (IsLed (constant_byte t.code) t.dead.masks.items (range_of c.args.self.now.stack0) (range_of c.args.self.now.stack1) t.timed c.args.self.now.places.list.items c.args.core (watched_of m c.args.watched.now))
    (sym c.in_ok-next.ensures) c.loop-made.invariant.led

pub returns-clause-led : goal.returns-clause-led
returns-clause-led c =
    let t = c.args.self.now.timed in
    let m = t.opening.contents in
    subst (IsLed (constant_byte t.code) t.dead.masks.items (range_of c.args.self.now.stack0) (range_of c.args.self.now.stack1) t.timed c.args.self.now.places.list.items c.args.core (watched_of m c.args.watched.now))
    (sym c.in_ok-next-2.ensures) c.loop-made.invariant.led
