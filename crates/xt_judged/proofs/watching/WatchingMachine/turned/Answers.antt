use Rattle.std.proofs.Common.{sym, ap, ◌∙◌}
use Rattle.xt_map.specs.Memory.{constant_byte}
use Rattle.xt_judged.specs.OwnJudges.{is_over, range_of}
use Rattle.xt_judged.proofs.FewerTurns.{led_copy, led_kept, own_kept}
use Rattle.xt_judged.proofs.watching.WatchingMachine.turned.Goals as goal

pub returns-then-is_over-clause-leads : goal.returns-then-is_over-clause-leads
returns-then-is_over-clause-leads c =
    let t = c.args.self.now.timed in
    let m = t.opening.contents in
    let own = own_kept m c.args.watched.now c.args.core c.side.result.now c.judge.result.now (c.side.ensures m) c.judge.ensures in
    led_copy (constant_byte t.code) t.dead.masks.items (range_of c.args.self.now.stack0) (range_of c.args.self.now.stack1) t.timed c.args.self.now.places.list.items m c.args.watched.now c.args.core
    c.in_ok-copy.field-0 (c.in_ok-copy.ensures m) (ap is_over own ∙ sym c.is_over.ensures ∙ c.if-is_over.true)

pub run-requires-clause-on : goal.run-requires-clause-on
run-requires-clause-on c =
    let m = c.args.self.now.timed.opening.contents in
    let own = own_kept m c.args.watched.now c.args.core c.side.result.now c.judge.result.now (c.side.ensures m) c.judge.ensures in
    ap is_over own ∙ sym c.is_over.ensures ∙ c.if-is_over.false

pub returns-in_ok-keep_watched-in-Some-clause-leads : goal.returns-in_ok-keep_watched-in-Some-clause-leads
returns-in_ok-keep_watched-in-Some-clause-leads c =
    let t = c.args.self.now.timed in
    let m = t.opening.contents in
    led_kept (constant_byte t.code) t.dead.masks.items (range_of c.args.self.now.stack0) (range_of c.args.self.now.stack1) t.timed c.args.self.now.places.list.items m c.args.watched.now c.args.core
    c.keep_watched.new.watched c.in-Some.led (c.in_ok-keep_watched-in-Some.ensures m) (rw c.in-Some.is at c.in_ok-made.ensures.led)
