use Rattle.std.proofs.Common.{◌≡◌, false, sym, ap, ◌∙◌}
use Rattle.xt_map.specs.Memory.{constant_byte}
use Rattle.xt_search.specs.Changed.{contents_of}
use Rattle.xt_exec.specs.States.{file_state}
use Rattle.xt_outcomes.specs.Dead.{fits}
use Rattle.xt_outcomes.specs.Places.{is_own_access}
use Rattle.xt_outcomes.proofs.Turned.{asked_is}
use Rattle.xt_judged.specs.OwnJudges.{Own, is_over, range_of, uses_time}
use Rattle.xt_judged.specs.WatchedKept.{own_at}
use Rattle.xt_judged.proofs.FewerTurns.{fit_is, free_parts, next_is}
use Rattle.xt_judged.proofs.WatchedMade.{alone_is, some_left}
use Rattle.xt_judged.proofs.watching.Watching.local.Goals as goal

pub returns-clause-alone : goal.returns-clause-alone
returns-clause-alone c = λ own.
    let t = c.args.self.now.timed in
    let code = constant_byte t.code in
    let ps = c.args.self.now.places.list.items in
    let o : Own = own_at c.args.side.now c.args.frames.now c.args.judge.now in
    let m = contents_of t.opening.contents c.args.changes.now in
    let a = c.look_ahead.new.ahead in
    let on : is_over o ≡ false = sym c.is_over.ensures ∙ c.if-is_over.false in
    let free = free_parts (uses_time code t.timed o.side o.judge.standing.frame) (fits code t.dead.masks.items o.side.state) (sym (c.is_free.ensures m c.look_ahead.ensures) ∙ own) in
    let asked = asked_is code t.timed o.side m a.record (file_state a.regs) (some_left o on) c.look_ahead.ensures.turn in
    alone_is code t.timed o ps c.args.core on free.0 (ap (is_own_access ps c.args.core) (next_is code t.timed o on ∙ sym asked) ∙ sym c.is_own.ensures ∙ c.if-not-is_own.false)

pub returns-clause-fit : goal.returns-clause-fit
returns-clause-fit c = λ own.
    let t = c.args.self.now.timed in
    let code = constant_byte t.code in
    let o : Own = own_at c.args.side.now c.args.frames.now c.args.judge.now in
    let m = contents_of t.opening.contents c.args.changes.now in
    let free = free_parts (uses_time code t.timed o.side o.judge.standing.frame) (fits code t.dead.masks.items o.side.state) (sym (c.is_free.ensures m c.look_ahead.ensures) ∙ own) in
    fit_is code t.dead.masks.items (range_of c.args.self.now.stack0) (range_of c.args.self.now.stack1) t.timed c.args.self.now.places.list.items c.args.core c.args.side.now free.1
