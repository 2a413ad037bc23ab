use Rattle.std.proofs.Common.{◌≡◌, ◌<◌, sym, ap, ◌∙◌, arith}
use Rattle.xt_map.specs.Memory.{constant_byte}
use Rattle.xt_search.specs.Changed.{contents_of}
use Rattle.xt_exec.specs.States.{file_state}
use Rattle.xt_outcomes.specs.Nexts.{next_bars}
use Rattle.xt_outcomes.specs.Places.{is_own_access}
use Rattle.xt_outcomes.proofs.Fitting.{local_is, not_false, not_local, not_true}
use Rattle.xt_outcomes.proofs.Turned.{asked_is}
use Rattle.xt_outcomes.proofs.timed.Timed.local.Goals as goal

pub returns-then-not-branch-clause-local : goal.returns-then-not-branch-clause-local
returns-then-not-branch-clause-local c =
    let t = c.args.self.now in
    let m = contents_of t.opening.contents c.args.changes.now in
    sym (not_local (constant_byte t.code) t.timed t.dead.masks.items c.args.side.now t.places.list.items c.args.core
    (not_false (next_bars (constant_byte t.code) t.timed t.dead.masks.items c.args.side.now) (sym (c.in_ok-is_free.ensures m c.look_ahead.ensures) ∙ c.if-not-branch.true)))

pub returns-clause-local : goal.returns-clause-local
returns-clause-local c =
    let t = c.args.self.now in
    let code = constant_byte t.code in
    let s = c.args.side.now in
    let m = contents_of t.opening.contents c.args.changes.now in
    let ps = t.places.list.items in
    let a = c.look_ahead.new.ahead in
    let other : ¬ (c.left.result ≡ 0) = c.if-left-eq0.false in
    let e : c.left.result ≡ s.left = c.left.ensures in
    let left : 0 < s.left = omega (arith, other, e) in
    let asked = asked_is code t.timed s m a.record (file_state a.regs) left c.look_ahead.ensures.turn in
    sym (local_is code t.timed t.dead.masks.items s ps c.args.core c.is_own.result left
    (not_true (next_bars code t.timed t.dead.masks.items s) (sym (c.in_ok-is_free.ensures m c.look_ahead.ensures) ∙ c.if-not-branch.false))
    (ap (is_own_access ps c.args.core) (sym asked) ∙ sym c.is_own.ensures))
