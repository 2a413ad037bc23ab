use Rattle.std.proofs.Common.{◌≡◌, ap, sym, ◌∙◌}
use Rattle.xt_map.specs.Memory.{constant_byte}
use Rattle.xt_search.specs.Changed.{contents_of}
use Rattle.xt_exec.specs.Chips.{processor}
use Rattle.xt_outcomes.specs.KeptWorlds.{spot_of}
use Rattle.xt_outcomes.proofs.Moving.{moved_first}
use Rattle.xt_outcomes.proofs.Turned.{ended_memory, ended_side}
use Rattle.xt_outcomes.proofs.timed.Timed.make_turn.Goals as goal

pub returns-then-left-eq0 : goal.returns-then-left-eq0
returns-then-left-eq0 c =
    let t = c.args.self.now in
    let code = constant_byte t.code in
    let m = t.opening.contents in
    let w = spot_of m c.args.world.now in
    let s = c.side-side.result.now in
    let k = contents_of m c.in_ok-changes.changes in
    let none : s.left ≡ 0 = sym c.left.ensures ∙ c.if-left-eq0.true in
    c.in_ok-next.ensures.spot m
    ∙ moved_first (processor code) t.timed c.args.core w s c.copy-then-left-eq0.result k k
    (c.side-side.ensures m) (ap (contents_of m) (c.in_ok-changes.ensures ∙ c.deref.ensures)) (c.copy-then-left-eq0.ensures ∙ ended_side code t.timed s k none) (ended_memory code t.timed s k none)

pub returns : goal.returns
returns c =
    let t = c.args.self.now in
    let m = t.opening.contents in
    let w = spot_of m c.args.world.now in
    c.in_ok-next-2.ensures.spot m
    ∙ moved_first (processor (constant_byte t.code)) t.timed c.args.core w c.side-side.result.now c.in_ok-side.side (contents_of m c.in_ok-changes.changes) (contents_of m c.recorded.new.changes)
    (c.side-side.ensures m) (ap (contents_of m) (c.in_ok-changes.ensures ∙ c.deref.ensures)) c.in_ok-side.ensures.side c.in_ok-side.ensures.memory
