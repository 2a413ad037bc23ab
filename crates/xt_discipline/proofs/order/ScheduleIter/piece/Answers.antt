use Rattle.xt_discipline.proofs.Orders.{access, is_one, one_entry, zero_entry}
use Rattle.xt_discipline.proofs.order.ScheduleIter.piece.Goals as goal

pub upto_access-requires-else-entry-eq0 : goal.upto_access-requires-else-entry-eq0
upto_access-requires-else-entry-eq0 c =
    let is = c.in-Some.ensures.cases.0 in
    access _ c.in-Some.entry.now _ 1 c.args.self.now.one is (is_one _ c.in-Some.entry.now _ is c.requires.cores c.if-entry-eq0.false) c.requires.one

pub returns-then-entry-eq0 : goal.returns-then-entry-eq0
returns-then-entry-eq0 c =
    zero_entry c.args.self.now c.in-Some.entry.now c.in-Some.rest c.upto_access.new.self c.upto_access.result c.requires c.in-Some.ensures.cases.0 c.if-entry-eq0.true c.upto_access.ensures

pub returns-else-entry-eq0 : goal.returns-else-entry-eq0
returns-else-entry-eq0 c =
    let made = c.upto_access-else-entry-eq0 in
    one_entry c.args.self.now c.in-Some.entry.now c.in-Some.rest made.new.self made.result c.requires c.in-Some.ensures.cases.0 c.if-entry-eq0.false made.ensures
