use Rattle.std.proofs.Common.{◌≤◌, ◌∙◌, arith}
use Rattle.xt_profile.proofs.Telling.{counted_handler, counted_nested, counted_plain, handlers_fit, row_fits}
use Rattle.xt_profile.proofs.tally.Tally.count.Goals as goal

pub overflow_add-self-in-InHandler : goal.overflow_add-self-in-InHandler
overflow_add-self-in-InHandler c =
    let t = c.args.self.now in
    let q = c.requires.known in
    let le : t.handlers ≤ t.steps = handlers_fit q.0 q.1 t q.2 in
    omega (arith, le, c.requires.room)

pub overflow_add-self-in-Outside : goal.overflow_add-self-in-Outside
overflow_add-self-in-Outside c =
    let t = c.args.self.now in
    let q = c.requires.known in
    let le : t.row ≤ t.steps = row_fits q.0 q.1 t q.2 in
    omega (arith, le, c.requires.room)

pub overflow_add-self-in-Nested : goal.overflow_add-self-in-Nested
overflow_add-self-in-Nested c =
    let t = c.args.self.now in
    let q = c.requires.known in
    let le : t.row ≤ t.steps = row_fits q.0 q.1 t q.2 in
    omega (arith, le, c.requires.room)

pub returns-in-InHandler-clause-counted : goal.returns-in-InHandler-clause-counted
returns-in-InHandler-clause-counted c opening past s h m e = counted_handler opening past s c.args.self.now h (m ∙ c.in-InHandler.is)

pub returns-in-Outside-clause-counted : goal.returns-in-Outside-clause-counted
returns-in-Outside-clause-counted c opening past s h m e = counted_plain opening past s c.args.self.now h (m ∙ c.in-Outside.is) e

pub returns-in-Nested-clause-counted : goal.returns-in-Nested-clause-counted
returns-in-Nested-clause-counted c opening past s h m e = counted_nested opening past s c.args.self.now h (m ∙ c.in-Nested.is) e
