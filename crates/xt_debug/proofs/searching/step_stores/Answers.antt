use Rattle.std.proofs.Common.{◌≡◌, ◌-◌, ◌≤◌, false, List, take, drop, ap, ◌∙◌, arith}
use Rattle.std.specs.Prelude.{nat_lt}
use Rattle.std.proofs.lemmas.Bool.Decides.{nat_tests}
use Rattle.xt_map.specs.declared.access.Entry.{Entry}
use Rattle.xt_trace.specs.declared.run.Run.{Run}
use Rattle.xt_debug.proofs.Stores.{none_made, some_made}
use Rattle.xt_debug.proofs.searching.step_stores.Goals as goal

pub returns-then-before-after-clause-stores : goal.returns-then-before-after-clause-stores
returns-then-before-after-clause-stores c =
    let b = c.served-before.result in
    let a = c.served-after.result in
    let entries = c.as_slice.ensures ∙ ap (λ (u : Run). u.history) c.run.ensures.run in
    c.any_stores.ensures
    ∙ some_made c.args.replay.now c.step.new.self c.args.addr b a (take (a - b) (drop b c.as_slice.result.now)) c.step.ensures c.served-before.ensures.served c.served-after.ensures.entries
    (omega (arith, c.if-before-after.true)) (ap (λ (xs : List Entry). take (a - b) (drop b xs)) entries)

pub returns-else-before-after-clause-stores : goal.returns-else-before-after-clause-stores
returns-else-before-after-clause-stores c =
    let b = c.served-before.result in
    let a = c.served-after.result in
    let le : a ≤ b = c.if-before-after.false in
    let fails : nat_lt b a ≡ false = grind (arith, nat_tests) in
    fails ∙ none_made c.args.replay.now c.step.new.self c.args.addr b a c.step.ensures c.served-before.ensures.served c.served-after.ensures.entries le
