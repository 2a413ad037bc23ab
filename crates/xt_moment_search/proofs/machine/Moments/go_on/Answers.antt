use Rattle.std.proofs.Common.{◌≡◌, ◌<◌, ◌∙◌, Option, ap, sym, subst}
use Rattle.std.specs.Prelude.{IfSome}
use Rattle.xt_map.specs.Memory.{constant_byte}
use Rattle.xt_moment_search.specs.Covering.{HasRun, TurnsTo}
use Rattle.xt_moment_search.specs.declared.machine.Run.{Run}
use Rattle.xt_moment_search.specs.declared.snapshots.Snapshot.{Snapshot}
use Rattle.xt_moment_search.proofs.Leading.{goes_on}
use Rattle.xt_moment_search.proofs.machine.Moments.go_on.Goals as goal

pub returns-in_default-turned : goal.returns-in_default-turned
returns-in_default-turned c = λ made v h.
    let g = c.args.self.now.ground in
    subst (λ (x : Snapshot). HasRun (constant_byte g.code) g.opening.contents g.cleared.contents made v
    (record { at = x; trail = c.args.run.now.trail }))
    (sym (c.in_ok-turned.ensures.none c.in_default-turned.is)) h

pub returns : goal.returns
returns c =
    let g = c.args.self.now.ground in
    let code = constant_byte g.code in
    let o = g.opening.contents in
    let z = g.cleared.contents in
    let q = c.args.run.now in
    let r : Run = record { at = c.turn.new.at; trail = c.push.new.self } in
    let t = subst (λ x. IfSome x (λ l. TurnsTo code o z c.in-Some.core q.at r.at)) c.in-Some-turned.is
    c.in_ok-turned.ensures.turns in
    goes_on code g.bytes o z c.in-Some.core q r c.in-Some.ensures t c.in_ok-push.ensures.items
