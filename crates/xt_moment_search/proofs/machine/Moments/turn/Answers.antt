use Rattle.std.proofs.Common.{◌≡◌, ◌∙◌, Option, sym, subst}
use Rattle.std.specs.Prelude.{IfSome}
use Rattle.xt_map.specs.Memory.{constant_byte}
use Rattle.xt_moment_search.specs.Covering.{TurnsTo}
use Rattle.xt_moment_search.specs.Sides.{KnownCore}
use Rattle.xt_moment_search.specs.Turned.{IsTurned}
use Rattle.xt_moment_search.specs.declared.snapshots.Snapshot.{Snapshot}
use Rattle.xt_moment_search.proofs.Leading.{turns, turns_forgetting}
use Rattle.xt_moment_search.proofs.machine.Moments.turn.Goals as goal

pub returns-clause-turns : goal.returns-clause-turns
returns-clause-turns c =
    let g = c.args.self.now.ground in
    let code = constant_byte g.code in
    let o = g.opening.contents in
    let z = g.cleared.contents in
    let v = c.args.at.now in
    let side = c.in-Some.next in
    let d = c.turned.new.bytes in
    let was = c.copy-side.ensures ∙ c.side-2.ensures in
    let turned = subst (λ (k : KnownCore). IsTurned code o z k side v.bytes d) was
    (subst (λ (r : Option KnownCore). IfSome r (λ s. IsTurned code o z c.copy-side.result s v.bytes d)) c.in-Some.is
    c.in_ok-made.ensures.turned) in
    let t = subst (λ (x : Snapshot). TurnsTo code o z c.args.core v x) (sym c.put.ensures)
    (turns code g.bytes o z c.args.core c.requires v side d turned) in
    turns_forgetting code g.bytes o z c.args.core v c.put.new.self c.forget_after.new.at t
    c.in_ok-forget_after.ensures
