use Rattle.std.proofs.Common.{◌≡◌, ◌∙◌, [], ◌∷◌, ◌++◌, ap, sym, subst}
use Rattle.std.specs.Prelude.{IfSome}
use Rattle.xt_map.specs.Memory.{constant_byte}
use Rattle.xt_moment_search.specs.Covering.{Becomes, HasRun, snapshot_of}
use Rattle.xt_moment_search.specs.declared.machine.Run.{Run}
use Rattle.xt_moment_search.proofs.Leading.{begins}
use Rattle.xt_moment_search.proofs.machine.Moments.run.Goals as goal

pub loop-init : goal.loop-init
loop-init c =
    let g = c.args.self.now.ground in
    let code = constant_byte g.code in
    let o = g.opening.contents in
    let z = g.cleared.contents in
    let v = snapshot_of c.args.world.now in
    let b = subst (λ x. IfSome x (Becomes code o z c.args.made v)) c.in-Some.is c.in_ok-begun.ensures in
    let r : Run = record { at = c.in-Some.at; trail = c.push.new.self } in
    begins code g.bytes o z c.args.made v r b (c.in_ok-push.ensures.items ∙ ap (λ l. l ++ c.args.made ∷ []) c.new.ensures.items)

pub loop-preserved : goal.loop-preserved
loop-preserved c = c.in_ok-more.ensures c.args.made (snapshot_of c.args.world.now) c.loop.invariant

pub returns-then-not-more : goal.returns-then-not-more
returns-then-not-more c = c.in_ok-more.ensures c.args.made (snapshot_of c.args.world.now) c.loop.invariant
