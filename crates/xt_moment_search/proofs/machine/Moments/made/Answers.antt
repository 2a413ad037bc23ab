use Rattle.std.proofs.Common.{◌≡◌, ◌<◌, ◌∙◌, Option, ap, sym, subst}
use Rattle.std.specs.Prelude.{IfSome}
use Rattle.xt_map.specs.Memory.{constant_byte}
use Rattle.xt_moment_search.specs.Covering.{HasRun, LeadsAt, snapshot_of}
use Rattle.xt_moment_search.specs.declared.snapshots.Snapshot.{Snapshot}
use Rattle.xt_moment_search.proofs.Leading.{parts_snapshot}
use Rattle.xt_moment_search.proofs.machine.Moments.made.Goals as goal

pub returns-clause-leads : goal.returns-clause-leads
returns-clause-leads c =
    let g = c.args.self.now.ground in
    let code = constant_byte g.code in
    let o = g.opening.contents in
    let z = g.cleared.contents in
    let v = snapshot_of c.args.world.now in
    let h = subst (λ x. IfSome x (HasRun code o z c.args.made v)) c.in-Some.is c.in_ok-ran.ensures in
    subst (λ (x : Snapshot). LeadsAt code o z c.args.made v x)
    (parts_snapshot c.in-Some.run'.at c.in_ok-next.next c.in_ok-next.ensures.parts) h.lead
