use Rattle.std.proofs.Common.{◌≡◌, ◌<◌, ◌∙◌, Option, ap, sym, subst}
use Rattle.std.specs.Prelude.{IfSome}
use Rattle.xt_map.specs.Memory.{constant_byte}
use Rattle.xt_moment_search.specs.Covering.{HasRun, snapshot_of}
use Rattle.xt_moment_search.proofs.Ended.{ran_path}
use Rattle.xt_moment_search.proofs.confirming.run_back.Goals as goal

pub returns : goal.returns
returns c =
    let g = c.args.machine.now.ground in
    let v = c.args.from.now in
    let h = subst (λ x. IfSome x (HasRun (constant_byte g.code) g.opening.contents g.cleared.contents c.args.made (snapshot_of v)))
    c.in-Some.is c.in_ok-ran.ensures in
    ran_path g c.args.made v c.args.to.now c.in-Some.run' c.reverse.new.self.items c.requires h
    (c.is_at.ensures c.if-not-is_at.false) c.reverse.ensures.items
