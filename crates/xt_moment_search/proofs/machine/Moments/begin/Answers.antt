use Rattle.std.proofs.Common.{◌≡◌, ◌<◌, ◌∙◌, Option, ap, sym, subst}
use Rattle.std.specs.Prelude.{IfSome}
use Rattle.xt_map.specs.Memory.{constant_byte}
use Rattle.xt_moments.specs.Moments.{IsMove, core_fired}
use Rattle.xt_moments.specs.declared.moves.Move.{Move}
use Rattle.xt_moments.specs.declared.moves.Move.TheVariants as move
use Rattle.xt_moment_search.specs.Covering.{Becomes, TurnsTo, snapshot_of}
use Rattle.xt_moment_search.specs.KnownCores.{core_of}
use Rattle.xt_moment_search.specs.Sides.{KnownCore}
use Rattle.xt_moment_search.specs.declared.snapshots.Snapshot.{Snapshot}
use Rattle.xt_moment_search.proofs.Leading.{fires}
use Rattle.xt_moment_search.proofs.machine.Moments.begin.Goals as goal

pub returns-in-Fires : goal.returns-in-Fires
returns-in-Fires c =
    let g = c.args.self.now.ground in
    let code = constant_byte g.code in
    let o = g.opening.contents in
    let z = g.cleared.contents in
    let v = c.in_ok-at.at in
    let side = c.fired-next.result in
    let core = c.in-Fires.core in
    let timer = c.in-Fires.timer in
    let ok = subst IsMove c.in-Fires.is c.requires in
    let b = fires code g.bytes o z core timer ok.0 ok.1 v side
    (c.fired-next.ensures.core ∙ ap (λ (k : KnownCore). core_fired timer (core_of k)) c.side.ensures)
    (c.fired-next.ensures.masks ∙ ap (λ (k : KnownCore). k.masks) c.side.ensures) in
    subst (λ (m : Move). Becomes code o z m (snapshot_of c.args.world.now) c.put.new.self) (sym c.in-Fires.is)
    (subst (λ (x : Snapshot). Becomes code o z (move.Fires c.in-Fires.core c.in-Fires.timer) x c.put.new.self) c.in_ok-at.ensures
    (subst (λ (x : Snapshot). Becomes code o z (move.Fires c.in-Fires.core c.in-Fires.timer) v x) (sym c.put.ensures) b))

pub returns-in-Some : goal.returns-in-Some
returns-in-Some c =
    let g = c.args.self.now.ground in
    let code = constant_byte g.code in
    let o = g.opening.contents in
    let z = g.cleared.contents in
    let core = c.in-Turn.core in
    let t = subst (λ x. IfSome x (λ l. TurnsTo code o z core c.in_ok-at.at c.turn.new.at)) c.in-Some.is
    c.in_ok-turned-in-Turn.ensures.turns in
    subst (λ (m : Move). Becomes code o z m (snapshot_of c.args.world.now) c.turn.new.at) (sym c.in-Turn.is)
    (subst (λ (x : Snapshot). Becomes code o z (move.Turn core) x c.turn.new.at) c.in_ok-at.ensures t.becomes)
