use Rattle.std.proofs.Common.{◌≡◌, ℕ, ap, subst}
use Rattle.xt_frames.specs.Breaches.{Bounds}
use Rattle.xt_discipline.specs.Sides.{IsCallOf}
use Rattle.xt_judged.proofs.Gathered.{has_room}
use Rattle.xt_judged.proofs.gone.kept_before.Goals as goal

pub returns-clause-room : goal.returns-clause-room
returns-clause-room c =
    let w = c.args.frames.now in
    let hi : c.limits.result.hi ≡ w.bounds.range.hi = ap (λ (b : Bounds). b.range.hi) c.limits.ensures in
    has_room c.newest.result w.bounds.range.lo w.bounds.range.hi w.state c.depth-depth.ensures.stack
    (subst (λ (h : ℕ). IsCallOf c.newest.result h w.state) hi c.newest.ensures)
