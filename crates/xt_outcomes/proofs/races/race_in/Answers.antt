use Rattle.std.proofs.Common.{subst}
use Rattle.std.specs.Prelude.{MatchOption}
use Rattle.xt_map.specs.declared.access.Access.{Access}
use Rattle.xt_map.specs.Memory.{constant_byte}
use Rattle.xt_exec.specs.State.{State}
use Rattle.xt_outcomes.specs.SpotRaces.{IsSpotRace}
use Rattle.xt_outcomes.specs.Spots.{Spot}
use Rattle.xt_outcomes.proofs.Moving.{parts_are}
use Rattle.xt_outcomes.proofs.races.race_in.Goals as goal

pub returns : goal.returns
returns c =
    let code = constant_byte c.args.machine.now.code in
    subst (λ (p : Spot State). MatchOption c.race_between.result ((a b : Access) → IsSpotRace code p a b → ⊥) (λ r. IsSpotRace code p r.0 r.1))
    (parts_are c.args.machine.now.opening.contents c.args.world.now c.as_ref.result.now c.as_ref-2.result.now c.as_ref-3.result.now c.as_ref.ensures c.as_ref-2.ensures c.as_ref-3.ensures)
    c.race_between.ensures
