-- Carries a proof; nothing that a reader must believe.
-- The parts of a kept world, whoever shares them.
use Rattle.std.specs.Prelude.{◌≡◌}
use Rattle.xt_moment_search.specs.declared.bytes.Bytes.{Bytes}
use Rattle.xt_moment_search.specs.declared.worlds.World.{World}
use Rattle.xt_moment_search.specs.Sides.{KnownCore}

pub record HaveSameParts (v w : World) : Type 0 where
  pub side0 : v.side0.value ≡ w.side0.value
  pub side1 : v.side1.value ≡ w.side1.value
  pub held : v.held.value ≡ w.held.value
  pub hidden : v.hidden.value ≡ w.hidden.value

pub record HasParts (side0 side1 : KnownCore) (b : Bytes) (w : World) : Type 0 where
  pub side0_is : w.side0.value ≡ side0
  pub side1_is : w.side1.value ≡ side1
  pub held : w.held.value ≡ b.held
  pub hidden : w.hidden.value ≡ b.hidden
