-- Carries a proof; nothing that a reader must believe.
-- The world with which a search begins.
use Rattle.std.specs.Prelude.{◌≡◌, []}
use Rattle.xt_map.specs.Memory.{opening_memory}
use Rattle.xt_image.specs.declared.image.Image.{Image}
use Rattle.xt_trace.specs.declared.options.Options.{Options}
use Rattle.xt_core.specs.Runs.{entry_of, memory_of, opening_at}
use Rattle.xt_exec.specs.TurnLaws.{IsShaped}
use Rattle.xt_moments.specs.Moments.{opening_core}
use Rattle.xt_moments.specs.WorldLaws.{opening_known}
use Rattle.xt_moment_search.specs.KnownCores.{core_of, moment_known_of}
use Rattle.xt_moment_search.specs.declared.ground.Ground.{Ground}
use Rattle.xt_moment_search.specs.declared.worlds.World.{World}

-- all is known but the clocks, and no byte has changed
pub record IsOpen (image : Image) (o : Options) (w : World) : Type 0 where
  pub passed : w.passed ≡ 0
  pub shaped0 : IsShaped w.side0.value.state
  pub shaped1 : IsShaped w.side1.value.state
  pub core0 : core_of w.side0.value ≡ opening_core (opening_at 0 (entry_of 0 image o) o)
  pub core1 : core_of w.side1.value ≡ opening_core (opening_at 1 (entry_of 1 image o) o)
  pub masks0 : moment_known_of w.side0.value.masks ≡ opening_known
  pub masks1 : moment_known_of w.side1.value.masks ≡ opening_known
  pub held : w.held.value ≡ record { bytes = []; sent = [] }
  pub hidden : w.hidden.value ≡ record { bytes = []; sent = [] }

-- the ground is that of the image
pub record IsGroundOf (image : Image) (o : Options) (g : Ground) : Type 0 where
  pub code : g.code ≡ image.segments
  pub opening : g.opening.contents ≡ memory_of image o
  pub cleared : g.cleared.contents ≡ opening_memory [] []
