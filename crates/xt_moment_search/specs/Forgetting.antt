-- Carries a proof; nothing that a reader must believe.
-- What a search forgets of a core or of memory, so that it stands for more.
use Rattle.std.specs.Prelude.{}
use Rattle.xt_map.specs.declared.contents.MemoryContents.{MemoryContents}
use Rattle.xt_map.specs.Touching.{IsMemory}
use Rattle.xt_search.specs.Changed.{contents_of}
use Rattle.xt_exec.specs.TurnLaws.{IsShaped}
use Rattle.xt_simulation.specs.SecretBytes.{MemoriesAgree}
use Rattle.xt_moments.specs.Moments.{MomentCore}
use Rattle.xt_moments.specs.MomentLaws.{IsMomentKnown}
use Rattle.xt_moments.specs.WorldLaws.{CoresAgree}
use Rattle.xt_moment_search.specs.declared.bytes.Bytes.{Bytes}
use Rattle.xt_moment_search.specs.KnownCores.{core_of, known_byte, moment_known_of}
use Rattle.xt_moment_search.specs.Sides.{KnownCore}

-- a core k of which less is known than of j
pub record ForgetsSide (j k : KnownCore) : Type 0 where
  pub shaped : IsShaped j.state → IsShaped k.state
  pub known : IsMomentKnown (moment_known_of j.masks) → IsMomentKnown (moment_known_of k.masks)
  pub agree :
      (u : MomentCore) → CoresAgree (moment_known_of j.masks) (core_of j) u
      → CoresAgree (moment_known_of k.masks) (core_of k) u

-- memory of which less is known than before
pub record ForgetsBytes (opening cleared : MemoryContents) (b c : Bytes) : Type 0 where
  pub held : IsMemory (contents_of opening b.held) → IsMemory (contents_of opening c.held)
  pub hidden : IsMemory (contents_of cleared b.hidden) → IsMemory (contents_of cleared c.hidden)
  pub agree :
      (m : MemoryContents)
      → MemoriesAgree (known_byte cleared b.hidden) (contents_of opening b.held) m
      → MemoriesAgree (known_byte cleared c.hidden) (contents_of opening c.held) m
