-- Carries a proof; nothing that a reader must believe.
-- What is found of orders that no order continues until both cores have stopped.
use Rattle.std.specs.Prelude.{◌≡◌, ℕ, Bool, true, false, ◌&&◌, Some, List, slice_get}
use Rattle.std.specs.List.{All}
use Rattle.xt_map.specs.Memory.{constant_byte}
use Rattle.xt_search.specs.declared.graph.Graph.{Graph}
use Rattle.xt_search.specs.Ends.{IsSettled}
use Rattle.xt_search.specs.Graphs.{IsAt, IsWhole, OpensWith}
use Rattle.xt_moments.specs.Moments.{IsMove, MomentWorld, world_past}
use Rattle.xt_moments.specs.Outcomes.{AreCounts}
use Rattle.xt_moments.specs.declared.moves.Move.{Move}
use Rattle.xt_moment_search.specs.Covering.{Covers}
use Rattle.xt_moment_search.specs.declared.ground.Ground.{Ground}
use Rattle.xt_moment_search.specs.declared.stuck.Stuck.{Stuck}
use Rattle.xt_moment_search.specs.declared.stuck.Stuck.TheVariants as stuck
use Rattle.xt_moment_search.specs.declared.worlds.World.{World}

-- both cores have stopped
abbrev pub has_ended : World → Bool
has_ended v = v.side0.value.stopped && v.side1.value.stopped

-- moves lead from each world for which v stands to one for which w stands
abbrev pub MovesLead : Ground → List Move → World → World → Type 0
MovesLead g moves v w =
    (counts : ℕ → ℕ) → AreCounts counts → (u : MomentWorld)
    → Covers g.opening.contents g.cleared.contents v u
    → Covers g.opening.contents g.cleared.contents w
    (world_past (constant_byte g.code) counts moves u)

-- and each of them is one of two cores with three timers each
pub record IsPath (g : Ground) (moves : List Move) (v w : World) : Type 0 where
  pub are_moves : All IsMove moves
  pub leads : MovesLead g moves v w

-- from the first kept world to the one with this number
abbrev pub OrderLeads : Ground → Graph World → List Move → ℕ → Type 0
OrderLeads g graph moves number =
    (v w : World) → OpensWith graph v → IsAt graph.kept.items number w → MovesLead g moves v w

-- it is not marked, and none of its moves is passed over
pub record IsUnmarked (graph : Graph World) (marks : List Bool) (k : ℕ) : Type 0 where
  pub world : World
  pub kept : IsAt graph.kept.items k world
  pub passed : world.passed ≡ 0
  pub unmarked : slice_get marks k ≡ Some false

-- an order leads to a world that is not marked, from which nothing that is marked is reached
pub record IsStuckOrder (g : Ground) (graph : Graph World) (order : List Move) : Type 0 where
  pub are_moves : All IsMove order
  pub number : ℕ
  pub marks : List Bool
  pub unmarked : IsUnmarked graph marks number
  pub settled : (k : ℕ) → slice_get marks k ≡ Some false → IsSettled has_ended graph marks k
  pub leads : OrderLeads g graph order number

-- moves lead from the world to one in which both cores have stopped
pub record Ends (g : Ground) (v : World) : Type 0 where
  pub moves : List Move
  pub are_moves : All IsMove moves
  pub end : World
  pub leads : MovesLead g moves v end
  pub ended : has_ended end ≡ true

-- they do so from each world of whose moves none is passed over
abbrev pub NeverStuck : Ground → Graph World → Type 0
NeverStuck g graph =
    (k : ℕ) (v : World) → IsAt graph.kept.items k v → v.passed ≡ 0 → Ends g v

abbrev pub IsStuckAnswer : Ground → Graph World → Stuck → Type 0
IsStuckAnswer g graph stuck.Never = IsWhole graph × NeverStuck g graph
IsStuckAnswer g graph (stuck.Order order) = IsWhole graph × IsStuckOrder g graph order.items
IsStuckAnswer g graph stuck.Unknown = Unit {0}
