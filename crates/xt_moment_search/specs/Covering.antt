-- Carries a proof; nothing that a reader must believe.
-- Which worlds a kept world of a search stands for, and where the moves lead.
use Rattle.std.specs.Prelude.{◌≡◌, ℕ, ◌+◌, ◌-◌, ◌<◌, ◌==◌, Bool, true, List, [], ◌∷◌, ◌++◌, drop}
use Rattle.std.specs.Prelude.{if◌then◌else◌}
use Rattle.xt_map.specs.declared.contents.MemoryContents.{MemoryContents}
use Rattle.xt_map.specs.Memory.{constant_byte}
use Rattle.xt_map.specs.Touching.{IsMemory}
use Rattle.xt_search.specs.Changed.{contents_of}
use Rattle.xt_rows.specs.RowLaws.{IsWord}
use Rattle.xt_simulation.specs.SecretWorlds.{Learned}
use Rattle.xt_moments.specs.Awaiting.{Awaits, Made, turns_in}
use Rattle.xt_moments.specs.Forcing.{MayCome}
use Rattle.xt_moments.specs.Moments.{MomentCore, MomentWorld, is_armed, moved}
use Rattle.xt_moments.specs.declared.moves.Move.{Move}
use Rattle.xt_moments.specs.declared.moves.Move.TheVariants as move
use Rattle.xt_moments.specs.WorldLaws.{AreAlike, core_used}
use Rattle.xt_moment_search.specs.declared.ground.Ground.{Ground}
use Rattle.xt_moment_search.specs.declared.machine.Step.{Step}
use Rattle.xt_moment_search.specs.declared.machine.Step.TheVariants as step
use Rattle.xt_moment_search.specs.declared.machine.Run.{Run}
use Rattle.xt_moment_search.specs.declared.snapshots.Snapshot.{Snapshot}
use Rattle.xt_moment_search.specs.declared.worlds.World.{World}
use Rattle.xt_moment_search.specs.KnownCores.{core_of, known_byte, moment_known_of}
use Rattle.xt_moment_search.specs.Parts.{HaveSameParts}
use Rattle.xt_moment_search.specs.Sides.{KnownCore}

-- ---- the worlds that a snapshot stands for

-- itself, where memory opened so
abbrev pub world_at : MemoryContents → Snapshot → MomentWorld
world_at opening v = record {
  core0 = core_of v.side0;
  core1 = core_of v.side1;
  memory = contents_of opening v.bytes.held;
}

-- what is known of it
abbrev pub learned_at : MemoryContents → Snapshot → Learned
learned_at cleared v = record {
  core0 = moment_known_of v.side0.masks;
  core1 = moment_known_of v.side1.masks;
  bytes = known_byte cleared v.bytes.hidden;
}

-- each world that agrees with it in what is known
pub record CoversAt (opening cleared : MemoryContents) (v : Snapshot) (w : MomentWorld) : Type 0
  where
    pub alike : AreAlike (learned_at cleared v) (world_at opening v) w
    pub hidden : IsMemory (contents_of cleared v.bytes.hidden)

-- ---- the cores of a snapshot, by number

abbrev pub side_at : ℕ → Snapshot → KnownCore
side_at core v = if core == 0 then v.side0 else v.side1

abbrev pub with_side : ℕ → KnownCore → Snapshot → Snapshot
with_side core side v = record {
  side0 = if core == 0 then side else v.side0;
  side1 = if core == 0 then v.side1 else side;
  bytes = v.bytes;
}

-- ---- where moves lead

-- less is known: what the one stands for, the other one does
abbrev pub Forgets : MemoryContents → MemoryContents → Snapshot → Snapshot → Type 0
Forgets opening cleared v w =
    (u : MomentWorld) → CoversAt opening cleared v u → CoversAt opening cleared w u

-- A move leads from each world that v stands for to one that w stands for, whatever CCOUNT is.
abbrev pub Becomes :
    (ℕ → ℕ) → MemoryContents → MemoryContents → Move → Snapshot → Snapshot → Type 0
Becomes code opening cleared made v w =
    (count : ℕ) (u : MomentWorld) → IsWord count → CoversAt opening cleared v u
    → CoversAt opening cleared w (moved code count made u)

-- So does the turn of this core, which uses known bits alone.
pub record TurnsTo (code : ℕ → ℕ) (opening cleared : MemoryContents) (core : ℕ) (v w : Snapshot)
    : Type 0 where
  pub used :
      IsMemory (contents_of cleared v.bytes.hidden)
      → core_used code 0 (core_of (side_at core v)) (known_byte cleared v.bytes.hidden)
      (moment_known_of (side_at core v).masks)
      ≡ true
  pub becomes : Becomes code opening cleared (move.Turn core) v w

-- The turn of this core may come before all other moves.
abbrev pub IsForcedAt : (ℕ → ℕ) → ℕ → Snapshot → Type 0
IsForcedAt code core v =
    (core < 2) × MayCome code (core_of (side_at core v)) (core_of (side_at (1 - core) v))

-- A move leads from each world that v stands for to one that w stands for after these turns, which
-- may come before any other moves, whatever CCOUNT is.
pub record LeadsAt (code : ℕ → ℕ) (opening cleared : MemoryContents) (made : Move)
    (v w : Snapshot) : Type 0 where
  pub turns : List Made
  pub leads :
      (count : ℕ) (u : MomentWorld) → IsWord count → CoversAt opening cleared v u
      → Awaits code (CoversAt opening cleared w) turns (moved code count made u)

-- So do a move and the turns of a run.
pub record HasRun (code : ℕ → ℕ) (opening cleared : MemoryContents) (made : Move) (v : Snapshot)
    (r : Run) : Type 0 where
  pub lead : LeadsAt code opening cleared made v r.at
  pub trail : r.trail.items ≡ made ∷ turns_in lead.turns

-- ---- the worlds that a kept world stands for

abbrev pub snapshot_of : World → Snapshot
snapshot_of v = record {
  side0 = v.side0.value;
  side1 = v.side1.value;
  bytes = record { held = v.held.value; hidden = v.hidden.value };
}

abbrev pub standing : MemoryContents → World → MomentWorld
standing opening v = world_at opening (snapshot_of v)

abbrev pub learned_in : MemoryContents → World → Learned
learned_in cleared v = learned_at cleared (snapshot_of v)

abbrev pub Covers : MemoryContents → MemoryContents → World → MomentWorld → Type 0
Covers opening cleared v = CoversAt opening cleared (snapshot_of v)

abbrev pub Leads : (ℕ → ℕ) → MemoryContents → MemoryContents → Move → World → World → Type 0
Leads code opening cleared made v w =
    LeadsAt code opening cleared made (snapshot_of v) (snapshot_of w)

-- ---- the moves that a search makes

abbrev pub fire_choice : ℕ → ℕ → MomentCore → List Move
fire_choice c timer k = if is_armed timer k then move.Fires c timer ∷ [] else []

abbrev pub fire_choices : ℕ → MomentCore → List Move
fire_choices c k = fire_choice c 0 k ++ (fire_choice c 1 k ++ fire_choice c 2 k)

abbrev pub turn_choice : ℕ → MomentCore → List Move
turn_choice c k = if k.stopped then [] else move.Turn c ∷ []

-- the turn of a core that has not stopped, and each armed timer
abbrev pub core_choices : ℕ → MomentCore → List Move
core_choices c k = turn_choice c k ++ fire_choices c k

abbrev pub choices_in : World → List Move
choices_in v = core_choices 0 (core_of v.side0.value) ++ core_choices 1 (core_of v.side1.value)

-- What the step of this number does if these moves are left, and so many are passed over: the step 0
-- makes the first of them, the step 1 passes it over, or makes the second one if no more are left.
abbrev pub chosen : List Move → ℕ → ℕ → Step
chosen [] passed number = step.Rests
chosen (m ∷ []) passed number = step.Makes m
chosen (m ∷ n ∷ []) passed number = if number == 0 then step.Makes m else step.Makes n
chosen (m ∷ n ∷ o ∷ ms) passed number =
    if number == 0 then step.Makes m else step.Passes (passed + 1)

abbrev pub step_of : World → ℕ → Step
step_of v number = chosen (drop v.passed (choices_in v)) v.passed number

-- ---- where a step leads

abbrev pub Led : (ℕ → ℕ) → MemoryContents → MemoryContents → Step → World → World → Type 0
Led code opening cleared (step.Makes made) v w =
    (w.passed ≡ 0) × Leads code opening cleared made v w
Led code opening cleared (step.Passes passed) v w = (w.passed ≡ passed) × HaveSameParts v w
Led code opening cleared step.Rests v w = (w.passed ≡ 0) × HaveSameParts v w

abbrev pub LedIn : Ground → ℕ → World → World → Type 0
LedIn g number v w =
    Led (constant_byte g.code) g.opening.contents g.cleared.contents (step_of v number) v w
