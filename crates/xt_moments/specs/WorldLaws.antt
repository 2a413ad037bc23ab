-- States laws of two worlds that agree in what is known: over the moves of an order with moments
-- they go on so, whatever CCOUNT is in the turns of each, while turns use known bits alone.
use Rattle.std.specs.Prelude.{◌≡◌, ℕ, zero, suc, ◌<◌, ◌^◌, Bool, true, ◌||◌, if◌then◌else◌, List}
use Rattle.std.specs.Prelude.{[], ◌+◌, ◌∷◌}
use Rattle.std.specs.List.{All}
use Rattle.xt_map.specs.declared.contents.MemoryContents.{MemoryContents}
use Rattle.xt_map.specs.Touching.{IsMemory}
use Rattle.xt_special.specs.Numbers as number
use Rattle.xt_trace.specs.declared.record.StepRecord.{StepRecord}
use Rattle.xt_trace.specs.Runs.{Opening}
use Rattle.xt_trace.specs.Worlds.{answer}
use Rattle.xt_map.specs.Code.{AreBytes}
use Rattle.xt_rows.specs.RowLaws.{IsWord}
use Rattle.xt_exec.specs.State.{State}
use Rattle.xt_exec.specs.Turn.{demand, turn}
use Rattle.xt_exec.specs.TurnLaws.{IsShaped}
use Rattle.xt_uses.specs.UseStep.{reply_mask}
use Rattle.xt_uses.specs.Words.{all_bits}
use Rattle.xt_simulation.specs.Knowledge.{Knowledge, StatesAgree, all_known}
use Rattle.xt_simulation.specs.Learning.{stored_in}
use Rattle.xt_simulation.specs.SecretBytes.{MemoriesAgree, mask_stored}
use Rattle.xt_simulation.specs.SecretLaws.{executed}
use Rattle.xt_simulation.specs.SecretWorlds.{Learned}
use Rattle.xt_moments.specs.Moments.{IsMove, MomentCore, MomentWorld, moved, with_special}
use Rattle.xt_moments.specs.Moments.{world_past}
use Rattle.xt_moments.specs.declared.moves.Move.{Move}
use Rattle.xt_moments.specs.declared.moves.Move.TheVariants as move
use Rattle.xt_moments.specs.Moments.{opening_world}
use Rattle.xt_moments.specs.Outcomes.{have_stopped, outcome_in, world_after}
use Rattle.xt_moments.specs.MomentLaws.{IsMomentKnown, is_clock, known_then, moment_used}

-- ---- two worlds

pub record CoresAgree (m : Knowledge) (j k : MomentCore) : Type 0 where
  pub state : StatesAgree m j.state k.state
  pub armed : j.armed ≡ k.armed
  pub stopped : j.stopped ≡ k.stopped

pub record WorldsAgree (k : Learned) (v w : MomentWorld) : Type 0 where
  pub core0 : CoresAgree k.core0 v.core0 w.core0
  pub core1 : CoresAgree k.core1 v.core1 w.core1
  pub memory : MemoriesAgree k.bytes v.memory w.memory

-- the states and the memory are those of a run
pub record IsShapedWorld (w : MomentWorld) : Type 0 where
  pub core0 : IsShaped w.core0.state
  pub core1 : IsShaped w.core1.state
  pub memory : IsMemory w.memory

pub record IsLearned (k : Learned) : Type 0 where
  pub core0 : IsMomentKnown k.core0
  pub core1 : IsMomentKnown k.core1
  pub bytes : (a : ℕ) → k.bytes a < 2 ^ 8

-- ---- what a turn uses, and what is known after it

-- the state in which a turn begins that finds this number in CCOUNT
abbrev pub begun : ℕ → MomentCore → State
begun count k = with_special number.ccount count k.state

abbrev pub reply_known : (ℕ → ℕ) → ℕ → MomentCore → (ℕ → ℕ) → ℕ
reply_known code count k bytes = reply_mask bytes (demand code (begun count k))

abbrev pub turn_of : (ℕ → ℕ) → ℕ → MomentCore → MemoryContents → StepRecord × State
turn_of code count k memory =
    let s = begun count k in turn code s (answer (demand code s) memory)

-- a core that has stopped makes no turn
abbrev pub core_used : (ℕ → ℕ) → ℕ → MomentCore → (ℕ → ℕ) → Knowledge → Bool
core_used code count k bytes m =
    k.stopped || moment_used code (reply_known code count k bytes) m (begun count k)

abbrev pub core_known :
    (ℕ → ℕ) → ℕ → MomentCore → MemoryContents → (ℕ → ℕ) → Knowledge → Knowledge
core_known code count k memory bytes m =
    if k.stopped then m
    else known_then code (reply_known code count k bytes) m (begun count k)
    (turn_of code count k memory)

-- of the bytes of memory, after a turn of the core
abbrev pub bytes_known :
    (ℕ → ℕ) → ℕ → MomentCore → MemoryContents → (ℕ → ℕ) → Knowledge → ℕ → ℕ
bytes_known code count k memory bytes m =
    if k.stopped then bytes
    else mask_stored
    (stored_in (executed code (begun count k) (turn_of code count k memory).0) m (begun count k))
    (demand code (begun count k))
    bytes

-- ---- a move

abbrev pub move_used : (ℕ → ℕ) → ℕ → Move → MomentWorld → Learned → Bool
move_used code count (move.Turn zero) w k = core_used code count w.core0 k.bytes k.core0
move_used code count (move.Turn (suc c)) w k = core_used code count w.core1 k.bytes k.core1
move_used code count (move.Fires c timer) w k = true

abbrev pub move_learned : (ℕ → ℕ) → ℕ → Move → MomentWorld → Learned → Learned
move_learned code count (move.Turn zero) w k = record {
  core0 = core_known code count w.core0 w.memory k.bytes k.core0;
  core1 = k.core1;
  bytes = bytes_known code count w.core0 w.memory k.bytes k.core0;
}
move_learned code count (move.Turn (suc c)) w k = record {
  core0 = k.core0;
  core1 = core_known code count w.core1 w.memory k.bytes k.core1;
  bytes = bytes_known code count w.core1 w.memory k.bytes k.core1;
}
move_learned code count (move.Fires c timer) w k = k

-- what holds of two worlds, of which so much is known
pub record AreAlike (k : Learned) (v w : MomentWorld) : Type 0 where
  pub shaped : IsShapedWorld v
  pub other : IsShapedWorld w
  pub learned : IsLearned k
  pub agree : WorldsAgree k v w

-- a move that uses known bits alone, with any two numbers in CCOUNT
abbrev pub MovesGoOnAlike : Type 0
MovesGoOnAlike =
    (code : ℕ → ℕ) (a b : ℕ) (made : Move) (v w : MomentWorld) (k : Learned)
    → AreBytes code → IsWord a → IsWord b → IsMove made → AreAlike k v w
    → move_used code a made v k ≡ true
    → AreAlike (move_learned code a made v k) (moved code a made v) (moved code b made w)

-- ---- the moves of an order

abbrev pub MovesUseKnown :
    (ℕ → ℕ) → (ℕ → ℕ) → List Move → MomentWorld → Learned → Type 0
MovesUseKnown code counts [] w k = Unit {0}
MovesUseKnown code counts (x ∷ xs) w k =
    (move_used code (counts 0) x w k ≡ true)
    × MovesUseKnown code (λ n. counts (suc n)) xs (moved code (counts 0) x w)
    (move_learned code (counts 0) x w k)

abbrev pub learned_past :
    (ℕ → ℕ) → (ℕ → ℕ) → List Move → MomentWorld → Learned → Learned
learned_past code counts [] w k = k
learned_past code counts (x ∷ xs) w k =
    learned_past code (λ n. counts (suc n)) xs (moved code (counts 0) x w)
    (move_learned code (counts 0) x w k)

-- an order with moments whose moves use known bits alone, with any numbers in CCOUNT
abbrev pub OrdersGoOnAlike : Type 0
OrdersGoOnAlike =
    (code counts others : ℕ → ℕ) (order : List Move) (v w : MomentWorld) (k : Learned)
    → AreBytes code → ((n : ℕ) → IsWord (counts n)) → ((n : ℕ) → IsWord (others n))
    → All IsMove order
    → AreAlike k v w → MovesUseKnown code counts order v k
    → AreAlike (learned_past code counts order v k) (world_past code counts order v)
    (world_past code others order w)

-- ---- what comes out

-- all is known but the clocks, as a run opens
abbrev pub opening_known : Knowledge
opening_known = record all_known { special = λ n. if is_clock n then 0 else all_bits }

abbrev pub opening_learned : Learned
opening_learned = record { core0 = opening_known; core1 = opening_known; bytes = λ a. 255 }

-- each bit of the words at these addresses is known
abbrev pub AreKnown : (ℕ → ℕ) → List ℕ → Type 0
AreKnown bytes [] = Unit {0}
AreKnown bytes (a ∷ xs) =
    ((n : ℕ) → n < 4 → bytes (a + n) ≡ 255) × AreKnown bytes xs

-- Let the moves of an order use known bits alone, and the chosen words be known after them. Then what
-- comes out is the same, whatever CCOUNT is at each turn.
abbrev pub OutcomesAreOne : Type 0
OutcomesAreOne =
    (code counts others : ℕ → ℕ) (order : List Move) (o : Opening State) (addresses : List ℕ)
    → AreBytes code → ((n : ℕ) → IsWord (counts n)) → ((n : ℕ) → IsWord (others n))
    → All IsMove order
    → IsShapedWorld (opening_world o)
    → MovesUseKnown code counts order (opening_world o) opening_learned
    → AreKnown (learned_past code counts order (opening_world o) opening_learned).bytes addresses
    → (have_stopped (world_after code o counts order) ≡ have_stopped (world_after code o others order))
    × (outcome_in addresses (world_after code o counts order)
    ≡ outcome_in addresses (world_after code o others order))
