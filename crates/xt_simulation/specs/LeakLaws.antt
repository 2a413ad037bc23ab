-- States laws of the first leak: a run has one, and up to it the run is the same with each other
-- secret.
use Rattle.std.specs.Prelude.{◌≡◌, ℕ, Bool, false, Option, List, take}
use Rattle.xt_map.specs.declared.contents.MemoryContents.{MemoryContents}
use Rattle.xt_map.specs.Memory.{byte_at}
use Rattle.xt_map.specs.Touching.{IsMemory}
use Rattle.xt_map.specs.Code.{AreBytes}
use Rattle.xt_trace.specs.declared.record.StepRecord.{StepRecord}
use Rattle.xt_trace.specs.Runs.{IsRunOf, Opening, Run, schedule_of, world_at_start}
use Rattle.xt_trace.specs.Walks.{IsWalk, state_at}
use Rattle.xt_trace.specs.Worlds.{World, advance}
use Rattle.xt_exec.specs.Chips.{processor}
use Rattle.xt_exec.specs.State.{State}
use Rattle.xt_exec.specs.TurnLaws.{IsShaped}
use Rattle.xt_frames.specs.FirstBreach.{turns}
use Rattle.xt_simulation.specs.SecretBytes.{is_hidden}
use Rattle.xt_simulation.specs.SecretWorlds.{learned_over, opening_learned}
use Rattle.xt_simulation.specs.WorldLaws.{IsShapedWorld, PublicAgreeOver, TurnsAgreeOver, WorldsAgree}
use Rattle.xt_simulation.specs.FirstLeak.{IsFirstLeak, Leak, Watched}

-- ---- a run has one first leak, or none

abbrev pub FirstLeakIsOne : Type 0
FirstLeakIsOne =
    (r : Watched) (p q : ℕ) (one other : Option Leak)
    → IsFirstLeak r p one → IsFirstLeak r q other → (p ≡ q) × (one ≡ other)

-- ---- other secrets

-- the worlds are the same but for what these bytes hold
pub record DifferInBytes (hidden : ℕ → Bool) (v w : World State) : Type 0 where
  pub state0 : v.core0.state ≡ w.core0.state
  pub state1 : v.core1.state ≡ w.core1.state
  pub left0 : v.core0.left ≡ w.core0.left
  pub left1 : v.core1.left ≡ w.core1.left
  pub sent : v.line.memory.sent ≡ w.line.memory.sent
  pub bytes : (a : ℕ) → hidden a ≡ false → byte_at v.line.memory a ≡ byte_at w.line.memory a

-- a run from the world v, whose cores make turns by this list and leave these records
pub record IsRunFrom
    (r : Watched) (v : World State) (order : List ℕ) (xs ys : List StepRecord) : Type 0 where
  pub opening0 : r.opening0 ≡ v.core0.state
  pub opening1 : r.opening1 ≡ v.core1.state
  pub walk : IsWalk (processor r.code) order v xs ys
  pub turns : r.turns ≡ turns order xs ys

-- Let another world hold other secrets. Then the turns before the first leak agree with its turns,
-- and the worlds after them agree in what is known, if the public bytes are the same after each.
abbrev pub SameUpToTheLeak : Type 0
SameUpToTheLeak =
    (r : Watched) (v w : World State) (order : List ℕ) (xs ys : List StepRecord) (p : ℕ)
    (found : Option Leak)
    → AreBytes r.code → IsShapedWorld v → IsShapedWorld w
    → IsRunFrom r v order xs ys → IsFirstLeak r p found
    → DifferInBytes (is_hidden r.secret r.public) v w
    → PublicAgreeOver r.code r.public (take p order) v w
    → TurnsAgreeOver r.code r.public (take p order) (opening_learned r.secret r.public) v w
    × WorldsAgree
    (learned_over r.code r.public (take p order) v (opening_learned r.secret r.public))
    (advance (processor r.code) (take p order) v)
    (advance (processor r.code) (take p order) w)

-- ---- runs

-- a run of two cores from an opening, whose turns come in the order of its schedule
abbrev pub watched :
    (ℕ → ℕ) → (ℕ → Bool) → (ℕ → Bool) → Opening State → Run State → Watched
watched code secret public o r = record {
  code = code;
  opening0 = o.state0;
  opening1 = o.state1;
  secret = secret;
  public = public;
  turns = turns (schedule_of r) r.trace0.records r.trace1.records;
}

abbrev pub with_memory : MemoryContents → Opening State → Opening State
with_memory m o = record o { memory = m }

-- what holds of the openings of a run and of one with other secrets
pub record OpenAlike (hidden : ℕ → Bool) (o : Opening State) (m : MemoryContents) : Type 0 where
  pub state0 : IsShaped o.state0
  pub state1 : IsShaped o.state1
  pub memory : IsMemory o.memory
  pub other : IsMemory m
  pub sent : o.memory.sent ≡ m.sent
  pub bytes : (a : ℕ) → hidden a ≡ false → byte_at o.memory a ≡ byte_at m a

-- Of every run: make the turns of its schedule with another secret. Up to the first leak of the run
-- they agree with its own, and so does what stands after them.
abbrev pub RunsAreSameUpToTheLeak : Type 0
RunsAreSameUpToTheLeak =
    (code : ℕ → ℕ) (secret public : ℕ → Bool) (o : Opening State) (r : Run State)
    (m : MemoryContents) (p : ℕ) (found : Option Leak)
    → AreBytes code → OpenAlike (is_hidden secret public) o m
    → IsRunOf (processor code) o r → IsFirstLeak (watched code secret public o r) p found
    → (let order = take p (schedule_of r) in
    let v = world_at_start o in
    let w = world_at_start (with_memory m o) in
    let k = opening_learned secret public in
    PublicAgreeOver code public order v w
    → TurnsAgreeOver code public order k v w
    × WorldsAgree
    (learned_over code public order v k)
    (state_at (processor code) o (schedule_of r) p)
    (state_at (processor code) (with_memory m o) (schedule_of r) p))
