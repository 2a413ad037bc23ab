-- States laws of two worlds that agree in what is known: while turns use known bits alone, they go on
-- so. The second world may hold any other secret.
use Rattle.std.specs.Prelude.{◌≡◌, ℕ, zero, suc, ◌<◌, ◌^◌, Bool, true, List, [], ◌∷◌}
use Rattle.xt_map.specs.Memory.{byte_at}
use Rattle.xt_map.specs.Touching.{IsMemory}
use Rattle.xt_map.specs.Code.{AreBytes}
use Rattle.xt_trace.specs.Worlds.{World, advance, give}
use Rattle.xt_exec.specs.Chips.{processor}
use Rattle.xt_exec.specs.State.{State}
use Rattle.xt_exec.specs.Turn.{demand}
use Rattle.xt_exec.specs.TurnLaws.{IsShaped}
use Rattle.xt_uses.specs.UseStep.{reply_mask}
use Rattle.xt_simulation.specs.Knowledge.{AreMasks, StatesAgree}
use Rattle.xt_simulation.specs.SecretBytes.{MemoriesAgree}
use Rattle.xt_simulation.specs.SecretLaws.{TurnsAgree}
use Rattle.xt_simulation.specs.SecretWorlds.{Learned, core_in, given_learned, given_used, known_of}
use Rattle.xt_simulation.specs.SecretWorlds.{learned_over, turn_in}

-- the states and the memory are those of a run
pub record IsShapedWorld (w : World State) : Type 0 where
  pub core0 : IsShaped w.core0.state
  pub core1 : IsShaped w.core1.state
  pub memory : IsMemory w.line.memory

pub record IsLearned (k : Learned) : Type 0 where
  pub core0 : AreMasks k.core0
  pub core1 : AreMasks k.core1
  pub bytes : (a : ℕ) → k.bytes a < 2 ^ 8

-- both worlds agree in what is known, and their cores have the same numbers of turns left
pub record WorldsAgree (k : Learned) (v w : World State) : Type 0 where
  pub core0 : StatesAgree k.core0 v.core0.state w.core0.state
  pub core1 : StatesAgree k.core1 v.core1.state w.core1.state
  pub left0 : v.core0.left ≡ w.core0.left
  pub left1 : v.core1.left ≡ w.core1.left
  pub memory : MemoriesAgree k.bytes v.line.memory w.line.memory

-- ---- public bytes

abbrev pub PublicAgree : (ℕ → Bool) → World State → World State → Type 0
PublicAgree public v w =
    (a : ℕ) → public a ≡ true → byte_at v.line.memory a ≡ byte_at w.line.memory a

-- after each turn of a list
abbrev pub PublicAgreeOver :
    (ℕ → ℕ) → (ℕ → Bool) → List ℕ → World State → World State → Type 0
PublicAgreeOver code public [] v w = Unit {0}
PublicAgreeOver code public (c ∷ cs) v w =
    PublicAgree public (give (processor code) c v) (give (processor code) c w)
    × PublicAgreeOver code public cs (give (processor code) c v) (give (processor code) c w)

-- ---- one turn of core c in both worlds

-- if the core has a turn left
abbrev pub NextAgree : (ℕ → ℕ) → ℕ → ℕ → Learned → World State → World State → Type 0
NextAgree code zero c k v w = Unit {0}
NextAgree code (suc left) c k v w =
    TurnsAgree
    code
    (reply_mask k.bytes (demand code (core_in c v).state))
    (known_of c k)
    (core_in c v).state
    (turn_in code c v)
    (turn_in code c w)

abbrev pub NextTurnsAgree : (ℕ → ℕ) → ℕ → Learned → World State → World State → Type 0
NextTurnsAgree code c k v w = NextAgree code (core_in c v).left c k v w

-- a turn that uses known bits alone is the same in both worlds, in what is known then, and so are
-- the worlds that it leaves
abbrev pub WorldsGoOnAlike : Type 0
WorldsGoOnAlike =
    (code : ℕ → ℕ) (public : ℕ → Bool) (c : ℕ) (v w : World State) (k : Learned)
    → AreBytes code → IsShapedWorld v → IsShapedWorld w → IsLearned k → WorldsAgree k v w
    → given_used code c v k ≡ true
    → PublicAgree public (give (processor code) c v) (give (processor code) c w)
    → NextTurnsAgree code c k v w
    × WorldsAgree
    (given_learned code public c v k)
    (give (processor code) c v)
    (give (processor code) c w)

-- ---- the turns of a list

-- each turn that is made uses known bits alone
abbrev pub UsesAreKnown : (ℕ → ℕ) → (ℕ → Bool) → List ℕ → World State → Learned → Type 0
UsesAreKnown code public [] w k = Unit {0}
UsesAreKnown code public (c ∷ cs) w k =
    (given_used code c w k ≡ true)
    × UsesAreKnown code public cs (give (processor code) c w) (given_learned code public c w k)

-- and is the same in both worlds, in what is known then
abbrev pub TurnsAgreeOver :
    (ℕ → ℕ) → (ℕ → Bool) → List ℕ → Learned → World State → World State → Type 0
TurnsAgreeOver code public [] k v w = Unit {0}
TurnsAgreeOver code public (c ∷ cs) k v w =
    NextTurnsAgree code c k v w
    × TurnsAgreeOver
    code
    public
    cs
    (given_learned code public c v k)
    (give (processor code) c v)
    (give (processor code) c w)

abbrev pub OrdersGoOnAlike : Type 0
OrdersGoOnAlike =
    (code : ℕ → ℕ) (public : ℕ → Bool) (order : List ℕ) (v w : World State) (k : Learned)
    → AreBytes code → IsShapedWorld v → IsShapedWorld w → IsLearned k → WorldsAgree k v w
    → UsesAreKnown code public order v k → PublicAgreeOver code public order v w
    → TurnsAgreeOver code public order k v w
    × WorldsAgree
    (learned_over code public order v k)
    (advance (processor code) order v)
    (advance (processor code) order w)
