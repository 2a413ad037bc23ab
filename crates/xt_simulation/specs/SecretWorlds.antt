-- What is known of both cores and of memory, turn by turn ('profile').
use Rattle.std.specs.Prelude.{ℕ, zero, suc, Bool, true, List, [], ◌∷◌}
use Rattle.xt_trace.specs.declared.record.StepRecord.{StepRecord}
use Rattle.xt_trace.specs.Worlds.{Core, World, answer, give}
use Rattle.xt_exec.specs.Chips.{processor}
use Rattle.xt_exec.specs.State.{State}
use Rattle.xt_exec.specs.Turn.{demand, turn}
use Rattle.xt_uses.specs.UseStep.{reply_mask}
use Rattle.xt_simulation.specs.Knowledge.{Knowledge, all_known}
use Rattle.xt_simulation.specs.TurnUses.{turn_used}
use Rattle.xt_simulation.specs.Learning.{known_after, stored_mask}
use Rattle.xt_simulation.specs.SecretBytes.{bytes_past, opening_bytes}

pub record Learned : Type 0 where
  pub core0 : Knowledge
  pub core1 : Knowledge
  pub bytes : ℕ → ℕ

-- as a run begins
abbrev pub opening_learned : (ℕ → Bool) → (ℕ → Bool) → Learned
opening_learned secret public =
    record { core0 = all_known; core1 = all_known; bytes = opening_bytes secret public }

abbrev pub known_of : ℕ → Learned → Knowledge
known_of zero k = k.core0
known_of (suc c) k = k.core1

abbrev pub learned_with : ℕ → Knowledge → (ℕ → ℕ) → Learned → Learned
learned_with zero m bytes k = record { core0 = m; core1 = k.core1; bytes = bytes }
learned_with (suc c) m bytes k = record { core0 = k.core0; core1 = m; bytes = bytes }

-- ---- one turn of core c, which stood in the state s and made this record

abbrev pub uses_known : (ℕ → ℕ) → ℕ → State → StepRecord → Learned → Bool
uses_known code c s rec k =
    turn_used code rec.kind rec.access (reply_mask k.bytes rec.access) (known_of c k) s

-- where the turn ends in the window `base`
abbrev pub learned_past :
    (ℕ → ℕ) → (ℕ → Bool) → ℕ → State → StepRecord → ℕ → Learned → Learned
learned_past code public c s rec base k =
    let m = known_of c k in
    learned_with
    c
    (known_after code rec.kind rec.write base (reply_mask k.bytes rec.access) m s)
    (bytes_past public (stored_mask code rec.kind m s) rec.access k.bytes)
    k

-- ---- the next turn of core c in a world; a core with no turn left makes none

abbrev pub core_in : ℕ → World State → Core State
core_in zero w = w.core0
core_in (suc c) w = w.core1

-- its record and the state that it leaves
abbrev pub turn_in : (ℕ → ℕ) → ℕ → World State → StepRecord × State
turn_in code c w =
    let s = (core_in c w).state in turn code s (answer (demand code s) w.line.memory)

abbrev pub next_used : (ℕ → ℕ) → ℕ → ℕ → World State → Learned → Bool
next_used code zero c w k = true
next_used code (suc left) c w k =
    uses_known code c (core_in c w).state (turn_in code c w).0 k

abbrev pub next_learned : (ℕ → ℕ) → (ℕ → Bool) → ℕ → ℕ → World State → Learned → Learned
next_learned code public zero c w k = k
next_learned code public (suc left) c w k =
    let t = turn_in code c w in learned_past code public c (core_in c w).state t.0 t.1.base k

-- by how many turns the core has left
abbrev pub given_used : (ℕ → ℕ) → ℕ → World State → Learned → Bool
given_used code c w k = next_used code (core_in c w).left c w k

abbrev pub given_learned : (ℕ → ℕ) → (ℕ → Bool) → ℕ → World State → Learned → Learned
given_learned code public c w k = next_learned code public (core_in c w).left c w k

-- ---- the turns of a list

abbrev pub learned_over :
    (ℕ → ℕ) → (ℕ → Bool) → List ℕ → World State → Learned → Learned
learned_over code public [] w k = k
learned_over code public (c ∷ cs) w k =
    learned_over code public cs (give (processor code) c w) (given_learned code public c w k)
