-- The first leak of a run ('profile'): the first of its turns, in the order of the schedule, that
-- uses a bit that is not known. What is known before a turn is said by the records of the turns
-- before it.
--
-- Profile: a turn carries a secret if it leaves a register that it wrote, or a byte of memory that it
-- stored, with a bit that is not known. A conditional move whose condition is not known counts also
-- if it does not move. What is stored into a public byte, or sent, does not count.
use Rattle.std.specs.Prelude.{◌≡◌, ℕ, zero, suc, ◌+◌, ◌<◌, Bool, true, false, ◌==◌, ◌&&◌, ◌||◌, not}
use Rattle.std.specs.Prelude.{if◌then◌else◌, Option, Some, None, List, [], ◌∷◌, length, take}
use Rattle.std.specs.Prelude.{slice_get}
use Rattle.xt_isa.specs.declared.Insn.{Insn}
use Rattle.xt_map.specs.declared.access.Access.{Access}
use Rattle.xt_map.specs.Regions.{is_memory, region_of}
use Rattle.xt_map.specs.Touching.{is_store}
use Rattle.xt_trace.specs.declared.record.RegWrite.{RegWrite}
use Rattle.xt_map.specs.Fetching.{fetch_at}
use Rattle.xt_exec.specs.State.{State}
use Rattle.xt_exec.specs.Turn.{turn}
use Rattle.xt_frames.specs.Breaches.{some_byte}
use Rattle.xt_frames.specs.FirstBreach.{Turn, records_of}
use Rattle.xt_uses.specs.Words.{all_bits}
use Rattle.xt_uses.specs.FirstUse.{stored_byte}
use Rattle.xt_uses.specs.UseStep.{reply_mask, step_insn}
use Rattle.xt_simulation.specs.Knowledge.{Knowledge, register_word, first_word, second_word}
use Rattle.xt_simulation.specs.Learning.{common_mask, doubtful, stored_in, written_mask}
use Rattle.xt_simulation.specs.SecretWorlds.{Learned, known_of, learned_past, opening_learned}
use Rattle.xt_simulation.specs.SecretWorlds.{uses_known}

-- ---- what the turns of a run leave

-- a run: the states in which its cores open, the bytes that are secret and public, and its turns
pub record Watched : Type 0 where
  pub code : ℕ → ℕ
  pub opening0 : State
  pub opening1 : State
  pub secret : ℕ → Bool
  pub public : ℕ → Bool
  pub turns : List Turn

-- the states of both cores and what is known of them and of memory
pub record Standing : Type 0 where
  pub state0 : State
  pub state1 : State
  pub learned : Learned

abbrev pub opening_standing : Watched → Standing
opening_standing r = record {
  state0 = r.opening0;
  state1 = r.opening1;
  learned = opening_learned r.secret r.public;
}

abbrev pub state_of : ℕ → Standing → State
state_of zero b = b.state0
state_of (suc core) b = b.state1

abbrev pub standing_with : ℕ → State → Learned → Standing → Standing
standing_with zero s k b = record { state0 = s; state1 = b.state1; learned = k }
standing_with (suc core) s k b = record { state0 = b.state0; state1 = s; learned = k }

-- after a turn: a core goes on with the reply of its record
abbrev pub standing_past : (ℕ → ℕ) → (ℕ → Bool) → Turn → Standing → Standing
standing_past code public t b =
    let s = state_of t.core b in
    let u = (turn code s t.rec.reply).1 in
    standing_with t.core u (learned_past code public t.core s t.rec u.base b.learned) b

abbrev pub standing_over : (ℕ → ℕ) → (ℕ → Bool) → List Turn → Standing → Standing
standing_over code public [] b = b
standing_over code public (t ∷ ts) b = standing_over code public ts (standing_past code public t b)

-- before turn p
unfoldable pub standing_before : Watched → ℕ → Standing
standing_before r p = standing_over r.code r.public (take p r.turns) (opening_standing r)

-- ---- the first leak

abbrev pub known_uses : (ℕ → ℕ) → Turn → Standing → Bool
known_uses code t b = uses_known code t.core (state_of t.core b) t.rec b.learned

-- turn p, which is this one, uses known bits alone
abbrev pub uses_at : Watched → ℕ → Turn → Bool
uses_at r p t = known_uses r.code t (standing_before r p)

-- a core, and the number of its turn among its own
pub record Leak : Type 0 where
  pub core : ℕ
  pub step : ℕ

pub record IsLeak (r : Watched) (p : ℕ) (leak : Leak) : Type 0 where
  pub turn : Turn
  pub is_turn : slice_get r.turns p ≡ Some turn
  pub core : leak.core ≡ turn.core
  pub step : leak.step ≡ length (records_of turn.core (take p r.turns))
  pub uses : uses_at r p turn ≡ false

abbrev pub EndsIn : Watched → ℕ → Option Leak → Type 0
EndsIn r p None = p ≡ length r.turns
EndsIn r p (Some leak) = IsLeak r p leak

-- No turn before turn p leaks, and turn p does; or p counts all turns, and there is none.
pub record IsFirstLeak (r : Watched) (p : ℕ) (found : Option Leak) : Type 0 where
  pub before : (i : ℕ) (t : Turn) → i < p → slice_get r.turns i ≡ Some t → uses_at r i t ≡ true
  pub here : EndsIn r p found

-- ---- what is carried

-- the register of a conditional move whose condition is not known, or the one that is written
abbrev pub writes_hidden : Insn → Option ℕ → Option RegWrite → ℕ → Knowledge → State → Bool
writes_hidden i (Some r) write reply m s =
    not (common_mask (register_word m s (Some r)) (first_word i m s) == all_bits)
writes_hidden i None None reply m s = false
writes_hidden i None (Some w) reply m s = not (written_mask i reply m s == all_bits)

abbrev pub insn_carries : Option Insn → Option RegWrite → ℕ → Knowledge → State → Bool
insn_carries None write reply m s = false
insn_carries (Some i) write reply m s =
    writes_hidden i (doubtful i (second_word i m s)) write reply m s

-- a store leaves a byte of memory, which is not public, with a bit that is not known
abbrev pub stores_hidden : (ℕ → Bool) → ℕ → Option Access → Bool
stores_hidden public stored None = false
stores_hidden public stored (Some x) =
    is_store x.kind
    && (is_memory (region_of x.addr)
    && some_byte
    (λ a. not (public a || stored_byte stored x.addr a == 255))
    x.addr
    x.size)

-- a turn of a core
abbrev pub carries : (ℕ → ℕ) → (ℕ → Bool) → Turn → Standing → Bool
carries code public t b =
    let s = state_of t.core b in
    let m = known_of t.core b.learned in
    let i = step_insn t.rec.kind (fetch_at code s.control.pc) in
    insn_carries i t.rec.write (reply_mask b.learned.bytes t.rec.access) m s
    || stores_hidden public (stored_in i m s) t.rec.access

abbrev pub carries_at : Watched → ℕ → ℕ → Option Turn → ℕ
carries_at r core p None = 0
carries_at r core p (Some t) =
    if (t.core == core) && carries r.code r.public t (standing_before r p) then 1 else 0

-- how many turns of a core before turn p do
abbrev pub carried_count : Watched → ℕ → ℕ → ℕ
carried_count r core zero = 0
carried_count r core (suc p) =
    carried_count r core p + carries_at r core p (slice_get r.turns p)
