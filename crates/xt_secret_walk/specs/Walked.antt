-- Carries a proof; nothing that a reader must believe.
-- What the walk knows after so many turns of a run.
use Rattle.std.specs.Prelude.{◌≡◌, ℕ, suc, ◌+◌, ◌<◌, ◌≤◌, ◌||◌, Bool, true, false, Option, Some, None}
use Rattle.std.specs.Prelude.{if◌then◌else◌, List, [], ◌∷◌, Result, Ok, Err, drop, length, slice_get}
use Rattle.std.specs.Prelude.{take}
use Rattle.xt_map.specs.History.{replies_of}
use Rattle.xt_map.specs.Memory.{constant_byte}
use Rattle.xt_image.specs.declared.image.Image.{Image}
use Rattle.xt_trace.specs.declared.record.StepRecord.{StepRecord}
use Rattle.xt_trace.specs.declared.run.Run.{Run}
use Rattle.xt_trace.specs.Traces.{trace_over}
use Rattle.xt_exec.specs.Chips.{processor}
use Rattle.xt_exec.specs.State.{State}
use Rattle.xt_exec.specs.States.{file_state}
use Rattle.xt_exec.specs.Turn.{turn}
use Rattle.xt_core.specs.Runs.{entry_of, opening_at, turns_of}
use Rattle.xt_map.specs.Fetching.{fetch_at}
use Rattle.xt_frames.specs.FirstBreach.{Turn, records_of, turns}
use Rattle.xt_uses.specs.UseStep.{reply_mask, step_insn}
use Rattle.xt_simulation.specs.Knowledge.{Knowledge, all_known}
use Rattle.xt_simulation.specs.TurnUses.{turn_used}
use Rattle.xt_simulation.specs.Learning.{known_after, known_past, stored_in, stored_mask}
use Rattle.xt_simulation.specs.SecretBytes.{bytes_past}
use Rattle.xt_simulation.specs.FirstLeak.{Standing, Watched, carried_count, insn_carries}
use Rattle.xt_simulation.specs.FirstLeak.{standing_before, stores_hidden, uses_at}
use Rattle.xt_simulation.specs.WatchedRuns.{has_byte_at}
use Rattle.xt_use_walk.specs.declared.bytes.ByteMasks.{ByteMasks}
use Rattle.xt_secret_walk.specs.declared.masks.CoreMasks.{CoreMasks}
use Rattle.xt_secret_walk.specs.declared.seen.Seen.{Seen}
use Rattle.xt_secret_walk.specs.declared.side.Side.{Side}
use Rattle.xt_secret_walk.specs.declared.leak.End.{End}
use Rattle.xt_secret_walk.specs.declared.leak.End.TheVariants.{NoTurn, Leaks}
use Rattle.xt_secret_walk.specs.declared.leak.FirstLeak.{FirstLeak}
use Rattle.xt_secret_walk.specs.declared.walk.Walk.{Walk}
use Rattle.xt_secret_walk.specs.Answers.{IsLeaks, IsWhole, lacks_fetched}
use Rattle.xt_secret_walk.specs.KnownBytes.{KnowsBytes}
use Rattle.xt_secret_walk.specs.SeenWords.{knowledge_of, seen_in, seen_of}

-- ---- one core

abbrev pub side_state : Side → State
side_state w = file_state w.regs

abbrev pub side_known : Side → Knowledge
side_known w = knowledge_of w.masks

-- the records of the turns that it has left
abbrev pub records_left : (ℕ → ℕ) → Side → List StepRecord
records_left code w =
    (trace_over (processor code) (side_state w) w.left w.replies).records

-- it has made no more turns than a run has, and no more have carried a secret
pub record IsSide (w : Side) : Type 0 where
  pub turns : w.steps + w.left ≤ 4000000
  pub carried : w.carried ≤ w.steps

-- its next turn is made, with this record
pub record IsMade (code : ℕ → ℕ) (old new : Side) (rec : StepRecord) : Type 0 where
  pub records : records_left code old ≡ rec ∷ records_left code new
  pub state : (rec, side_state new) ≡ turn code (side_state old) rec.reply
  pub core_is : new.core ≡ old.core
  pub left : new.left < old.left
  pub steps : new.steps ≡ old.steps
  pub carried : new.carried ≡ old.carried
  pub masks : new.masks ≡ old.masks

abbrev pub count_of : Bool → ℕ
count_of b = if b then 1 else 0

-- a turn with this record, whose reply has this mask, leaves a register or a byte with a bit that is
-- not known
abbrev pub turn_carries :
    (ℕ → ℕ) → (ℕ → Bool) → StepRecord → ℕ → Knowledge → State → Bool
turn_carries code public rec reply m s =
    let i = step_insn rec.kind (fetch_at code s.control.pc) in
    insn_carries i rec.write reply m s || stores_hidden public (stored_in i m s) rec.access

-- the instruction that was seen is executed, if one is, and what it writes has its mask; `carries`
-- tells whether that leaves a bit that is not known
abbrev pub IsWrittenBy : Option Seen → CoreMasks → CoreMasks → StepRecord → ℕ → ℕ → Bool → Type 0
IsWrittenBy None old new rec base reply carries = (new ≡ old) × (carries ≡ false)
IsWrittenBy (Some x) old new rec base reply carries =
    (s : State) → x ≡ seen_in x.insn (knowledge_of old) s
    → (knowledge_of new ≡ known_past (Some x.insn) rec.write base reply (knowledge_of old) s)
    × (carries ≡ insn_carries (Some x.insn) rec.write reply (knowledge_of old) s)

pub record IsWritten
    (old new : Side) (rec : StepRecord) (executed : Option Seen) (reply : ℕ) (carries : Bool)
    : Type 0 where
  pub core_is : new.core ≡ old.core
  pub regs_are : new.regs ≡ old.regs
  pub left_is : new.left ≡ old.left
  pub replies_are : new.replies ≡ old.replies
  pub steps : new.steps ≡ old.steps
  pub carried : new.carried ≡ old.carried
  pub written : IsWrittenBy executed old.masks new.masks rec (side_state old).base reply carries

-- what is known after the turn of this record, before which the walk found this
pub record IsPassed
    (public : ℕ → Bool) (old new : Side) (b c : ByteMasks) (rec : StepRecord)
    (seen : Option Seen) (reply : ℕ) : Type 0 where
  pub core_is : new.core ≡ old.core
  pub regs_are : new.regs ≡ old.regs
  pub left_is : new.left ≡ old.left
  pub replies_are : new.replies ≡ old.replies
  pub steps : new.steps ≡ old.steps + 1
  pub known :
      (code : ℕ → ℕ) (s : State)
      → seen ≡ seen_of (fetch_at code s.control.pc) (side_known old) s
      → side_known new
      ≡ known_after code rec.kind rec.write (side_state old).base reply (side_known old) s
  pub bytes_are :
      (code : ℕ → ℕ) (s : State) (masks : ℕ → ℕ)
      → seen ≡ seen_of (fetch_at code s.control.pc) (side_known old) s
      → KnowsBytes b public masks
      → KnowsBytes c public
      (bytes_past public (stored_mask code rec.kind (side_known old) s) rec.access masks)
  pub carried :
      (code : ℕ → ℕ) (s : State)
      → seen ≡ seen_of (fetch_at code s.control.pc) (side_known old) s
      → new.carried
      ≡ old.carried + count_of (turn_carries code public rec reply (side_known old) s)

-- a core as a run of an image opens
pub record IsOpenSide (image : Image) (run : Run) (core : ℕ) (w : Side) : Type 0 where
  pub core_is : w.core ≡ core
  pub state : side_state w ≡ opening_at core (entry_of core image run.options) run.options
  pub known : side_known w ≡ all_known
  pub left : w.left ≡ turns_of core run.options
  pub replies : w.replies ≡ replies_of core run.history
  pub steps : w.steps ≡ 0
  pub carried : w.carried ≡ 0

-- its next turn, with this record, which uses known bits alone: the core stood in the state s, and m
-- and `masks` were known
pub record IsPast
    (code : ℕ → ℕ) (public : ℕ → Bool) (old new : Side) (c : ByteMasks) (s : State)
    (m : Knowledge) (masks : ℕ → ℕ) (rec : StepRecord) : Type 0 where
  pub records : records_left code old ≡ rec ∷ records_left code new
  pub side : IsSide new
  pub core_is : new.core ≡ old.core
  pub uses : turn_used code rec.kind rec.access (reply_mask masks rec.access) m s ≡ true
  pub state : side_state new ≡ (turn code s rec.reply).1
  pub known :
      side_known new
      ≡ known_after code rec.kind rec.write (turn code s rec.reply).1.base
      (reply_mask masks rec.access) m s
  pub bytes_are :
      KnowsBytes c public (bytes_past public (stored_mask code rec.kind m s) rec.access masks)
  pub steps : new.steps ≡ old.steps + 1
  pub carried :
      new.carried
      ≡ old.carried
      + count_of (turn_carries code public rec (reply_mask masks rec.access) m s)

-- its next turn uses a bit that is not known
pub record IsLeaking
    (code : ℕ → ℕ) (old : Side) (s : State) (m : Knowledge) (masks : ℕ → ℕ) (first : FirstLeak)
    : Type 0 where
  pub rest : List StepRecord
  pub records : records_left code old ≡ first.rec ∷ rest
  pub core_is : first.core ≡ old.core
  pub step : first.step ≡ old.steps
  pub uses :
      turn_used code first.rec.kind first.rec.access (reply_mask masks first.rec.access) m s
      ≡ false
  pub lacks : first.lacks ≡ lacks_fetched (fetch_at code s.control.pc) m s

-- what its next turn comes to; nothing has changed if it has none
abbrev pub IsNext :
    (ℕ → ℕ) → (ℕ → Bool) → Side → Side → ByteMasks → ByteMasks → State → Knowledge
    → (ℕ → ℕ) → Option FirstLeak → Result Unit End → Type 0
IsNext code public old new b c s m masks leak (Ok u) =
    (rec : StepRecord) × IsPast code public old new c s m masks rec
IsNext code public old new b c s m masks leak (Err NoTurn) =
    (records_left code old ≡ []) × (new ≡ old) × (c ≡ b)
IsNext code public old new b c s m masks leak (Err Leaks) =
    (first : FirstLeak) × (leak ≡ Some first) × IsLeaking code old s m masks first

-- ---- both cores

-- they stand so, and this is known of them
pub record Stands (w : Walk) (b : Standing) : Type 0 where
  pub side0 : IsSide w.side0
  pub side1 : IsSide w.side1
  pub core0 : w.side0.core ≡ 0
  pub core1 : w.side1.core ≡ 1
  pub state0 : side_state w.side0 ≡ b.state0
  pub state1 : side_state w.side1 ≡ b.state1
  pub known0 : side_known w.side0 ≡ b.learned.core0
  pub known1 : side_known w.side1 ≡ b.learned.core1

-- ---- a run

-- p turns of a run are walked, none of which leaks, and these cores come next
pub record IsOn (r : Watched) (w : Walk) (cores : List ℕ) (p : ℕ) : Type 0 where
  pub code_is : constant_byte w.code ≡ r.code
  pub public_is : has_byte_at w.public.now ≡ r.public
  pub stands : Stands w (standing_before r p)
  pub bytes : KnowsBytes w.bytes r.public (standing_before r p).learned.bytes
  pub within : p ≤ length r.turns
  pub rest :
      drop p r.turns
      ≡ turns cores (records_left r.code w.side0) (records_left r.code w.side1)
  pub known :
      (i : ℕ) (t : Turn) → i < p → slice_get r.turns i ≡ Some t → uses_at r i t ≡ true
  pub steps0 : w.side0.steps ≡ length (records_of 0 (take p r.turns))
  pub steps1 : w.side1.steps ≡ length (records_of 1 (take p r.turns))
  pub carried0 : w.side0.carried ≡ carried_count r 0 p
  pub carried1 : w.side1.carried ≡ carried_count r 1 p

-- how the walk ends before the schedule does
abbrev pub IsEnded : Watched → Walk → End → Type 0
IsEnded r w NoTurn = IsWhole r w.side0.carried w.side1.carried
IsEnded r w Leaks = (first : FirstLeak) × (w.leak ≡ Some first) × IsLeaks r first

abbrev pub IsTurned : Watched → Walk → List ℕ → ℕ → Result Unit End → Type 0
IsTurned r w cores p (Ok u) = IsOn r w cores (suc p)
IsTurned r w cores p (Err end) = IsEnded r w end

abbrev pub IsFollowed : Watched → Walk → Result Unit End → Type 0
IsFollowed r w (Ok u) = IsWhole r w.side0.carried w.side1.carried
IsFollowed r w (Err end) = IsEnded r w end
