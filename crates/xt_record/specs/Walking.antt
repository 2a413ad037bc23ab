-- Carries a proof; nothing that a reader must believe.
-- Two cores and their memory in the middle of a run whose entries are known.
use Rattle.std.specs.Prelude.{◌≡◌, ◌≢◌, ℕ, zero, suc, ◌+◌, ◌<◌, ◌≤◌, ◌==◌, not, if◌then◌else◌, List}
use Rattle.std.specs.Prelude.{[], ◌∷◌, ◌++◌, length, map, filter, take, replicate, Option, Some}
use Rattle.std.specs.Prelude.{None, Result, Ok, Err}
use Rattle.std.specs.List.{range_with_len}
use Rattle.xt_map.specs.declared.access.Access.{Access}
use Rattle.xt_map.specs.declared.access.Entry.{Entry}
use Rattle.xt_map.specs.declared.contents.MemoryContents.{MemoryContents}
use Rattle.xt_map.specs.Serving.{reply_to}
use Rattle.xt_trace.specs.Chip.{Chip}
use Rattle.xt_trace.specs.Short.{ShortWorld, short_advance}
use Rattle.xt_trace.specs.Worlds.{Line}
use Rattle.xt_exec.specs.Chips.{processor}
use Rattle.xt_exec.specs.State.{State}
use Rattle.xt_exec.specs.Turn.{demand}
use Rattle.xt_bus.specs.States.{MemoryState}
use Rattle.xt_core.specs.Cores.{Asks, CoreState, short_of}
use Rattle.xt_record.specs.declared.fault.RecordFault.{RecordFault}
use Rattle.xt_record.specs.declared.fault.RecordFault.TheVariants as fault
use Rattle.xt_record.specs.declared.setting.Setting.{Setting}
use Rattle.xt_record.specs.Checkpoints.{checkpoint_bytes, is_due}
use Rattle.xt_image.specs.Findings.{fails}
use Rattle.xt_record.specs.Rules.{Finding}
use Rattle.xt_record.specs.TurnRules.{same_access}

-- ---- worlds

-- one core beside the other on a bus, as a world that keeps no records
abbrev pub beside : ℕ → CoreState → CoreState → Line → ShortWorld State
beside zero own other b = record { line = b; core0 = short_of own; core1 = short_of other }
beside (suc c) own other b = record { line = b; core0 = short_of other; core1 = short_of own }

abbrev pub line_at : MemoryContents → List Entry → Line
line_at m h = record { memory = m; history = h }

-- memory has room for what the turns that are left may send
abbrev pub HasRoom : CoreState → CoreState → MemoryState → Type 0
HasRoom own other m = length m.contents.sent + (own.left + other.left) ≤ m.room

-- ---- checkpoints

-- the checkpoint of a world at this position
abbrev pub point_of : ℕ → ShortWorld State → List ℕ
point_of position w =
    checkpoint_bytes position (length w.line.history) w.core0.count w.core0.state w.core1.count
    w.core1.state w.line.memory

-- the same of one core beside the other, after so many entries
abbrev pub point_beside : ℕ → ℕ → CoreState → CoreState → MemoryContents → List ℕ
point_beside zero entries own other m =
    checkpoint_bytes (own.count + other.count) entries own.count own.state other.count other.state m
point_beside (suc c) entries own other m =
    checkpoint_bytes (own.count + other.count) entries other.count other.state own.count own.state m

-- what a turn from here on adds to the checkpoints
abbrev pub due_beside : ℕ → ℕ → CoreState → CoreState → MemoryContents → List (List ℕ)
due_beside number entries own other m =
    if is_due (own.count + other.count) then point_beside number entries own other m ∷ [] else []

-- the checkpoints of a list of turns
abbrev pub points_along : Chip State → ShortWorld State → List ℕ → List (List ℕ)
points_along P w list =
    map (λ (p : ℕ). point_of p (short_advance P (take p list) w))
    (filter is_due (range_with_len 0 (length list)))

-- From these checkpoints, of some list of turns, one comes to those by so many turns
-- more, whatever the list.
abbrev pub Adds :
    (code : ℕ → ℕ) (number : ℕ) (own other : CoreState) (m : MemoryContents) (entries turns : ℕ)
    (old new : List (List ℕ)) → Type 0
Adds code number own other m entries turns old new =
    (h : List Entry) (list : List ℕ) (w : ShortWorld State) → length h ≡ entries
    → beside number own other (line_at m h) ≡ short_advance (processor code) list w
    → own.count + other.count ≡ length list
    → old ≡ points_along (processor code) w list
    → new ≡ points_along (processor code) w (list ++ replicate turns number)

-- ---- the turns up to an access

-- what a core asks for next: nothing where it has ended
abbrev pub IsNext : (ℕ → ℕ) → Option Access → CoreState → CoreState → Type 0
IsNext code None free after = (free.left ≡ 0) × (after ≡ free)
IsNext code (Some a) free after = Asks code free after a

abbrev pub access_count : Option Access → ℕ
access_count None = 0
access_count (Some a) = 1

-- A core made so many local turns.
pub record Went
    (code : ℕ → ℕ) (number : ℕ) (before other now : CoreState) (turns : ℕ) : Type 0 where
  pub free_is : now.waiting ≡ None
  pub core_is : now.core ≡ before.core
  pub count_is : now.count ≡ before.count + turns
  pub places_is : now.places ≡ before.places
  pub left_is : now.left + turns ≤ before.left
  pub leads : (b : Line) → beside number now other b
      ≡ short_advance (processor code) (replicate turns number) (beside number before other b)

-- and these are the checkpoints so far
pub record Going
    (code : ℕ → ℕ) (number : ℕ) (before other now : CoreState) (m : MemoryContents) (entries : ℕ)
    (old new : List (List ℕ)) : Type 0 where
  pub turns : ℕ
  pub went : Went code number before other now turns
  pub adds : Adds code number before other m entries turns old new

-- Then it asks or has ended, and the checkpoint before its next turn is there.
pub record Arrives
    (code : ℕ → ℕ) (number : ℕ) (before other after : CoreState) (m : MemoryContents) (entries : ℕ)
    (next : Option Access) (old new : List (List ℕ)) : Type 0 where
  pub turns : ℕ
  pub free : CoreState
  pub went : Went code number before other free turns
  pub next_is : IsNext code next free after
  pub adds : Adds code number before other m entries (turns + access_count next) old new

-- ---- one entry

-- what an entry shows where its core asks for this next, at the turn of this number
abbrev pub finding_at : Option Access → ℕ → ℕ → ℕ → Entry → MemoryContents → Finding
finding_at None number index count e m = Some (fault.Turn number count)
finding_at (Some a) number index count e m =
    if same_access a e.access
    then fails (not (e.reply == reply_to m e.access))
    (fault.Illegal index e.reply (reply_to m e.access))
    else Some (fault.Turn number count)

-- what is asked for
abbrev pub IsWanted : (ℕ → ℕ) → Option Access → CoreState → Type 0
IsWanted code None free = free.left ≡ 0
IsWanted code (Some a) free = (0 < free.left) × (demand code free.state ≡ Some a)

-- A core made so many turns up to its next access, and what it asks for there shows this.
pub record Comes
    (code : ℕ → ℕ) (number : ℕ) (before other : CoreState) (m : MemoryContents) (index : ℕ)
    (entry : Entry) (turns : ℕ) (finding : Finding) : Type 0 where
  pub free : CoreState
  pub next : Option Access
  pub wanted : IsWanted code next free
  pub count_is : free.count ≡ before.count + turns
  pub leads : (b : Line) → beside number free other b
      ≡ short_advance (processor code) (replicate turns number) (beside number before other b)
  pub finding_is : finding ≡ finding_at next number index free.count entry m

-- the core made these turns, and its access
pub record Took
    (code : ℕ → ℕ) (number : ℕ) (before other after : CoreState) (old new : Setting) (index : ℕ)
    (entry : Entry) : Type 0 where
  pub turns : ℕ
  pub comes : Comes code number before other old.memory.contents index entry turns None
  pub leads :
      (h : List Entry) → beside number after other (line_at new.memory.contents (h ++ entry ∷ []))
      ≡ short_advance (processor code) (replicate (turns + 1) number)
      (beside number before other (line_at old.memory.contents h))
  pub free_is : after.waiting ≡ None
  pub core_is : after.core ≡ before.core
  pub count_is : after.count ≡ before.count + (turns + 1)
  pub places_is : after.places ≡ before.places ++ (before.count + turns) ∷ []
  pub left_is : after.left + (turns + 1) ≤ before.left
  pub room_is : HasRoom before other old.memory → HasRoom after other new.memory
  pub code_is : new.code ≡ old.code
  pub adds : Adds code number before other old.memory.contents index (turns + 1) old.points.items
      new.points.items

-- the result is that of what the entry shows, unless memory ran out
abbrev pub Takes :
    Result Unit RecordFault → (code : ℕ → ℕ) (number : ℕ) (before other after : CoreState)
    (old new : Setting) (index : ℕ) (entry : Entry) → Type 0
Takes (Ok _) code number before other after old new index entry =
    Took code number before other after old new index entry
Takes (Err e) code number before other after old new index entry =
    e ≢ fault.Memory
    → (turns : ℕ) × Comes code number before other old.memory.contents index entry turns (Some e)

-- ---- the end

-- a core makes its last turns, and asks for nothing; or it asks for more
abbrev pub Ends :
    Result Unit RecordFault
    → (code : ℕ → ℕ) (number : ℕ) (before other after : CoreState) (old new : Setting) (entries : ℕ)
    → Type 0
Ends (Ok _) code number before other after old new entries =
    Arrives code number before other after old.memory.contents entries None old.points.items
    new.points.items
    × (new.memory ≡ old.memory) × (new.code ≡ old.code)
Ends (Err e) code number before other after old new entries =
    e ≢ fault.Memory
    → (a : Access)
    × Arrives code number before other after old.memory.contents entries (Some a) old.points.items
    new.points.items
    × (e ≡ fault.Turn number after.count)
