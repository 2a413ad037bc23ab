-- The verdict of uses on a run as a whole ('profile'): the first of its turns that shows a breach.
-- What a turn shows is said by all turns before it. Since a load takes what is known of bytes that
-- any earlier turn of either core may have stored, it is said by a history: the state of each core
-- and the mask of each byte before each turn.
--
-- Profile: the machine is that of `xt_frames`, and MOVSP moves a1. What is stale or live is not
-- known; `FirstUse` says it over whole lists, by a history that has the state of each core and the
-- mask of each byte before each turn.
use Rattle.std.specs.Prelude.{◌≡◌, ℕ, zero, suc, ◌+◌, ◌-◌, ◌*◌, ◌/◌, ◌%◌, ◌^◌, ◌<◌, ◌≤◌, Bool}
use Rattle.std.specs.Prelude.{true, false, ◌==◌, ◌&&◌, ◌||◌, not, ◌⊎◌, if◌then◌else◌, Option, Some}
use Rattle.std.specs.Prelude.{None, length, slice_get, Decides}
use Rattle.xt_map.specs.declared.access.Access.{Access}
use Rattle.xt_map.specs.Touching.{is_store, touches}
use Rattle.xt_trace.specs.declared.record.StepRecord.{StepRecord}
use Rattle.xt_map.specs.Fetching.{fetch_at}
use Rattle.xt_frames.specs.declared.kinds.Breach.{Breach}
use Rattle.xt_frames.specs.declared.kinds.BreachKind.{BreachKind}
use Rattle.xt_frames.specs.Frames.{FrameState}
use Rattle.xt_frames.specs.FrameStep.{with_inputs}
use Rattle.xt_frames.specs.Nesting.{current}
use Rattle.xt_frames.specs.SaveAreas.{is_live}
use Rattle.xt_frames.specs.declared.kinds.HandlerPhase.{HandlerPhase}
use Rattle.xt_frames.specs.declared.kinds.HandlerPhase.TheVariants.{Outside, InHandler, Nested}
use Rattle.xt_frames.specs.Breaches.{Bounds, inputs_of, writes_epc1}
use Rattle.xt_frames.specs.Verdict.{is_nested}
use Rattle.xt_frames.specs.FirstBreach.{Course, IsJudgedTurn, IsTurn, LeavesByte, Turn, is_judged}
use Rattle.xt_frames.specs.FirstBreach.{phase_before, records_before}
use Rattle.xt_uses.specs.Disciplines.{Discipline}
use Rattle.xt_uses.specs.UseState.{UseState, forgets, one_opens_unknown, opening_use}
use Rattle.xt_uses.specs.UseStep.{UseTurn, carries, use_step}
use Rattle.xt_uses.specs.UseBreaches.{use_breach, window_use}

-- ---- histories

pub record History : Type 0 where
  -- of a core, before turn p
  pub state : ℕ → ℕ → UseState
  -- before turn p, of a byte
  pub mask : ℕ → ℕ → ℕ

-- the step at turn p, which is this record of this core
abbrev pub use_at : Course → History → ℕ → ℕ → StepRecord → UseTurn
use_at r h p core rec =
    use_step r.code (is_nested (phase_before r core p)) rec (h.mask p) (h.state core p)

-- the byte is in a live save area of either core before turn p
abbrev pub live_at : Course → History → ℕ → ℕ → Bool
live_at r h p a =
    is_live (r.bounds 0).range (h.state 0 p).frame a
    || is_live (r.bounds 1).range (h.state 1 p).frame a

-- turn p forgets the byte
abbrev pub gone_at : History → ℕ → ℕ → Bool
gone_at h p a =
    forgets (h.state 0 p) (h.state 0 (suc p)) a || forgets (h.state 1 p) (h.state 1 (suc p)) a

-- the byte is live before turn p, or turn p forgets it
abbrev pub lost_at : Course → History → ℕ → ℕ → Bool
lost_at r h p a = live_at r h p a || gone_at h p a

-- ---- the masks of bytes

-- of the byte at an address, in a value that is stored from another address on
abbrev pub stored_byte : ℕ → ℕ → ℕ → ℕ
stored_byte mask addr a = mask / 2 ^ (8 * (a - addr)) % 2 ^ 8

-- the byte is live before no turn from one on up to turn p
abbrev pub StaysFree : Course → History → ℕ → ℕ → ℕ → Type 0
StaysFree r h from p a = (i : ℕ) → from ≤ i → i ≤ p → live_at r h i a ≡ false

-- no turn from one on and before turn p forgets the byte
abbrev pub StaysKept : History → ℕ → ℕ → ℕ → Type 0
StaysKept h from p a = (i : ℕ) → from ≤ i → i < p → gone_at h i a ≡ false

-- no turn from one on and before turn p is a judged store that touches the byte
abbrev pub StaysUnstored : Course → ℕ → ℕ → ℕ → Type 0
StaysUnstored r from p a = (i : ℕ) → from ≤ i → i < p → LeavesByte r i a

-- turn i is a judged store that touches the byte, and stores these bits of it
pub record StoresByte (r : Course) (h : History) (i a mask : ℕ) : Type 0 where
  pub core : ℕ
  pub rec : StepRecord
  pub access : Access
  pub turn : IsJudgedTurn r i core rec
  pub made : rec.access ≡ Some access
  pub store : is_store access.kind ≡ true
  pub touched : touches access.addr access.size a ≡ true
  pub bits : mask ≡ stored_byte (use_at r h i core rec).stored access.addr a

-- the mask with which the byte opens, where it is not live
abbrev pub opening_mask : Course → History → ℕ → ℕ
opening_mask r h a =
    if one_opens_unknown (r.bounds 0).range (r.bounds 1).range (h.state 0 0) (h.state 1 0) a then 0
    else 255

-- Before turn p a byte has this mask: it is live; it left its last live area, or was forgotten, at
-- turn `once`; it was last stored at turn `once`; or it has been as it opened.
pub data IsMask (r : Course) (h : History) (p a mask : ℕ) : Type 0 where
  IsLive : live_at r h p a ≡ true → mask ≡ 0 → IsMask r h p a mask
  HasLeft : (once : ℕ) → once < p → lost_at r h once a ≡ true → StaysFree r h (suc once) p a
      → StaysUnstored r (suc once) p a → mask ≡ 0 → IsMask r h p a mask
  IsStored : (once : ℕ) → once < p → StoresByte r h once a mask → StaysFree r h once p a
      → StaysKept h once p a → StaysUnstored r (suc once) p a → IsMask r h p a mask
  Opens : StaysFree r h 0 p a → StaysKept h 0 p a → StaysUnstored r 0 p a
      → mask ≡ opening_mask r h a → IsMask r h p a mask

-- ---- the states of the cores

-- turn p is no judged step of the core
abbrev pub IsIdle : Course → ℕ → ℕ → Type 0
IsIdle r core p = (rec : StepRecord) → IsJudgedTurn r p core rec → ⊥

pub record IsHistory (d : Discipline) (r : Course) (h : History) : Type 0 where
  pub opens : (core : ℕ) → h.state core 0 ≡ opening_use d (r.opening core)
  pub steps :
      (p core : ℕ) (rec : StepRecord) → IsJudgedTurn r p core rec
      → h.state core (suc p) ≡ (use_at r h p core rec).after
  pub stays : (p core : ℕ) → IsIdle r core p → h.state core (suc p) ≡ h.state core p
  pub masks : (p a : ℕ) → IsMask r h p a (h.mask p a)

-- ---- EPC1, as in the stack discipline

-- the state that the step at turn i finds, with the inputs of its record
abbrev pub found_at : Course → History → ℕ → ℕ → StepRecord → FrameState
found_at r h i core rec = with_inputs (inputs_of rec) (current (h.state core i).frame)

abbrev pub EndsMode : Course → History → ℕ → ℕ → StepRecord → Type 0
EndsMode r h i core rec =
    ((found_at r h i core rec).control.ps.excm ≡ true)
    × ((current (use_at r h i core rec).after.frame).control.ps.excm ≡ false)

abbrev pub writes_at : Course → History → ℕ → ℕ → StepRecord → Bool
writes_at r h i core rec =
    let f = found_at r h i core rec in
    writes_epc1 (use_at r h i core rec).turn.kind (fetch_at r.code f.control.pc) f.control.ps

abbrev pub LeavesEpc1 : Course → History → ℕ → ℕ → Type 0
LeavesEpc1 r h core i =
    (rec : StepRecord) → IsJudgedTurn r i core rec → writes_at r h i core rec ≡ false

-- Before turn p EPC1 of a core is lost: at an earlier turn of the core, `once`, there was a handler
-- step or exception mode ended, and no judged step from that one on has written EPC1.
pub record IsLost (r : Course) (h : History) (core p : ℕ) : Type 0 where
  pub once : ℕ
  pub earlier : once < p
  pub rec : StepRecord
  pub turn : IsTurn r once core rec
  pub loses :
      (is_judged (phase_before r core once) rec.kind ≡ false) ⊎ EndsMode r h once core rec
  pub since : (i : ℕ) → once ≤ i → i < p → LeavesEpc1 r h core i

-- ---- what a turn shows

-- outside handler steps the record of a window exception is tested; another handler step shows
-- nothing
abbrev pub handler_use : (ℕ → ℕ) → HandlerPhase → StepRecord → UseState → Option BreachKind
handler_use code Outside rec s = window_use code rec s
handler_use code InHandler rec s = None
handler_use code Nested rec s = None

abbrev pub record_use :
    (ℕ → ℕ) → Bounds → HandlerPhase → UseState → Bool → (ℕ → Bool) → (ℕ → ℕ) → StepRecord
    → Option BreachKind
record_use code b phase s lost live bytes rec =
    if is_judged phase rec.kind
    then use_breach b (not lost) code live bytes (is_nested phase) rec s
    else handler_use code phase rec s

-- turn p, this record of this core, shows `found`, where `lost` tells whether EPC1 is lost
pub record Shows
    (r : Course) (h : History) (p core : ℕ) (rec : StepRecord) (found : Option BreachKind)
    : Type 0 where
  pub lost : Bool
  pub is_lost : Decides lost (IsLost r h core p)
  pub shown :
      record_use
      r.code
      (r.bounds core)
      (phase_before r core p)
      (h.state core p)
      lost
      (live_at r h p)
      (h.mask p)
      rec
      ≡ found

-- ---- the first breach

-- turn p shows it, and is the record of its number among the records of its core
pub record IsUse (r : Course) (h : History) (p : ℕ) (b : Breach) : Type 0 where
  pub rec : StepRecord
  pub turn : IsTurn r p b.core rec
  pub number : b.step ≡ length (records_before r b.core p)
  pub shows : Shows r h p b.core rec (Some b.kind)

abbrev pub EndsIn : Course → History → ℕ → Option Breach → Type 0
EndsIn r h p None = p ≡ length r.turns
EndsIn r h p (Some b) = IsUse r h p b

-- No turn before turn p shows a breach, and turn p shows this one; or p counts all turns, and there
-- is none.
pub record IsFirstUse (r : Course) (h : History) (p : ℕ) (found : Option Breach) : Type 0 where
  pub before :
      (i core : ℕ) (rec : StepRecord) → i < p → IsTurn r i core rec → Shows r h i core rec None
  pub here : EndsIn r h p found

-- ---- what is carried: how many judged steps of a core before turn p wrote a register or stored
-- bytes of which a bit is not known

abbrev pub carries_at : Course → History → ℕ → ℕ → Option Turn → ℕ
carries_at r h core p None = 0
carries_at r h core p (Some t) =
    if (t.core == core && is_judged (phase_before r core p) t.rec.kind)
    && carries r.code t.rec (h.state core p) (use_at r h p core t.rec)
    then 1
    else 0

abbrev pub carried_count : Course → History → ℕ → ℕ → ℕ
carried_count r h core zero = 0
carried_count r h core (suc p) =
    carried_count r h core p + carries_at r h core p (slice_get r.turns p)

-- ---- the verdict, where the six window handlers pass their check

pub record IsVerdict
    (d : Discipline) (r : Course) (found : Option Breach) (carried0 carried1 : ℕ) : Type 0 where
  pub history : History
  pub is_history : IsHistory d r history
  pub place : ℕ
  pub first : IsFirstUse r history place found
  pub counts0 : carried0 ≡ carried_count r history 0 place
  pub counts1 : carried1 ≡ carried_count r history 1 place
