-- States that what is not known decides nothing: not where a run goes on, no address, and no byte
-- that is sent.
use Rattle.std.specs.Prelude.{◌≡◌, ℕ, ◌<◌, Option, Some, None, List, [], ◌∷◌}
use Rattle.xt_map.specs.declared.access.Access.{Access}
use Rattle.xt_map.specs.declared.access.Kind.TheVariants.{Store}
use Rattle.xt_map.specs.declared.contents.MemoryContents.{MemoryContents}
use Rattle.xt_map.specs.declared.segment.Segment.{Segment}
use Rattle.xt_map.specs.Memory.{constant_byte}
use Rattle.xt_map.specs.Regions.{uart_transmit}
use Rattle.xt_trace.specs.declared.options.Options.{Options}
use Rattle.xt_trace.specs.declared.record.StepRecord.{StepRecord}
use Rattle.xt_trace.specs.Short.{ShortRun}
use Rattle.xt_exec.specs.State.{State}
use Rattle.xt_frames.specs.declared.kinds.Breach.{Breach}
use Rattle.xt_frames.specs.declared.holes.Nested.{Nested}
use Rattle.xt_frames.specs.FrameStep.{FrameTurn}
use Rattle.xt_frames.specs.Judging.{place_on}
use Rattle.xt_frames.specs.Verdict.{is_nested}
use Rattle.xt_frames.specs.FirstBreach.{Course, IsJudgedTurn, phase_before}
use Rattle.xt_handlers.specs.Vectors.{Handlers}
use Rattle.xt_simulation.specs.Opening.{IsRunnable, openings_of}
use Rattle.xt_simulation.specs.Headline.{IsRunOfImage}
use Rattle.xt_simulation.specs.Walking.{Apart}
use Rattle.xt_uses.specs.declared.discipline.Discipline.{Discipline}
use Rattle.xt_uses.specs.declared.discipline.Discipline.TheVariants.{Strict, Lenient}
use Rattle.xt_uses.specs.Used.{low_bits}
use Rattle.xt_uses.specs.UseStep.{UseTurn}
use Rattle.xt_uses.specs.FirstUse.{History, IsFirstUse, IsHistory, use_at}
use Rattle.xt_uses.specs.UseLaws.{AccessFits, AccessesAgree, AgreeIn, IsOpening, IsOrdinary}
use Rattle.xt_uses.specs.UseLaws.{IsUseRun, WriteFits, WritesAgree}
use Rattle.xt_simulation.specs.UseRunLaws.{course_of}
use Rattle.xt_simulation.specs.Fillings.{Filling, Numbers, filled_at, filled_before, filled_record}

-- ---- the machine over a filling has a number in each register

abbrev pub HaveNumbers : List (Option ℕ) → Type 0
HaveNumbers [] = Unit {0}
HaveNumbers (None ∷ xs) = ⊥
HaveNumbers (Some n ∷ xs) = HaveNumbers xs

abbrev pub InnerHaveNumbers : Option Nested → Type 0
InnerHaveNumbers None = Unit {0}
InnerHaveNumbers (Some x) = HaveNumbers x.seen

abbrev pub RegistersHaveNumbers : Type 0
RegistersHaveNumbers =
    (d : Discipline) (r : Course) (h : History) (n : Filling) (core p : ℕ)
    → IsOpening (r.opening core)
    → HaveNumbers (filled_before d r h n core p).seen
    × InnerHaveNumbers (filled_before d r h n core p).nested

-- ---- PS.OWB is the filling's in the strict discipline, and the record's in the lenient one

abbrev pub OwbIsTheFillings : Type 0
OwbIsTheFillings = (mask : ℕ) (n : Numbers) (rec : StepRecord)
    → (filled_record Strict mask n rec).owb ≡ n.owb
    × (filled_record Lenient mask n rec).owb ≡ rec.owb

-- ---- beside the machine of uses

-- where UART0 sends a byte, the low eight bits that are stored there
abbrev pub SendsSame : Option Access → Option Access → Type 0
SendsSame (Some a) (Some b) =
    (v w : ℕ) → a.kind ≡ Store v → b.kind ≡ Store w → a.addr ≡ uart_transmit
    → AgreeIn (low_bits 8) v w
SendsSame _ _ = Unit {0}

-- u does what the step t of the machine of uses does: its kind, the register that it writes, the
-- kind, address and size of its access, and the byte that it sends are the same; and so is each
-- known bit of what it writes and stores
pub record DoesSame (t : UseTurn) (u : FrameTurn) : Type 0 where
  pub kind : u.kind ≡ t.turn.kind
  pub write : WriteFits t.mask u.write t.turn.write
  pub access : AccessFits t.stored u.access t.turn.access
  pub sent : SendsSame u.access t.turn.access

-- at turn p, and at the same place
pub record StepsSame
    (d : Discipline) (r : Course) (h : History) (n : Filling) (p core : ℕ) (rec : StepRecord)
    : Type 0 where
  pub place :
      place_on (is_nested (phase_before r core p)) rec (filled_before d r h n core p)
      ≡ place_on (is_nested (phase_before r core p)) rec (h.state core p).frame
  pub does : DoesSame (use_at r h p core rec) (filled_at d r h n p core rec)

-- whatever the filling, at each judged record before the first breach of uses
abbrev pub UnknownDecidesNothing : Type 0
UnknownDecidesNothing =
    (d : Discipline) (r : Course) (h : History) (n : Filling) (q : ℕ) (found : Option Breach)
    → IsOrdinary r → IsHistory d r h → IsFirstUse r h q found
    → (p core : ℕ) (rec : StepRecord) → p < q → IsJudgedTurn r p core rec
    → StepsSame d r h n p core rec

-- ---- beside the records of a run

abbrev pub AsksSame : ℕ → Option Access → Option Access → Type 0
AsksSame mask None None = Unit {0}
AsksSame mask (Some a) (Some b) = AccessesAgree mask a b
AsksSame mask _ _ = ⊥

-- the step at turn p has the place, the kind, the access and the byte sent of its record, and each
-- bit of what it writes and stores that the machine of uses knows
pub record FollowsRecord
    (d : Discipline) (r : Course) (h : History) (n : Filling) (p core : ℕ) (rec : StepRecord)
    : Type 0 where
  pub place :
      rec.pc ≡ place_on (is_nested (phase_before r core p)) rec (filled_before d r h n core p)
  pub kind : rec.kind ≡ (filled_at d r h n p core rec).kind
  pub write :
      WritesAgree (use_at r h p core rec).mask rec.write (filled_at d r h n p core rec).write
  pub access :
      AsksSame (use_at r h p core rec).stored rec.access (filled_at d r h n p core rec).access
  pub sent : SendsSame rec.access (filled_at d r h n p core rec).access

-- where the records are those of the machine of uses
abbrev pub RecordsAreFollowed : Type 0
RecordsAreFollowed =
    (d : Discipline) (r : Course) (opening : MemoryContents) (h : History) (n : Filling) (q : ℕ)
    (found : Option Breach)
    → IsOrdinary r → IsUseRun r opening → IsHistory d r h → IsFirstUse r h q found
    → (p core : ℕ) (rec : StepRecord) → p < q → IsJudgedTurn r p core rec
    → FollowsRecord d r h n p core rec

-- So in a run of an image of which the six window handlers pass their check, and whose two stacks
-- are apart, nothing that is not known decides anything before the first breach of uses.
abbrev pub RunsAreDecided : Type 0
RunsAreDecided =
    (segments : List Segment) (entry : ℕ) (o : Options) (r : ShortRun State)
    → IsRunnable segments entry o
    → Handlers (constant_byte segments) o.vecbase
    → Apart (openings_of segments entry o).range0 (openings_of segments entry o).range1
    → IsRunOfImage segments entry o r
    → (d : Discipline) (h : History) (n : Filling) (q : ℕ) (found : Option Breach)
    → IsHistory d (course_of segments entry o r) h
    → IsFirstUse (course_of segments entry o r) h q found
    → (p core : ℕ) (rec : StepRecord)
    → p < q → IsJudgedTurn (course_of segments entry o r) p core rec
    → FollowsRecord d (course_of segments entry o r) h n p core rec
