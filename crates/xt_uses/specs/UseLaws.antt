-- States laws of the discipline of uses: a row looks at nothing but the bits that it uses; what the
-- machine of uses knows of a run is so; and no breach of uses comes before one of the stack
-- discipline.
--
-- Profile: `WholeIsFrames`, `UsesAreLater` and `UseRunIsFrameRun` are about the lenient discipline,
-- since the strict one may name a use where the stack discipline is whole. The other laws hold for
-- both.
-- Note: `UsesAreLater` and its neighbours ask that the records are those that a run can have
-- (`IsOrdinary`): words, an access of at most 4 bytes, an aligned VECBASE.
use Rattle.std.specs.Prelude.{◌≡◌, ℕ, ◌%◌, ◌<◌, ◌≤◌, ◌^◌, ◌⊎◌, Bool, true, false, not, Option}
use Rattle.std.specs.Prelude.{Some, None, List, [], ◌∷◌, if◌then◌else◌, map, slice_index_or}
use Rattle.xt_isa.specs.declared.Insn.{Insn}
use Rattle.xt_isa.specs.declared.Insn.TheVariants as insn
use Rattle.xt_isa.specs.declared.system.System.TheVariants as system
use Rattle.xt_isa.specs.declared.system.UserName.TheVariants as UserName
use Rattle.xt_map.specs.declared.access.Access.{Access}
use Rattle.xt_map.specs.declared.access.Kind.{Kind}
use Rattle.xt_map.specs.declared.access.Kind.TheVariants.{Store}
use Rattle.xt_map.specs.declared.contents.MemoryContents.{MemoryContents}
use Rattle.xt_map.specs.History.{IsLegal, memory_after}
use Rattle.xt_map.specs.Regions.{is_mapped, uart_transmit}
use Rattle.xt_map.specs.Serving.{reply_to}
use Rattle.xt_map.specs.Touching.{IsMemory, is_store}
use Rattle.xt_special.specs.declared.ps.Ps.{Ps}
use Rattle.xt_special.specs.Access.{SpecialWrites, is_eps, no_set, set_to}
use Rattle.xt_special.specs.Control.{special_of}
use Rattle.xt_map.specs.Code.{AreBytes}
use Rattle.xt_trace.specs.declared.record.RegWrite.{RegWrite}
use Rattle.xt_trace.specs.declared.record.StepRecord.{StepRecord}
use Rattle.xt_rows.specs.declared.outcome.Effect.{Effect}
use Rattle.xt_rows.specs.declared.outcome.Outcome.{Outcome}
use Rattle.xt_rows.specs.declared.outcome.Outcome.TheVariants.{Does, Asks}
use Rattle.xt_rows.specs.Kinds.{moved_to}
use Rattle.xt_rows.specs.RowLaws.{IsGiven, IsWord}
use Rattle.xt_rows.specs.Numbers.{loaded_value}
use Rattle.xt_rows.specs.Operands.{reads, special_reads}
use Rattle.xt_rows.specs.Outcomes.{outcome}
use Rattle.xt_frames.specs.declared.kinds.Breach.{Breach}
use Rattle.xt_frames.specs.declared.holes.Nested.{Nested}
use Rattle.xt_frames.specs.Frames.{Frame, FrameState, opening_frame}
use Rattle.xt_frames.specs.FirstBreach.{Course, IsFirstBreach, IsJudgedTurn, IsStale, IsTurn, Shows}
use Rattle.xt_frames.specs.FirstBreach.{entries_before, frame_before, judged_before, live_before}
use Rattle.xt_frames.specs.FirstBreach.{phase_before}
use Rattle.xt_frames.specs.Judging.{place_on}
use Rattle.xt_frames.specs.Marks.{holds_marks}
use Rattle.xt_frames.specs.Verdict.{IsFrameTrace, is_nested}
use Rattle.xt_uses.specs.Disciplines.{Discipline, Lenient, is_strict}
use Rattle.xt_uses.specs.Words.{Fits, Word, all_bits, masked, is_whole, mask_where}
use Rattle.xt_uses.specs.Used.{counted_bits, holds_owb, low_bits, used_are_known}
use Rattle.xt_uses.specs.Known.{loaded_mask, result_mask}
use Rattle.xt_uses.specs.UseState.{ValidityBits}
use Rattle.xt_uses.specs.UseStep.{reply_mask}
use Rattle.xt_uses.specs.UseBreaches.{is_swap}
use Rattle.xt_uses.specs.FirstUse as uses
use Rattle.xt_uses.specs.FirstUse.{History, IsFirstUse, IsHistory, IsVerdict, carried_count, use_at}

-- ---- the law of a row
-- The words of the operands fit the numbers that the row reads. Then over the values of the words
-- it does what it does over the numbers, but for bits that are not known.

-- two numbers agree in the bits of a mask
abbrev pub AgreeIn : ℕ → ℕ → ℕ → Type 0
AgreeIn mask n m = masked mask n ≡ masked mask m

abbrev pub WritesAgree : ℕ → Option RegWrite → Option RegWrite → Type 0
WritesAgree mask None None = Unit {0}
WritesAgree mask (Some v) (Some w) = (v.reg ≡ w.reg) × AgreeIn mask v.value w.value
WritesAgree mask _ _ = ⊥

-- what a store stores agrees in the mask of the stored register; S32C1I's two words are equal
abbrev pub KindsAgree : ℕ → Kind → Kind → Type 0
KindsAgree mask (Store v) (Store w) = AgreeIn mask v w
KindsAgree mask k l = k ≡ l

abbrev pub AccessesAgree : ℕ → Access → Access → Type 0
AccessesAgree mask a b = (a.addr ≡ b.addr) × (a.size ≡ b.size) × KindsAgree mask a.kind b.kind

-- the special register is given numbers that agree in these bits
abbrev pub IsGivenIn : ℕ → ℕ → SpecialWrites → SpecialWrites → Type 0
IsGivenIn n given sets others =
    (x : ℕ) × (y : ℕ) × ((sets ≡ (set_to n x, no_set, no_set))
    × (others ≡ (set_to n y, no_set, no_set)) × AgreeIn given x y)

-- what EXCSAVE or MISC is given agrees in the mask of the register that is read, what EPS2 to EPS7
-- are given in the bits that count
abbrev pub SetsAgree : Discipline → Option (ℕ × ℕ) → ℕ → SpecialWrites → SpecialWrites → Type 0
SetsAgree d None given sets others = sets ≡ others
SetsAgree d (Some p) given sets others =
    (holds_marks p.1 ≡ true → IsGivenIn p.1 given sets others)
    × (is_eps p.1 ≡ true → IsGivenIn p.1 (counted_bits d p.1) sets others)
    × (holds_marks p.1 ≡ false → is_eps p.1 ≡ false → sets ≡ others)

-- in the strict discipline OWB does not count
abbrev pub counted_ps : Discipline → Ps → Ps
counted_ps d ps = if is_strict d then record ps { owb = 0 } else ps

-- the mask of THREADPTR after a row
unfoldable pub pointer_mask : Insn → ℕ → ℕ → ℕ
pointer_mask (insn.System (system.User UserName.Wur t n)) given pointer = given
pointer_mask _ given pointer = pointer

-- the masks of the written register, of the first operand, of THREADPTR and of the stored register
pub record RowMasks : Type 0 where
  pub result : ℕ
  pub given : ℕ
  pub pointer : ℕ
  pub stored : ℕ

pub record EffectsAgree (by : Discipline) (i : Insn) (m : RowMasks) (d e : Effect) : Type 0 where
  pub write : WritesAgree m.result d.write e.write
  pub sets : SetsAgree by (moved_to i) m.given d.sets e.sets
  pub ps : counted_ps by d.ps ≡ counted_ps by e.ps
  pub threadptr : AgreeIn m.pointer d.threadptr e.threadptr
  pub flow : d.flow ≡ e.flow
  pub waits : d.waits ≡ e.waits

abbrev pub OutcomesAgree : Discipline → Insn → RowMasks → Outcome → Outcome → Type 0
OutcomesAgree by i m (Does d) (Does e) = EffectsAgree by i m d e
OutcomesAgree by i m (Asks a x d) (Asks b y e) =
    AccessesAgree m.stored a b × (x ≡ y) × EffectsAgree by i m d e
OutcomesAgree by i m o p = o ≡ p

-- of a special register that keeps nothing unknown the bits that count are known
abbrev pub IsKnownNumber : Discipline → Option ℕ → Word → Type 0
IsKnownNumber d None w = is_whole w ≡ true
IsKnownNumber d (Some n) w = holds_marks n ≡ false → w.mask ≡ counted_bits d n

-- its word fits it, but that of a register that holds OWB agrees in the known bits
abbrev pub SpecialFits : Option ℕ → ℕ → Word → Type 0
SpecialFits None u w = Fits u w
SpecialFits (Some n) u w = (holds_owb n ≡ false → Fits u w) × AgreeIn w.mask u w.value

-- INTERRUPT is one number, and EPS2 to EPS7 agree in the bits that count
abbrev pub OthersAgree : Discipline → Option ℕ → ℕ → ℕ → Type 0
OthersAgree d None v w = v ≡ w
OthersAgree d (Some n) v w = (holds_owb n ≡ false → v ≡ w) × AgreeIn (counted_bits d n) v w

-- what is known of the operands of a row
pub record IsRow (d : Discipline) (i : Insn) (x y u v w : ℕ) (a b c : Word) : Type 0 where
  pub first : Fits x a
  pub second : Fits y b
  pub special : SpecialFits (special_reads i).0 u c
  pub other : OthersAgree d (special_reads i).1 v w
  -- one register has one word
  pub same : (reads i).0 ≡ (reads i).1 → (x ≡ y) × (a ≡ b)
  -- masks are words
  pub first_mask : a.mask < 2 ^ 32
  pub second_mask : b.mask < 2 ^ 32
  pub number : IsKnownNumber d (special_reads i).0 c
  pub used : used_are_known d i a b ≡ true

abbrev pub masks_of_row : Discipline → Insn → Word → Word → Word → ℕ → RowMasks
masks_of_row d i a b c pointer = record {
  result = result_mask d i a b c pointer all_bits;
  given = a.mask;
  pointer = pointer_mask i a.mask pointer;
  stored = b.mask;
}

-- where t is THREADPTR, of which the bits of `pointer` are known
abbrev pub RowsAgree : Type 0
RowsAgree =
    (d : Discipline) (code : ℕ → ℕ) (i : Insn) (pc x y u v w : ℕ) (ps : Ps) (t pointer : ℕ)
    (a b c : Word)
    → IsGiven i pc x y u v ps t → IsRow d i x y u v w a b c
    → OutcomesAgree
    d
    i
    (masks_of_row d i a b c pointer)
    (outcome code i pc x y u v ps t)
    (outcome code i pc a.value b.value c.value w ps (masked pointer t))

-- and what a load writes agrees in what is known of the reply
abbrev pub RepliesAgree : Type 0
RepliesAgree =
    (signed : Bool) (reply n m : ℕ) → reply < 2 ^ 32 → n < 2 ^ 32 → m < 2 ^ 32 → AgreeIn reply n m
    → AgreeIn (loaded_mask signed reply) (loaded_value signed n) (loaded_value signed m)

-- ---- what is known of a run is so

abbrev pub WriteFits : ℕ → Option RegWrite → Option RegWrite → Type 0
WriteFits mask None None = Unit {0}
WriteFits mask (Some v) (Some w) = (v.reg ≡ w.reg) × (masked mask v.value ≡ w.value)
WriteFits mask _ _ = ⊥

abbrev pub KindFits : ℕ → Kind → Kind → Type 0
KindFits mask (Store v) (Store w) = masked mask v ≡ w
KindFits mask k l = k ≡ l

abbrev pub AccessFits : ℕ → Option Access → Option Access → Type 0
AccessFits mask None None = Unit {0}
AccessFits mask (Some a) (Some b) =
    (a.addr ≡ b.addr) × (a.size ≡ b.size) × KindFits mask a.kind b.kind
AccessFits mask _ _ = ⊥

-- the reply fits what memory would answer of which the judged stores and S32C1I alone have written
abbrev pub ReplyFits : ℕ → MemoryContents → Option Access → ℕ → Type 0
ReplyFits mask m None reply = Unit {0}
ReplyFits mask m (Some a) reply = AgreeIn mask reply (reply_to m a)

-- the reply to an S32C1I, and the byte that UART0 sends, are known
abbrev pub IsAnswered : ℕ → Option Access → Type 0
IsAnswered reply None = Unit {0}
IsAnswered reply (Some a) = is_swap a ≡ true → reply ≡ all_bits

abbrev pub IsSent : ℕ → Option Access → Type 0
IsSent stored None = Unit {0}
IsSent stored (Some a) =
    is_store a.kind ≡ true → a.addr ≡ uart_transmit → masked stored (low_bits 8) ≡ low_bits 8

pub record FitsStep
    (r : Course) (h : History) (opening : MemoryContents) (p core : ℕ) (rec : StepRecord)
    : Type 0 where
  pub place :
      rec.pc ≡ place_on (is_nested (phase_before r core p)) rec (h.state core p).frame
  pub kind : rec.kind ≡ (use_at r h p core rec).turn.kind
  pub write : WriteFits (use_at r h p core rec).mask rec.write (use_at r h p core rec).turn.write
  pub access :
      AccessFits (use_at r h p core rec).stored rec.access (use_at r h p core rec).turn.access
  pub reply :
      ReplyFits
      (reply_mask (h.mask p) rec.access)
      (memory_after opening (entries_before r p))
      rec.access
      rec.reply
  pub answered : IsAnswered (reply_mask (h.mask p) rec.access) rec.access
  pub sent : IsSent (use_at r h p core rec).stored rec.access

-- of each judged record before the first breach
abbrev pub IsUseRun : Course → MemoryContents → Type 0
IsUseRun r opening =
    (d : Discipline) (h : History) (q : ℕ) (found : Option Breach)
    → IsHistory d r h → IsFirstUse r h q found
    → (p core : ℕ) (rec : StepRecord) → p < q → IsJudgedTurn r p core rec
    → FitsStep r h opening p core rec

-- ---- the verdict is one

abbrev pub VerdictIsOne : Type 0
VerdictIsOne =
    (d : Discipline) (r : Course) (one other : Option Breach) (n m k l : ℕ)
    → IsVerdict d r one n m → IsVerdict d r other k l → (one ≡ other) × (n ≡ k) × (m ≡ l)

-- ---- where the stack discipline shows no breach, the machine of uses is that of frames, and what
-- has no number there is what is not known here

-- a core opens so, with words
pub record IsOpening (f : FrameState) : Type 0 where
  pub core : ℕ
  pub pc : ℕ
  pub vecbase : ℕ
  pub stack_end : ℕ
  pub opens : f ≡ opening_frame core pc vecbase stack_end
  pub pc_word : IsWord pc
  pub vecbase_word : IsWord vecbase
  pub vectors : vecbase % 2 ^ 10 ≡ 0
  pub stack_word : IsWord stack_end

-- What holds of each run: instructions are bytes, cores open as cores do, what a record tells of
-- CCOUNT, INTERRUPT and a reply are words, and its access has four bytes at most.
pub record IsOrdinary (r : Course) : Type 0 where
  pub code : AreBytes r.code
  pub opens : (core : ℕ) → IsOpening (r.opening core)
  pub inputs :
      (p core : ℕ) (rec : StepRecord) → IsTurn r p core rec
      → IsWord rec.ccount × IsWord rec.interrupt × IsWord rec.reply
  pub sizes :
      (p core : ℕ) (rec : StepRecord) (a : Access) → IsTurn r p core rec → rec.access ≡ Some a
      → a.size ≤ 4

abbrev pub number_mask : Option ℕ → ℕ
number_mask None = 0
number_mask (Some n) = all_bits

abbrev pub InnerIsWhole : Option Nested → List ℕ → Type 0
InnerIsWhole None inner = Unit {0}
InnerIsWhole (Some x) inner = inner ≡ map number_mask x.seen

pub record MasksAreWhole (f : FrameState) (m : ValidityBits) : Type 0 where
  pub seen : m.seen ≡ map number_mask f.seen
  pub kept : m.kept ≡ map (λ (g : Frame). map number_mask g.kept) f.frames
  pub special :
      (n : ℕ) → holds_marks n ≡ true
      → slice_index_or m.special n 0 ≡ mask_where (not (slice_index_or f.unset n false))
  pub threadptr : m.threadptr ≡ all_bits
  pub inner : InnerIsWhole f.nested m.inner

-- of a byte, before turn p
abbrev pub IsHidden : Course → ℕ → ℕ → Type 0
IsHidden r p a = (live_before r p a ≡ true) ⊎ IsStale r p a

pub record IsWholeAt (r : Course) (h : History) (p : ℕ) : Type 0 where
  pub frames : (core : ℕ) → (h.state core p).frame ≡ frame_before r core p
  pub masks : (core : ℕ) → MasksAreWhole (frame_before r core p) (h.state core p).masks
  pub hidden : (a : ℕ) → IsHidden r p a → h.mask p a ≡ 0
  pub others : (a : ℕ) → (IsHidden r p a → ⊥) → h.mask p a ≡ 255

-- no turn before turn p shows a breach of the stack discipline
abbrev pub IsUnbroken : Course → ℕ → Type 0
IsUnbroken r p =
    (i core : ℕ) (rec : StepRecord) → i < p → IsTurn r i core rec → Shows r i core rec None

abbrev pub WholeIsFrames : Type 0
WholeIsFrames =
    (r : Course) (h : History) (p : ℕ)
    → IsOrdinary r → IsHistory Lenient r h → IsUnbroken r p → IsWholeAt r h p

-- ---- a bit that is not known is 0 in the value, and of what has no number nothing is known

abbrev pub IsCutAt : Option ℕ → ℕ → Type 0
IsCutAt None mask = mask ≡ 0
IsCutAt (Some n) mask = masked mask n ≡ n

abbrev pub AreCut : List (Option ℕ) → List ℕ → Type 0
AreCut [] [] = Unit {0}
AreCut (x ∷ xs) (y ∷ ys) = IsCutAt x y × AreCut xs ys
AreCut _ _ = ⊥

abbrev pub AreKeptCut : List Frame → List (List ℕ) → Type 0
AreKeptCut [] [] = Unit {0}
AreKeptCut (g ∷ gs) (k ∷ ks) = AreCut g.kept k × AreKeptCut gs ks
AreKeptCut _ _ = ⊥

abbrev pub InnerIsCut : Option Nested → List ℕ → Type 0
InnerIsCut None inner = Unit {0}
InnerIsCut (Some x) inner = AreCut x.seen inner

pub record IsCutState (f : FrameState) (m : ValidityBits) : Type 0 where
  pub seen : AreCut f.seen m.seen
  pub kept : AreKeptCut f.frames m.kept
  pub special :
      (n : ℕ) → holds_marks n ≡ true
      → masked (slice_index_or m.special n 0) (special_of f.control n) ≡ special_of f.control n
  pub lost :
      (n : ℕ) → holds_marks n ≡ true → slice_index_or f.unset n false ≡ true
      → slice_index_or m.special n 0 ≡ 0
  pub threadptr : masked m.threadptr f.control.threadptr ≡ f.control.threadptr
  pub inner : InnerIsCut f.nested m.inner

-- no turn before turn p shows a breach of uses
abbrev pub IsUnused : Course → History → ℕ → Type 0
IsUnused r h p =
    (i core : ℕ) (rec : StepRecord) → i < p → IsTurn r i core rec → uses.Shows r h i core rec None

abbrev pub ValuesAreCut : Type 0
ValuesAreCut =
    (d : Discipline) (r : Course) (h : History) (p core : ℕ)
    → IsOrdinary r → IsHistory d r h → IsUnused r h p
    → IsCutState (h.state core p).frame (h.state core p).masks

-- ---- no breach of uses comes before one of the stack discipline

abbrev pub UsesAreLater : Type 0
UsesAreLater =
    (r : Course) (h : History) (p q : ℕ) (breach found : Option Breach)
    → IsOrdinary r → IsHistory Lenient r h → IsFirstBreach r p breach → IsFirstUse r h q found
    → (p ≤ q)
    × (breach ≡ None → (found ≡ None) × (carried_count r h 0 q ≡ 0) × (carried_count r h 1 q ≡ 0))

-- ---- where the records of a run are those of the machine of uses, they are a frame run up to the
-- first breach of the stack discipline

-- what a record tells of a write and of a store are words, and the bus serves its access
pub record TellsWords (r : Course) : Type 0 where
  pub writes :
      (p core : ℕ) (rec : StepRecord) (w : RegWrite) → IsTurn r p core rec → rec.write ≡ Some w
      → IsWord w.value
  pub stores :
      (p core : ℕ) (rec : StepRecord) (a : Access) (v : ℕ) → IsTurn r p core rec
      → rec.access ≡ Some a → a.kind ≡ Store v → IsWord v
  pub served :
      (p core : ℕ) (rec : StepRecord) (a : Access) → IsTurn r p core rec → rec.access ≡ Some a
      → is_mapped a ≡ true

abbrev pub UseRunIsFrameRun : Type 0
UseRunIsFrameRun =
    (r : Course) (h : History) (opening : MemoryContents) (p q : ℕ) (breach found : Option Breach)
    → IsOrdinary r → TellsWords r → IsMemory opening
    → IsHistory Lenient r h → IsFirstBreach r p breach → IsFirstUse r h q found → IsUseRun r opening
    → IsFrameTrace r.code (r.opening 0) (judged_before r 0 p)
    × IsFrameTrace r.code (r.opening 1) (judged_before r 1 p)
    × IsLegal opening (entries_before r p)
