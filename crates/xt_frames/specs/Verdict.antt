-- The verdict on a run ('profile'): its records, walked in the order of its schedule, by the frame
-- states alone; and what it is that judged records are a run of the machine with unbounded frames.
--
-- Note: the walk serves proofs and need not be read. `IsFirstBreach` (`FirstBreach`) says over whole
-- lists what the first breach of a run is, and the law `verdict_is_first_breach` says that the walk
-- ends at that breach, and which records and accesses it has judged by then.
use Rattle.std.specs.Prelude.{◌≡◌, ℕ, zero, suc, Bool, true, false, if◌then◌else◌, Option, Some}
use Rattle.std.specs.Prelude.{None, List, [], ◌∷◌, ◌++◌}
use Rattle.xt_map.specs.declared.access.Access.{Access}
use Rattle.xt_map.specs.declared.access.Entry.{Entry}
use Rattle.xt_map.specs.declared.contents.MemoryContents.{MemoryContents}
use Rattle.xt_map.specs.History.{IsLegal}
use Rattle.xt_trace.specs.declared.record.StepRecord.{StepRecord}
use Rattle.xt_frames.specs.declared.kinds.Breach.{Breach}
use Rattle.xt_frames.specs.declared.kinds.Judged.{Judged}
use Rattle.xt_frames.specs.declared.kinds.Judged.TheVariants as judged
use Rattle.xt_frames.specs.Frames.{FrameState}
use Rattle.xt_frames.specs.FrameStep.{FrameTurn}
use Rattle.xt_frames.specs.SaveAreas.{is_live}
use Rattle.xt_frames.specs.Breaches.{Bounds}
use Rattle.xt_frames.specs.Judging.{Standing, opening_standing, Seen, Handled, Judges, Breaks}
use Rattle.xt_frames.specs.Judging.{place_on, step_on, seen_record}
use Rattle.xt_frames.specs.declared.kinds.HandlerPhase.{HandlerPhase}
use Rattle.xt_frames.specs.declared.kinds.HandlerPhase.TheVariants.{Outside, InHandler, Nested}

-- ---- the walk

-- what the judge knows of both cores
pub record Known : Type 0 where
  pub standing0 : Standing
  pub standing1 : Standing
  pub stale : ℕ → Bool
  -- how many records of each core it has seen, and which were judged, with whether each is nested
  pub steps0 : ℕ
  pub steps1 : ℕ
  pub judged0 : List (Bool × StepRecord)
  pub judged1 : List (Bool × StepRecord)
  -- the accesses of the judged records with their replies, in order
  pub entries : List Entry

abbrev pub opening_known : FrameState → FrameState → Known
opening_known f0 f1 = record {
  standing0 = opening_standing f0;
  standing1 = opening_standing f1;
  stale = λ a. false;
  steps0 = 0;
  steps1 = 0;
  judged0 = [];
  judged1 = [];
  entries = [];
}

abbrev pub entry_of : ℕ → Option Access → ℕ → List Entry
entry_of core None reply = []
entry_of core (Some access) reply = record { core = core; access = access; reply = reply } ∷ []

-- what is known past a handler step
abbrev pub past_handled_0 : Standing → Known → Known
past_handled_0 standing k = record k { standing0 = standing; steps0 = suc k.steps0 }

abbrev pub past_handled_1 : Standing → Known → Known
past_handled_1 standing k = record k { standing1 = standing; steps1 = suc k.steps1 }

-- what is known past a judged step, which is nested in any phase but outside handler steps
abbrev pub is_nested : HandlerPhase → Bool
is_nested Outside = false
is_nested InHandler = true
is_nested Nested = true

abbrev pub past_judged_0 : Standing → (ℕ → Bool) → StepRecord → Known → Known
past_judged_0 standing stale rec k = record k {
  standing0 = standing;
  stale = stale;
  steps0 = suc k.steps0;
  judged0 = k.judged0 ++ (is_nested k.standing0.phase, rec) ∷ [];
  entries = k.entries ++ entry_of 0 rec.access rec.reply;
}

abbrev pub past_judged_1 : Standing → (ℕ → Bool) → StepRecord → Known → Known
past_judged_1 standing stale rec k = record k {
  standing1 = standing;
  stale = stale;
  steps1 = suc k.steps1;
  judged1 = k.judged1 ++ (is_nested k.standing1.phase, rec) ∷ [];
  entries = k.entries ++ entry_of 1 rec.access rec.reply;
}

-- the next record of a core, beside the live bytes of the other core
abbrev pub seen_0 : (ℕ → ℕ) → Bounds → Bounds → Known → StepRecord → Seen
seen_0 code b0 b1 k rec =
    seen_record code b0 k.standing0 (is_live b1.range k.standing1.frame) k.stale rec

abbrev pub seen_1 : (ℕ → ℕ) → Bounds → Bounds → Known → StepRecord → Seen
seen_1 code b0 b1 k rec =
    seen_record code b1 k.standing1 (is_live b0.range k.standing0.frame) k.stale rec

-- what is known at the first breach, or at the end, and the breach
pub record Judgement : Type 0 where
  pub known : Known
  pub breach : Option Breach

-- a breach carries the number of its record among all records of its core
abbrev pub passed_0 : Seen → Known → StepRecord → (Known → Judgement) → Judgement
passed_0 (Handled standing) k rec rest = rest (past_handled_0 standing k)
passed_0 (Judges standing stale) k rec rest = rest (past_judged_0 standing stale rec k)
passed_0 (Breaks kind) k rec rest =
    record { known = k; breach = Some (record { core = 0; step = k.steps0; kind = kind }) }

abbrev pub passed_1 : Seen → Known → StepRecord → (Known → Judgement) → Judgement
passed_1 (Handled standing) k rec rest = rest (past_handled_1 standing k)
passed_1 (Judges standing stale) k rec rest = rest (past_judged_1 standing stale rec k)
passed_1 (Breaks kind) k rec rest =
    record { known = k; breach = Some (record { core = 1; step = k.steps1; kind = kind }) }

-- The walk: for each number of the schedule the next record of that core. `xs` and `ys` are the
-- records of core 0 and core 1 that are left.
abbrev pub judgement :
    (ℕ → ℕ) → Bounds → Bounds → List ℕ → List StepRecord → List StepRecord → Known → Judgement
judgement code b0 b1 [] xs ys k = record { known = k; breach = None }
judgement code b0 b1 (zero ∷ cores) [] ys k = record { known = k; breach = None }
judgement code b0 b1 (zero ∷ cores) (x ∷ xs) ys k =
    passed_0 (seen_0 code b0 b1 k x) k x (λ n. judgement code b0 b1 cores xs ys n)
judgement code b0 b1 (suc core ∷ cores) xs [] k = record { known = k; breach = None }
judgement code b0 b1 (suc core ∷ cores) xs (y ∷ ys) k =
    passed_1 (seen_1 code b0 b1 k y) k y (λ n. judgement code b0 b1 cores xs ys n)

-- ---- the verdict

abbrev pub verdict_on : Option Breach → Judged
verdict_on None = judged.Whole
verdict_on (Some breach) = judged.Broken breach

-- `checked`: the six window handlers pass the check
abbrev pub verdict : Bool → Judgement → Judged
verdict checked j = if checked then verdict_on j.breach else judged.Unchecked

-- ---- a frame run

-- PC, kind, write and access of a record are those of its frame step
pub record IsStepOf (rec : StepRecord) (pc : ℕ) (u : FrameTurn) : Type 0 where
  pub place : rec.pc ≡ pc
  pub kind : rec.kind ≡ u.kind
  pub write : rec.write ≡ u.write
  pub access : rec.access ≡ u.access

-- the records are those of the frame machine's steps, on their own inputs
abbrev pub IsFrameTrace : (ℕ → ℕ) → FrameState → List (Bool × StepRecord) → Type 0
IsFrameTrace code f [] = Unit {0}
IsFrameTrace code f (r ∷ rest) =
    IsStepOf r.1 (place_on r.0 r.1 f) (step_on code r.0 r.1 f)
    × IsFrameTrace code (step_on code r.0 r.1 f).after rest

-- the judged records are those of both frame machines, and their accesses and replies, in order,
-- are a legal history
pub record IsFrameRun
    (code : ℕ → ℕ) (opening : MemoryContents) (f0 f1 : FrameState) (k : Known) : Type 0 where
  pub first : IsFrameTrace code f0 k.judged0
  pub second : IsFrameTrace code f1 k.judged1
  pub legal : IsLegal opening k.entries
