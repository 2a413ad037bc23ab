-- Carries a proof; nothing that a reader must believe.
-- Both cores and memory of a run after its first entries.
use Rattle.std.specs.Prelude.{◌≡◌, ◌≢◌, ℕ, zero, suc, ◌+◌, ◌≤◌, ◌==◌, if◌then◌else◌, List, [], ◌∷◌, ◌++◌}
use Rattle.std.specs.Prelude.{length, take, drop, Some, None, Result, Ok, Err}
use Rattle.xt_map.specs.declared.access.Entry.{Entry}
use Rattle.xt_map.specs.Memory.{constant_byte}
use Rattle.xt_bus.specs.States.{memory_state}
use Rattle.xt_trace.specs.declared.options.Options.{Options}
use Rattle.xt_trace.specs.declared.run.Run.{Run}
use Rattle.xt_image.specs.declared.image.Image.{Image}
use Rattle.xt_trace.specs.Runs.{world_at_start}
use Rattle.xt_trace.specs.Schedule.{cores_of, schedule_from}
use Rattle.xt_trace.specs.Short.{ShortWorld, short_advance, short_world}
use Rattle.xt_exec.specs.Chips.{processor}
use Rattle.xt_exec.specs.State.{State}
use Rattle.xt_core.specs.Cores.{CoreState, trace_of}
use Rattle.xt_core.specs.Positions.{schedule_in}
use Rattle.xt_core.specs.Runs.{IsRunOf, code_of, memory_of, opening_of}
use Rattle.xt_record.specs.declared.fault.RecordFault.{RecordFault}
use Rattle.xt_record.specs.declared.fault.RecordFault.TheVariants as fault
use Rattle.xt_record.specs.declared.parts.Parts.{Parts}
use Rattle.xt_record.specs.declared.setting.Setting.{Setting}
use Rattle.xt_record.specs.declared.walk.Walk.{Walk}
use Rattle.xt_record.specs.declared.walk.Walked.{Walked}
use Rattle.xt_record.specs.Checkpoints.{checkpoints_of}
use Rattle.xt_record.specs.Fields.{behind_image, checkpoints_in, version}
use Rattle.xt_record.specs.Format.{recording_fault, run_with}
use Rattle.xt_image.specs.Findings.{first}
use Rattle.xt_record.specs.Rules.{Finding}
use Rattle.xt_record.specs.TurnRules.{first_difference, rest_finding, walk_finding}
use Rattle.xt_record.specs.Walking.{Ends, HasRoom, Takes, beside, line_at, points_along}

-- what both cores work on before the first entry
pub record StandsOpen (image : Image) (o : Options) (s : Setting) : Type 0 where
  pub code_is : s.code ≡ image.segments
  pub memory_is : s.memory ≡ memory_state (memory_of image o) (o.turns0 + o.turns1)
  pub points_are : s.points.items ≡ []

-- no access waits, and there is room for what the turns that are left send
pub record IsFreeAt (core0 core1 : CoreState) (s : Setting) : Type 0 where
  pub free0 : core0.waiting ≡ None
  pub free1 : core1.waiting ≡ None
  pub few : core0.count + core0.left + (core1.count + core1.left) ≤ 8000000
  pub room : HasRoom core0 core1 s.memory

abbrev pub IsFree : Walk → Type 0
IsFree w = IsFreeAt w.core0 w.core1 w.setting

-- ---- a walk after its first entries

abbrev pub opening_world : Image → Options → ShortWorld State
opening_world image o = short_world (world_at_start (opening_of image o))

-- the run that is walked
abbrev pub run_in : List Entry → Walk → Run
run_in es w = run_with w.image.now w.options es

-- the turns of the run's schedule from here on, where so many entries are past
abbrev pub order_left : Run → ℕ → CoreState → CoreState → List ℕ
order_left r i core0 core1 =
    schedule_from (cores_of (drop i r.history)) core0.count
    (drop (length core0.places) r.trace0.places) r.trace0.count
    core1.count (drop (length core1.places) r.trace1.places) r.trace1.count

pub record StandsAt
    (image : Image) (o : Options) (es : List Entry) (i : ℕ) (core0 core1 : CoreState)
    (s : Setting) : Type 0 where
  -- the turns so far
  pub list : List ℕ
  pub code_is : s.code ≡ image.segments
  pub world : beside 0 core0 core1 (line_at s.memory.contents (take i es))
      ≡ short_advance (processor (code_of image)) list (opening_world image o)
  pub counted : core0.count + core1.count ≡ length list
  pub grown : i ≤ length list
  pub points :
      s.points.items ≡ points_along (processor (code_of image)) (opening_world image o) list
  pub core0_is : core0.core ≡ 0
  pub core1_is : core1.core ≡ 1
  pub free : IsFreeAt core0 core1 s
  pub ordered :
      list ++ order_left (run_with image o es) i core0 core1 ≡ schedule_in (run_with image o es)

abbrev pub Stands : List Entry → ℕ → Walk → Type 0
Stands es i w = StandsAt w.image.now w.options es i w.core0 w.core1 w.setting

-- ---- one entry more

pub record IsSame (w v : Walk) : Type 0 where
  pub image_is : v.image.now ≡ w.image.now
  pub options_are : v.options ≡ w.options

-- the core of this number takes the entry, and the other stays
abbrev pub TakesAt : Result Unit RecordFault → ℕ → Walk → Walk → ℕ → Entry → Type 0
TakesAt result zero w v index e =
    Takes result (constant_byte w.setting.code) 0 w.core0 w.core1 v.core0 w.setting v.setting index
    e
    × (v.core1 ≡ w.core1) × IsSame w v
TakesAt result (suc c) w v index e =
    Takes result (constant_byte w.setting.code) 1 w.core1 w.core0 v.core1 w.setting v.setting index
    e
    × (v.core0 ≡ w.core0) × IsSame w v

-- all entries are taken, or this is the first finding
abbrev pub WentThrough : Result Unit RecordFault → List Entry → Walk → Walk → Type 0
WentThrough (Ok _) es w v =
    (walk_finding w.image.now (run_in es w) 0 es ≡ None) × Stands es (length es) v × IsSame w v
WentThrough (Err e) es w v = e ≢ fault.Memory → walk_finding w.image.now (run_in es w) 0 es ≡ Some e

-- ---- the end

abbrev pub EndsAt : Result Unit RecordFault → ℕ → Walk → Walk → ℕ → Type 0
EndsAt result zero w v entries =
    Ends result (constant_byte w.setting.code) 0 w.core0 w.core1 v.core0 w.setting v.setting entries
    × (v.core1 ≡ w.core1) × IsSame w v
EndsAt result (suc c) w v entries =
    Ends result (constant_byte w.setting.code) 1 w.core1 w.core0 v.core1 w.setting v.setting entries
    × (v.core0 ≡ w.core0) × IsSame w v

-- the findings of a run's turns
abbrev pub turn_rules : Image → Run → List Finding
turn_rules image r =
    walk_finding image r 0 r.history ∷ rest_finding image r 0 ∷ rest_finding image r 1 ∷ []

pub record IsWalked (walked : Walked) (image : Image) (r : Run) : Type 0 where
  pub good : first (turn_rules image r) ≡ None
  pub trace0_is : walked.trace0 ≡ r.trace0
  pub trace1_is : walked.trace1 ≡ r.trace1
  pub run_is : IsRunOf image r
  pub points_are : walked.points.items ≡ checkpoints_of image r
  pub few_entries : length r.history ≤ 8000000
  pub few_points : length walked.points.items ≤ 8000000

abbrev pub Walks : Result Walked RecordFault → Image → Options → List Entry → Type 0
Walks (Ok walked) image o es = IsWalked walked image (run_with image o es)
Walks (Err e) image o es =
    e ≢ fault.Memory → first (turn_rules image (run_with image o es)) ≡ Some e

-- the core has no turn left, and no access waits
abbrev pub HasStopped : CoreState → Type 0
HasStopped k = (k.left ≡ 0) × (k.waiting ≡ None)

-- all turns are made, to these traces and checkpoints, or this is the first finding
abbrev pub WentOn : Result Unit RecordFault → List Entry → Walk → Walk → Type 0
WentOn (Ok _) es w v =
    HasStopped v.core0 × HasStopped v.core1
    × ((walked : Walked) → walked.trace0 ≡ trace_of v.core0 → walked.trace1 ≡ trace_of v.core1
    → walked.points.items ≡ v.setting.points.items → IsWalked walked w.image.now (run_in es w))
WentOn (Err e) es w v = Walks (Err e) w.image.now w.options es

-- the run of the parts, made again, or the first rule that its turns or its checkpoints break
abbrev pub ReadsRun : Result Walked RecordFault → Parts → List ℕ → Type 0
ReadsRun (Ok walked) parts bytes =
    IsWalked walked parts.image (run_with parts.image parts.options parts.entries.items)
    × (None ≡ (if version bytes == 1 then None
    else first_difference (checkpoints_in (behind_image bytes)) walked.points.items))
ReadsRun (Err e) parts bytes = e ≢ fault.Memory → recording_fault bytes ≡ Some e
