-- What happened to a core: how often each kind of turn came, and when first ('profile').
--
-- Profile: a kind of turn is the words of the trace line for it, with their number: `exc 3` and
-- `exc 9` are two kinds. Kinds stand in the order of their first turns, since the first cause is
-- what a reader looks for.
use Rattle.std.specs.Prelude.{ℕ, suc, Bool, true, false, ◌==◌, if◌then◌else◌, List, [], ◌∷◌, ◌++◌}
use Rattle.std.specs.Prelude.{codes}
use Rattle.std.specs.Fmt.{decimal}
use Rattle.std.specs.List.{flat_map}
use Rattle.xt_word.specs.Hexadecimal.{hex8}
use Rattle.xt_trace.specs.declared.record.StepKind.{StepKind}
use Rattle.xt_trace.specs.declared.record.StepKind.TheVariants.{Insn, Window, Exc, Interrupt, Wait}
use Rattle.xt_trace.specs.declared.record.StepKind.TheVariants.{Stop}
use Rattle.xt_trace.specs.declared.record.StepRecord.{StepRecord}
use Rattle.xt_trace.specs.declared.run.Run.{Run}
use Rattle.xt_trace.specs.Lines.{kind_text}
use Rattle.xt_image.specs.declared.image.Image.{Image}
use Rattle.xt_core.specs.Runs.{records_of}
use Rattle.xt_events.specs.declared.event.Event.{Event}

-- ---- kinds of turns

-- two turns are of one kind: of the same vector, cause or level, where they have one
abbrev pub same_kind : StepKind → StepKind → Bool
same_kind Insn Insn = true
same_kind (Window x) (Window y) = x == y
same_kind (Exc x) (Exc y) = x == y
same_kind (Interrupt x) (Interrupt y) = x == y
same_kind Wait Wait = true
same_kind Stop Stop = true
same_kind _ _ = false

-- how many of the records are of a kind
abbrev pub times_in : StepKind → List StepRecord → ℕ
times_in kind [] = 0
times_in kind (r ∷ rest) =
    if same_kind kind r.kind then suc (times_in kind rest) else times_in kind rest

-- those of other kinds
abbrev pub others : StepKind → List Event → List Event
others kind [] = []
others kind (e ∷ rest) = if same_kind kind e.kind then others kind rest else e ∷ others kind rest

-- Of records, the first of which has this number, each kind once, in the order of the first turns:
-- how many records are of it, the number of the first of them, and its program counter.
abbrev pub events_from : ℕ → List StepRecord → List Event
events_from i [] = []
events_from i (r ∷ rest) =
    record { kind = r.kind; times = suc (times_in r.kind rest); first = i; pc = r.pc }
    ∷ others r.kind (events_from (suc i) rest)

abbrev pub events_in : List StepRecord → List Event
events_in records = events_from 0 records

-- ---- as text

-- `core C KIND times N first K pc ADDR`
unfoldable pub event_line : ℕ → Event → List ℕ
event_line core e =
    codes "core " ++ decimal core ++ codes " " ++ kind_text e.kind
    ++ codes " times " ++ decimal e.times ++ codes " first " ++ decimal e.first
    ++ codes " pc " ++ hex8 e.pc ++ codes "\n"

-- the lines of a core, over the records of its turns
abbrev pub core_text : ℕ → Image → Run → List ℕ
core_text core image run =
    flat_map (event_line core) (events_in (records_of core image run).records)

-- the lines of core 0, and then those of core 1
unfoldable pub events_text : Image → Run → List ℕ
events_text image run = core_text 0 image run ++ core_text 1 image run
