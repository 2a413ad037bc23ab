-- Two cores and a bus, and what one turn of a core does ('profile').
use Rattle.std.specs.Prelude.{ℕ, zero, suc, Option, Some, None, if◌then◌else◌, List, [], ◌∷◌, ◌++◌}
use Rattle.std.specs.Prelude.{replicate}
use Rattle.xt_map.specs.declared.access.Access.{Access}
use Rattle.xt_map.specs.declared.access.Entry.{Entry}
use Rattle.xt_map.specs.declared.contents.MemoryContents.{MemoryContents}
use Rattle.xt_map.specs.Serving.{memory_past, reply_to}
use Rattle.xt_trace.specs.declared.record.StepRecord.{StepRecord}
use Rattle.xt_trace.specs.Chip.{Chip}
use Rattle.xt_trace.specs.Calls.{is_stop}
use Rattle.xt_trace.specs.Traces.{trace_over}

-- what the bus answers to a turn that may ask, and what memory is afterwards
abbrev pub answer : Option Access → MemoryContents → ℕ
answer None m = 0
answer (Some a) m = reply_to m a

abbrev pub memory_left : Option Access → MemoryContents → MemoryContents
memory_left None m = m
memory_left (Some a) m = memory_past m a

-- a core: its state, the turns that it has left (none after a Stop), and its records so far
pub record Core (S : Type 0) : Type 0 where
  pub state : S
  pub left : ℕ
  pub records : List StepRecord

-- the bus: its memory, and the accesses that it has served
pub record Line : Type 0 where
  pub memory : MemoryContents
  pub history : List Entry

-- both cores and the bus
pub record World (S : Type 0) : Type 0 where
  pub line : Line
  pub core0 : Core S
  pub core1 : Core S

-- an access of core c with its reply, as an entry of the history
abbrev pub entry : ℕ → Access → ℕ → Entry
entry c a reply = record { core = c; access = a; reply = reply }

-- the bus after a turn of core c that may ask
abbrev pub line_past : ℕ → Option Access → Line → Line
line_past c None b = b
line_past c (Some a) b = record {
  memory = memory_past b.memory a;
  history = b.history ++ entry c a (reply_to b.memory a) ∷ [];
}

-- the turns that are left after this record, where it took one of so many more
abbrev pub left_past : StepRecord → ℕ → ℕ
left_past x n = if is_stop x.kind then 0 else n

-- a core after one turn with this reply, with so many turns left after it
abbrev pub core_past : {S : Type 0} (P : Chip S) → Core S → ℕ → ℕ → Core S
core_past P k n reply =
    let t = P.turn k.state reply in
    record { state = t.1; left = left_past t.0 n; records = k.records ++ t.0 ∷ [] }

-- one turn of core c, which has so many turns left, on the bus
abbrev pub line_given : {S : Type 0} (P : Chip S) → ℕ → ℕ → Core S → Line → Line
line_given P c zero k b = b
line_given P c (suc n) k b = line_past c (P.demand k.state) b

abbrev pub core_given : {S : Type 0} (P : Chip S) → ℕ → Core S → Line → Core S
core_given P zero k b = k
core_given P (suc n) k b = core_past P k n (answer (P.demand k.state) b.memory)

-- one turn of a core, or nothing where it has ended
abbrev pub give : {S : Type 0} (P : Chip S) → ℕ → World S → World S
give P zero w =
    record {
      line = line_given P 0 w.core0.left w.core0 w.line;
      core0 = core_given P w.core0.left w.core0 w.line;
      core1 = w.core1;
    }
give P (suc c) w =
    record {
      line = line_given P 1 w.core1.left w.core1 w.line;
      core0 = w.core0;
      core1 = core_given P w.core1.left w.core1 w.line;
    }

-- the turns of a list, in order
abbrev pub advance : {S : Type 0} (P : Chip S) → List ℕ → World S → World S
advance P [] w = w
advance P (c ∷ cs) w = advance P cs (give P c w)

-- the turns that are left: core 0's, then core 1's
abbrev pub rest_of : {S : Type 0} → World S → List ℕ
rest_of w = replicate w.core0.left 0 ++ replicate w.core1.left 1

abbrev pub finished_world : {S : Type 0} (P : Chip S) → World S → World S
finished_world P w = advance P (rest_of w) w

-- the core run to its end over these replies
abbrev pub finished_core : {S : Type 0} (P : Chip S) → Core S → List ℕ → Core S
finished_core P k rs =
    let z = trace_over P k.state k.left rs in
    record { state = z.last; left = 0; records = k.records ++ z.records }
