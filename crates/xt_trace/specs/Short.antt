-- Traces that are not kept whole: a count and the places of the accesses stand for
-- the records ('profile').
use Rattle.std.specs.Prelude.{◌≡◌, ℕ, zero, suc, ◌+◌, ◌<◌, ◌≤◌, Bool, ◌||◌, List, [], ◌∷◌, ◌++◌}
use Rattle.std.specs.Prelude.{length}
use Rattle.xt_map.specs.declared.access.Entry.{Entry}
use Rattle.xt_map.specs.History.{IsLegal, IsOfCores}
use Rattle.xt_trace.specs.Chip.{Chip}
use Rattle.xt_trace.specs.Traces.{Traced, trace_over, has_stopped, stop_of}
use Rattle.xt_trace.specs.Calls.{calls_in, is_stop}
use Rattle.xt_trace.specs.declared.trace.Stop.{Stop}
use Rattle.xt_map.specs.History.{calls_of, replies_of}
use Rattle.xt_trace.specs.Schedule.{place_before, places_from, cores_of}
use Rattle.xt_trace.specs.Worlds.{Core, Line, World, line_given, left_past, answer}
use Rattle.xt_trace.specs.Schedule.{schedule}
use Rattle.xt_trace.specs.Runs.{Opening, Run}

-- what is kept of a trace
pub record ShortTrace (S : Type 0) : Type 0 where
  pub count : ℕ
  pub places : List ℕ
  pub stop : Stop
  pub last : S

abbrev pub short_trace : {S : Type 0} → Traced S → ShortTrace S
short_trace z = record {
  count = length z.records;
  places = places_from 0 z.records;
  stop = stop_of z.records;
  last = z.last;
}

pub record ShortRun (S : Type 0) : Type 0 where
  pub history : List Entry
  pub trace0 : ShortTrace S
  pub trace1 : ShortTrace S

abbrev pub short_run : {S : Type 0} → Run S → ShortRun S
short_run r =
    record { history = r.history; trace0 = short_trace r.trace0; trace1 = short_trace r.trace1 }

-- a run of an opening: each trace stands for the trace over its core's replies, whose
-- calls are the core's own
pub record IsShortRunOf {S : Type 0} (P : Chip S) (o : Opening S) (r : ShortRun S) : Type 0 where
  pub legal : IsLegal o.memory r.history
  pub cores : IsOfCores r.history
  pub trace0 : r.trace0 ≡ short_trace (trace_over P o.state0 o.turns0 (replies_of 0 r.history))
  pub trace1 : r.trace1 ≡ short_trace (trace_over P o.state1 o.turns1 (replies_of 1 r.history))
  pub calls0 : calls_of 0 r.history
      ≡ calls_in (trace_over P o.state0 o.turns0 (replies_of 0 r.history)).records
  pub calls1 : calls_of 1 r.history
      ≡ calls_in (trace_over P o.state1 o.turns1 (replies_of 1 r.history)).records

abbrev pub short_schedule : {S : Type 0} → ShortRun S → List ℕ
short_schedule r =
    schedule (cores_of r.history) r.trace0.places r.trace0.count r.trace1.places r.trace1.count

-- a core that keeps no records
pub record ShortCore (S : Type 0) : Type 0 where
  pub state : S
  pub left : ℕ
  pub count : ℕ
  pub places : List ℕ
  -- it has come to a Stop
  pub stopped : Bool

abbrev pub short_core : {S : Type 0} → Core S → ShortCore S
short_core k =
    record {
      state = k.state;
      left = k.left;
      count = length k.records;
      places = places_from 0 k.records;
      stopped = has_stopped k.records;
    }

abbrev pub short_past : {S : Type 0} (P : Chip S) → ShortCore S → ℕ → ℕ → ShortCore S
short_past P k n reply =
    let t = P.turn k.state reply in
    record {
      state = t.1;
      left = left_past t.0 n;
      count = k.count + 1;
      places = k.places ++ place_before t.0.access k.count [];
      stopped = k.stopped || is_stop t.0.kind;
    }

abbrev pub short_given : {S : Type 0} (P : Chip S) → ℕ → ShortCore S → Line → ShortCore S
short_given P zero k b = k
short_given P (suc n) k b = short_past P k n (answer (P.demand k.state) b.memory)

abbrev pub short_line : {S : Type 0} (P : Chip S) → ℕ → ℕ → S → Line → Line
short_line P c n s b = line_given P c n (record { state = s; left = n; records = [] }) b

pub record ShortWorld (S : Type 0) : Type 0 where
  pub line : Line
  pub core0 : ShortCore S
  pub core1 : ShortCore S

abbrev pub short_world : {S : Type 0} → World S → ShortWorld S
short_world w = record { line = w.line; core0 = short_core w.core0; core1 = short_core w.core1 }

abbrev pub short_give : {S : Type 0} (P : Chip S) → ℕ → ShortWorld S → ShortWorld S
short_give P zero w =
    record {
      line = short_line P 0 w.core0.left w.core0.state w.line;
      core0 = short_given P w.core0.left w.core0 w.line;
      core1 = w.core1;
    }
short_give P (suc c) w =
    record {
      line = short_line P 1 w.core1.left w.core1.state w.line;
      core0 = w.core0;
      core1 = short_given P w.core1.left w.core1 w.line;
    }

abbrev pub short_advance : {S : Type 0} (P : Chip S) → List ℕ → ShortWorld S → ShortWorld S
short_advance P [] w = w
short_advance P (c ∷ cs) w = short_advance P cs (short_give P c w)

-- these numbers rise, from i at least to below n
abbrev pub IsRising : ℕ → List ℕ → ℕ → Type 0
IsRising i [] n = Unit {0}
IsRising i (p ∷ ps) n = (i ≤ p) × (p < n) × IsRising (suc p) ps n
