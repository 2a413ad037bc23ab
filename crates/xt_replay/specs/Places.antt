-- Where the steps of a core stand in the schedule of a run ('profile').
--
-- Profile: a position is a number of turns of the schedule; `position_of` is the one just before a
-- core's turn, and for the length of its trace the one just after its last turn (0 for an empty
-- trace).
use Rattle.std.specs.Prelude.{ℕ, zero, suc, ◌==◌, nat_lt, if◌then◌else◌, List, [], ◌∷◌}
use Rattle.xt_trace.specs.declared.run.Run.{Run}
use Rattle.xt_trace.specs.declared.trace.Trace.{Trace}
use Rattle.xt_core.specs.Positions.{schedule_in}

-- the trace of a core
abbrev pub trace_in : ℕ → Run → Trace
trace_in zero r = r.trace0
trace_in (suc c) r = r.trace1

-- The place in a list of cores at which the core's number stands that so many of its numbers come
-- before; the list's length where there is none.
abbrev pub place_of : ℕ → ℕ → List ℕ → ℕ
place_of core step [] = 0
place_of core zero (c ∷ cs) = if c == core then 0 else suc (place_of core zero cs)
place_of core (suc k) (c ∷ cs) =
    if c == core then suc (place_of core k cs) else suc (place_of core (suc k) cs)

-- the place directly after the core's last number, where the list has so many of
-- them; 0 where it has none
abbrev pub place_behind : ℕ → ℕ → List ℕ → ℕ
place_behind core zero cs = 0
place_behind core (suc k) cs = suc (place_of core k cs)

-- The position directly before a core's step with this number. Where the number is the
-- length of the core's trace it is the position directly after that core's last step, and 0
-- where the trace is empty.
abbrev pub position_of : ℕ → ℕ → Run → ℕ
position_of core step r =
    if nat_lt step (trace_in core r).count then place_of core step (schedule_in r)
    else place_behind core step (schedule_in r)
