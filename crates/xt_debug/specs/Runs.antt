-- What running commands leaves ('profile').
use Rattle.std.specs.Prelude.{◌≡◌, ℕ, Bool, true, false, Option, Some, None, List, ◌++◌, Result, Ok}
use Rattle.std.specs.Prelude.{Err, take}
use Rattle.xt_trace.specs.declared.run.Run.{Run}
use Rattle.xt_image.specs.declared.image.Image.{Image}
use Rattle.xt_replay.specs.Shown.{ReplayState, replay_at}
use Rattle.xt_command_line.specs.declared.beyond.Beyond.{Beyond}
use Rattle.xt_command_line.specs.declared.beyond.Beyond.TheVariants.{GoesOn}
use Rattle.xt_debug.specs.declared.script.Command.{Command}
use Rattle.xt_debug.specs.declared.running.Printed.{Printed}
use Rattle.xt_debug.specs.Scripts.{Outcome, script_outcome}

-- it moved to this position, or there is none and nothing changed
abbrev pub Arrives : Option ℕ → ReplayState → Bool → ReplayState → Type 0
Arrives (Some q) old true new = new ≡ replay_at old q
Arrives None old false new = new ≡ old
Arrives _ old _ new = ⊥

-- a walk that is kept, if any is, is one of this run
abbrev pub IsOf : Option ReplayState → Image → Run → Type 0
IsOf None image r = Unit {0}
IsOf (Some w) image r = (w.image ≡ image) × (w.run ≡ r)

-- what was found, or else something else
abbrev pub or_else : Option ℕ → Option ℕ → Option ℕ
or_else None other = other
or_else (Some q) other = Some q

-- a command was run, and its text appended; the answer is whether it led beyond the run. Where memory
-- ran out, the position is as before.
abbrev pub Ran :
    {E : Type 0} → Outcome → ReplayState → List ℕ → Result Bool E → ReplayState → List ℕ → Type 0
Ran o old before (Ok beyond) new after =
    (after ≡ before ++ o.text) × (new ≡ replay_at old o.position) × (beyond ≡ o.beyond)
Ran o old before (Err e) new after = new ≡ old

-- a script was run; where memory ran out, the replay stands where some of the first commands leave
-- it
abbrev pub RanScript :
    {E : Type 0} → Beyond → List Command → ReplayState → Result Printed E → ReplayState → Type 0
RanScript b cs old (Ok printed) new =
    let o = script_outcome b old.image old.run cs old.position in
    (printed.text ≡ o.text) × (new ≡ replay_at old o.position) × (printed.beyond ≡ o.beyond)
RanScript b cs old (Err e) new =
    (k : ℕ)
    × (new ≡ replay_at old
    (script_outcome GoesOn old.image old.run (take k cs) old.position).position)
