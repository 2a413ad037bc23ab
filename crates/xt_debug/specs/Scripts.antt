-- What a script prints, and where it leaves a replay ('profile').
use Rattle.std.specs.Prelude.{ℕ, ◌+◌, ◌-◌, nat_le, Bool, true, false, if◌then◌else◌, Option, Some}
use Rattle.std.specs.Prelude.{None, List, [], ◌∷◌}
use Rattle.std.specs.Prelude.{◌++◌}
use Rattle.xt_trace.specs.declared.run.Run.{Run}
use Rattle.xt_image.specs.declared.image.Image.{Image}
use Rattle.xt_replay.specs.Shown.{Shown, byte_in, shown_at, state_in, step_in}
use Rattle.xt_events.specs.Events.{events_text}
use Rattle.xt_events.specs.Lines.{turns_text}
use Rattle.xt_command_line.specs.declared.beyond.Beyond.{Beyond}
use Rattle.xt_command_line.specs.declared.beyond.Beyond.TheVariants as beyond
use Rattle.xt_debug.specs.declared.script.Command.{Command}
use Rattle.xt_debug.specs.declared.script.Command.TheVariants as command
use Rattle.xt_debug.specs.Calls.{calls_text, stack_end}
use Rattle.xt_debug.specs.Depths.{depth_at, frame_at}
use Rattle.xt_debug.specs.Printed.{frames_text, none_found, past_end, regs_text, ring_text}
use Rattle.xt_debug.specs.Printed.{special_text}
use Rattle.xt_replay.specs.Printed.{mem_text, words_text}
use Rattle.xt_debug.specs.Searches.{end_of, next_position, prior_position, step_position, within}

-- the text that was printed, the position at which the replay stands then, and whether a command led
-- beyond the run
pub record Outcome : Type 0 where
  pub text : List ℕ
  pub position : ℕ
  pub beyond : Bool

-- a command that looks for a position, moves there and prints nothing; or prints that there is none
-- and moves nowhere
abbrev pub finds : Option ℕ → ℕ → Outcome
finds None p = record { text = none_found; position = p; beyond = false }
finds (Some q) p = record { text = []; position = q; beyond = false }

-- a command that moves to a position and prints a text; or leads beyond the run, prints so, and moves
-- nowhere
abbrev pub shows : Option ℕ → List ℕ → ℕ → Outcome
shows None text p = record { text = past_end; position = p; beyond = true }
shows (Some q) text p = record { text = text; position = q; beyond = false }

-- the same of a command that prints nothing where it moves
abbrev pub moves : Option ℕ → ℕ → Outcome
moves found p = shows found [] p

-- a command that prints and moves nowhere
abbrev pub prints : List ℕ → ℕ → Outcome
prints text p = record { text = text; position = p; beyond = false }

abbrev pub regs_shown : ℕ → Shown → List ℕ
regs_shown core s = regs_text core (step_in core s) (state_in core s)

abbrev pub position_back : Run → ℕ → ℕ → Option ℕ
position_back r p n = if nat_le n p then within r (p - n) else None

-- a command at a position
abbrev pub outcome : Image → Run → Command → ℕ → Outcome
outcome image r (command.Go core step) p = moves (step_position r core step) p
outcome image r command.End p = moves (Some (end_of r)) p
outcome image r (command.Next n) p = moves (within r (p + n)) p
outcome image r (command.Back n) p = moves (position_back r p n) p
outcome image r (command.Ahead t) p = finds (next_position image r t p) p
outcome image r (command.Behind t) p = finds (prior_position image r t p) p
outcome image r (command.Trace n) p = shows (within r (p + n)) (turns_text image r p (p + n)) p
outcome image r (command.Regs core) p = prints (regs_shown core (shown_at image r p)) p
outcome image r (command.Ring core) p =
    prints (ring_text core (state_in core (shown_at image r p))) p
outcome image r (command.Special core) p =
    prints (special_text core (state_in core (shown_at image r p))) p
outcome image r (command.Mem addr n) p =
    prints (mem_text (λ a. byte_in a (shown_at image r p)) addr n) p
outcome image r (command.Words addr n) p =
    prints (words_text (λ a. byte_in a (shown_at image r p)) addr n) p
outcome image r (command.Frames core) p = prints (frames_text core (depth_at image r core p)) p
outcome image r (command.Calls core) p =
    prints (calls_text core (stack_end core r) (frame_at image r core p)) p
outcome image r command.Events p = prints (events_text image r) p

-- a command, and then what comes after it
abbrev pub after : Outcome → Outcome → Outcome
after here rest = record {
  text = here.text ++ rest.text;
  position = rest.position;
  beyond = rest.beyond;
}

-- a script ends at a command that leads beyond the run
abbrev pub stops : Beyond → Outcome → Bool
stops beyond.Ends here = here.beyond
stops beyond.GoesOn here = false

-- one command after another
abbrev pub script_outcome : Beyond → Image → Run → List Command → ℕ → Outcome
script_outcome b image r [] p = record { text = []; position = p; beyond = false }
script_outcome b image r (c ∷ cs) p =
    let here = outcome image r c p in
    if stops b here then here else after here (script_outcome b image r cs here.position)
