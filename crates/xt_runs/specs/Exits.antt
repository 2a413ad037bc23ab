-- How the cores of a run end, and the line of the first one that does not end as a program in C does
-- that returned 0: by `break 1, 15` with 0 in a2 ('profile').
use Rattle.std.specs.Prelude.{ℕ, nat_lt, Bool, false, ◌==◌, ◌&&◌, if◌then◌else◌, Option, Some, None}
use Rattle.std.specs.Prelude.{List, [], ◌∷◌, ◌++◌, codes}
use Rattle.std.specs.List.{concat}
use Rattle.std.specs.Option.{option_or}
use Rattle.std.specs.Fmt.{decimal}
use Rattle.xt_word.specs.Hexadecimal.{hex8}
use Rattle.xt_isa.specs.declared.Insn.{Insn}
use Rattle.xt_isa.specs.declared.Insn.TheVariants as insn
use Rattle.xt_isa.specs.declared.system.System.TheVariants as system
use Rattle.xt_isa.specs.declared.system.TrapName.TheVariants as TrapName
use Rattle.xt_window.specs.Ring.{visible}
use Rattle.xt_image.specs.declared.image.Image.{Image}
use Rattle.xt_map.specs.Fetching.{Fetched, Fetches, fetch_at}
use Rattle.xt_trace.specs.declared.run.Run.{Run}
use Rattle.xt_trace.specs.declared.trace.Stop.{Stop}
use Rattle.xt_trace.specs.declared.trace.Stop.TheVariants as stop
use Rattle.xt_rows.specs.Numbers.{natural}
use Rattle.xt_exec.specs.State.{State}
use Rattle.xt_core.specs.Runs.{code_of}
use Rattle.xt_replay.specs.Shown.{state_in}
use Rattle.xt_runs.specs.Memory.{shown_last}

-- ---- without a BREAK

-- a core that had turns ended without a BREAK
abbrev pub is_used_up : ℕ → Stop → Bool
is_used_up turns stop.Break = false
is_used_up turns stop.Turns = nat_lt 0 turns

-- `core C stop turns`
abbrev pub stop_line : ℕ → List ℕ
stop_line core = codes "core " ++ decimal core ++ codes " stop turns\n"

-- ---- at a BREAK

-- `break 1, 15`
unfoldable pub is_exit : Insn → Bool
is_exit (insn.System (system.Trap TrapName.Break level number)) =
    natural level == 1 && natural number == 15
is_exit _ = false

abbrev pub is_exit_at : Fetched → Bool
is_exit_at (Fetches i len) = is_exit i
is_exit_at _ = false

-- `core C stop break pc ADDR`
abbrev pub break_line : ℕ → ℕ → List ℕ
break_line core pc =
    concat (codes "core " ∷ decimal core ∷ codes " stop break pc " ∷ hex8 pc ∷ codes "\n" ∷ [])

-- `core C a2 VALUE`
abbrev pub value_line : ℕ → ℕ → List ℕ
value_line core value =
    concat (codes "core " ∷ decimal core ∷ codes " a2 " ∷ hex8 value ∷ codes "\n" ∷ [])

-- a core that stands at a BREAK
abbrev pub unmet_at : ℕ → Bool → ℕ → ℕ → Option (List ℕ)
unmet_at core exits pc value =
    if exits then (if value == 0 then None else Some (value_line core value))
    else Some (break_line core pc)

-- in this state
abbrev pub unmet_in_state : ℕ → (ℕ → ℕ) → State → Option (List ℕ)
unmet_in_state core code s =
    let pc = s.control.pc in
    unmet_at core (is_exit_at (fetch_at code pc)) pc (visible s.regs s.base 2)

-- ---- both cores

-- a core that has no turns need not end
abbrev pub unmet_of_core : ℕ → ℕ → Stop → Option (List ℕ) → Option (List ℕ)
unmet_of_core core turns stop.Break broken = broken
unmet_of_core core turns stop.Turns broken =
    if nat_lt 0 turns then Some (stop_line core) else None

-- the state in which the run leaves a core
abbrev pub last_state : ℕ → Image → Run → State
last_state core image r = state_in core (shown_last image r)

abbrev pub unmet_exit : Image → Run → Option (List ℕ)
unmet_exit image r =
    option_or
    (unmet_of_core 0 r.options.turns0 r.trace0.stop
    (unmet_in_state 0 (code_of image) (last_state 0 image r)))
    (unmet_of_core 1 r.options.turns1 r.trace1.stop
    (unmet_in_state 1 (code_of image) (last_state 1 image r)))
