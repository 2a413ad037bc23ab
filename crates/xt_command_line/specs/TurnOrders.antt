-- The order of turns that the words ask for ('profile'). A text is the list of its bytes.
--
-- Note: `turns_in` says which text lists an order, `turns_asked` how many turns it asks for, and
-- `cores_of` the list of cores that it stands for, whose run `xt_machine` defines (`run_of_list`).
use Rattle.std.specs.Prelude.{ℕ, ◌+◌, Bool, true, ◌==◌, nat_le, List, [], ◌∷◌, ◌++◌, length}
use Rattle.std.specs.Prelude.{replicate, Option, Some, None, Result, Ok, Err, if◌then◌else◌}
use Rattle.std.specs.Prelude.{ok_or, option_map}
use Rattle.std.specs.List.{before_first, after_first}
use Rattle.clap.specs.Words.{Text}
use Rattle.xt_command_line.specs.Numbers.{number_of}
use Rattle.xt_command_line.specs.Parts.{parts_said}
use Rattle.xt_command_line.specs.declared.command.Refusal.{Refusal}
use Rattle.xt_command_line.specs.declared.command.Refusal.TheVariants as refusal
use Rattle.xt_command_line.specs.declared.turn_orders.CoreTurns.{CoreTurns}
use Rattle.xt_command_line.specs.declared.turn_orders.TurnOrder.{TurnOrder}
use Rattle.xt_command_line.specs.declared.turn_orders.TurnOrder.TheVariants as order
use Rattle.xt_command_line.specs.declared.turn_orders.Which.{Which}
use Rattle.xt_command_line.specs.declared.turn_orders.Which.TheVariants as which

-- ---- the order that a text lists: C*N,C*N,..

abbrev pub star : ℕ
star = 42

abbrev pub core_at : Option ℕ → Option Which
core_at None = None
core_at (Some n) =
    if n == 0 then Some which.Zero else if n == 1 then Some which.One else None

-- a core is any number of value 0 or 1
unfoldable pub core_of : Text → Option Which
core_of text = core_at (number_of text)

abbrev pub turns_by : Option Which → Option ℕ → Option CoreTurns
turns_by (Some core) (Some count) = Some (record { core = core; count = count })
turns_by _ _ = None

-- so many turns of a core: what stands before and after the first `*`
unfoldable pub turns_of : Text → Option CoreTurns
turns_of text =
    turns_by
    (core_of (before_first (λ b. b == star) text))
    (number_of (after_first (λ b. b == star) text))

-- the turns that a text of at most 65,536 bytes lists, with commas between them
unfoldable pub turns_in : Text → Option (List CoreTurns)
turns_in text = if nat_le (length text) 65536 then parts_said turns_of text else None

-- ---- the order that the words ask for

-- by the texts of `--seed` and `--order`, which do not stand together
abbrev pub order_in : Option Text → Option Text → Result TurnOrder Refusal
order_in None None = Ok order.Free
order_in (Some seed) None = ok_or (option_map order.Seeded (number_of seed)) (refusal.Usage 4)
order_in None (Some list) = ok_or (option_map order.Listed (turns_in list)) (refusal.Usage 4)
order_in (Some seed) (Some list) = Err (refusal.Usage 3)

-- ---- the turns that an order asks for

abbrev pub turns_asked : List CoreTurns → ℕ
turns_asked [] = 0
turns_asked (t ∷ ts) = t.count + turns_asked ts

-- at most as many as two cores can have
abbrev pub are_few : List CoreTurns → Bool
are_few turns = nat_le (turns_asked turns) 8000000

abbrev pub is_short : TurnOrder → Bool
is_short (order.Listed turns) = are_few turns
is_short _ = true

-- ---- the list of cores that it stands for

abbrev pub number_of_core : Which → ℕ
number_of_core which.Zero = 0
number_of_core which.One = 1

-- each turn by the core that makes it
abbrev pub cores_of : List CoreTurns → List ℕ
cores_of [] = []
cores_of (t ∷ ts) = replicate t.count (number_of_core t.core) ++ cores_of ts
