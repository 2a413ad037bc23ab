-- The grammar of scripts, and which script a text is ('profile'). A text is the list of its bytes.
--
-- Note: an empty text is the empty script, but an empty command between two semicolons is none.
use Rattle.std.specs.Prelude.{ℕ, ◌<◌, ◌≤◌, ◌==◌, nat_lt, nat_le, if◌then◌else◌, Option, Some, None}
use Rattle.std.specs.Prelude.{List, [], ◌∷◌, length, filter, codes}
use Rattle.std.specs.List.{list_all, slice_split}
use Rattle.std.specs.Option.{option_map}
use Rattle.std.specs.Str.{bytes_eq}
use Rattle.xt_command_line.specs.Numbers.{number_of}
use Rattle.xt_command_line.specs.Parts.{all_said, passing}
use Rattle.xt_command_line.specs.Roots.{roots_of}
use Rattle.xt_debug.specs.declared.script.Command.{Command}
use Rattle.xt_debug.specs.declared.script.Command.TheVariants as command
use Rattle.xt_debug.specs.declared.targets.Breakpoint.{Breakpoint}
use Rattle.xt_debug.specs.declared.targets.Target.{Target}
use Rattle.xt_debug.specs.declared.targets.Target.TheVariants as target

-- ---- operands

-- a core is any number of value 0 or 1
unfoldable pub core_of : List ℕ → Option ℕ
core_of word = passing (λ n. nat_le n 1) (number_of word)

-- the most bytes that `mem` prints, and words that `words` does
abbrev pub most_shown : ℕ
most_shown = 64

unfoldable pub count_of : List ℕ → Option ℕ
count_of word = passing (λ n. nat_le n most_shown) (number_of word)

-- ---- commands

abbrev pub with_both : {B C : Type 0} → (ℕ → B → C) → Option ℕ → Option B → Option C
with_both make (Some a) (Some b) = Some (make a b)
with_both make _ _ = None

-- a command without an operand
unfoldable pub command_of_none : List ℕ → Option Command
command_of_none name =
    if bytes_eq name (codes "end") then Some command.End
    else if bytes_eq name (codes "events") then Some command.Events
    else None

-- `watch ADDR`, and `last ADDR`
abbrev pub store_ahead : ℕ → Command
store_ahead addr = command.Ahead (target.Store addr)

abbrev pub store_behind : ℕ → Command
store_behind addr = command.Behind (target.Store addr)

-- a command with one operand
unfoldable pub command_of_one : List ℕ → List ℕ → Option Command
command_of_one name word =
    if bytes_eq name (codes "next") then option_map command.Next (number_of word)
    else if bytes_eq name (codes "back") then option_map command.Back (number_of word)
    else if bytes_eq name (codes "watch") then option_map store_ahead (number_of word)
    else if bytes_eq name (codes "last") then option_map store_behind (number_of word)
    else if bytes_eq name (codes "trace") then option_map command.Trace (number_of word)
    else if bytes_eq name (codes "regs") then option_map command.Regs (core_of word)
    else if bytes_eq name (codes "ring") then option_map command.Ring (core_of word)
    else if bytes_eq name (codes "special") then option_map command.Special (core_of word)
    else if bytes_eq name (codes "frames") then option_map command.Frames (core_of word)
    else if bytes_eq name (codes "calls") then option_map command.Calls (core_of word)
    else None

-- a core, and addresses with commas between them
unfoldable pub breakpoint_of : List ℕ → List ℕ → Option Breakpoint
breakpoint_of core addresses =
    with_both (λ c list. record { core = c; addresses = list }) (core_of core) (roots_of addresses)

-- `break C ADDR,..`, and `prior C ADDR,..`
abbrev pub execution_ahead : Breakpoint → Command
execution_ahead b = command.Ahead (target.Execution b)

abbrev pub execution_behind : Breakpoint → Command
execution_behind b = command.Behind (target.Execution b)

-- a command with two numbers
unfoldable pub command_of_numbers : List ℕ → List ℕ → List ℕ → Option Command
command_of_numbers name first second =
    if bytes_eq name (codes "go") then with_both command.Go (core_of first) (number_of second)
    else if bytes_eq name (codes "mem") then
    with_both command.Mem (number_of first) (count_of second)
    else if bytes_eq name (codes "words") then
    with_both command.Words (number_of first) (count_of second)
    else None

-- a command with two operands
unfoldable pub command_of_two : List ℕ → List ℕ → List ℕ → Option Command
command_of_two name first second =
    if bytes_eq name (codes "break") then
    option_map execution_ahead (breakpoint_of first second)
    else if bytes_eq name (codes "prior") then
    option_map execution_behind (breakpoint_of first second)
    else command_of_numbers name first second

abbrev pub command_of_words : List (List ℕ) → Option Command
command_of_words (name ∷ []) = command_of_none name
command_of_words (name ∷ word ∷ []) = command_of_one name word
command_of_words (name ∷ first ∷ second ∷ []) = command_of_two name first second
command_of_words _ = None

-- ---- texts

-- the words of a text: what stands between spaces
abbrev pub words_of : List ℕ → List (List ℕ)
words_of text = filter (λ word. nat_lt 0 (length word)) (slice_split (λ byte. byte == 32) text)

-- the commands of these texts, where each is one
abbrev pub commands_of : List (List ℕ) → Option (List Command)
commands_of texts = all_said (λ text. command_of_words (words_of text)) texts

-- The script that a text is: no command in a text of no bytes but spaces; else each part between
-- semicolons is a command.
unfoldable pub script_of : List ℕ → Option (List Command)
script_of text =
    if list_all (λ byte. byte == 32) text then Some []
    else commands_of (slice_split (λ byte. byte == 59) text)

-- ---- commands that can be run

-- the core, if it names one, is 0 or 1
abbrev pub HasCore : Target → Type 0
HasCore (target.Execution b) = b.core < 2
HasCore (target.Store addr) = Unit {0}

-- the core is 0 or 1, and not too many bytes or words are printed
abbrev pub IsInRange : Command → Type 0
IsInRange (command.Go c n) = c < 2
IsInRange (command.Ahead t) = HasCore t
IsInRange (command.Behind t) = HasCore t
IsInRange (command.Regs c) = c < 2
IsInRange (command.Ring c) = c < 2
IsInRange (command.Special c) = c < 2
IsInRange (command.Frames c) = c < 2
IsInRange (command.Calls c) = c < 2
IsInRange (command.Mem addr n) = n ≤ most_shown
IsInRange (command.Words addr n) = n ≤ most_shown
IsInRange _ = Unit {0}
