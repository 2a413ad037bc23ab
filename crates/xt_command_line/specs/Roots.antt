-- Where else a listing follows the code from ('profile'). A text is the list of its bytes.
use Rattle.std.specs.Prelude.{ℕ, List, Option}
use Rattle.clap.specs.Words.{Text}
use Rattle.xt_command_line.specs.Numbers.{number_of}
use Rattle.xt_command_line.specs.Parts.{parts_said}

-- the addresses that a text lists, with commas between them
abbrev pub roots_of : Text → Option (List ℕ)
roots_of text = parts_said number_of text
