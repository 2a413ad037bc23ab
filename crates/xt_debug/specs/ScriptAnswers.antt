-- What a function answers beside what is defined ('profile').
use Rattle.std.specs.Prelude.{◌≡◌, Option, Some, None, List, Result, Ok, Err}
use Rattle.xt_debug.specs.declared.script.Command.{Command}
use Rattle.xt_debug.specs.declared.script.ScriptFault.{ScriptFault}
use Rattle.xt_debug.specs.declared.script.ScriptFault.TheVariants as fault

-- Bad is answered exactly where the text is no script, unless memory ran out
abbrev pub Reads : Result (List Command) ScriptFault → Option (List Command) → Type 0
Reads (Ok script) meant = meant ≡ Some script
Reads (Err fault.Bad) meant = meant ≡ None
Reads (Err fault.Memory) meant = Unit {0}
