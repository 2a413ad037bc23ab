-- What was appended, and the lines of the registers that are left, are all lines.
use Rattle.std.proofs.Common.{◌≡◌, ◌++◌}
use Rattle.std.specs.Prelude.{filter, string_bytes}
use Rattle.std.specs.List.{flat_map}
use Rattle.xt_isa.specs.Spelling.{can_read}
use Rattle.xt_exec.specs.States.{file_state}
use Rattle.xt_debug.specs.Printed.{special_line, specials}
use Rattle.xt_debug.proofs.Ranges.{from_to}
use Rattle.xt_debug.proofs.special.push_specials.Given as goal

abbrev pub invariant-loop-n : goal.invariant-loop-n
invariant-loop-n l =
    let line = special_line (file_state l.regs) in
    string_bytes l.out ++ flat_map line (filter can_read (from_to l.n 256)) ≡ string_bytes l.initial.out ++ flat_map line specials
