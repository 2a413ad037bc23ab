-- What was appended, and what is said of the registers that are left, is said of all registers.
use Rattle.std.proofs.Common.{◌≡◌, ◌++◌}
use Rattle.std.specs.Prelude.{string_bytes}
use Rattle.std.specs.List.{flat_map}
use Rattle.xt_debug.specs.FrameNotes.{unset_text, registers}
use Rattle.xt_debug.proofs.Ranges.{from_to}
use Rattle.xt_debug.proofs.frame_notes.unset_in.Given as goal

abbrev pub invariant-loop-i : goal.invariant-loop-i
invariant-loop-i l =
    let said = unset_text l.frames.state in
    string_bytes l.text ++ flat_map said (from_to l.i 16) ≡ flat_map said registers
