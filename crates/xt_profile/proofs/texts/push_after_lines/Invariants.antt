-- The texts of the lines so far were appended.
use Rattle.std.proofs.Common.{◌≡◌, ◌++◌, take}
use Rattle.std.specs.List.{flat_map}
use Rattle.std.specs.Prelude.{string_bytes}
use Rattle.xt_profile.specs.ProfileText.{after_line_text}
use Rattle.xt_profile.proofs.texts.push_after_lines.Given as goal

abbrev pub invariant-loop-line : goal.invariant-loop-line
invariant-loop-line l =
    string_bytes l.out ≡ string_bytes l.initial.out ++ flat_map (after_line_text l.depth l.core) (take l.line-index l.lines)
