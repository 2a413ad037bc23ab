use Rattle.std.proofs.Common.{inl, inr, refl, ◌∙◌}
use Rattle.xt_command_line.specs.Simple.{rows_by}
use Rattle.xt_command_line.proofs.Parses.{found, none_found, left_of_both}
use Rattle.xt_command_line.proofs.simple.Parser.matches.Goals as goal

pub returns-in-Ok : goal.returns-in-Ok
unfolding rows_by
returns-in-Ok c = found _ _ _ c.in-Ok.ensures.kinds (c.in-Ok.ensures.matches (left_of_both _ _ c.requires)).0

pub returns : goal.returns
unfolding rows_by
returns c = elim c.in-Err.ensures.kinds [
  | inl memory ↦ absurd (c.in_default.not-OutOfMemory (c.kind.ensures ∙ memory))
  | inr among ↦ (refl, none_found _ _ _ among)
]
