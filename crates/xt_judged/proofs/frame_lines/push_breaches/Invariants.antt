-- The lines of the breaches so far were appended.
use Rattle.std.proofs.Common.{◌≡◌, ◌++◌, take}
use Rattle.std.specs.Prelude.{flat_map}
use Rattle.xt_judged.specs.FrameLines.{breach_line}
use Rattle.xt_judged.proofs.frame_lines.push_breaches.Given as goal

abbrev pub invariant-loop-breach : goal.invariant-loop-breach
invariant-loop-breach l = l.out.items ≡ l.initial.out.items ++ flat_map breach_line (take l.breach-index l.list)
