use Rattle.std.proofs.Common.{◌≡◌, drop}
use Rattle.std.specs.List.{list_any}
use Rattle.xt_parse.specs.declared.line.Line.{Line}
use Rattle.xt_layout.specs.Pools.{is_segment}
use Rattle.xt_asm.proofs.image.has_segment.Given as goal

-- if there is one, it is among those that are left
abbrev pub invariant-loop-line : goal.invariant-loop-line
invariant-loop-line l = list_any (λ (x : Line). is_segment x.statement) (drop l.line-index l.lines) ≡ list_any (λ (x : Line). is_segment x.statement) l.lines
