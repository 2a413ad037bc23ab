-- The spans so far stand in a row, and none ends after the end.
use Rattle.std.proofs.Common.{ℕ, ◌<◌, ◌≤◌, get_or}
use Rattle.xt_elf.specs.declared.spans.Span.{Span}
use Rattle.xt_elf.proofs.spans.are_in_a_row.Given as goal

abbrev pub invariant-loop-span : goal.invariant-loop-span
invariant-loop-span l = record {
  end : (i : ℕ) (d : Span) → i < l.span-index → (get_or l.spans i d).ends ≤ l.end;
  row : (i j : ℕ) (d : Span) → i < j → j < l.span-index → (get_or l.spans i d).ends ≤ (get_or l.spans j d).begins;
}
