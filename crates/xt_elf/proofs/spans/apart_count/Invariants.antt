-- So many headers at the front share no byte.
use Rattle.std.proofs.Common.{◌≤◌, length}
use Rattle.xt_elf.specs.Spans.{AreApart}
use Rattle.xt_elf.proofs.spans.apart_count.Given as goal

abbrev pub invariant-loop : goal.invariant-loop
invariant-loop l = record {
  low : l.apart ≤ l.over;
  high : l.over ≤ length l.headers;
  apart : AreApart l.apart l.headers;
}
