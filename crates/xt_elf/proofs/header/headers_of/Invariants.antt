-- What was read, and what is still to be read, is all.
use Rattle.std.proofs.Common.{◌≡◌, ◌-◌, ◌+◌, ◌*◌, ◌++◌}
use Rattle.xt_elf.specs.Headers.{header_count, headers_from, headers_of, headers_place}
use Rattle.xt_elf.proofs.header.headers_of.Given as goal

abbrev pub invariant-loop : goal.invariant-loop
invariant-loop l = record {
  found : l.headers.items ++ headers_from (l.end - l.counter) l.bytes l.place ≡ headers_of l.bytes;
  place : l.place ≡ headers_place l.bytes + 32 * l.counter;
  count : l.end ≡ header_count l.bytes;
}
