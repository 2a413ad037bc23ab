-- The segments of the headers that were gone through.
use Rattle.std.proofs.Common.{◌≡◌, filter, map, take}
use Rattle.xt_elf.specs.Format.{segment_of}
use Rattle.xt_elf.specs.Headers.{is_loaded_header}
use Rattle.xt_elf.proofs.converting.segments_of.Given as goal

abbrev pub invariant-loop-header : goal.invariant-loop-header
invariant-loop-header l = l.segments.items ≡ map (segment_of l.bytes) (filter is_loaded_header (take l.header-index l.headers))
