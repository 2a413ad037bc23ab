-- What sources and sinks over std's readers and writers hold (std's reader and writer; the count is
-- 'profile').
use Rattle.std.specs.Prelude.{ℕ, Bool, true, ◌==◌, ◌&&◌, nat_lt, List, length, Result, Ok, Err}
use Rattle.xt_io.specs.declared.sink.Refused.{Refused}
use Rattle.xt_io.specs.declared.standard.StdSource.{StdSource}
use Rattle.xt_io.specs.declared.standard.StdSink.{StdSink}

-- the reader of a source, and how many of its reads gave an error
abbrev pub reader_of : {R : Type 0} → StdSource R → R
reader_of s = s.inner

abbrev pub read_errors_of : {R : Type 0} → StdSource R → ℕ
read_errors_of s = s.faults

-- the writer of a sink, and how many of its writes were faults
abbrev pub writer_of : {W : Type 0} → StdSink W → W
writer_of s = s.inner

abbrev pub write_errors_of : {W : Type 0} → StdSink W → ℕ
write_errors_of s = s.faults

-- a write is a fault where it failed, and where it took no byte of a piece that has some
abbrev pub is_write_fault : Result ℕ Refused → List ℕ → Bool
is_write_fault (Ok n) piece = (n == 0) && nat_lt 0 (length piece)
is_write_fault (Err e) piece = true
