-- For sources and sinks in memory, which tests use; nothing that a reader must believe.
-- What sources and sinks in memory hold ('profile').
--
-- Profile: running out of memory inside a sink is no fault and is not counted.
use Rattle.std.specs.Prelude.{ℕ, List}
use Rattle.xt_io.specs.Unread.{unread_bytes}
use Rattle.xt_io.specs.declared.calls.Calls.{Calls}
use Rattle.xt_io.specs.declared.memory.MemSource.{MemSource}
use Rattle.xt_io.specs.declared.memory.MemSink.{MemSink}
use Rattle.xt_io.specs.declared.safe.SafeSource.{SafeSource}
use Rattle.xt_io.specs.declared.safe.SafeSink.{SafeSink}

-- the bytes that a source has left
abbrev pub left_of : MemSource → List ℕ
left_of s = unread_bytes s.bytes

abbrev pub safe_left_of : SafeSource → List ℕ
safe_left_of s = unread_bytes s.bytes

-- the bytes that were written to a sink
abbrev pub written_to : MemSink → List ℕ
written_to s = s.bytes.items

abbrev pub safely_written_to : SafeSink → List ℕ
safely_written_to s = s.bytes.items

-- the calls of a source and of a sink, those made and those to come
abbrev pub calls_of : MemSource → Calls
calls_of s = s.calls

abbrev pub sink_calls_of : MemSink → Calls
sink_calls_of s = s.calls

-- how many of these calls failed so far
abbrev pub read_faults_of : MemSource → ℕ
read_faults_of s = s.calls.failed

abbrev pub write_faults_of : MemSink → ℕ
write_faults_of s = s.calls.failed
