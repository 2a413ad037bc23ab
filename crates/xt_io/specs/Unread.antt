-- For sources and sinks in memory, which tests use; nothing that a reader must believe.
-- What a list of bytes has left, of which the first were read ('profile').
use Rattle.std.specs.Prelude.{ℕ, List, drop}
use Rattle.xt_io.specs.declared.unread.Unread.{Unread}

abbrev pub unread_bytes : Unread → List ℕ
unread_bytes u = drop u.at u.bytes.items
