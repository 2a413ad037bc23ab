-- The bytes so far were mixed in.
use Rattle.std.proofs.Common.{◌≡◌, drop, length}
use Rattle.xt_search.specs.Changed.{digest_from}
use Rattle.xt_search.proofs.changes.Changes.digest.Given as goal

abbrev pub invariant-loop-change : goal.invariant-loop-change
invariant-loop-change l = digest_from l.digest (drop l.change-index l.self.bytes) ≡ digest_from (length l.self.sent) l.self.bytes
