use Rattle.std.proofs.Common.{◌≡◌, ◌≤◌, ◌-◌, drop}
use Rattle.xt_handlers.specs.Symbols.{Effect}
use Rattle.xt_handlers.specs.Handling.{walk, handling_verdict}
use Rattle.xt_handlers.specs.Spelled.{lines_in, lines_of}
use Rattle.xt_map.specs.Memory.{constant_byte}
use Rattle.xt_handlers.specs.Vectors.{vector_bytes}
use Rattle.xt_handlers.specs.Flat.{Tracks}
use Rattle.xt_handlers.proofs.vector.check_bytes.Given as goal

abbrev pub invariant-loop-offset : goal.invariant-loop-offset
invariant-loop-offset l =
    (e : Effect) × Tracks l.side l.n l.evaluation e
    × (walk l.side l.n e (lines_in 0 l.offset (drop l.offset (vector_bytes (constant_byte l.code) l.at))) ≡ handling_verdict l.side l.n (lines_of (vector_bytes (constant_byte l.code) l.at)))
    × (l.offset ≤ 64)

abbrev pub decreases-loop-offset : goal.decreases-loop-offset
decreases-loop-offset l = 64 - l.offset
