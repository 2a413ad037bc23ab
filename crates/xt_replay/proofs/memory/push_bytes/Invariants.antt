-- What was appended, and the bytes that are left, are all bytes.
use Rattle.std.proofs.Common.{◌≡◌, ◌-◌, ◌++◌}
use Rattle.std.specs.Prelude.{string_bytes}
use Rattle.xt_replay.specs.Shown.{byte_in}
use Rattle.xt_replay.specs.Printed.{bytes_text}
use Rattle.xt_replay.proofs.memory.push_bytes.Given as goal

abbrev pub invariant-loop : goal.invariant-loop
invariant-loop l =
    string_bytes l.out ++ bytes_text (λ a. byte_in a l.state) l.at (l.count - l.counter)
    ≡ string_bytes l.initial.out ++ bytes_text (λ a. byte_in a l.state) l.addr l.count
