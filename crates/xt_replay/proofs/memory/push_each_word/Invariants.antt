-- What was appended, and the words that are left, are all words.
use Rattle.std.proofs.Common.{◌≡◌, ◌-◌, ◌++◌}
use Rattle.std.specs.Prelude.{string_bytes}
use Rattle.xt_replay.specs.Shown.{byte_in}
use Rattle.xt_replay.specs.Printed.{words_from}
use Rattle.xt_replay.proofs.memory.push_each_word.Given as goal

abbrev pub invariant-loop : goal.invariant-loop
invariant-loop l =
    string_bytes l.out ++ words_from (λ a. byte_in a l.state) l.at (l.count - l.counter)
    ≡ string_bytes l.initial.out ++ words_from (λ a. byte_in a l.state) l.addr l.count
