use Rattle.std.specs.Prelude.{option_copied}
use Rattle.std.proofs.Common.{◌≡◌, ◌+◌, ◌-◌}
use Rattle.xt_frames.specs.Breaches.{some_byte}
use Rattle.xt_judged.specs.Lives.{is_live_in}
use Rattle.xt_judged.proofs.bytes.some_live.Given as goal

abbrev pub invariant-loop-k : goal.invariant-loop-k
invariant-loop-k l = some_byte (is_live_in l.own (option_copied l.other)) (l.addr + l.k) (l.size - l.k) ≡ some_byte (is_live_in l.own (option_copied l.other)) l.addr l.size
