use Rattle.std.proofs.Common.{◌≡◌, ℕ, ◌+◌, ◌≤◌, ◌||◌, length}
use Rattle.xt_map.specs.Touching.{touches}
use Rattle.xt_judged.specs.Stales.{among}
use Rattle.xt_judged.proofs.stale.put_run.Given as goal

abbrev pub invariant-loop-k : goal.invariant-loop-k
invariant-loop-k l = record {
  bytes : (a : ℕ) → among l.bytes.items a ≡ (among l.initial.bytes.items a || touches l.from l.k a);
  room : l.place + l.k ≤ length l.bytes.items;
}
