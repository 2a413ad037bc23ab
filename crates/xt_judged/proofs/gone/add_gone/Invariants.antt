use Rattle.std.specs.Prelude.{option_copied}
use Rattle.std.proofs.Common.{◌≡◌, ℕ, not, ◌&&◌, ◌||◌}
use Rattle.xt_map.specs.Touching.{touches}
use Rattle.xt_judged.specs.Lives.{is_live_in}
use Rattle.xt_judged.specs.Stales.{among}
use Rattle.xt_judged.proofs.gone.add_gone.Given as goal

abbrev pub invariant-loop-k : goal.invariant-loop-k
invariant-loop-k l = (a : ℕ) → among l.stale a ≡ (among l.initial.stale a || (touches l.from l.k a && not (is_live_in l.own (option_copied l.other) a)))
