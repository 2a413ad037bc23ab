use Rattle.std.proofs.Common.{◌≡◌, ◌+◌, ◌*◌, ◌-◌, ◌≤◌, drop, length}
use Rattle.std.specs.Prelude.{option_map}
use Rattle.xt_record.specs.Fields.{blocks, checkpoint_size}
use Rattle.xt_record.specs.TurnRules.{first_difference}
use Rattle.xt_record.proofs.reading.first_difference.Given as goal

abbrev pub invariant-loop-point : goal.invariant-loop-point
invariant-loop-point l = record {
  index : l.index ≡ l.point-index;
  within : l.index ≤ l.count;
  long : length l.rest ≡ checkpoint_size * (l.count - l.index);
  found : first_difference (blocks l.count l.kept) l.points ≡ option_map (λ n. n + l.index) (first_difference (blocks (l.count - l.index) l.rest) (drop l.index l.points));
}
