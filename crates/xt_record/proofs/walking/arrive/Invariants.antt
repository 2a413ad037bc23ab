use Rattle.std.proofs.Common.{◌≡◌}
use Rattle.xt_map.specs.Memory.{constant_byte}
use Rattle.xt_record.specs.Walking.{Going}
use Rattle.xt_record.proofs.walking.arrive.Given as goal

abbrev pub invariant-turns : goal.invariant-turns
invariant-turns l = record {
  going : Going (constant_byte l.fn.setting.code) l.number l.fn.own l.other l.own l.fn.setting.memory.contents l.entries l.fn.setting.points.items l.setting.points.items;
  memory : l.setting.memory ≡ l.fn.setting.memory;
  code : l.setting.code ≡ l.fn.setting.code;
}

abbrev pub decreases-turns : goal.decreases-turns
decreases-turns l = l.own.left
