use Rattle.std.proofs.Common.{◌≡◌, ◌+◌, ◌≤◌, None}
use Rattle.xt_map.specs.Memory.{constant_byte}
use Rattle.xt_machine.specs.Going.{IsGoing}
use Rattle.xt_machine.proofs.driving.drive.Given as goal

abbrev pub invariant-turns : goal.invariant-turns
invariant-turns g l = record {
  going : IsGoing (constant_byte l.code) l.fn.core l.core l.fn.seat.list l.seat.list;
  waiting : l.core.waiting ≡ None;
  bus : l.seat.bus ≡ l.fn.seat.bus;
  core : l.seat.core ≡ l.fn.seat.core;
  opening : l.seat.opening ≡ l.fn.seat.opening;
  left : l.core.left ≤ l.seat.left;
  calls : l.calls + l.seat.left ≡ l.room;
}

abbrev pub decreases-turns : goal.decreases-turns
decreases-turns g l = l.core.left
