-- What contracts see of a seat ('profile').
use Rattle.std.specs.Prelude.{ℕ, ◌-◌, List, [], ◌∷◌, ◌++◌}
use Rattle.atomic_table.specs.Seated.{TableId}
use Rattle.xt_map.specs.declared.contents.MemoryContents.{MemoryContents}
use Rattle.xt_map.specs.declared.access.Access.{Access}

-- which bus it is a seat of, its core, its accesses left, the opening memory of that bus, and its
-- own accesses with their replies
pub record SeatState : Type 0 where
  pub bus : TableId
  pub core : ℕ
  pub left : ℕ
  pub opening : MemoryContents
  pub list : List (Access × ℕ)

-- a seat that has made no access
abbrev pub fresh : TableId → ℕ → ℕ → MemoryContents → SeatState
fresh bus core left opening =
    record { bus = bus; core = core; left = left; opening = opening; list = [] }

-- after one access more
abbrev pub seat_after_access : SeatState → Access → ℕ → SeatState
seat_after_access s a reply = record {
  bus = s.bus;
  core = s.core;
  left = s.left - 1;
  opening = s.opening;
  list = s.list ++ (a, reply) ∷ [];
}
