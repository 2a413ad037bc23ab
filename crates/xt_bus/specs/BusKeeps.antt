-- Carries a proof; nothing that a reader must believe.
-- What a bus keeps of its fields.
use Rattle.std.specs.Prelude.{◌≡◌, ◌+◌, ◌≤◌, length, vec_len, vec_capacity}
use Rattle.xt_map.specs.History.{memory_after, IsLegal, IsOfCores}
use Rattle.xt_bus.specs.declared.bus.Bus.TheInside.{Inside}
use Rattle.xt_bus.specs.States.{BusState}

abbrev pub bus_in : Inside → BusState
bus_in b = record {
  opening = b.opening.contents;
  history = b.history.items;
  memory = b.memory.contents;
  spare = b.spare;
}

-- the history is legal from the opening memory, its entries are of core 0 or 1, memory is what it
-- leaves, and there is room for what is spare
pub record IsKept (b : Inside) : Type 0 where
  pub legal : IsLegal b.opening.contents b.history.items
  pub cores : IsOfCores b.history.items
  pub left : b.memory.contents ≡ memory_after b.opening.contents b.history.items
  pub entries : vec_len b.history + b.spare ≤ vec_capacity b.history
  pub sends : length b.memory.contents.sent + b.spare ≤ b.memory.room
