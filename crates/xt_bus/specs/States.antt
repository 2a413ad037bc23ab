-- What contracts see of a memory and of a bus ('profile').
--
-- Profile: `room` and `spare` count the bytes and accesses for which memory was taken when the bus
-- was made, so that an access takes none.
use Rattle.std.specs.Prelude.{ℕ, ◌-◌, List, [], ◌∷◌, ◌++◌}
use Rattle.xt_map.specs.declared.access.Access.{Access}
use Rattle.xt_map.specs.declared.access.Entry.{Entry}
use Rattle.xt_map.specs.declared.contents.MemoryContents.{MemoryContents}
use Rattle.xt_map.specs.declared.segment.Segment.{Segment}
use Rattle.xt_map.specs.Memory.{bytes_at, opening_memory}
use Rattle.xt_map.specs.Serving.{memory_past}

-- what a memory holds, with the sent bytes, and how many bytes it has room to send in all
pub record MemoryState : Type 0 where
  pub contents : MemoryContents
  pub room : ℕ

abbrev pub memory_state : MemoryContents → ℕ → MemoryState
memory_state contents room = record { contents = contents; room = room }

-- so many bytes of memory from an address on
unfoldable pub part_bytes : MemoryContents → ℕ → ℕ → List ℕ
part_bytes m from size = bytes_at m from size

-- after one access
abbrev pub memory_after_access : MemoryState → Access → MemoryState
memory_after_access s a = memory_state (memory_past s.contents a) s.room

-- the memory that a bus opened with, its history, its memory with the sent bytes, and how many
-- accesses it may yet serve
pub record BusState : Type 0 where
  pub opening : MemoryContents
  pub history : List Entry
  pub memory : MemoryContents
  pub spare : ℕ

abbrev pub opening_bus : List Segment → List (ℕ × ℕ) → ℕ → BusState
opening_bus segments words room =
    record {
      opening = opening_memory segments words;
      history = [];
      memory = opening_memory segments words;
      spare = room;
    }

abbrev pub entry : ℕ → Access → ℕ → Entry
entry core access reply = record { core = core; access = access; reply = reply }

-- after one entry more
abbrev pub bus_after_entry : BusState → Entry → BusState
bus_after_entry s e = record {
  opening = s.opening;
  history = s.history ++ e ∷ [];
  memory = memory_past s.memory e.access;
  spare = s.spare - 1;
}
