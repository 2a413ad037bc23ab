-- Carries a proof; nothing that a reader must believe.
-- What a memory keeps of its fields.
use Rattle.std.specs.Prelude.{◌≡◌, ◌+◌, length, vec_len}
use Rattle.xt_map.specs.Memory.{rtc_fast_data_size, dram_size, rtc_slow_size}
use Rattle.xt_bus.specs.declared.memory.Memory.TheInside.{Inside}
use Rattle.xt_bus.specs.States.{MemoryState, memory_state}

abbrev pub state_in : Inside → MemoryState
state_in m =
    memory_state (record {
      rtc_fast_data = m.rtc_fast_data.items;
      dram = m.dram.items;
      rtc_slow = m.rtc_slow.items;
      sent = m.uart.sent;
    })
    (length m.uart.sent + m.uart.spare)

-- each list is as long as its region
pub record IsSized (m : Inside) : Type 0 where
  pub rtc_fast_data : vec_len m.rtc_fast_data ≡ rtc_fast_data_size
  pub dram : vec_len m.dram ≡ dram_size
  pub rtc_slow : vec_len m.rtc_slow ≡ rtc_slow_size
