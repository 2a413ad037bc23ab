-- A machine at its opening ('profile').
use Rattle.std.specs.Prelude.{◌≡◌, ℕ}
use Rattle.xt_trace.specs.declared.options.Options.{Options}
use Rattle.xt_trace.specs.Validity.{IsValid}
use Rattle.xt_image.specs.declared.image.Image.{Image}
use Rattle.xt_sharedbus.specs.SeatState.{fresh}
use Rattle.xt_core.specs.Cores.{CoreState, opening_core_state}
use Rattle.xt_core.specs.Runs.{entry_of, memory_of, opening_at, turns_of}
use Rattle.xt_machine.specs.declared.machine.Machine.{Machine}

-- a core of the image with all of its turns
abbrev pub opens : ℕ → Image → Options → CoreState
opens core image o =
    opening_core_state core (opening_at core (entry_of core image o) o) (turns_of core o)

-- Both cores and the bus stand as a run of the image with the machine's options
-- opens, and no access was made.
pub record IsOpened (image : Image) (m : Machine) : Type 0 where
  pub valid : IsValid m.options
  pub code0 : m.code0 ≡ image.segments
  pub code1 : m.code1 ≡ image.segments
  pub core0 : m.core0 ≡ opens 0 image m.options
  pub core1 : m.core1 ≡ opens 1 image m.options
  pub seat0 : m.seat0 ≡ fresh m.shared 0 (turns_of 0 m.options) (memory_of image m.options)
  pub seat1 : m.seat1 ≡ fresh m.shared 1 (turns_of 1 m.options) (memory_of image m.options)
