-- Carries a proof; nothing that a reader must believe.
-- A number that is the same for the same core.
use Rattle.std.specs.Prelude.{ℕ, zero, suc, ◌+◌, ◌*◌, ◌/◌, ◌%◌, ◌^◌, List, slice_index}
use Rattle.xt_window.specs.Ring.{visible}
use Rattle.xt_exec.specs.State.{State}
use Rattle.xt_outcomes.specs.States.{Side}

-- a number, and so many pairs one after another
abbrev pub mixed : (ℕ → ℕ × ℕ) → ℕ → ℕ → ℕ
mixed f d zero = d
mixed f d (suc n) =
    ((mixed f d n * 0x9E3779B97F4A7C15 % 2 ^ 64 + (f n).1 * 0x100000000 % 2 ^ 64) % 2 ^ 64
    + (f n).0) % 2 ^ 64

-- all 64 registers, whatever the window, two in each number
abbrev pub pairs_of : List ℕ → ℕ → ℕ × ℕ
pairs_of regs n = (visible regs (n / 2) (n % 2 * 2), visible regs (n / 2) (n % 2 * 2 + 1))

abbrev pub side_mark : Side State → ℕ
side_mark s =
    mixed (pairs_of s.state.regs)
    (((s.state.control.pc + s.left * 0x100000000 % 2 ^ 64) % 2 ^ 64
    + slice_index s.state.control.special 12 * 0x10001 % 2 ^ 64) % 2 ^ 64) 32
