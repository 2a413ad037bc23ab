-- What contracts see of UART0's sending side ('profile').
use Rattle.std.specs.Prelude.{ℕ, ◌-◌, List, [], ◌∷◌, ◌++◌}

-- the bytes sent so far, the first one first, and how many more may be sent
pub record UartState : Type 0 where
  pub sent : List ℕ
  pub spare : ℕ

abbrev pub uart_state : List ℕ → ℕ → UartState
uart_state sent spare = record { sent = sent; spare = spare }

-- nothing was sent
abbrev pub silent_uart : ℕ → UartState
silent_uart room = uart_state [] room

-- after one byte more
abbrev pub past : UartState → ℕ → UartState
past s b = uart_state (s.sent ++ b ∷ []) (s.spare - 1)
