-- The processor as traces and runs see it ('profile').
use Rattle.std.specs.Prelude.{◌≡◌, ℕ, Option, Some}
use Rattle.std.proofs.Common.{refl, ap}
use Rattle.xt_map.specs.declared.access.Access.{Access}
use Rattle.xt_trace.specs.Chip.{Chip}
use Rattle.xt_exec.specs.State.{State}
use Rattle.xt_exec.specs.Turn.{demand, turn, reply_where}

pub turn_asks :
    (code : ℕ → ℕ) (s : State) (reply : ℕ) → (turn code s reply).0.access ≡ demand code s
unfolding turn
turn_asks code s reply = refl

pub turn_keeps :
    (code : ℕ → ℕ) (s : State) (a : Access) (reply : ℕ) → demand code s ≡ Some a
    → (turn code s reply).0.reply ≡ reply
unfolding turn
turn_keeps code s a reply asked = ap (λ (d : Option Access). reply_where d reply) asked

-- the processor, where memory's constant bytes are these
abbrev pub processor : (ℕ → ℕ) → Chip State
processor code = record {
  demand = demand code;
  turn = turn code;
  asks = turn_asks code;
  keeps = turn_keeps code;
}
