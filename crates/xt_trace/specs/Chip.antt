-- A processor, as far as traces and runs see it ('profile').
--
-- Profile: Of runs over an abstract processor, in the same crate (`Chip` and what cites it): the
-- usual notion of one sequential memory; the laws of runs speak of no instruction.
use Rattle.std.specs.Prelude.{◌≡◌, ℕ, Option, Some}
use Rattle.xt_map.specs.declared.access.Access.{Access}
use Rattle.xt_trace.specs.declared.record.StepRecord.{StepRecord}

pub record Chip (S : Type 0) : Type 0 where
  -- the access of the next turn, which needs no reply
  pub demand : S → Option Access
  -- one turn with the reply to its access: the record, and the next state
  pub turn : S → ℕ → StepRecord × S
  -- a record has an access exactly where one was asked for, and then its reply
  pub asks : (s : S) (reply : ℕ) → (turn s reply).0.access ≡ demand s
  pub keeps : (s : S) (a : Access) (reply : ℕ) → demand s ≡ Some a → (turn s reply).0.reply ≡ reply
