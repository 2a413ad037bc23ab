-- What a turn asks, records and leaves, by what it plans.
use Rattle.std.proofs.Common.{◌≡◌, ℕ, ap}
use Rattle.xt_exec.specs.State.{State}
use Rattle.xt_exec.specs.Turn.{Planned, planned_turn, demand, turn, with_write, write_with_reply}

module _ (code : ℕ → ℕ) (s : State) (p : Planned) (is : planned_turn code s ≡ p) where
  pub plan_asks : demand code s ≡ p.access
  unfolding demand
  plan_asks = ap (λ (q : Planned). q.access) is

  module _ (reply : ℕ) where
    pub plan_state : (turn code s reply).1 ≡ with_write (write_with_reply p.write p.awaited reply) p.after
    unfolding turn
    plan_state = ap (λ (q : Planned). with_write (write_with_reply q.write q.awaited reply) q.after) is

    pub plan_kind : (turn code s reply).0.kind ≡ p.kind
    unfolding turn
    plan_kind = ap (λ (q : Planned). q.kind) is

    pub plan_write : (turn code s reply).0.write ≡ write_with_reply p.write p.awaited reply
    unfolding turn
    plan_write = ap (λ (q : Planned). write_with_reply q.write q.awaited reply) is

    pub plan_access : (turn code s reply).0.access ≡ p.access
    unfolding turn demand
    plan_access = ap (λ (q : Planned). q.access) is
