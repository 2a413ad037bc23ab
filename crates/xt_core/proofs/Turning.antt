-- A turn from its halves.
use Rattle.std.proofs.Common.{◌≡◌, ℕ, true, Option, Some, None, refl, sym, subst, ap, ◌∙◌}
use Rattle.xt_map.specs.declared.access.Access.{Access}
use Rattle.xt_map.specs.Regions.{is_mapped}
use Rattle.xt_trace.specs.declared.record.RegWrite.{RegWrite}
use Rattle.xt_trace.specs.declared.record.StepKind.{StepKind}
use Rattle.xt_trace.specs.declared.record.StepKind.TheVariants as kind
use Rattle.xt_trace.specs.declared.record.StepRecord.{StepRecord}
use Rattle.xt_rows.specs.declared.outcome.ReplyTarget.{ReplyTarget}
use Rattle.xt_rows.specs.Settling.{write_with_reply}
use Rattle.xt_exec.specs.declared.plans.Effect.{Effect}
use Rattle.xt_exec.specs.declared.plans.Pending.{Pending}
use Rattle.xt_exec.specs.State.{State}
use Rattle.xt_exec.specs.Turn.{Planned, planned_turn, demand, turn, reply_where, with_write}
use Rattle.xt_exec.specs.Halves.{IsEffect, IsAsking, IsFinished, at_end, reply_target, gone_on}
use Rattle.xt_core.specs.declared.record.Head.{Head}
use Rattle.xt_core.specs.Turns.{head_of, turn_record, IsLocal, IsHalf}
use Rattle.xt_core.specs.Cores.{Awaits}

-- a record and the state after it, from their parts
abbrev made : State → StepKind → Option RegWrite → Option Access → ℕ → State → StepRecord × State
made s k w a reply t = (turn_record (head_of s) (record { kind = k; write = w }) a reply, t)

-- the turn, from what it makes before the reply
abbrev from_plan : State → Planned → ℕ → StepRecord × State
from_plan s p reply =
    made s p.kind (write_with_reply p.write p.awaited reply) p.access (reply_where p.access reply) (with_write (write_with_reply p.write p.awaited reply) p.after)

turn_from_plan : (code : ℕ → ℕ) (s : State) (reply : ℕ) → from_plan s (planned_turn code s) reply ≡ turn code s reply
unfolding turn demand
turn_from_plan code s reply = refl

quiet : (s : State) (p : Planned) (e : Effect) (after : State) (reply : ℕ) → IsEffect e after p
    → made s e.kind e.write None 0 (at_end after) ≡ from_plan s p reply
quiet s p e after reply h =
    ap (λ (x : Effect). made s x.kind x.write None 0 (at_end after)) h.told
    ∙ ap (made s p.kind p.write None 0) h.state
    ∙ sym (ap (λ (a : Option Access). made s p.kind p.write a (reply_where a reply) (with_write p.write p.after)) h.no_access)
    ∙ sym (ap (λ (w : Option ReplyTarget). made s p.kind (write_with_reply p.write w reply) p.access (reply_where p.access reply) (with_write (write_with_reply p.write w reply) p.after)) h.no_awaited)

pub local_turn : (code : ℕ → ℕ) (s : State) (e : Effect) (after : State) → IsEffect e after (planned_turn code s)
    → IsLocal code s (at_end after) (turn_record (head_of s) e None 0)
unfolding demand
local_turn code s e after h = record {
  asks_nothing = h.no_access;
  turn = λ reply. quiet s (planned_turn code s) e after reply h ∙ turn_from_plan code s reply;
}

pub half_turn : (code : ℕ → ℕ) (s : State) (access : Access) (p : Pending) (after : State) → IsAsking access p s after (planned_turn code s) → IsHalf code s after p
unfolding demand
half_turn code s access p after h = record {
  asks = ap (λ (t : Planned). t.access) h.turn;
  mapped = subst (λ (a : Access). is_mapped a ≡ true) h.access h.mapped;
  unchanged = h.unchanged;
  awaits = h.turn;
  target = h.target;
}

write_at_end : (w : Option RegWrite) (s : State) → at_end (with_write w s) ≡ with_write w (at_end s)
write_at_end None s = refl
write_at_end (Some w) s = refl

pub whole_turn : (code : ℕ → ℕ) (s : State) (p : Pending) (e : Effect) (after : State) (reply : ℕ) → IsFinished e s after p reply → Awaits code s p
    → (turn_record (head_of s) e (Some p.access) reply, at_end after) ≡ turn code s reply
whole_turn code s p e after reply h awaits =
    let w = write_with_reply None (reply_target p.target p.signed) reply in
    ap (λ (x : Effect). made s x.kind x.write (Some p.access) reply (at_end after)) h.told
    ∙ ap (λ (t : State). made s kind.Insn w (Some p.access) reply (at_end t)) h.state
    ∙ ap (made s kind.Insn w (Some p.access) reply) (write_at_end w (gone_on p.len s))
    ∙ sym (ap (λ (t : Planned). from_plan s t reply) awaits)
    ∙ turn_from_plan code s reply

-- the same, as a function's steps give it
pub local_turn_of : (code : ℕ → ℕ) (s : State) (e : Effect) (mid after : State) (h : Head) (r : StepRecord) → IsEffect e mid (planned_turn code s) → after ≡ at_end mid
    → h ≡ head_of s → r ≡ turn_record h e None 0 → IsLocal code s after r
local_turn_of code s e mid after h r is tick head told =
    let P : State → Type 0 = λ t. IsLocal code s t r in
    let Q : StepRecord → Type 0 = λ x. IsLocal code s (at_end mid) x in
    subst P (sym tick) (subst Q (sym (told ∙ ap (λ (x : Head). turn_record x e None 0) head)) (local_turn code s e mid is))

pub whole_turn_of : (code : ℕ → ℕ) (s : State) (p : Pending) (e : Effect) (mid after : State) (reply : ℕ) (h : Head) (r : StepRecord) → IsFinished e s mid p reply
    → after ≡ at_end mid → h ≡ head_of s → r ≡ turn_record h e (Some p.access) reply → Awaits code s p
    → ◌≡◌ {A = StepRecord × State} (r, after) (turn code s reply)
whole_turn_of code s p e mid after reply h r is tick head told awaits =
    ap (λ (x : StepRecord). (x, after)) (told ∙ ap (λ (x : Head). turn_record x e (Some p.access) reply) head)
    ∙ ap (λ (t : State). (turn_record (head_of s) e (Some p.access) reply, t)) tick
    ∙ whole_turn code s p e mid reply is awaits
