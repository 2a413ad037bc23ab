-- A core after its next turn.
use Rattle.std.proofs.Common.{◌≡◌, ℕ, Bool, false, cond, Option, refl, sym, ap, ◌∙◌, subst, bit_or}
use Rattle.xt_map.specs.declared.access.Access.{Access}
use Rattle.xt_map.specs.declared.contents.MemoryContents.{MemoryContents}
use Rattle.xt_special.specs.Control.{special_of}
use Rattle.xt_special.specs.Numbers as number
use Rattle.xt_trace.specs.Calls.{is_stop}
use Rattle.xt_trace.specs.declared.record.StepKind.{StepKind}
use Rattle.xt_trace.specs.declared.record.StepRecord.{StepRecord}
use Rattle.xt_trace.specs.Worlds.{answer, memory_left}
use Rattle.xt_map.specs.Code.{AreBytes}
use Rattle.xt_map.specs.Fetching.{fetch_at}
use Rattle.xt_rows.specs.RowLaws.{IsWord}
use Rattle.xt_exec.specs.State.{State}
use Rattle.xt_exec.specs.Turn.{demand, planned_turn, turn}
use Rattle.xt_exec.specs.TurnLaws.{IsServed, IsShaped}
use Rattle.xt_exec.proofs.Served.{demand_served}
use Rattle.xt_exec.proofs.Shapes.{turn_shaped}
use Rattle.xt_moments.specs.Moments.{MomentCore, armed_in, arms, core_past, core_turned}
use Rattle.xt_moments.specs.Moments.{memory_past, with_special, with_timers}

-- the access and the kind of a turn are those that are planned
access_is : (code : ℕ → ℕ) (s : State) (reply : ℕ)
    → (turn code s reply).0.access ≡ demand code s
unfolding turn
access_is code s reply = refl

kind_is : (code : ℕ → ℕ) (s : State) (reply : ℕ)
    → (turn code s reply).0.kind ≡ (planned_turn code s).kind
unfolding turn
kind_is code s reply = refl

-- a core after a turn of this record, which began with s, arms these timers and left this state
abbrev after_turn : MomentCore → State → ℕ → StepRecord × State → MomentCore
after_turn k s armed t = record {
  state = with_timers (special_of s.control number.interrupt) armed t.1;
  armed = bit_or k.armed armed;
  stopped = is_stop t.0.kind;
}

-- and what it then is by its own state
abbrev turned_from : (ℕ → ℕ) → MomentCore → MemoryContents → State → MomentCore
turned_from code k m s = after_turn k s (arms code s) (turn code s (answer (demand code s) m))

module _ (code : ℕ → ℕ) (s : State) (reply : ℕ) (x : StepRecord) (u : State)
    (is : (x, u) ≡ turn code s reply) where
  pub access_asked : x.access ≡ demand code s
  access_asked = ap (λ (t : StepRecord × State). t.0.access) is ∙ access_is code s reply

  pub served : IsServed x.access
  served = subst IsServed (sym access_asked) (demand_served code s)

  pub shaped : AreBytes code → IsShaped s → IsWord reply → IsShaped u
  shaped bytes h word =
      subst IsShaped (sym (ap (λ (t : StepRecord × State). t.1) is))
      (turn_shaped code s reply bytes h word)

  armed_is : armed_in x.kind (fetch_at code s.control.pc) ≡ arms code s
  armed_is =
      ap (λ (kind : StepKind). armed_in kind (fetch_at code s.control.pc))
      (ap (λ (t : StepRecord × State). t.0.kind) is ∙ kind_is code s reply)

-- of a core that has not stopped, whose state with this CCOUNT is s
module _ (code : ℕ → ℕ) (count : ℕ) (k : MomentCore) (m : MemoryContents) (s : State)
    (x : StepRecord) (u : State) (same : s ≡ with_special number.ccount count k.state)
    (going : k.stopped ≡ false) (is : (x, u) ≡ turn code s (answer (demand code s) m)) where
  pub core_is :
      after_turn k s (armed_in x.kind (fetch_at code s.control.pc)) (x, u)
      ≡ core_past code count k m
  core_is =
      ap (λ (armed : ℕ). after_turn k s armed (x, u))
      (armed_is code s (answer (demand code s) m) x u is)
      ∙ ap (after_turn k s (arms code s)) is
      ∙ ap (turned_from code k m) same
      ∙ ap (λ (b : Bool). cond b k (core_turned code count k m)) (sym going)

  pub memory_is : memory_left x.access m ≡ memory_past code count k m
  memory_is =
      ap (λ (a : Option Access). memory_left a m)
      (access_asked code s (answer (demand code s) m) x u is)
      ∙ ap (λ (t : State). memory_left (demand code t) m) same
      ∙ ap (λ (b : Bool). cond b m
      (memory_left (demand code (with_special number.ccount count k.state)) m)) (sym going)
