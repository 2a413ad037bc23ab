-- The law of one turn.
use Rattle.std.proofs.Common.{◌≡◌, ℕ, ◌^◌, ◌<◌, true, ◌&&◌, List, refl, sym, subst, arith}
use Rattle.std.proofs.lemmas.Bool.{and_parts}
use Rattle.xt_map.specs.Code.{AreBytes}
use Rattle.xt_map.specs.Fetching.{fetch_at}
use Rattle.xt_exec.specs.State.{State}
use Rattle.xt_exec.specs.Turn.{demand, planned_turn, turn}
use Rattle.xt_exec.specs.TurnLaws.{IsShaped}
use Rattle.xt_uses.specs.UseLaws.{AgreeIn}
use Rattle.xt_uses.specs.UseStep.{step_insn}
use Rattle.xt_simulation.specs.Knowledge.{AreMasks, Knowledge, StatesAgree}
use Rattle.xt_simulation.specs.Learning.{stored_in}
use Rattle.xt_simulation.specs.TurnUses.{common_used, found_used, kind_used, turn_used}
use Rattle.xt_simulation.specs.SecretLaws.{AccessAgrees, FitsAccess, SentAgrees, TurnsAgree, TurnsWithKnownUsesAgree}
use Rattle.xt_simulation.proofs.Readings.{Two, other}
use Rattle.xt_simulation.proofs.SecretTurns.{known, planned}
use Rattle.xt_simulation.proofs.SecretReplied.{turn_access, turn_after, turn_kind, turn_sent, turn_writes}

pub whole_other : (m : Knowledge) (s t : State) → StatesAgree m s t → other s t.regs t.control.special t.control.threadptr ≡ t
whole_other m s t e =
    λ i. record {
      regs = t.regs;
      base = e.base i;
      start = e.start i;
      control = record { pc = e.pc i; special = t.control.special; ps = e.ps i; threadptr = t.control.threadptr; waits = e.waits i };
    }

module _ (code : ℕ → ℕ) (bytes : AreBytes code) (m : Knowledge) (s : State) (rs ys : List ℕ) (k : ℕ) (h : Two m s rs ys k) (reply v w : ℕ) (small : reply < 2 ^ 32) (vs : v < 2 ^ 32) (ws : w < 2 ^ 32) (replies : AgreeIn reply v w)
    (fits : FitsAccess (planned_turn code s).access reply) where
  turns_agree : turn_used code (planned_turn code s).kind (planned_turn code s).access reply m s ≡ true → TurnsAgree code reply m s (turn code s v) (turn code (other s rs ys k) w)
  unfolding turn demand turn_used
  turns_agree used =
      let p = planned_turn code s in
      let q = planned_turn code (other s rs ys k) in
      let a = and_parts (common_used m s) (kind_used p.kind (fetch_at code s.control.pc) m s && found_used p.access reply) used in
      let b = and_parts (kind_used p.kind (fetch_at code s.control.pc) m s) (found_used p.access reply) a.1 in
      let c = known code bytes m s rs ys k h a.0 in
      let o = step_insn p.kind (fetch_at code s.control.pc) in
      let agree = planned code bytes m s rs ys k h a.0 b.0 in
      record {
        place = refl;
        kind = turn_kind m s rs ys k h c p q reply v w small vs ws replies fits o agree;
        access = turn_access m s rs ys k h c p q reply v w small vs ws replies fits o agree;
        sent = turn_sent m s rs ys k h c p q reply v w small vs ws replies fits o agree;
        write = turn_writes m s rs ys k h c p q reply v w small vs ws replies fits o agree;
        after = turn_after m s rs ys k h c p q reply v w small vs ws replies fits o agree;
      }

pub turns_with_known_uses_agree : TurnsWithKnownUsesAgree
turns_with_known_uses_agree code m s t reply v w bytes masks f g e small vs ws replies fits used =
    let same = whole_other m s t e in
    subst (λ (u : State). TurnsAgree code reply m s (turn code s v) (turn code u w)) same
    (turns_agree code bytes m s t.regs t.control.special t.control.threadptr
    (record { masks = masks; first = f; second = subst (λ (u : State). IsShaped u) (sym same) g; agree = subst (λ (u : State). StatesAgree m s u) (sym same) e }) reply v w small vs ws replies fits used)

-- before any reply
pub accesses_agree : (code : ℕ → ℕ) (m : Knowledge) (s t : State) (reply : ℕ) → AreBytes code → AreMasks m → IsShaped s → IsShaped t → StatesAgree m s t → reply < 2 ^ 32 → FitsAccess (planned_turn code s).access reply
    → turn_used code (planned_turn code s).kind (planned_turn code s).access reply m s ≡ true
    → AccessAgrees (stored_in (step_insn (planned_turn code s).kind (fetch_at code s.control.pc)) m s) (planned_turn code s).access (planned_turn code t).access × SentAgrees (planned_turn code s).access (planned_turn code t).access
unfolding turn demand
accesses_agree code m s t reply bytes masks f g e small fits used =
    let a = turns_with_known_uses_agree code m s t reply 0 0 bytes masks f g e small (omega arith) (omega arith) refl fits used in
    (a.access, a.sent)
