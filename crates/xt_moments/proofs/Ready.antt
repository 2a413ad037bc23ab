-- A core of which not all is known is ready where another one is that agrees with it in what is known.
use Rattle.std.proofs.Common.{◌≡◌, ℕ, ◌<◌, Bool, true, false, not, eqb, Option, Some, None}
use Rattle.std.proofs.Common.{length, bit_and, bit_or, refl, sym, ap, ◌∙◌, subst, arith}
use Rattle.std.proofs.lemmas.List.{get_or-set_other, get_or-set_same}
use Rattle.xt_map.specs.declared.access.Access.{Access}
use Rattle.xt_map.specs.declared.contents.MemoryContents.{MemoryContents}
use Rattle.xt_map.specs.Touching.{IsMemory}
use Rattle.xt_map.specs.Code.{AreBytes}
use Rattle.xt_map.specs.Fetching.{fetch_at}
use Rattle.xt_special.specs.declared.ps.Ps.{Ps}
use Rattle.xt_special.specs.Access.{without_bits}
use Rattle.xt_special.specs.Control.{special_of}
use Rattle.xt_special.specs.Interrupts.{pending_level, pending_of}
use Rattle.xt_trace.specs.Worlds.{answer}
use Rattle.xt_timeless.specs.Time.{fetches_time}
use Rattle.xt_rows.specs.RowLaws.{IsWord}
use Rattle.xt_exec.specs.State.{State}
use Rattle.xt_exec.specs.Turn.{demand, planned_turn, turn}
use Rattle.xt_exec.specs.TurnLaws.{IsShaped}
use Rattle.xt_exec.proofs.Served.{demand_served}
use Rattle.xt_exec.proofs.Shapes.{turn_shaped}
use Rattle.xt_uses.specs.Words.{all_bits}
use Rattle.xt_uses.specs.UseLaws.{AgreeIn}
use Rattle.xt_uses.proofs.Owb.{all_agree_word}
use Rattle.xt_simulation.specs.Knowledge.{Knowledge}
use Rattle.xt_simulation.specs.SecretLaws.{AccessAgrees, FitsAccess}
use Rattle.xt_moments.specs.Awaiting.{IsApart, IsDeaf, IsReady, bit_of}
use Rattle.xt_moments.specs.Moments.{MomentCore, armed_by_fetched, is_armed, with_special}
use Rattle.xt_moments.specs.MomentLaws.{IsMomentKnown, moment_used}
use Rattle.xt_moments.specs.WorldLaws.{CoresAgree, begun}
use Rattle.xt_moments.proofs.Moments.{moment_turns_agree, put_shaped}
use Rattle.xt_moments.proofs.MovedWorlds.{answer_small}

asks_none : (stored : ℕ) (a b : Option Access) → AccessAgrees stored a b → a ≡ None → b ≡ None
asks_none stored None None h e = refl
asks_none stored None (Some b) h e = absurd h
asks_none stored (Some a) b h e = absurd cc

access_is : (code : ℕ → ℕ) (s : State) (reply : ℕ) → (turn code s reply).0.access ≡ demand code s
unfolding turn
access_is code s reply = refl

planned_is : (code : ℕ → ℕ) (s : State) → demand code s ≡ (planned_turn code s).access
unfolding demand
planned_is code s = refl

module _ (code : ℕ → ℕ) (bytes : AreBytes code) (m : Knowledge) (h : IsMomentKnown m)
    (j k : MomentCore)
    (f : IsShaped j.state) (g : IsShaped k.state) (agree : CoresAgree m j k) where
  -- a special register of which each bit is known
  whole : (n : ℕ) → m.special n ≡ all_bits → special_of j.state.control n
      ≡ special_of k.state.control n
  whole n known =
      all_agree_word (special_of j.state.control n) (special_of k.state.control n)
      (f.control.words n) (g.control.words n)
      (subst (λ mask. AgreeIn mask (special_of j.state.control n)
      (special_of k.state.control n)) known (agree.state.special n))

  interrupt : special_of j.state.control 226 ≡ special_of k.state.control 226
  interrupt = whole 226 (h.others 226 refl refl)

  enabled : special_of j.state.control 228 ≡ special_of k.state.control 228
  enabled = whole 228 (h.others 228 refl refl)

  level_with : (x : MomentCore) → IsShaped x.state → (v : ℕ)
      → pending_of (with_special 226 v x.state).control ≡ pending_level v
      (special_of x.state.control 228) x.state.control.ps
  level_with x shaped v =
      let count = shaped.control.count in
      (λ i. pending_level (get_or-set_same x.state.control.special 226 v 0 (omega (arith, count)) i)
      (get_or-set_other x.state.control.special 226 228 v 0 (λ e. omega
      (arith, e)) i) x.state.control.ps)

  deaf_too : (timer : ℕ) → IsDeaf code timer j → IsDeaf code timer k
  deaf_too timer d = record {
    few = d.few;
    armed = ap (λ (a : ℕ). not (eqb (bit_and a (bit_of timer)) 0)) (sym agree.armed) ∙ d.armed;
    pending =
        level_with k g (bit_or (special_of k.state.control 226) (bit_of timer))
        ∙ sym (λ i. pending_level (bit_or (interrupt i) (bit_of timer)) (enabled i)
        (agree.state.ps i))
        ∙ sym (level_with j f (bit_or (special_of j.state.control 226) (bit_of timer)))
        ∙ d.pending
        ∙ (λ i. pending_level (interrupt i) (enabled i) (agree.state.ps i));
    free = ap (λ (pc : ℕ). fetches_time (fetch_at code pc)) (sym agree.state.pc) ∙ d.free;
    arms_none = ap (λ (pc : ℕ). armed_by_fetched (fetch_at code pc)) (sym agree.state.pc)
        ∙ d.arms_none;
  }

  -- if the other core has stopped, and none of its timers is armed
  pub alone_too : (other : MomentCore) (memory : MemoryContents) → IsMemory memory
      → other.stopped ≡ true → other.armed ≡ 0
      → IsApart code true k other memory
  alone_too other memory is stopped none = (
    stopped,
    none,
    λ count small. answer_small memory (demand code (begun count k)) is
        (demand_served code (begun count k)),
  )

  -- if the turn of the one makes no access, and uses known bits alone
  pub local_too : (reply : ℕ) → IsWord reply → FitsAccess (planned_turn code
      (begun 0 j)).access reply
      → moment_used code reply m (begun 0 j) ≡ true → demand code (begun 0 j) ≡ None
      → (other : MomentCore) (memory : MemoryContents) → IsApart code false k other memory
  local_too reply word fits used none other memory count small =
      let t = moment_turns_agree code m j.state k.state 0 count reply 0 0 bytes h f g agree.state
      (omega arith) small word (omega arith) (omega arith) refl fits used in
      sym (access_is code (begun count k) 0)
      ∙ asks_none _ _ _ t.turns.access (access_is code (begun 0 j) 0 ∙ none)

  -- so it is ready with these timers armed
  pub ready_too : (armed : ℕ) (alone : Bool) (other : MomentCore) (memory : MemoryContents)
      → j.armed ≡ armed
      → ((timer : ℕ) → timer < 3 → is_armed timer j ≡ true → IsDeaf code timer j ×
      (without_bits j.armed (bit_of timer) ≡ 0))
      → IsApart code alone k other memory → IsReady code armed alone k other memory
  ready_too armed alone other memory is deaf apart =
      let count = g.control.count in record {
        armed_is = sym agree.armed ∙ is;
        deaf = λ timer few on.
            let d = deaf timer few (ap (λ (a : ℕ). not (eqb (bit_and a
            (bit_of timer)) 0)) agree.armed ∙ on) in (
              deaf_too timer d.0,
              ap (λ (a : ℕ). without_bits a (bit_of timer)) (sym agree.armed)
                  ∙ d.1,
            );
        long = omega (arith, count);
        after_long = λ n reply small word.
            let u = turn_shaped code (begun n k) reply bytes (put_shaped 234 n k.state (λ e. omega
            (arith, e)) (λ e. omega (arith, e)) small g) word in
            let long = u.control.count in omega (arith, long);
        apart = apart;
      }
