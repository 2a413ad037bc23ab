-- A turn of a kept world that may come before other moves: it leads on from each world that the kept
-- one stands for.
use Rattle.std.proofs.Common.{◌≡◌, ℕ, zero, suc, ◌<◌, Bool, true, false, cond, ◌||◌, Option, None}
use Rattle.std.proofs.Common.{List, []}
use Rattle.std.proofs.Common.{◌∷◌, refl, sym, ap, ◌∙◌, subst, arith}
use Rattle.xt_map.specs.declared.access.Access.{Access}
use Rattle.xt_map.specs.declared.contents.MemoryContents.{MemoryContents}
use Rattle.xt_map.specs.Touching.{IsMemory}
use Rattle.xt_map.specs.Code.{AreBytes}
use Rattle.xt_rows.specs.RowLaws.{IsWord}
use Rattle.xt_exec.specs.Turn.{demand, planned_turn}
use Rattle.xt_exec.specs.TurnLaws.{IsShaped}
use Rattle.xt_exec.proofs.Served.{demand_served}
use Rattle.xt_simulation.specs.Knowledge.{Knowledge}
use Rattle.xt_simulation.specs.SecretLaws.{FitsAccess}
use Rattle.xt_simulation.specs.SecretWorlds.{Learned}
use Rattle.xt_simulation.proofs.Worlds.{reply_fits, reply_small}
use Rattle.xt_moments.specs.Awaiting.{Awaits, IsApart, Made}
use Rattle.xt_moments.specs.Forcing.{IsForced}
use Rattle.xt_moments.specs.Moments.{MomentCore, MomentWorld, moved}
use Rattle.xt_moments.specs.declared.moves.Move.TheVariants as move
use Rattle.xt_moments.specs.MomentLaws.{IsMomentKnown, moment_used}
use Rattle.xt_moments.specs.WorldLaws.{AreAlike, CoresAgree, begun, core_used, move_learned}
use Rattle.xt_moments.specs.WorldLaws.{reply_known}
use Rattle.xt_moments.proofs.MovedWorlds.{moves_go_on_alike}
use Rattle.xt_moments.proofs.Ready.{alone_too, local_too, ready_too}

planned_is : (code : ℕ → ℕ) (k : MomentCore) → demand code (begun 0 k)
    ≡ (planned_turn code (begun 0 k)).access
unfolding demand
planned_is code k = refl

apart_too : (code : ℕ → ℕ) → AreBytes code → (m n : Knowledge) → IsMomentKnown m → (bytes : ℕ → ℕ)
    → (armed : ℕ) (alone : Bool) (j k other another : MomentCore) (memory : MemoryContents)
    → IsShaped j.state → IsShaped k.state → CoresAgree m j k → CoresAgree n other another
    → IsMemory memory
    → IsForced code armed alone j other → core_used code 0 j bytes m ≡ true
    → IsApart code alone k another memory
apart_too code are m n h bytes armed true j k other another memory f g agree others is forced used =
    let s = forced.stopped refl in
    alone_too code are m h j k f g agree another memory is (sym others.stopped
    ∙ s.0) (sym others.armed ∙ s.1)
apart_too code are m n h bytes armed false j k other another memory f g agree others is forced used
    =
    local_too code are m h j k f g agree (reply_known code 0 j bytes)
    (reply_small bytes (demand code (begun 0 j)) (demand_served code (begun 0 j)))
    (subst (λ a. FitsAccess a (reply_known code 0 j bytes)) (planned_is code j) (reply_fits bytes
    (demand code (begun 0 j))))
    (sym (ap (λ b. b || moment_used code (reply_known code 0 j bytes) m
    (begun 0 j)) forced.going) ∙ used)
    (forced.local refl) another memory

abbrev entry : ℕ → ℕ → Bool → Made
entry c armed alone = record { core = c; armed = armed; alone = alone }

module _ (code : ℕ → ℕ) (are : AreBytes code) (armed : ℕ) (alone : Bool) (v u : MomentWorld)
    (k : Learned) (h : AreAlike k v u) where
  pub forced0 : IsForced code armed alone v.core0 v.core1 → core_used code 0 v.core0 k.bytes
      k.core0 ≡ true
      → Awaits code (AreAlike (move_learned code 0 (move.Turn 0) v k) (moved code 0
      (move.Turn 0) v)) (entry 0 armed alone ∷ []) u
  forced0 forced used = (
    ready_too code are k.core0 h.learned.core0 v.core0 u.core0 h.shaped.core0 h.other.core0
        h.agree.core0 armed alone u.core1 u.memory
        forced.armed_is forced.deaf
        (apart_too code are k.core0 k.core1 h.learned.core0 k.bytes armed alone v.core0 u.core0
        v.core1 u.core1 u.memory h.shaped.core0 h.other.core0
        h.agree.core0 h.agree.core1 h.other.memory forced used),
    λ count small. moves_go_on_alike code 0 count (move.Turn 0) v u k are (omega arith) small
        (omega arith) h used,
  )

  pub forced1 : IsForced code armed alone v.core1 v.core0 → core_used code 0 v.core1 k.bytes
      k.core1 ≡ true
      → Awaits code (AreAlike (move_learned code 0 (move.Turn 1) v k) (moved code 0
      (move.Turn 1) v)) (entry 1 armed alone ∷ []) u
  forced1 forced used = (
    ready_too code are k.core1 h.learned.core1 v.core1 u.core1 h.shaped.core1 h.other.core1
        h.agree.core1 armed alone u.core0 u.memory
        forced.armed_is forced.deaf
        (apart_too code are k.core1 k.core0 h.learned.core1 k.bytes armed alone v.core1 u.core1
        v.core0 u.core0 u.memory h.shaped.core1 h.other.core1
        h.agree.core1 h.agree.core0 h.other.memory forced used),
    λ count small. moves_go_on_alike code 0 count (move.Turn 1) v u k are (omega arith) small
        (omega arith) h used,
  )
