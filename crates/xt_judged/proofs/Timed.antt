-- A turn of a run and the turn of the scene that stands for it, where time belongs to both.
use Rattle.std.proofs.Common.{◌≡◌, ℕ, zero, suc, ◌<◌, Bool, true, false, cond, eqb, ◌||◌, Option, None, refl, sym, ap, ◌∙◌, subst, arith}
use Rattle.std.specs.Prelude.{is_some}
use Rattle.std.proofs.lemmas.Bool.{eqb-true, false_from_ne_true, true≢false}
use Rattle.xt_map.specs.declared.access.Access.{Access}
use Rattle.xt_map.specs.declared.contents.MemoryContents.{MemoryContents}
use Rattle.xt_trace.specs.declared.record.StepRecord.{StepRecord}
use Rattle.xt_trace.specs.Chip.{Chip}
use Rattle.xt_trace.specs.Walks.{next_record}
use Rattle.xt_trace.specs.Worlds.{Core, World, answer, give}
use Rattle.xt_exec.specs.State.{State}
use Rattle.xt_frames.specs.SaveAreas.{is_live}
use Rattle.xt_frames.specs.Breaches.{Bounds}
use Rattle.xt_frames.specs.Judging.{Standing, Seen, Handled, Judges, Breaks, seen_record}
use Rattle.xt_frames.specs.Verdict.{Known, judgement, passed_0, passed_1, past_handled_0, past_handled_1, past_judged_0, past_judged_1, seen_0, seen_1}
use Rattle.xt_outcomes.specs.Spots.{Side, Spot, side_given, side_in, side_of, side_past, spot_in, spot_past}
use Rattle.xt_outcomes.proofs.Spotted.{spot_given}
use Rattle.xt_judged.specs.Alone.{is_other, only_after}
use Rattle.xt_judged.specs.Scenes.{Scene, is_idle, passed, record_of, scene_past, seen_at}
use Rattle.xt_judged.proofs.Quiet.{IsAsSeen, quiet_as}
use Rattle.xt_judged.proofs.Walking.{Turned0, Turned1, TurnedOne}

-- ---- a core that makes a turn is not idle

left_some : (n : ℕ) → 0 < n → eqb n 0 ≡ false
left_some n less = false_from_ne_true (eqb n 0) (λ t. let e = eqb-true n 0 t in absurd (omega (arith, e, less)))

pub busy : (c : ℕ) (z : Scene) → z.breach ≡ None → is_other c z.only ≡ false → 0 < (side_of c z.spot).left → is_idle c z ≡ false
busy c z none alone some = λ i. is_some (none i) || (alone i || left_some (side_of c z.spot).left some i)

module _ (P : Chip State) (code : ℕ → ℕ) (b0 b1 : Bounds) (R : Scene → Type 0)
    (safe : (z : Scene) → R z → z.breach ≡ None) (closed : (c : ℕ) (z : Scene) → c < 2 → R z → R (scene_past P code b0 b1 true c z)) where
  -- ---- what stands for what

  pub record On (w : World State) (k : Known) (z : Scene) : Type 0 where
    pub spot : z.spot ≡ spot_in true w
    pub standing0 : z.standing0 ≡ k.standing0
    pub standing1 : z.standing1 ≡ k.standing1
    pub stale : z.stale ≡ k.stale
    pub reached : R z

  pub record OnOne (c : Core State) (st : Standing) (z : Scene) : Type 0 where
    pub side : z.spot.side1 ≡ side_in true c
    pub standing : z.standing1 ≡ st
    pub reached : R z

  pub one_of : (w : World State) (k : Known) (z : Scene) → On w k z → OnOne w.core1 k.standing1 z
  one_of w k z on = record { side = ap (λ (s : Spot State). s.side1) on.spot; standing = on.standing1; reached = on.reached }

  -- the turn of a scene whose record and what is seen in it are known
  past_is : (c : ℕ) (z : Scene) (x : StepRecord) (s : Seen) → R z → is_other c z.only ≡ false → 0 < (side_of c z.spot).left → record_of P c z ≡ x → seen_at code b0 b1 c z x ≡ s
      → scene_past P code b0 b1 true c z ≡ passed P true c z x s
  past_is c z x s r alone some is sees =
      ap (λ (b : Bool). cond b z (passed P true c z (record_of P c z) (seen_at code b0 b1 c z (record_of P c z)))) (busy c z (safe z r) alone some)
      ∙ ap (λ (y : StepRecord). passed P true c z y (seen_at code b0 b1 c z y)) is ∙ ap (passed P true c z x) sees

  no_breach : (z : Scene) → R z → is_some z.breach ≡ true → ⊥
  no_breach z r e = true≢false (sym e ∙ ap is_some (safe z r))

  -- ---- core 0

  module _ (w : World State) (k : Known) (z : Scene) (on : On w k z) (alone : is_other 0 z.only ≡ false) (some : 0 < w.core0.left) where
    x0 : StepRecord
    x0 = next_record P w.core0 w.line

    record0 : record_of P 0 z ≡ next_record P w.core0 w.line
    record0 = ap (λ (s : Spot State). (P.turn s.side0.state (answer (P.demand s.side0.state) s.memory)).0) on.spot

    sees0 : seen_at code b0 b1 0 z (next_record P w.core0 w.line) ≡ seen_0 code b0 b1 k (next_record P w.core0 w.line)
    sees0 = λ i. seen_record code b0 (on.standing0 i) (is_live b1.range (on.standing1 i).frame) (on.stale i) (next_record P w.core0 w.line)

    left0 : 0 < z.spot.side0.left
    left0 = subst (λ (s : Spot State). 0 < s.side0.left) (sym on.spot) some

    led0 : (s : Seen) → seen_0 code b0 b1 k (next_record P w.core0 w.line) ≡ s → R (passed P true 0 z (next_record P w.core0 w.line) s)
    led0 s e = subst R (past_is 0 z (next_record P w.core0 w.line) s on.reached alone left0 record0 (sees0 ∙ e)) (closed 0 z (omega arith) on.reached)

    spot0 : spot_past P true 0 z.spot ≡ spot_in true (give P 0 w)
    spot0 = ap (spot_past P true 0) on.spot ∙ sym (spot_given P 0 w)

    by_seen0 : (s : Seen) → seen_0 code b0 b1 k (next_record P w.core0 w.line) ≡ s → Turned0 P code b0 b1 (λ (y : Scene). y.only) On OnOne w k
    by_seen0 (Handled st) e = (
      passed P true 0 z (next_record P w.core0 w.line) (Handled st),
      past_handled_0 st k,
      record { spot = spot0; standing0 = refl; standing1 = on.standing1; stale = on.stale; reached = led0 (Handled st) e },
      refl,
      refl,
      λ cores xs ys. ap (λ (s : Seen). passed_0 s k (next_record P w.core0 w.line) (λ n. judgement code b0 b1 cores xs ys n)) e,
    )
    by_seen0 (Judges st stale) e = (
      passed P true 0 z (next_record P w.core0 w.line) (Judges st stale),
      past_judged_0 st stale (next_record P w.core0 w.line) k,
      record { spot = spot0; standing0 = refl; standing1 = on.standing1; stale = refl; reached = led0 (Judges st stale) e },
      refl,
      refl,
      λ cores xs ys. ap (λ (s : Seen). passed_0 s k (next_record P w.core0 w.line) (λ n. judgement code b0 b1 cores xs ys n)) e,
    )
    by_seen0 (Breaks kind) e = absurd (no_breach (passed P true 0 z (next_record P w.core0 w.line) (Breaks kind)) (led0 (Breaks kind) e) refl)

    pub turn0 : Turned0 P code b0 b1 (λ (y : Scene). y.only) On OnOne w k
    turn0 = by_seen0 (seen_0 code b0 b1 k (next_record P w.core0 w.line)) refl

  -- ---- core 1

  module _ (w : World State) (k : Known) (z : Scene) (on : On w k z) (alone : is_other 1 z.only ≡ false) (some : 0 < w.core1.left) where
    record1 : record_of P 1 z ≡ next_record P w.core1 w.line
    record1 = ap (λ (s : Spot State). (P.turn s.side1.state (answer (P.demand s.side1.state) s.memory)).0) on.spot

    sees1 : seen_at code b0 b1 1 z (next_record P w.core1 w.line) ≡ seen_1 code b0 b1 k (next_record P w.core1 w.line)
    sees1 = λ i. seen_record code b1 (on.standing1 i) (is_live b0.range (on.standing0 i).frame) (on.stale i) (next_record P w.core1 w.line)

    left1 : 0 < z.spot.side1.left
    left1 = subst (λ (s : Spot State). 0 < s.side1.left) (sym on.spot) some

    led1 : (s : Seen) → seen_1 code b0 b1 k (next_record P w.core1 w.line) ≡ s → R (passed P true 1 z (next_record P w.core1 w.line) s)
    led1 s e = subst R (past_is 1 z (next_record P w.core1 w.line) s on.reached alone left1 record1 (sees1 ∙ e)) (closed 1 z (omega arith) on.reached)

    spot1 : spot_past P true 1 z.spot ≡ spot_in true (give P 1 w)
    spot1 = ap (spot_past P true 1) on.spot ∙ sym (spot_given P 1 w)

    by_seen1 : (s : Seen) → seen_1 code b0 b1 k (next_record P w.core1 w.line) ≡ s → Turned1 P code b0 b1 (λ (y : Scene). y.only) On OnOne w k
    by_seen1 (Handled st) e = (
      passed P true 1 z (next_record P w.core1 w.line) (Handled st),
      past_handled_1 st k,
      record { spot = spot1; standing0 = on.standing0; standing1 = refl; stale = on.stale; reached = led1 (Handled st) e },
      refl,
      λ cores xs ys. ap (λ (s : Seen). passed_1 s k (next_record P w.core1 w.line) (λ n. judgement code b0 b1 cores xs ys n)) e,
    )
    by_seen1 (Judges st stale) e = (
      passed P true 1 z (next_record P w.core1 w.line) (Judges st stale),
      past_judged_1 st stale (next_record P w.core1 w.line) k,
      record { spot = spot1; standing0 = on.standing0; standing1 = refl; stale = refl; reached = led1 (Judges st stale) e },
      refl,
      λ cores xs ys. ap (λ (s : Seen). passed_1 s k (next_record P w.core1 w.line) (λ n. judgement code b0 b1 cores xs ys n)) e,
    )
    by_seen1 (Breaks kind) e = absurd (no_breach (passed P true 1 z (next_record P w.core1 w.line) (Breaks kind)) (led1 (Breaks kind) e) refl)

    pub turn1 : Turned1 P code b0 b1 (λ (y : Scene). y.only) On OnOne w k
    turn1 = by_seen1 (seen_1 code b0 b1 k (next_record P w.core1 w.line)) refl

  -- ---- core 1 beside another core 0, where it makes no access

  module _ (w : World State) (k : Known) (z : Scene) (on : OnOne w.core1 k.standing1 z) (alone : is_other 1 z.only ≡ false) (some : 0 < w.core1.left) (none : (next_record P w.core1 w.line).access ≡ None) where
    asks_none : P.demand w.core1.state ≡ None
    asks_none = sym (P.asks w.core1.state (answer (P.demand w.core1.state) w.line.memory)) ∙ none

    -- whatever memory is
    any_memory : (m n : MemoryContents) → answer (P.demand w.core1.state) m ≡ answer (P.demand w.core1.state) n
    any_memory m n = ap (λ (d : Option Access). answer d m) asks_none ∙ sym (ap (λ (d : Option Access). answer d n) asks_none)

    record_one : record_of P 1 z ≡ next_record P w.core1 w.line
    record_one =
        ap (λ (s : Side State). (P.turn s.state (answer (P.demand s.state) z.spot.memory)).0) on.side
        ∙ ap (λ (r : ℕ). (P.turn w.core1.state r).0) (any_memory z.spot.memory w.line.memory)

    sees_one : (s : Seen) → seen_at code b0 b1 1 z (next_record P w.core1 w.line) ≡ s → IsAsSeen s (seen_1 code b0 b1 k (next_record P w.core1 w.line))
    sees_one s e =
        let here = quiet_as code b1 z.standing1 (is_live b0.range z.standing0.frame) z.stale (is_live b0.range k.standing0.frame) k.stale (next_record P w.core1 w.line) none in
        let there = subst (λ (t : Standing). IsAsSeen (seen_at code b0 b1 1 z (next_record P w.core1 w.line)) (seen_record code b1 t (is_live b0.range k.standing0.frame) k.stale (next_record P w.core1 w.line))) on.standing here in
        subst (λ (t : Seen). IsAsSeen t (seen_1 code b0 b1 k (next_record P w.core1 w.line))) e there

    left_one : 0 < z.spot.side1.left
    left_one = subst (λ (s : Side State). 0 < s.left) (sym on.side) some

    led_one : (s : Seen) → seen_at code b0 b1 1 z (next_record P w.core1 w.line) ≡ s → R (passed P true 1 z (next_record P w.core1 w.line) s)
    led_one s e = subst R (past_is 1 z (next_record P w.core1 w.line) s on.reached alone left_one record_one e) (closed 1 z (omega arith) on.reached)

    given_any : (n : ℕ) (m l : MemoryContents) → side_given P true n (side_in true w.core1) m ≡ side_given P true n (side_in true w.core1) l
    given_any zero m l = refl
    given_any (suc n) m l = ap (side_past P true (side_in true w.core1) n) (any_memory m l)

    side_one : (spot_past P true 1 z.spot).side1 ≡ side_in true (give P 1 w).core1
    side_one =
        ap (λ (s : Side State). side_given P true s.left s z.spot.memory) on.side
        ∙ given_any w.core1.left z.spot.memory w.line.memory
        ∙ sym (ap (λ (s : Spot State). s.side1) (spot_given P 1 w))

    by_both : (s t : Seen) → seen_at code b0 b1 1 z (next_record P w.core1 w.line) ≡ s → seen_1 code b0 b1 k (next_record P w.core1 w.line) ≡ t → IsAsSeen s t
        → TurnedOne P code b0 b1 (λ (y : Scene). y.only) On OnOne w k
    by_both (Handled st) (Handled su) e f same = (
      passed P true 1 z (next_record P w.core1 w.line) (Handled st),
      past_handled_1 su k,
      record { side = side_one; standing = same; reached = led_one (Handled st) e },
      ap (only_after 1) none,
      λ cores xs ys. ap (λ (s : Seen). passed_1 s k (next_record P w.core1 w.line) (λ n. judgement code b0 b1 cores xs ys n)) f,
    )
    by_both (Judges st stale) (Judges su rest) e f same = (
      passed P true 1 z (next_record P w.core1 w.line) (Judges st stale),
      past_judged_1 su rest (next_record P w.core1 w.line) k,
      record { side = side_one; standing = same; reached = led_one (Judges st stale) e },
      ap (only_after 1) none,
      λ cores xs ys. ap (λ (s : Seen). passed_1 s k (next_record P w.core1 w.line) (λ n. judgement code b0 b1 cores xs ys n)) f,
    )
    by_both (Breaks kind) t e f same = absurd (no_breach (passed P true 1 z (next_record P w.core1 w.line) (Breaks kind)) (led_one (Breaks kind) e) refl)
    by_both (Handled st) (Judges su rest) e f same = absurd same
    by_both (Handled st) (Breaks kind) e f same = absurd same
    by_both (Judges st stale) (Handled su) e f same = absurd same
    by_both (Judges st stale) (Breaks kind) e f same = absurd same

    pub turn_one : TurnedOne P code b0 b1 (λ (y : Scene). y.only) On OnOne w k
    turn_one =
        by_both (seen_at code b0 b1 1 z (next_record P w.core1 w.line)) (seen_1 code b0 b1 k (next_record P w.core1 w.line)) refl refl
        (sees_one (seen_at code b0 b1 1 z (next_record P w.core1 w.line)) refl)
