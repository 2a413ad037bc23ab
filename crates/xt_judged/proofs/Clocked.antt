-- A turn of a run and the turn of the scene that stands for it without time.
use Rattle.std.proofs.Common.{◌≡◌, ℕ, zero, suc, ◌<◌, ◌≤◌, Bool, true, false, cond, not, ◌&&◌, ◌||◌, Option, None, refl, sym, ap, ◌∙◌, subst, inr, ⊎_elim, arith}
use Rattle.std.specs.Prelude.{is_some}
use Rattle.std.proofs.lemmas.Bool.{or_parts, true≢false}
use Rattle.xt_map.specs.declared.access.Access.{Access}
use Rattle.xt_map.specs.declared.contents.MemoryContents.{MemoryContents}
use Rattle.xt_special.specs.Control.{special_of}
use Rattle.xt_trace.specs.declared.record.RegWrite.{RegWrite}
use Rattle.xt_trace.specs.declared.record.StepKind.{StepKind}
use Rattle.xt_trace.specs.declared.record.StepRecord.{StepRecord}
use Rattle.xt_trace.specs.Traces.{has_stopped}
use Rattle.xt_trace.specs.Walks.{next_record}
use Rattle.xt_trace.specs.Worlds.{Core, World, answer, give}
use Rattle.xt_map.specs.Code.{AreBytes}
use Rattle.xt_exec.specs.Chips.{processor}
use Rattle.xt_exec.specs.State.{State}
use Rattle.xt_exec.specs.Turn.{demand, reply_where, turn, write_with_reply}
use Rattle.xt_frames.specs.SaveAreas.{is_live}
use Rattle.xt_frames.specs.Breaches.{Bounds}
use Rattle.xt_frames.specs.Judging.{Standing, Seen, Handled, Judges, Breaks, seen_record}
use Rattle.xt_frames.specs.Verdict.{Known, judgement, passed_0, passed_1, past_handled_0, past_handled_1, past_judged_0, past_judged_1, seen_0, seen_1}
use Rattle.xt_timeless.specs.Bare.{Bare, BareWorld, bare_given, bare_in, bare_memory, bare_past}
use Rattle.xt_timeless.specs.TimeLaws.{HasTurns, HaveTurns}
use Rattle.xt_timeless.specs.Alike.{Clocks}
use Rattle.xt_timeless.specs.Time.{uses_time, without_time}
use Rattle.xt_timeless.proofs.Going.{bare_gives, same_demand}
use Rattle.xt_timeless.proofs.Lists.{cleared_alike}
use Rattle.xt_timeless.proofs.Turning.{turns_alike}
use Rattle.xt_outcomes.specs.Spots.{Side, Spot, memory_given, side_bars, side_given, side_in, side_of, side_past, spot_in, spot_past}
use Rattle.xt_outcomes.proofs.Untimed.{side_free}
use Rattle.xt_judged.specs.Alone.{is_other, only_after}
use Rattle.xt_judged.specs.Scenes.{Scene, is_idle, passed, record_of, scene_bars, scene_past, seen_at, standing_of}
use Rattle.xt_judged.specs.Timeless.{frame_uses_time}
use Rattle.xt_judged.proofs.Quiet.{IsAsSeen, quiet_as}
use Rattle.xt_judged.proofs.Sight.{IsKeptSeen, IsKeptStanding, IsSameRecord, seen_kept}
use Rattle.xt_judged.proofs.Stepping.{unlike_special}
use Rattle.xt_judged.proofs.Timed.{busy}
use Rattle.xt_judged.proofs.Walking.{Turned0, Turned1, TurnedOne}

-- ---- records

same_record : (code : ℕ → ℕ) → AreBytes code → (s : State) (m : MemoryContents) → uses_time code s ≡ false
    → IsSameRecord (turn code (without_time s) (answer (demand code (without_time s)) m)).0 (turn code s (answer (demand code s) m)).0
unfolding turn
same_record code bytes s m free =
    let u = without_time s in
    let same = turns_alike code bytes s free in
    let d = same_demand code s u same in
    let replies : answer (demand code s) m ≡ answer (demand code u) m = λ i. answer (d i) m in
    let make : StepKind → Option RegWrite → Option Access → ℕ → StepRecord = λ what write access reply. record {
      pc = s.control.pc;
      kind = what;
      write = write;
      access = access;
      reply = reply;
      ccount = special_of s.control 234;
      owb = s.control.ps.owb;
      interrupt = special_of s.control 226;
    } in
    record {
      is = λ i. make (same.kind i) (write_with_reply (same.write i) (same.awaited i) (replies i)) (d i) (reply_where (d i) (replies i));
      interrupt = (cleared_alike s.control.special).interrupt;
    }

-- ---- what is kept of a world

abbrev side_from : Bare → Side State
side_from k = record { state = k.state; left = cond k.stopped 0 1; stopped = k.stopped }

abbrev spot_from : BareWorld → Spot State
spot_from w = record { side0 = side_from w.core0; side1 = side_from w.core1; memory = w.memory }

module _ (code : ℕ → ℕ) where
  side_step : (s : State) (b : Bool) (m : MemoryContents) → side_given (processor code) false (cond b 0 1) (side_from (record { state = s; stopped = b })) m ≡ side_from (bare_past code (record { state = s; stopped = b }) m)
  side_step s true m = refl
  side_step s false m = refl

  memory_step : (s : State) (b : Bool) (m : MemoryContents) → memory_given (processor code) (cond b 0 1) s m ≡ bare_memory code (record { state = s; stopped = b }) m
  memory_step s true m = refl
  memory_step s false m = refl

  spot_step : (c : ℕ) (w : BareWorld) → spot_past (processor code) false c (spot_from w) ≡ spot_from (bare_given code c w)
  spot_step zero w =
      let make : Side State → MemoryContents → Spot State = λ k m. record { side0 = k; side1 = side_from w.core1; memory = m } in
      λ i. make (side_step w.core0.state w.core0.stopped w.memory i) (memory_step w.core0.state w.core0.stopped w.memory i)
  spot_step (suc c) w =
      let make : Side State → MemoryContents → Spot State = λ k m. record { side0 = side_from w.core0; side1 = k; memory = m } in
      λ i. make (side_step w.core1.state w.core1.stopped w.memory i) (memory_step w.core1.state w.core1.stopped w.memory i)

-- a core that has stopped has no turn left
abbrev pub Ends : Core State → Type 0
Ends k = has_stopped k.records ≡ true → k.left ≡ 0

going_of : (k : Core State) → Ends k → 0 < k.left → has_stopped k.records ≡ false
going_of k ends some = by_test (has_stopped k.records) refl
  where
    by_test : (b : Bool) → has_stopped k.records ≡ b → has_stopped k.records ≡ false
    by_test true e = let none = ends e in absurd (omega (arith, none, some))
    by_test false e = e

-- with a turn left where it has not stopped
abbrev with_one : Core State → Core State
with_one k = record k { left = cond (has_stopped k.records) 0 1 }

one_left : (k : Core State) → HasTurns 1 (with_one k)
one_left k = (λ h. ap (λ (b : Bool). cond b 0 1) h, λ h. subst (λ (b : Bool). 1 ≤ cond b 0 1) (sym h) (omega arith))

module _ (code : ℕ → ℕ) (bytes : AreBytes code) where
  spot_0 : (w : World State) → Ends w.core0 → 0 < w.core0.left → uses_time code w.core0.state ≡ false
      → (spot_past (processor code) false 0 (spot_in false w) ≡ spot_in false (give (processor code) 0 w)) × Ends (give (processor code) 0 w).core0
  spot_0 w ends some free =
      let v : World State = record w { core1 = with_one w.core1 } in
      let h : HaveTurns 1 v = ((ends, λ going. omega (arith, some)), one_left w.core1) in
      let g = bare_gives code bytes 0 0 v h (inr free) in
      (spot_step code 0 (bare_in w) ∙ ap spot_from (sym g.0), g.1.0.0)

  spot_1 : (w : World State) → Ends w.core1 → 0 < w.core1.left → uses_time code w.core1.state ≡ false
      → (spot_past (processor code) false 1 (spot_in false w) ≡ spot_in false (give (processor code) 1 w)) × Ends (give (processor code) 1 w).core1
  spot_1 w ends some free =
      let v : World State = record w { core0 = with_one w.core0 } in
      let h : HaveTurns 1 v = (one_left w.core0, (ends, λ going. omega (arith, some))) in
      let g = bare_gives code bytes 0 1 v h (inr free) in
      (spot_step code 1 (bare_in w) ∙ ap spot_from (sym g.0), g.1.1.0)

not_barred : (idle b : Bool) → idle ≡ false → (not idle && b) ≡ false → b ≡ false
not_barred true b e h = absurd (true≢false e)
not_barred false b e h = h

module _ (code : ℕ → ℕ) (bytes : AreBytes code) (b0 b1 : Bounds) (R : Scene → Type 0)
    (safe : (z : Scene) → R z → z.breach ≡ None) (closed : (c : ℕ) (z : Scene) → c < 2 → R z → R (scene_past (processor code) code b0 b1 false c z))
    (free : (c : ℕ) (z : Scene) → c < 2 → R z → scene_bars code false c z ≡ false) where
  -- ---- what stands for what

  pub record On (w : World State) (k : Known) (z : Scene) : Type 0 where
    pub spot : z.spot ≡ spot_in false w
    pub ends0 : Ends w.core0
    pub ends1 : Ends w.core1
    pub standing0 : IsKeptStanding Clocks z.standing0 k.standing0
    pub standing1 : IsKeptStanding Clocks z.standing1 k.standing1
    pub stale : z.stale ≡ k.stale
    pub reached : R z

  pub record OnOne (c : Core State) (st : Standing) (z : Scene) : Type 0 where
    pub side : z.spot.side1 ≡ side_in false c
    pub ends : Ends c
    pub standing : IsKeptStanding Clocks z.standing1 st
    pub reached : R z

  pub one_of : (w : World State) (k : Known) (z : Scene) → On w k z → OnOne w.core1 k.standing1 z
  one_of w k z on = record { side = ap (λ (s : Spot State). s.side1) on.spot; ends = on.ends1; standing = on.standing1; reached = on.reached }

  past_is : (c : ℕ) (z : Scene) (s : Seen) → R z → is_other c z.only ≡ false → 0 < (side_of c z.spot).left → seen_at code b0 b1 c z (record_of (processor code) c z) ≡ s
      → scene_past (processor code) code b0 b1 false c z ≡ passed (processor code) false c z (record_of (processor code) c z) s
  past_is c z s r alone some sees =
      ap (λ (b : Bool). cond b z (passed (processor code) false c z (record_of (processor code) c z) (seen_at code b0 b1 c z (record_of (processor code) c z)))) (busy c z (safe z r) alone some)
      ∙ ap (passed (processor code) false c z (record_of (processor code) c z)) sees

  led : (c : ℕ) (z : Scene) (s : Seen) → c < 2 → R z → is_other c z.only ≡ false → 0 < (side_of c z.spot).left → seen_at code b0 b1 c z (record_of (processor code) c z) ≡ s
      → R (passed (processor code) false c z (record_of (processor code) c z) s)
  led c z s less r alone some sees = subst R (past_is c z s r alone some sees) (closed c z less r)

  no_breach : (z : Scene) → R z → is_some z.breach ≡ true → ⊥
  no_breach z r e = true≢false (sym e ∙ ap is_some (safe z r))

  -- the turn uses no time, nor does its step of the frame machine
  unused : (c : ℕ) (z : Scene) → c < 2 → R z → is_other c z.only ≡ false → 0 < (side_of c z.spot).left
      → (side_bars code false (side_of c z.spot) ≡ false) × (frame_uses_time code (standing_of c z).frame ≡ false)
  unused c z less r alone some =
      let both = not_barred (is_idle c z) (side_bars code false (side_of c z.spot) || frame_uses_time code (standing_of c z).frame) (busy c z (safe z r) alone some) (free c z less r) in
      let parts = or_parts (side_bars code false (side_of c z.spot)) (frame_uses_time code (standing_of c z).frame) both in
      (parts.0, parts.1)

  one_turn : (k : Core State) → Ends k → 0 < k.left → 0 < (side_in false k).left
  one_turn k ends some = subst (λ (b : Bool). 0 < cond b 0 1) (sym (going_of k ends some)) (omega arith)

  used_none : (k : Core State) → Ends k → 0 < k.left → side_bars code false (side_in false k) ≡ false → uses_time code k.state ≡ false
  used_none k ends some h =
      ⊎_elim (λ (x : has_stopped k.records ≡ true). absurd (true≢false (sym x ∙ going_of k ends some))) (λ (x : uses_time code k.state ≡ false). x) (side_free code bytes k h)

  -- ---- core 0

  module _ (w : World State) (k : Known) (z : Scene) (on : On w k z) (alone : is_other 0 z.only ≡ false) (some : 0 < w.core0.left) where
    left0 : 0 < z.spot.side0.left
    left0 = subst (λ (s : Spot State). 0 < s.side0.left) (sym on.spot) (one_turn w.core0 on.ends0 some)

    barred0 : (side_bars code false z.spot.side0 ≡ false) × (frame_uses_time code z.standing0.frame ≡ false)
    barred0 = unused 0 z (omega arith) on.reached alone left0

    time0 : uses_time code w.core0.state ≡ false
    time0 = used_none w.core0 on.ends0 some (subst (λ (s : Spot State). side_bars code false s.side0 ≡ false) on.spot barred0.0)

    record0 : IsSameRecord (record_of (processor code) 0 z) (next_record (processor code) w.core0 w.line)
    record0 =
        subst (λ (s : Spot State). IsSameRecord (turn code s.side0.state (answer (demand code s.side0.state) s.memory)).0 (next_record (processor code) w.core0 w.line)) (sym on.spot)
        (same_record code bytes w.core0.state w.line.memory time0)

    others0 : is_live b1.range z.standing1.frame ≡ is_live b1.range k.standing1.frame
    others0 = unlike_special (is_live b1.range) z.standing1.frame k.standing1.frame (λ list. refl) on.standing1.frame

    sees0 : IsKeptSeen Clocks (seen_at code b0 b1 0 z (record_of (processor code) 0 z)) (seen_0 code b0 b1 k (next_record (processor code) w.core0 w.line))
    sees0 =
        let x = record_of (processor code) 0 z in
        let y = next_record (processor code) w.core0 w.line in
        let here = seen_kept code b0 z.standing0 k.standing0 (is_live b1.range z.standing1.frame) z.stale x y bytes on.standing0 record0 barred0.1 in
        let live = subst (λ (l : ℕ → Bool). IsKeptSeen Clocks (seen_at code b0 b1 0 z x) (seen_record code b0 k.standing0 l z.stale y)) others0 here in
        subst (λ (l : ℕ → Bool). IsKeptSeen Clocks (seen_at code b0 b1 0 z x) (seen_record code b0 k.standing0 (is_live b1.range k.standing1.frame) l y)) on.stale live

    access0 : (record_of (processor code) 0 z).access ≡ (next_record (processor code) w.core0 w.line).access
    access0 = sym (ap (λ (r : StepRecord). r.access) record0.is)

    moved0 : (spot_past (processor code) false 0 z.spot ≡ spot_in false (give (processor code) 0 w)) × Ends (give (processor code) 0 w).core0
    moved0 = let m = spot_0 code bytes w on.ends0 some time0 in (ap (spot_past (processor code) false 0) on.spot ∙ m.0, m.1)

    by_both0 : (s t : Seen) → seen_at code b0 b1 0 z (record_of (processor code) 0 z) ≡ s → seen_0 code b0 b1 k (next_record (processor code) w.core0 w.line) ≡ t → IsKeptSeen Clocks s t
        → Turned0 (processor code) code b0 b1 (λ (y : Scene). y.only) On OnOne w k
    by_both0 (Handled st) (Handled su) e f same = (
      passed (processor code) false 0 z (record_of (processor code) 0 z) (Handled st),
      past_handled_0 su k,
      record {
        spot = moved0.0;
        ends0 = moved0.1;
        ends1 = on.ends1;
        standing0 = same;
        standing1 = on.standing1;
        stale = on.stale;
        reached = led 0 z (Handled st) (omega arith) on.reached alone left0 e;
      },
      ap (only_after 0) access0,
      refl,
      λ cores xs ys. ap (λ (s : Seen). passed_0 s k (next_record (processor code) w.core0 w.line) (λ n. judgement code b0 b1 cores xs ys n)) f,
    )
    by_both0 (Judges st stale) (Judges su rest) e f same = (
      passed (processor code) false 0 z (record_of (processor code) 0 z) (Judges st stale),
      past_judged_0 su rest (next_record (processor code) w.core0 w.line) k,
      record {
        spot = moved0.0;
        ends0 = moved0.1;
        ends1 = on.ends1;
        standing0 = same.0;
        standing1 = on.standing1;
        stale = same.1;
        reached = led 0 z (Judges st stale) (omega arith) on.reached alone left0 e;
      },
      ap (only_after 0) access0,
      refl,
      λ cores xs ys. ap (λ (s : Seen). passed_0 s k (next_record (processor code) w.core0 w.line) (λ n. judgement code b0 b1 cores xs ys n)) f,
    )
    by_both0 (Breaks kind) t e f same = absurd (no_breach (passed (processor code) false 0 z (record_of (processor code) 0 z) (Breaks kind)) (led 0 z (Breaks kind) (omega arith) on.reached alone left0 e) refl)
    by_both0 (Handled st) (Judges su rest) e f same = absurd same
    by_both0 (Handled st) (Breaks kind) e f same = absurd same
    by_both0 (Judges st stale) (Handled su) e f same = absurd same
    by_both0 (Judges st stale) (Breaks kind) e f same = absurd same

    pub turn0 : Turned0 (processor code) code b0 b1 (λ (y : Scene). y.only) On OnOne w k
    turn0 = by_both0 (seen_at code b0 b1 0 z (record_of (processor code) 0 z)) (seen_0 code b0 b1 k (next_record (processor code) w.core0 w.line)) refl refl sees0

  -- ---- core 1

  module _ (w : World State) (k : Known) (z : Scene) (on : On w k z) (alone : is_other 1 z.only ≡ false) (some : 0 < w.core1.left) where
    left1 : 0 < z.spot.side1.left
    left1 = subst (λ (s : Spot State). 0 < s.side1.left) (sym on.spot) (one_turn w.core1 on.ends1 some)

    barred1 : (side_bars code false z.spot.side1 ≡ false) × (frame_uses_time code z.standing1.frame ≡ false)
    barred1 = unused 1 z (omega arith) on.reached alone left1

    time1 : uses_time code w.core1.state ≡ false
    time1 = used_none w.core1 on.ends1 some (subst (λ (s : Spot State). side_bars code false s.side1 ≡ false) on.spot barred1.0)

    record1 : IsSameRecord (record_of (processor code) 1 z) (next_record (processor code) w.core1 w.line)
    record1 =
        subst (λ (s : Spot State). IsSameRecord (turn code s.side1.state (answer (demand code s.side1.state) s.memory)).0 (next_record (processor code) w.core1 w.line)) (sym on.spot)
        (same_record code bytes w.core1.state w.line.memory time1)

    others1 : is_live b0.range z.standing0.frame ≡ is_live b0.range k.standing0.frame
    others1 = unlike_special (is_live b0.range) z.standing0.frame k.standing0.frame (λ list. refl) on.standing0.frame

    sees1 : IsKeptSeen Clocks (seen_at code b0 b1 1 z (record_of (processor code) 1 z)) (seen_1 code b0 b1 k (next_record (processor code) w.core1 w.line))
    sees1 =
        let x = record_of (processor code) 1 z in
        let y = next_record (processor code) w.core1 w.line in
        let here = seen_kept code b1 z.standing1 k.standing1 (is_live b0.range z.standing0.frame) z.stale x y bytes on.standing1 record1 barred1.1 in
        let live = subst (λ (l : ℕ → Bool). IsKeptSeen Clocks (seen_at code b0 b1 1 z x) (seen_record code b1 k.standing1 l z.stale y)) others1 here in
        subst (λ (l : ℕ → Bool). IsKeptSeen Clocks (seen_at code b0 b1 1 z x) (seen_record code b1 k.standing1 (is_live b0.range k.standing0.frame) l y)) on.stale live

    access1 : (record_of (processor code) 1 z).access ≡ (next_record (processor code) w.core1 w.line).access
    access1 = sym (ap (λ (r : StepRecord). r.access) record1.is)

    moved1 : (spot_past (processor code) false 1 z.spot ≡ spot_in false (give (processor code) 1 w)) × Ends (give (processor code) 1 w).core1
    moved1 = let m = spot_1 code bytes w on.ends1 some time1 in (ap (spot_past (processor code) false 1) on.spot ∙ m.0, m.1)

    by_both1 : (s t : Seen) → seen_at code b0 b1 1 z (record_of (processor code) 1 z) ≡ s → seen_1 code b0 b1 k (next_record (processor code) w.core1 w.line) ≡ t → IsKeptSeen Clocks s t
        → Turned1 (processor code) code b0 b1 (λ (y : Scene). y.only) On OnOne w k
    by_both1 (Handled st) (Handled su) e f same = (
      passed (processor code) false 1 z (record_of (processor code) 1 z) (Handled st),
      past_handled_1 su k,
      record {
        spot = moved1.0;
        ends0 = on.ends0;
        ends1 = moved1.1;
        standing0 = on.standing0;
        standing1 = same;
        stale = on.stale;
        reached = led 1 z (Handled st) (omega arith) on.reached alone left1 e;
      },
      ap (only_after 1) access1,
      λ cores xs ys. ap (λ (s : Seen). passed_1 s k (next_record (processor code) w.core1 w.line) (λ n. judgement code b0 b1 cores xs ys n)) f,
    )
    by_both1 (Judges st stale) (Judges su rest) e f same = (
      passed (processor code) false 1 z (record_of (processor code) 1 z) (Judges st stale),
      past_judged_1 su rest (next_record (processor code) w.core1 w.line) k,
      record {
        spot = moved1.0;
        ends0 = on.ends0;
        ends1 = moved1.1;
        standing0 = on.standing0;
        standing1 = same.0;
        stale = same.1;
        reached = led 1 z (Judges st stale) (omega arith) on.reached alone left1 e;
      },
      ap (only_after 1) access1,
      λ cores xs ys. ap (λ (s : Seen). passed_1 s k (next_record (processor code) w.core1 w.line) (λ n. judgement code b0 b1 cores xs ys n)) f,
    )
    by_both1 (Breaks kind) t e f same = absurd (no_breach (passed (processor code) false 1 z (record_of (processor code) 1 z) (Breaks kind)) (led 1 z (Breaks kind) (omega arith) on.reached alone left1 e) refl)
    by_both1 (Handled st) (Judges su rest) e f same = absurd same
    by_both1 (Handled st) (Breaks kind) e f same = absurd same
    by_both1 (Judges st stale) (Handled su) e f same = absurd same
    by_both1 (Judges st stale) (Breaks kind) e f same = absurd same

    pub turn1 : Turned1 (processor code) code b0 b1 (λ (y : Scene). y.only) On OnOne w k
    turn1 = by_both1 (seen_at code b0 b1 1 z (record_of (processor code) 1 z)) (seen_1 code b0 b1 k (next_record (processor code) w.core1 w.line)) refl refl sees1

  -- ---- core 1 beside another core 0, where it makes no access

  module _ (w : World State) (k : Known) (z : Scene) (on : OnOne w.core1 k.standing1 z) (alone : is_other 1 z.only ≡ false) (some : 0 < w.core1.left)
      (none : (next_record (processor code) w.core1 w.line).access ≡ None) where
    left_one : 0 < z.spot.side1.left
    left_one = subst (λ (s : Side State). 0 < s.left) (sym on.side) (one_turn w.core1 on.ends some)

    barred_one : (side_bars code false z.spot.side1 ≡ false) × (frame_uses_time code z.standing1.frame ≡ false)
    barred_one = unused 1 z (omega arith) on.reached alone left_one

    time_one : uses_time code w.core1.state ≡ false
    time_one = used_none w.core1 on.ends some (subst (λ (s : Side State). side_bars code false s ≡ false) on.side barred_one.0)

    asks_none : demand code w.core1.state ≡ None
    asks_none = sym ((processor code).asks w.core1.state (answer (demand code w.core1.state) w.line.memory)) ∙ none

    any_memory : (m n : MemoryContents) → answer (demand code w.core1.state) m ≡ answer (demand code w.core1.state) n
    any_memory m n = ap (λ (d : Option Access). answer d m) asks_none ∙ sym (ap (λ (d : Option Access). answer d n) asks_none)

    record_one : IsSameRecord (record_of (processor code) 1 z) (next_record (processor code) w.core1 w.line)
    record_one =
        subst (λ (s : Side State). IsSameRecord (turn code s.state (answer (demand code s.state) z.spot.memory)).0 (next_record (processor code) w.core1 w.line)) (sym on.side)
        (subst (λ (r : ℕ). IsSameRecord (turn code (without_time w.core1.state) (answer (demand code (without_time w.core1.state)) z.spot.memory)).0 (turn code w.core1.state r).0)
        (any_memory z.spot.memory w.line.memory) (same_record code bytes w.core1.state z.spot.memory time_one))

    access_one : (record_of (processor code) 1 z).access ≡ (next_record (processor code) w.core1 w.line).access
    access_one = sym (ap (λ (r : StepRecord). r.access) record_one.is)

    -- beside the same core 0
    beside : IsKeptSeen Clocks (seen_at code b0 b1 1 z (record_of (processor code) 1 z))
        (seen_record code b1 k.standing1 (is_live b0.range z.standing0.frame) z.stale (next_record (processor code) w.core1 w.line))
    beside =
        seen_kept code b1 z.standing1 k.standing1 (is_live b0.range z.standing0.frame) z.stale (record_of (processor code) 1 z) (next_record (processor code) w.core1 w.line) bytes on.standing record_one
        barred_one.1

    others_one : IsAsSeen (seen_record code b1 k.standing1 (is_live b0.range z.standing0.frame) z.stale (next_record (processor code) w.core1 w.line)) (seen_1 code b0 b1 k (next_record (processor code) w.core1 w.line))
    others_one = quiet_as code b1 k.standing1 (is_live b0.range z.standing0.frame) z.stale (is_live b0.range k.standing0.frame) k.stale (next_record (processor code) w.core1 w.line) none

    moved_one : ((spot_past (processor code) false 1 z.spot).side1 ≡ side_in false (give (processor code) 1 w).core1) × Ends (give (processor code) 1 w).core1
    moved_one =
        let m = spot_1 code bytes w on.ends some time_one in
        let u = side_in false w.core1 in
        let asks : demand code (without_time w.core1.state) ≡ None = sym (same_demand code w.core1.state (without_time w.core1.state) (turns_alike code bytes w.core1.state time_one)) ∙ asks_none in (
          ap (λ (s : Side State). side_given (processor code) false s.left s z.spot.memory) on.side ∙ given_any asks u.left z.spot.memory w.line.memory ∙ ap (λ (s : Spot State). s.side1) m.0,
          m.1,
        )
      where
        given_any : demand code (without_time w.core1.state) ≡ None → (n : ℕ) (m l : MemoryContents) → side_given (processor code) false n (side_in false w.core1) m ≡ side_given (processor code) false n (side_in false w.core1) l
        given_any asks zero m l = refl
        given_any asks (suc n) m l =
            ap (side_past (processor code) false (side_in false w.core1) n) (ap (λ (d : Option Access). answer d m) asks ∙ sym (ap (λ (d : Option Access). answer d l) asks))

    by_three : (s t u : Seen) → seen_at code b0 b1 1 z (record_of (processor code) 1 z) ≡ s → seen_1 code b0 b1 k (next_record (processor code) w.core1 w.line) ≡ u → IsKeptSeen Clocks s t → IsAsSeen t u
        → TurnedOne (processor code) code b0 b1 (λ (y : Scene). y.only) On OnOne w k
    by_three (Handled st) (Handled su) (Handled sv) e f same like = (
      passed (processor code) false 1 z (record_of (processor code) 1 z) (Handled st),
      past_handled_1 sv k,
      record { side = moved_one.0; ends = moved_one.1; standing = subst (IsKeptStanding Clocks st) like same; reached = led 1 z (Handled st) (omega arith) on.reached alone left_one e },
      ap (only_after 1) (access_one ∙ none),
      λ cores xs ys. ap (λ (s : Seen). passed_1 s k (next_record (processor code) w.core1 w.line) (λ n. judgement code b0 b1 cores xs ys n)) f,
    )
    by_three (Judges st a) (Judges su b) (Judges sv c) e f same like = (
      passed (processor code) false 1 z (record_of (processor code) 1 z) (Judges st a),
      past_judged_1 sv c (next_record (processor code) w.core1 w.line) k,
      record { side = moved_one.0; ends = moved_one.1; standing = subst (IsKeptStanding Clocks st) like same.0; reached = led 1 z (Judges st a) (omega arith) on.reached alone left_one e },
      ap (only_after 1) (access_one ∙ none),
      λ cores xs ys. ap (λ (s : Seen). passed_1 s k (next_record (processor code) w.core1 w.line) (λ n. judgement code b0 b1 cores xs ys n)) f,
    )
    by_three (Breaks kind) t u e f same like = absurd (no_breach (passed (processor code) false 1 z (record_of (processor code) 1 z) (Breaks kind)) (led 1 z (Breaks kind) (omega arith) on.reached alone left_one e) refl)
    by_three (Handled st) (Judges su b) u e f same like = absurd same
    by_three (Handled st) (Breaks kind) u e f same like = absurd same
    by_three (Judges st a) (Handled su) u e f same like = absurd same
    by_three (Judges st a) (Breaks kind) u e f same like = absurd same
    by_three (Handled st) (Handled su) (Judges sv c) e f same like = absurd like
    by_three (Handled st) (Handled su) (Breaks kind) e f same like = absurd like
    by_three (Judges st a) (Judges su b) (Handled sv) e f same like = absurd like
    by_three (Judges st a) (Judges su b) (Breaks kind) e f same like = absurd like

    pub turn_one : TurnedOne (processor code) code b0 b1 (λ (y : Scene). y.only) On OnOne w k
    turn_one =
        by_three (seen_at code b0 b1 1 z (record_of (processor code) 1 z)) (seen_record code b1 k.standing1 (is_live b0.range z.standing0.frame) z.stale (next_record (processor code) w.core1 w.line))
        (seen_1 code b0 b1 k (next_record (processor code) w.core1 w.line)) refl refl beside others_one
