-- Turns that meet nothing come in either order, where each core has a judge of its own.
use Rattle.std.proofs.Common.{◌≡◌, ◌≢◌, ℕ, zero, suc, ◌<◌, Bool, true, false, cond, not, ◌&&◌, ◌||◌, Option, Some, None, List, [], ◌∷◌, refl, sym, ap, ◌∙◌, subst, arith, ne_eqb}
use Rattle.std.specs.Prelude.{◌==◌}
use Rattle.std.proofs.lemmas.Bool.{and_from, and_parts, not-false, not-true, or_parts}
use Rattle.xt_map.specs.declared.access.Access.{Access}
use Rattle.xt_map.specs.declared.contents.MemoryContents.{MemoryContents}
use Rattle.xt_map.specs.Memory.{HasSizes}
use Rattle.xt_search.proofs.Commuting.{replies_stay}
use Rattle.xt_trace.specs.declared.record.StepRecord.{StepRecord}
use Rattle.xt_trace.specs.Worlds.{answer, memory_left}
use Rattle.xt_exec.specs.Chips.{processor}
use Rattle.xt_exec.specs.State.{State}
use Rattle.xt_exec.specs.Turn.{demand, turn}
use Rattle.xt_frames.specs.SaveAreas.{Range}
use Rattle.xt_search.specs.Meetings.{after}
use Rattle.xt_outcomes.specs.Places.{is_allowed, is_local, is_own_access, is_told}
use Rattle.xt_outcomes.specs.SpotRaces.{next_of}
use Rattle.xt_outcomes.specs.Nexts.{next_bars, spot_next}
use Rattle.xt_outcomes.specs.Spots.{Side, Spot, memory_given, side_bars, side_of, spot_past}
use Rattle.xt_outcomes.specs.declared.places.Place.{Place}
use Rattle.xt_outcomes.proofs.Commuted.{TurnsApart, allowed_is_told, local_is_allowed, next_served, other_side, own_and_other, past_sizes, spots_commute, turned_apart}
use Rattle.xt_outcomes.proofs.NoneDead.{bars_are_same, next_is_past}
use Rattle.xt_judged.specs.OwnJudges.{Own, Watched, goes, is_alone, is_over, judge_past, own_in, record_in, turned, watched_bars, watched_past}
use Rattle.xt_judged.specs.Timeless.{frame_uses_time}

-- ---- accesses that meet nothing

turns_turned : (x y : Option Access) → TurnsApart x y → TurnsApart y x
turns_turned None None h = tt
turns_turned None (Some b) h = tt
turns_turned (Some a) None h = tt
turns_turned (Some a) (Some b) h = (h.1, h.0, turned_apart a b h.2)

answer_stays : (x y : Option Access) (m : MemoryContents) → TurnsApart x y → answer y (memory_left x m) ≡ answer y m
answer_stays None y m h = refl
answer_stays (Some a) None m h = refl
answer_stays (Some a) (Some b) m h = replies_stay m a b h.2

module _ (code : ℕ → ℕ) where
  given_left : (n : ℕ) (s : State) (m : MemoryContents) → memory_given (processor code) n s m ≡ memory_left (cond (n == 0) None (demand code s)) m
  given_left zero s m = refl
  given_left (suc n) s m =
      let some : (suc n == 0) ≡ false = ne_eqb (suc n) 0 (λ (e : suc n ≡ 0). omega (arith, e)) in
      ap (λ (b : Bool). memory_left (cond b None (demand code s)) m) (sym some)

  memory_past : (timed : Bool) (c : ℕ) (p : Spot State) → (spot_past (processor code) timed c p).memory ≡ memory_left (next_of code (side_of c p)) p.memory
  memory_past timed zero p = given_left p.side0.left p.side0.state p.memory
  memory_past timed (suc c) p = given_left p.side1.left p.side1.state p.memory

  -- ---- turns in which no register is dead

  module _ (timed : Bool) where
    abbrev next : ℕ → Spot State → Spot State
    next c p = spot_next (processor code) timed [] c p

    abbrev past : ℕ → Spot State → Spot State
    past c p = spot_past (processor code) timed c p

    sizes_past : (c : ℕ) (p : Spot State) → HasSizes p.memory → HasSizes (past c p).memory
    sizes_past c p z = subst (λ (q : Spot State). HasSizes q.memory) (next_is_past (processor code) timed c p) (past_sizes code timed [] c p z)

    other_past : (c d : ℕ) (p : Spot State) → c < 2 → d < 2 → c ≢ d → side_of d (past c p) ≡ side_of d p
    other_past c d p cs ds ne = ap (side_of d) (sym (next_is_past (processor code) timed c p)) ∙ other_side code timed [] c d p cs ds ne

    twice : (c d : ℕ) (p : Spot State) → next c (next d p) ≡ past c (past d p)
    twice c d p = next_is_past (processor code) timed c (next d p) ∙ ap (past c) (next_is_past (processor code) timed d p)

    commute_past : (ps : List Place) (c d : ℕ) (p : Spot State) → HasSizes p.memory → c < 2 → d < 2 → c ≢ d → is_local code timed [] ps c (side_of c p) ≡ true → is_allowed code timed [] ps d (side_of d p) ≡ true
        → past d (past c p) ≡ past c (past d p)
    commute_past ps c d p z cs ds ne own may = sym (twice d c p) ∙ spots_commute code timed [] ps c d p z cs ds ne own may ∙ twice c d p

  -- ---- a core with its judge

  module _ (timed : Bool) where
    pub over_parts : (o : Own) → is_over o ≡ false → (goes o.judge.fate ≡ true) × ((o.side.left == 0) ≡ false)
    over_parts o h =
        let p = or_parts (not (goes o.judge.fate)) (o.side.left == 0) h in
        (not-false (goes o.judge.fate) p.0, p.1)

    abbrev time_used : Own → Bool
    time_used o = side_bars code timed o.side || (not timed && frame_uses_time code o.judge.standing.frame)

    pub free_parts : (o : Own) → is_over o ≡ false → watched_bars code timed o ≡ false → (side_bars code timed o.side ≡ false) × ((not timed && frame_uses_time code o.judge.standing.frame) ≡ false)
    free_parts o e h =
        let used : time_used o ≡ false = sym (ap (λ (b : Bool). not b && time_used o) e) ∙ h in
        or_parts (side_bars code timed o.side) (not timed && frame_uses_time code o.judge.standing.frame) used

    module _ (ps : List Place) where
      -- an allowed turn is one that the places tell of, and that uses no time
      pub record IsAllowed (c : ℕ) (o : Own) : Type 0 where
        pub told : is_told code ps c o.side ≡ true
        pub free : watched_bars code timed o ≡ false

      record IsAlone (c : ℕ) (o : Own) : Type 0 where
        on : is_over o ≡ false
        free : watched_bars code timed o ≡ false
        own : is_own_access ps c (next_of code o.side) ≡ true

      alone_parts : (c : ℕ) (o : Own) → is_alone code timed ps c o ≡ true → IsAlone c o
      alone_parts c o h =
          let p = and_parts (not (is_over o)) (not (watched_bars code timed o) && is_own_access ps c (next_of code o.side)) h in
          let q = and_parts (not (watched_bars code timed o)) (is_own_access ps c (next_of code o.side)) p.1 in
          record { on = not-true (is_over o) p.0; free = not-true (watched_bars code timed o) q.0; own = q.1 }

      alone_local : (c : ℕ) (o : Own) → IsAlone c o → is_local code timed [] ps c o.side ≡ true
      alone_local c o h =
          and_from (not (o.side.left == 0)) (not (next_bars code timed [] o.side) && is_own_access ps c (next_of code o.side)) (ap not (over_parts o h.on).1)
          (and_from (not (next_bars code timed [] o.side)) (is_own_access ps c (next_of code o.side)) (ap not (bars_are_same code timed o.side ∙ (free_parts o h.on h.free).0)) h.own)

      pub alone_allowed : (c : ℕ) (o : Own) → c < 2 → is_alone code timed ps c o ≡ true → IsAllowed c o
      alone_allowed c o small h =
          let a = alone_parts c o h in
          record { told = allowed_is_told code timed [] ps c o.side (local_is_allowed code timed [] ps c o.side small (alone_local c o a)); free = a.free }

      turn_allowed : (c : ℕ) (o : Own) → is_over o ≡ false → IsAllowed c o → is_allowed code timed [] ps c o.side ≡ true
      turn_allowed c o on h = and_from (is_told code ps c o.side) (not (next_bars code timed [] o.side)) h.told (ap not (bars_are_same code timed o.side ∙ (free_parts o on h.free).0))

      module _ (r0 r1 : Range) where
        abbrev step : ℕ → Watched → Watched
        step c v = watched_past (processor code) code r0 r1 timed c v

        abbrev made : ℕ → Watched → Watched
        made c v = turned (processor code) code r0 r1 timed c v

        pub step_over : (c : ℕ) (v : Watched) → is_over (own_in c v) ≡ true → step c v ≡ v
        step_over c v e = ap (λ (b : Bool). let w : Watched = cond b v (made c v) in w) e

        pub step_made : (c : ℕ) (v : Watched) → is_over (own_in c v) ≡ false → step c v ≡ made c v
        step_made c v e = ap (λ (b : Bool). let w : Watched = cond b v (made c v) in w) e

        made_stays : (c d : ℕ) (v : Watched) → c < 2 → d < 2 → c ≢ d → own_in d (made c v) ≡ own_in d v
        made_stays zero zero v cs ds ne = absurd (ne refl)
        made_stays zero (suc d) v cs ds ne = refl
        made_stays (suc c) zero v cs ds ne = refl
        made_stays (suc c) (suc d) v cs ds ne = let other : ¬ (suc c ≡ suc d) = ne in absurd (omega arith)

        -- the other core stays, and its judge
        pub other_stays : (c d : ℕ) (v : Watched) → c < 2 → d < 2 → c ≢ d → own_in d (step c v) ≡ own_in d v
        other_stays c d v cs ds ne = by_over (is_over (own_in c v)) refl
          where
            by_over : (b : Bool) → is_over (own_in c v) ≡ b → own_in d (step c v) ≡ own_in d v
            by_over true e = ap (own_in d) (step_over c v e)
            by_over false e = ap (own_in d) (step_made c v e) ∙ made_stays c d v cs ds ne

        made_sizes : (c : ℕ) (v : Watched) → HasSizes v.spot.memory → HasSizes (made c v).spot.memory
        made_sizes zero v z = sizes_past timed zero v.spot z
        made_sizes (suc c) v z = sizes_past timed (suc c) v.spot z

        pub step_sizes : (c : ℕ) (v : Watched) → HasSizes v.spot.memory → HasSizes (step c v).spot.memory
        step_sizes c v z = by_over (is_over (own_in c v)) refl
          where
            by_over : (b : Bool) → is_over (own_in c v) ≡ b → HasSizes (step c v).spot.memory
            by_over true e = subst (λ (w : Watched). HasSizes w.spot.memory) (sym (step_over c v e)) z
            by_over false e = subst (λ (w : Watched). HasSizes w.spot.memory) (sym (step_made c v e)) (made_sizes c v z)

        -- ---- records

        -- the record of a core is the same before and after a turn of the other one that meets nothing of it
        record_stays : (c d : ℕ) (p : Spot State) → c < 2 → d < 2 → c ≢ d → TurnsApart (next_of code (side_of c p)) (next_of code (side_of d p)) → ((side_of d p).left == 0) ≡ false
            → record_in (processor code) d (spot_past (processor code) timed c p) ≡ record_in (processor code) d p
        record_stays c d p cs ds ne h some =
            let x = next_of code (side_of c p) in
            let y = next_of code (side_of d p) in
            let s = (side_of d p).state in
            let asked : y ≡ demand code s = ap (λ (b : Bool). let o : Option Access = cond b None (demand code s) in o) some in
            let there : answer (demand code s) (spot_past (processor code) timed c p).memory ≡ answer (demand code s) p.memory =
            ap (answer (demand code s)) (memory_past timed c p)
            ∙ (subst (λ (o : Option Access). answer o (memory_left x p.memory) ≡ answer o p.memory) asked (answer_stays x y p.memory h)) in
            ap (λ (k : Side State). (turn code k.state (answer (demand code k.state) (spot_past (processor code) timed c p).memory)).0) (other_past timed c d p cs ds ne)
            ∙ ap (λ (n : ℕ). (turn code s n).0) there

        swapped : (v : Watched) (p : Spot State) (x0 y0 x1 y1 : StepRecord) → spot_past (processor code) timed 1 (spot_past (processor code) timed 0 v.spot) ≡ p → x0 ≡ y0 → x1 ≡ y1
            → (let w : Watched = record { spot = spot_past (processor code) timed 1 (spot_past (processor code) timed 0 v.spot); judge0 = judge_past code r1 0 v.judge0 x0; judge1 = judge_past code r0 1 v.judge1 x1 } in w)
            ≡ (let w : Watched = record { spot = p; judge0 = judge_past code r1 0 v.judge0 y0; judge1 = judge_past code r0 1 v.judge1 y1 } in w)
        swapped v p x0 y0 x1 y1 e f g = λ i. record { spot = e i; judge0 = judge_past code r1 0 v.judge0 (f i); judge1 = judge_past code r0 1 v.judge1 (g i) }

        made_commute : (c d : ℕ) (v : Watched) → HasSizes v.spot.memory → c < 2 → d < 2 → c ≢ d → IsAlone c (own_in c v) → is_over (own_in d v) ≡ false → IsAllowed d (own_in d v)
            → made d (made c v) ≡ made c (made d v)
        made_commute zero zero v z cs ds ne a on h = absurd (ne refl)
        made_commute zero (suc zero) v z cs ds ne a on h =
            let p = v.spot in
            let x = alone_local 0 (own_in 0 v) a in
            let t = own_and_other ps 0 1 (next_of code p.side0) (next_of code p.side1) cs ds ne (next_served code p.side0) (next_served code p.side1) a.own h.told in
            let back : 1 ≢ 0 = λ e. ne (sym e) in
            swapped v (spot_past (processor code) timed 0 (spot_past (processor code) timed 1 p)) (record_in (processor code) 0 p) (record_in (processor code) 0 (spot_past (processor code) timed 1 p))
            (record_in (processor code) 1 (spot_past (processor code) timed 0 p)) (record_in (processor code) 1 p)
            (commute_past timed ps 0 1 p z cs ds ne x (turn_allowed 1 (own_in 1 v) on h))
            (sym (record_stays 1 0 p ds cs back (turns_turned (next_of code p.side0) (next_of code p.side1) t) (over_parts (own_in 0 v) a.on).1))
            (record_stays 0 1 p cs ds ne t (over_parts (own_in 1 v) on).1)
        made_commute zero (suc (suc d)) v z cs ds ne a on h = absurd (omega (arith, ds))
        made_commute (suc zero) zero v z cs ds ne a on h =
            let p = v.spot in
            let x = alone_local 1 (own_in 1 v) a in
            let t = own_and_other ps 1 0 (next_of code p.side1) (next_of code p.side0) cs ds ne (next_served code p.side1) (next_served code p.side0) a.own h.told in
            let back : 0 ≢ 1 = λ e. ne (sym e) in
            sym (swapped v (spot_past (processor code) timed 0 (spot_past (processor code) timed 1 p)) (record_in (processor code) 0 p) (record_in (processor code) 0 (spot_past (processor code) timed 1 p))
            (record_in (processor code) 1 (spot_past (processor code) timed 0 p)) (record_in (processor code) 1 p)
            (sym (commute_past timed ps 1 0 p z cs ds ne x (turn_allowed 0 (own_in 0 v) on h)))
            (sym (record_stays 1 0 p cs ds ne t (over_parts (own_in 0 v) on).1))
            (record_stays 0 1 p ds cs back (turns_turned (next_of code p.side1) (next_of code p.side0) t) (over_parts (own_in 1 v) a.on).1))
        made_commute (suc (suc c)) zero v z cs ds ne a on h = absurd (omega (arith, cs))
        made_commute (suc c) (suc d) v z cs ds ne a on h = let other : ¬ (suc c ≡ suc d) = ne in absurd (omega arith)

        pub turns_commute : (c d : ℕ) (v : Watched) → HasSizes v.spot.memory → c < 2 → d < 2 → c ≢ d → is_alone code timed ps c (own_in c v) ≡ true → IsAllowed d (own_in d v) → step d (step c v) ≡ step c (step d v)
        turns_commute c d v z cs ds ne loc h = by_over (is_over (own_in d v)) refl
          where
            a : IsAlone c (own_in c v)
            a = alone_parts c (own_in c v) loc

            back : d ≢ c
            back = λ e. ne (sym e)

            still : (b : Bool) → is_over (own_in d v) ≡ b → is_over (own_in d (step c v)) ≡ b
            still b e = ap is_over (other_stays c d v cs ds ne) ∙ e

            by_over : (b : Bool) → is_over (own_in d v) ≡ b → step d (step c v) ≡ step c (step d v)
            by_over true e = step_over d (step c v) (still true e) ∙ sym (ap (step c) (step_over d v e))
            by_over false e =
                let on : is_over (own_in c (step d v)) ≡ false = ap is_over (other_stays d c v ds cs back) ∙ a.on in
                step_made d (step c v) (still false e) ∙ ap (made d) (step_made c v a.on)
                ∙ made_commute c d v z cs ds ne a e h
                ∙ sym (step_made c (step d v) on ∙ ap (made c) (step_made d v e))

        -- ---- judges that go on

        abbrev pub AllGo : Watched → Type 0
        AllGo v = (goes v.judge0.fate ≡ true) × (goes v.judge1.fate ≡ true)

        made_went : (c : ℕ) (v : Watched) → goes (own_in c v).judge.fate ≡ true → AllGo (made c v) → AllGo v
        made_went zero v g h = (g, h.1)
        made_went (suc c) v g h = (h.0, g)

        -- if they go on past a turn, they did before it
        pub step_went : (c : ℕ) (v : Watched) → AllGo (step c v) → AllGo v
        step_went c v h = by_over (is_over (own_in c v)) refl
          where
            by_over : (b : Bool) → is_over (own_in c v) ≡ b → AllGo v
            by_over true e = subst AllGo (step_over c v e) h
            by_over false e = made_went c v (over_parts (own_in c v) e).0 (subst AllGo (step_made c v e) h)

        pub all_went : (order : List ℕ) (v : Watched) → AllGo (after step order v) → AllGo v
        all_went [] v h = h
        all_went (c ∷ cs) v h = step_went c v (all_went cs (step c v) h)
