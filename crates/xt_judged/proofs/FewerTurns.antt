-- Turns of two cores with their judges, as the program makes them without dead registers.
use Rattle.std.proofs.Common.{◌≡◌, ℕ, zero, suc, Bool, true, false, cond, not, ◌&&◌, ◌||◌, None, List, refl, sym, ap, ◌∙◌, subst}
use Rattle.std.specs.Prelude.{◌==◌}
use Rattle.std.proofs.lemmas.Bool.{and_parts, not-true, true≢false}
use Rattle.xt_map.specs.declared.contents.MemoryContents.{MemoryContents}
use Rattle.xt_trace.specs.declared.record.StepRecord.{StepRecord}
use Rattle.xt_trace.specs.Worlds.{answer}
use Rattle.xt_exec.specs.Chips.{processor}
use Rattle.xt_exec.specs.State.{State}
use Rattle.xt_exec.specs.Turn.{demand, turn}
use Rattle.xt_frames.specs.SaveAreas.{Range}
use Rattle.xt_frames.specs.Walked.{Walked}
use Rattle.xt_outcomes.specs.Dead.{fits}
use Rattle.xt_outcomes.specs.KeptWorlds.{moved_spot, spot_of}
use Rattle.xt_outcomes.specs.Nexts.{misfits, side_next, spot_next}
use Rattle.xt_outcomes.specs.Places.{is_own_access}
use Rattle.xt_outcomes.specs.SpotRaces.{next_of}
use Rattle.xt_outcomes.specs.Spots.{Side, Spot, memory_given, side_of}
use Rattle.xt_outcomes.specs.declared.places.Place.{Place}
use Rattle.xt_outcomes.proofs.Moving.{next_first}
use Rattle.xt_judged.specs.Forgotten.{IsLed, IsOwnTurn, IsTurn, Leads, StandsPast, kept_bars}
use Rattle.xt_judged.specs.OwnJudges.{Judge, Own, Watched, is_alone, is_over, other_range, own_in, record_in, uses_time, watched_bars, with_judge}
use Rattle.xt_judged.specs.WatchedKept.{judge_at, judge_in, judge_of, own_at, own_of, watched_of}
use Rattle.xt_judged.specs.declared.watched.OwnJudge.{OwnJudge}
use Rattle.xt_judged.specs.declared.watched.Running.{Running}
use Rattle.xt_judged.specs.declared.watched.Watched as kept
use Rattle.xt_judged.proofs.FewerOrders.{led_first, led_more, led_over, turn_made}
use Rattle.xt_judged.proofs.WatchedMade.{bars_are, record_made}
use Rattle.xt_judged.proofs.WatchedTurns.{over_parts}

no_misfit : (b f : Bool) → f ≡ true → (b && not f) ≡ false
no_misfit true f e = ap not e
no_misfit false f e = refl

some_misfit : (b f : Bool) → b ≡ false → f ≡ false → (not b && not f) ≡ true
some_misfit b f e g = λ i. not (e i) && not (g i)

-- ---- one core with its judge

side_spot : (c : ℕ) (v : Watched) → (own_in c v).side ≡ side_of c v.spot
side_spot zero v = refl
side_spot (suc c) v = refl

pub own_kept : (m : MemoryContents) (v : kept.Watched) (c : ℕ) (x : Side State) (j : OwnJudge) → x ≡ side_of c (spot_of m v.world) → j ≡ judge_in c v → own_in c (watched_of m v) ≡ own_of x j
own_kept m v zero x j e f = sym (λ i. own_of (e i) (f i))
own_kept m v (suc c) x j e f = sym (λ i. own_of (e i) (f i))

-- with a copy of the judge
pub own_copied : (m : MemoryContents) (v : kept.Watched) (c : ℕ) (x : Side State) (j : OwnJudge) (w : Walked) (r : Running)
    → x ≡ side_of c (spot_of m v.world) → j ≡ judge_in c v → judge_at w r ≡ judge_of j → own_in c (watched_of m v) ≡ own_at x w r
own_copied m v c x j w r e f g = own_kept m v c x j e f ∙ sym (ap (λ (n : Judge). let o : Own = record { side = x; judge = n } in o) g)

-- two cores after a turn of one
pub own_moved : (c : ℕ) (j : Judge) (x : Side State) (n : MemoryContents) (v : Watched) → (let o : Own = record { side = x; judge = j } in own_in c (with_judge c j (moved_spot c x n v.spot) v) ≡ o)
own_moved zero j x n v = refl
own_moved (suc c) j x n v = refl

pub memory_moved : (c : ℕ) (j : Judge) (x : Side State) (n : MemoryContents) (v : Watched) → (with_judge c j (moved_spot c x n v.spot) v).spot.memory ≡ n
memory_moved zero j x n v = refl
memory_moved (suc c) j x n v = refl

-- after one more, as if that had been the only one
pub moved_twice : (c : ℕ) (j k : Judge) (x y : Side State) (n l : MemoryContents) (v : Watched)
    → (let w : Watched = with_judge c j (moved_spot c x n v.spot) v in with_judge c k (moved_spot c y l w.spot) w) ≡ with_judge c k (moved_spot c y l v.spot) v
moved_twice zero j k x y n l v = refl
moved_twice (suc c) j k x y n l v = refl

module _ (code : ℕ → ℕ) (ms : List ℕ) (r0 r1 : Range) (timed : Bool) (ps : List Place) (c : ℕ) where
  pub fit_is : (x : Side State) → fits code ms x.state ≡ true → misfits code ms x ≡ false
  fit_is x e = no_misfit (not (x.left == 0)) (fits code ms x.state) e

  -- a turn that meets nothing is one of a core that is not over, and uses no time
  pub alone_parts : (o : Own) → is_alone code timed ps c o ≡ true → (is_over o ≡ false) × (watched_bars code timed o ≡ false)
  alone_parts o e =
      let p = and_parts (not (is_over o)) (not (watched_bars code timed o) && is_own_access ps c (next_of code o.side)) e in
      let q = and_parts (not (watched_bars code timed o)) (is_own_access ps c (next_of code o.side)) p.1 in
      (not-true (is_over o) p.0, not-true (watched_bars code timed o) q.0)

  module _ (o : Own) (on : is_over o ≡ false) where
    pub misfit_is : fits code ms o.side.state ≡ false → misfits code ms o.side ≡ true
    misfit_is e = some_misfit (o.side.left == 0) (fits code ms o.side.state) (over_parts code timed o on).1 e

    -- a turn, from its parts
    pub turn_is : (y : Side State) (n k : MemoryContents) (rec : StepRecord) (other : Range) (j : Judge)
        → y ≡ side_next (processor code) timed ms o.side.left o.side n → k ≡ memory_given (processor code) o.side.left o.side.state n
        → rec ≡ (turn code o.side.state (answer (demand code o.side.state) n)).0 → fits code ms o.side.state ≡ true
        → watched_bars code timed o ≡ false → other ≡ other_range c r0 r1 → StandsPast code ms other c rec o.judge j
        → IsOwnTurn code ms r0 r1 timed c o n (record { side = y; judge = j }) k
    turn_is y n k rec other j side left record_is fit free stack stands = λ v own memory.
        let is : o.side ≡ side_of c v.spot = ap (λ (p : Own). p.side) (sym own) ∙ side_spot c v in
        let r : rec ≡ record_in (processor code) c v.spot = record_made code c v.spot o.side n rec is (sym memory) record_is in
        let there : moved_spot c y k v.spot ≡ spot_next (processor code) timed ms c v.spot = next_first (processor code) timed ms c v.spot o.side y n k is (sym memory) side left in
        let judge : o.judge ≡ (own_in c v).judge = ap (λ (p : Own). p.judge) (sym own) in
        let one = subst (λ (q : Range). StandsPast code ms q c rec o.judge j) stack stands in
        let two = subst (λ (q : StepRecord). StandsPast code ms (other_range c r0 r1) c q o.judge j) r one in
        let all = subst (λ (q : Judge). StandsPast code ms (other_range c r0 r1) c (record_in (processor code) c v.spot) q j) judge two in
        subst (λ (q : Spot State). IsTurn code ms r0 r1 timed c v (with_judge c j q v)) (sym there)
        (turn_made code ms r0 r1 timed ps c v j (ap is_over own ∙ on) (ap (watched_bars code timed) own ∙ free) (ap (λ (p : Own). misfits code ms p.side) own ∙ fit_is o.side fit) all)

  -- the first turn of a core, and one more
  module _ (v : Watched) where
    pub led_one : (o p : Own) (n k : MemoryContents) → own_in c v ≡ o → v.spot.memory ≡ n → watched_bars code timed o ≡ false → misfits code ms o.side ≡ false
        → IsOwnTurn code ms r0 r1 timed c o n p k → IsLed code ms r0 r1 timed ps c v (with_judge c p.judge (moved_spot c p.side k v.spot) v)
    led_one o p n k own memory free fit t =
        led_first code ms r0 r1 timed ps c v (with_judge c p.judge (moved_spot c p.side k v.spot) v) (ap (watched_bars code timed) own ∙ free) (ap (λ (q : Own). misfits code ms q.side) own ∙ fit) (t v own memory)

    pub led_next : (o p : Own) (n k : MemoryContents) → is_alone code timed ps c o ≡ true → misfits code ms o.side ≡ false → IsOwnTurn code ms r0 r1 timed c o n p k
        → IsLed code ms r0 r1 timed ps c v (with_judge c o.judge (moved_spot c o.side n v.spot) v)
        → IsLed code ms r0 r1 timed ps c v (with_judge c p.judge (moved_spot c p.side k v.spot) v)
    led_next o p n k alone fit t l =
        let w : Watched = with_judge c o.judge (moved_spot c o.side n v.spot) v in
        let own : own_in c w ≡ o = own_moved c o.judge o.side n v in
        let there = subst (IsTurn code ms r0 r1 timed c w) (moved_twice c o.judge p.judge o.side p.side n k v) (t w own (memory_moved c o.judge o.side n v)) in
        led_more code ms r0 r1 timed ps c v w (with_judge c p.judge (moved_spot c p.side k v.spot) v)
        (ap (is_alone code timed ps c) own ∙ alone) (ap (λ (q : Own). misfits code ms q.side) own ∙ fit) there l

-- the access of the turn of a core that makes one
pub next_is : (code : ℕ → ℕ) (timed : Bool) (o : Own) → is_over o ≡ false → next_of code o.side ≡ demand code o.side.state
next_is code timed o on = ap (λ (b : Bool). cond b None (demand code o.side.state)) (over_parts code timed o on).1

-- such a turn fits if it is left
pub fit_of : (code : ℕ → ℕ) (ms : List ℕ) (timed : Bool) (o : Own) → is_over o ≡ false → misfits code ms o.side ≡ false → fits code ms o.side.state ≡ true
fit_of code ms timed o on h = by (o.side.left == 0) (fits code ms o.side.state) (over_parts code timed o on).1 h
  where
    by : (b f : Bool) → b ≡ false → (not b && not f) ≡ false → f ≡ true
    by true f e k = absurd (true≢false e)
    by false true e k = refl
    by false false e k = absurd (true≢false k)

-- a turn that uses no time and fits
pub free_parts : (u f : Bool) → (not u && f) ≡ true → (u ≡ false) × (f ≡ true)
free_parts u f h = let p = and_parts (not u) f h in (not-true u p.0, p.1)

module _ (code : ℕ → ℕ) (ms : List ℕ) (r0 r1 : Range) (timed : Bool) (ps : List Place) (m : MemoryContents) (v : kept.Watched) (c : ℕ) where
  abbrev here : Watched
  here = watched_of m v

  pub led_copy : (w : kept.Watched) → watched_of m w ≡ here → is_over (own_in c here) ≡ true → Leads code ms r0 r1 timed ps m c v w
  led_copy w e over go = subst (IsLed code ms r0 r1 timed ps c here) (sym e) (led_over code ms r0 r1 timed ps c here over go)

  pub led_kept : (w u : kept.Watched) → watched_of m w ≡ watched_of m u → IsLed code ms r0 r1 timed ps c here (watched_of m u) → Leads code ms r0 r1 timed ps m c v w
  led_kept w u e l go = subst (IsLed code ms r0 r1 timed ps c here) (sym e) l

  -- the turn of a core that makes one uses time, or does not fit
  pub barred : (o : Own) → own_in c here ≡ o → is_over o ≡ false → (not (uses_time code timed o.side o.judge.standing.frame) && fits code ms o.side.state) ≡ false
      → kept_bars code ms timed m c v ≡ true
  barred o e on h = by (uses_time code timed o.side o.judge.standing.frame) refl
    where
      all : Own → Bool
      all p = watched_bars code timed p || (not (is_over p) && misfits code ms p.side)

      by : (b : Bool) → uses_time code timed o.side o.judge.standing.frame ≡ b → kept_bars code ms timed m c v ≡ true
      by true f = ap all e ∙ ap (λ (b : Bool). b || (not (is_over o) && misfits code ms o.side)) (bars_are code timed o on ∙ f)
      by false f =
          ap all e ∙ (λ i. bars_are code timed o on i || (not (on i) && misfit_is code ms r0 r1 timed ps c o on (sym (ap (λ (b : Bool). not b && fits code ms o.side.state) f) ∙ h) i))
          ∙ ap (λ (b : Bool). b || true) f
