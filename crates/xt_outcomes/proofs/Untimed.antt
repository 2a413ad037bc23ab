-- What a search without time keeps of a world goes on by itself.
use Rattle.std.proofs.Common.{◌≡◌, ℕ, zero, suc, ◌⊎◌, Bool, true, false, cond, eqb, not, ◌&&◌, List, [], ◌∷◌, length, refl, sym, ap, ◌∙◌, inl, inr, subst, arith}
use Rattle.std.proofs.lemmas.Bool.{true≢false}
use Rattle.xt_map.specs.declared.contents.MemoryContents.{MemoryContents}
use Rattle.xt_trace.specs.Runs.{Opening, world_at_start}
use Rattle.xt_trace.specs.Traces.{has_stopped}
use Rattle.xt_trace.specs.Worlds.{Core, World, advance, give}
use Rattle.xt_map.specs.Code.{AreBytes}
use Rattle.xt_search.specs.Meetings.{after}
use Rattle.xt_exec.specs.Chips.{processor}
use Rattle.xt_exec.specs.State.{State}
use Rattle.xt_timeless.specs.Bare.{Bare, BareWorld, bare_given, bare_in, bare_memory, bare_past}
use Rattle.xt_timeless.specs.TimeLaws.{HaveTurns, core_of}
use Rattle.xt_timeless.specs.Time.{uses_time, without_time}
use Rattle.xt_timeless.proofs.Going.{bare_gives}
use Rattle.xt_timeless.proofs.Turning.{uses_alike}
use Rattle.xt_outcomes.specs.Orders.{given_turns, world_after}
use Rattle.xt_outcomes.specs.Spots.{Side, Spot, TurnsAreFree, memory_given, side_bars, side_given, side_in, side_of, spot_in, spot_past}
use Rattle.xt_outcomes.proofs.Spotted.{spot_given}

-- ---- what is kept of a world, by what stands of it without time

abbrev side_from : Bare → Side State
side_from k = record { state = k.state; left = cond k.stopped 0 1; stopped = k.stopped }

abbrev spot_from : BareWorld → Spot State
spot_from w = record { side0 = side_from w.core0; side1 = side_from w.core1; memory = w.memory }

module _ (code : ℕ → ℕ) where
  abbrev made : State → Bool → Bare
  made s b = record { state = s; stopped = b }

  side_step : (s : State) (b : Bool) (m : MemoryContents) → side_given (processor code) false (cond b 0 1) (side_from (record { state = s; stopped = b })) m ≡ side_from (bare_past code (record { state = s; stopped = b }) m)
  side_step s true m = refl
  side_step s false m = refl

  memory_step : (s : State) (b : Bool) (m : MemoryContents) → memory_given (processor code) (cond b 0 1) s m ≡ bare_memory code (record { state = s; stopped = b }) m
  memory_step s true m = refl
  memory_step s false m = refl

  spot_step : (c : ℕ) (w : BareWorld) → spot_past (processor code) false c (spot_from w) ≡ spot_from (bare_given code c w)
  spot_step zero w =
      let make : Side State → MemoryContents → Spot State = λ k m. record { side0 = k; side1 = side_from w.core1; memory = m } in
      λ i. make (side_step w.core0.state w.core0.stopped w.memory i) (memory_step w.core0.state w.core0.stopped w.memory i)
  spot_step (suc c) w =
      let make : Side State → MemoryContents → Spot State = λ k m. record { side0 = side_from w.core0; side1 = k; memory = m } in
      λ i. make (side_step w.core1.state w.core1.stopped w.memory i) (memory_step w.core1.state w.core1.stopped w.memory i)

  -- ---- turns that use no time

  -- what is tested of the core that is kept holds of the core itself
  pub side_free : AreBytes code → (k : Core State) → side_bars code false (side_in false k) ≡ false → (has_stopped k.records ≡ true) ⊎ (uses_time code k.state ≡ false)
  side_free bytes k h = by_test (has_stopped k.records) refl
    where
      by_test : (b : Bool) → has_stopped k.records ≡ b → (has_stopped k.records ≡ true) ⊎ (uses_time code k.state ≡ false)
      by_test true e = inl e
      by_test false e =
          let test : Bool → Bool = λ b. not (eqb (cond b 0 1) 0) && uses_time code (without_time k.state) in
          let g : test false ≡ false = ap test (sym e) ∙ h in
          inr (uses_alike code bytes k.state ∙ g)

  -- enough turns are left
  abbrev pub Enough : (timed : Bool) → ℕ → World State → Type 0
  Enough true n w = Unit {0}
  Enough false n w = HaveTurns n w

  free_at : AreBytes code → (c : ℕ) (w : World State) → side_bars code false (side_of c (spot_in false w)) ≡ false → (has_stopped (core_of c w).records ≡ true) ⊎ (uses_time code (core_of c w).state ≡ false)
  free_at bytes zero w h = side_free bytes w.core0 h
  free_at bytes (suc c) w h = side_free bytes w.core1 h

  went : AreBytes code → (timed : Bool) (n c : ℕ) (w : World State) → Enough timed (suc n) w → side_bars code timed (side_of c (spot_in timed w)) ≡ false
      → (spot_past (processor code) timed c (spot_in timed w) ≡ spot_in timed (give (processor code) c w)) × Enough timed n (give (processor code) c w)
  went bytes true n c w h free = (sym (spot_given (processor code) c w), tt)
  went bytes false n c w h free =
      let g = bare_gives code bytes n c w h (free_at bytes c w free) in
      (spot_step c (bare_in w) ∙ ap spot_from (sym g.0), g.1)

  gone : AreBytes code → (timed : Bool) (order : List ℕ) (w : World State) → Enough timed (length order) w → TurnsAreFree code timed order (spot_in timed w)
      → after (spot_past (processor code) timed) order (spot_in timed w) ≡ spot_in timed (advance (processor code) order w)
  gone bytes timed [] w h free = refl
  gone bytes timed (c ∷ cs) w h free =
      let a = went bytes timed (length cs) c w h free.0 in
      ap (after (spot_past (processor code) timed) cs) a.0
      ∙ gone bytes timed cs (give (processor code) c w) a.1 (subst (λ (p : Spot State). TurnsAreFree code timed cs p) a.0 free.1)

  -- ---- the opening

  enough_opened : (timed : Bool) (o : Opening State) (order : List ℕ) → Enough timed (length order) (world_at_start (given_turns timed o order))
  enough_opened true o order = tt
  enough_opened false o order = ((λ h. absurd (true≢false (sym h)), λ h. omega arith), (λ h. absurd (true≢false (sym h)), λ h. omega arith))

  opens_same : (timed : Bool) (o : Opening State) (order : List ℕ) → spot_in timed (world_at_start o) ≡ spot_in timed (world_at_start (given_turns timed o order))
  opens_same true o order = refl
  opens_same false o order = refl

  -- what is kept of the world after an order no turn of which uses time
  pub gone_after : AreBytes code → (timed : Bool) (o : Opening State) (order : List ℕ) → TurnsAreFree code timed order (spot_in timed (world_at_start o))
      → after (spot_past (processor code) timed) order (spot_in timed (world_at_start o)) ≡ spot_in timed (world_after (processor code) timed o order)
  gone_after bytes timed o order free =
      let e = opens_same timed o order in
      ap (after (spot_past (processor code) timed) order) e
      ∙ gone bytes timed order (world_at_start (given_turns timed o order)) (enough_opened timed o order) (subst (λ (p : Spot State). TurnsAreFree code timed order p) e free)
