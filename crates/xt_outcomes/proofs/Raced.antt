-- A race in what a search keeps of a world is one in the world.
use Rattle.std.proofs.Common.{◌≡◌, ℕ, ◌+◌, ◌<◌, ◌≤◌, Bool, true, false, cond, eqb, List, Option, Some, None, length, refl, sym, ap, ◌∙◌, subst, ⊎_elim, arith}
use Rattle.std.specs.Prelude.{◌⊎◌}
use Rattle.std.proofs.lemmas.Bool.{or_cases, true≢false}
use Rattle.xt_map.specs.declared.access.Access.{Access}
use Rattle.xt_map.specs.declared.access.Kind.{Kind}
use Rattle.xt_map.specs.declared.access.Kind.TheVariants.{Load, Store, Cas}
use Rattle.xt_map.specs.Touching.{is_load}
use Rattle.xt_map.proofs.Alike.{inside}
use Rattle.xt_search.specs.Apart.{AreApart}
use Rattle.xt_trace.specs.Traces.{has_stopped}
use Rattle.xt_trace.specs.Worlds.{Core, Line, World, answer}
use Rattle.xt_trace.specs.declared.options.Options.{Options}
use Rattle.xt_image.specs.declared.image.Image.{Image}
use Rattle.xt_map.specs.Code.{AreBytes}
use Rattle.xt_map.specs.Fetching.{fetch_at}
use Rattle.xt_exec.specs.Chips.{processor}
use Rattle.xt_exec.specs.TurnLaws.{IsServed}
use Rattle.xt_exec.specs.State.{State}
use Rattle.xt_exec.specs.Turn.{demand, turn}
use Rattle.xt_core.specs.Runs.{code_of, memory_of, opening_of}
use Rattle.xt_search.specs.Graphs.{IsAt}
use Rattle.xt_search.proofs.Endings.{some_at}
use Rattle.xt_timeless.specs.Time.{uses_time, without_time}
use Rattle.xt_timeless.proofs.Going.{same_demand}
use Rattle.xt_timeless.proofs.Turning.{turns_alike}
use Rattle.xt_race.specs.declared.event.Event.{Event}
use Rattle.xt_race.specs.declared.event.Synchronization.{Synchronization}
use Rattle.xt_race.specs.Clashes.{clash}
use Rattle.xt_race.specs.Races.{has_stored, order_of, writes}
use Rattle.xt_race.proofs.Concluding.{clash_from, clash_is}
use Rattle.xt_outcomes.specs.Dead.{spot_forgotten}
use Rattle.xt_outcomes.specs.KeptWorlds.{spot_of}
use Rattle.xt_outcomes.specs.NextRaces.{IsNextRace, next_access, next_event}
use Rattle.xt_outcomes.specs.Nexts.{next_bars}
use Rattle.xt_outcomes.specs.Places.{is_allowed, is_local, is_own_access, may_access}
use Rattle.xt_outcomes.specs.Orders.{world_after}
use Rattle.xt_outcomes.specs.Searched.{IsFoundBy, IsKeptAfter, IsMet, IsSearch, kept_after}
use Rattle.xt_outcomes.specs.SpotRaces.{IsSpotRace, event_at, next_of}
use Rattle.xt_outcomes.specs.Spots.{Spot, side_bars, side_in, spot_in}
use Rattle.xt_outcomes.specs.declared.found.Search.{Search}
use Rattle.xt_outcomes.specs.declared.places.Place.{Place}
use Rattle.xt_outcomes.specs.declared.world.World.{World as KeptWorld}
use Rattle.xt_outcomes.proofs.Commuted.{allowed_bars_none, allowed_is_told, local_is_own, next_served, own_and_other, turned_apart}
use Rattle.xt_outcomes.proofs.Forgetting.{free_forgetting, next_forgetting}
use Rattle.xt_outcomes.proofs.Untimed.{side_free}

pc_of_turn : (code : ℕ → ℕ) (s : State) (reply : ℕ) → (turn code s reply).0.pc ≡ s.control.pc
unfolding turn
pc_of_turn code s reply = refl

order_of_event : (code : ℕ → ℕ) (core : ℕ) (k : Core State) (b : Line) (a : Access) → (next_event code core k b a).order ≡ order_of (fetch_at code k.state.control.pc)
order_of_event code core k b a = ap (λ (pc : ℕ). order_of (fetch_at code pc)) (pc_of_turn code k.state (answer (demand code k.state) b.memory))

-- the turn and the record of an event play no part in a conflict
abbrev with_order : Event → Synchronization → Event
with_order x order = record { entry = x.entry; turn = x.turn; step = x.step; order = order }

same_clash : (code : ℕ → ℕ) (timed : Bool) (w : World State) (a b : Access)
    → clash (next_event code 0 w.core0 w.line a) (next_event code 1 w.core1 w.line b) ≡ clash (event_at code 0 (side_in timed w.core0) w.line.memory a) (event_at code 1 (side_in timed w.core1) w.line.memory b)
same_clash code true w a b =
    let x = event_at code 0 (side_in true w.core0) w.line.memory a in
    let y = event_at code 1 (side_in true w.core1) w.line.memory b in
    let e = order_of_event code 0 w.core0 w.line a in
    let f = order_of_event code 1 w.core1 w.line b in
    λ i. clash (with_order x (e i)) (with_order y (f i))
same_clash code false w a b =
    let x = event_at code 0 (side_in false w.core0) w.line.memory a in
    let y = event_at code 1 (side_in false w.core1) w.line.memory b in
    let e = order_of_event code 0 w.core0 w.line a in
    let f = order_of_event code 1 w.core1 w.line b in
    λ i. clash (with_order x (e i)) (with_order y (f i))

-- ---- the next access

ended_when : (b : Bool) (d : Option Access) → cond (eqb (cond b 0 1) 0) None d ≡ cond b None d
ended_when true d = refl
ended_when false d = refl

next_when : (b : Bool) (d e : Option Access) → (b ≡ false → d ≡ e) → cond b None d ≡ cond b None e
next_when true d e h = refl
next_when false d e h = h refl

module _ (code : ℕ → ℕ) (bytes : AreBytes code) where
  -- of a turn that uses no time
  next_same : (timed : Bool) (k : Core State) → side_bars code timed (side_in timed k) ≡ false → next_of code (side_in timed k) ≡ next_access code timed k
  next_same true k h = refl
  next_same false k h =
      ended_when (has_stopped k.records) (demand code (without_time k.state))
      ∙ next_when (has_stopped k.records) (demand code (without_time k.state)) (demand code k.state)
      (λ going. ⊎_elim (λ (e : has_stopped k.records ≡ true). absurd (true≢false (sym e ∙ going)))
      (λ (e : uses_time code k.state ≡ false). sym (same_demand code k.state (without_time k.state) (turns_alike code bytes k.state e))) (side_free code bytes k h))

  -- the next turns of both cores use no time
  abbrev UseNone : (timed : Bool) → Spot State → Type 0
  UseNone timed p = (side_bars code timed p.side0 ≡ false) × (side_bars code timed p.side1 ≡ false)

  race_of_spot : (timed : Bool) (w : World State) (a b : Access) → UseNone timed (spot_in timed w) → IsSpotRace code (spot_in timed w) a b → IsNextRace code timed w a b
  race_of_spot timed w a b free h = record {
    next0 = sym (next_same timed w.core0 free.0) ∙ h.next0;
    next1 = sym (next_same timed w.core1 free.1) ∙ h.next1;
    conflict = clash_is (next_event code 0 w.core0 w.line a) (next_event code 1 w.core1 w.line b) (same_clash code timed w a b ∙ h.clash);
  }

  spot_of_race : (timed : Bool) (w : World State) (a b : Access) → UseNone timed (spot_in timed w) → IsNextRace code timed w a b → IsSpotRace code (spot_in timed w) a b
  spot_of_race timed w a b free h = record {
    next0 = next_same timed w.core0 free.0 ∙ h.next0;
    next1 = next_same timed w.core1 free.1 ∙ h.next1;
    clash = sym (same_clash code timed w a b) ∙ clash_from (next_event code 0 w.core0 w.line a) (next_event code 1 w.core1 w.line b) h.conflict;
  }

  module _ (ms : List ℕ) where
    -- the next turns of both cores use no time, and fit
    abbrev pub AreFree : (timed : Bool) → Spot State → Type 0
    AreFree timed p = (next_bars code timed ms p.side0 ≡ false) × (next_bars code timed ms p.side1 ≡ false)

    pub race_of_kept : (timed : Bool) (w : World State) (a b : Access) → AreFree timed (spot_forgotten ms (spot_in timed w)) → IsSpotRace code (spot_forgotten ms (spot_in timed w)) a b → IsNextRace code timed w a b
    race_of_kept timed w a b free h =
        let q = spot_in timed w in
        let f = free_forgetting code ms timed 0 q free.0 in
        let g = free_forgetting code ms timed 1 q free.1 in
        race_of_spot timed w a b (f.0, g.0)
        (record {
          next0 = sym (next_forgetting code ms timed q.side0 f.1) ∙ h.next0;
          next1 = sym (next_forgetting code ms timed q.side1 g.1) ∙ h.next1;
          clash = h.clash;
        })

    pub kept_of_race : (timed : Bool) (w : World State) (a b : Access) → AreFree timed (spot_forgotten ms (spot_in timed w)) → IsNextRace code timed w a b → IsSpotRace code (spot_forgotten ms (spot_in timed w)) a b
    kept_of_race timed w a b free h =
        let q = spot_in timed w in
        let f = free_forgetting code ms timed 0 q free.0 in
        let g = free_forgetting code ms timed 1 q free.1 in
        let r = spot_of_race timed w a b (f.0, g.0) h in
        record {
          next0 = next_forgetting code ms timed q.side0 f.1 ∙ r.next0;
          next1 = next_forgetting code ms timed q.side1 g.1 ∙ r.next1;
          clash = r.clash;
        }

-- ---- what was searched

module _ (image : Image) (o : Options) (s : Search) (h : IsSearch image o s) where
  -- the next turns of a world of which the next ones are known use no time
  pub are_free : (k : ℕ) (w : KeptWorld) → k < length s.graph.nexts.items → IsAt s.graph.kept.items k w → AreFree (code_of image) h.bytes s.machine.dead.masks.items s.machine.timed (spot_of (memory_of image o) w)
  are_free k w less at =
      let n = some_at s.graph.nexts.items k less in
      let both = h.graph.nexts k n.0 w n.1 at in
      (both.0.2.1, both.1.2.1)

  -- after an order that leads to it, a race in what is kept of the world
  pub race_found : (k : ℕ) (w : KeptWorld) (order : List ℕ) (a b : Access) → k < length s.graph.nexts.items → IsAt s.graph.kept.items k w → IsFoundBy image o s order k
      → IsSpotRace (code_of image) (spot_of (memory_of image o) w) a b → IsNextRace (code_of image) s.machine.timed (world_after (processor (code_of image)) s.machine.timed (opening_of image o) order) a b
  race_found k w order a b less at found race =
      let e = found w at in
      race_of_kept (code_of image) h.bytes s.machine.dead.masks.items s.machine.timed (world_after (processor (code_of image)) s.machine.timed (opening_of image o) order) a b
      (subst (AreFree (code_of image) h.bytes s.machine.dead.masks.items s.machine.timed) e (are_free k w less at)) (subst (λ (p : Spot State). IsSpotRace (code_of image) p a b) e race)

-- ---- a race after an order, where the search branches only where turns meet

not_of_load : (k : Kind) (reply : ℕ) → is_load k ≡ true → has_stored k reply ≡ true → ⊥
not_of_load Load reply l w = absurd cc
not_of_load (Store v) reply l w = absurd cc
not_of_load (Cas expected new) reply l w = absurd cc

-- accesses that are apart do not clash
apart_is_quiet : (x y : Event) → AreApart x.entry.access y.entry.access → clash x y ≡ true → ⊥
apart_is_quiet x y h e =
    let k = clash_is x y e in
    let i = inside x.entry.access.addr x.entry.access.size k.byte k.in_first in
    let j = inside y.entry.access.addr y.entry.access.size k.byte k.in_second in
    ⊎_elim
    (λ (d : (x.entry.access.addr + x.entry.access.size ≤ y.entry.access.addr) ⊎ (y.entry.access.addr + y.entry.access.size ≤ x.entry.access.addr)).
    let i0 = i.0 in let i1 = i.1 in let j0 = j.0 in let j1 = j.1 in
    ⊎_elim
    (λ (l : x.entry.access.addr + x.entry.access.size ≤ y.entry.access.addr). absurd (omega arith))
    (λ (r : y.entry.access.addr + y.entry.access.size ≤ x.entry.access.addr). absurd (omega arith)) d)
    (λ (l : (is_load x.entry.access.kind ≡ true) × (is_load y.entry.access.kind ≡ true)).
    ⊎_elim (λ (w : writes x ≡ true). not_of_load x.entry.access.kind x.entry.reply l.0 w) (λ (w : writes y ≡ true). not_of_load y.entry.access.kind y.entry.reply l.1 w) (or_cases (writes x) (writes y) k.writing))
    h

module _ (code : ℕ → ℕ) (timed : Bool) (ms : List ℕ) (ps : List Place) (p : Spot State) (a b : Access) (h : IsSpotRace code p a b) where
  -- so both next turns may meet something
  race_meets0 : is_allowed code timed ms ps 1 p.side1 ≡ true → is_local code timed ms ps 0 p.side0 ≡ true → ⊥
  race_meets0 may own =
      let t = own_and_other ps 0 1 (Some a) (Some b) (omega arith) (omega arith) (λ e. absurd cc)
      (subst IsServed h.next0 (next_served code p.side0)) (subst IsServed h.next1 (next_served code p.side1))
      (subst (λ (x : Option Access). is_own_access ps 0 x ≡ true) h.next0 (local_is_own code timed ms ps 0 p.side0 own))
      (subst (λ (x : Option Access). may_access ps 1 x ≡ true) h.next1 (allowed_is_told code timed ms ps 1 p.side1 may))
      in
      apart_is_quiet (event_at code 0 p.side0 p.memory a) (event_at code 1 p.side1 p.memory b) t.2 h.clash

  race_meets1 : is_allowed code timed ms ps 0 p.side0 ≡ true → is_local code timed ms ps 1 p.side1 ≡ true → ⊥
  race_meets1 may own =
      let t = own_and_other ps 1 0 (Some b) (Some a) (omega arith) (omega arith) (λ e. absurd cc)
      (subst IsServed h.next1 (next_served code p.side1)) (subst IsServed h.next0 (next_served code p.side0))
      (subst (λ (x : Option Access). is_own_access ps 1 x ≡ true) h.next1 (local_is_own code timed ms ps 1 p.side1 own))
      (subst (λ (x : Option Access). may_access ps 0 x ≡ true) h.next0 (allowed_is_told code timed ms ps 0 p.side0 may))
      in
      apart_is_quiet (event_at code 0 p.side0 p.memory a) (event_at code 1 p.side1 p.memory b) (turned_apart b a t.2) h.clash

module _ (image : Image) (o : Options) (s : Search) (order : List ℕ) (met : IsMet image o s order) where
  pub race_is_kept_after : (a b : Access) → IsSpotRace (code_of image) (kept_after image o s order) a b → IsKeptAfter image o s order
  race_is_kept_after a b h =
      let p = kept_after image o s order in
      met.exact (race_meets0 (code_of image) s.machine.timed s.machine.dead.masks.items s.machine.places.list.items p a b h met.allowed1) (race_meets1 (code_of image) s.machine.timed s.machine.dead.masks.items s.machine.places.list.items p a b h met.allowed0)

  -- the next turns after the order use no time
  pub free_after : (bytes : AreBytes (code_of image)) → AreFree (code_of image) bytes s.machine.dead.masks.items s.machine.timed (kept_after image o s order)
  free_after bytes =
      let p = kept_after image o s order in (
        allowed_bars_none (code_of image) s.machine.timed s.machine.dead.masks.items s.machine.places.list.items 0 p.side0 met.allowed0,
        allowed_bars_none (code_of image) s.machine.timed s.machine.dead.masks.items s.machine.places.list.items 1 p.side1 met.allowed1,
      )
