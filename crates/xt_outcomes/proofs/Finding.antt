-- What a search of an image has found, in the words of its orders.
use Rattle.std.proofs.Common.{◌≡◌, ℕ, zero, suc, ◌<◌, Bool, true, false, eqb, ◌&&◌, cond, List, [], ◌∷◌, ◌++◌, Option, Some, None, slice_get, refl, sym, ap, ◌∙◌, subst, arith}
use Rattle.std.specs.Prelude.{◌==◌}
use Rattle.std.proofs.lemmas.Bool.{and_parts}
use Rattle.xt_map.specs.declared.access.Access.{Access}
use Rattle.xt_map.specs.declared.access.Kind.{Kind}
use Rattle.xt_map.specs.declared.contents.MemoryContents.{MemoryContents}
use Rattle.xt_map.specs.declared.segment.Segment.{Segment}
use Rattle.xt_map.specs.Memory.{constant_byte}
use Rattle.xt_image.specs.declared.image.Image.{Image}
use Rattle.xt_search.specs.Graphs.{IsAt, IsGraph, IsWhole, LeadsTo}
use Rattle.xt_search.specs.Meetings.{IsCovered, after}
use Rattle.xt_search.specs.Worlds.{IsOrder, Reaches}
use Rattle.xt_trace.specs.declared.options.Options.{Options}
use Rattle.xt_trace.specs.Runs.{world_at_start}
use Rattle.xt_trace.specs.Traces.{has_stopped}
use Rattle.xt_trace.specs.Worlds.{World}
use Rattle.xt_exec.specs.Chips.{processor}
use Rattle.xt_exec.specs.State.{State}
use Rattle.xt_core.specs.Runs.{code_of, memory_of, opening_of}
use Rattle.xt_outcomes.specs.Dead.{spot_forgotten}
use Rattle.xt_outcomes.specs.Endings.{has_ended, outcome_at}
use Rattle.xt_outcomes.specs.KeptWorlds.{Leads, spot_of}
use Rattle.xt_outcomes.specs.Nexts.{TurnsFit, spot_next}
use Rattle.xt_outcomes.specs.Outcomes.{have_ended, outcome_in}
use Rattle.xt_outcomes.specs.Places.{is_allowed, is_local, is_told, may_access, may_come, or_met, place_of, slot_of, spot_run}
use Rattle.xt_outcomes.specs.Searched.{AreAllowed, IsComplete, IsFoundBy, IsKeptAfter, IsMet, IsSearch, MeetsAllOrders, kept_after}
use Rattle.xt_outcomes.specs.SpotRaces.{next_of}
use Rattle.xt_outcomes.specs.Spots.{Spot, side_of, spot_in}
use Rattle.xt_outcomes.specs.declared.found.Search.{Search}
use Rattle.xt_outcomes.specs.declared.places.Place.{Place}
use Rattle.xt_outcomes.specs.declared.places.Place.TheVariants as place
use Rattle.xt_outcomes.specs.declared.world.World.{World as KeptWorld}
use Rattle.xt_outcomes.proofs.CodeBytes.{memory_sizes}
use Rattle.xt_outcomes.proofs.Covering.{allowed_free, ended_is_not_local, graph_covers, next_allowed, order_more, runs_are, runs_reach}
use Rattle.xt_outcomes.proofs.Forgetting.{kept_forgetting}

-- for the same code and the same opening memory
pub carried : (F : (ℕ → ℕ) → MemoryContents → Type 0) (code segments : List Segment) (m n : MemoryContents) → code ≡ segments → m ≡ n → F (constant_byte code) m → F (constant_byte segments) n
carried F code segments m n e f h =
    subst (F (constant_byte segments)) f (subst (λ (s : List Segment). F (constant_byte s) m) e h)

-- ---- what is seen of a world in what is kept of it

ended_when : (b : Bool) → eqb (cond b 0 1) 0 ≡ b
ended_when true = refl
ended_when false = refl

pub ended_same : (timed : Bool) (w : World State) → has_ended (spot_in timed w) ≡ have_ended timed w
ended_same true w = refl
ended_same false w = λ i. ended_when (has_stopped w.core0.records) i && ended_when (has_stopped w.core1.records) i

pub outcome_same : (timed : Bool) (addresses : List ℕ) (w : World State) → outcome_at addresses (spot_in timed w) ≡ outcome_in addresses w
outcome_same true addresses w = refl
outcome_same false addresses w = refl

-- ---- places to which both cores may come

no_place : (k : ℕ) → or_met (slice_get [] k) ≡ place.Met
no_place zero = refl
no_place (suc k) = refl

told_at : (p : Place) (c : ℕ) (k : Kind) → p ≡ place.Met → may_come c p k ≡ true
told_at p c k e = ap (λ (q : Place). may_come c q k) e

met_access : (c : ℕ) (x : Option Access) → may_access [] c x ≡ true
met_access c None = refl
met_access c (Some a) = told_at (place_of [] a) c a.kind (no_place (slot_of a))

-- tell of each turn
pub met_is_complete : (s : Search) → s.machine.places.list.items ≡ [] → IsWhole s.graph → IsComplete s
met_is_complete s none whole = record {
  whole = whole;
  allowed = λ k w at.
      let code = constant_byte s.machine.code in
      subst (λ (ps : List Place). (is_told code ps 0 w.side0.value ≡ true) × (is_told code ps 1 w.side1.value ≡ true)) (sym none)
      (met_access 0 (next_of code w.side0.value), met_access 1 (next_of code w.side1.value));
}

-- ---- what is found

module _ (image : Image) (o : Options) (s : Search) (h : IsSearch image o s) where
  pub graph_of_machine : IsGraph (Leads (constant_byte s.machine.code) s.machine.timed s.machine.dead.masks.items s.machine.places.list.items s.machine.most_local s.machine.opening.contents) s.graph
  graph_of_machine =
      carried (λ k n. IsGraph (Leads k s.machine.timed s.machine.dead.masks.items s.machine.places.list.items s.machine.most_local n) s.graph) image.segments s.machine.code (memory_of image o) s.machine.opening.contents (sym h.code) (sym h.opening) h.graph

  pub told_kept : AreAllowed s → (k : ℕ) (w : KeptWorld) → IsAt s.graph.kept.items k w
      → (is_told (code_of image) s.machine.places.list.items 0 w.side0.value ≡ true) × (is_told (code_of image) s.machine.places.list.items 1 w.side1.value ≡ true)
  told_kept a k w at =
      subst (λ (l : List Segment). (is_told (constant_byte l) s.machine.places.list.items 0 w.side0.value ≡ true) × (is_told (constant_byte l) s.machine.places.list.items 1 w.side1.value ≡ true)) h.code (a k w at)

  -- what is kept of the opening, and of the world after an order, by its turns
  abbrev pub first_spot : Spot State
  first_spot = spot_forgotten s.machine.dead.masks.items (spot_in s.machine.timed (world_at_start (opening_of image o)))

  abbrev pub spot_by : List ℕ → Spot State
  spot_by order = after (spot_next (processor (code_of image)) s.machine.timed s.machine.dead.masks.items) order first_spot

  turned_spot : (order : List ℕ) → TurnsFit (code_of image) s.machine.timed s.machine.dead.masks.items order first_spot → spot_by order ≡ kept_after image o s order
  turned_spot order free = kept_forgetting (code_of image) s.machine.dead.masks.items s.machine.timed h.bytes (opening_of image o) order free

  -- a kept world that an order of runs leads to
  pub reached : (runs : List ℕ) (w : KeptWorld) → IsOrder runs → Reaches (Leads (code_of image) s.machine.timed s.machine.dead.masks.items s.machine.places.list.items s.machine.most_local (memory_of image o)) runs h.first.0 w
      → (order : List ℕ) × IsOrder order × (spot_of (memory_of image o) w ≡ kept_after image o s order)
  reached runs w is r =
      let t = runs_reach (code_of image) s.machine.timed s.machine.dead.masks.items s.machine.places.list.items s.machine.most_local (memory_of image o) runs h.first.0 w is r in
      let free = subst (λ (p : Spot State). TurnsFit (code_of image) s.machine.timed s.machine.dead.masks.items t.turns p) h.first.2 t.free in (
        t.turns,
        t.is_order,
        t.same ∙ ap (after (spot_next (processor (code_of image)) s.machine.timed s.machine.dead.masks.items) t.turns) h.first.2 ∙ turned_spot t.turns free,
      )

  -- ---- a search that came to its end, with places that are right

  abbrev IsKeptSpot : Spot State → Type 0
  IsKeptSpot p = (k : ℕ) × (w : KeptWorld) × IsAt s.graph.kept.items k w × (spot_of (memory_of image o) w ≡ p)

  abbrev Covers : List ℕ → Type 0
  Covers order = IsCovered (spot_next (processor (code_of image)) s.machine.timed s.machine.dead.masks.items) side_of (is_local (code_of image) s.machine.timed s.machine.dead.masks.items s.machine.places.list.items)
      (λ c q. is_allowed (code_of image) s.machine.timed s.machine.dead.masks.items s.machine.places.list.items c q ≡ true) IsKeptSpot first_spot order

  covers : IsComplete s → (order : List ℕ) → IsOrder order → Covers order
  covers complete order is =
      graph_covers (code_of image) s.machine.timed s.machine.dead.masks.items s.machine.places.list.items s.machine.most_local (memory_of image o) s.graph h.graph complete.whole (told_kept complete.allowed)
      first_spot (memory_sizes image o) (0, h.first.0, h.first.1, h.first.2) order is

  -- no turn of an order uses time
  pub all_turned : IsComplete s → (order : List ℕ) → IsOrder order → spot_by order ≡ kept_after image o s order
  all_turned complete order is =
      turned_spot order (allowed_free (code_of image) s.machine.timed s.machine.dead.masks.items s.machine.places.list.items order first_spot (covers complete order is).allowed)

  allowed_after : IsComplete s → (order : List ℕ) → IsOrder order → (c : ℕ) → c < 2
      → is_allowed (code_of image) s.machine.timed s.machine.dead.masks.items s.machine.places.list.items c (side_of c (kept_after image o s order)) ≡ true
  allowed_after complete order is c small =
      let step = spot_next (processor (code_of image)) s.machine.timed s.machine.dead.masks.items in
      let allowed = λ (d : ℕ) (q : Spot State). is_allowed (code_of image) s.machine.timed s.machine.dead.masks.items s.machine.places.list.items d (side_of d q) in
      let v = covers complete (order ++ c ∷ []) (order_more order (c ∷ []) is (small, tt)) in
      ap (allowed c) (sym (all_turned complete order is))
      ∙ next_allowed step side_of (λ d q. is_allowed (code_of image) s.machine.timed s.machine.dead.masks.items s.machine.places.list.items d q ≡ true) order c first_spot v.allowed

  neither : (p q : Spot State) → p ≡ q → (is_local (code_of image) s.machine.timed s.machine.dead.masks.items s.machine.places.list.items 0 q.side0 ≡ true → ⊥) → (is_local (code_of image) s.machine.timed s.machine.dead.masks.items s.machine.places.list.items 1 q.side1 ≡ true → ⊥)
      → (c : ℕ) → c < 2 → is_local (code_of image) s.machine.timed s.machine.dead.masks.items s.machine.places.list.items c (side_of c p) ≡ true → ⊥
  neither p q e not0 not1 zero small l = not0 (ap (λ (r : Spot State). is_local (code_of image) s.machine.timed s.machine.dead.masks.items s.machine.places.list.items 0 r.side0) (sym e) ∙ l)
  neither p q e not0 not1 (suc zero) small l = not1 (ap (λ (r : Spot State). is_local (code_of image) s.machine.timed s.machine.dead.masks.items s.machine.places.list.items 1 r.side1) (sym e) ∙ l)
  neither p q e not0 not1 (suc (suc c)) small l = absurd (omega arith)

  pub meets_orders : IsComplete s → MeetsAllOrders image o s
  meets_orders complete order is =
      let v = covers complete order is in
      let e = all_turned complete order is in
      record {
        more = v.more;
        is_order = v.is_order;
        kept = subst IsKeptSpot (all_turned complete (order ++ v.more) (order_more order v.more is v.is_order)) v.kept;
        allowed0 = allowed_after complete order is 0 (omega arith);
        allowed1 = allowed_after complete order is 1 (omega arith);
        exact = λ not0 not1. subst IsKeptSpot e (v.exact (neither (spot_by order) (kept_after image o s order) e not0 not1));
      }

  -- an order after which both cores have ended
  pub ended_is_kept_after : (order : List ℕ) → IsMet image o s order → has_ended (kept_after image o s order) ≡ true → IsKeptAfter image o s order
  ended_is_kept_after order met e =
      let q = kept_after image o s order in
      met.exact (ended_is_not_local (code_of image) s.machine.timed s.machine.dead.masks.items s.machine.places.list.items 0 q.side0 (and_parts (q.side0.left == 0) _ e).0)
      (ended_is_not_local (code_of image) s.machine.timed s.machine.dead.masks.items s.machine.places.list.items 1 q.side1 (and_parts (q.side0.left == 0) _ e).1)

  -- the kept world under a number, by the runs and by the turns that lead to it
  pub found_by : (runs order : List ℕ) (number : ℕ) (world : KeptWorld)
      → LeadsTo (Leads (constant_byte s.machine.code) s.machine.timed s.machine.dead.masks.items s.machine.places.list.items s.machine.most_local s.machine.opening.contents) s.graph runs number
      → spot_of s.machine.opening.contents world ≡ after (spot_run (constant_byte s.machine.code) s.machine.timed s.machine.dead.masks.items s.machine.places.list.items s.machine.most_local) runs first_spot
      → spot_of s.machine.opening.contents world ≡ after (spot_next (processor (constant_byte s.machine.code)) s.machine.timed s.machine.dead.masks.items) order first_spot
      → TurnsFit (constant_byte s.machine.code) s.machine.timed s.machine.dead.masks.items order first_spot
      → IsFoundBy image o s order number
  found_by runs order number world leads by_runs by_turns free = λ w at.
      let code = constant_byte s.machine.code in
      let timed = s.machine.timed in
      let ms = s.machine.dead.masks.items in
      let ps = s.machine.places.list.items in
      let most = s.machine.most_local in
      let m = s.machine.opening.contents in
      let R = spot_run code timed ms ps most in
      let first : spot_of m h.first.0 ≡ first_spot = ap (λ (k : MemoryContents). spot_of k h.first.0) h.opening ∙ h.first.2 in
      ap (λ (k : MemoryContents). spot_of k w) (sym h.opening)
      ∙ runs_are code timed ms ps most m runs h.first.0 w (leads h.first.0 w h.first.1 at)
      ∙ ap (after R runs) first ∙ sym by_runs ∙ by_turns
      ∙ ap (λ (l : List Segment). after (spot_next (processor (constant_byte l)) timed ms) order first_spot) h.code
      ∙ turned_spot order (subst (λ (l : List Segment). TurnsFit (constant_byte l) timed ms order first_spot) h.code free)
