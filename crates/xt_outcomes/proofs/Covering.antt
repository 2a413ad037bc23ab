-- A search that branches only where turns meet covers all orders.
use Rattle.std.proofs.Common.{◌≡◌, ℕ, zero, suc, ◌<◌, Bool, true, false, List, [], ◌∷◌, ◌++◌, length, refl, sym, ap, ◌∙◌, subst, arith}
use Rattle.std.specs.Prelude.{◌==◌, ◌&&◌, not, if◌then◌else◌}
use Rattle.std.proofs.lemmas.Bool.{and_parts}
use Rattle.xt_map.specs.declared.contents.MemoryContents.{MemoryContents}
use Rattle.xt_map.specs.Memory.{HasSizes}
use Rattle.xt_search.specs.declared.graph.Graph.{Graph}
use Rattle.xt_search.specs.declared.graph.Nexts.{Nexts}
use Rattle.xt_search.specs.Ends.{IsStuck}
use Rattle.xt_search.specs.Graphs.{AreNexts, IsAt, IsGraph, IsNext, IsWhole}
use Rattle.xt_search.specs.Meetings.{AreAllowed, IsCovered, after, onward}
use Rattle.xt_search.specs.Worlds.{IsOrder, Reaches}
use Rattle.xt_search.proofs.Endings.{some_at}
use Rattle.xt_search.proofs.Meeting.{after_append, covers_orders}
use Rattle.xt_search.proofs.Numbers.{at_within}
use Rattle.xt_exec.specs.Chips.{processor}
use Rattle.xt_exec.specs.State.{State}
use Rattle.xt_outcomes.specs.Endings.{has_ended}
use Rattle.xt_outcomes.specs.KeptWorlds.{Leads, spot_of}
use Rattle.xt_outcomes.specs.Nexts.{TurnsFit, next_bars, spot_next}
use Rattle.xt_outcomes.specs.Places.{is_allowed, is_local, is_own_access, is_told, spot_run, turns_of}
use Rattle.xt_outcomes.specs.SpotRaces.{next_of}
use Rattle.xt_outcomes.specs.Spots.{Side, Spot, side_of}
use Rattle.xt_outcomes.specs.declared.places.Place.{Place}
use Rattle.xt_outcomes.specs.declared.world.World.{World}
use Rattle.xt_outcomes.proofs.Commuted.{allowed_bars_none, local_bars_none, local_is_allowed, other_side, past_sizes, spots_commute, told_and_free}

pub next_allowed : {V S : Type 0} (step : ℕ → V → V) (side : ℕ → V → S) (Allowed : ℕ → S → Type 0) (xs : List ℕ) (c : ℕ) (v : V)
    → AreAllowed step side Allowed (xs ++ c ∷ []) v → Allowed c (side c (after step xs v))
next_allowed step side Allowed [] c v h = h.0
next_allowed step side Allowed (x ∷ xs) c v h = next_allowed step side Allowed xs c (step x v) h.1

pub order_more : (xs ys : List ℕ) → IsOrder xs → IsOrder ys → IsOrder (xs ++ ys)
order_more [] ys o q = q
order_more (x ∷ xs) ys o q = (o.0, order_more xs ys o.1 q)

-- a core that has ended has no turn that meets nothing
pub ended_is_not_local : (code : ℕ → ℕ) (timed : Bool) (ms : List ℕ) (ps : List Place) (c : ℕ) (s : Side State) → (s.left == 0) ≡ true → is_local code timed ms ps c s ≡ true → ⊥
ended_is_not_local code timed ms ps c s e h =
    let n : not (s.left == 0) ≡ true = (and_parts (not (s.left == 0)) (not (next_bars code timed ms s) && is_own_access ps c (next_of code s)) h).0 in
    let f : not true ≡ true = subst (λ (b : Bool). not b ≡ true) e n in
    absurd cc

-- ---- runs as turns

pub are_turns : (c n : ℕ) → c < 2 → IsOrder (turns_of c n)
are_turns c zero small = tt
are_turns c (suc n) small = (small, are_turns c n small)

module _ (code : ℕ → ℕ) (timed : Bool) (ms : List ℕ) where
  abbrev Free : List ℕ → Spot State → Type 0
  Free order p = TurnsFit code timed ms order p

  pub free_append : (xs ys : List ℕ) (p : Spot State) → Free xs p → Free ys (after (spot_next (processor code) timed ms) xs p) → Free (xs ++ ys) p
  free_append [] ys p h k = k
  free_append (c ∷ cs) ys p h k = (h.0, free_append cs ys (spot_next (processor code) timed ms c p) h.1 k)

  -- so many turns of a core that meet nothing
  module _ (ps : List Place) (c : ℕ) where
    -- so many turns lead there, and use no time
    record IsRun (p q : Spot State) : Type 0 where
      count : ℕ
      same : q ≡ after (spot_next (processor code) timed ms) (turns_of c count) p
      free : Free (turns_of c count) p

    onward_choice : (p u : Spot State) (b : Bool) → is_local code timed ms ps c (side_of c p) ≡ b → IsRun (spot_next (processor code) timed ms c p) u → IsRun p (if b then u else p)
    onward_choice p u true e h = record { count = suc h.count; same = h.same; free = (local_bars_none code timed ms ps c (side_of c p) e, h.free) }
    onward_choice p u false e h = record { count = zero; same = refl; free = tt }

    onward_turns : (n : ℕ) (p : Spot State) → IsRun p (onward (λ q. is_local code timed ms ps c (side_of c q)) (spot_next (processor code) timed ms c) n p)
    onward_turns zero p = record { count = zero; same = refl; free = tt }
    onward_turns (suc n) p =
        onward_choice p (onward (λ q. is_local code timed ms ps c (side_of c q)) (spot_next (processor code) timed ms c) n (spot_next (processor code) timed ms c p)) (is_local code timed ms ps c (side_of c p)) refl
        (onward_turns n (spot_next (processor code) timed ms c p))

    -- a run is a turn or more
    run_turns : (n : ℕ) (p : Spot State) → next_bars code timed ms (side_of c p) ≡ false → IsRun p (spot_run code timed ms ps n c p)
    run_turns n p first =
        let h = onward_turns n (spot_next (processor code) timed ms c p) in
        record { count = suc h.count; same = h.same; free = (first, h.free) }

  -- what an allowed order is
  pub allowed_free : (ps : List Place) (order : List ℕ) (p : Spot State) → AreAllowed (spot_next (processor code) timed ms) side_of (λ c s. is_allowed code timed ms ps c s ≡ true) order p → Free order p
  allowed_free ps [] p h = tt
  allowed_free ps (c ∷ cs) p h = (allowed_bars_none code timed ms ps c (side_of c p) h.0, allowed_free ps cs (spot_next (processor code) timed ms c p) h.1)

  module _ (ps : List Place) (n : ℕ) where
    -- the first turn of each run of an order uses no time
    abbrev pub RunsAreFree : List ℕ → Spot State → Type 0
    RunsAreFree [] p = Unit {0}
    RunsAreFree (c ∷ cs) p = (next_bars code timed ms (side_of c p) ≡ false) × RunsAreFree cs (spot_run code timed ms ps n c p)

  module _ (ps : List Place) (n : ℕ) (m : MemoryContents) where
    pub runs_are_free : (order : List ℕ) (v w : World) → Reaches (Leads code timed ms ps n m) order v w → RunsAreFree ps n order (spot_of m v)
    runs_are_free [] v w h = tt
    runs_are_free (c ∷ cs) v w h = (h.1.1, subst (λ (p : Spot State). RunsAreFree ps n cs p) h.1.0 (runs_are_free cs h.0 w h.2))

    -- an order of runs is an order of turns
    pub record AreTurns (v w : World) : Type 0 where
      pub turns : List ℕ
      pub is_order : IsOrder turns
      pub same : spot_of m w ≡ after (spot_next (processor code) timed ms) turns (spot_of m v)
      pub free : Free turns (spot_of m v)

    pub runs_reach : (order : List ℕ) (v w : World) → IsOrder order → Reaches (Leads code timed ms ps n m) order v w → AreTurns v w
    runs_reach [] v w o h = record { turns = []; is_order = tt; same = ap (spot_of m) (sym h); free = tt }
    runs_reach (c ∷ cs) v w o h =
        let step = spot_next (processor code) timed ms in
        let first = run_turns ps c n (spot_of m v) h.1.1 in
        let rest = runs_reach cs h.0 w o.1 h.2 in
        let there : spot_of m h.0 ≡ after step (turns_of c first.count) (spot_of m v) = h.1.0 ∙ first.same in
        record {
          turns = turns_of c first.count ++ rest.turns;
          is_order = order_more (turns_of c first.count) rest.turns (are_turns c first.count o.0) rest.is_order;
          same = rest.same ∙ ap (after step rest.turns) there ∙ sym (after_append step (turns_of c first.count) rest.turns (spot_of m v));
          free = free_append (turns_of c first.count) rest.turns (spot_of m v) first.free (subst (λ (p : Spot State). Free rest.turns p) there rest.free);
        }

    -- the same order of runs from the same world leads to the same one
    pub runs_are : (order : List ℕ) (v w : World) → Reaches (Leads code timed ms ps n m) order v w → spot_of m w ≡ after (spot_run code timed ms ps n) order (spot_of m v)
    runs_are [] v w h = ap (spot_of m) (sym h)
    runs_are (c ∷ cs) v w h = runs_are cs h.0 w h.2 ∙ ap (after (spot_run code timed ms ps n) cs) h.1.0

    abbrev covered : (Spot State → Type 0) → Spot State → List ℕ → Type 0
    covered Kept p order = IsCovered (spot_next (processor code) timed ms) side_of (is_local code timed ms ps) (λ c s. is_allowed code timed ms ps c s ≡ true) Kept p order

    pub turns_cover : (Kept : Spot State → Type 0)
        → ((p : Spot State) → Kept p → (c : ℕ) → c < 2 → (is_allowed code timed ms ps c (side_of c p) ≡ true) × Kept (spot_run code timed ms ps n c p))
        → (p : Spot State) → HasSizes p.memory → Kept p → (order : List ℕ) → IsOrder order → covered Kept p order
    turns_cover Kept next p z k order o =
        covers_orders (spot_next (processor code) timed ms) side_of (is_local code timed ms ps) (λ c s. is_allowed code timed ms ps c s ≡ true)
        (λ c d q. other_side code timed ms c d q) (λ q. HasSizes q.memory) (λ c q. past_sizes code timed ms c q)
        (λ c d q. spots_commute code timed ms ps c d q) (λ c s. local_is_allowed code timed ms ps c s)
        Kept
        (λ q kq c small. let g = next q kq c small in (g.0, (n, g.1)))
        p z k order o

    module _ (g : Graph World) (is : IsGraph (Leads code timed ms ps n m) g) (whole : IsWhole g)
        (told : (k : ℕ) (w : World) → IsAt g.kept.items k w → (is_told code ps 0 w.side0.value ≡ true) × (is_told code ps 1 w.side1.value ≡ true)) where
      next_at : (k : ℕ) (w : World) (x : Nexts) (c : ℕ) → c < 2 → AreNexts (Leads code timed ms ps n m) g.kept.items w x → (j : ℕ) × IsNext (Leads code timed ms ps n m) g.kept.items c w j
      next_at k w x zero small h = (x.by0, h.0)
      next_at k w x (suc zero) small h = (x.by1, h.1)
      next_at k w x (suc (suc c)) small h = absurd (omega arith)

      -- of a kept world the next one of each core
      next_kept : (k : ℕ) (w : World) (c : ℕ) → c < 2 → IsAt g.kept.items k w → (j : ℕ) × IsNext (Leads code timed ms ps n m) g.kept.items c w j
      next_kept k w c small at =
          let within : k < length g.kept.items = at_within g.kept.items k w at in
          let x = some_at g.nexts.items k (omega (arith, whole)) in
          next_at k w x.0 c small (is.nexts k x.0 w x.1 at)

      told_at : (k : ℕ) (w : World) (c : ℕ) → c < 2 → IsAt g.kept.items k w → is_told code ps c (side_of c (spot_of m w)) ≡ true
      told_at k w zero small at = (told k w at).0
      told_at k w (suc zero) small at = (told k w at).1
      told_at k w (suc (suc c)) small at = absurd (omega arith)

      abbrev pub IsKept : Spot State → Type 0
      IsKept p = (k : ℕ) × (w : World) × IsAt g.kept.items k w × (spot_of m w ≡ p)

      -- a turn of a kept world is allowed
      allowed_at : (k : ℕ) (w v : World) (c : ℕ) (p : Spot State) → c < 2 → IsAt g.kept.items k w → Leads code timed ms ps n m c w v → spot_of m w ≡ p → is_allowed code timed ms ps c (side_of c p) ≡ true
      allowed_at k w v c p small at leads e =
          ap (λ (q : Spot State). is_allowed code timed ms ps c (side_of c q)) (sym e)
          ∙ told_and_free code timed ms ps c (side_of c (spot_of m w)) (told_at k w c small at) leads.1

      kept_goes_on : (p : Spot State) → IsKept p → (c : ℕ) → c < 2 → (is_allowed code timed ms ps c (side_of c p) ≡ true) × IsKept (spot_run code timed ms ps n c p)
      kept_goes_on p h c small =
          let j = next_kept h.0 h.1 c small h.2 in (
            allowed_at h.0 h.1 j.1.0 c p small h.2 j.1.2 h.3,
            (j.0, j.1.0, j.1.1, j.1.2.0 ∙ ap (spot_run code timed ms ps n c) h.3),
          )

      pub graph_covers : (p : Spot State) → HasSizes p.memory → IsKept p → (order : List ℕ) → IsOrder order → covered IsKept p order
      graph_covers p z k order o = turns_cover IsKept kept_goes_on p z k order o

      -- ---- stuck worlds

      -- an order of runs from this world leads there
      abbrev IsReached : World → Spot State → Type 0
      IsReached v p = (order : List ℕ) × (k : ℕ) × (w : World) × IsOrder order × IsAt g.kept.items k w × Reaches (Leads code timed ms ps n m) order v w × (spot_of m w ≡ p)

      reaches_more : (order : List ℕ) (c : ℕ) (u v w : World) → Reaches (Leads code timed ms ps n m) order u v → Leads code timed ms ps n m c v w → Reaches (Leads code timed ms ps n m) (order ++ c ∷ []) u w
      reaches_more [] c u v w h l = (w, subst (λ (x : World). Leads code timed ms ps n m c x w) (sym h) l, refl)
      reaches_more (d ∷ ds) c u v w h l = (h.0, h.1, reaches_more ds c h.0 v w h.2 l)

      reached_goes_on : (v : World) (p : Spot State) → IsReached v p → (c : ℕ) → c < 2 → (is_allowed code timed ms ps c (side_of c p) ≡ true) × IsReached v (spot_run code timed ms ps n c p)
      reached_goes_on v p h c small =
          let j = next_kept h.1 h.2 c small h.4 in (
            allowed_at h.1 h.2 j.1.0 c p small h.4 j.1.2 h.6,
            (
              h.0 ++ c ∷ [],
              j.0,
              j.1.0,
              order_more h.0 (c ∷ []) h.3 (small, tt),
              j.1.1,
              reaches_more h.0 c v h.2 j.1.0 h.5 j.1.2,
              j.1.2.0 ∙ ap (spot_run code timed ms ps n c) h.6,
            ),
          )

      -- both have ended, so no turn meets nothing
      ended_exact : (p : Spot State) → has_ended p ≡ true → (c : ℕ) → c < 2 → is_local code timed ms ps c (side_of c p) ≡ true → ⊥
      ended_exact p e zero small l = ended_is_not_local code timed ms ps 0 p.side0 (and_parts (p.side0.left == 0) _ e).0 l
      ended_exact p e (suc c) small l = ended_is_not_local code timed ms ps (suc c) p.side1 (and_parts (p.side0.left == 0) _ e).1 l

      -- no order of turns ends where no order of runs does
      not_ended : (b : Bool) → (b ≡ true → ⊥) → b ≡ false
      not_ended true h = absurd (h refl)
      not_ended false h = refl

      pub stuck_turns : (k : ℕ) (v : World) → HasSizes (spot_of m v).memory → IsAt g.kept.items k v → IsStuck (Leads code timed ms ps n m) (λ w. has_ended (spot_of m w)) v
          → (order : List ℕ) → IsOrder order → has_ended (after (spot_next (processor code) timed ms) order (spot_of m v)) ≡ false
      stuck_turns k v z at stuck order o = not_ended (has_ended (after (spot_next (processor code) timed ms) order (spot_of m v)))
          (λ e.
          let last = after (spot_next (processor code) timed ms) order (spot_of m v) in
          let r = (turns_cover (IsReached v) (reached_goes_on v) (spot_of m v) z ([], k, v, tt, at, refl, refl) order o).exact (ended_exact last e) in
          let s = stuck r.0 r.3 in
          let same : spot_of m s.0 ≡ last = runs_are r.0 v s.0 s.1 ∙ sym (runs_are r.0 v r.2 r.5) ∙ r.6 in
          let f : has_ended last ≡ false = ap has_ended (sym same) ∙ s.2 in
          absurd cc)
