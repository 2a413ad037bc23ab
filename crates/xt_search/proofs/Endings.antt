-- Kept worlds that have their next ones hold the world after each order.
use Rattle.std.proofs.Common.{◌≡◌, ℕ, zero, suc, ◌<◌, ◌≤◌, Some, List, [], ◌∷◌, length, slice_get, refl, subst, arith}
use Rattle.xt_search.specs.declared.graph.Graph.{Graph}
use Rattle.xt_search.specs.declared.graph.Kept.{Kept}
use Rattle.xt_search.specs.declared.graph.Nexts.{Nexts}
use Rattle.xt_search.specs.Worlds.{IsOrder, Reaches}
use Rattle.xt_search.specs.Graphs.{IsAt, IsFound, IsGraph, IsMore, IsWhole, HasAll, AreNexts, IsNext}
use Rattle.xt_search.proofs.Numbers.{at_kept, at_once, at_within}

-- an element of a list under a number below its length
pub some_at : {X : Type 0} (xs : List X) (k : ℕ) → k < length xs → (x : X) × (slice_get xs k ≡ Some x)
some_at [] k h = absurd (omega arith)
some_at (x ∷ xs) zero h = (x, refl)
some_at (x ∷ xs) (suc k) h = some_at xs k (omega arith)

-- a number that has a world has one among more worlds
pub more_within : {W : Type 0} (old new : Graph W) (k : ℕ) → IsMore old new → k < length old.kept.items → k < length new.kept.items
more_within old new k more h =
    let x = some_at old.kept.items k h in
    at_within new.kept.items k x.0.world (more k x.0.world (at_kept old.kept.items k x.0 x.1))

module _ {W : Type 0} (Leads : ℕ → W → W → Type 0) where
  turned_at : (ks : List (Kept W)) (w : W) (n : Nexts) (c : ℕ) → c < 2 → AreNexts Leads ks w n → (k : ℕ) × IsNext Leads ks c w k
  turned_at ks w n zero h r = (n.by0, r.0)
  turned_at ks w n (suc zero) h r = (n.by1, r.1)
  turned_at ks w n (suc (suc c)) h r = absurd (omega arith)

  -- wherever an order leads from a kept world is kept
  kept_after : (g : Graph W) → IsGraph Leads g → IsWhole g → (order : List ℕ) → IsOrder order → (k : ℕ) (v : W) → IsAt g.kept.items k v → (j : ℕ) × (w : W) × IsAt g.kept.items j w × Reaches Leads order v w
  kept_after g is whole [] o k v h = (k, v, h, refl)
  kept_after g is whole (c ∷ cs) o k v h =
      let within : k < length g.kept.items = at_within g.kept.items k v h in
      let n = some_at g.nexts.items k (omega (arith, whole)) in
      let t = turned_at g.kept.items v n.0 c o.0 (is.nexts k n.0 v n.1 h) in
      let r = kept_after g is whole cs o.1 t.0 t.1.0 t.1.1 in
      (r.0, r.1, r.2, (t.1.0, t.1.2, r.3))

  pub whole_has_all : (g : Graph W) → IsGraph Leads g → IsWhole g → HasAll Leads g
  whole_has_all g is whole opening opens order o = kept_after g is whole order o 0 opening opens

  -- how a world but the first was found
  pub found_parts : (ks : List (Kept W)) (k : ℕ) (x : Kept W) → 0 < k → IsFound Leads ks k x → (w : W) × (x.from < k) × (x.core < 2) × IsAt ks x.from w × Leads x.core w x.world
  found_parts ks zero x p h = absurd (omega arith)
  found_parts ks (suc k) x p h = (h.0, (let l : x.from ≤ k = h.1 in omega arith), h.2, h.3, h.4)

  -- a next world stays the next one among more worlds
  pub next_stays : (old mid new : Graph W) (from c by : ℕ) (w : W) → from < length old.kept.items → IsMore old mid → IsMore mid new
      → ((v : W) → IsAt old.kept.items from v → IsNext Leads mid.kept.items c v by) → IsAt new.kept.items from w → IsNext Leads new.kept.items c w by
  next_stays old mid new from c by w h more more2 next here =
      let x = some_at old.kept.items from h in
      let at = at_kept old.kept.items from x.0 x.1 in
      let same : x.0.world ≡ w = at_once new.kept.items from x.0.world w (more2 from x.0.world (more from x.0.world at)) here in
      let n = next x.0.world at in
      let P : W → Type 0 = λ v. Leads c v n.0 in
      (n.0, more2 by n.0 n.1, subst P same n.2)
