-- Turns of a core that goes on alone: where a search keeps what comes at their end, each order leads to a kept scene or to one
-- on the way to a kept scene.
use Rattle.std.proofs.Common.{◌≡◌, ◌≢◌, ℕ, zero, suc, ◌<◌, Bool, true, false, List, [], ◌∷◌, refl, sym, ap, subst, ◌⊎◌, inl, inr, ⊎_elim}
use Rattle.std.specs.Prelude.{if◌then◌else◌}
use Rattle.std.proofs.lemmas.Bool.{cases_eq}
use Rattle.xt_search.specs.Meetings.{after, onward, run}
use Rattle.xt_search.specs.Worlds.{IsOrder}

module _ {V : Type 0} (step : ℕ → V → V) (goes : ℕ → V → Bool)
    (alone : (c d : ℕ) (v : V) → d ≢ c → goes c v ≡ true → step d v ≡ v)
    (n : ℕ) (Kept : V → Type 0) (next : (c : ℕ) (v : V) → c < 2 → Kept v → Kept (run step goes n c v)) where
  -- the core goes on alone from here, and what comes at the end is kept
  pub record IsOnWay (v : V) : Type 0 where
    pub core : ℕ
    pub turns : ℕ
    pub goes_on : goes core v ≡ true
    pub kept : Kept (onward (goes core) (step core) turns v)

  abbrev pub IsCovered : V → Type 0
  IsCovered v = Kept v ⊎ IsOnWay v

  first_off : (c k : ℕ) (v : V) → goes c v ≡ false → onward (goes c) (step c) k v ≡ v
  first_off c zero v e = refl
  first_off c (suc k) v e = ap (λ (b : Bool). if b then onward (goes c) (step c) k (step c v) else v) e

  first_on : (c k : ℕ) (v : V) → goes c v ≡ true → onward (goes c) (step c) (suc k) v ≡ onward (goes c) (step c) k (step c v)
  first_on c k v e = ap (λ (b : Bool). if b then onward (goes c) (step c) k (step c v) else v) e

  covered : (c k : ℕ) (v : V) (b : Bool) → goes c v ≡ b → Kept (onward (goes c) (step c) k v) → IsCovered v
  covered c k v true e h = inr (record { core = c; turns = k; goes_on = e; kept = h })
  covered c k v false e h = inl (subst Kept (first_off c k v e) h)

  from_kept : (d : ℕ) (v : V) → d < 2 → Kept v → IsCovered (step d v)
  from_kept d v small h = covered d n (step d v) (goes d (step d v)) refl (next d v small h)

  same_core : (c k : ℕ) (v : V) → c < 2 → goes c v ≡ true → Kept (onward (goes c) (step c) k v) → IsCovered (step c v)
  same_core c zero v small e h = from_kept c v small h
  same_core c (suc k) v small e h = covered c k (step c v) (goes c (step c v)) refl (subst Kept (first_on c k v e) h)

  on_way : (d : ℕ) (v : V) → d < 2 → IsOnWay v → IsCovered (step d v)
  on_way d v small w = ⊎_elim
      (λ (e : d ≡ w.core). subst (λ (c : ℕ). IsCovered (step c v)) (sym e) (same_core w.core w.turns v (subst (λ (c : ℕ). c < 2) e small) w.goes_on w.kept))
      (λ (isnt : d ≢ w.core). subst IsCovered (sym (alone w.core d v isnt w.goes_on)) (inr w))
      (cases_eq d w.core)

  pub covers_orders : (order : List ℕ) (v : V) → IsOrder order → IsCovered v → IsCovered (after step order v)
  covers_orders [] v is h = h
  covers_orders (c ∷ cs) v is h =
      covers_orders cs (step c v) is.1 (⊎_elim (λ (k : Kept v). from_kept c v is.0 k) (λ (w : IsOnWay v). on_way c v is.0 w) h)
