-- Kept worlds by their numbers.
use Rattle.std.proofs.Common.{◌≡◌, ℕ, zero, suc, ◌<◌, ◌≤◌, Some, List, [], ◌∷◌, ◌++◌, length, slice_get, refl, sym, ap, ◌∙◌, subst, arith, ◌⊎◌, inl, inr, ⊎_elim}
use Rattle.std.specs.Option.{option_map}
use Rattle.std.proofs.lemmas.Option.{slice_get-map, slice_get_within}
use Rattle.xt_search.specs.declared.graph.Graph.{Graph}
use Rattle.xt_search.specs.declared.graph.Kept.{Kept}
use Rattle.xt_search.specs.declared.graph.Nexts.{Nexts}
use Rattle.xt_search.specs.Graphs.{IsAt, IsFound, IsGraph, IsNext, AreNexts}

-- a kept world is the one under its number
pub at_kept : {W : Type 0} (ks : List (Kept W)) (k : ℕ) (x : Kept W) → slice_get ks k ≡ Some x → IsAt ks k x.world
at_kept {W} ks k x e = slice_get-map (λ (y : Kept W). y.world) ks k ∙ ap (option_map (λ (y : Kept W). y.world)) e

pub at_pushed : {W : Type 0} (ks : List (Kept W)) (x : Kept W) (k : ℕ) (w : W) → IsAt ks k w → IsAt (ks ++ x ∷ []) k w
at_pushed [] x zero w h = absurd (cc)
at_pushed [] x (suc k) w h = absurd (cc)
at_pushed (y ∷ ks) x zero w h = h
at_pushed (y ∷ ks) x (suc k) w h = at_pushed ks x k w h

pub at_end : {W : Type 0} (ks : List (Kept W)) (x : Kept W) → IsAt (ks ++ x ∷ []) (length ks) x.world
at_end [] x = refl
at_end (y ∷ ks) x = at_end ks x

pub push_cases : {X : Type 0} (xs : List X) (x : X) (k : ℕ) (y : X) → slice_get (xs ++ x ∷ []) k ≡ Some y → (slice_get xs k ≡ Some y) ⊎ ((k ≡ length xs) × (x ≡ y))
push_cases [] x zero y e = inr (refl, cc)
push_cases [] x (suc k) y e = absurd cc
push_cases (z ∷ zs) x zero y e = inl e
push_cases (z ∷ zs) x (suc k) y e =
    ⊎_elim (λ (h : slice_get zs k ≡ Some y). inl h)
    (λ (h : (k ≡ length zs) × (x ≡ y)). inr (ap suc h.0, h.1)) (push_cases zs x k y e)

-- what is kept under a number that is in the list
pub at_within : {W : Type 0} (ks : List (Kept W)) (k : ℕ) (w : W) → IsAt ks k w → k < length ks
at_within [] zero w h = absurd (cc)
at_within [] (suc k) w h = absurd (cc)
at_within (y ∷ ks) zero w h = omega arith
at_within (y ∷ ks) (suc k) w h = let g : k < length ks = at_within ks k w h in omega arith

-- two worlds under one number are one
pub at_once : {W : Type 0} (ks : List (Kept W)) (k : ℕ) (v w : W) → IsAt ks k v → IsAt ks k w → v ≡ w
at_once ks k v w h i = (cc)

-- a world of a longer list, under a number of the shorter one
pub at_before : {W : Type 0} (ks : List (Kept W)) (x : Kept W) (k : ℕ) (w : W) → k < length ks → IsAt (ks ++ x ∷ []) k w → IsAt ks k w
at_before [] x k w h i = absurd (omega arith)
at_before (y ∷ ks) x zero w h i = i
at_before (y ∷ ks) x (suc k) w h i = at_before ks x k w (omega arith) i

module _ {W : Type 0} (Leads : ℕ → W → W → Type 0) where
  next_pushed : (ks : List (Kept W)) (x : Kept W) (c : ℕ) (w : W) (k : ℕ) → IsNext Leads ks c w k → IsNext Leads (ks ++ x ∷ []) c w k
  next_pushed ks x c w k h = (h.0, at_pushed ks x k h.0 h.1, h.2)

  found_pushed : (ks : List (Kept W)) (x y : Kept W) (k : ℕ) → IsFound Leads ks k y → IsFound Leads (ks ++ x ∷ []) k y
  found_pushed ks x y zero h = tt
  found_pushed ks x y (suc k) h = (h.0, h.1, h.2, at_pushed ks x y.from h.0 h.3, h.4)

  -- a world that a turn leads to, as the last one
  found_last : (ks : List (Kept W)) (x : Kept W) (k : ℕ) (w : W) → k ≡ length ks → x.from < length ks → x.core < 2 → IsAt ks x.from w → Leads x.core w x.world → IsFound Leads (ks ++ x ∷ []) k x
  found_last ks x zero w e f c h i = tt
  found_last ks x (suc k) w e f c h i = (w, (omega arith), c, at_pushed ks x x.from w h, i)

  pub all_found : (ks : List (Kept W)) (x : Kept W) (w : W)
      → ((k : ℕ) (y : Kept W) → slice_get ks k ≡ Some y → IsFound Leads ks k y)
      → x.from < length ks → x.core < 2 → IsAt ks x.from w → Leads x.core w x.world
      → (k : ℕ) (y : Kept W) → slice_get (ks ++ x ∷ []) k ≡ Some y → IsFound Leads (ks ++ x ∷ []) k y
  all_found ks x w h f c i e k y at =
      ⊎_elim (λ (g : slice_get ks k ≡ Some y). found_pushed ks x y k (h k y g))
      (λ (g : (k ≡ length ks) × (x ≡ y)).
      let P : Kept W → Type 0 = λ z. IsFound Leads (ks ++ x ∷ []) k z in
      subst P g.1 (found_last ks x k w g.0 f c i e)) (push_cases ks x k y at)

  -- next worlds stay as more worlds are kept
  pub all_nexts : (ks : List (Kept W)) (ns : List Nexts) (x : Kept W) → length ns ≤ length ks
      → ((k : ℕ) (n : Nexts) (w : W) → slice_get ns k ≡ Some n → IsAt ks k w → AreNexts Leads ks w n)
      → (k : ℕ) (n : Nexts) (w : W) → slice_get ns k ≡ Some n → IsAt (ks ++ x ∷ []) k w → AreNexts Leads (ks ++ x ∷ []) w n
  all_nexts ks ns x le h k n w at here =
      let inside : k < length ns = slice_get_within ns k n at in
      let r = h k n w at (at_before ks x k w (omega arith) here) in
      (next_pushed ks x 0 w n.by0 r.0, next_pushed ks x 1 w n.by1 r.1)

  -- next worlds of one world more
  pub more_nexts : (ks : List (Kept W)) (ns : List Nexts) (m : Nexts)
      → ((k : ℕ) (n : Nexts) (w : W) → slice_get ns k ≡ Some n → IsAt ks k w → AreNexts Leads ks w n)
      → ((w : W) → IsAt ks (length ns) w → AreNexts Leads ks w m)
      → (k : ℕ) (n : Nexts) (w : W) → slice_get (ns ++ m ∷ []) k ≡ Some n → IsAt ks k w → AreNexts Leads ks w n
  more_nexts ks ns m h new k n w at here =
      ⊎_elim (λ (g : slice_get ns k ≡ Some n). h k n w g here)
      (λ (g : (k ≡ length ns) × (m ≡ n)).
      let P : Nexts → Type 0 = λ z. AreNexts Leads ks w z in
      let Q : ℕ → Type 0 = λ j. IsAt ks j w in
      subst P g.1 (new w (subst Q g.0 here))) (push_cases ns m k n at)

  -- the same of a list that is the longer one
  pub found_in : (ks new : List (Kept W)) (x : Kept W) (w : W) → new ≡ ks ++ x ∷ []
      → ((k : ℕ) (y : Kept W) → slice_get ks k ≡ Some y → IsFound Leads ks k y)
      → x.from < length ks → x.core < 2 → IsAt ks x.from w → Leads x.core w x.world
      → (k : ℕ) (y : Kept W) → slice_get new k ≡ Some y → IsFound Leads new k y
  found_in ks new x w e h f c i l =
      let P : List (Kept W) → Type 0 = λ js. (k : ℕ) (y : Kept W) → slice_get js k ≡ Some y → IsFound Leads js k y in
      subst P (sym e) (all_found ks x w h f c i l)

  pub nexts_in : (ks new : List (Kept W)) (ns : List Nexts) (x : Kept W) → new ≡ ks ++ x ∷ [] → length ns ≤ length ks
      → ((k : ℕ) (n : Nexts) (w : W) → slice_get ns k ≡ Some n → IsAt ks k w → AreNexts Leads ks w n)
      → (k : ℕ) (n : Nexts) (w : W) → slice_get ns k ≡ Some n → IsAt new k w → AreNexts Leads new w n
  nexts_in ks new ns x e le h =
      let P : List (Kept W) → Type 0 = λ js. (k : ℕ) (n : Nexts) (w : W) → slice_get ns k ≡ Some n → IsAt js k w → AreNexts Leads js w n in
      subst P (sym e) (all_nexts ks ns x le h)

  pub more_nexts_in : (ks : List (Kept W)) (ns new : List Nexts) (m : Nexts) → new ≡ ns ++ m ∷ []
      → ((k : ℕ) (n : Nexts) (w : W) → slice_get ns k ≡ Some n → IsAt ks k w → AreNexts Leads ks w n)
      → ((w : W) → IsAt ks (length ns) w → AreNexts Leads ks w m)
      → (k : ℕ) (n : Nexts) (w : W) → slice_get new k ≡ Some n → IsAt ks k w → AreNexts Leads ks w n
  more_nexts_in ks ns new m e h at =
      let P : List Nexts → Type 0 = λ js. (k : ℕ) (n : Nexts) (w : W) → slice_get js k ≡ Some n → IsAt ks k w → AreNexts Leads ks w n in
      subst P (sym e) (more_nexts ks ns m h at)

  -- the world to which the turn leads is the last one
  pub next_in : (ks new : List (Kept W)) (x : Kept W) (w : W) → new ≡ ks ++ x ∷ [] → Leads x.core w x.world → IsNext Leads new x.core w (length ks)
  next_in ks new x w e l =
      let P : List (Kept W) → Type 0 = λ js. IsAt js (length ks) x.world in
      (x.world, subst P (sym e) (at_end ks x), l)

-- every world stays under its number
pub stays_in : {W : Type 0} (ks new : List (Kept W)) (x : Kept W) → new ≡ ks ++ x ∷ [] → (k : ℕ) (w : W) → IsAt ks k w → IsAt new k w
stays_in {W} ks new x e k w h =
    let P : List (Kept W) → Type 0 = λ js. IsAt js k w in
    subst P (sym e) (at_pushed ks x k w h)

-- ---- one world

no_one : {X : Type 0} (k : ℕ) (x : X) → slice_get [] k ≡ Some x → ⊥
no_one zero x e = absurd cc
no_one (suc k) x e = absurd cc

module _ {W : Type 0} (Leads : ℕ → W → W → Type 0) where
  found_one : (x y : Kept W) (k : ℕ) → slice_get (x ∷ []) k ≡ Some y → IsFound Leads (x ∷ []) k y
  found_one x y zero at = tt
  found_one x y (suc k) at = absurd (no_one k y at)

  -- a graph of one world, of which no next worlds are known
  pub one_graph : (g : Graph W) (x : Kept W) → g.kept.items ≡ x ∷ [] → g.nexts.items ≡ [] → IsGraph Leads g
  one_graph g x is none = record {
    found = λ k y at. subst (λ (js : List (Kept W)). IsFound Leads js k y) (sym is) (found_one x y k (subst (λ (js : List (Kept W)). slice_get js k ≡ Some y) is at));
    nexts = λ k n w at here. absurd (no_one k n (subst (λ (ns : List Nexts). slice_get ns k ≡ Some n) none at));
    within = let l : length g.nexts.items ≡ 0 = ap length none in omega arith;
  }
