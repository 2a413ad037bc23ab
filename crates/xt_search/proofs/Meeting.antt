-- Only turns that meet something branch: kept worlds that hold where one turn leads, with those after
-- it that meet nothing, cover the world after each order.
use Rattle.std.proofs.Common.{◌≡◌, ◌≢◌, ℕ, zero, suc, ◌+◌, ◌<◌, ◌≤◌, Bool, true, false, List, [], ◌∷◌, ◌++◌, length, refl, sym, ap, ◌∙◌, subst, arith, ◌⊎◌, inl, inr, ⊎_elim}
use Rattle.std.specs.Prelude.{if◌then◌else◌}
use Rattle.std.proofs.lemmas.Bool.{cases_eq}
use Rattle.std.proofs.lemmas.List.{length-append}
use Rattle.xt_search.specs.Worlds.{IsOrder}
use Rattle.xt_search.specs.Meetings.{AreAllowed, IsCovered, after, onward, run}

-- ---- orders

-- no turn of the order is one of core c
abbrev Spares : ℕ → List ℕ → Type 0
Spares c [] = Unit {0}
Spares c (d ∷ ds) = (c ≢ d) × Spares c ds

-- the order up to its first turn of core c, and what comes after that
record Split (c : ℕ) (order : List ℕ) : Type 0 where
  front : List ℕ
  back : List ℕ
  is : order ≡ front ++ c ∷ back
  spares : Spares c front

split_more : (c d : ℕ) (ds : List ℕ) → c ≢ d → Spares c ds ⊎ Split c ds → Spares c (d ∷ ds) ⊎ Split c (d ∷ ds)
split_more c d ds h (inl s) = inl (h, s)
split_more c d ds h (inr s) = inr (record { front = d ∷ s.front; back = s.back; is = ap (λ (l : List ℕ). d ∷ l) s.is; spares = (h, s.spares) })

split : (c : ℕ) (order : List ℕ) → Spares c order ⊎ Split c order
split c [] = inl tt
split c (d ∷ ds) = ⊎_elim
    (λ (e : c ≡ d). inr (record { front = []; back = ds; is = ap (λ (x : ℕ). x ∷ ds) (sym e); spares = tt }))
    (λ (n : c ≢ d). split_more c d ds n (split c ds))
    (cases_eq c d)

order_front : (xs ys : List ℕ) → IsOrder (xs ++ ys) → IsOrder xs
order_front [] ys o = tt
order_front (x ∷ xs) ys o = (o.0, order_front xs ys o.1)

order_without : (c : ℕ) (xs ys : List ℕ) → IsOrder (xs ++ c ∷ ys) → IsOrder (xs ++ ys)
order_without c [] ys o = o.1
order_without c (x ∷ xs) ys o = (o.0, order_without c xs ys o.1)

pub append_nothing : (xs : List ℕ) → xs ++ [] ≡ xs
append_nothing [] = refl
append_nothing (x ∷ xs) = ap (λ (l : List ℕ). x ∷ l) (append_nothing xs)

shorter : (c n : ℕ) (xs ys order : List ℕ) → order ≡ xs ++ c ∷ ys → length order ≤ n → length (xs ++ ys) < n
shorter c n xs ys order e h =
    let a : length (xs ++ c ∷ ys) ≡ length xs + suc (length ys) = length-append xs (c ∷ ys) in
    let b : length (xs ++ ys) ≡ length xs + length ys = length-append xs ys in
    let f : length order ≡ length (xs ++ c ∷ ys) = ap length e in
    omega arith

pub after_append : {V : Type 0} (step : ℕ → V → V) (xs ys : List ℕ) (v : V) → after step (xs ++ ys) v ≡ after step ys (after step xs v)
after_append step [] ys v = refl
after_append step (x ∷ xs) ys v = after_append step xs ys (step x v)

module _ {V S : Type 0} (step : ℕ → V → V) (side : ℕ → V → S) (local : ℕ → S → Bool) (Allowed : ℕ → S → Type 0)
    (apart : (c d : ℕ) (v : V) → c < 2 → d < 2 → c ≢ d → side d (step c v) ≡ side d v)
    (Good : V → Type 0) (stays_good : (c : ℕ) (v : V) → Good v → Good (step c v))
    (commute : (c d : ℕ) (v : V) → Good v → c < 2 → d < 2 → c ≢ d → local c (side c v) ≡ true → Allowed d (side d v) → step d (step c v) ≡ step c (step d v))
    (allow : (c : ℕ) (s : S) → c < 2 → local c s ≡ true → Allowed c s) where
  -- a turn that meets nothing may come before or after an order that has none of its core
  record IsMoved (c : ℕ) (order : List ℕ) (v : V) : Type 0 where
    allowed : AreAllowed step side Allowed order v
    same : after step order (step c v) ≡ step c (after step order v)
    stays : side c (after step order v) ≡ side c v

  moved : (c : ℕ) (order : List ℕ) (v : V) → Good v → c < 2 → IsOrder order → Spares c order → local c (side c v) ≡ true → AreAllowed step side Allowed order (step c v) → IsMoved c order v
  moved c [] v good small o sp loc al = record { allowed = tt; same = refl; stays = refl }
  moved c (d ∷ ds) v good small o sp loc al =
      let back : d ≢ c = λ (e : d ≡ c). sp.0 (sym e) in
      let al0 : Allowed d (side d v) = subst (λ (s : S). Allowed d s) (apart c d v small o.0 sp.0) al.0 in
      let swap : step d (step c v) ≡ step c (step d v) = commute c d v good small o.0 sp.0 loc al0 in
      let kept : side c (step d v) ≡ side c v = apart d c v o.0 small back in
      let al1 : AreAllowed step side Allowed ds (step c (step d v)) = subst (λ (w : V). AreAllowed step side Allowed ds w) swap al.1 in
      let m = moved c ds (step d v) (stays_good d v good) small o.1 sp.1 (ap (local c) kept ∙ loc) al1 in
      record {
        allowed = (al0, m.allowed);
        same = ap (after step ds) swap ∙ m.same;
        stays = m.stays ∙ kept;
      }

  allowed_front : (xs ys : List ℕ) (v : V) → AreAllowed step side Allowed (xs ++ ys) v → AreAllowed step side Allowed xs v
  allowed_front [] ys v h = tt
  allowed_front (x ∷ xs) ys v h = (h.0, allowed_front xs ys (step x v) h.1)

  allowed_back : (xs ys : List ℕ) (v : V) → AreAllowed step side Allowed (xs ++ ys) v → AreAllowed step side Allowed ys (after step xs v)
  allowed_back [] ys v h = h
  allowed_back (x ∷ xs) ys v h = allowed_back xs ys (step x v) h.1

  allowed_both : (xs ys : List ℕ) (v : V) → AreAllowed step side Allowed xs v → AreAllowed step side Allowed ys (after step xs v) → AreAllowed step side Allowed (xs ++ ys) v
  allowed_both [] ys v h i = i
  allowed_both (x ∷ xs) ys v h i = (h.0, allowed_both xs ys (step x v) h.1 i)

  module _ (Kept : V → Type 0) where
    -- so many turns of core c that meet nothing lead to the kept world
    abbrev Nears : ℕ → ℕ → V → V → Type 0
    Nears c zero v u = v ≡ u
    Nears c (suc r) v u = (local c (side c v) ≡ true) × Nears c r (step c v) u

    -- so many turns that meet nothing lead to a kept world
    record IsNear (r : ℕ) (v : V) : Type 0 where
      core : ℕ
      small : core < 2
      kept : V
      is_kept : Kept kept
      nears : Nears core r v kept

    abbrev covered : V → List ℕ → Type 0
    covered v order = IsCovered step side local Allowed Kept v order

    -- a turn that meets nothing, and then the order
    covered_later : (c : ℕ) (v : V) (order : List ℕ) → Good v → c < 2 → IsOrder order → Spares c order → local c (side c v) ≡ true → covered (step c v) order → covered v order
    covered_later c v order good small o sp loc h =
        let m = moved c order v good small o sp loc h.allowed in
        let e : after step (order ++ h.more) (step c v) ≡ after step (order ++ c ∷ h.more) v =
        after_append step order h.more (step c v) ∙ ap (after step h.more) m.same ∙ sym (after_append step order (c ∷ h.more) v)
        in
        record {
          allowed = m.allowed;
          more = c ∷ h.more;
          is_order = (small, h.is_order);
          kept = subst (λ (w : V). Kept w) e h.kept;
          exact = λ none. absurd (none c small (ap (local c) m.stays ∙ loc));
        }

    -- a turn that meets nothing, moved to the front
    covered_front : (c : ℕ) (v : V) (xs ys : List ℕ) → Good v → c < 2 → IsOrder (xs ++ c ∷ ys) → Spares c xs → local c (side c v) ≡ true → covered (step c v) (xs ++ ys) → covered v (xs ++ c ∷ ys)
    covered_front c v xs ys good small o sp loc h =
        let m = moved c xs v good small (order_front xs (c ∷ ys) o) sp loc (allowed_front xs ys (step c v) h.allowed) in
        let here : Allowed c (side c (after step xs v)) = subst (λ (s : S). Allowed c s) (sym m.stays) (allow c (side c v) small loc) in
        let rest : AreAllowed step side Allowed ys (step c (after step xs v)) = subst (λ (w : V). AreAllowed step side Allowed ys w) m.same (allowed_back xs ys (step c v) h.allowed) in
        let e : after step (xs ++ ys) (step c v) ≡ after step (xs ++ c ∷ ys) v =
        after_append step xs ys (step c v) ∙ ap (after step ys) m.same ∙ sym (after_append step xs (c ∷ ys) v)
        in
        let f : after step ((xs ++ ys) ++ h.more) (step c v) ≡ after step ((xs ++ c ∷ ys) ++ h.more) v =
        after_append step (xs ++ ys) h.more (step c v) ∙ ap (after step h.more) e ∙ sym (after_append step (xs ++ c ∷ ys) h.more v)
        in
        record {
          allowed = allowed_both xs (c ∷ ys) v m.allowed (here, rest);
          more = h.more;
          is_order = h.is_order;
          kept = subst (λ (w : V). Kept w) f h.kept;
          exact = λ none. subst (λ (w : V). Kept w) e (h.exact (λ d less l. none d less (ap (λ (w : V). local d (side d w)) (sym e) ∙ l)));
        }

    -- of a kept world each turn is allowed, and leads near a kept world
    module _ (goes : (v : V) → Kept v → (c : ℕ) → c < 2 → Allowed c (side c v) × ((r : ℕ) × IsNear r (step c v))) where
      abbrev CoversBelow : ℕ → Type 0
      CoversBelow n = (r : ℕ) (v : V) (order : List ℕ) → length order < n → Good v → IsOrder order → IsNear r v → covered v order

      covered_kept : (n : ℕ) → CoversBelow n → (v : V) (order : List ℕ) → length order ≤ n → Good v → IsOrder order → Kept v → covered v order
      covered_kept n below v [] less good o k = record { allowed = tt; more = []; is_order = tt; kept = k; exact = λ none. k }
      covered_kept n below v (c ∷ cs) less good o k =
          let g = goes v k c o.0 in
          let h = below g.1.0 (step c v) cs (omega arith) (stays_good c v good) o.1 g.1.1 in
          record { allowed = (g.0, h.allowed); more = h.more; is_order = h.is_order; kept = h.kept; exact = h.exact }

      covered_near : (n : ℕ) → CoversBelow n → (r : ℕ) (v : V) (order : List ℕ) → length order ≤ n → Good v → IsOrder order → IsNear r v → covered v order
      covered_near n below zero v order less good o k =
          covered_kept n below v order less good o (subst (λ (w : V). Kept w) (sym k.nears) k.is_kept)
      covered_near n below (suc r) v order less good o k =
          let fine : Good (step k.core v) = stays_good k.core v good in
          let next : IsNear r (step k.core v) = record { core = k.core; small = k.small; kept = k.kept; is_kept = k.is_kept; nears = k.nears.1 } in
          ⊎_elim
          (λ (sp : Spares k.core order). covered_later k.core v order good k.small o sp k.nears.0 (covered_near n below r (step k.core v) order less fine o next))
          (λ (s : Split k.core order).
          let o2 : IsOrder (s.front ++ k.core ∷ s.back) = subst IsOrder s.is o in
          let h = below r (step k.core v) (s.front ++ s.back) (shorter k.core n s.front s.back order s.is less) fine (order_without k.core s.front s.back o2) next in
          subst (λ (l : List ℕ). covered v l) (sym s.is) (covered_front k.core v s.front s.back good k.small o2 s.spares k.nears.0 h))
          (split k.core order)

      covers : (n : ℕ) → CoversBelow n
      covers zero r v order less good o k = absurd (omega arith)
      covers (suc n) r v order less good o k = covered_near n (covers n) r v order (omega arith) good o k

    -- the turns after the first one end near by
    near_choice : (c : ℕ) (n : ℕ) (v u : V) (b : Bool) → local c (side c v) ≡ b → ((r : ℕ) × Nears c r (step c v) (onward (λ w. local c (side c w)) (step c) n (step c v)))
        → (r : ℕ) × Nears c r v (if b then onward (λ w. local c (side c w)) (step c) n (step c v) else v)
    near_choice c n v u true e h = (suc h.0, (e, h.1))
    near_choice c n v u false e h = (zero, refl)

    near_by : (c n : ℕ) (v : V) → (r : ℕ) × Nears c r v (onward (λ w. local c (side c w)) (step c) n v)
    near_by c zero v = (zero, refl)
    near_by c (suc n) v = near_choice c n v v (local c (side c v)) refl (near_by c n (step c v))

    -- Kept worlds of which each turn is allowed, and leads to a kept one with those after it that meet
    -- nothing, cover each order.
    pub covers_orders : ((v : V) → Kept v → (c : ℕ) → c < 2 → Allowed c (side c v) × ((n : ℕ) × Kept (run step (λ d w. local d (side d w)) n c v)))
        → (v : V) → Good v → Kept v → (order : List ℕ) → IsOrder order → covered v order
    covers_orders next v good k order o =
        let goes = λ (w : V) (kw : Kept w) (c : ℕ) (small : c < 2).
        let g = next w kw c small in
        let m = near_by c g.1.0 (step c w) in
        let near : IsNear m.0 (step c w) = record { core = c; small = small; kept = run step (λ d x. local d (side d x)) g.1.0 c w; is_kept = g.1.1; nears = m.1 } in
        let found : (r : ℕ) × IsNear r (step c w) = (m.0, near) in
        let both : Allowed c (side c w) × ((r : ℕ) × IsNear r (step c w)) = (g.0, found) in
        both
        in
        covered_kept goes (length order) (covers goes (length order)) v order (omega arith) good o k
