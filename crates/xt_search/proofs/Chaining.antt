-- Chains of kept worlds once a world more was added.
use Rattle.std.proofs.Common.{◌≡◌, ◌≢◌, ℕ, zero, suc, ◌+◌, ◌-◌, ◌<◌, ◌≤◌, Some, List, [], ◌∷◌, ◌++◌, length, get_or, slice_get, slice_set, refl, sym, ap, ◌∙◌, subst, arith, ◌⊎◌, inl, inr, ⊎_elim}
use Rattle.std.specs.Prelude.{replicate}
use Rattle.std.proofs.lemmas.Bool.{cases_eq, cases_lt}
use Rattle.std.proofs.lemmas.List.{get_or-set_other, get_or-set_same, get_or_push, length_push}
use Rattle.std.proofs.lemmas.Option.{slice_get_within}
use Rattle.xt_search.specs.declared.graph.Kept.{Kept}
use Rattle.xt_search.specs.declared.table.Table.{Table}
use Rattle.xt_search.specs.Chains.{AreDistinct, IsChained, IsNew, IsTable, chain_of}
use Rattle.xt_search.specs.Graphs.{IsAt}
use Rattle.xt_search.proofs.Numbers.{at_before, at_within, push_cases}

-- ---- lists

pub all_zero : (n c : ℕ) → ◌≡◌ {A = ℕ} (get_or (replicate n 0) c 0) 0
all_zero zero zero = refl
all_zero zero (suc c) = refl
all_zero (suc n) zero = refl
all_zero (suc n) (suc c) = all_zero n c

before_push : (xs : List ℕ) (y k : ℕ) → k < length xs → get_or (xs ++ y ∷ []) k 0 ≡ get_or xs k 0
before_push [] y k h = absurd (omega arith)
before_push (x ∷ xs) y zero h = refl
before_push (x ∷ xs) y (suc k) h = before_push xs y k (omega arith)

pub gets_pushed : (xs : List ℕ) (y k x : ℕ) → slice_get xs k ≡ Some x → slice_get (xs ++ y ∷ []) k ≡ Some x
gets_pushed [] y zero x h = absurd (cc)
gets_pushed [] y (suc k) x h = absurd (cc)
gets_pushed (z ∷ xs) y zero x h = h
gets_pushed (z ∷ xs) y (suc k) x h = gets_pushed xs y k x h

pub gets_last : (xs : List ℕ) (y : ℕ) → slice_get (xs ++ y ∷ []) (length xs) ≡ Some y
gets_last [] y = refl
gets_last (x ∷ xs) y = gets_last xs y

at_cases : {W : Type 0} (ks : List (Kept W)) (x : Kept W) (k : ℕ) (w : W) → IsAt (ks ++ x ∷ []) k w → IsAt ks k w ⊎ ((k ≡ length ks) × (x.world ≡ w))
at_cases [] x zero w h = inr (refl, cc)
at_cases [] x (suc k) w h = absurd (cc)
at_cases (y ∷ ks) x zero w h = inl h
at_cases {W} (y ∷ ks) x (suc k) w h =
    ⊎_elim (λ (i : IsAt ks k w). inl i) (λ (i : (k ≡ length ks) × (x.world ≡ w)). inr (ap suc i.0, i.1)) (at_cases ks x k w h)

-- ---- no number

abbrev nothing : List ℕ
nothing = []

no_one : (k c : ℕ) → slice_get nothing k ≡ Some c → ⊥
no_one zero c h = cc
no_one (suc k) c h = cc

pub none_chained : (n : ℕ) → IsChained (replicate n 0) [] []
none_chained n = record {
  as_long = refl;
  leads = λ c m e. absurd (let z : 0 ≡ suc m = sym (all_zero n c) ∙ e in omega arith);
  newest = λ k c h. absurd (no_one k c h);
  older = λ k h. absurd (omega arith);
  stays = λ k m c h e. absurd (no_one k c h);
  next = λ j k c l h i. absurd (no_one j c h);
}

-- a chain leads to a number that is listed
pub newest_within : (last before cs : List ℕ) → IsChained last before cs → (v c : ℕ) → get_or last c 0 ≡ v → v ≤ length cs
newest_within last before cs h zero c e = omega arith
newest_within last before cs h (suc n) c e = let i : n < length cs = slice_get_within cs n c (h.leads c n e) in omega arith

pub one_before : (n : ℕ) → (n ≡ 0 → ⊥) → n ≡ suc (n - 1)
one_before zero h = absurd (h refl)
one_before (suc n) h = omega arith

-- ---- a number more

module _ (last before cs : List ℕ) (chain : ℕ) (h : IsChained last before cs) (inside : chain < length last) where
  abbrev newer : List ℕ
  newer = slice_set last chain (suc (length cs))

  abbrev longer : List ℕ
  longer = before ++ get_or last chain 0 ∷ []

  abbrev more : List ℕ
  more = cs ++ chain ∷ []

  at_chain : (c : ℕ) → c ≡ chain → get_or newer c 0 ≡ suc (length cs)
  at_chain c is = ap (λ (x : ℕ). get_or newer x 0) is ∙ get_or-set_same last chain (suc (length cs)) 0 inside

  at_other : (c : ℕ) → c ≢ chain → get_or newer c 0 ≡ get_or last c 0
  at_other c isnt = get_or-set_other last chain c (suc (length cs)) 0 isnt

  as_before : (k : ℕ) → k < length cs → get_or longer k 0 ≡ get_or before k 0
  as_before k less = let e : length before ≡ length cs = h.as_long in before_push before (get_or last chain 0) k (omega arith)

  at_last : (k : ℕ) → k ≡ length cs → get_or longer k 0 ≡ get_or last chain 0
  at_last k is = get_or_push before (get_or last chain 0) 0 k (h.as_long ∙ sym is)

  leads_more : (c n : ℕ) → get_or newer c 0 ≡ suc n → slice_get more n ≡ Some c
  leads_more c n e = ⊎_elim
      (λ (is : c ≡ chain).
      let there : suc (length cs) ≡ suc n = sym (at_chain c is) ∙ e in
      let same : length cs ≡ n = omega arith in
      subst (λ (m : ℕ). slice_get more m ≡ Some c) same (gets_last cs chain ∙ ap Some (sym is)))
      (λ (isnt : c ≢ chain). gets_pushed cs chain n c (h.leads c n (sym (at_other c isnt) ∙ e)))
      (cases_eq c chain)

  newest_below : (k c : ℕ) → slice_get cs k ≡ Some c → k < get_or newer c 0
  newest_below k c at = ⊎_elim
      (λ (is : c ≡ chain).
      let e : get_or newer c 0 ≡ suc (length cs) = at_chain c is in
      let i : k < length cs = slice_get_within cs k c at in
      omega arith)
      (λ (isnt : c ≢ chain). subst (λ (v : ℕ). k < v) (sym (at_other c isnt)) (h.newest k c at))
      (cases_eq c chain)

  newest_more : (k c : ℕ) → slice_get more k ≡ Some c → k < get_or newer c 0
  newest_more k c at = ⊎_elim
      (λ (i : slice_get cs k ≡ Some c). newest_below k c i)
      (λ (i : (k ≡ length cs) × (chain ≡ c)).
      let e : get_or newer c 0 ≡ suc (length cs) = at_chain c (sym i.1) in
      let is : k ≡ length cs = i.0 in
      omega arith)
      (push_cases cs chain k c at)

  older_more : (k : ℕ) → k < length more → get_or longer k 0 ≤ k
  older_more k less = ⊎_elim
      (λ (i : k < length cs). subst (λ (v : ℕ). v ≤ k) (sym (as_before k i)) (h.older k i))
      (λ (i : length cs ≤ k).
      let many : length more ≡ length cs + 1 = length_push cs chain in
      let is : k ≡ length cs = omega arith in
      let e : get_or longer k 0 ≡ get_or last chain 0 = at_last k is in
      let w : get_or last chain 0 ≤ length cs = newest_within last before cs h (get_or last chain 0) chain refl in
      omega arith)
      (cases_lt k (length cs))

  stays_more : (k n c : ℕ) → slice_get more k ≡ Some c → get_or longer k 0 ≡ suc n → slice_get more n ≡ Some c
  stays_more k n c at e = ⊎_elim
      (λ (i : slice_get cs k ≡ Some c). gets_pushed cs chain n c (h.stays k n c i (sym (as_before k (slice_get_within cs k c i)) ∙ e)))
      (λ (i : (k ≡ length cs) × (chain ≡ c)). gets_pushed cs chain n c (h.leads chain n (sym (at_last k i.0) ∙ e) ∙ ap Some i.1))
      (push_cases cs chain k c at)

  next_more : (j k c : ℕ) → j < k → slice_get more j ≡ Some c → slice_get more k ≡ Some c → j < get_or longer k 0
  next_more j k c less atj atk = ⊎_elim
      (λ (i : slice_get cs k ≡ Some c).
      let kin : k < length cs = slice_get_within cs k c i in
      ⊎_elim
      (λ (m : slice_get cs j ≡ Some c). subst (λ (v : ℕ). j < v) (sym (as_before k kin)) (h.next j k c less m i))
      (λ (m : (j ≡ length cs) × (chain ≡ c)). let is : j ≡ length cs = m.0 in absurd (omega arith))
      (push_cases cs chain j c atj))
      (λ (i : (k ≡ length cs) × (chain ≡ c)).
      ⊎_elim
      (λ (m : slice_get cs j ≡ Some c).
      subst (λ (v : ℕ). j < v) (ap (λ (x : ℕ). get_or last x 0) (sym i.1) ∙ sym (at_last k i.0)) (h.newest j c m))
      (λ (m : (j ≡ length cs) × (chain ≡ c)). let is : j ≡ length cs = m.0 in let on : k ≡ length cs = i.0 in absurd (omega arith))
      (push_cases cs chain j c atj))
      (push_cases cs chain k c atk)

  pub one_more : IsChained newer longer more
  one_more = record {
    as_long = length_push before (get_or last chain 0) ∙ ap (λ (n : ℕ). n + 1) h.as_long ∙ sym (length_push cs chain);
    leads = leads_more;
    newest = newest_more;
    older = older_more;
    stays = stays_more;
    next = next_more;
  }

-- ---- kept worlds

pub table_more : {W : Type 0} (IsMark : W → ℕ → Type 0) (t u : Table) (ks new : List (Kept W)) (x : Kept W) (d : ℕ) → IsTable IsMark t ks → length u.last.items ≡ 1048576
    → ((cs : List ℕ) → IsChained t.last.items t.before.items cs → IsChained u.last.items u.before.items (cs ++ chain_of d ∷ []))
    → IsMark x.world d → new ≡ ks ++ x ∷ [] → IsTable IsMark u new
table_more {W} IsMark t u ks new x d h many on mark e = subst (IsTable IsMark u) (sym e) (record {
  many = many;
  cs = h.cs ++ chain_of d ∷ [];
  as_long = length_push h.cs (chain_of d) ∙ ap (λ (n : ℕ). n + 1) h.as_long ∙ sym (length_push ks x);
  chained = on h.cs h.chained;
  marks = λ k w at.
      ⊎_elim
      (λ (i : IsAt ks k w). let r = h.marks k w i in (r.0, r.1, gets_pushed h.cs (chain_of d) k (chain_of r.0) r.2))
      (λ (i : (k ≡ length ks) × (x.world ≡ w)). (
        d,
        subst (λ (v : W). IsMark v d) i.1 mark,
        subst (λ (j : ℕ). slice_get (h.cs ++ chain_of d ∷ []) j ≡ Some (chain_of d)) (h.as_long ∙ sym i.0) (gets_last h.cs (chain_of d)),
      ))
      (at_cases ks x k w at);
})

pub none_kept : {W : Type 0} (IsMark : W → ℕ → Type 0) (t : Table) → length t.last.items ≡ 1048576 → IsChained t.last.items t.before.items [] → IsTable IsMark t []
none_kept {W} IsMark t many h = record {
  many = many;
  cs = [];
  as_long = refl;
  chained = h;
  marks = λ k w at. let l : k < 0 = at_within [] k w at in absurd (omega arith);
}

pub distinct_more : {W : Type 0} (Same : W → W → Type 0) (ks new : List (Kept W)) (x : Kept W) → AreDistinct Same ks → IsNew Same ks x.world → new ≡ ks ++ x ∷ [] → AreDistinct Same new
distinct_more {W} Same ks new x h none e = subst (AreDistinct Same) (sym e) (λ j k v w less atj atk same.
    ⊎_elim
    (λ (i : IsAt ks k w).
    let kin : k < length ks = at_within ks k w i in
    h j k v w less (at_before ks x j v (omega arith) atj) i same)
    (λ (i : (k ≡ length ks) × (x.world ≡ w)).
    let is : k ≡ length ks = i.0 in
    none j v (at_before ks x j v (omega arith) atj) (subst (λ (u : W). Same v u) (sym i.1) same))
    (at_cases ks x k w atk))

-- a list of one world
pub distinct_one : {W : Type 0} (Same : W → W → Type 0) (x : Kept W) → AreDistinct Same (x ∷ [])
distinct_one {W} Same x = λ j k v w less atj atk same. let l : k < 1 = at_within (x ∷ []) k w atk in
    absurd (ends j k less l)
  where
    ends : (j k : ℕ) → j < k → k < 1 → ⊥
    ends j k a b = omega arith
