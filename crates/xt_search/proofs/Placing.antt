-- A byte more at the place that a walk from the left finds.
use Rattle.std.proofs.Common.{◌≡◌, ◌≢◌, ℕ, suc, ◌<◌, ◌≤◌, Bool, true, false, List, [], ◌∷◌, ◌++◌, length, Some, get_or, take, drop, slice_get, slice_set, refl, sym, ap, ◌∙◌, arith, eq-eqb, ne_eqb}
use Rattle.std.specs.Prelude.{◌==◌, nat_lt, if◌then◌else◌}
use Rattle.std.proofs.lemmas.Option.{get_or_from_slice_get, slice_get-get_or, slice_get_within}
use Rattle.xt_search.specs.declared.changes.Change.{Change}
use Rattle.xt_search.specs.Changed.{place_in, put_in, without}
use Rattle.std.specs.List.{remove}

not_equal : (a b : ℕ) → a ≢ b → (a == b) ≡ false
not_equal a b h = ne_eqb a b h

place_choice : (s : Bool) (p n : ℕ) → p ≤ n → (if s then suc p else 0) ≤ suc n
place_choice true p n h = omega arith
place_choice false p n h = omega arith

hit_choice : (c : Change) (cs : List Change) (x d : Change) (s : Bool) → nat_lt c.addr x.addr ≡ s
    → (if s then suc (place_in cs x.addr) else 0) < length (c ∷ cs) → (get_or (c ∷ cs) (if s then suc (place_in cs x.addr) else 0) d).addr ≡ x.addr
    → (place_in cs x.addr < length cs → (get_or cs (place_in cs x.addr) d).addr ≡ x.addr → put_in cs x ≡ slice_set cs (place_in cs x.addr) x)
    → (if s then c ∷ put_in cs x else (if c.addr == x.addr then x ∷ cs else x ∷ c ∷ cs)) ≡ slice_set (c ∷ cs) (if s then suc (place_in cs x.addr) else 0) x
hit_choice c cs x d true e h a more = ap (λ (l : List Change). c ∷ l) (more (let i : suc (place_in cs x.addr) < suc (length cs) = h in omega arith) a)
hit_choice c cs x d false e h a more = ap (λ (t : Bool). if t then x ∷ cs else x ∷ c ∷ cs) (eq-eqb c.addr x.addr a)

-- over the byte at its address
pub put_hit : (cs : List Change) (x d : Change) → place_in cs x.addr < length cs → (get_or cs (place_in cs x.addr) d).addr ≡ x.addr → put_in cs x ≡ slice_set cs (place_in cs x.addr) x
put_hit [] x d h a = absurd (omega arith)
put_hit (c ∷ cs) x d h a = hit_choice c cs x d (nat_lt c.addr x.addr) refl h a (put_hit cs x d)

miss_choice : (c : Change) (cs : List Change) (x d : Change) (s : Bool)
    → ((if s then suc (place_in cs x.addr) else 0) < length (c ∷ cs) → (get_or (c ∷ cs) (if s then suc (place_in cs x.addr) else 0) d).addr ≢ x.addr)
    → ((place_in cs x.addr < length cs → (get_or cs (place_in cs x.addr) d).addr ≢ x.addr) → put_in cs x ≡ take (place_in cs x.addr) cs ++ x ∷ drop (place_in cs x.addr) cs)
    → (if s then c ∷ put_in cs x else (if c.addr == x.addr then x ∷ cs else x ∷ c ∷ cs))
    ≡ take (if s then suc (place_in cs x.addr) else 0) (c ∷ cs) ++ x ∷ drop (if s then suc (place_in cs x.addr) else 0) (c ∷ cs)
miss_choice c cs x d true h more = ap (λ (l : List Change). c ∷ l) (more (λ i. h (omega arith)))
miss_choice c cs x d false h more = ap (λ (t : Bool). if t then x ∷ cs else x ∷ c ∷ cs) (not_equal c.addr x.addr (h (omega arith)))

-- where there is none at its address
pub put_miss : (cs : List Change) (x d : Change) → (place_in cs x.addr < length cs → (get_or cs (place_in cs x.addr) d).addr ≢ x.addr)
    → put_in cs x ≡ take (place_in cs x.addr) cs ++ x ∷ drop (place_in cs x.addr) cs
put_miss [] x d h = refl
put_miss (c ∷ cs) x d h = miss_choice c cs x d (nat_lt c.addr x.addr) h (put_miss cs x d)

pub place_below : (cs : List Change) (a : ℕ) → place_in cs a ≤ length cs
place_below [] a = omega arith
place_below (c ∷ cs) a = place_choice (nat_lt c.addr a) (place_in cs a) (length cs) (place_below cs a)

-- the same, by what stands at the place
pub put_on : (cs : List Change) (x c : Change) (p : ℕ) → p ≡ place_in cs x.addr → slice_get cs p ≡ Some c → c.addr ≡ x.addr → slice_set cs p x ≡ put_in cs x
put_on cs x c p e at same =
    let less : p < length cs = slice_get_within cs p c at in
    let is : get_or cs p c ≡ c = get_or_from_slice_get cs p c c at in
    let inside : place_in cs x.addr < length cs = omega arith in
    let there : (get_or cs (place_in cs x.addr) c).addr ≡ x.addr = ap (λ (q : ℕ). (get_or cs q c).addr) (sym e) ∙ ap (λ (y : Change). y.addr) is ∙ same in
    ap (λ (q : ℕ). slice_set cs q x) e ∙ sym (put_hit cs x c inside there)

pub put_beside : (cs : List Change) (x : Change) (p : ℕ) → p ≡ place_in cs x.addr → ((c : Change) → slice_get cs p ≡ Some c → c.addr ≢ x.addr) → take p cs ++ x ∷ drop p cs ≡ put_in cs x
put_beside cs x p e h =
    ap (λ (q : ℕ). take q cs ++ x ∷ drop q cs) e
    ∙ sym (put_miss cs x x (λ less. h (get_or cs (place_in cs x.addr) x) (ap (slice_get cs) e ∙ slice_get-get_or cs (place_in cs x.addr) x less)))

-- ---- without the byte at an address

gone_choice : (c : Change) (cs : List Change) (a : ℕ) (d : Change) (s : Bool)
    → (if s then suc (place_in cs a) else 0) < length (c ∷ cs) → (get_or (c ∷ cs) (if s then suc (place_in cs a) else 0) d).addr ≡ a
    → (place_in cs a < length cs → (get_or cs (place_in cs a) d).addr ≡ a → without cs a ≡ remove cs (place_in cs a))
    → (if s then c ∷ without cs a else (if c.addr == a then cs else c ∷ cs)) ≡ remove (c ∷ cs) (if s then suc (place_in cs a) else 0)
gone_choice c cs a d true h at more = ap (λ (l : List Change). c ∷ l) (more (let i : suc (place_in cs a) < suc (length cs) = h in omega arith) at)
gone_choice c cs a d false h at more = ap (λ (t : Bool). if t then cs else c ∷ cs) (eq-eqb c.addr a at)

gone_hit : (cs : List Change) (a : ℕ) (d : Change) → place_in cs a < length cs → (get_or cs (place_in cs a) d).addr ≡ a → without cs a ≡ remove cs (place_in cs a)
gone_hit [] a d h at = absurd (omega arith)
gone_hit (c ∷ cs) a d h at = gone_choice c cs a d (nat_lt c.addr a) h at (gone_hit cs a d)

stays_choice : (c : Change) (cs : List Change) (a : ℕ) (d : Change) (s : Bool)
    → ((if s then suc (place_in cs a) else 0) < length (c ∷ cs) → (get_or (c ∷ cs) (if s then suc (place_in cs a) else 0) d).addr ≢ a)
    → ((place_in cs a < length cs → (get_or cs (place_in cs a) d).addr ≢ a) → without cs a ≡ cs)
    → (if s then c ∷ without cs a else (if c.addr == a then cs else c ∷ cs)) ≡ c ∷ cs
stays_choice c cs a d true h more = ap (λ (l : List Change). c ∷ l) (more (λ i. h (omega arith)))
stays_choice c cs a d false h more = ap (λ (t : Bool). if t then cs else c ∷ cs) (not_equal c.addr a (h (omega arith)))

stays_miss : (cs : List Change) (a : ℕ) (d : Change) → (place_in cs a < length cs → (get_or cs (place_in cs a) d).addr ≢ a) → without cs a ≡ cs
stays_miss [] a d h = refl
stays_miss (c ∷ cs) a d h = stays_choice c cs a d (nat_lt c.addr a) h (stays_miss cs a d)

pub gone_at : (cs : List Change) (a : ℕ) (c : Change) (p : ℕ) → p ≡ place_in cs a → slice_get cs p ≡ Some c → c.addr ≡ a → remove cs p ≡ without cs a
gone_at cs a c p e at same =
    let less : p < length cs = slice_get_within cs p c at in
    let is : get_or cs p c ≡ c = get_or_from_slice_get cs p c c at in
    let inside : place_in cs a < length cs = omega arith in
    let there : (get_or cs (place_in cs a) c).addr ≡ a = ap (λ (q : ℕ). (get_or cs q c).addr) (sym e) ∙ ap (λ (y : Change). y.addr) is ∙ same in
    ap (remove cs) e ∙ sym (gone_hit cs a c inside there)

pub stays_at : (cs : List Change) (a p : ℕ) → p ≡ place_in cs a → ((c : Change) → slice_get cs p ≡ Some c → c.addr ≢ a) → cs ≡ without cs a
stays_at cs a p e h =
    let none : Change = record { addr = 0; byte = 0 } in
    sym (stays_miss cs a none (λ less. h (get_or cs (place_in cs a) none) (ap (slice_get cs) e ∙ slice_get-get_or cs (place_in cs a) none less)))
