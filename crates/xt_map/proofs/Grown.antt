-- A history with one more entry, and the test of a legal history.
use Rattle.std.proofs.Common.{◌≡◌, ℕ, zero, suc, ◌<◌, ◌≤◌, Bool, true, false, List, [], ◌∷◌, ◌++◌, length, slice_get, take, Some, ◌⊎◌, ◌↔◌, ⊎_elim, inl, inr, refl, sym, ap, ◌∙◌, subst, arith}
use Rattle.std.specs.Prelude.{◌==◌, if◌then◌else◌}
use Rattle.std.proofs.lemmas.Bool.{and_parts, and_from, eqb-true, eq-eqb}
use Rattle.std.proofs.lemmas.List.{take-append-le}
use Rattle.std.proofs.Math.Seq.{take-append_seam}
use Rattle.xt_map.specs.declared.access.Entry.{Entry}
use Rattle.xt_map.specs.declared.contents.MemoryContents.{MemoryContents}
use Rattle.xt_map.specs.Serving.{memory_past, reply_to}
use Rattle.xt_map.specs.History.{memory_after, IsLegal, is_legal_from, IsOfCores, calls_of}

-- an element of a list with one more is one of the list, or the last
at_push : {X : Type 0} (xs : List X) (x : X) (k : ℕ) (y : X) → slice_get (xs ++ x ∷ []) k ≡ Some y → ((slice_get xs k ≡ Some y) × (k < length xs)) ⊎ ((k ≡ length xs) × (x ≡ y))
at_push [] x zero y e = inr (refl, cc)
at_push [] x (suc k) y e = absurd cc
at_push (z ∷ zs) x zero y e = inl (e, omega arith)
at_push (z ∷ zs) x (suc k) y e =
    ⊎_elim (λ (h : (slice_get zs k ≡ Some y) × (k < length zs)). inl (h.0, (let g : k < length zs = h.1 in omega arith)))
    (λ (h : (k ≡ length zs) × (x ≡ y)). inr (ap suc h.0, h.1)) (at_push zs x k y e)

pub memory_after_push : (m : MemoryContents) (es : List Entry) (e : Entry) → memory_after m (es ++ e ∷ []) ≡ memory_past (memory_after m es) e.access
memory_after_push m [] e = refl
memory_after_push m (x ∷ xs) e = memory_after_push (memory_past m x.access) xs e

pub legal_push : (m : MemoryContents) (es : List Entry) (e : Entry) → IsLegal m es → e.reply ≡ reply_to (memory_after m es) e.access → IsLegal m (es ++ e ∷ [])
legal_push m es e h r k x at =
    ⊎_elim (λ (i : (slice_get es k ≡ Some x) × (k < length es)).
    let le : k ≤ length es = (let g : k < length es = i.1 in omega arith) in
    let P : List Entry → Type 0 = λ hs. x.reply ≡ reply_to (memory_after m hs) x.access in subst P (sym (take-append-le k es (e ∷ []) le)) (h k x i.0))
    (λ (i : (k ≡ length es) × (e ≡ x)).
    let P : List Entry → Type 0 = λ hs. x.reply ≡ reply_to (memory_after m hs) x.access in
    let Q : Entry → Type 0 = λ y. y.reply ≡ reply_to (memory_after m es) y.access in
    subst P (sym (ap (λ n. take n (es ++ e ∷ [])) i.0 ∙ take-append_seam es (e ∷ []))) (subst Q i.1 r)) (at_push es e k x at)

pub of_cores_push : (es : List Entry) (e : Entry) → IsOfCores es → e.core < 2 → IsOfCores (es ++ e ∷ [])
of_cores_push es e h r k x at =
    ⊎_elim (λ (i : (slice_get es k ≡ Some x) × (k < length es)). h k x i.0)
    (λ (i : (k ≡ length es) × (e ≡ x)). let Q : Entry → Type 0 = λ y. y.core < 2 in subst Q i.1 r) (at_push es e k x at)

-- one element more in front, or none, by a test
by_test : {X : Type 0} (t : Bool) (x : X) (whole front back : List X) → whole ≡ front ++ back
    → (if t then x ∷ whole else whole) ≡ (if t then x ∷ front else front) ++ back
by_test true x whole front back e = ap (λ l. x ∷ l) e
by_test false x whole front back e = e

pub calls_of_push : (core : ℕ) (es : List Entry) (e : Entry)
    → calls_of core (es ++ e ∷ []) ≡ calls_of core es ++ (if e.core == core then (e.access, e.reply) ∷ [] else [])
calls_of_push core [] e = refl
calls_of_push core (x ∷ xs) e =
    by_test (x.core == core) (x.access, x.reply) (calls_of core (xs ++ e ∷ [])) (calls_of core xs)
    (if e.core == core then (e.access, e.reply) ∷ [] else []) (calls_of_push core xs e)

-- ---- the test

pub legal_of_test : (m : MemoryContents) (es : List Entry) → is_legal_from m es ≡ true → IsLegal m es
legal_of_test m [] h k x at = absurd cc
legal_of_test m (e ∷ rest) h zero x at =
    let Q : Entry → Type 0 = λ y. y.reply ≡ reply_to m y.access in
    let same : e ≡ x = cc in
    subst Q same (eqb-true _ _ (and_parts (e.reply == reply_to m e.access) (is_legal_from (memory_past m e.access) rest) h).0)
legal_of_test m (e ∷ rest) h (suc k) x at =
    legal_of_test (memory_past m e.access) rest (and_parts (e.reply == reply_to m e.access) (is_legal_from (memory_past m e.access) rest) h).1 k x at

pub test_of_legal : (m : MemoryContents) (es : List Entry) → IsLegal m es → is_legal_from m es ≡ true
test_of_legal m [] h = refl
test_of_legal m (e ∷ rest) h =
    and_from (e.reply == reply_to m e.access) (is_legal_from (memory_past m e.access) rest) (eq-eqb _ _ (h 0 e refl))
    (test_of_legal (memory_past m e.access) rest (λ k x at. h (suc k) x at))

pub legal_test : (m : MemoryContents) (es : List Entry) → (is_legal_from m es ≡ true) ↔ IsLegal m es
legal_test m es = (legal_of_test m es, test_of_legal m es)
