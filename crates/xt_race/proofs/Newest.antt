-- The latest of the first entries that passes a test.
use Rattle.std.proofs.Common.{◌≡◌, ℕ, zero, suc, ◌+◌, ◌<◌, ◌≤◌, Bool, true, false, cond, Option, Some, None, List, refl, ap, ◌∙◌, arith, below_more}
use Rattle.std.specs.Prelude.{slice_get}
use Rattle.xt_race.specs.declared.event.Event.{Event}
use Rattle.xt_race.specs.Found.{later, latest}

later_here : (p : Event → Bool) (o : Option Event) (e : Event) (n b : ℕ) → o ≡ Some e → p e ≡ true → later p o n b ≡ suc n
later_here p o e n b at met = ap (λ (x : Option Event). later p x n b) at ∙ ap (λ (t : Bool). cond t (suc n) b) met

later_bounds : (p : Event → Bool) (o : Option Event) (n b : ℕ) → b ≤ n → (b ≤ later p o n b) × (later p o n b ≤ suc n)
later_bounds p None n b h = (omega arith, omega arith)
later_bounds p (Some e) n b h = elim (p e) as (λ t. (b ≤ cond t (suc n) b) × (cond t (suc n) b ≤ suc n)) [ true ↦ (omega arith, omega arith) | false ↦ (omega arith, omega arith) ]

pub latest_low : (p : Event → Bool) (es : List Event) (n : ℕ) → latest p es n ≤ n
latest_low p es zero = omega arith
latest_low p es (suc n) = (later_bounds p (slice_get es n) n (latest p es n) (latest_low p es n)).1

-- an entry that passes is not after the latest one
pub latest_above : (p : Event → Bool) (es : List Event) (n i : ℕ) (e : Event) → slice_get es i ≡ Some e → p e ≡ true → i < n → i < latest p es n
latest_above p es zero i e at met lt = absurd (omega arith)
latest_above p es (suc n) i e at met lt =
    let P : ℕ → Type 0 = λ k. (x : Event) → slice_get es k ≡ Some x → p x ≡ true → k < latest p es (suc n) in
    let grows : latest p es n ≤ latest p es (suc n) = (later_bounds p (slice_get es n) n (latest p es n) (latest_low p es n)).0 in
    let below : (k : ℕ) → k < n → P k = λ k h x a y. let q : k < latest p es n = latest_above p es n k x a y h in omega (arith, grows, q) in
    let here : P n = λ x a y. let q : latest p es (suc n) ≡ suc n = later_here p (slice_get es n) x n (latest p es n) a y in omega (arith, q) in
    let lt_one : i < n + 1 = omega arith in
    below_more P n below here i lt_one e at met

-- the latest entry, where it is not one of the first s
pub record Latter (p : Event → Bool) (es : List Event) (n s : ℕ) : Type 0 where
  pub place : ℕ
  pub event : Event
  pub low : s ≤ place
  pub high : place < n
  pub at : slice_get es place ≡ Some event
  pub passes : p event ≡ true

more : (p : Event → Bool) (es : List Event) (n s : ℕ) → Latter p es n s → Latter p es (suc n) s
more p es n s h = let lt : h.place < suc n = omega (arith, h.high) in record { place = h.place; event = h.event; low = h.low; high = lt; at = h.at; passes = h.passes }

later_is : (p : Event → Bool) (es : List Event) (n s b : ℕ) (o : Option Event) → slice_get es n ≡ o → (s < b → Latter p es n s) → s < later p o n b → Latter p es (suc n) s
later_is p es n s b None is before lt = more p es n s (before lt)
later_is p es n s b (Some e) is before lt =
    let P : Bool → Type 0 = λ t. p e ≡ t → s < cond t (suc n) b → Latter p es (suc n) s in
    let both : (t : Bool) → P t = elim [
      | true ↦ (λ met h. let low : s ≤ n = omega (arith, h) in let high : n < suc n = omega arith in record { place = n; event = e; low = low; high = high; at = is; passes = met })
      | false ↦ (λ no_pass h. more p es n s (before h))
    ] in
    both (p e) refl lt

pub latest_is : (p : Event → Bool) (es : List Event) (n s : ℕ) → s < latest p es n → Latter p es n s
latest_is p es zero s lt = absurd (omega arith)
latest_is p es (suc n) s lt = later_is p es n s (latest p es n) (slice_get es n) refl (latest_is p es n s) lt
