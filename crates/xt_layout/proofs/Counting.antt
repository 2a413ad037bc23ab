-- How many words the pool at each place has.
use Rattle.std.proofs.Common.{◌≡◌, ◌≢◌, List, ◌++◌, refl, sym, ap, ◌∙◌, subst, ℕ, zero, suc, replicate, ◌+◌, ◌<◌, ◌≤◌, ◌^◌, cond, eqb, length, take, get_or, set, arith, ⊎_elim}
use Rattle.std.proofs.lemmas.List.{get_or-set_same, get_or-set_other, length-set, get_or_past, take_all, take_at, length-take-le}
use Rattle.std.proofs.lemmas.List.Sums.{sum_by_more, count_by-le-length}
use Rattle.std.proofs.lemmas.Bool.{cases_eq, cases_lt}
use Rattle.std.proofs.lemmas.Bool.Decides.{nat_tests}
use Rattle.xt_layout.specs.declared.word.PoolWord.{PoolWord}
use Rattle.xt_layout.specs.Bounds.{ArePools}
use Rattle.xt_layout.specs.Sizes.{pool_size}

-- the counts of the first i words at n places
pub record Counts (counts : List ℕ) (words : List PoolWord) (i n : ℕ) : Type 0 where
  pub many : length counts ≡ n
  pub sizes : (k : ℕ) → k < n → get_or counts k 0 ≡ pool_size (take i words) k

pub counts_none : (counts : List ℕ) (words : List PoolWord) → ((k : ℕ) → get_or counts k 0 ≡ 0) → Counts counts words 0 (length counts)
counts_none counts words zeros = record { many = refl; sizes = λ k lt. zeros k }

pool_more : (words : List PoolWord) (i k : ℕ) (w : PoolWord) → i < length words → w ≡ get_or words i w → pool_size (take (i + 1) words) k ≡ pool_size (take i words) k + cond (eqb w.position k) 1 0
pool_more words i k w lt is = sum_by_more (λ (w : PoolWord). cond (eqb w.position k) 1 0) words i w lt ∙ ap (λ (x : PoolWord). pool_size (take i words) k + cond (eqb x.position k) 1 0) (sym is)

same_place : (k : ℕ) → cond {A = ℕ} (eqb k k) 1 0 ≡ 1
same_place k = grind (arith, nat_tests)

other_place : (p k : ℕ) → p ≢ k → cond {A = ℕ} (eqb p k) 1 0 ≡ 0
other_place p k ne = grind (arith, nat_tests)

counted : (counts : List ℕ) (p k size : ℕ) → k < length counts → get_or counts k 0 ≡ size → get_or (set counts p (get_or counts p 0 + 1)) k 0 ≡ size + cond (eqb p k) 1 0
counted counts p k size lt is = ⊎_elim
    (λ e. let P : ℕ → Type 0 = λ p. get_or (set counts p (get_or counts p 0 + 1)) k 0 ≡ size + cond (eqb p k) 1 0 in
    subst P e (get_or-set_same counts k (get_or counts k 0 + 1) 0 lt ∙ omega (arith, same_place k, is)))
    (λ ne. let other : p ≢ k = λ e. ne (sym e) in get_or-set_other counts p k (get_or counts p 0 + 1) 0 ne ∙ omega (arith, other_place p k other, is))
    (cases_eq k p)

pub counts_more : (counts now : List ℕ) (words : List PoolWord) (i n : ℕ) (w : PoolWord) → i < length words → w ≡ get_or words i w → Counts counts words i n →
    now ≡ set counts w.position (get_or counts w.position 0 + 1) → Counts now words (i + 1) n
counts_more counts now words i n w lt is counts_are e = record {
  many = ap length e ∙ length-set counts w.position (get_or counts w.position 0 + 1) ∙ counts_are.many;
  sizes = λ k less. ap (λ xs. get_or xs k 0) e
      ∙ counted counts w.position k (pool_size (take i words) k) (let P : ℕ → Type 0 = λ m. k < m in subst P (sym counts_are.many) less) (counts_are.sizes k less) ∙ sym (pool_more words i k w lt is);
}

pub counts_all : (counts : List ℕ) (words : List PoolWord) (i n : ℕ) → length words ≤ i → Counts counts words i n → (k : ℕ) → k < n → get_or counts k 0 ≡ pool_size words k
counts_all counts words i n le counts_are k less = counts_are.sizes k less ∙ ap (λ ws. pool_size ws k) (take_all i words le)

-- a count is no more than the words so far
pub counts_fit : (counts : List ℕ) (words : List PoolWord) (i n p : ℕ) → length words < 2 ^ 32 → i ≤ length words → Counts counts words i n → get_or counts p 0 < 2 ^ 63
counts_fit counts words i n p few le counts_are = ⊎_elim
    (λ lt. let s : get_or counts p 0 ≡ pool_size (take i words) p = counts_are.sizes p lt in omega (arith, count_by-le-length (λ (w : PoolWord). eqb w.position p) (take i words), length-take-le i words le))
    (λ ge. let z : get_or counts p 0 ≡ 0 = get_or_past counts p 0 (omega (arith, counts_are.many)) in omega arith)
    (cases_lt p n)

pub zero_at : (n k : ℕ) → get_or {A = ℕ} (replicate n 0) k 0 ≡ 0
zero_at zero k = refl
zero_at (suc n) zero = refl
zero_at (suc n) (suc k) = zero_at n k

-- the counts, written back
pub put_back : (words : List PoolWord) (n len : ℕ) (old new rest : List ℕ) → length new ≡ length old → length old ≡ len → len ≡ n →
    ((k : ℕ) → k < length old → get_or new k 0 ≡ pool_size words k) → ArePools words n (take len (new ++ rest))
put_back words n len old new rest same long all sizes =
    let P : List ℕ → Type 0 = λ xs. ArePools words n xs in
    subst P (sym (take_at new rest len (same ∙ long))) (record {
      many = same ∙ long ∙ all;
      sizes = λ k lt. sizes k (let Q : ℕ → Type 0 = λ m. k < m in subst Q (sym (long ∙ all)) lt);
    })

-- nor is it more than the words
pub counts_few : (counts : List ℕ) (words : List PoolWord) (i n p : ℕ) → p < n → i ≤ length words → Counts counts words i n → get_or counts p 0 ≤ length words
counts_few counts words i n p lt le counts_are =
    let s : get_or counts p 0 ≡ pool_size (take i words) p = counts_are.sizes p lt in
    omega (arith, count_by-le-length (λ (w : PoolWord). eqb w.position p) (take i words), length-take-le i words le)
