-- How many bytes a line shows, as loops count them.
use Rattle.std.proofs.Common.{◌≡◌, ℕ, zero, suc, ◌+◌, ◌-◌, ◌<◌, ◌≤◌, Bool, true, false, List, [], ◌∷◌, length, drop, get_or, refl, sym, ap, ◌∙◌, arith}
use Rattle.std.proofs.lemmas.List.{drop_all, drop_more}
use Rattle.xt_flow.specs.Printing.{run, to_next}

-- ---- up to the next start

next_here : (starts : ℕ → Bool) (a n m : ℕ) → m ≡ suc n → starts a ≡ true → to_next starts a m ≡ 0
next_here starts a n m e h = ap (to_next starts a) e ∙ rw h refl

next_later : (starts : ℕ → Bool) (a n m : ℕ) → m ≡ suc n → starts a ≡ false → to_next starts a m ≡ suc (to_next starts (a + 1) n)
next_later starts a n m e h = ap (to_next starts a) e ∙ rw h refl

pub next_stops : (starts : ℕ → Bool) (a k most whole : ℕ) → k < most → starts (a + k) ≡ true → k + to_next starts (a + k) (most - k) ≡ whole → k ≡ whole
next_stops starts a k most whole lt h so_far =
    let none : to_next starts (a + k) (most - k) ≡ 0 = next_here starts (a + k) (most - (k + 1)) (most - k) (omega arith) h in
    omega arith

pub next_goes_on : (starts : ℕ → Bool) (a k most whole : ℕ) → k < most → starts (a + k) ≡ false → k + to_next starts (a + k) (most - k) ≡ whole
    → (k + 1) + to_next starts (a + (k + 1)) (most - (k + 1)) ≡ whole
next_goes_on starts a k most whole lt h so_far =
    let more : to_next starts (a + k) (most - k) ≡ suc (to_next starts ((a + k) + 1) (most - (k + 1))) = next_later starts (a + k) (most - (k + 1)) (most - k) (omega arith) h in
    let same : to_next starts ((a + k) + 1) (most - (k + 1)) ≡ to_next starts (a + (k + 1)) (most - (k + 1)) = ap (λ x. to_next starts x (most - (k + 1))) (omega arith) in
    omega arith

pub next_ends : (starts : ℕ → Bool) (a k most whole : ℕ) → most ≤ k → k + to_next starts (a + k) (most - k) ≡ whole → k ≡ whole
next_ends starts a k most whole past so_far =
    let none : to_next starts (a + k) (most - k) ≡ 0 = ap (to_next starts (a + k)) (let e : most - k ≡ 0 = omega arith in e) in
    omega arith

-- ---- while bytes pass a test

module _ (test : ℕ → List ℕ → Bool) where
  run_one : (a n m b : ℕ) (bytes rest : List ℕ) → m ≡ suc n → bytes ≡ b ∷ rest → test a bytes ≡ true → run m test a bytes ≡ suc (run n test (a + 1) rest)
  unfolding run
  run_one a n m b bytes rest e is h =
      let here : test a (b ∷ rest) ≡ true = ap (test a) (sym is) ∙ h in
      ap (λ k. run k test a bytes) e ∙ ap (run (suc n) test a) is ∙ rw here refl

  run_none : (a m : ℕ) (bytes : List ℕ) → test a bytes ≡ false → run m test a bytes ≡ 0
  unfolding run
  run_none a zero bytes h = refl
  run_none a (suc n) [] h = refl
  run_none a (suc n) (b ∷ bytes) h = rw h refl

  run_nil : (a m : ℕ) (bytes : List ℕ) → bytes ≡ [] → run m test a bytes ≡ 0
  unfolding run
  run_nil a zero bytes e = refl
  run_nil a (suc n) bytes e = ap (run (suc n) test a) e

  run_zero : (a m : ℕ) (bytes : List ℕ) → m ≡ 0 → run m test a bytes ≡ 0
  unfolding run
  run_zero a m bytes e = ap (λ k. run k test a bytes) e

  pub run_some : (a n : ℕ) (bytes : List ℕ) → 0 < n → 0 < length bytes → test a bytes ≡ true → 0 < run n test a bytes
  unfolding run
  run_some a zero bytes some few h = absurd (omega arith)
  run_some a (suc n) [] some few h = absurd (omega arith)
  run_some a (suc n) (b ∷ bytes) some few h = rw h (omega arith)

  pub run_stops : (a n k whole : ℕ) (bytes : List ℕ) → test (a + k) (drop k bytes) ≡ false → k + run (n - k) test (a + k) (drop k bytes) ≡ whole → k ≡ whole
  run_stops a n k whole bytes h so_far =
      let none : run (n - k) test (a + k) (drop k bytes) ≡ 0 = run_none (a + k) (n - k) (drop k bytes) h in
      omega arith

  pub run_goes_on : (a n k whole : ℕ) (bytes : List ℕ) → k < n → k < length bytes → test (a + k) (drop k bytes) ≡ true → k + run (n - k) test (a + k) (drop k bytes) ≡ whole
      → (k + 1) + run (n - (k + 1)) test (a + (k + 1)) (drop (k + 1) bytes) ≡ whole
  run_goes_on a n k whole bytes lt there h so_far =
      let more : run (n - k) test (a + k) (drop k bytes) ≡ suc (run (n - (k + 1)) test ((a + k) + 1) (drop (k + 1) bytes)) =
      run_one (a + k) (n - (k + 1)) (n - k) (get_or bytes k 0) (drop k bytes) (drop (k + 1) bytes) (omega arith) (drop_more bytes k 0 there) h in
      let same : run (n - (k + 1)) test ((a + k) + 1) (drop (k + 1) bytes) ≡ run (n - (k + 1)) test (a + (k + 1)) (drop (k + 1) bytes) = ap (λ x. run (n - (k + 1)) test x (drop (k + 1) bytes)) (omega arith) in
      omega arith

  pub run_has_all : (a n k whole : ℕ) (bytes : List ℕ) → length bytes ≤ k → k + run (n - k) test (a + k) (drop k bytes) ≡ whole → k ≡ whole
  run_has_all a n k whole bytes past so_far =
      let none : run (n - k) test (a + k) (drop k bytes) ≡ 0 = run_nil (a + k) (n - k) (drop k bytes) (drop_all k bytes past) in
      omega arith

  pub run_has_most : (a n k whole : ℕ) (bytes : List ℕ) → n ≤ k → k + run (n - k) test (a + k) (drop k bytes) ≡ whole → k ≡ whole
  run_has_most a n k whole bytes past so_far =
      let none : run (n - k) test (a + k) (drop k bytes) ≡ 0 = run_zero (a + k) (n - k) (drop k bytes) (omega arith) in
      omega arith
