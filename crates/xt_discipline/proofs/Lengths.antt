-- A schedule has as many turns as both traces together.
use Rattle.std.proofs.Common.{◌≡◌, ℕ, zero, suc, ◌+◌, ◌-◌, ◌<◌, ◌≤◌, List, [], ◌∷◌, ◌++◌, length, replicate, ◌∙◌, ap, arith}
use Rattle.std.proofs.lemmas.List.{length-append, length-replicate}
use Rattle.xt_trace.specs.declared.run.Run.{Run}
use Rattle.xt_trace.specs.Validity.{most_turns}
use Rattle.xt_trace.specs.Schedule.{cores_of, schedule_from}
use Rattle.xt_trace.specs.Short.{IsRising}
use Rattle.xt_discipline.specs.Schedules.{HasSchedule, schedule_in}

more : (n c : ℕ) (rest : List ℕ) → length (replicate n c ++ rest) ≡ n + length rest
more n c rest = length-append (replicate n c) rest ∙ ap (λ (k : ℕ). k + length rest) (length-replicate n c)

by : (x y z : ℕ) → x ≡ y → y ≤ z → x ≤ z
by x y z e h = omega (arith, e, h)

both : (a b : ℕ) → a + b ≤ a + b
both a b = omega arith

none : (a : ℕ) → 0 ≤ a
none a = omega arith

sum_zero : (i p n x l : ℕ) → i ≤ p → p < n → l ≤ (n - suc p) + x → (suc p - i) + l ≤ (n - i) + x
sum_zero i p n x l low high rest = omega arith

sum_one : (j q m x l : ℕ) → j ≤ q → q < m → l ≤ x + (m - suc q) → (suc q - j) + l ≤ x + (m - j)
sum_one j q m x l low high rest = omega arith

at_most : (cs : List ℕ) (i : ℕ) (ps : List ℕ) (n j : ℕ) (qs : List ℕ) (m : ℕ) → IsRising i ps n → IsRising j qs m → length (schedule_from cs i ps n j qs m) ≤ (n - i) + (m - j)
at_most [] i ps n j qs m r s =
    by (length (replicate (n - i) 0 ++ replicate (m - j) 1)) ((n - i) + (m - j)) ((n - i) + (m - j)) (more (n - i) 0 (replicate (m - j) 1) ∙ ap (λ (k : ℕ). n - i + k) (length-replicate (m - j) 1)) (both (n - i) (m - j))
at_most (zero ∷ cs) i [] n j qs m r s = none ((n - i) + (m - j))
at_most (zero ∷ cs) i (p ∷ ps) n j qs m r s =
    let rest = schedule_from cs (suc p) ps n j qs m in
    by (length (replicate (suc p - i) 0 ++ rest)) ((suc p - i) + length rest) ((n - i) + (m - j)) (more (suc p - i) 0 rest) (sum_zero i p n (m - j) (length rest) r.0 r.1 (at_most cs (suc p) ps n j qs m r.2 s))
at_most (suc c ∷ cs) i ps n j [] m r s = none ((n - i) + (m - j))
at_most (suc c ∷ cs) i ps n j (q ∷ qs) m r s =
    let rest = schedule_from cs i ps n (suc q) qs m in
    by (length (replicate (suc q - j) 1 ++ rest)) ((suc q - j) + length rest) ((n - i) + (m - j)) (more (suc q - j) 1 rest) (sum_one j q m (n - i) (length rest) s.0 s.1 (at_most cs i ps n (suc q) qs m r s.2))

pub schedule_short : (r : Run) → HasSchedule r → length (schedule_in r) ≤ most_turns + most_turns
schedule_short r h =
    let l = at_most (cores_of r.history) 0 r.trace0.places r.trace0.count 0 r.trace1.places r.trace1.count h.trace0.rise h.trace1.rise in
    let a = h.trace0.short in
    let b = h.trace1.short in
    let c = h.valid.turns0 in
    let d = h.valid.turns1 in
    omega (arith, l, a, b, c, d)
