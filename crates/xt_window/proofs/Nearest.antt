-- The first of three tests that holds is the nearest number that passes.
use Rattle.std.proofs.Common.{◌≡◌, ◌≢◌, ℕ, zero, suc, ◌+◌, ◌-◌, ◌<◌, ◌≤◌, Bool, true, false, refl, ap, ◌∙◌, ⊎_elim, arith}
use Rattle.std.specs.Prelude.{◌&&◌, nat_le}
use Rattle.std.proofs.lemmas.Bool.{cases_eq, leb-true, le-leb, false≢true}
use Rattle.xt_window.specs.Ring.{bit, ahead, first_of_three}
use Rattle.xt_window.specs.Moves.{behind}
use Rattle.xt_window.specs.WindowLaws.{IsNearest}

at : (test : ℕ → Bool) (j k : ℕ) (b : Bool) → test j ≡ b → k ≡ j → test k ≡ b
at test j k b h e = ap test e ∙ h

below_3 : (test : ℕ → Bool) (k : ℕ) → test 1 ≡ false → test 2 ≡ false → 0 < k → k < 3 → test k ≡ false
below_3 test k a b g h = ⊎_elim (λ (e : k ≡ 1). at test 1 k false a e) (λ (ne : k ≢ 1). at test 2 k false b (omega arith)) (cases_eq k 1)

below_4 : (test : ℕ → Bool) (k : ℕ) → test 1 ≡ false → test 2 ≡ false → test 3 ≡ false → 0 < k → k ≤ 3 → test k ≡ false
below_4 test k a b c g h = ⊎_elim (λ (e : k ≡ 3). at test 3 k false c e) (λ (ne : k ≢ 3). below_3 test k a b g (omega arith)) (cases_eq k 3)

pub nearest_of_three : (test : ℕ → Bool) (x y z : Bool) → test 1 ≡ x → test 2 ≡ y → test 3 ≡ z → IsNearest test 3 (first_of_three x y z)
nearest_of_three test true y z a b c = record {
  within = omega arith;
  passes = λ h. a;
  fails_before = λ k g h. absurd (omega arith);
  fails_all = λ e. absurd (omega arith);
}
nearest_of_three test false true z a b c = record {
  within = omega arith;
  passes = λ h. b;
  fails_before = λ k g h. at test 1 k false a (omega arith);
  fails_all = λ e. absurd (omega arith);
}
nearest_of_three test false false true a b c = record {
  within = omega arith;
  passes = λ h. c;
  fails_before = λ k g h. below_3 test k a b g h;
  fails_all = λ e. absurd (omega arith);
}
nearest_of_three test false false false a b c = record {
  within = omega arith;
  passes = λ h. absurd (omega arith);
  fails_before = λ k g h. absurd (omega arith);
  fails_all = λ e k g h. below_4 test k a b c g h;
}

and_left : (x y : Bool) → (x && y) ≡ true → x ≡ true
and_left true y h = refl
and_left false y h = h

and_right : (x y : Bool) → (x && y) ≡ true → y ≡ true
and_right true y h = h
and_right false y h = absurd (false≢true h)

and_fails : (x y : Bool) → x ≡ true → (x && y) ≡ false → y ≡ false
and_fails true y e h = h
and_fails false y e h = absurd (false≢true e)

nearest_within : (test : ℕ → Bool) (q d : ℕ) → q < 4 → IsNearest (λ k. nat_le k q && test k) 3 d → IsNearest test q d
nearest_within test q zero h n = record {
  within = omega arith;
  passes = λ g. absurd (omega arith);
  fails_before = λ k a b. absurd (omega arith);
  fails_all = λ e k a b. and_fails (nat_le k q) (test k) (le-leb k q b) (n.fails_all refl k a (omega arith));
}
nearest_within test q (suc d) h n =
    let p : (nat_le (suc d) q && test (suc d)) ≡ true = n.passes (omega arith) in
    let w : suc d ≤ q = leb-true (suc d) q (and_left (nat_le (suc d) q) (test (suc d)) p) in
    record {
      within = w;
      passes = λ g. and_right (nat_le (suc d) q) (test (suc d)) p;
      fails_before = λ k a b. and_fails (nat_le k q) (test k) (le-leb k q (omega arith)) (n.fails_before k a b);
      fails_all = λ e. absurd (omega arith);
    }

pub nearest_ahead : (start base q : ℕ) → q < 4 → IsNearest (λ k. bit start (base + k)) q (ahead start base q)
unfolding ahead
nearest_ahead start base q h =
    let test : ℕ → Bool = λ k. bit start (base + k) in
    nearest_within test q (ahead start base q) h
    (nearest_of_three (λ k. nat_le k q && test k) (nat_le 1 q && test 1) (nat_le 2 q && test 2) (nat_le 3 q && test 3) refl refl refl)

pub nearest_behind : (start base : ℕ) → IsNearest (λ k. bit start (base + (16 - k))) 3 (behind start base)
unfolding behind
nearest_behind start base = nearest_of_three (λ k. bit start (base + (16 - k))) (bit start (base + 15)) (bit start (base + 14)) (bit start (base + 13)) refl refl refl
