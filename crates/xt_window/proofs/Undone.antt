-- A return undoes a call.
use Rattle.std.proofs.Common.{◌≡◌, ℕ, zero, suc, ◌+◌, ◌%◌, ◌^◌, ◌<◌, Bool, true, false, ap, ◌∙◌, arith, not}
use Rattle.std.specs.Prelude.{◌&&◌, ◌||◌, ◌==◌, if◌then◌else◌}
use Rattle.xt_window.specs.declared.windows.Return.TheVariants.{Returned, Under, Bad}
use Rattle.xt_window.specs.Ring.{bit, with_bit, ahead, first_of_three}
use Rattle.xt_window.specs.Moves.{base_after_call, base_after_return, behind}
use Rattle.xt_window.specs.WindowAnswers.{return_of}
use Rattle.xt_window.specs.WindowLaws.{ReturnUndoesCall}
use Rattle.xt_window.proofs.Bits.{bit_of_same, set_other, restored}
use Rattle.xt_window.proofs.Nearest.{nearest_ahead}

-- the bit of another window after the call is that before it
seen : (start base n v k : ℕ) → base < 16 → n < 4 → k < n → v % 16 ≡ (base + k) % 16 → bit (with_bit start (base_after_call base n)) v ≡ bit start (base + k)
seen start base n v k h g b e = set_other start ((base + n) % 16) v (omega arith) ∙ bit_of_same start v (base + k) e

-- that of the caller is set
caller_set : (start base n v : ℕ) → base < 16 → 0 < n → n < 4 → bit start base ≡ true → v % 16 ≡ base → bit (with_bit start (base_after_call base n)) v ≡ true
caller_set start base n v h a b set e = seen start base n v 0 h b a (omega arith) ∙ (bit_of_same start (base + 0) base (omega arith) ∙ set)

-- those in between are clear
between : (start base n v k : ℕ) → base < 16 → n < 4 → ahead start base n ≡ 0 → 0 < k → k < n → v % 16 ≡ (base + k) % 16 → bit (with_bit start (base_after_call base n)) v ≡ false
between start base n v k h g passed a b e =
    let nearest = nearest_ahead start base n g in
    seen start base n v k h g b e ∙ nearest.fails_all passed k a (omega arith)

is_first : (x y z : Bool) → x ≡ true → first_of_three x y z ≡ 1
is_first x y z e = ap (λ b. first_of_three b y z) e

is_second : (x y z : Bool) → x ≡ false → y ≡ true → first_of_three x y z ≡ 2
is_second x y z e f = ap (λ b. first_of_three b y z) e ∙ ap (λ b. first_of_three false b z) f

is_third : (x y z : Bool) → x ≡ false → y ≡ false → z ≡ true → first_of_three x y z ≡ 3
is_third x y z e f g = ap (λ b. first_of_three b y z) e ∙ (ap (λ b. first_of_three false b z) f ∙ ap (λ b. first_of_three false false b) g)

-- how far behind the caller's window is found
found : (start base n : ℕ) → base < 16 → 0 < n → n < 4 → bit start base ≡ true → ahead start base n ≡ 0 → behind (with_bit start (base_after_call base n)) (base_after_call base n) ≡ n
unfolding behind
found start base zero h a b set passed = absurd (omega arith)
found start base (suc zero) h a b set passed =
    is_first _ _ _ (caller_set start base 1 ((base + 1) % 16 + 15) h a b set (omega arith))
found start base (suc (suc zero)) h a b set passed =
    is_second _ _ _ (between start base 2 ((base + 2) % 16 + 15) 1 h b passed (omega arith) (omega arith) (omega arith))
    (caller_set start base 2 ((base + 2) % 16 + 14) h a b set (omega arith))
found start base (suc (suc (suc zero))) h a b set passed =
    is_third _ _ _ (between start base 3 ((base + 3) % 16 + 15) 2 h b passed (omega arith) (omega arith) (omega arith))
    (between start base 3 ((base + 3) % 16 + 14) 1 h b passed (omega arith) (omega arith) (omega arith))
    (caller_set start base 3 ((base + 3) % 16 + 13) h a b set (omega arith))
found start base (suc (suc (suc (suc n)))) h a b set passed = absurd (omega arith)

-- where the nearest window is the one that is meant, and its bit is set, the answer is Returned
answer : (d n : ℕ) (b : Bool) → d ≡ n → 0 < n → n < 4 → b ≡ true
    → (if n == 0 || (not (d == 0) && not (d == n)) then Bad else (if b then Returned else Under)) ≡ Returned
answer d zero b e h g t = absurd (omega arith)
answer d (suc zero) b e h g t =
    ap (λ (k : ℕ). if 1 == 0 || (not (k == 0) && not (k == 1)) then Bad else (if b then Returned else Under)) e ∙ ap (λ (c : Bool). if c then Returned else Under) t
answer d (suc (suc zero)) b e h g t =
    ap (λ (k : ℕ). if 2 == 0 || (not (k == 0) && not (k == 2)) then Bad else (if b then Returned else Under)) e ∙ ap (λ (c : Bool). if c then Returned else Under) t
answer d (suc (suc (suc zero))) b e h g t =
    ap (λ (k : ℕ). if 3 == 0 || (not (k == 0) && not (k == 3)) then Bad else (if b then Returned else Under)) e ∙ ap (λ (c : Bool). if c then Returned else Under) t
answer d (suc (suc (suc (suc n)))) b e h g t = absurd (omega arith)

back : (base n : ℕ) → base < 16 → n < 4 → base_after_return (base_after_call base n) n ≡ base
back base n h g = omega arith

pub undone : (start base n : ℕ) → start < 2 ^ 16 → base < 16 → 0 < n → n < 4 → bit start base ≡ true → ahead start base n ≡ 0 → ReturnUndoesCall start base n
unfolding return_of
undone start base n fits h a b set passed =
    let called = base_after_call base n in
    let nearest = nearest_ahead start base n b in
    record {
      answers =
          answer (behind (with_bit start called) called) n (bit (with_bit start called) (base_after_return called n)) (found start base n h a b set passed) a b
          (caller_set start base n (base_after_return called n) h a b set (omega arith));
      goes_back = back base n h b;
      clears = restored start called fits (bit_of_same start called (base + n) (omega arith) ∙ nearest.fails_all passed n a (omega arith));
    }
