-- Where none of the next three windows is a frame's, none of fewer is.
use Rattle.std.proofs.Common.{◌≡◌, ℕ, ◌+◌, Bool, true, false, ◌&&◌, ◌==◌, cond, Option, Some, None, refl}
use Rattle.std.specs.Prelude.{nat_le}
use Rattle.xt_window.specs.declared.windows.Overflow.{Overflow}
use Rattle.xt_window.specs.Ring.{ahead, bit, first_of_three, size_at}
use Rattle.xt_window.specs.WindowAnswers.{overflow_of}

clear : (f : ℕ → Overflow) (x y z a b c : Bool) → ◌≡◌ {A = Option Overflow} (cond (first_of_three x y z == 0) None (Some (f (first_of_three x y z)))) None
    → first_of_three (a && x) (b && y) (c && z) ≡ 0
clear f true y z a b c h = cc
clear f false true z a b c h = cc
clear f false false true a b c h = cc
clear f false false false true true true h = refl
clear f false false false true true false h = refl
clear f false false false true false true h = refl
clear f false false false true false false h = refl
clear f false false false false true true h = refl
clear f false false false false true false h = refl
clear f false false false false false true h = refl
clear f false false false false false false h = refl

pub ahead_clear : (start base q : ℕ) → overflow_of start base 3 ≡ None → ahead start base q ≡ 0
unfolding ahead
ahead_clear start base q h =
    clear (λ by. record { by = by; size = size_at start (base + by) }) (bit start (base + 1)) (bit start (base + 2)) (bit start (base + 3))
    (nat_le 1 q) (nat_le 2 q) (nat_le 3 q) h
