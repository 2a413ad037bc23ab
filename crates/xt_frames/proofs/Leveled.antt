-- A control state that is another's but for EPC1.
use Rattle.std.proofs.Common.{◌≡◌, ℕ, ◌<◌, ◌≤◌, ⊎_elim, List, length, get_or, sym, ◌∙◌, arith}
use Rattle.std.proofs.Math.ListN.{set}
use Rattle.std.proofs.lemmas.Bool.{cases_eq, cases_lt}
use Rattle.std.proofs.lemmas.List.{ext_get_or, get_or-set_other, get_or-set_same, length-set}
use Rattle.xt_special.specs.Control.{Control, special_of}
use Rattle.xt_frames.specs.Levels.{with_epc1}

special_level : (xs ys : List ℕ) → length xs ≡ 256 → length ys ≡ 256 → ((k : ℕ) → 0 ≤ k → k < 177 → get_or xs k 0 ≡ get_or ys k 0) → ((k : ℕ) → 178 ≤ k → k < 256 → get_or xs k 0 ≡ get_or ys k 0)
    → xs ≡ set ys 177 (get_or xs 177 0)
special_level xs ys p q low high =
    let v = get_or xs 177 0 in
    ext_get_or 0 xs (set ys 177 v) (p ∙ sym (length-set ys 177 v ∙ q)) (λ i less.
    let within : i < 256 = (let h : i < length xs = less in omega (arith, p, h)) in
    ⊎_elim
    (λ same. let l : 177 < length ys = omega (arith, q) in rw same (sym (get_or-set_same ys 177 v 0 l)))
    (λ other.
    sym (get_or-set_other ys 177 i v 0 other ∙ ⊎_elim
    (λ below. sym (low i (omega arith) below))
    (λ above. sym (high i (omega (arith, other)) within))
    (cases_lt i 177)))
    (cases_eq i 177))

pub control_level : (c d : Control) → length c.special ≡ 256 → length d.special ≡ 256 → c.pc ≡ d.pc → c.waits ≡ d.waits → c.threadptr ≡ d.threadptr → c.ps ≡ d.ps
    → ((k : ℕ) → 0 ≤ k → k < 177 → get_or c.special k 0 ≡ get_or d.special k 0) → ((k : ℕ) → 178 ≤ k → k < 256 → get_or c.special k 0 ≡ get_or d.special k 0)
    → c ≡ with_epc1 (special_of c 177) d
control_level c d p q pc waits threadptr ps low high =
    let special = special_level c.special d.special p q low high in
    λ i. record { pc = pc i; special = special i; ps = ps i; threadptr = threadptr i; waits = waits i }
