-- The first of numbers that passes a test, and the last, one number after another.
use Rattle.std.proofs.Common.{◌≡◌, ℕ, suc, ◌+◌, ◌-◌, ◌<◌, ◌≤◌, min, inl, inr, Bool, true, false, Option, Some, None, refl, sym, ap, ◌∙◌, subst, arith, if◌then◌else◌}
use Rattle.std.specs.Prelude.{IfSome, nat_le}
use Rattle.std.specs.Option.{option_map}
use Rattle.std.proofs.lemmas.Bool.{cases_Bool}
use Rattle.std.proofs.lemmas.Bool.Decides.{nat_tests}
use Rattle.xt_trace.specs.declared.run.Run.{Run}
use Rattle.xt_replay.specs.Shown.{ReplayState, replay_at}
use Rattle.xt_debug.specs.Runs.{Arrives, or_else}
use Rattle.xt_debug.specs.Searches.{end_of, first_from, first_step, hits, is_next, last_before, next_position}
use Rattle.xt_debug.specs.declared.targets.Breakpoint.{Breakpoint}
use Rattle.xt_debug.specs.declared.targets.Target.{Target}
use Rattle.xt_debug.specs.declared.targets.Target.TheVariants.{Execution, Store}

pub found_here : (test : ℕ → Bool) (p n m : ℕ) → n ≡ suc m → test p ≡ true → first_from test p n ≡ Some p
found_here test p n m e passes = ap (first_from test p) e ∙ rw passes refl

pub not_here : (test : ℕ → Bool) (p q n m : ℕ) → q ≡ suc p → n ≡ suc m → test p ≡ false → first_from test p n ≡ first_from test q m
not_here test p q n m next e fails = ap (first_from test p) e ∙ rw fails (ap (λ k. first_from test k m) (sym next))

pub none_left : (test : ℕ → Bool) (p n : ℕ) → n ≡ 0 → first_from test p n ≡ None
none_left test p n e = ap (first_from test p) e

-- ---- the last of the numbers below another

-- one number more
pub one_below : (test : ℕ → Bool) (p q : ℕ) → q ≡ suc p → last_before test q ≡ (if test p then Some p else last_before test p)
one_below test p q e = ap (last_before test) e

newer_by : (b : Bool) (p : ℕ) (found rest : Option ℕ) → or_else (if b then Some p else found) rest ≡ (if b then Some p else or_else found rest)
newer_by true p found rest = refl
newer_by false p found rest = refl

-- what is found up to the next number, where it is known whether the number passes
pub found_below : (test : ℕ → Bool) (b : Bool) (p q : ℕ) (found new rest : Option ℕ) → q ≡ suc p → b ≡ test p → new ≡ (if b then Some p else found)
    → or_else found rest ≡ last_before test p → or_else new rest ≡ last_before test q
found_below test b p q found new rest e passes is before =
    ap (λ (o : Option ℕ). or_else o rest) is ∙ newer_by b p found rest
    ∙ ap (λ (o : Option ℕ). if b then Some p else o) before
    ∙ ap (λ (x : Bool). if x then Some p else last_before test p) passes
    ∙ sym (one_below test p q e)

-- it is below the next number
below_by : (b : Bool) (p q : ℕ) (found : Option ℕ) → q ≡ suc p → IfSome found (λ k. k < p) → IfSome (if b then Some p else found) (λ k. k < q)
below_by true p q found e below = omega (arith, e)
below_by false p q None e below = tt
below_by false p q (Some k) e below = omega (arith, e, below)

pub below_more : (b : Bool) (p q : ℕ) (found new : Option ℕ) → q ≡ suc p → new ≡ (if b then Some p else found) → IfSome found (λ k. k < p) → IfSome new (λ k. k < q)
below_more b p q found new e is below =
    let F : Option ℕ → Type 0 = λ o. IfSome o (λ k. k < q) in subst F (sym is) (below_by b p q found e below)

pub none_below : (test : ℕ → Bool) (p : ℕ) → p ≡ 0 → last_before test p ≡ None
none_below test p e = ap (last_before test) e

-- ---- where a search on begins that leaves the first position out

none_from : (test : ℕ → Bool) (p n : ℕ) → n ≡ 0 → first_from test p n ≡ None
none_from test p n e = ap (first_from test p) e

pub from_next : (test : ℕ → Bool) (r : Run) (start p : ℕ) → start ≤ end_of r → p ≡ min (end_of r) (start + 1) → first_step test r p ≡ first_step test r (suc start)
from_next test r start p le is = elim (cases_Bool (nat_le (suc start) (end_of r))) [
  | inl more ↦
      let here : suc start ≤ end_of r = grind (arith, nat_tests) in
      let same : p ≡ suc start = omega (arith, is, here) in
      ap (first_step test r) same
  | inr last ↦
      let past : end_of r < suc start = grind (arith, nat_tests) in
      let none : end_of r - p ≡ 0 = omega (arith, is, past) in
      let none_next : end_of r - suc start ≡ 0 = omega (arith, past) in
      none_from test p (end_of r - p) none ∙ sym (none_from test (suc start) (end_of r - suc start) none_next)
]

-- ---- a search ends

-- it arrives where it should, from wherever it had moved
pub arrived : (found right : Option ℕ) (old mid new : ReplayState) (start : ℕ) (moved : Bool) → found ≡ right → mid ≡ replay_at old mid.position → start ≡ old.position
    → Arrives found (replay_at mid start) moved new → Arrives right old moved new
arrived found right old mid new start moved is there begins arrives =
    let O : Option ℕ → Type 0 = λ o. Arrives o old moved new in
    let S : ReplayState → Type 0 = λ s. Arrives found s moved new in
    let back : replay_at mid start ≡ old = ap (λ (s : ReplayState). replay_at s start) there ∙ ap (replay_at old) begins in
    subst O is (subst S back arrives)

-- ---- positions that the run has

pub within_end : (o : Option ℕ) (n m : ℕ) → n ≡ m → IfSome o (λ q. q < n) → IfSome o (λ q. q ≤ m)
within_end None n m e below = tt
within_end (Some q) n m e below = omega (arith, e, below)

pub within_most : (o : Option ℕ) (n : ℕ) → n ≤ 8000000 → IfSome o (λ q. q < n) → IfSome o (λ q. q < 8000000)
within_most None n le below = tt
within_most (Some q) n le below = omega (arith, le, below)

after_by : (o : Option ℕ) (n m : ℕ) → n ≡ m → IfSome o (λ q. q < n) → IfSome (option_map suc o) (λ q. q ≤ m)
after_by None n m e below = tt
after_by (Some q) n m e below = omega (arith, e, below)

pub after_within : (o new : Option ℕ) (n m : ℕ) → new ≡ option_map suc o → n ≡ m → IfSome o (λ q. q < n) → IfSome new (λ q. q ≤ m)
after_within o new n m is e below = let F : Option ℕ → Type 0 = λ x. IfSome x (λ q. q ≤ m) in subst F (sym is) (after_by o n m e below)

-- ---- where a search on arrives

pub found_execution : (t : Target) (b : Breakpoint) (old mid : ReplayState) (start q : ℕ) (found : Option ℕ) → t ≡ Execution b → start ≡ old.position → start ≤ end_of old.run → q ≡ min (end_of old.run) (start + 1)
    → mid ≡ replay_at old q → found ≡ first_step (hits mid.image mid.run t) mid.run mid.position → found ≡ next_position old.image old.run t old.position
found_execution t b old mid start q found is begins within next moved e =
    let test = is_next old.image old.run b in
    e ∙ ap (λ (s : ReplayState). first_step (hits s.image s.run t) s.run s.position) moved
    ∙ ap (λ (u : Target). first_step (hits old.image old.run u) old.run q) is
    ∙ from_next test old.run start q within next
    ∙ ap (λ (k : ℕ). first_step test old.run (suc k)) begins
    ∙ sym (ap (λ (u : Target). next_position old.image old.run u old.position) is)

pub found_store : (t : Target) (addr : ℕ) (old : ReplayState) (found new : Option ℕ) → t ≡ Store addr → found ≡ first_step (hits old.image old.run t) old.run old.position
    → new ≡ option_map suc found → new ≡ next_position old.image old.run t old.position
found_store t addr old found new is e after =
    after ∙ ap (option_map suc) e ∙ ap (λ (u : Target). option_map suc (first_step (hits old.image old.run u) old.run old.position)) is
    ∙ sym (ap (λ (u : Target). next_position old.image old.run u old.position) is)
