-- Each special register is found by its name: every number is tried.
use Rattle.std.proofs.Common.{◌≡◌, ℕ, zero, suc, ◌<◌, Bool, true, false, ◌&&◌, cond, eqb, Option, Some, None, refl, sym, ap, ◌∙◌, ⊎_elim, arith}
use Rattle.std.proofs.lemmas.Bool.{and_parts, cases_lt, eqb-true}
use Rattle.std.proofs.lemmas.Bool.Decides.{nat_tests}
use Rattle.xt_isa.specs.Spelling.{can_exchange, can_read, can_write}
use Rattle.xt_isa.proofs.Reached.{exchange_small}
use Rattle.xt_names.specs.declared.forms.Access.{Access}
use Rattle.xt_names.specs.declared.forms.Access.TheVariants.{Read, Write, Exchange, User}
use Rattle.xt_names.specs.Specials.{AreNamed, exchanged_names, names_of, reaches, special_name, special_number}

abbrev is_number : Option ℕ → ℕ → Bool
is_number None n = false
is_number (Some m) n = eqb m n

-- the number is not reached, or found by its name
abbrev is_found : Access → ℕ → Bool
is_found access n = cond (reaches access n) (is_number (special_number access (special_name access n)) n) true

abbrev all_below : (ℕ → Bool) → ℕ → Bool
all_below p zero = true
all_below p (suc k) = p k && all_below p k

each_below : (p : ℕ → Bool) (k n : ℕ) → all_below p k ≡ true → n < k → p n ≡ true
each_below p zero n all small = absurd (omega arith)
each_below p (suc k) n all small =
    let parts = and_parts (p k) (all_below p k) all in
    ⊎_elim (λ less. each_below p k n parts.1 less) (λ not_less. let same : n ≡ k = omega arith in ap p same ∙ parts.0) (cases_lt n k)

number_is : (o : Option ℕ) (n : ℕ) → is_number o n ≡ true → o ≡ Some n
number_is None n h = cc
number_is (Some m) n h = ap Some (eqb-true m n h)

read_small : (n : ℕ) → can_read n ≡ true → n < 256
unfolding can_read
read_small n h = grind (arith, nat_tests, exchange_small)

write_small : (n : ℕ) → can_write n ≡ true → n < 256
unfolding can_write
write_small n h = grind (arith, nat_tests, exchange_small)

small : (access : Access) (n : ℕ) → reaches access n ≡ true → n < 256
small Read n h = read_small n h
small Write n h = write_small n h
small Exchange n h = exchange_small n h
small User n h = omega (arith, eqb-true n 231 h)

tried : (access : Access) → all_below (is_found access) 256 ≡ true
unfolding can_read can_write can_exchange special_name special_number names_of exchanged_names
tried Read = refl
tried Write = refl
tried Exchange = refl
tried User = refl

pub all_named : (access : Access) → AreNamed access
all_named access n reached =
    number_is (special_number access (special_name access n)) n
    (ap (λ b. cond b (is_number (special_number access (special_name access n)) n) true) (sym reached) ∙ each_below (is_found access) 256 n (tried access) (small access n reached))
