-- The turns that texts list, the turns that they ask for, and the list of cores.
use Rattle.std.proofs.Common.{◌≡◌, ◌≤◌, ◌<◌, ◌-◌, ◌+◌, ℕ, false, List, [], ◌∷◌, ◌++◌, Bor, length, take, Option, Some, None, arith, refl, sym, ap, ◌∙◌, append_assoc, append-nil}
use Rattle.std.specs.Prelude.{◌==◌, All, nat_le, replicate}
use Rattle.std.proofs.lemmas.Bool.Decides.{nat_tests}
use Rattle.std.proofs.lemmas.List.{drop_all, take_all}
use Rattle.std.proofs.lemmas.List.Elements.{All-append, All-nil, All-replicate}
use Rattle.std.proofs.lemmas.Str.Pattern.{IsSplitOnceResult, split_once_first}
use Rattle.std.specs.List.{position_or_len, before_first, after_first}
use Rattle.xt_command_line.specs.Numbers.{number_of}
use Rattle.xt_command_line.specs.Parts.{and_all}
use Rattle.xt_command_line.specs.TurnOrders.{core_of, cores_of, number_of_core, star, turns_by, turns_of}
use Rattle.xt_command_line.specs.declared.turn_orders.CoreTurns.{CoreTurns}
use Rattle.xt_command_line.specs.declared.turn_orders.Which.{Which}
use Rattle.xt_command_line.specs.declared.turn_orders.Which.TheVariants as which

-- ---- one part, with and without a star

no_number : number_of [] ≡ None
unfolding number_of
no_number = refl

no_count : (core : Option Which) → turns_by core None ≡ None
no_count None = refl
no_count (Some c) = refl

without_star : (text : List ℕ) → position_or_len (λ b. b == star) text ≡ length text → None ≡ turns_of text
unfolding turns_of
without_star text none =
    let rest : after_first (λ b. b == star) text ≡ [] = drop_all _ text (omega (arith, none)) in
    rw (rest, no_number) (sym (no_count _))

with_star : (text core count : List ℕ) → core ≡ before_first (λ b. b == star) text → count ≡ after_first (λ b. b == star) text
    → turns_by (core_of core) (number_of count) ≡ turns_of text
unfolding turns_of
with_star text core count e f = rw (e, f) refl

pub some_turns : (text : List ℕ) (r : Option (Bor (List ℕ) × Bor (List ℕ))) → IsSplitOnceResult star text r → (x : Bor (List ℕ) × Bor (List ℕ)) → r ≡ Some x
    → turns_by (core_of x.0.now) (number_of x.1.now) ≡ turns_of text
some_turns text r split x is = let (inside, front, back) = rw is at (split_once_first star text r split (omega arith)) in with_star text x.0.now x.1.now front back

pub no_turns : (text : List ℕ) (r : Option (Bor (List ℕ) × Bor (List ℕ))) → IsSplitOnceResult star text r → r ≡ None → None ≡ turns_of text
no_turns text r split is = let none = rw is at (split_once_first star text r split (omega arith)) in without_star text none

-- ---- all parts

-- what was read, before what follows
abbrev pub before : {A : Type 0} → List A → Option (List A) → Option (List A)
before xs None = None
before xs (Some ys) = Some (xs ++ ys)

pub before_any : {A : Type 0} (o : Option (List A)) → before [] o ≡ o
before_any None = refl
before_any (Some ys) = refl

pub one_more : {A : Type 0} (xs : List A) (t : A) (o : Option (List A)) → before xs (and_all (Some t) o) ≡ before (xs ++ t ∷ []) o
one_more xs t None = refl
one_more xs t (Some ys) = ap Some (sym (append_assoc xs (t ∷ []) ys))

pub no_more : {A : Type 0} (xs : List A) → before xs (Some []) ≡ Some xs
no_more xs = ap Some (append-nil xs)

-- one part more that says something, or nothing

pub goes_on : {A : Type 0} (xs : List A) (o : Option A) (t : A) (rest : Option (List A)) → o ≡ Some t → before (xs ++ t ∷ []) rest ≡ before xs (and_all o rest)
goes_on xs o t rest is = sym (ap (λ p. before xs (and_all p rest)) is ∙ one_more xs t rest)

pub stops : {A : Type 0} (xs : List A) (o : Option A) (rest : Option (List A)) → o ≡ None → before xs (and_all o rest) ≡ None
stops xs o rest is = ap (λ p. before xs (and_all p rest)) is

-- ---- how many they are

pub too_many : (count left rest : ℕ) → left < count → nat_le (count + rest) left ≡ false
too_many count left rest over = grind (arith, nat_tests)

pub one_less : (count left rest : ℕ) → count ≤ left → nat_le (count + rest) left ≡ nat_le rest (left - count)
one_less count left rest fits = grind (arith, nat_tests)

-- ---- their cores

below_two : (core : Which) → number_of_core core < 2
below_two which.Zero = omega arith
below_two which.One = omega arith

-- the cores of one part more
pub made_one : (done new rest all : List ℕ) (n len end c : ℕ) → len ≡ length done → end ≡ len + n → new ≡ take end done ++ replicate (end - len) c
    → done ++ (replicate n c ++ rest) ≡ all → new ++ rest ≡ all
made_one done new rest all n len end c long sum made is =
    let past : length done ≤ end = omega (arith, long, sum) in
    let count : end - len ≡ n = omega (arith, sum) in
    let whole : new ≡ done ++ replicate n c = made ∙ ap (λ l. l ++ replicate (end - len) c) (take_all end done past) ∙ ap (λ k. done ++ replicate k c) count in
    ap (λ l. l ++ rest) whole ∙ append_assoc done (replicate n c) rest ∙ is

pub all_made : (done all : List ℕ) → done ++ cores_of [] ≡ all → done ≡ all
all_made done all is = sym (append-nil done) ∙ is

pub are_cores : (list : List CoreTurns) → All (λ core. core < 2) (cores_of list)
are_cores [] = All-nil (λ core. core < 2)
are_cores (t ∷ ts) =
    All-append (λ core. core < 2) (replicate t.count (number_of_core t.core)) (cores_of ts)
    (All-replicate (λ core. core < 2) t.count (number_of_core t.core) (below_two t.core)) (are_cores ts)
