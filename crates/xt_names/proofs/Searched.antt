-- A search by halves through the mnemonics, whose names rise as numbers.
use Rattle.std.proofs.Common.{◌≡◌, ℕ, zero, suc, ◌<◌, ◌≤◌, Bool, true, false, ◌&&◌, cond, ltb, List, [], ◌∷◌, length, get_or, Some, None, refl, ap, ◌∙◌, ⊎_elim, arith}
use Rattle.std.proofs.lemmas.Bool.{ltb-true, and_parts, cases_lt}
use Rattle.std.proofs.lemmas.Slice.Eq.{bytes_eq-Decides}
use Rattle.std.specs.Prelude.{find}
use Rattle.std.specs.Str.{bytes_eq}
use Rattle.xt_names.specs.declared.mnemonic.Mnemonic.{Mnemonic}
use Rattle.xt_names.specs.declared.mnemonic.Mnemonic.TheVariants as mnemonic
use Rattle.xt_names.specs.declared.mnemonic.Plain.TheVariants as plain
use Rattle.xt_isa.specs.declared.control.ReturnName.TheVariants as ReturnName
use Rattle.xt_names.specs.Names.{call_name, mnemonic_of, mnemonics, name_of, number_name, one_and_number_name, one_and_special_name, one_and_target_name, one_name, one_number_and_target_name, plain_name, three_name, two_and_number_name, two_and_target_name, two_name}
use Rattle.xt_names.specs.Search.{key}

abbrev pub key_of : Mnemonic → ℕ
key_of m = key (name_of m)

-- ---- a list whose keys rise

abbrev above : ℕ → List Mnemonic → Bool
above k [] = true
above k (m ∷ ms) = ltb k (key_of m) && above (key_of m) ms

abbrev rise : List Mnemonic → Bool
rise [] = true
rise (m ∷ ms) = above (key_of m) ms

all_rise : rise mnemonics ≡ true
unfolding mnemonics name_of two_name three_name two_and_number_name two_and_target_name one_number_and_target_name one_and_target_name number_name call_name one_name plain_name one_and_number_name one_and_special_name
all_rise = refl

above_each : (k : ℕ) (ms : List Mnemonic) (j : ℕ) (d : Mnemonic) → above k ms ≡ true → j < length ms → k < key_of (get_or ms j d)
above_each k [] j d h within = absurd (omega arith)
above_each k (m ∷ ms) zero d h within = ltb-true k (key_of m) (and_parts (ltb k (key_of m)) (above (key_of m) ms) h).0
above_each k (m ∷ ms) (suc j) d h within =
    let parts = and_parts (ltb k (key_of m)) (above (key_of m) ms) h in
    let first = ltb-true k (key_of m) parts.0 in
    let later = above_each (key_of m) ms j d parts.1 (omega arith) in
    omega (arith, first, later)

rest_rises : (m : Mnemonic) (ms : List Mnemonic) → rise (m ∷ ms) ≡ true → rise ms ≡ true
rest_rises m [] h = refl
rest_rises m (n ∷ ms) h = (and_parts (ltb (key_of m) (key_of n)) (above (key_of n) ms) h).1

rises_far : (ms : List Mnemonic) (i j : ℕ) (d : Mnemonic) → rise ms ≡ true → i < j → j < length ms → key_of (get_or ms i d) < key_of (get_or ms j d)
rises_far [] i j d h less within = absurd (omega arith)
rises_far (m ∷ ms) i zero d h less within = absurd (omega arith)
rises_far (m ∷ ms) zero (suc j) d h less within = above_each (key_of m) ms j d h (omega arith)
rises_far (m ∷ ms) (suc i) (suc j) d h less within = rises_far ms i j d (rest_rises m ms h) (omega arith) (omega arith)

pub keys_rise : (i j : ℕ) (d : Mnemonic) → i < j → j < length mnemonics → key_of (get_or mnemonics i d) < key_of (get_or mnemonics j d)
keys_rise i j d less within = rises_far mnemonics i j d all_rise less within

-- the mnemonic at a place
abbrev pub at_in : List Mnemonic → ℕ → Mnemonic
at_in ms j = get_or ms j (mnemonic.Nothing (plain.Return ReturnName.Ret))

abbrev pub at : ℕ → Mnemonic
at j = at_in mnemonics j

pub keys_rise_to : (i j : ℕ) → i ≤ j → j < length mnemonics → key_of (at i) ≤ key_of (at j)
keys_rise_to i j most within = ⊎_elim
    (λ less. let up = keys_rise i j (mnemonic.Nothing (plain.Return ReturnName.Ret)) less within in omega (arith, up))
    (λ not_less. let same : i ≡ j = omega (arith, most, not_less) in let equal = ap (λ k. key_of (at k)) same in omega (arith, equal))
    (cases_lt i j)

-- ---- what is found

abbrev pub has_name : List ℕ → Mnemonic → Bool
has_name name m = bytes_eq (name_of m) name

unless : (b : Bool) → (b ≡ true → ⊥) → b ≡ false
unless true h = absurd (h refl)
unless false h = refl

-- another key, another name
other : (name : List ℕ) (m : Mnemonic) → (key_of m ≡ key name → ⊥) → has_name name m ≡ false
other name m apart = unless (has_name name m) (λ same. apart (ap key ((bytes_eq-Decides (name_of m) name).0 same)))

none_found : {X : Type 0} (p : X → Bool) (xs : List X) (d : X) → ((j : ℕ) → j < length xs → p (get_or xs j d) ≡ false) → find p xs ≡ None
none_found p [] d h = refl
none_found p (x ∷ xs) d h = ap (λ b. cond b (Some x) (find p xs)) (h 0 (omega arith)) ∙ none_found p xs d (λ j within. h (suc j) (omega arith))

one_found : {X : Type 0} (p : X → Bool) (xs : List X) (i : ℕ) (d : X) → i < length xs → ((j : ℕ) → j < i → p (get_or xs j d) ≡ false) → ((j : ℕ) → i < j → j < length xs → p (get_or xs j d) ≡ false) → find p xs ≡ cond (p (get_or xs i d)) (Some (get_or xs i d)) None
one_found p [] i d within before behind = absurd (omega arith)
one_found p (x ∷ xs) zero d within before behind = ap (λ o. cond (p x) (Some x) o) (none_found p xs d (λ j less. behind (suc j) (omega arith) (omega arith)))
one_found p (x ∷ xs) (suc i) d within before behind =
    ap (λ b. cond b (Some x) (find p xs)) (before 0 (omega arith))
    ∙ one_found p xs i d (omega arith) (λ j less. before (suc j) (omega arith)) (λ j less w. behind (suc j) (omega arith) (omega arith))

-- a mnemonic with the key of the name is the one that may have the name
pub at_key : (name : List ℕ) (i : ℕ) → i < length mnemonics → key_of (at i) ≡ key name
    → mnemonic_of name ≡ cond (bytes_eq (name_of (at i)) name) (Some (at i)) None
unfolding mnemonic_of
at_key name i within same = one_found (has_name name) mnemonics i _ within
    (λ j less. other name (at j) (λ e. let up = keys_rise j i (mnemonic.Nothing (plain.Return ReturnName.Ret)) less within in omega (arith, up, e, same)))
    (λ j less w. other name (at j) (λ e. let up = keys_rise i j (mnemonic.Nothing (plain.Return ReturnName.Ret)) less w in omega (arith, up, e, same)))

-- no mnemonic has the key of the name
pub at_no_key : (name : List ℕ) (low high : ℕ) → high ≤ low
    → ((j : ℕ) → j < low → key_of (at j) < key name)
    → ((j : ℕ) → high ≤ j → j < length mnemonics → key name < key_of (at j))
    → mnemonic_of name ≡ None
unfolding mnemonic_of
at_no_key name low high met below beyond = none_found (has_name name) mnemonics _
    (λ j within. other name (at j) (λ e. ⊎_elim
    (λ less. let under = below j less in omega (arith, under, e))
    (λ not_less. let over = beyond j (omega arith) within in omega (arith, over, e))
    (cases_lt j low)))
