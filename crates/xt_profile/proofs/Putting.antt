-- Lines in order, and a count that is put among them.
use Rattle.std.proofs.Common.{◌≡◌, ℕ, zero, suc, ◌+◌, Bool, true, false, if◌then◌else◌, List, [], ◌∷◌, ◌++◌, length, map, replicate, refl, sym, ap, subst, ◌∙◌, arith}
use Rattle.std.specs.declared.cmp.Ordering.{Ordering}
use Rattle.std.specs.declared.cmp.Ordering.TheVariants.{Less, Equal, Greater}
use Rattle.std.specs.Ordering.{is_eq, match_ordering, ordering_reverse}
use Rattle.std.proofs.lemmas.Cmp.{nat_list_cmp_total, tied_itself}
use Rattle.std.proofs.lemmas.Map.Lookups.{exact_bytes}
use Rattle.xt_profile.specs.declared.profiles.ProfileLine.{ProfileLine}
use Rattle.xt_profile.specs.Counts.{compare, count_of, in_order, insert, is_same, line, lines, total}
use Rattle.xt_profile.specs.CountedSteps.{count_in, puts}

-- ---- the order of lists
abbrev IsGreater : Ordering → Type 0
IsGreater Less = ⊥
IsGreater Equal = ⊥
IsGreater Greater = Unit {0}

pub itself : (k : List ℕ) → compare k k ≡ Equal
itself k = tied_itself nat_list_cmp_total k

pub equal : (k q : List ℕ) → compare k q ≡ Equal → k ≡ q
equal k q e = exact_bytes k q e

abbrev IsYes : Bool → Type 0
IsYes true = Unit {0}
IsYes false = ⊥

same_is : (o : Ordering) → is_eq o ≡ true → o ≡ Equal
same_is Less e = absurd (subst IsYes (sym e) tt)
same_is Equal e = refl
same_is Greater e = absurd (subst IsYes (sym e) tt)

-- two lists that are the same as a third are not apart
not_both : (k j q : List ℕ) → is_same k q ≡ true → is_same k j ≡ true → compare j q ≡ Greater → ⊥
not_both k j q a b e =
    let kq = equal k q (same_is (compare k q) a) in
    let kj = equal k j (same_is (compare k j) b) in
    let jq : compare j q ≡ Equal = ap (λ (x : List ℕ). compare j x) (sym kq ∙ kj) ∙ itself j in
    subst IsGreater (sym e ∙ jq) tt

pub back : (k q : List ℕ) → compare k q ≡ Greater → compare q k ≡ Less
back k q e = nat_list_cmp_total.antisymm q k ∙ ap ordering_reverse e

pub through : (k q x : List ℕ) → compare k q ≡ Less → compare q x ≡ Less → compare k x ≡ Less
through k q x a b = nat_list_cmp_total.trans k q x a b

-- a line of this key and count
abbrev pub line_with : List ℕ → ℕ → ProfileLine
line_with k c = record { key = k; count = c }

-- ---- lines that rise
abbrev pub Above : List ℕ → List ProfileLine → Type 0
Above k [] = Unit {0}
Above k (l ∷ ls) = (compare k l.key ≡ Less) × Above k ls

abbrev pub Rising : List ProfileLine → Type 0
Rising [] = Unit {0}
Rising (l ∷ ls) = Above l.key ls × Rising ls

above_more : (k q : List ℕ) (ls : List ProfileLine) → compare k q ≡ Less → Above q ls → Above k ls
above_more k q [] e a = tt
above_more k q (l ∷ ls) e a = (through k q l.key e a.0, above_more k q ls e a.1)

above_case : (js : List (List ℕ)) (k q x : List ℕ) (xs : List (List ℕ)) → compare q k ≡ Less → Above q (map (line js) (x ∷ xs)) → Above q (map (line js) (insert k xs)) → (o : Ordering)
    → Above q (map (line js) (match_ordering o (k ∷ x ∷ xs) (x ∷ xs) (x ∷ insert k xs)))
above_case js k q x xs e a r Less = (e, a)
above_case js k q x xs e a r Equal = a
above_case js k q x xs e a r Greater = (a.0, r)

above_insert : (js : List (List ℕ)) (k q : List ℕ) (qs : List (List ℕ)) → compare q k ≡ Less → Above q (map (line js) qs) → Above q (map (line js) (insert k qs))
above_insert js k q [] e a = (e, tt)
above_insert js k q (x ∷ xs) e a = above_case js k q x xs e a (above_insert js k q xs e a.1) (compare k x)

rising_case : (js : List (List ℕ)) (k q : List ℕ) (qs : List (List ℕ)) → Rising (map (line js) (q ∷ qs)) → Rising (map (line js) (insert k qs)) → (o : Ordering) → compare k q ≡ o
    → Rising (map (line js) (match_ordering o (k ∷ q ∷ qs) (q ∷ qs) (q ∷ insert k qs)))
rising_case js k q qs h r Less e = ((e, above_more k q (map (line js) qs) e h.0), h)
rising_case js k q qs h r Equal e = h
rising_case js k q qs h r Greater e = (above_insert js k q qs (back k q e) h.0, r)

rising_insert : (js : List (List ℕ)) (k : List ℕ) (qs : List (List ℕ)) → Rising (map (line js) qs) → Rising (map (line js) (insert k qs))
rising_insert js k [] h = (tt, tt)
rising_insert js k (q ∷ qs) h = rising_case js k q qs h (rising_insert js k qs h.1) (compare k q) refl

pub in_order_rises : (js ks : List (List ℕ)) → Rising (map (line js) (in_order ks))
in_order_rises js [] = tt
in_order_rises js (k ∷ ks) = rising_insert js k (in_order ks) (in_order_rises js ks)

-- ---- a key that was put already
again_case : (k q : List ℕ) (qs : List (List ℕ)) → insert k (insert k qs) ≡ insert k qs → (o : Ordering) → compare k q ≡ o
    → insert k (match_ordering o (k ∷ q ∷ qs) (q ∷ qs) (q ∷ insert k qs)) ≡ match_ordering o (k ∷ q ∷ qs) (q ∷ qs) (q ∷ insert k qs)
again_case k q qs r Less e = ap (λ (o : Ordering). match_ordering o (k ∷ k ∷ q ∷ qs) (k ∷ q ∷ qs) (k ∷ insert k (q ∷ qs))) (itself k)
again_case k q qs r Equal e = ap (λ (o : Ordering). match_ordering o (k ∷ q ∷ qs) (q ∷ qs) (q ∷ insert k qs)) e
again_case k q qs r Greater e =
    ap (λ (o : Ordering). match_ordering o (k ∷ q ∷ insert k qs) (q ∷ insert k qs) (q ∷ insert k (insert k qs))) e
    ∙ ap (λ (l : List (List ℕ)). q ∷ l) r

again : (k : List ℕ) (qs : List (List ℕ)) → insert k (insert k qs) ≡ insert k qs
again k [] = ap (λ (o : Ordering). match_ordering o (k ∷ k ∷ []) (k ∷ []) (k ∷ k ∷ [])) (itself k)
again k (q ∷ qs) = again_case k q qs (again k qs) (compare k q) refl

pub many_in_order : (n : ℕ) (k : List ℕ) (ks : List (List ℕ)) → in_order (replicate (suc n) k ++ ks) ≡ insert k (in_order ks)
many_in_order zero k ks = refl
many_in_order (suc n) k ks = ap (insert k) (many_in_order n k ks) ∙ again k (in_order ks)

-- ---- counts
more : (n m : ℕ) → suc (n + m) ≡ suc n + m
more n m = omega arith

pub once_more : (k : List ℕ) (ks : List (List ℕ)) → count_of k (k ∷ ks) ≡ suc (count_of k ks)
once_more k ks = ap (λ (o : Ordering). if is_eq o then suc (count_of k ks) else count_of k ks) (itself k)

nothing_first : (n : ℕ) → n ≡ 0 + n
nothing_first n = omega arith

pub many_same : (n : ℕ) (k : List ℕ) (ks : List (List ℕ)) → count_of k (replicate n k ++ ks) ≡ n + count_of k ks
many_same zero k ks = nothing_first (count_of k ks)
many_same (suc n) k ks =
    let rest = count_of k (replicate n k ++ ks) in
    let r : rest ≡ n + count_of k ks = many_same n k ks in
    let here : count_of k (replicate (suc n) k ++ ks) ≡ suc rest = ap (λ (o : Ordering). if is_eq o then suc rest else rest) (itself k) in
    here ∙ (ap (λ (m : ℕ). suc m) r ∙ more n (count_of k ks))

pub many_other : (n : ℕ) (k q : List ℕ) (ks : List (List ℕ)) → is_same q k ≡ false → count_of q (replicate n k ++ ks) ≡ count_of q ks
many_other zero k q ks e = refl
many_other (suc n) k q ks e =
    let rest = count_of q (replicate n k ++ ks) in
    ap (λ (b : Bool). if b then suc rest else rest) e ∙ many_other n k q ks e

-- no line behind is of the key
above_lines : (n : ℕ) (k : List ℕ) (ks qs : List (List ℕ)) → Above k (map (line ks) qs) → map (line ks) qs ≡ map (line (replicate n k ++ ks)) qs
above_lines n k ks [] a = refl
above_lines n k ks (q ∷ qs) a =
    let other : is_same q k ≡ false = ap is_eq (nat_list_cmp_total.antisymm q k ∙ ap ordering_reverse a.0) in
    let here : line ks q ≡ line (replicate n k ++ ks) q = ap (line_with q) (sym (many_other n k q ks other)) in
    ap (λ (l : ProfileLine). l ∷ map (line ks) qs) here ∙ ap (λ (ls : List ProfileLine). line (replicate n k ++ ks) q ∷ ls) (above_lines n k ks qs a.1)

-- the count of a key is put where its line stands, or its line comes in
puts_case : (n : ℕ) (k q : List ℕ) (ks qs : List (List ℕ)) → Rising (map (line ks) (q ∷ qs))
    → puts k (count_of k (replicate n k ++ ks)) (map (line ks) qs) ≡ map (line (replicate n k ++ ks)) (insert k qs) → (o : Ordering) → compare k q ≡ o
    → match_ordering o (line (replicate n k ++ ks) k ∷ map (line ks) (q ∷ qs)) (line_with q (count_of k (replicate n k ++ ks)) ∷ map (line ks) qs) (line ks q ∷ puts k (count_of k (replicate n k ++ ks)) (map (line ks) qs))
    ≡ map (line (replicate n k ++ ks)) (match_ordering o (k ∷ q ∷ qs) (q ∷ qs) (q ∷ insert k qs))
puts_case n k q ks qs h r Less e =
    ap (λ (ls : List ProfileLine). line (replicate n k ++ ks) k ∷ ls) (above_lines n k ks (q ∷ qs) (e, above_more k q (map (line ks) qs) e h.0))
puts_case n k q ks qs h r Equal e =
    let all = replicate n k ++ ks in
    let same = equal k q e in
    let here : line_with q (count_of k all) ≡ line all q = ap (λ (x : List ℕ). line_with q (count_of x all)) same in
    let behind : map (line ks) qs ≡ map (line all) qs = above_lines n k ks qs (subst (λ (x : List ℕ). Above x (map (line ks) qs)) (sym same) h.0) in
    ap (λ (l : ProfileLine). l ∷ map (line ks) qs) here ∙ ap (λ (ls : List ProfileLine). line all q ∷ ls) behind
puts_case n k q ks qs h r Greater e =
    let all = replicate n k ++ ks in
    let other : is_same q k ≡ false = ap is_eq (back k q e) in
    let here : line ks q ≡ line all q = ap (line_with q) (sym (many_other n k q ks other)) in
    ap (λ (l : ProfileLine). l ∷ puts k (count_of k all) (map (line ks) qs)) here ∙ ap (λ (ls : List ProfileLine). line all q ∷ ls) r

puts_lines : (n : ℕ) (k : List ℕ) (ks qs : List (List ℕ)) → Rising (map (line ks) qs) → puts k (count_of k (replicate n k ++ ks)) (map (line ks) qs) ≡ map (line (replicate n k ++ ks)) (insert k qs)
puts_lines n k ks [] h = refl
puts_lines n k ks (q ∷ qs) h = puts_case n k q ks qs h (puts_lines n k ks qs h.1) (compare k q) refl

-- ---- the count that is found
found_twice : (b : Bool) (v n m : ℕ) → (if b then v else n) ≡ (if b then v else (if b then m else n))
found_twice true v n m = refl
found_twice false v n m = refl

found_apart : (a b : Bool) (m v n : ℕ) → (a ≡ true → b ≡ true → ⊥) → (if a then m else (if b then v else n)) ≡ (if b then v else (if a then m else n))
found_apart true true m v n h = absurd (h refl refl)
found_apart true false m v n h = refl
found_apart false b m v n h = refl

found_case : (k j : List ℕ) (v : ℕ) (l : ProfileLine) (ls : List ProfileLine) → count_in k (puts j v ls) ≡ (if is_same k j then v else count_in k ls) → (o : Ordering) → compare j l.key ≡ o
    → count_in k (match_ordering o (line_with j v ∷ l ∷ ls) (line_with l.key v ∷ ls) (l ∷ puts j v ls)) ≡ (if is_same k j then v else count_in k (l ∷ ls))
found_case k j v l ls r Less e = refl
found_case k j v l ls r Equal e =
    let same = equal j l.key e in
    ap (λ (x : List ℕ). if is_same k x then v else count_in k ls) (sym same)
    ∙ found_twice (is_same k j) v (count_in k ls) l.count ∙ ap (λ (x : List ℕ). if is_same k j then v else (if is_same k x then l.count else count_in k ls)) same
found_case k j v l ls r Greater e =
    ap (λ (n : ℕ). if is_same k l.key then l.count else n) r
    ∙ found_apart (is_same k l.key) (is_same k j) l.count v (count_in k ls) (λ a b. not_both k j l.key a b e)

found_puts : (k j : List ℕ) (v : ℕ) (ls : List ProfileLine) → count_in k (puts j v ls) ≡ (if is_same k j then v else count_in k ls)
found_puts k j v [] = refl
found_puts k j v (l ∷ ls) = found_case k j v l ls (found_puts k j v ls) (compare j l.key) refl

pub lines_more : (k : List ℕ) (ks : List (List ℕ)) → lines (k ∷ ks) ≡ puts k (count_of k (k ∷ ks)) (lines ks)
lines_more k ks = sym (puts_lines 1 k ks (in_order ks) (in_order_rises ks ks))

counted_same : (k j : List ℕ) (ks : List (List ℕ)) (b : Bool) → is_same k j ≡ b → (if b then count_of j (j ∷ ks) else count_of k ks) ≡ (if b then suc (count_of k ks) else count_of k ks)
counted_same k j ks true e =
    once_more j ks ∙ ap (λ (x : List ℕ). suc (count_of x ks)) (sym (equal k j (same_is (compare k j) e)))
counted_same k j ks false e = refl

-- the count in the lines of these keys is their number
pub count_found : (k : List ℕ) (ks : List (List ℕ)) → count_in k (lines ks) ≡ count_of k ks
count_found k [] = refl
count_found k (j ∷ ks) =
    ap (count_in k) (lines_more j ks)
    ∙ (found_puts k j (count_of j (j ∷ ks)) (lines ks)
    ∙ (ap (λ (n : ℕ). if is_same k j then count_of j (j ∷ ks) else n) (count_found k ks)
    ∙ counted_same k j ks (is_same k j) refl))

turned : (a b : ℕ) → a + b ≡ b + a
turned a b = omega arith

-- and so a row more is put
pub row_puts : (n : ℕ) (k : List ℕ) (ks : List (List ℕ)) → lines (replicate (suc n) k ++ ks) ≡ puts k (count_in k (lines ks) + suc n) (lines ks)
row_puts n k ks =
    let all = replicate (suc n) k ++ ks in
    let count : count_of k all ≡ count_in k (lines ks) + suc n = many_same (suc n) k ks ∙ (turned (suc n) (count_of k ks) ∙ ap (λ (m : ℕ). m + suc n) (sym (count_found k ks))) in
    ap (map (line all)) (many_in_order n k ks)
    ∙ (sym (puts_lines (suc n) k ks (in_order ks) (in_order_rises ks ks))
    ∙ ap (λ (m : ℕ). puts k m (lines ks)) count)

-- ---- all counts together
above_none : (k : List ℕ) (ls : List ProfileLine) → Above k ls → count_in k ls ≡ 0
above_none k [] a = refl
above_none k (l ∷ ls) a = ap (λ (o : Ordering). if is_eq o then l.count else count_in k ls) a.0 ∙ above_none k ls a.1

into : (v t c : ℕ) → c ≡ 0 → v + t + c ≡ t + v
into v t c e = omega (arith, e)

changed : (v t c : ℕ) → v + t + c ≡ c + t + v
changed v t c = omega arith

behind : (l t p c v : ℕ) → p + c ≡ t + v → l + p + c ≡ l + t + v
behind l t p c v e = omega (arith, e)

total_case : (k : List ℕ) (v : ℕ) (l : ProfileLine) (ls : List ProfileLine) → Rising (l ∷ ls) → total (puts k v ls) + count_in k ls ≡ total ls + v → (o : Ordering) → compare k l.key ≡ o
    → total (match_ordering o (line_with k v ∷ l ∷ ls) (line_with l.key v ∷ ls) (l ∷ puts k v ls)) + count_in k (l ∷ ls) ≡ total (l ∷ ls) + v
total_case k v l ls h r Less e = into v (total (l ∷ ls)) (count_in k (l ∷ ls)) (above_none k (l ∷ ls) (e, above_more k l.key ls e h.0))
total_case k v l ls h r Equal e =
    ap (λ (o : Ordering). v + total ls + (if is_eq o then l.count else count_in k ls)) e ∙ changed v (total ls) l.count
total_case k v l ls h r Greater e =
    ap (λ (o : Ordering). l.count + total (puts k v ls) + (if is_eq o then l.count else count_in k ls)) e
    ∙ behind l.count (total ls) (total (puts k v ls)) (count_in k ls) v r

nothing_more : (v : ℕ) → v + 0 + 0 ≡ 0 + v
nothing_more v = omega arith

total_puts : (k : List ℕ) (v : ℕ) (ls : List ProfileLine) → Rising ls → total (puts k v ls) + count_in k ls ≡ total ls + v
total_puts k v [] h = nothing_more v
total_puts k v (l ∷ ls) h = total_case k v l ls h (total_puts k v ls h.1) (compare k l.key) refl

one_more : (a c t n : ℕ) → a + c ≡ t + suc c → t ≡ n → a ≡ suc n
one_more a c t n e f = omega (arith, e, f)

-- the counts of these keys are as many as the keys
pub total_is : (ks : List (List ℕ)) → total (lines ks) ≡ length ks
total_is [] = refl
total_is (k ∷ ks) =
    let c = count_of k ks in
    let found : count_in k (lines ks) ≡ c = count_found k ks in
    let count : count_of k (k ∷ ks) ≡ suc c = once_more k ks in
    let put : total (puts k (count_of k (k ∷ ks)) (lines ks)) + count_in k (lines ks) ≡ total (lines ks) + count_of k (k ∷ ks) = total_puts k (count_of k (k ∷ ks)) (lines ks) (in_order_rises ks ks) in
    let sum : total (lines (k ∷ ks)) + c ≡ total (lines ks) + suc c = ap (λ (ls : List ProfileLine). total ls + c) (lines_more k ks) ∙ (ap (λ (n : ℕ). total (puts k (count_of k (k ∷ ks)) (lines ks)) + n) (sym found) ∙ (put ∙ ap (λ (n : ℕ). total (lines ks) + n) count)) in
    one_more (total (lines (k ∷ ks))) c (total (lines ks)) (length ks) sum (total_is ks)
