-- Bytes that stand in a list.
use Rattle.std.proofs.Common.{◌≡◌, ℕ, Bool, true, false, eqb, ◌||◌, ◌&&◌, List, [], ◌∷◌, ◌++◌, refl, sym, ap, ◌∙◌}
use Rattle.std.proofs.lemmas.Bool.{eqb-true, true≢false}
use Rattle.xt_judged.specs.Stales.{among}

or_past : (x y z : Bool) → (x || (y || z)) ≡ (y || (x || z))
or_past true true z = refl
or_past true false z = refl
or_past false true z = refl
or_past false false z = refl

or_assoc : (p q r : Bool) → (p || (q || r)) ≡ ((p || q) || r)
or_assoc true q r = refl
or_assoc false q r = refl

pub among_append : (xs ys : List ℕ) (a : ℕ) → among (xs ++ ys) a ≡ (among xs a || among ys a)
among_append [] ys a = refl
among_append (x ∷ xs) ys a = ap (λ (b : Bool). eqb x a || b) (among_append xs ys a) ∙ or_assoc (eqb x a) (among xs a) (among ys a)

-- a byte more among them
pub among_put : (xs ys : List ℕ) (b a : ℕ) → among (xs ++ (b ∷ ys)) a ≡ (eqb b a || among (xs ++ ys) a)
among_put [] ys b a = refl
among_put (x ∷ xs) ys b a = ap (λ (t : Bool). eqb x a || t) (among_put xs ys b a) ∙ or_past (eqb x a) (eqb b a) (among (xs ++ ys) a)

-- one that stands there already
pub among_there : (xs : List ℕ) (b a : ℕ) → among xs b ≡ true → among xs a ≡ (eqb b a || among xs a)
among_there xs b a h = by_test (eqb b a) refl
  where
    by_test : (t : Bool) → eqb b a ≡ t → among xs a ≡ (eqb b a || among xs a)
    by_test true e = ap (among xs) (sym (eqb-true b a e)) ∙ h ∙ sym (ap (λ (t : Bool). t || among xs a) e)
    by_test false e = sym (ap (λ (t : Bool). t || among xs a) e)

-- ---- a walk over a list that keeps those that pass a test: kept so far, the next, the rest

abbrev pub walked : (ℕ → Bool) → List ℕ → List ℕ → ℕ → Bool
walked test kept rest a = among kept a || (among rest a && test a)

kept : (k e r t : Bool) → (e ≡ true → t ≡ true) → ((k || (e || false)) || (r && t)) ≡ (k || ((e || r) && t))
kept true e r t h = refl
kept false true r true h = refl
kept false true r false h = absurd (true≢false (sym (h refl)))
kept false false r t h = refl

left : (k e r t : Bool) → (e ≡ true → t ≡ false) → (k || (r && t)) ≡ (k || ((e || r) && t))
left true e r t h = refl
left false true r true h = absurd (true≢false (h refl))
left false true true false h = refl
left false true false false h = refl
left false false r t h = refl

pub walked_kept : (test : ℕ → Bool) (xs : List ℕ) (b : ℕ) (rest : List ℕ) (a : ℕ) → test b ≡ true → walked test (xs ++ b ∷ []) rest a ≡ walked test xs (b ∷ rest) a
walked_kept test xs b rest a h =
    ap (λ (k : Bool). k || (among rest a && test a)) (among_append xs (b ∷ []) a)
    ∙ kept (among xs a) (eqb b a) (among rest a) (test a) (λ e. sym (ap test (eqb-true b a e)) ∙ h)

pub walked_left : (test : ℕ → Bool) (xs : List ℕ) (b : ℕ) (rest : List ℕ) (a : ℕ) → test b ≡ false → walked test xs rest a ≡ walked test xs (b ∷ rest) a
walked_left test xs b rest a h = left (among xs a) (eqb b a) (among rest a) (test a) (λ e. sym (ap test (eqb-true b a e)) ∙ h)

or_none : (b : Bool) → (b || false) ≡ b
or_none true = refl
or_none false = refl

pub walked_all : (test : ℕ → Bool) (xs : List ℕ) (a : ℕ) → walked test xs [] a ≡ among xs a
walked_all test xs a = or_none (among xs a)
