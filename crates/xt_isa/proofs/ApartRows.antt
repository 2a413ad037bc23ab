-- Two rows differ in a bit that both masks have.
use Rattle.std.proofs.Common.{◌≡◌, ℕ, Bool, true, ◌&&◌, List, [], ◌∷◌, sym, ap, ◌∙◌, refl, eqb, bit_and, not}
use Rattle.std.proofs.lemmas.Nat.{and_comm, and_assoc}
use Rattle.std.proofs.lemmas.Bool.{eqb-true, eq-eqb, and_parts, and_from, not-true, both_ways}
use Rattle.xt_isa.specs.declared.Fields.{Fields}
use Rattle.xt_isa.specs.Spelling.{Row, nibble, agrees, fits, all_rows}
use Rattle.xt_isa.specs.Apart.{NeverBoth, AllRows, AreApart}

-- the two values agree where both masks look
abbrev same_at : Row → Row → ℕ → Bool
same_at a b k = eqb (bit_and (nibble b.mask k) (nibble a.value k)) (bit_and (nibble a.mask k) (nibble b.value k))

abbrev apart : Row → Row → Bool
apart a b = not (same_at a b 0 && (same_at a b 4 && (same_at a b 5 && (same_at a b 3 && (same_at a b 1 && same_at a b 2)))))

abbrev all_apart_from : Row → List Row → Bool
all_apart_from a [] = true
all_apart_from a (b ∷ rows) = apart a b && all_apart_from a rows

abbrev all_apart : List Row → Bool
all_apart [] = true
all_apart (a ∷ rows) = all_apart_from a rows && all_apart rows

same_value : (m n v x y : ℕ) → bit_and m x ≡ v → bit_and n x ≡ y → bit_and n v ≡ bit_and m y
same_value m n v x y p q =
    ap (bit_and n) (sym p) ∙ (sym (and_assoc x n m) ∙ (ap (λ z. bit_and z x) (and_comm n m) ∙ (and_assoc x m n ∙ ap (bit_and m) q)))

both_agree : (a b : Row) (k n : ℕ) → agrees a k n ≡ true → agrees b k n ≡ true → same_at a b k ≡ true
both_agree a b k n p q =
    eq-eqb _ _ (same_value (nibble a.mask k) (nibble b.mask k) (nibble a.value k) n (nibble b.value k) (eqb-true _ _ p) (eqb-true _ _ q))

pub record Agrees (pattern : Row) (w : Fields) : Type 0 where
  pub at0 : agrees pattern 0 w.op0 ≡ true
  pub at4 : agrees pattern 4 w.op1 ≡ true
  pub at5 : agrees pattern 5 w.op2 ≡ true
  pub at3 : agrees pattern 3 w.r ≡ true
  pub at1 : agrees pattern 1 w.t ≡ true
  pub at2 : agrees pattern 2 w.s ≡ true

pub agrees_all : (pattern : Row) (w : Fields) → fits pattern w ≡ true → Agrees pattern w
agrees_all pattern w h =
    let a = and_parts _ _ h in
    let b = and_parts _ _ a.1 in
    let c = and_parts _ _ b.1 in
    let d = and_parts _ _ c.1 in
    let e = and_parts _ _ d.1 in
    record { at0 = a.0; at4 = b.0; at5 = c.0; at3 = d.0; at1 = e.0; at2 = e.1 }

never_both : (a b : Row) → apart a b ≡ true → NeverBoth a b
never_both a b h w p q =
    let x = agrees_all a w p in
    let y = agrees_all b w q in
    let same = and_from _ _ (both_agree a b 0 w.op0 x.at0 y.at0) (and_from _ _ (both_agree a b 4 w.op1 x.at4 y.at4) (and_from _ _ (both_agree a b 5 w.op2 x.at5 y.at5) (and_from _ _ (both_agree a b 3 w.r x.at3 y.at3) (and_from _ _ (both_agree a b 1 w.t x.at1 y.at1) (both_agree a b 2 w.s x.at2 y.at2))))) in
    both_ways _ (not-true _ h) same

never_both_any : (a : Row) (rows : List Row) → all_apart_from a rows ≡ true → AllRows (NeverBoth a) rows
never_both_any a [] h = tt
never_both_any a (b ∷ rows) h =
    let parts = and_parts (apart a b) (all_apart_from a rows) h in
    (never_both a b parts.0, never_both_any a rows parts.1)

apart_from_test : (rows : List Row) → all_apart rows ≡ true → AreApart rows
apart_from_test [] h = tt
apart_from_test (a ∷ rows) h =
    let parts = and_parts (all_apart_from a rows) (all_apart rows) h in
    (never_both_any a rows parts.0, apart_from_test rows parts.1)

pub rows_apart : AreApart all_rows
unfolding all_rows
rows_apart = apart_from_test all_rows refl
