-- Operands after a mnemonic, one after another.
use Rattle.std.proofs.Common.{◌≡◌, ℕ, ◌≤◌, List, [], ◌∷◌, ◌++◌, length, take, map, refl, ap, ◌∙◌, append_assoc}
use Rattle.std.proofs.lemmas.List.{take_all}
use Rattle.std.specs.Prelude.{codes}
use Rattle.std.specs.List.{flat_map}
use Rattle.xt_disasm.specs.Listing.{arguments}
use Rattle.xt_disasm.specs.Operands.{operand_text}
use Rattle.xt_disasm.specs.declared.operand.Operand.{Operand}

-- the operands after the first, each after a comma and a space
abbrev pub behind : List Operand → List ℕ
behind xs = flat_map (λ o. codes ", " ++ operand_text o) xs

behind-map : (xs : List Operand) → behind xs ≡ flat_map (λ y. codes ", " ++ y) (map operand_text xs)
behind-map [] = refl
behind-map (x ∷ xs) = ap (λ rest. (codes ", " ++ operand_text x) ++ rest) (behind-map xs)

-- a space, the first operand, and those after it
pub joined : (old : List ℕ) (x : Operand) (others : List Operand) (k : ℕ) → length others ≤ k
    → ((old ++ codes " ") ++ operand_text x) ++ behind (take k others) ≡ old ++ arguments (map operand_text (x ∷ others))
joined old x others k all =
    ap (λ xs. ((old ++ codes " ") ++ operand_text x) ++ behind xs) (take_all k others all)
    ∙ ap (λ rest. ((old ++ codes " ") ++ operand_text x) ++ rest) (behind-map others)
    ∙ append_assoc (old ++ codes " ") (operand_text x) (flat_map (λ y. codes ", " ++ y) (map operand_text others))
    ∙ append_assoc old (codes " ") (operand_text x ++ flat_map (λ y. codes ", " ++ y) (map operand_text others))
