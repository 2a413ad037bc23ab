-- Bytes, one after another.
use Rattle.std.proofs.Common.{◌≡◌, ℕ, ◌≤◌, List, [], ◌∷◌, ◌++◌, length, take, refl, ap, ◌∙◌, append_assoc}
use Rattle.std.proofs.lemmas.List.{take_all}
use Rattle.std.specs.Prelude.{codes}
use Rattle.std.specs.List.{flat_map}
use Rattle.xt_word.specs.Hexadecimal.{hex2}
use Rattle.xt_flow.specs.Printing.{byte_list}

-- the bytes after the first, each after a comma and a space
abbrev pub after : List ℕ → List ℕ
after xs = flat_map (λ b. codes ", 0x" ++ hex2 b) xs

after-joined : (xs : List ℕ) → after xs ≡ flat_map (λ b. codes ", " ++ (codes "0x" ++ hex2 b)) xs
after-joined [] = refl
after-joined (x ∷ xs) = ap (λ rest. (codes ", 0x" ++ hex2 x) ++ rest) (after-joined xs)

-- the first byte, and those after it
pub joined : (old : List ℕ) (x : ℕ) (others : List ℕ) (k : ℕ) → length others ≤ k
    → ((old ++ codes "0x") ++ hex2 x) ++ after (take k others) ≡ old ++ byte_list (x ∷ others)
joined old x others k all =
    ap (λ xs. ((old ++ codes "0x") ++ hex2 x) ++ after xs) (take_all k others all)
    ∙ ap (λ rest. ((old ++ codes "0x") ++ hex2 x) ++ rest) (after-joined others)
    ∙ append_assoc (old ++ codes "0x") (hex2 x) (flat_map (λ b. codes ", " ++ (codes "0x" ++ hex2 b)) others)
    ∙ append_assoc old (codes "0x") (hex2 x ++ flat_map (λ b. codes ", " ++ (codes "0x" ++ hex2 b)) others)
