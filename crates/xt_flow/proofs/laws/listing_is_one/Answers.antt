use Rattle.std.proofs.Common.{◌≡◌, ℕ, Bool, true, false, ◌↔◌, List, refl, sym, ap, ◌∙◌}
use mathlib.Core.Path.{fun_ext}
use Rattle.xt_image.specs.declared.image.Image.{Image}
use Rattle.xt_flow.specs.Printing.{IsMarked, Marks, text_by}
use Rattle.xt_flow.proofs.laws.listing_is_one.Goals as goal

-- tests that agree are one
one_test : (b d : Bool) (P : Type 0) → ((b ≡ true) ↔ P) → ((d ≡ true) ↔ P) → b ≡ d
one_test true true P x y = refl
one_test false false P x y = refl
one_test true false P x y = sym (y.1 (x.0 refl))
one_test false true P x y = x.1 (y.0 refl)

one_record : (starts other_starts words other_words : ℕ → Bool) → starts ≡ other_starts → words ≡ other_words
    → (let a : Marks = record { starts = starts; words = words } in a) ≡ (let b : Marks = record { starts = other_starts; words = other_words } in b)
one_record starts other_starts words other_words p q = λ i. record { starts = p i; words = q i }

one_mark : (image : Image) (vecbase entry1 : ℕ) (roots : List ℕ) (m n : Marks) → IsMarked image vecbase entry1 roots m → IsMarked image vecbase entry1 roots n → m ≡ n
one_mark image vecbase entry1 roots m n x y =
    one_record m.starts n.starts m.words n.words
    (fun_ext (λ a. one_test (m.starts a) (n.starts a) _ (x.starts a) (y.starts a)))
    (fun_ext (λ a. one_test (m.words a) (n.words a) _ (x.words a) (y.words a)))

pub returns : goal.returns
returns c = λ image vecbase entry1 roots s t one two.
    one.1.1 ∙ ap (λ m. text_by m image) (one_mark image vecbase entry1 roots one.0 two.0 one.1.0 two.1.0) ∙ sym two.1.1
