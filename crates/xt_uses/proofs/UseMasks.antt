-- The masks of the frames that have called, and the words of operands.
use Rattle.std.proofs.Common.{◌≡◌, ℕ, ◌*◌, ◌-◌, ◌<◌, ◌++◌, List, [], ◌∷◌, Option, Some, None, refl, ◌∙◌, ap, arith, length, take}
use Rattle.std.proofs.lemmas.List.{length-take-le}
use Rattle.xt_special.specs.Control.{special_of}
use Rattle.xt_rows.specs.Outcomes.{value_of}
use Rattle.xt_frames.specs.Frames.{FrameState}
use Rattle.xt_uses.specs.declared.masks.KeptMasks.{KeptMasks}
use Rattle.xt_uses.specs.UseState.{ValidityBits, UseState, special_word}
use Rattle.xt_uses.specs.UseStep.{bits_after_return}
use Rattle.xt_uses.specs.UseParts.{kept_mask, mask_of, newest_masks, without_first}

pub special_word_is : (s : UseState) (f : FrameState) (o : Option ℕ) (value mask : ℕ) → value ≡ value_of (special_of f.control) o → mask ≡ mask_of s.masks o → record { value = value; mask = mask } ≡ special_word s f o
special_word_is s f None value mask p q = cc
special_word_is s f (Some n) value mask p q = cc

abbrev restored : KeptMasks → List (List ℕ) → ValidityBits → ValidityBits
restored k rest m = record m { seen = take (4 * k.by) k.masks ++ take (16 - 4 * k.by) m.seen; kept = rest }

-- RETW puts back those of the newest caller
pub returned_newest : (k : KeptMasks) (kept : List (List ℕ)) (m : ValidityBits) → length k.masks ≡ 12 → k.by < 4 → newest_masks kept ≡ Some (kept_mask k) → bits_after_return kept m ≡ restored k (without_first kept) m
returned_newest k [] m wide few e = absurd cc
returned_newest k (x ∷ rest) m wide few e =
    let same : x ≡ kept_mask k = cc in
    let size : length (kept_mask k) ≡ 4 * k.by = length-take-le (4 * k.by) k.masks (omega (arith, wide, few)) in
    ap (λ (y : List ℕ). record m { seen = y ++ take (16 - length y) m.seen; kept = rest }) same
    ∙ ap (λ (n : ℕ). record m { seen = kept_mask k ++ take (16 - n) m.seen; kept = rest }) size

-- there is none in the opening frame
pub returned_none : (kept : List (List ℕ)) (m : ValidityBits) → newest_masks kept ≡ None → bits_after_return kept m ≡ m
returned_none [] m e = refl
returned_none (x ∷ rest) m e = absurd cc

-- the mask of a special register that is read
pub special_mask_is : (s : UseState) (f : FrameState) (o : Option ℕ) → (special_word s f o).mask ≡ mask_of s.masks o
special_mask_is s f None = refl
special_mask_is s f (Some n) = refl
