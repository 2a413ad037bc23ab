-- Words of which each bit is known.
use Rattle.std.proofs.Common.{◌≡◌, ℕ, zero, suc, ◌+◌, ◌-◌, ◌<◌, List, [], ◌∷◌}
use Rattle.std.proofs.Common.{ap, ◌∙◌, ⊎_elim, arith}
use Rattle.std.specs.List.{All}
use Rattle.std.proofs.lemmas.Bool.{cases_Bool, cond-false, cond-true}
use Rattle.std.proofs.lemmas.List.Elements.{All-head, All-tail}
use Rattle.xt_map.specs.declared.contents.MemoryContents.{MemoryContents}
use Rattle.xt_map.specs.Memory.{byte_at}
use Rattle.xt_map.specs.Serving.{number_at}
use Rattle.xt_search.specs.Changed.{ChangesState, contents_of}
use Rattle.xt_use_walk.specs.MaskedBytes.{is_byte}
use Rattle.xt_moments.specs.WorldLaws.{AreKnown}
use Rattle.xt_moment_search.specs.KnownCores.{known_byte}

-- each bit of the word at this address
abbrev pub IsKnownWord : (ℕ → ℕ) → ℕ → Type 0
IsKnownWord bytes a = (n : ℕ) → n < 4 → bytes (a + n) ≡ 255

pub all_known : (bytes : ℕ → ℕ) (ws : List ℕ) → All (IsKnownWord bytes) ws → AreKnown bytes ws
all_known bytes [] all = tt
all_known bytes (a ∷ ws) all =
    (All-head (IsKnownWord bytes) a ws all, all_known bytes ws (All-tail (IsKnownWord bytes) a ws all))

module _ (cleared : MemoryContents) (hidden : ChangesState) where
  abbrev byte : ℕ → ℕ
  byte a = byte_at (contents_of cleared hidden) a

  zero_known : (a : ℕ) → byte a ≡ 0 → known_byte cleared hidden a ≡ 255
  zero_known a e = ⊎_elim
      (λ is. cond-true (is_byte a) (255 - byte a) 255 is ∙ ap (λ (n : ℕ). 255 - n) e)
      (λ no. cond-false (is_byte a) (255 - byte a) 255 no)
      (cases_Bool (is_byte a))

  pub word_known : (a : ℕ) → number_at (contents_of cleared hidden) a 4 ≡ 0
      → IsKnownWord (known_byte cleared hidden) a
  word_known a e zero less =
      let at : a + 0 ≡ a = omega arith in
      let z : byte a ≡ 0 = omega (arith, e) in
      ap (known_byte cleared hidden) at ∙ zero_known a z
  word_known a e (suc zero) less =
      let z : byte (a + 1) ≡ 0 = omega (arith, e) in zero_known (a + 1) z
  word_known a e (suc (suc zero)) less =
      let at : a + 2 ≡ a + 1 + 1 = omega arith in
      let z : byte (a + 1 + 1) ≡ 0 = omega (arith, e) in
      ap (known_byte cleared hidden) at ∙ zero_known (a + 1 + 1) z
  word_known a e (suc (suc (suc zero))) less =
      let at : a + 3 ≡ a + 1 + 1 + 1 = omega arith in
      let z : byte (a + 1 + 1 + 1) ≡ 0 = omega (arith, e) in
      ap (known_byte cleared hidden) at ∙ zero_known (a + 1 + 1 + 1) z
  word_known a e (suc (suc (suc (suc n)))) less = absurd (omega (arith, less))
