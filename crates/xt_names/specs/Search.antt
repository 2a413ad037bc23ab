-- Carries a proof; nothing that a reader must believe.
-- The searches of names.
use Rattle.std.specs.Prelude.{Bool, ℕ, ◌+◌, ◌*◌, List, slice_index_or}
use Rattle.xt_isa.specs.Spelling.{can_exchange}
use Rattle.xt_names.specs.declared.special.SpecialWord.{SpecialWord}

-- what the table of special registers shows
abbrev pub shown_special : SpecialWord → List ℕ × ℕ
shown_special w = (w.name.now, w.number)

-- RSR, WSR and XSR all reach the register
abbrev pub is_exchanged : SpecialWord → Bool
is_exchanged w = can_exchange w.number

-- the first seven bytes of a name as a number, the first of them highest; 0
-- for each that is missing
abbrev pub byte : List ℕ → ℕ → ℕ
byte name k = slice_index_or name k 0

abbrev pub key : List ℕ → ℕ
key name = byte name 6 + 256 * (byte name 5 + 256 * (byte name 4 + 256 * (byte name 3
    + 256 * (byte name 2 + 256 * (byte name 1 + 256 * byte name 0)))))
