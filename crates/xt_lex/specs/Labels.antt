-- The labels of an assembly text ('profile').
use Rattle.std.specs.Prelude.{ℕ, ℤ, Bool, List, Option, find, slice_get, option_and_then}
use Rattle.std.specs.Option.{option_map}
use Rattle.std.specs.Str.{bytes_eq}
use Rattle.xt_lex.specs.declared.labels.Label.{Label}

-- the label has this name
abbrev pub is_named : List ℕ → Label → Bool
is_named name label = bytes_eq label.name name

-- the first label of a name
abbrev pub first_label : List ℕ → List Label → Option Label
first_label name labels = find (is_named name) labels

-- the address of a name: that of the first label that has it
unfoldable pub address_of : List ℕ → List Label → Option ℤ
address_of name labels = option_map (λ label. label.address) (first_label name labels)

-- the label at a place, where there is one
abbrev pub label_at : List Label → Option ℕ → Option Label
label_at labels place = option_and_then (λ p. slice_get labels p) place
