-- The value of an expression of the assembly language ('profile'): a sum of whole
-- numbers, which do not wrap.
use Rattle.std.specs.Prelude.{ℕ, ℤ, pos, ◌+ℤ◌, ◌-ℤ◌, ◌≤ℤ◌, ◌<ℤ◌, ◌^◌, Bool, if◌then◌else◌, List, []}
use Rattle.std.specs.Prelude.{◌∷◌, Option, Some, None, Result, Ok, Err, All}
use Rattle.std.specs.Option.{option_map}
use Rattle.xt_lex.specs.declared.expr.Term.{Term}
use Rattle.xt_lex.specs.declared.expr.TermValue.{TermValue}
use Rattle.xt_lex.specs.declared.expr.TermValue.TheVariants as value
use Rattle.xt_lex.specs.declared.labels.Label.{Label}
use Rattle.xt_lex.specs.Labels.{address_of}

-- a number, or the address of a label, where there is such a label
abbrev pub number_of : List Label → TermValue → Option ℤ
number_of labels (value.Number n) = Some (pos n)
number_of labels (value.Label name) = address_of name labels

abbrev pub with_sign : Bool → ℤ → ℤ
with_sign minus n = if minus then pos 0 -ℤ n else n

-- a term with its sign
abbrev pub term_value : List Label → Term → Option ℤ
term_value labels term = option_map (with_sign term.minus) (number_of labels term.value)

-- the sum of two values, where both are known
abbrev pub plus : Option ℤ → Option ℤ → Option ℤ
plus (Some a) (Some b) = Some (a +ℤ b)
plus _ _ = None

-- the sum of the terms, and none where a term is a label that is unknown
abbrev pub value_of : List Label → List Term → Option ℤ
value_of labels [] = Some (pos 0)
value_of labels (term ∷ terms) = plus (term_value labels term) (value_of labels terms)

-- the value, or 1, the number of the fault Unknown
abbrev pub value_or_unknown : Option ℤ → Result ℤ ℕ
value_or_unknown (Some v) = Ok v
value_or_unknown None = Err 1

-- an address is a whole number from 0 to 2^40 - 1
abbrev pub IsAddress : ℤ → Type 0
IsAddress a = (pos 0 ≤ℤ a) × (a <ℤ pos (2 ^ 40))

abbrev pub HaveAddresses : List Label → Type 0
HaveAddresses labels = All (λ (label : Label). IsAddress label.address) labels
