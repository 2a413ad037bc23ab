-- The options and the entries of a recording, as they are written (this project's own format,
-- 'profile'; little-endian).
use Rattle.std.specs.Prelude.{ℕ, List, [], ◌∷◌, ◌++◌}
use Rattle.xt_map.specs.declared.access.Entry.{Entry}
use Rattle.xt_map.specs.declared.access.Kind.{Kind}
use Rattle.xt_map.specs.declared.access.Kind.TheVariants.{Load, Store, Cas}
use Rattle.xt_trace.specs.declared.options.Options.{Options}
use Rattle.xt_record.specs.Fields.{words}

abbrev pub options_bytes : Options → List ℕ
options_bytes o =
    words (o.turns0 ∷ o.turns1 ∷ o.entry1 ∷ o.vecbase ∷ o.stack0.lo ∷ o.stack0.hi ∷ o.stack1.lo
    ∷ o.stack1.hi ∷ [])

-- ---- entries

-- 0 is a load, 1 a store, 2 a compare-and-swap
abbrev pub kind_number : Kind → ℕ
kind_number Load = 0
kind_number (Store v) = 1
kind_number (Cas expected new) = 2

-- what is stored or expected, and what a compare-and-swap writes; a field that is not used is 0
abbrev pub first_operand : Kind → ℕ
first_operand Load = 0
first_operand (Store v) = v
first_operand (Cas expected new) = expected

abbrev pub second_operand : Kind → ℕ
second_operand Load = 0
second_operand (Store v) = 0
second_operand (Cas expected new) = new

unfoldable pub entry_bytes : Entry → List ℕ
entry_bytes e =
    e.core ∷ kind_number e.access.kind ∷ e.access.size ∷ 0 ∷ []
    ++ words
    (e.access.addr ∷ first_operand e.access.kind ∷ second_operand e.access.kind ∷ e.reply ∷ [])
