-- An instruction has one encoding: the word that spells it is found from the instruction alone.
use Rattle.std.proofs.Common.{◌≡◌, sym, subst, ◌∙◌}
use Rattle.xt_isa.specs.declared.Insn.{Insn}
use Rattle.xt_isa.specs.declared.Fields.{Fields}
use Rattle.xt_isa.specs.Apart.{AllRows}
use Rattle.xt_isa.specs.Spelling.{all_rows, boolean_rows, control_rows, density_rows, joined_rows, memory_rows, shift_rows, spelled_insn, system_rows, three_rows}
use Rattle.xt_names.specs.Encodings.{Encodes, HasOneEncoding}
use Rattle.xt_names.proofs.EncodingParts.{GivesBack, IsEncoded, encoded_joined, spell_inverts}
use Rattle.xt_names.proofs.EncodingWords.{fields_from}
use Rattle.xt_names.proofs.EncodingThree.{three_encoded}
use Rattle.xt_names.proofs.EncodingShift.{shift_encoded}
use Rattle.xt_names.proofs.EncodingMemory.{memory_encoded}
use Rattle.xt_names.proofs.EncodingControl.{control_encoded}
use Rattle.xt_names.proofs.EncodingSystem.{system_encoded}
use Rattle.xt_names.proofs.EncodingDensity.{density_encoded}
use Rattle.xt_names.proofs.EncodingBoolean.{boolean_encoded}

pub all_encoded : AllRows IsEncoded all_rows
unfolding all_rows
all_encoded =
    encoded_joined three_rows (joined_rows shift_rows (joined_rows memory_rows (joined_rows control_rows (joined_rows system_rows (joined_rows density_rows boolean_rows))))) three_encoded (
    encoded_joined shift_rows (joined_rows memory_rows (joined_rows control_rows (joined_rows system_rows (joined_rows density_rows boolean_rows)))) shift_encoded (
    encoded_joined memory_rows (joined_rows control_rows (joined_rows system_rows (joined_rows density_rows boolean_rows))) memory_encoded (
    encoded_joined control_rows (joined_rows system_rows (joined_rows density_rows boolean_rows)) control_encoded (
    encoded_joined system_rows (joined_rows density_rows boolean_rows) system_encoded (
    encoded_joined density_rows boolean_rows density_encoded boolean_encoded)))))

from : (i : Insn) (w : Fields) → Encodes w i → fields_from i ≡ w
unfolding spelled_insn
from i w e = subst (GivesBack w) e.0 (spell_inverts all_rows all_encoded w e.1 e.2)

pub one_encoding : (i : Insn) → HasOneEncoding i
one_encoding i v w p q = sym (from i v p) ∙ from i w q
