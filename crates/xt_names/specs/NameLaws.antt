-- States laws that are proved; nothing that a reader must believe.
use Rattle.std.specs.Prelude.{◌≡◌, ℕ, ◌-◌, ◌==◌, Bool, true, ◌&&◌, nat_le, List, length}
use Rattle.std.specs.Prelude.{slice_index, Some}
use Rattle.xt_isa.specs.declared.Insn.{Insn}
use Rattle.xt_isa.specs.Ranges.{in_range}
use Rattle.xt_names.specs.declared.mnemonic.Mnemonic.{Mnemonic}
use Rattle.xt_names.specs.Forms.{is_narrow}
use Rattle.xt_names.specs.Insns.{insn_of}
use Rattle.xt_names.specs.Names.{mnemonic_of, name_of}
use Rattle.xt_names.specs.InsnParts.{parts_of}

-- the name of a mnemonic is its own
abbrev pub IsFound : Mnemonic → Type 0
IsFound m = mnemonic_of (name_of m) ≡ Some m

-- a name whose last two bytes are `.n`
abbrev pub ends_in_n : List ℕ → Bool
ends_in_n name = nat_le 2 (length name)
    && (slice_index name (length name - 2) == 46 && slice_index name (length name - 1) == 110)

-- the mnemonics of 16 bits are those whose names end in `.n`
abbrev pub EndsInN : Mnemonic → Type 0
EndsInN m = is_narrow m ≡ ends_in_n (name_of m)

-- an instruction in range is that of its mnemonic and its operands
abbrev pub IsItsParts : Insn → Type 0
IsItsParts i = in_range i ≡ true → insn_of (parts_of i) ≡ i
