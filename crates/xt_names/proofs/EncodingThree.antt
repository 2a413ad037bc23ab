-- The rows of three registers, each inverted and of its length.
use Rattle.std.proofs.Common.{refl}
use Rattle.xt_isa.specs.Apart.{AllRows}
use Rattle.xt_isa.specs.Spelling.{three_rows}
use Rattle.xt_isa.proofs.RowByRow.{◌▸◌}
use Rattle.xt_names.proofs.EncodingParts.{IsEncoded}
use Rattle.xt_names.proofs.EncodingFormats.{all_three}

pub three_encoded : AllRows IsEncoded three_rows
three_encoded =
    (all_three, λ w. refl) ▸  -- AND
    (all_three, λ w. refl) ▸  -- OR
    (all_three, λ w. refl) ▸  -- XOR
    (all_three, λ w. refl) ▸  -- ADD
    (all_three, λ w. refl) ▸  -- ADDX2
    (all_three, λ w. refl) ▸  -- ADDX4
    (all_three, λ w. refl) ▸  -- ADDX8
    (all_three, λ w. refl) ▸  -- SUB
    (all_three, λ w. refl) ▸  -- SUBX2
    (all_three, λ w. refl) ▸  -- SUBX4
    (all_three, λ w. refl) ▸  -- SUBX8
    (all_three, λ w. refl) ▸  -- SRC
    (all_three, λ w. refl) ▸  -- MUL16U
    (all_three, λ w. refl) ▸  -- MUL16S
    (all_three, λ w. refl) ▸  -- MULL
    (all_three, λ w. refl) ▸  -- MULUH
    (all_three, λ w. refl) ▸  -- MULSH
    (all_three, λ w. refl) ▸  -- QUOU
    (all_three, λ w. refl) ▸  -- QUOS
    (all_three, λ w. refl) ▸  -- REMU
    (all_three, λ w. refl) ▸  -- REMS
    (all_three, λ w. refl) ▸  -- MIN
    (all_three, λ w. refl) ▸  -- MAX
    (all_three, λ w. refl) ▸  -- MINU
    (all_three, λ w. refl) ▸  -- MAXU
    (all_three, λ w. refl) ▸  -- MOVEQZ
    (all_three, λ w. refl) ▸  -- MOVNEZ
    (all_three, λ w. refl) ▸  -- MOVLTZ
    (all_three, λ w. refl) ▸  -- MOVGEZ
    tt
