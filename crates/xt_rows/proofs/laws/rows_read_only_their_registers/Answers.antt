use Rattle.std.proofs.Common.{◌≡◌, ℕ, Option, Some, None, refl}
use Rattle.xt_special.specs.Control.{special_of}
use Rattle.xt_rows.specs.RowLaws.{AgreeAt}
use Rattle.xt_rows.specs.Operands.{reads, special_reads}
use Rattle.xt_rows.specs.Outcomes.{value_of}
use Rattle.xt_rows.proofs.laws.rows_read_only_their_registers.Goals as goal

same_value : (f g : ℕ → ℕ) (o : Option ℕ) → AgreeAt f g o → value_of f o ≡ value_of g o
same_value f g None h = refl
same_value f g (Some number) h = h

pub returns : goal.returns
returns g = λ code i f g c d values specials pc ps threadptr.
    let x = same_value f g (reads i).0 values.0 in
    let y = same_value f g (reads i).1 values.1 in
    let u = same_value (special_of c) (special_of d) (special_reads i).0 specials.0 in
    let v = same_value (special_of c) (special_of d) (special_reads i).1 specials.1 in
    cc
