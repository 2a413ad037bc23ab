use Rattle.std.proofs.Common.{ℕ, Option, sym, ap, subst, arith}
use Rattle.xt_rows.specs.RowLaws.{IsRegister}
use Rattle.xt_rows.proofs.Registers.{names_registers, reads_registers}
use Rattle.xt_shadow.proofs.lookups.tested.Goals as goal

pub returns-clause-lookup : goal.returns-clause-lookup
returns-clause-lookup c = λ code at.
    let i = c.args.i in
    let P : Option ℕ × Option ℕ → Type 0 = λ r. IsRegister r.0 in
    let Q : Option ℕ × Option ℕ → Type 0 = λ r. IsRegister r.1 in
    let named = reads_registers i c.requires in
    let read = c.reads-first.ensures in
    record {
      fetched = (at, c.requires);
      tested = record {
        first = ap (λ (r : Option ℕ × Option ℕ). r.0) read;
        second = ap (λ (r : Option ℕ × Option ℕ). r.1) read;
        plain = c.is_plain.ensures;
      };
      first = subst P (sym read) named.0;
      second = subst Q (sym read) named.1;
      ahead = omega (arith, names_registers i c.requires, c.highest_register.ensures);
    }
