use Rattle.std.proofs.Common.{List, subst}
use Rattle.xt_elf.specs.declared.spans.Span.{Span}
use Rattle.xt_elf.specs.Spans.{AreInARow}
use Rattle.xt_elf.proofs.Rows.{row_apart, spans_moved}
use Rattle.xt_elf.proofs.spans.are_surely_apart.Goals as goal

pub returns : goal.returns
returns c = λ sure.
    let P : List Span → Type 0 = AreInARow in
    row_apart c.args.headers.now c.args.n c.sort_unstable_by_key.new.self.items
    (spans_moved c.args.headers.now c.args.n c.in_ok-spans.spans.items c.sort_unstable_by_key.new.self.items c.sort_unstable_by_key.ensures.permutation c.in_ok-spans.ensures)
    (subst P c.as_slice.ensures.value (c.are_in_a_row.ensures sure))
