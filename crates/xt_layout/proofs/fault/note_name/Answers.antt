use Rattle.std.proofs.Common.{ap, ◌∙◌, sym, Bor, List, ℕ}
use Rattle.std.specs.Str.{bytes_eq}
use Rattle.std.proofs.lemmas.Map.Text.{is_eq-slice_cmp}
use Rattle.xt_layout.specs.Known.{has_name}
use Rattle.xt_layout.proofs.Naming.{name_by_order, named}
use Rattle.xt_layout.proofs.fault.note_name.Goals as goal

pub returns : goal.returns
returns c = λ q.
    let key : Bor (List ℕ) = record { ref_ptr = (0, 0); now = q } in
    named _ _ _ (bytes_eq c.args.placed.now.name q) (has_name c.args.names.now q)
    (sym (name_by_order c.insert.new.self.keys q) ∙ c.in_ok-insert.ensures.updates.0 key)
    (is_eq-slice_cmp c.as_slice.result.now q ∙ ap (λ name. bytes_eq name q) c.as_slice.ensures) (name_by_order c.args.names.now.keys q)
