use Rattle.std.proofs.Common.{not, ap, ◌∙◌, sym, Bor}
use Rattle.xt_lex.specs.declared.expr.Expr.{Expr}
use Rattle.xt_layout.specs.Pools.{same_terms}
use Rattle.xt_layout.specs.Seen.{has}
use Rattle.xt_layout.proofs.Alike.{noted, has_by_order, terms_alike}
use Rattle.xt_layout.proofs.placing.note.Goals as goal

pub returns-clause-new : goal.returns-clause-new
returns-clause-new c = c.in_ok-insert.ensures.added ∙ ap not (has_by_order c.args.seen.now.keys c.args.terms.now)

pub returns-clause-notes : goal.returns-clause-notes
returns-clause-notes c = λ q.
    let key : Bor Expr = record { ref_ptr = (0, 0); now = q } in
    noted _ _ _ (same_terms c.args.terms.now q) (has c.args.seen.now q)
    (sym (has_by_order c.insert.new.self.keys q) ∙ c.in_ok-insert.ensures.updates.0 key) (terms_alike c.args.terms.now q) (has_by_order c.args.seen.now.keys q)
