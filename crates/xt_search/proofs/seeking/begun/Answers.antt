use Rattle.std.proofs.Common.{◌≡◌, None, ◌∷◌, ◌++◌, [], List, length, refl, sym, ap, ◌∙◌, subst}
use Rattle.xt_search.specs.declared.graph.Graph.{Graph}
use Rattle.xt_search.specs.declared.graph.Kept.{Kept}
use Rattle.xt_search.specs.Chains.{AreDistinct}
use Rattle.xt_search.specs.Graphs.{IsAt}
use Rattle.xt_search.proofs.Chaining.{distinct_one, none_kept, table_more}
use Rattle.xt_search.proofs.Numbers.{one_graph}
use Rattle.xt_search.proofs.seeking.begun.Goals as goal

pub returns : goal.returns
returns g c =
    let W = g.row.M-World.Denot in
    let x : Kept W = record { world = c.args.opening; from = 0; core = 0 } in
    let new : Graph W = record { kept = c.push.new.self; nexts = c.new-2.result; table = c.add.new.self; barred = None } in
    let kept : c.push.new.self.items ≡ x ∷ [] = c.in_ok-push.ensures.items ∙ ap (λ (l : List (Kept W)). l ++ x ∷ []) c.new-kept.ensures.items in
    let none = none_kept (g.M.Machine.IsMark c.args.machine.now) c.in_ok-table.table c.in_ok-table.ensures.many c.in_ok-table.ensures.none in
    record {
      kept = record {
        graph = one_graph (g.M.Machine.Leads c.args.machine.now) new x kept c.new-2.ensures.items;
        table = table_more (g.M.Machine.IsMark c.args.machine.now) c.in_ok-table.table c.add.new.self [] c.push.new.self.items x c.digest-digest.result none
            c.in_ok-add.ensures.many c.in_ok-add.ensures.chained c.digest-digest.ensures kept;
        distinct = subst (λ (l : List (Kept W)). AreDistinct (g.M.Machine.Same c.args.machine.now) l) (sym kept) (distinct_one (g.M.Machine.Same c.args.machine.now) x);
      };
      opens = subst (λ (l : List (Kept W)). IsAt l 0 c.args.opening) (sym kept) refl;
      one = ap length kept;
      none = ap length c.new-2.ensures.items;
      free = refl;
    }

pub add-requires-clause-many : goal.add-requires-clause-many
add-requires-clause-many g c = c.in_ok-table.ensures.many
