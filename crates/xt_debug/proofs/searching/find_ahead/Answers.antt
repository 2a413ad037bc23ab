use Rattle.std.proofs.Common.{suc, sym, subst}
use Rattle.std.specs.Option.{option_map}
use Rattle.xt_debug.specs.Runs.{Arrives}
use Rattle.xt_debug.specs.Searches.{first_step, hits, next_position}
use Rattle.xt_debug.specs.declared.targets.Target.{Target}
use Rattle.xt_debug.proofs.searching.find_ahead.Goals as goal

pub returns-in-Store : goal.returns-in-Store
returns-in-Store c =
    let s = c.args.replay.now in
    let F : Target → Type 0 = λ t. Arrives (next_position s.image s.run t s.position) s c.find_store.result c.find_store.new.replay in
    let H : Target → Type 0 = λ t. Arrives (option_map suc (first_step (hits s.image s.run t) s.run s.position)) s c.find_store.result c.find_store.new.replay in
    subst F (sym c.in-Store.is) (subst H c.in-Store.is c.find_store.ensures)
