use Rattle.std.proofs.Common.{sym, ap, ◌∙◌, subst}
use Rattle.xt_debug.specs.Grammar.{HasCore}
use Rattle.xt_debug.specs.Searches.{hits}
use Rattle.xt_debug.specs.declared.targets.Target.{Target}
use Rattle.xt_debug.proofs.searching.step_hits.Goals as goal

pub is_next-found-requires : goal.is_next-found-requires
is_next-found-requires c = subst HasCore c.in-Execution.is c.requires.core

pub returns-in-Store-clause-hits : goal.returns-in-Store-clause-hits
returns-in-Store-clause-hits c =
    let s = c.args.replay.now in
    c.step_stores.ensures.stores ∙ sym (ap (λ (t : Target). hits s.image s.run t s.position) c.in-Store.is)

pub returns-in-Execution-clause-hits : goal.returns-in-Execution-clause-hits
returns-in-Execution-clause-hits c =
    let s = c.args.replay.now in
    c.is_next-found.ensures ∙ sym (ap (λ (t : Target). hits s.image s.run t s.position) c.in-Execution.is)
