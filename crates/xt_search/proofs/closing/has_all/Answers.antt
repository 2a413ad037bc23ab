use Rattle.std.proofs.Common.{eqb-true}
use Rattle.xt_search.proofs.Endings.{whole_has_all}
use Rattle.xt_search.proofs.closing.has_all.Goals as goal

pub returns-clause-all : goal.returns-clause-all
returns-clause-all g c = λ same.
    whole_has_all (g.M.Machine.Leads c.args.machine.now) c.args.graph.now c.requires (let e = eqb-true c.len.result c.len-2.result same in cc)
