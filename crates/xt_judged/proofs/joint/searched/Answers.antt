use Rattle.xt_search.specs.Graphs.{IsGraph}
use Rattle.xt_core.specs.Runs.{memory_of}
use Rattle.xt_outcomes.proofs.CodeBytes.{code_bytes}
use Rattle.xt_judged.specs.Kept.{Leads}
use Rattle.xt_judged.proofs.Every.{carried}
use Rattle.xt_judged.proofs.Trees.{tree_of}
use Rattle.xt_judged.proofs.joint.searched.Goals as goal

pub returns-clause-search : goal.returns-clause-search
returns-clause-search c =
    let s = c.args.machine.now in
    let t = s.timed in
    let g = c.in_ok-graph.graph in
    let image = c.args.image.now in
    let m = memory_of image c.args.options.now in
    record {
      bytes = code_bytes image c.requires.fits;
      code = c.requires.code;
      opening = c.requires.memory;
      is_timed = c.requires.is_timed;
      graph = carried (λ k b n. IsGraph (Leads k b s.most_alone n) g) t.code image.segments t.timed c.args.timed t.opening.contents m c.requires.code c.requires.is_timed c.requires.memory c.in_ok-graph.ensures.graph;
      first = (c.in_ok-opening.opening, c.in_ok-graph.ensures.opens, c.in_ok-opening.ensures);
    }

pub returns-clause-tree : goal.returns-clause-tree
returns-clause-tree c = tree_of _ c.in_ok-graph.graph c.in_ok-graph.ensures.graph
