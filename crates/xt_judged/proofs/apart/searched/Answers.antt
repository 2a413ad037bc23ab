use Rattle.std.proofs.Common.{ℕ, subst}
use Rattle.xt_map.specs.Memory.{constant_byte}
use Rattle.xt_search.specs.Graphs.{IsGraph}
use Rattle.xt_core.specs.Runs.{memory_of}
use Rattle.xt_trace.specs.declared.options.Stack.{Stack}
use Rattle.xt_outcomes.proofs.CodeBytes.{code_bytes}
use Rattle.xt_judged.specs.Forgotten.{Leads}
use Rattle.xt_judged.specs.OwnJudges.{range_of}
use Rattle.xt_judged.proofs.Every.{carried}
use Rattle.xt_judged.proofs.Trees.{tree_of}
use Rattle.xt_judged.proofs.apart.searched.Goals as goal

pub returns-clause-search : goal.returns-clause-search
returns-clause-search c =
    let s = c.args.machine.now in
    let t = s.timed in
    let g = c.in_ok-graph.graph in
    let image = c.args.image.now in
    let o = c.args.options.now in
    let m = memory_of image o in
    let ps = s.places.list.items in
    let ms = t.dead.masks.items in
    let code : ℕ → ℕ = constant_byte t.code in
    let some = subst (λ (r : Stack). IsGraph (Leads code ms (range_of r) (range_of s.stack1) t.timed ps t.opening.contents) g) c.requires.stack0 c.in_ok-graph.ensures.graph in
    let both = subst (λ (r : Stack). IsGraph (Leads code ms (range_of o.stack0) (range_of r) t.timed ps t.opening.contents) g) c.requires.stack1 some in
    record {
      bytes = code_bytes image c.requires.fits;
      code = c.requires.code;
      opening = c.requires.memory;
      is_timed = c.requires.is_timed;
      stack0 = c.requires.stack0;
      stack1 = c.requires.stack1;
      graph = carried (λ k b n. IsGraph (Leads k ms (range_of o.stack0) (range_of o.stack1) b ps n) g) t.code image.segments t.timed c.args.timed t.opening.contents m c.requires.code c.requires.is_timed c.requires.memory both;
      first = (c.in_ok-opening.opening, c.in_ok-graph.ensures.opens, c.in_ok-opening.ensures);
    }

pub returns-clause-tree : goal.returns-clause-tree
returns-clause-tree c = tree_of _ c.in_ok-graph.graph c.in_ok-graph.ensures.graph
