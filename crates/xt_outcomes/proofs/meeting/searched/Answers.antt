use Rattle.std.specs.Prelude.{IfSome}
use Rattle.xt_search.specs.Graphs.{IsBarredAt, IsGraph}
use Rattle.xt_core.specs.Runs.{memory_of}
use Rattle.xt_outcomes.specs.KeptWorlds.{Leads, bars}
use Rattle.xt_outcomes.proofs.CodeBytes.{code_bytes}
use Rattle.xt_outcomes.proofs.Finding.{carried}
use Rattle.xt_outcomes.proofs.meeting.searched.Goals as goal

pub returns-clause-search : goal.returns-clause-search
returns-clause-search c =
    let t = c.args.machine.now in
    let g = c.in_ok-graph.graph in
    let image = c.args.image.now in
    let m = memory_of image c.args.options.now in
    record {
      bytes = code_bytes image c.requires.fits;
      code = c.requires.code;
      opening = c.requires.memory;
      graph =
          carried (λ k n. IsGraph (Leads k t.timed t.dead.masks.items t.places.list.items t.most_local n) g) t.code image.segments t.opening.contents m c.requires.code c.requires.memory c.in_ok-graph.ensures.graph;
      barred =
          carried (λ k n. IfSome g.barred (IsBarredAt (bars k t.timed t.dead.masks.items n) g.kept.items)) t.code image.segments t.opening.contents m c.requires.code c.requires.memory c.in_ok-graph.ensures.barred;
      first = (c.in_ok-opening.opening, c.in_ok-graph.ensures.opens, c.in_ok-opening.ensures.spot, c.in_ok-opening.ensures.lean);
      distinct = c.in_ok-graph.ensures.distinct;
    }
