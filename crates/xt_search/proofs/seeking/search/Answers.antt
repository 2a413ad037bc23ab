use Rattle.xt_search.proofs.seeking.search.Goals as goal

pub go_on-requires : goal.go_on-requires
go_on-requires g c =
    let b = c.in_ok-graph.ensures in
    record { kept = b.kept; one = b.one; none = b.none; free = b.free }

pub returns : goal.returns
returns g c =
    let b = c.in_ok-graph.ensures in
    let s = c.in_ok-go_on.ensures in
    record {
      graph = s.kept.graph;
      distinct = s.kept.distinct;
      opens = s.more 0 c.args.opening b.opens;
      ended = s.ended;
      barred = s.barred;
      most = s.within;
    }
