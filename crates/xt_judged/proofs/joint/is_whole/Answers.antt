use Rattle.std.proofs.Common.{sym}
use Rattle.xt_search.specs.Graphs.{HasAll, IsGraph}
use Rattle.xt_core.specs.Runs.{memory_of}
use Rattle.xt_judged.proofs.Whole.{all_are_whole}
use Rattle.xt_judged.specs.Kept.{Leads}
use Rattle.xt_judged.proofs.Every.{all_whole, carried}
use Rattle.xt_judged.proofs.joint.is_whole.Goals as goal

pub has_all-requires : goal.has_all-requires
has_all-requires c =
    let s = c.args.search.now in
    let t = s.machine.timed in
    let image = c.args.image.now in
    let h = c.requires.search in
    carried (λ k b n. IsGraph (Leads k b s.machine.most_alone n) s.graph) image.segments t.code c.args.timed t.timed (memory_of image c.args.options.now) t.opening.contents (sym h.code) (sym h.is_timed) (sym h.opening) h.graph

pub returns : goal.returns
returns c = λ e.
    let s = c.args.search.now in
    let t = s.machine.timed in
    let image = c.args.image.now in
    let o = c.args.options.now in
    let h = c.requires.search in
    let all = carried (λ k b n. HasAll (Leads k b s.machine.most_alone n) s.graph) t.code image.segments t.timed c.args.timed t.opening.contents (memory_of image o) h.code h.is_timed h.opening (c.has_all.ensures.all e) in
    all_whole image o c.args.timed s.machine.most_alone s.graph h.first.0 h.first.2 h.first.1 all (c.shows_some.ensures c.if-shows_some.false) all_are_whole h.bytes c.requires.checked
