use Rattle.std.proofs.Common.{ℕ, List, sym, subst}
use Rattle.xt_map.specs.declared.segment.Segment.{Segment}
use Rattle.xt_map.specs.Memory.{HasSizes, constant_byte}
use Rattle.xt_search.specs.Graphs.{IsAt, IsGraph}
use Rattle.xt_trace.specs.declared.options.Stack.{Stack}
use Rattle.xt_core.specs.Runs.{code_of, memory_of}
use Rattle.xt_judged.specs.Forgotten.{Leads}
use Rattle.xt_judged.specs.OwnJudges.{range_of}
use Rattle.xt_judged.specs.WatchedKept.{AreSettled}
use Rattle.xt_judged.specs.declared.watched.Watched.{Watched}
use Rattle.xt_judged.proofs.Every.{carried}
use Rattle.xt_judged.proofs.Whole.{all_are_whole}
use Rattle.xt_judged.proofs.WatchedWhole.{all_whole_apart}
use Rattle.xt_judged.proofs.apart.is_whole.Goals as goal

pub has_all-requires : goal.has_all-requires
has_all-requires c =
    let s = c.args.search.now in
    let t = s.machine.timed in
    let image = c.args.image.now in
    let o = c.args.options.now in
    let h = c.requires.search in
    let ps = s.machine.places.list.items in
    let ms = t.dead.masks.items in
    let here = subst (λ (k : Stack). IsGraph (Leads (code_of image) ms (range_of o.stack0) (range_of k) c.args.timed ps (memory_of image o)) s.graph) (sym h.stack1) h.graph in
    let both = subst (λ (k : Stack). IsGraph (Leads (code_of image) ms (range_of k) (range_of s.machine.stack1) c.args.timed ps (memory_of image o)) s.graph) (sym h.stack0) here in
    carried (λ k b m. IsGraph (Leads k ms (range_of s.machine.stack0) (range_of s.machine.stack1) b ps m) s.graph) image.segments t.code c.args.timed t.timed (memory_of image o) t.opening.contents (sym h.code) (sym h.is_timed) (sym h.opening) both

pub returns : goal.returns
returns c = λ e.
    let s = c.args.search.now in
    let t = s.machine.timed in
    let image = c.args.image.now in
    let o = c.args.options.now in
    let h = c.requires.search in
    let ps = s.machine.places.list.items in
    let settled = subst (λ (l : List Segment). (k : ℕ) (w : Watched) → IsAt s.graph.kept.items k w → AreSettled (constant_byte l) ps w) h.code (c.are_settled.ensures c.if-not-are_settled.false) in
    let sizes = subst HasSizes h.opening t.sizes in
    all_whole_apart image o c.args.timed c.requires.valid (c.are_apart.ensures c.if-not-are_apart.false) ps t.dead.masks.items s.graph h.first.0 h.first.1 h.graph (c.has_all.ensures.whole.0 e) settled sizes h.first.2 all_are_whole h.bytes c.requires.checked
