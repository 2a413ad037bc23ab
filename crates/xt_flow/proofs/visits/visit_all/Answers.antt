use Rattle.std.proofs.Common.{◌≡◌, ◌-◌, [], ◌∙◌, sym, ap, subst, take}
use mathlib.Core.List.{append-nil}
use Rattle.xt_flow.specs.FlowTables.{table_size, no_marks}
use Rattle.xt_flow.proofs.Reaching.{Going, begins, ends}
use Rattle.xt_flow.proofs.Steps.{visit_goes_on, visit_is_less}
use Rattle.xt_flow.proofs.visits.visit_all.Goals as goal

pub loop-at-init : goal.loop-at-init
loop-at-init c =
    let image = c.args.image.now in
    subst (λ s. Going image c.args.vecbase c.args.entry1 c.args.roots.now s c.in_ok-empty_table-2.field-0.items c.in_ok-pending.pending.items) (sym c.in_ok-empty_table.ensures)
    (subst (λ r. Going image c.args.vecbase c.args.entry1 c.args.roots.now (no_marks table_size) r c.in_ok-pending.pending.items) (sym c.in_ok-empty_table-2.ensures)
    (subst (λ p. Going image c.args.vecbase c.args.entry1 c.args.roots.now (no_marks table_size) (no_marks table_size) p) (sym c.in_ok-pending.ensures)
    (begins image c.args.vecbase c.args.entry1 c.args.roots.now)))

pub loop-at-smaller : goal.loop-at-smaller
loop-at-smaller c =
    visit_is_less c.args.image.now c.args.vecbase c.args.entry1 c.args.roots.now c.loop-at.visited.starts.items c.visit.new.visited.starts.items c.loop-at.visited.reads.items c.visit.new.visited.reads.items
    c.loop-at.pending.items c.pop.new.self.items c.visit.new.pending.items c.in-Some.at c.as_slice-segments.result.now
    c.requires.placed c.as_slice-segments.ensures c.in-Some.ensures.items c.in_ok-visit.ensures.starts c.in_ok-visit.ensures.reads c.in_ok-visit.ensures.pending c.loop-at.invariant

pub loop-at-preserved : goal.loop-at-preserved
loop-at-preserved c =
    visit_goes_on c.args.image.now c.args.vecbase c.args.entry1 c.args.roots.now c.loop-at.visited.starts.items c.visit.new.visited.starts.items c.loop-at.visited.reads.items c.visit.new.visited.reads.items
    c.loop-at.pending.items c.pop.new.self.items c.visit.new.pending.items c.in-Some.at c.as_slice-segments.result.now
    c.requires.placed c.as_slice-segments.ensures c.in-Some.ensures.items c.in_ok-visit.ensures.starts c.in_ok-visit.ensures.reads c.in_ok-visit.ensures.pending c.loop-at.invariant

pub returns : goal.returns
returns c =
    let none : c.loop-at.pending.items ≡ [] = c.in_default.ensures.items ∙ append-nil c.pop.new.self.items ∙ c.in_default.ensures.rest ∙ ap (λ n. take (n - 1) c.loop-at.pending.items) c.in_default.ensures.cases.0 in
    ends c.args.image.now c.args.vecbase c.args.entry1 c.args.roots.now c.loop-at.visited.starts.items c.loop-at.visited.reads.items (subst (Going c.args.image.now c.args.vecbase c.args.entry1 c.args.roots.now c.loop-at.visited.starts.items c.loop-at.visited.reads.items) none c.loop-at.invariant)
